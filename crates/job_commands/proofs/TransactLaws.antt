-- What a transaction makes of a block, by its working versions.
use Rattle.std.proofs.Common.{◌≡◌, ◌∙◌, ◌⊎◌, ⊎_elim, ℕ, ◌+◌, ◌-◌, ◌*◌, ◌/◌, ◌<◌, ◌≤◌, true, List, [], ◌∷◌, ◌++◌, length, take, Option, Some, None, Result, Ok, Err, refl, sym, ap, subst, arith, length-append}
use Rattle.std.specs.Prelude.{Contains, IsOk, unwrap_or}
use Rattle.std.specs.List.{AllByRecursion}
use Rattle.std.specs.List.Sorted.{IsStrictlySortedBy}
use Rattle.std.specs.Ordering.{nat_cmp}
use Rattle.std.proofs.lemmas.List.Sums.{fold-append, sum_by-cons}
use Rattle.std.proofs.lemmas.List.Elements.{Contains-append_left}
use Rattle.std.proofs.lemmas.Map.Keys.{sorted_from_strictly_increasing}
use Rattle.zone_model.specs.Names.{Name}
use Rattle.zone_model.specs.Versions.{Version, owner_of, apply, all_applied, Operation as Said}
use Rattle.zone_model.specs.Transactions.{Transaction, all_met, whole}
use Rattle.zone_model.specs.declared.Refusal.{Refusal}
use Rattle.trie_model.specs.Shape.{cells}
use Rattle.job_model.specs.declared.Ending.{Ending}
use Rattle.job_model.specs.declared.Ending.TheVariants as ending
use Rattle.job_model.specs.Sizes.{cell_count, cells_asked, trie_entries}
use Rattle.job_model.specs.Outcomes.{BoundsSets, BoundsVersions, Cause, Rule, Full, Spent, Causes, WhyFull, cells_kept, last_version}
use Rattle.report_laws.specs.Changes.{AllSaid}
use Rattle.report_laws.proofs.ChangeLemmas.{whole_dumped}
use Rattle.report_laws.proofs.ListLemmas.{all_up_to, older_rise}
use Rattle.shared_cells.specs.History.{StartsWith, IsPartOf, OpeningFits, entry_of, version_after}
use Rattle.shared_cells.specs.Views.{is_told, pass_of}
use Rattle.shared_cells.specs.Steps.{IsNamed}
use Rattle.qp_multi.specs.declared.meaning.Operation.{Operation}
use Rattle.qp_multi.specs.declared.writer.WorkingVersion.{WorkingVersion}
use Rattle.qp_multi.specs.declared.kept.Versions.{Versions}
use Rattle.qp_multi.specs.Operations.{applied}
use Rattle.qp_multi.specs.Passes.{Known, first_version, version_seen}
use Rattle.qp_multi.specs.WorkingVersions as working_versions
use Rattle.qp_multi.specs.WorkingVersions.{Begins, base_of, working_set}
use Rattle.qp_multi.specs.Fulls.{version_at}
use Rattle.qp_multi.specs.Fulls as fulls
use Rattle.qp_multi.specs.Keepings.{GoesOn, versions_in}
use Rattle.zone_edit.specs.Stores.{WorksOn, WorksOnSome}
use Rattle.zone_edit.specs.Ways.{MadeOnTheWay}
use Rattle.zone_edit.specs.Blocks.{EditsInOrder, Executes, IsFullAt}
use Rattle.zone_edit.proofs.ApplyLaws.{next_applied, taken}
use Rattle.trie_model.specs.Capacity.{is_roomy}
use Rattle.chunk_usage.specs.Keeping.{kept_versions}
use Rattle.pin_core.proofs.Lists.{contains_cases}
use Rattle.qp_multi.specs.Capacity.{BoundsHistory}
use Rattle.qp_multi.specs.Crowds.{BoundsWays}
use Rattle.qp_multi.proofs.GoesLaws.{base_goes_on}
use Rattle.chunk_usage.specs.declared.space.Shortage.{Shortage as Request}
use Rattle.zone_edit.specs.declared.refusal.EditRefusal.TheVariants as refusals
use Rattle.job_commands.specs.Histories.{OpenedWith, BeginsAt, Commit, Entries, IsLawful, StandsAs, AreVersions, Deeds, Explains, IsAsked, index_at, judged_by}
use Rattle.job_commands.specs.Commands.{Accepts, Commits, OpensAt}
use Rattle.job_commands.proofs.HistoryLaws.{begins_same, begins_length, begins_more, index_front, index_last, last_stands, opened_same, part_more}
use Rattle.job_commands.proofs.JobLaws.{here, there}
use Rattle.job_commands.proofs.ZoneLaws.{lawful_zone, opens_still}
use Rattle.job_commands.proofs.WorkLaws.{Own}

-- ---- a transaction that has begun

-- its working set is the base, which is a version
begun_on : (lawful : Entries → Entries → Type 0) (old : Known) (d : WorkingVersion) (version : Version) → Begins lawful old d → StandsAs (version_seen d.seat.place.me.0.seen) version → WorksOn d version
begun_on lawful old d version b stands = record {
  works = b.works;
  set = ap (applied (base_of d)) b.none_done ∙ sym stands.entries;
  valid = stands.valid;
}

pub begun_some : (old : Known) (d : WorkingVersion) → Begins IsLawful old d → WorksOnSome d
begun_some old d b = let z = b.joined.good.zone in record { version = z.version; on = begun_on IsLawful old d z.version b z.stands }

-- what an accepted block makes of a version of the zone is one too
pub lawful_block : (origin : Name) (asked : Transaction) (old : Known) (d e : WorkingVersion) → Begins IsLawful old d → is_told old.seen.opening ≡ true → OpensAt origin old → AllSaid origin asked → GoesOn d.seat.place.me.0 e.seat.place.me.0
    → ((version : Version) → WorksOn d version → Executes origin asked (Ok tt) version e) → IsLawful (first_version e.seat.place.me.0.seen) (working_set e)
lawful_block origin asked old d e b told opens said known becomes =
    let base : OpensAt origin d.seat.place.me.0 = opens_still origin old d.seat.place.me.0 told b.joined.grows opens in
    let z = lawful_zone origin (first_version d.seat.place.me.0.seen) (version_seen d.seat.place.me.0.seen) base b.joined.good in
    let made = becomes z.version (begun_on IsLawful old d z.version b z.stands) in
    record {
      origin = origin;
      begins = subst (λ (o : Option Entries). BeginsAt origin (unwrap_or o [])) (sym known.opening) base;
      zone = record { version = made.0; stands = record { valid = made.2.valid; entries = sym made.2.set }; zone = whole_dumped origin asked z.version made.0 made.1 z.zone said };
    }

-- ---- a commit's number

record CommitIn (history : List Commit) (x : Commit) : Type 0 where
  before : List Commit
  begins : StartsWith history (before ++ x ∷ [])

commit_in : (history : List Commit) (x : Commit) → Contains history x → CommitIn history x
commit_in [] x c = absurd (let l = c.1 in omega arith)
commit_in (y ∷ history) x c = ⊎_elim
    (λ (e : y ≡ x). record { before = []; begins = (history, ap (λ (z : Commit). z ∷ history) e) })
    (λ (more : Contains history x). further (commit_in history x more)) (contains_cases y x history c)
  where
    further : CommitIn history x → CommitIn (y ∷ history) x
    further r = record { before = y ∷ r.before; begins = (r.begins.0, ap (λ (h : List Commit). y ∷ h) r.begins.1) }

module _ (s : OpenedWith) (asked : Transaction) (old : Known) (d e : WorkingVersion) (b : Begins IsLawful old d) (told : is_told old.seen.opening ≡ true) (opening : first_version old.seen ≡ s.opening) (known : GoesOn d.seat.place.me.0 e.seat.place.me.0) where
  base_opening : first_version d.seat.place.me.0.seen ≡ s.opening
  base_opening = opened_same d.seat.place.me.0.seen old.seen told b.joined.grows ∙ opening

  works_at : (zone : Version) → StandsAs (version_after applied s.opening d.seat.place.me.0.seen.history) zone → WorksOn d zone
  works_at zone stands = begun_on IsLawful old d zone b (subst (λ (o : Entries). StandsAs (version_after applied o d.seat.place.me.0.seen.history) zone) (sym base_opening) stands)

  -- the pass has seen this much when the transaction is over
  grown : (new : Known) (more : List Commit) → new.seen.opening ≡ e.seat.place.me.0.seen.opening → new.seen.history ≡ e.seat.place.me.0.seen.history ++ more → StartsWith new.seen.namings e.seat.place.me.0.seen.namings → IsPartOf new.seen old.seen
  grown new more same longer names =
      part_more new.seen d.seat.place.me.0.seen old.seen told (record {
        opening = fits d.seat.place.me.0.seen.opening refl d.seat.told;
        history = (more, longer ∙ ap (λ (h : List Commit). h ++ more) known.history);
        namings = begins_more new.seen.namings e.seat.place.me.0.seen.namings d.seat.place.me.0.seen.namings names known.namings;
      }) b.joined.grows
    where
      fits : (o : Option Entries) → d.seat.place.me.0.seen.opening ≡ o → is_told o ≡ true → OpeningFits new.seen.opening d.seat.place.me.0.seen.opening d.seat.place.me.0.seen
      fits None is t = absurd cc
      fits (Some es) is t = subst (λ (o : Option Entries). OpeningFits new.seen.opening o d.seat.place.me.0.seen) (sym is) (same ∙ known.opening ∙ is)

  -- ---- committed

  -- what was done to the base
  base_set : base_of e ≡ version_after applied s.opening d.seat.place.me.0.seen.history
  base_set = base_goes_on known ∙ ap (λ (o : Entries). version_after applied o d.seat.place.me.0.seen.history) base_opening

  does_asked : EditsInOrder s.origin asked.operations (Executes s.origin asked (Ok tt)) d e → IsAsked s asked d.seat.place.me.0.seen.history e.log.operations
  does_asked r = record {
    short = (let few = r.edits.few in omega (arith, few, ap (λ (os : List Operation). length os) b.none_done));
    ways = λ zone stands n.
        let begun : length d.log.operations ≤ n = omega (arith, ap (λ (os : List Operation). length os) b.none_done) in
        subst (λ (es : Entries). MadeOnTheWay s.origin asked.operations zone (applied es (take n e.log.operations))) base_set (r.ways zone (works_at zone stands) n begun);
  }

  pub commits_block : (new : Known) → EditsInOrder s.origin asked.operations (Executes s.origin asked (Ok tt)) d e → working_versions.Commits e.seat.place.me.0 e.log.operations new → (own : Own) → old.pass ≡ Some own → Commits s asked own old new
  commits_block new r c own is =
      let mine : d.seat.place.me.0.pass ≡ Some own = b.joined.pass ∙ is in
      let both : ◌≡◌ {A = Option Own} (Some c.own) (Some own) = sym c.joined ∙ known.pass ∙ mine in
      let one : c.own ≡ own = cc in
      let history : new.seen.history ≡ d.seat.place.me.0.seen.history ++ entry_of own.number e.log.operations ∷ [] =
      c.history ∙ ap (λ (h : List Commit). h ++ entry_of c.own.number e.log.operations ∷ []) known.history ∙ ap (λ (o : Own). d.seat.place.me.0.seen.history ++ entry_of o.number e.log.operations ∷ []) one in
      record {
        base = d.seat.place.me.0.seen.history;
        changes = e.log.operations;
        before = b.joined.grows.history;
        mine = b.joined.commits own mine;
        does = does_asked r;
        history = history;
        pass = c.pass ∙ ap (λ (o : Own). Some (record o { entries = o.entries ++ entry_of o.number e.log.operations ∷ [] })) one;
        makes = λ zone stands.
            let made = r.edits.becomes zone (works_at zone stands) in
            let set : version_after applied s.opening new.seen.history ≡ working_set e =
            ap (version_after applied s.opening) history
            ∙ fold-append (λ (es : Entries) (x : Commit). applied es x.change) s.opening d.seat.place.me.0.seen.history (entry_of own.number e.log.operations ∷ [])
            ∙ ap (λ (o : Entries). applied (version_after applied o d.seat.place.me.0.seen.history) e.log.operations) (sym base_opening)
            ∙ ap (λ (o : Option Entries). applied (version_after applied (unwrap_or o []) d.seat.place.me.0.seen.history) e.log.operations) (sym known.opening)
            ∙ ap (λ (h : List Commit). applied (version_after applied (first_version e.seat.place.me.0.seen) h) e.log.operations) (sym known.history) in
            (made.0, made.1, record { valid = made.2.valid; entries = sym (set ∙ made.2.set) });
      }

  pub commits_grow : (new : Known) → working_versions.Commits e.seat.place.me.0 e.log.operations new → IsPartOf new.seen old.seen
  commits_grow new c = grown new (entry_of c.own.number e.log.operations ∷ []) c.opening c.history c.namings

  pub commits_version : (new : Known) (version : ℕ) → working_versions.Commits e.seat.place.me.0 e.log.operations new → version ≡ e.seat.version + 1 → version ≡ length new.seen.history
  commits_version new version c is =
      let long : length new.seen.history ≡ length e.seat.place.me.0.seen.history + 1 = ap length c.history ∙ length-append e.seat.place.me.0.seen.history (entry_of c.own.number e.log.operations ∷ []) in
      let here = e.seat.version_is in
      omega (arith, is, long, here)

  -- ---- back at the base

  module _ (new : Known) (back : new ≡ pass_of e.seat.place.me.0) where
    seen_back : new.seen ≡ e.seat.place.me.0.seen
    seen_back = ap (λ (v : Known). v.seen) back

    pub back_grows : IsPartOf new.seen old.seen
    back_grows = grown new [] (ap (λ (v : Known). v.seen.opening) back) (ap (λ (v : Known). v.seen.history) back ∙ sym (nil e.seat.place.me.0.seen.history))
        ([], ap (λ (v : Known). v.seen.namings) back ∙ sym (nil e.seat.place.me.0.seen.namings))
      where
        nil : {A : Type 0} (l : List A) → l ++ [] ≡ l
        nil [] = refl
        nil (x ∷ l) = ap (λ (m : List _). x ∷ m) (nil l)

    pub back_pass : new.pass ≡ old.pass
    back_pass = ap (λ (v : Known). v.pass) back ∙ known.pass ∙ b.joined.pass

    history_back : new.seen.history ≡ d.seat.place.me.0.seen.history
    history_back = ap (λ (v : Known). v.seen.history) back ∙ known.history

    pub back_version : (version : ℕ) → version ≡ length d.seat.place.me.0.seen.history → version ≡ length new.seen.history
    back_version version is = is ∙ sym (ap length history_back)

    opening_back : first_version new.seen ≡ s.opening
    opening_back = ap (λ (v : Known). first_version v.seen) back ∙ ap (λ (o : Option Entries). unwrap_or o []) known.opening ∙ base_opening

    -- a version that stands as what was seen last
    works_back : (zone : Version) → StandsAs (version_seen new.seen) zone → WorksOn d zone
    works_back zone stands = works_at zone (subst (λ (h : List Commit). StandsAs (version_after applied s.opening h) zone) history_back (subst (λ (o : Entries). StandsAs (version_after applied o new.seen.history) zone) opening_back stands))

    works_set : (set : ℕ → Version) (v : ℕ) → v ≡ length new.seen.history → AreVersions s new.seen.history set → WorksOn d (set v)
    works_set set v is are = works_at (set v) (subst (λ (h : List Commit). StandsAs (version_after applied s.opening h) (set v)) history_back (last_stands s new.seen.history new.seen.history set v (begins_same new.seen.history) is are))

    ok_of : (zone : Version) (r : Result Version Refusal) (next : Version) → r ≡ Ok next → IsOk r
    ok_of zone (Ok x) next h = refl
    ok_of zone (Err x) next h = cc

    pub rolled_back : (ends : Ending) → ends ≡ ending.Rollback → ((version : Version) → WorksOn d version → Executes s.origin asked (Ok tt) version e)
        → (ends ≡ ending.Rollback) × (new.pass ≡ old.pass) × ((zone : Version) → StandsAs (version_seen new.seen) zone → IsOk (whole s.origin asked zone))
    rolled_back ends is becomes = (is, back_pass, λ zone stands. (let made = becomes zone (works_back zone stands) in ok_of zone (whole s.origin asked zone) made.0 made.1))

    abbrev RefusedBlock : Ending → Cause → Type 0
    RefusedBlock ends cause = (new.pass ≡ old.pass)
        × ((set : ℕ → Version) (deeds : Deeds) → AreVersions s new.seen.history set → Explains s deeds new.seen → Causes (judged_by s set deeds) asked ends (length new.seen.history) cause)

    pub rule_broken : (ends : Ending) (refusal : Refusal) → ((version : Version) → WorksOn d version → Executes s.origin asked (Err (refusals.Refused refusal)) version e) → RefusedBlock ends (Rule refusal)
    rule_broken ends refusal becomes = (back_pass, λ set deeds are explains. becomes (set (length new.seen.history)) (works_set set (length new.seen.history) refl are))

    -- ---- want of memory

    accepted : (zone : Version) (front : List Said) (one : Said) (back : List Said) → all_met zone asked.needs ≡ true → asked.operations ≡ front ++ one ∷ back → (working next : Version) → all_applied s.origin front zone ≡ Ok working → apply s.origin one working ≡ Ok next → Accepts s.origin asked zone
    accepted zone front one back met all working next before accepts = record { met = met; front = front; one = one; back = back; all = all; next = next; made = next_applied s.origin front one zone working next before accepts }

    pub memory_wants : ((version : Version) → WorksOn d version → Executes s.origin asked (Err refusals.Memory) version e) → (zone : Version) → StandsAs (version_seen new.seen) zone → Accepts s.origin asked zone
    memory_wants becomes zone stands =
        let w = becomes zone (works_back zone stands) in accepted zone w.1.front w.1.wanted w.1.back w.0 w.1.all w.1.working w.1.next w.1.before w.1.accepted

    pub full_wants : (operation : ℕ) (request : Request) → ((version : Version) → WorksOn d version → Executes s.origin asked (Err (refusals.Full operation request)) version e) → (zone : Version) → StandsAs (version_seen new.seen) zone → Accepts s.origin asked zone
    full_wants operation request becomes zone stands =
        let w = becomes zone (works_back zone stands) in accepted zone w.1.front w.1.refused w.1.back w.0 w.1.all w.1.working w.1.next w.1.before w.1.accepted

    pub spent_block : (ends : Ending) → ends ≡ ending.Commit → e.seat.version ≡ last_version → ((version : Version) → WorksOn d version → Executes s.origin asked (Ok tt) version e) → RefusedBlock ends Spent
    spent_block ends is spent becomes = (
      back_pass,
      λ set deeds are explains.
          let made = becomes (set (length new.seen.history)) (works_set set (length new.seen.history) refl are) in
          (ap (λ (v : Known). length v.seen.history) back ∙ sym e.seat.version_is ∙ spent, is, ok_of (set (length new.seen.history)) (whole s.origin asked (set (length new.seen.history))) made.0 made.1),
    )

    -- ---- no room

    kept_cells : (set : ℕ → Version) → AreVersions s new.seen.history set → (numbers : List ℕ) → AllByRecursion (λ n. n ≤ length new.seen.history) numbers → fulls.cells_kept e.seat.place.me.0 numbers ≡ cells_kept set numbers
    kept_cells set are [] low = refl
    kept_cells set are (n ∷ numbers) low =
        let opening_e : first_version e.seat.place.me.0.seen ≡ s.opening = sym (ap (λ (v : Known). first_version v.seen) back) ∙ opening_back in
        let same : version_at e.seat.place.me.0 n ≡ trie_entries (set n) =
        ap (λ (o : Entries). version_after applied o (take n e.seat.place.me.0.seen.history)) opening_e
        ∙ ap (λ (h : List Commit). index_at s.opening h n) (sym (ap (λ (v : Known). v.seen.history) back)) ∙ sym (are n low.0).entries in
        sum_by-cons (λ (m : ℕ). cells (version_at e.seat.place.me.0 m)) n numbers
        ∙ ap (λ (es : Entries). cells es + fulls.cells_kept e.seat.place.me.0 numbers) same ∙ ap (λ (k : ℕ). cell_count (set n) + k) (kept_cells set are numbers low.1)

    -- numbers that bound the versions bound what was published
    bounds_of : (set : ℕ → Version) (deeds : Deeds) (most_cells most_operations : ℕ) → AreVersions s new.seen.history set → Explains s deeds new.seen → BoundsVersions (judged_by s set deeds) (length new.seen.history) most_cells most_operations → BoundsHistory most_cells most_operations new.seen
    bounds_of set deeds most_cells most_operations are explains bounds = record {
      versions = λ part begins.
          let le = begins_length new.seen.history part begins in
          let here : length part ≤ length part = omega arith in
          let same : version_after applied (first_version new.seen) part ≡ trie_entries (set (length part)) =
          ap (λ (es : Entries). version_after applied es part) opening_back ∙ sym (index_last s.opening part (length part) refl)
          ∙ sym (index_front s.opening new.seen.history part (length part) begins here) ∙ sym (are (length part) le).entries in
          subst (λ (es : Entries). cells es ≤ most_cells) (sym same) (bounds.cells (length part) le);
      commits = λ x inside.
          let at = commit_in new.seen.history x inside in
          let le = begins_length new.seen.history (at.before ++ x ∷ []) at.begins in
          let short = (explains.commits at.before x at.begins).short in
          let few = bounds.operations (length at.before + 1) (omega arith) (omega (arith, le, length-append at.before (x ∷ []))) in
          omega (arith, short, few);
    }

    -- ---- sets on the way

    -- cells that bound the sets of the versions up to the base bound those of what was published

    first_within : (set : ℕ → Version) (most : ℕ) → AreVersions s new.seen.history set → cell_count (set 0) ≤ most → cells (first_version new.seen) ≤ most
    first_within set most are le = subst (λ (es : Entries). cells es ≤ most) ((are 0 (omega arith)).entries ∙ sym opening_back) le

    ways_within : (set : ℕ → Version) (deeds : Deeds) (front : List Said) (most : ℕ) → AreVersions s new.seen.history set → Explains s deeds new.seen → BoundsSets (judged_by s set deeds) (length new.seen.history) front most
        → (part : List Commit) (x : Commit) → StartsWith new.seen.history (part ++ x ∷ []) → (n : ℕ) → cells (applied (version_after applied (first_version new.seen) part) (take n x.change)) ≤ most
    ways_within set deeds front most are explains bounds part x begins n =
        let le = begins_length new.seen.history (part ++ x ∷ []) begins in
        let here = last_stands s new.seen.history part set (length part) (begins_more new.seen.history (part ++ x ∷ []) part begins (x ∷ [], refl)) refl are in
        let m = (explains.commits part x begins).ways (set (length part)) here n in
        let same : applied (version_after applied (first_version new.seen) part) (take n x.change) ≡ trie_entries m.working =
        ap (λ (o : Entries). applied (version_after applied o part) (take n x.change)) opening_back ∙ m.entries in
        subst (λ (es : Entries). cells es ≤ most) (sym same) (bounds.ways (length part) (omega (arith, le, length-append part (x ∷ []))) m.front m.back m.all m.working m.made)

    -- those on the way of operations bound what these have done so far
    sets_within : (set : ℕ → Version) (deeds : Deeds) (front : List Said) (most : ℕ) → AreVersions s new.seen.history set → BoundsSets (judged_by s set deeds) (length new.seen.history) front most
        → ((version : Version) → WorksOn d version → (n : ℕ) → length d.log.operations ≤ n → MadeOnTheWay s.origin front version (applied (base_of e) (take n e.log.operations)))
        → (n : ℕ) → cells (applied (base_of e) (take n e.log.operations)) ≤ most
    sets_within set deeds front most are bounds ways n =
        let begun : length d.log.operations ≤ n = omega (arith, ap (λ (os : List Operation). length os) b.none_done) in
        let m = ways (set (length new.seen.history)) (works_set set (length new.seen.history) refl are) n begun in
        subst (λ (es : Entries). cells es ≤ most) (sym m.entries) (bounds.sets m.front m.back m.all m.working m.made)

    pub full_block : (ends : Ending) (operation : ℕ) (request : Request) (kept : Versions) → versions_in kept ≡ kept_versions e.usage → s.chunks ≡ length e.usage.given → s.passes ≡ e.seat.passes
        → EditsInOrder s.origin (take (operation - 1) asked.operations) (Executes s.origin asked (Err (refusals.Full operation request))) d e → RefusedBlock ends (Full operation (versions_in kept))
    full_block ends operation request kept told chunks passes r = (back_pass, λ set deeds are explains. cause set deeds are explains)
      where
        base_is : e.seat.version ≡ length new.seen.history
        base_is = e.seat.version_is ∙ sym (ap (λ (v : Known). length v.seen.history) back)

        cause : (set : ℕ → Version) (deeds : Deeds) → AreVersions s new.seen.history set → Explains s deeds new.seen → WhyFull (judged_by s set deeds) asked (length new.seen.history) operation (versions_in kept)
        cause set deeds are explains =
            let stopped = r.edits.becomes (set (length new.seen.history)) (works_set set (length new.seen.history) refl are) in
            let at = subst (IsFullAt e s.origin asked.operations (set (length new.seen.history)) operation request) (sym told) stopped.1 in
            let last : versions_in kept ≡ at.full.ends.0 ++ length new.seen.history ∷ [] = at.full.ends.1 ∙ ap (λ (n : ℕ). at.full.ends.0 ++ n ∷ []) base_is in
            let rising = sorted_from_strictly_increasing (versions_in kept) (λ k l. kept.rising k (k + 1) 0 (omega arith) l) in
            let below = (older_rise (length new.seen.history) at.full.ends.0 (subst (IsStrictlySortedBy nat_cmp) last rising)).1 in
            let low : AllByRecursion (λ n. n ≤ length new.seen.history) (versions_in kept) = subst (AllByRecursion (λ n. n ≤ length new.seen.history)) (sym last) (all_up_to (λ n. n ≤ length new.seen.history) (length new.seen.history) at.full.ends.0 (λ n l. l) below) in
            let many = at.full.many in
            let few = at.full.few in
            let same = kept_cells set are (versions_in kept) low in
            record {
              met = stopped.0;
              front = at.front;
              refused = at.refused;
              back = at.back;
              all = at.all;
              number = at.place;
              working = at.working;
              before = at.before;
              next = at.next;
              accepted = at.accepted;
              changes = at.changes;
              older = at.full.ends.0;
              base_last = last;
              older_shown = shown_all at.full.ends.0 (λ x c. subst (λ (l : List ℕ). Contains l x) (sym at.full.ends.1) (Contains-append_left at.full.ends.0 (e.seat.version ∷ []) x c)) below at.full.named;
              rising = rising;
              few = omega (arith, few, passes);
              full = subst (λ (n : ℕ). n - n / 4 - 8 ≤ cell_count at.working + cells_kept set (versions_in kept)) (sym chunks) (subst (λ (k : ℕ). length e.usage.given - length e.usage.given / 4 - 8 ≤ cell_count at.working + k) same many);
              cramped = λ most_cells most_operations bounds within roomy.
                  let place = at.place in
                  let fewer = r.edits.few in
                  let in_front = ap (λ (l : List Said). length l) (taken at.front at.refused at.back asked.operations operation at.all at.place) in
                  let none = ap (λ (os : List Operation). length os) b.none_done in
                  let history = bounds_of set deeds most_cells most_operations are explains bounds in
                  at.full.cramped most_cells most_operations
                  (record {
                    some = omega (arith, place, within);
                    history = subst (BoundsHistory most_cells most_operations) seen_back history;
                    operations = omega (arith, fewer, in_front, none, place, within);
                  })
                  (subst (λ (p : ℕ). is_roomy p most_cells most_operations (length e.usage.given)) passes (subst (is_roomy s.passes most_cells most_operations) chunks roomy));
              crowded = record {
                bound = λ most small some bounds.
                    let in_front = taken at.front at.refused at.back asked.operations operation at.all at.place in
                    let history : BoundsWays most new.seen = record { first = first_within set most are bounds.first; ways = ways_within set deeds at.front most are explains bounds } in
                    subst (λ (n : ℕ). n - n / 4 ≤ (length (versions_in kept) + 1) * (most / 257 + 9) + 1 + cells_asked (owner_of at.refused) at.working at.next / 769) (sym chunks)
                    (at.full.crowded most small (subst (λ (n : ℕ). 4 ≤ n) chunks some) (record {
                      history = subst (BoundsWays most) seen_back history;
                      work = sets_within set deeds at.front most are bounds (subst (λ (front : List Said). (version : Version) → WorksOn d version → (n : ℕ) → length d.log.operations ≤ n → MadeOnTheWay s.origin front version (applied (base_of e) (take n e.log.operations))) in_front r.ways);
                    }));
              };
            }
          where
            shown_all : (older : List ℕ) → ((x : ℕ) → Contains older x → Contains (versions_in kept) x) → AllByRecursion (λ x. x < length new.seen.history) older
                → ((v : ℕ) → Contains (versions_in kept) v → (v ≡ e.seat.version) ⊎ IsNamed e.seat.place.me.0 v) → AllByRecursion (Contains deeds.shown) older
            shown_all [] inside low named = tt
            shown_all (x ∷ older) inside low named = (
              ⊎_elim
                  (λ (same : x ≡ e.seat.version). absurd (let l = low.0 in omega (arith, same, base_is, l)))
                  (λ (n : IsNamed e.seat.place.me.0 x). subst (Contains deeds.shown) n.2 (explains.namings n.0 (subst (λ x. Contains x.namings n.0) (sym seen_back) n.1) (let l = low.0 in omega (arith, n.2, l))))
                  (named x (inside x (here x older))),
              shown_all older (λ y c. inside y (there x y older c)) low.1 named,
            )

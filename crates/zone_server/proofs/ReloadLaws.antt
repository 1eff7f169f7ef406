-- A transaction on the version that a pass had seen last, and what it makes of a zone that is exchanged.
use Rattle.std.proofs.Common.{◌≡◌, ◌≢◌, ◌∙◌, ℕ, ◌+◌, true, List, [], ◌∷◌, ◌++◌, length, take, Option, Some, None, Result, Ok, Err, IfOk, refl, sym, ap, subst, arith, append-nil, length-append}
use Rattle.std.specs.Prelude.{◌↔◌, IfErr, IfSome, IsErr, IsSomeAnd, unwrap_or}
use Rattle.std.proofs.lemmas.List.{take_all}
use Rattle.zone_model.specs.Names.{Name}
use Rattle.zone_model.specs.MasterFile.{Zone}
use Rattle.zone_model.specs.Transactions.{Transaction, whole}
use Rattle.zone_model.specs.Versions.{Version, Operation as Said}
use Rattle.zone_model.specs.declared.Refusal.{Refusal}
use Rattle.trie_model.specs.Keys.{Entry}
use Rattle.master_file.specs.Rows.{CanBeDumped}
use Rattle.job_model.specs.declared.Ending.TheVariants as ending
use Rattle.job_model.specs.Outcomes.{Refused, Full, last_version}
use Rattle.job_report.specs.Outcomes.{ended_view}
use Rattle.job_report.specs.declared.outcomes.Cause.TheVariants as cause
use Rattle.job_report.specs.declared.outcomes.Outcome.{Outcome}
use Rattle.job_report.specs.declared.outcomes.Told.{Told}
use Rattle.job_report.specs.declared.outcomes.Told.TheVariants as told
use Rattle.shared_cells.specs.declared.pass.PassSeat.{PassSeat}
use Rattle.shared_cells.specs.History.{IsPartOf, StartsWith, entry_of, version_after}
use Rattle.shared_cells.specs.Views.{is_told, with_pinned}
use Rattle.pin_core.specs.declared.version.Spent.{Spent as NoNumber}
use Rattle.chunk_usage.specs.Keeping.{kept_versions}
use Rattle.qp_multi.specs.declared.commit.Receipt.{Receipt}
use Rattle.qp_multi.specs.declared.writer.WorkingVersion.{WorkingVersion}
use Rattle.qp_multi.specs.declared.kept.Versions.{Versions}
use Rattle.qp_multi.specs.declared.meaning.Operation.{Operation}
use Rattle.qp_multi.specs.WorkingVersions as working_versions
use Rattle.qp_multi.specs.WorkingVersions.{Begins, IsBack, base_of, working_set}
use Rattle.qp_multi.specs.Keepings.{GoesOn, versions_in}
use Rattle.qp_multi.specs.Operations.{applied}
use Rattle.qp_multi.specs.Passes.{Known, first_version, known_at, version_seen}
use Rattle.qp_multi.proofs.WorkLaws.{Both, both}
use Rattle.zone_diff.specs.Blocks.{changes}
use Rattle.zone_diff.specs.Differences.{difference}
use Rattle.zone_diff.specs.declared.Serial.TheVariants.{Keep}
use Rattle.zone_diff.proofs.DifferenceLaws.{difference_makes, made_keep}
use Rattle.zone_edit.specs.Blocks.{Edited, EditsInOrder, Executes, done_of}
use Rattle.zone_edit.specs.Stores.{WorksOn}
use Rattle.zone_edit.specs.declared.refusal.EditRefusal.{EditRefusal}
use Rattle.zone_edit.specs.declared.refusal.EditRefusal.TheVariants as edit
use Rattle.job_commands.specs.Histories.{BeginsAt, Commit, Entries, IsLawful, IsZone, OpenedWith, StandsAs}
use Rattle.job_commands.specs.Commands.{BlockRan, OpensAt}
use Rattle.job_commands.proofs.BlockLaws.{committed_ran, full_ran}
use Rattle.job_commands.proofs.HistoryLaws.{begins_length, begins_same, opened_same, part_more, part_same}
use Rattle.job_commands.proofs.TransactLaws.{back_grows, back_pass, back_version, commits_block}
use Rattle.job_commands.proofs.ZoneLaws.{lawful_zone, opens_still}
use Rattle.zone_server.specs.Changes.{HappensIn, Ran}
use Rattle.zone_server.specs.Homes.{Served, opened_as}
use Rattle.zone_server.specs.Replies.{HasGrown, IsShown}
use Rattle.zone_server.specs.Reloads.{MadeNone, MakesZone, NoRule, RanOn, Reloading, Reloads, StopsReload, Took, commit_told, exchange}
use Rattle.zone_server.specs.Servings.{ServerKnown}
use Rattle.zone_server.specs.declared.reloading.ReloadRefusal.{ReloadRefusal}
use Rattle.zone_server.specs.declared.reloading.ReloadRefusal.TheVariants as refusal

abbrev Seat : Type 0
Seat = PassSeat (List Entry) (List Operation)

pub no_rule : (e : EditRefusal) → ((rule : Refusal) → e ≡ edit.Refused rule → ⊥) → NoRule e
no_rule edit.Memory h = tt
no_rule (edit.Refused rule) h = h rule refl
no_rule (edit.Full operation request) h = tt

nothing : {A : Type 0} (xs : List A) → length xs ≡ 0 → xs ≡ []
nothing [] e = refl
nothing (x ∷ xs) e = absurd (omega arith)

-- a list that is no longer than its beginning
all_of : {A : Type 0} (all part : List A) → StartsWith all part → length all ≡ length part → all ≡ part
all_of all part s e =
    s.1 ∙ ap (λ (r : List _). part ++ r) (nothing s.0 (let n = ap length s.1 in let m = length-append part s.0 in omega (arith, n, m, e))) ∙ append-nil part

one_more : (all part : List Commit) (x : Commit) → all ≡ part ++ x ∷ [] → length all ≡ length part + 1
one_more all part x e = ap length e ∙ length-append part (x ∷ [])

there : (P : WorkingVersion → Type 0) (o : Option WorkingVersion) (d : WorkingVersion) → o ≡ Some d → IfSome o P → P d
there P o d is h = subst (λ (x : Option WorkingVersion). IfSome x P) is h

-- ---- a transaction that has begun on the version that was seen last

module _ (origin : Name) (asked : Transaction) (old : Known) (heard : is_told old.seen.opening ≡ true) (number : ℕ) (makes : MakesZone origin asked old number) (first : Option WorkingVersion) (begins : IsSomeAnd first (Begins IsLawful old)) (base : ℕ) (at : IfSome first (λ d. base ≡ length d.seat.place.me.0.seen.history)) where
  -- no other commit came between
  base_history : (d : WorkingVersion) → first ≡ Some d → Begins IsLawful old d → base ≡ number → d.seat.place.me.0.seen.history ≡ old.seen.history
  base_history d is b unmoved =
      let here = there (λ d. base ≡ length d.seat.place.me.0.seen.history) first d is at in
      all_of d.seat.place.me.0.seen.history old.seen.history b.joined.grows.history (sym here ∙ unmoved ∙ makes.number_is)

  base_works : (d : WorkingVersion) → first ≡ Some d → Begins IsLawful old d → base ≡ number → WorksOn d makes.before
  base_works d is b unmoved = record {
    works = b.works;
    set =
        ap (applied (base_of d)) b.none_done ∙ ap (λ (o : Entries). version_after applied o d.seat.place.me.0.seen.history) (opened_same d.seat.place.me.0.seen old.seen heard b.joined.grows)
        ∙ ap (version_after applied (first_version old.seen)) (base_history d is b unmoved) ∙ sym makes.stands.entries;
    valid = makes.stands.valid;
  }

  module _ (second : Option WorkingVersion) (unmoved : base ≡ number) where
    abbrev EditedBy : Result (Unit {0}) EditRefusal → WorkingVersion → WorkingVersion → Type 0
    EditedBy r = EditsInOrder origin (done_of asked.operations r) (Executes origin asked r)

    -- no rule of zones refuses it
    pub never_refused : (e : EditRefusal) → Edited origin asked (Err e) first second → NoRule e
    never_refused edit.Memory edits = tt
    never_refused (edit.Full operation request) edits = tt
    never_refused (edit.Refused rule) edits =
        let x = both (Begins IsLawful old) (EditedBy (Err (edit.Refused rule))) first second begins edits in
        let refused : whole origin asked makes.before ≡ Err rule = x.related.edits.becomes makes.before (base_works x.before x.old_is x.met unmoved) in
        let made = makes.makes in cc

    -- the zone that it makes may be the next version
    pub makes_lawful : OpensAt origin old → Edited origin asked (Ok tt) first second → IsSomeAnd second (λ d. IsLawful (first_version d.seat.place.me.0.seen) (working_set d))
    makes_lawful opens edits =
        let x = both (Begins IsLawful old) (EditedBy (Ok tt)) first second begins edits in
        let made = x.related.edits.becomes makes.before (base_works x.before x.old_is x.met unmoved) in
        let same : made.0 ≡ makes.after = (let a = made.1 in let b = makes.makes in cc) in
        let works : WorksOn x.after makes.after = subst (WorksOn x.after) same made.2 in
        subst (λ (o : Option WorkingVersion). IsSomeAnd o (λ d. IsLawful (first_version d.seat.place.me.0.seen) (working_set d))) (sym x.new_is) (record {
          origin = origin;
          begins = subst (λ (o : Option Entries). BeginsAt origin (unwrap_or o [])) (sym x.related.edits.known.opening) (opens_still origin old x.before.seat.place.me.0 heard x.met.joined.grows opens);
          zone = record { version = makes.after; stands = record { valid = works.valid; entries = sym works.set }; zone = makes.zone };
        })

  -- ---- how it ended

  module _ (s : OpenedWith) (opening : first_version old.seen ≡ s.opening) (named : s.origin ≡ origin) (seat : Option Seat) where
    -- the pass is back as it was, with what the turn has seen
    none_made : (d e : WorkingVersion) → Begins IsLawful old d → GoesOn d.seat.place.me.0 e.seat.place.me.0 → IsBack e.seat.place.me.0 seat → MadeNone old (known_at seat)
    none_made d e b goes back = record {
      grows = back_grows s asked old d e b heard opening goes (known_at seat) back.1;
      pass = back_pass s asked old d e b heard opening goes (known_at seat) back.1;
    }

    -- it wasn't tried
    pub moved_on : base ≢ number → IfSome first (λ d. IsBack d.seat.place.me.0 seat) → RanOn s asked old (known_at seat) (Err refusal.Moved)
    moved_on moved back = by_working first refl begins
      where
        by_working : (o : Option WorkingVersion) → first ≡ o → IsSomeAnd o (Begins IsLawful old) → RanOn s asked old (known_at seat) (Err refusal.Moved)
        by_working None is b = absurd b
        by_working (Some d) is b =
            let here = there (λ d. IsBack d.seat.place.me.0 seat) first d is back in
            let goes : GoesOn d.seat.place.me.0 d.seat.place.me.0 = record { pass = refl; opening = refl; history = refl; namings = begins_same d.seat.place.me.0.seen.namings } in
            let base_is = there (λ d. base ≡ length d.seat.place.me.0.seen.history) first d is at in
            let last = back_version s asked old d d b heard opening goes (known_at seat) here.1 base base_is in
            let long = begins_length d.seat.place.me.0.seen.history old.seen.history b.joined.grows.history in
            let seen = makes.number_is in
            (none_made d d b goes here, omega (arith, last, base_is, long, seen, moved))

    module _ (second : Option WorkingVersion) (unmoved : base ≡ number) where
      abbrev Two : Result (Unit {0}) EditRefusal → Type 0
      Two r = Both (Begins IsLawful old) (EditsInOrder s.origin (done_of asked.operations r) (Executes s.origin asked r)) first second

      named_edits : (r : Result (Unit {0}) EditRefusal) → Edited origin asked r first second → Edited s.origin asked r first second
      named_edits r edits = subst (λ (o : Name). Edited o asked r first second) (sym named) edits

      two : (r : Result (Unit {0}) EditRefusal) → Edited origin asked r first second → Two r
      two r edits = both (Begins IsLawful old) (EditsInOrder s.origin (done_of asked.operations r) (Executes s.origin asked r)) first second begins (named_edits r edits)

      base_last : base ≡ length old.seen.history
      base_last = unmoved ∙ makes.number_is

      ran_as : (ended : Told) (version : ℕ) → BlockRan s asked ending.Commit old (known_at seat) (record { version = version; told = ended }) → Ran s asked old (known_at seat) version (ended_view ended)
      ran_as ended version b = record { grows = b.grows; version_is = b.version; transacts = b.transacts }

      pub committed_on : (r : Result Receipt NoNumber) → Edited origin asked (Ok tt) first second
          → IfOk r (λ _. IfSome second (λ d. working_versions.Commits d.seat.place.me.0 d.log.operations (known_at seat))) → IfOk r (λ t. IfSome second (λ d. t.version ≡ d.seat.version + 1))
          → IfErr r (λ _. IfSome second (λ d. IsBack d.seat.place.me.0 seat)) → IfSome second (λ d. IsErr r ↔ (d.seat.version ≡ last_version)) → IfErr r (λ t. IfSome second (λ d. t.version ≡ d.seat.version))
          → RanOn s asked old (known_at seat) (commit_told r)
      committed_on (Ok t) edits commits next back spent last =
          let x = two (Ok tt) edits in
          let c = there (λ d. working_versions.Commits d.seat.place.me.0 d.log.operations (known_at seat)) second x.after x.new_is commits in
          let n = there (λ d. t.version ≡ d.seat.version + 1) second x.after x.new_is next in
          let own : old.pass ≡ Some c.own = sym x.met.joined.pass ∙ sym x.related.edits.known.pass ∙ c.joined in
          let block = commits_block s asked old x.before x.after x.met heard opening x.related.edits.known (known_at seat) x.related c c.own own in
          let is = x.after.seat.version_is ∙ ap length x.related.edits.known.history ∙ ap length (base_history x.before x.old_is x.met unmoved) in
          let long = one_more (known_at seat).seen.history x.after.seat.place.me.0.seen.history (entry_of c.own.number x.after.log.operations) c.history in
          let one = one_more (known_at seat).seen.history block.base (entry_of c.own.number block.changes) block.history in
          let seen = ap length x.related.edits.known.history ∙ ap length (base_history x.before x.old_is x.met unmoved) in
          let base_is : block.base ≡ old.seen.history = all_of block.base old.seen.history block.before (omega (arith, long, one, seen)) in
          record {
            ran = ran_as told.Committed t.version (committed_ran s asked ending.Commit old (record { version = t.version; told = told.Committed }) first second heard opening begins seat (Ok t) (named_edits (Ok tt) edits) refl commits next back spent last (refl, refl) tt);
            next = omega (arith, n, is);
            makes = λ before stands. block.makes before (subst (λ (h : List Commit). StandsAs (version_after applied s.opening h) before) (sym base_is) stands);
          }
      committed_on (Err t) edits commits next back spent last =
          let x = two (Ok tt) edits in
          let n = there (λ d. t.version ≡ d.seat.version) second x.after x.new_is last in
          let is = x.after.seat.version_is ∙ ap length x.related.edits.known.history ∙ ap length (base_history x.before x.old_is x.met unmoved) in
          record {
            ran = ran_as (told.Refused cause.Spent) t.version (committed_ran s asked ending.Commit old (record { version = t.version; told = told.Refused cause.Spent }) first second heard opening begins seat (Err t) (named_edits (Ok tt) edits) refl commits next back spent last tt (refl, refl));
            last = n ∙ is;
          }

      -- ---- it stopped

      module _ (back : IfSome second (λ d. IsBack d.seat.place.me.0 seat)) where
        wanting : (e : EditRefusal) → Edited origin asked (Err e) first second → MadeNone old (known_at seat)
        wanting e edits =
            let x = two (Err e) edits in
            none_made x.before x.after x.met x.related.edits.known (there (λ d. IsBack d.seat.place.me.0 seat) second x.after x.new_is back)

        module _ (kept : Versions) (listed : IfSome second (λ d. versions_in kept ≡ kept_versions d.usage)) (chunks : IfSome second (λ d. s.chunks ≡ length d.usage.given)) (passes : IfSome first (λ d. s.passes ≡ d.seat.passes)) where
          pub stopped_on : (e : EditRefusal) → Edited origin asked (Err e) first second → (r : ReloadRefusal) → StopsReload e (versions_in kept) base r → RanOn s asked old (known_at seat) (Err r)
          stopped_on (edit.Refused rule) edits r stops = absurd stops
          stopped_on edit.Memory edits r stops = subst (λ (x : ReloadRefusal). RanOn s asked old (known_at seat) (Err x)) (sym stops) (wanting edit.Memory edits)
          stopped_on (edit.Full operation request) edits (refusal.Full version number list) stops =
              let o : Outcome = record { version = version; told = told.Refused (cause.Full number list) } in
              let ended : ended_view o.told ≡ Refused (Full operation (versions_in kept)) =
              ap (λ (n : ℕ). Refused (Full n list.items)) stops.1 ∙ ap (λ (l : List ℕ). Refused (Full operation l)) stops.2 in
              record {
                ran = ran_as o.told version (full_ran s asked ending.Commit old o first second heard opening begins seat base back at stops.0 operation request kept listed (named_edits (Err (edit.Full operation request)) edits) chunks passes ended);
                last = stops.0 ∙ base_last;
              }
          stopped_on (edit.Full operation request) edits refusal.Memory stops = wanting (edit.Full operation request) edits
          stopped_on (edit.Full operation request) edits refusal.NoZone stops = absurd cc
          stopped_on (edit.Full operation request) edits refusal.Moved stops = absurd cc
          stopped_on (edit.Full operation request) edits (refusal.Spent version) stops = absurd cc

-- ---- a zone that is exchanged

pub ok_is : {T E : Type 0} (P : T → Type 0) (r : Result T E) (x : T) → r ≡ Ok x → IfOk r P → P x
ok_is P r x is h = subst (λ (r : Result _ _). IfOk r P) is h

pub ran_grows : (s : OpenedWith) (asked : Transaction) (old new : Known) (r : Result ℕ ReloadRefusal) → RanOn s asked old new r → IsPartOf new.seen old.seen
ran_grows s asked old new (Ok version) ran = ran.ran.grows
ran_grows s asked old new (Err refusal.NoZone) ran = absurd ran
ran_grows s asked old new (Err refusal.Moved) ran = ran.0.grows
ran_grows s asked old new (Err (refusal.Full version operation kept)) ran = ran.ran.grows
ran_grows s asked old new (Err (refusal.Spent version)) ran = ran.ran.grows
ran_grows s asked old new (Err refusal.Memory) ran = ran.grows

module _ (origin : Name) (zone : Version) (can : CanBeDumped origin zone) (old looked : Known) (heard : is_told old.seen.opening ≡ true) (opens : OpensAt origin old) (tells : Version → Type 0) (number : ℕ) (shown : IsShown tells old looked number) where
  pub looked_opens : OpensAt origin looked
  looked_opens = opens_still origin old looked heard shown.grows opens

  abbrev pub looked_zone : IsZone origin (version_seen looked.seen)
  looked_zone = lawful_zone origin (first_version looked.seen) (version_seen looked.seen) looked_opens shown.lawful

  abbrev pub before : Version
  before = looked_zone.version

  makes_it : whole origin (exchange before zone) before ≡ Ok zone
  makes_it = difference_makes Keep origin before zone looked_zone.zone can ∙ ap (λ (v : Version). Ok v) (made_keep origin before zone looked_zone.zone can)

  makes_zone : MakesZone origin (exchange before zone) looked number
  makes_zone = record {
    number_is = shown.version_is;
    before = before;
    stands = looked_zone.stands;
    after = zone;
    makes = makes_it;
    zone = can;
  }

  pub tells_before : tells before
  tells_before = shown.tells_of before looked_zone.stands

  -- by whichever operations these are
  pub makes_by : (operations : List Said) → operations ≡ difference Keep before zone → MakesZone origin (changes operations) looked number
  makes_by operations is = subst (λ (l : List Said). MakesZone origin (changes l) looked number) (sym is) makes_zone

  module _ (s : OpenedWith) (named : s.origin ≡ origin) (opening : first_version old.seen ≡ s.opening) where
    pub looked_opening : first_version looked.seen ≡ s.opening
    looked_opening = opened_same looked.seen old.seen heard shown.grows ∙ opening

    looked_was : StandsAs (version_after applied s.opening looked.seen.history) before
    looked_was = subst (λ (o : Entries). StandsAs (version_after applied o looked.seen.history) before) looked_opening looked_zone.stands

    was_after : StandsAs (version_after applied s.opening (take (length looked.seen.history) looked.seen.history)) before
    was_after = subst (λ (h : List Commit). StandsAs (version_after applied s.opening h) before) (sym (take_all (length looked.seen.history) looked.seen.history (omega arith))) looked_was

    took : Took old looked
    took = record { grows = shown.grows; pass = shown.pass ∙ ap (with_pinned old.pass) shown.version_is }

    is_zone : (new : Known) (r : Result ℕ ReloadRefusal) → RanOn s (exchange before zone) looked new r → IfOk r (λ version. StandsAs (version_after applied s.opening (take version new.seen.history)) zone)
    is_zone new (Err e) ran = tt
    is_zone new (Ok version) ran =
        let made = ran.makes before looked_was in
        let it : whole s.origin (exchange before zone) before ≡ Ok zone = subst (λ (o : Name). whole o (exchange before zone) before ≡ Ok zone) (sym named) makes_it in
        let same : made.0 ≡ zone = (let a = made.1 in cc) in
        subst (λ (h : List Commit). StandsAs (version_after applied s.opening h) zone) (sym (take_all version new.seen.history (let v = ran.ran.version_is in omega (arith, v))))
        (subst (StandsAs (version_after applied s.opening new.seen.history)) same made.2)

    pub reloading : (new : Known) (r : Result ℕ ReloadRefusal) → RanOn s (exchange before zone) looked new r → Reloading s zone old new r
    reloading new r ran = record { looked = looked; took = took; before = before; was = was_after; ran = ran; is_zone = is_zone new r ran }

    pub reloading_by : (operations : List Said) → operations ≡ difference Keep before zone → (new : Known) (r : Result ℕ ReloadRefusal) → RanOn s (changes operations) looked new r → Reloading s zone old new r
    reloading_by operations is new r ran = reloading new r (subst (λ (l : List Said). RanOn s (changes l) looked new r) is ran)

    pub reloading_none : is_told looked.seen.opening ≡ true → Reloading s zone old looked (Err refusal.Memory)
    reloading_none heard_too = reloading looked (Err refusal.Memory) (record { grows = part_same looked.seen heard_too; pass = refl })

-- the pass has seen no less
pub reloading_grows : (s : OpenedWith) (zone : Version) (old new : Known) (r : Result ℕ ReloadRefusal) → is_told old.seen.opening ≡ true → Reloading s zone old new r → HasGrown old new
reloading_grows s zone old new r heard x =
    record { grows = part_more new.seen x.looked.seen old.seen heard (ran_grows s (exchange x.before zone) x.looked new r x.ran) x.took.grows }

pub reloads_as : (served : List Served) (zone : Zone) (old new : ServerKnown) (r : Result ℕ ReloadRefusal) → HappensIn served zone.origin (λ s v w. Reloading (opened_as s) zone.pairs v w r) old new → Reloads served zone old new r
reloads_as served zone old new (Ok version) h = h
reloads_as served zone old new (Err refusal.NoZone) h = absurd h.happened.ran
reloads_as served zone old new (Err refusal.Moved) h = h
reloads_as served zone old new (Err (refusal.Full version operation kept)) h = h
reloads_as served zone old new (Err (refusal.Spent version)) h = h
reloads_as served zone old new (Err refusal.Memory) h = h

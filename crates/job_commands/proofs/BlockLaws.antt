-- How a block ends, by what its transaction's calls say.
use Rattle.std.proofs.Common.{◌≡◌, ◌∙◌, Bool, true, ℕ, ◌+◌, ◌*◌, arith, List, Option, Some, None, Result, Ok, Err, IfOk, length, refl, sym, ap, subst}
use Rattle.std.specs.Prelude.{◌↔◌, OnErr, IsSomeAnd, IfSome, IfErr, IsErr, slice_get}
use Rattle.std.specs.Option.{ForSome}
use Rattle.atomic_table.specs.Seated.{TableId}
use Rattle.std.specs.declared.alloc.AllocError.{AllocError}
use Rattle.zone_model.specs.Names.{Name}
use Rattle.zone_model.specs.declared.Refusal.{Refusal}
use Rattle.zone_model.specs.Versions.{Version}
use Rattle.zone_model.specs.Transactions.{Transaction}
use Rattle.job_model.specs.declared.Ending.{Ending}
use Rattle.job_model.specs.declared.Ending.TheVariants as ending
use Rattle.job_model.specs.Outcomes.{Rule, Full, Spent, Ended, Committed, RolledBack, Refused, last_version}
use Rattle.job_report.specs.Outcomes.{ended_view}
use Rattle.job_report.specs.declared.outcomes.Outcome.{Outcome}
use Rattle.report_laws.specs.Changes.{AllSaid}
use Rattle.shared_cells.specs.declared.pass.PassSeat.{PassSeat}
use Rattle.shared_cells.specs.Views.{is_told, pass_of}
use Rattle.trie_model.specs.Keys.{Entry}
use Rattle.qp_multi.specs.declared.meaning.Operation.{Operation}
use Rattle.pin_core.specs.declared.version.Spent.{Spent as NoNumber}
use Rattle.qp_multi.specs.declared.commit.Receipt.{Receipt}
use Rattle.qp_multi.specs.declared.writer.WorkingVersion.{WorkingVersion}
use Rattle.qp_multi.specs.declared.kept.Versions.{Versions}
use Rattle.qp_multi.specs.Passes.{Known, first_version, known_at, version_seen}
use Rattle.qp_multi.specs.WorkingVersions as working_versions
use Rattle.qp_multi.specs.WorkingVersions.{Begins, IsBack, Works, working_set}
use Rattle.chunk_usage.specs.Keeping.{kept_versions}
use Rattle.qp_multi.specs.Keepings.{versions_in}
use Rattle.qp_multi.specs.Kinds.{StartsAs}
use Rattle.qp_multi.specs.Receipts.{Recycles}
use Rattle.zone_edit.specs.Stores.{WorksOnSome}
use Rattle.zone_edit.specs.Blocks.{Edited, EditsInOrder, Executes, done_of}
use Rattle.chunk_usage.specs.declared.space.Shortage.{Shortage as Request}
use Rattle.zone_edit.specs.declared.refusal.EditRefusal.{EditRefusal}
use Rattle.zone_edit.specs.declared.refusal.EditRefusal.TheVariants as refusals
use Rattle.qp_multi.proofs.WorkLaws.{Both, both}
use Rattle.zone_edit.proofs.EditLaws.{some_weaker}
use Rattle.zone_edit.proofs.WayLaws.{some_in_order}
use Rattle.job_commands.specs.Histories.{IsLawful, OpenedWith, StandsAs}
use Rattle.job_commands.specs.Weights.{CommittedAs, RanAs}
use Rattle.job_commands.specs.Commands.{Transacts, Accepts, BlockRan, BlockWants, OpensAt, StoppedBy}
use Rattle.job_commands.proofs.TransactLaws.{begun_some, lawful_block, commits_block, commits_grow, commits_version, back_grows, back_pass, back_version, memory_wants, full_wants, rolled_back, rule_broken, spent_block, full_block}

abbrev Seat : Type 0
Seat = PassSeat (List Entry) (List Operation)

abbrev EditedOne : Name → Transaction → Result (Unit {0}) EditRefusal → WorkingVersion → WorkingVersion → Type 0
EditedOne origin asked r = EditsInOrder origin (done_of asked.operations r) (Executes origin asked r)

there_is : (P : WorkingVersion → Type 0) (o : Option WorkingVersion) (d : WorkingVersion) → o ≡ Some d → IfSome o P → P d
there_is P o d is h = subst (λ (x : Option WorkingVersion). IfSome x P) is h

there_and : (P : WorkingVersion → Type 0) (o : Option WorkingVersion) (d : WorkingVersion) → o ≡ Some d → IsSomeAnd o P → P d
there_and P o d is h = subst (λ (x : Option WorkingVersion). IsSomeAnd x P) is h

module _ (s : OpenedWith) (asked : Transaction) (ends : Ending) (old : Known) (o : Outcome) (first second : Option WorkingVersion) (told : is_told old.seen.opening ≡ true) (opening : first_version old.seen ≡ s.opening) (begins : IsSomeAnd first (Begins IsLawful old)) where
  abbrev Done : Result (Unit {0}) EditRefusal → Type 0
  Done r = Edited s.origin asked r first second

  pub commit_ran : (new : Known) (version : ℕ) → Done (Ok tt) → ends ≡ ending.Commit → IfSome second (λ d. working_versions.Commits d.seat.place.me.0 d.log.operations new) → IfSome second (λ d. version ≡ d.seat.version + 1)
      → o.version ≡ version → ended_view o.told ≡ Committed → BlockRan s asked ends old new o
  commit_ran new version edits is commits next here said =
      let x = both (Begins IsLawful old) (EditedOne s.origin asked (Ok tt)) first second begins edits in
      let c = there_is (λ d. working_versions.Commits d.seat.place.me.0 d.log.operations new) second x.after x.new_is commits in
      let v = there_is (λ d. version ≡ d.seat.version + 1) second x.after x.new_is next in
      record {
        grows = commits_grow s asked old x.before x.after x.met told opening x.related.edits.known new c;
        version = here ∙ commits_version s asked old x.before x.after x.met told opening x.related.edits.known new version c v;
        transacts = subst (Transacts s asked ends old new) (sym said) (is, commits_block s asked old x.before x.after x.met told opening x.related.edits.known new x.related c);
      }

  -- the pass is back, and the block was on the base
  module _ (seat : Option Seat) (version : ℕ) (back : IfSome second (λ d. IsBack d.seat.place.me.0 seat)) (base : IfSome first (λ d. version ≡ length d.seat.place.me.0.seen.history)) (here : o.version ≡ version) where
    abbrev Two : Result (Unit {0}) EditRefusal → Type 0
    Two r = Both (Begins IsLawful old) (EditedOne s.origin asked r) first second

    two : (r : Result (Unit {0}) EditRefusal) → Done r → Two r
    two r edits = both (Begins IsLawful old) (EditedOne s.origin asked r) first second begins edits

    known_back : (r : Result (Unit {0}) EditRefusal) (x : Two r) → known_at seat ≡ pass_of x.after.seat.place.me.0
    known_back r x = (there_is (λ d. IsBack d.seat.place.me.0 seat) second x.after x.new_is back).1

    ran : (r : Result (Unit {0}) EditRefusal) (x : Two r) (e : Ended) → ended_view o.told ≡ e → Transacts s asked ends old (known_at seat) e → BlockRan s asked ends old (known_at seat) o
    ran r x e said t = record {
      grows = back_grows s asked old x.before x.after x.met told opening x.related.edits.known (known_at seat) (known_back r x);
      version = here ∙ back_version s asked old x.before x.after x.met told opening x.related.edits.known (known_at seat) (known_back r x) version (there_is (λ d. version ≡ length d.seat.place.me.0.seen.history) first x.before x.old_is base);
      transacts = subst (Transacts s asked ends old (known_at seat)) (sym said) t;
    }

    pub rollback_ran : Done (Ok tt) → ends ≡ ending.Rollback → ended_view o.told ≡ RolledBack → BlockRan s asked ends old (known_at seat) o
    rollback_ran edits is said =
        let x = two (Ok tt) edits in
        ran (Ok tt) x RolledBack said (rolled_back s asked old x.before x.after x.met told opening x.related.edits.known (known_at seat) (known_back (Ok tt) x) ends is x.related.edits.becomes)

    pub spent_ran : Done (Ok tt) → ends ≡ ending.Commit → IfSome second (λ d. d.seat.version ≡ last_version) → ended_view o.told ≡ Refused Spent → BlockRan s asked ends old (known_at seat) o
    spent_ran edits is spent said =
        let x = two (Ok tt) edits in
        ran (Ok tt) x (Refused Spent) said (spent_block s asked old x.before x.after x.met told opening x.related.edits.known (known_at seat) (known_back (Ok tt) x) ends is (there_is (λ d. d.seat.version ≡ last_version) second x.after x.new_is spent) x.related.edits.becomes)

    pub refused_ran : (refusal : Refusal) → Done (Err (refusals.Refused refusal)) → ended_view o.told ≡ Refused (Rule refusal) → BlockRan s asked ends old (known_at seat) o
    refused_ran refusal edits said =
        let x = two (Err (refusals.Refused refusal)) edits in
        ran (Err (refusals.Refused refusal)) x (Refused (Rule refusal)) said (rule_broken s asked old x.before x.after x.met told opening x.related.edits.known (known_at seat) (known_back (Err (refusals.Refused refusal)) x) ends refusal x.related.edits.becomes)

    pub full_ran : (operation : ℕ) (request : Request) (kept : Versions) → IfSome second (λ d. versions_in kept ≡ kept_versions d.usage) → Done (Err (refusals.Full operation request)) → IfSome second (λ d. s.chunks ≡ length d.usage.given) → IfSome first (λ d. s.passes ≡ d.seat.passes)
        → ended_view o.told ≡ Refused (Full operation (versions_in kept)) → BlockRan s asked ends old (known_at seat) o
    full_ran operation request kept same edits chunks passes said =
        let x = two (Err (refusals.Full operation request)) edits in
        ran (Err (refusals.Full operation request)) x (Refused (Full operation (versions_in kept))) said
        (full_block s asked old x.before x.after x.met told opening x.related.edits.known (known_at seat) (known_back (Err (refusals.Full operation request)) x) ends operation request kept (there_is (λ d. versions_in kept ≡ kept_versions d.usage) second x.after x.new_is same)
        (there_is (λ d. s.chunks ≡ length d.usage.given) second x.after x.new_is chunks)
        (there_is (λ d. s.passes ≡ d.seat.passes) first x.before x.old_is passes ∙ sym x.related.edits.passes) x.related)

  -- it was to be committed
  pub committed_ran : (seat : Option Seat) (r : Result Receipt NoNumber) → Done (Ok tt) → ends ≡ ending.Commit
      → IfOk r (λ _. IfSome second (λ d. working_versions.Commits d.seat.place.me.0 d.log.operations (known_at seat))) → IfOk r (λ t. IfSome second (λ d. t.version ≡ d.seat.version + 1))
      → IfErr r (λ _. IfSome second (λ d. IsBack d.seat.place.me.0 seat)) → IfSome second (λ d. IsErr r ↔ (d.seat.version ≡ last_version)) → IfErr r (λ t. IfSome second (λ d. t.version ≡ d.seat.version))
      → IfOk r (λ t. (o.version ≡ t.version) × (ended_view o.told ≡ Committed)) → IfErr r (λ t. (o.version ≡ t.version) × (ended_view o.told ≡ Refused Spent)) → BlockRan s asked ends old (known_at seat) o
  committed_ran seat (Ok t) edits is commits next back spent last made lost = commit_ran (known_at seat) t.version edits is commits next made.0 made.1
  committed_ran seat (Err t) edits is commits next back spent last made lost =
      let x = both (Begins IsLawful old) (EditedOne s.origin asked (Ok tt)) first second begins edits in
      let number : t.version ≡ x.after.seat.version = there_is (λ d. t.version ≡ d.seat.version) second x.after x.new_is last in
      let history : length x.after.seat.place.me.0.seen.history ≡ length x.before.seat.place.me.0.seen.history = ap length x.related.edits.known.history in
      let base : t.version ≡ length x.before.seat.place.me.0.seen.history = number ∙ x.after.seat.version_is ∙ history in
      let none = there_is (λ d. IsErr {T = Receipt} (Err t) ↔ (d.seat.version ≡ last_version)) second x.after x.new_is spent in
      spent_ran seat t.version back (subst (λ (d : Option WorkingVersion). IfSome d (λ d. t.version ≡ length d.seat.place.me.0.seen.history)) (sym x.old_is) base) lost.0 edits is
      (subst (λ (d : Option WorkingVersion). IfSome d (λ d. d.seat.version ≡ last_version)) (sym x.new_is) (none.0 refl)) lost.1

-- its asked stopped
pub stopped_ran : (s : OpenedWith) (asked : Transaction) (ends : Ending) (old : Known) (first second : Option WorkingVersion) → is_told old.seen.opening ≡ true → first_version old.seen ≡ s.opening → IsSomeAnd first (Begins IsLawful old)
    → (seat : Option Seat) (version : ℕ) (refusal : EditRefusal) (kept : Versions) (r : Result Outcome AllocError) → IfSome second (λ d. versions_in kept ≡ kept_versions d.usage) → IfSome second (λ d. IsBack d.seat.place.me.0 seat) → IfSome first (λ d. version ≡ length d.seat.place.me.0.seen.history) → Edited s.origin asked (Err refusal) first second
    → IfSome second (λ d. s.chunks ≡ length d.usage.given) → IfSome first (λ d. s.passes ≡ d.seat.passes) → StoppedBy refusal kept version r → IfOk r (BlockRan s asked ends old (known_at seat))
stopped_ran s asked ends old first second told opening begins seat version refusals.Memory kept (Ok o) same back base edits chunks passes stopped = absurd cc
stopped_ran s asked ends old first second told opening begins seat version refusals.Memory kept (Err e) same back base edits chunks passes stopped = tt
stopped_ran s asked ends old first second told opening begins seat version (refusals.Refused refusal) kept (Ok o) same back base edits chunks passes stopped =
    refused_ran s asked ends old o first second told opening begins seat version back base stopped.1 refusal edits stopped.0
stopped_ran s asked ends old first second told opening begins seat version (refusals.Refused refusal) kept (Err e) same back base edits chunks passes stopped = absurd stopped
stopped_ran s asked ends old first second told opening begins seat version (refusals.Full operation request) kept (Ok o) same back base edits chunks passes stopped =
    full_ran s asked ends old o first second told opening begins seat version back base stopped.1 operation request kept same edits chunks passes stopped.0
stopped_ran s asked ends old first second told opening begins seat version (refusals.Full operation request) kept (Err e) same back base edits chunks passes stopped = tt

-- it ran as a kind of transaction

pub committed_as : (origin : Name) (asked : Transaction) (own : Bool) (most : ℕ) (old new now : Known) (o : Outcome) (first second : Option WorkingVersion) → now ≡ new → IsSomeAnd first (Begins IsLawful old) → IsSomeAnd first (λ d. StartsAs own d.usage) → Edited origin asked (Ok tt) first second
    → (r : Result Receipt NoNumber) → IfOk r (λ t. IfSome second (λ d. Recycles most d new t)) → IfErr r (λ t. (o.version ≡ t.version) × (ended_view o.told ≡ Refused Spent)) → RanAs own most old now o
committed_as origin asked own most old new now o first second same begins starts edits (Ok t) recycles lost made =
    let x = both (Begins IsLawful old) (EditedOne origin asked (Ok tt)) first second begins edits in
    subst (CommittedAs own most old) (sym same) (record {
      first = x.before;
      begins = x.met;
      starts = there_and (λ d. StartsAs own d.usage) first x.before x.old_is starts;
      last = x.after;
      goes_on = x.related.edits.known;
      receipt = t;
      recycles = there_is (λ d. Recycles most d new t) second x.after x.new_is recycles;
    })
committed_as origin asked own most old new now o first second same begins starts edits (Err t) recycles lost made = absurd (let told = sym lost.1 ∙ made in cc)

pub stopped_as : (own : Bool) (most : ℕ) (old new : Known) (refusal : EditRefusal) (kept : Versions) (version : ℕ) (r : Result Outcome AllocError) → StoppedBy refusal kept version r → IfOk r (RanAs own most old new)
stopped_as own most old new refusal kept version (Err e) stopped = tt
stopped_as own most old new refusals.Memory kept version (Ok o) stopped = absurd cc
stopped_as own most old new (refusals.Refused rule) kept version (Ok o) stopped = λ made. absurd (let told = sym stopped.0 ∙ made in cc)
stopped_as own most old new (refusals.Full operation request) kept version (Ok o) stopped = λ made. absurd (let told = sym stopped.0 ∙ made in cc)

-- it stopped, and memory was wanting
module _ (s : OpenedWith) (asked : Transaction) (old : Known) (first second : Option WorkingVersion) (told : is_told old.seen.opening ≡ true) (opening : first_version old.seen ≡ s.opening) (begins : IsSomeAnd first (Begins IsLawful old)) (seat : Option Seat) (back : IfSome second (λ d. IsBack d.seat.place.me.0 seat)) where
  abbrev WorkingVersions : EditRefusal → Type 0
  WorkingVersions refusal = Both (Begins IsLawful old) (EditedOne s.origin asked (Err refusal)) first second

  back_from : (refusal : EditRefusal) (x : WorkingVersions refusal) → known_at seat ≡ pass_of x.after.seat.place.me.0
  back_from refusal x = (there_is (λ d. IsBack d.seat.place.me.0 seat) second x.after x.new_is back).1

  wants : (refusal : EditRefusal) (x : WorkingVersions refusal) → ((zone : Version) → StandsAs (version_seen (known_at seat).seen) zone → Accepts s.origin asked zone) → BlockWants s asked old (known_at seat)
  wants refusal x accepts = record {
    grows = back_grows s asked old x.before x.after x.met told opening x.related.edits.known (known_at seat) (back_from refusal x);
    pass = back_pass s asked old x.before x.after x.met told opening x.related.edits.known (known_at seat) (back_from refusal x);
    accepts = accepts;
  }

  pub stopped_wants : (version : ℕ) (refusal : EditRefusal) (kept : Versions) (r : Result Outcome AllocError) → Edited s.origin asked (Err refusal) first second → StoppedBy refusal kept version r → OnErr r (BlockWants s asked old (known_at seat))
  stopped_wants version refusal kept (Ok o) edits stopped = tt
  stopped_wants version refusals.Memory kept (Err e) edits stopped =
      let x = both (Begins IsLawful old) (EditedOne s.origin asked (Err refusals.Memory)) first second begins edits in
      wants refusals.Memory x (memory_wants s asked old x.before x.after x.met told opening x.related.edits.known (known_at seat) (back_from refusals.Memory x) x.related.edits.becomes)
  stopped_wants version (refusals.Refused refusal) kept (Err e) edits stopped = absurd stopped
  stopped_wants version (refusals.Full operation request) kept (Err e) edits stopped =
      let x = both (Begins IsLawful old) (EditedOne s.origin asked (Err (refusals.Full operation request))) first second begins edits in
      wants (refusals.Full operation request) x (full_wants s asked old x.before x.after x.met told opening x.related.edits.known (known_at seat) (back_from (refusals.Full operation request) x) operation request x.related.edits.becomes)

-- the same of a pass that is known by another name

pub ran_as : (s : OpenedWith) (asked : Transaction) (ends : Ending) (old new new' : Known) (o : Outcome) → BlockRan s asked ends old new o → new' ≡ new → BlockRan s asked ends old new' o
ran_as s asked ends old new new' o ran same = subst (λ (v : Known). BlockRan s asked ends old v o) (sym same) ran

pub result_as : (s : OpenedWith) (asked : Transaction) (ends : Ending) (old new new' : Known) (r : Result Outcome AllocError) → IfOk r (BlockRan s asked ends old new) → new' ≡ new → IfOk r (BlockRan s asked ends old new')
result_as s asked ends old new new' r ran same = subst (λ (v : Known). IfOk r (BlockRan s asked ends old v)) (sym same) ran

pub wants_as : (s : OpenedWith) (asked : Transaction) (old new new' : Known) (r : Result Outcome AllocError) → OnErr r (BlockWants s asked old new) → new' ≡ new → OnErr r (BlockWants s asked old new')
wants_as s asked old new new' r wants same = subst (λ (v : Known). OnErr r (BlockWants s asked old v)) (sym same) wants

-- ---- what calls ask of a transaction

module _ (old : Known) (first : Option WorkingVersion) (begins : IsSomeAnd first (Begins IsLawful old)) where
  pub begun_works : IsSomeAnd first WorksOnSome
  begun_works = some_weaker (Begins IsLawful old) WorksOnSome first (begun_some old) begins

  module _ (origin : Name) (asked : Transaction) (second : Option WorkingVersion) (edits : Edited origin asked (Ok tt) first second) where
    works_still : IsSomeAnd second WorksOnSome
    works_still = some_in_order origin asked.operations (Executes origin asked (Ok tt)) first second begun_works (λ version e a. record { version = a.0; on = a.2 }) edits

    pub after_works : IsSomeAnd second Works
    after_works = some_weaker WorksOnSome Works second (λ d w. w.on.works) works_still

    pub after_lawful : is_told old.seen.opening ≡ true → OpensAt origin old → AllSaid origin asked → IsSomeAnd second (λ d. IsLawful (first_version d.seat.place.me.0.seen) (working_set d))
    after_lawful told opens said =
        let x = both (Begins IsLawful old) (EditedOne origin asked (Ok tt)) first second begins edits in
        subst (λ (o : Option WorkingVersion). IsSomeAnd o (λ d. IsLawful (first_version d.seat.place.me.0.seen) (working_set d))) (sym x.new_is) (lawful_block origin asked old x.before x.after x.met told opens said x.related.edits.known x.related.edits.becomes)

-- what was edited, in the words of what an index was opened with
pub edits_as : (origin origin' : Name) (asked asked' : Transaction) (r : Result (Unit {0}) EditRefusal) (first second : Option WorkingVersion) → origin' ≡ origin → asked ≡ asked' → Edited origin asked r first second → Edited origin' asked' r first second
edits_as origin origin' asked asked' r first second e f edits =
    subst (λ (o : Name). Edited o asked' r first second) (sym e) (subst (λ (os : Transaction). Edited origin os r first second) f edits)

pub has_passes : (s : OpenedWith) (passes : ℕ) (first : Option WorkingVersion) → s.passes ≡ passes → IsSomeAnd first (λ d. d.seat.passes ≡ passes) → IfSome first (λ d. s.passes ≡ d.seat.passes)
has_passes s passes (Some d) same has = same ∙ sym has
has_passes s passes None same has = absurd has

-- ---- a transaction has as many chunks as its index, by the table that both are on

pub full_chunks : (names : List TableId) (place place' chunks : ℕ) (a b : TableId) (second : Option WorkingVersion) → slice_get names place ≡ Some a → slice_get names place' ≡ Some b → place' ≡ place → 4161 + 2048 * chunks ≡ a.words → ForSome second (λ d. d.seat.place.table_id ≡ b) → IfSome second (λ d. chunks ≡ length d.usage.given)
full_chunks names place place' chunks a b None is_a is_b same wide there = tt
full_chunks names place place' chunks a b (Some d) is_a is_b same wide there =
    let table : ◌≡◌ {A = Option TableId} (Some a) (Some b) = sym is_a ∙ ap (slice_get names) (sym same) ∙ is_b in
    let words : a.words ≡ b.words = (let e : a ≡ b = cc in ap (λ (t : TableId). t.words) e) in
    let mine : 4161 + 2048 * length d.usage.given ≡ b.words = d.wide ∙ ap (λ (t : TableId). t.words) (there d refl) in
    omega (arith, wide, words, mine)

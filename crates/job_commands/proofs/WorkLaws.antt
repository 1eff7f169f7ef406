-- How a worker's run goes on by one command.
use Rattle.std.proofs.Common.{◌≡◌, ◌∙◌, inl, inr, ℕ, ◌+◌, ◌-◌, ◌<◌, ◌≤◌, Bool, true, false, cond, ◌&&◌, eqb, List, [], ◌∷◌, ◌++◌, length, map, take, drop, get_or, Some, refl, sym, ap, subst, arith, append_assoc, length-append}
use Rattle.std.specs.Prelude.{Contains}
use Rattle.std.proofs.lemmas.Bool.{cases_eq, and_right}
use Rattle.std.proofs.lemmas.List.{map_more, drop_more}
use Rattle.std.proofs.lemmas.List.Elements.{Contains-append_left, Contains-append_right}
use Rattle.std.specs.List.{AllByRecursion}
use Rattle.zone_model.specs.Names.{Name}
use Rattle.zone_model.specs.Versions.{Version}
use Rattle.job_model.specs.Commands.{Command, Ask, Hold, AskHeld, Release, Block, Compact, InTurn, MayCome, NeedsNoSnapshot}
use Rattle.job_model.specs.Outcomes.{JudgedBy, Pair, is_committed, made, asked_by, times_made, WorkerProgress, at_first, progress_after, EndsLawfully, Along, shown_by, shown_in}
use Rattle.job_report.specs.Outcomes.{ended_view, outcome_view, pairs_of, Tells, EachTells}
use Rattle.job_report.specs.declared.outcomes.Outcome.{Outcome as Told_outcome}
use Rattle.shared_cells.specs.declared.view.PassView.{PassView}
use Rattle.shared_cells.specs.History.{StartsWith, entries_by, entry_of, version_after}
use Rattle.shared_cells.specs.Views.{is_told}
use Rattle.qp_multi.specs.declared.meaning.Operation.{Operation}
use Rattle.qp_multi.specs.Operations.{applied}
use Rattle.qp_multi.specs.Passes.{Known, first_version}
use Rattle.job_commands.specs.Histories.{OpenedWith, Commit, Entries, IsAsked, index_at, StandsAs, AreVersions, judged_by, times_by}
use Rattle.job_commands.specs.Steps.{WorkerPasses, IsProgress, IsUnder, Adds, Stays, Writes, Step}
use Rattle.job_commands.specs.Sittings.{progress_behind}
use Rattle.job_commands.specs.Works.{Replayed, Work, Numbers, Begins, WorkerRan, ended}
use Rattle.job_commands.proofs.HistoryLaws.{begins_same, begins_more, begins_length, begins_other, last_commit, opened_same, index_front, index_last, versions_front, explains_front, by-push, times_front, times_past, times_there, times_else}
use Rattle.report_laws.proofs.ListLemmas.{all_push}
pub use Rattle.report_laws.proofs.ListLemmas.{all_both, all_weaker}

abbrev pub Pairs : Type 0
Pairs = List Pair

abbrev pub Own : Type 0
Own = PassView (List Operation)

-- ---- facts about all elements, and lists that grow

pub progress_behind-push : (progress : WorkerProgress) (pairs : Pairs) (p : Pair) → progress_behind progress (pairs ++ p ∷ []) ≡ progress_after (progress_behind progress pairs) p.0 p.1.version
progress_behind-push progress [] p = refl
progress_behind-push progress (q ∷ pairs) p = progress_behind-push (progress_after progress q.0 q.1.version) pairs p

along-push : (s : JudgedBy) (progress : WorkerProgress) (pairs : Pairs) (p : Pair) → Along s progress pairs → EndsLawfully s (progress_behind progress pairs) p.0 p.1.version p.1.ended → Along s progress (pairs ++ p ∷ [])
along-push s progress [] p l e = (e, tt)
along-push s progress (q ∷ pairs) p l e = (l.0, along-push s (progress_after progress q.0 q.1.version) pairs p l.1 e)

each-push : (origin : Name) (set : ℕ → Version) (cs : List Command) (os : List Told_outcome) (c : Command) (o : Told_outcome) → EachTells origin set cs os → Tells origin set c o → EachTells origin set (cs ++ c ∷ []) (os ++ o ∷ [])
each-push origin set [] [] c o t u = (u, tt)
each-push origin set [] (p ∷ os) c o t u = absurd t
each-push origin set (d ∷ cs) [] c o t u = absurd t
each-push origin set (d ∷ cs) (p ∷ os) c o t u = (t.0, each-push origin set cs os c o t.1 u)

-- as many outcomes as commands
abbrev pub Alike : List Command → List Told_outcome → Type 0
Alike cs os = length cs ≡ length os

pub pairs-push : (cs : List Command) (os : List Told_outcome) (c : Command) (o : Told_outcome) → Alike cs os → pairs_of (cs ++ c ∷ []) (os ++ o ∷ []) ≡ pairs_of cs os ++ (c, outcome_view o) ∷ []
pairs-push [] [] c o e = refl
pairs-push [] (p ∷ os) c o e = absurd (omega arith)
pairs-push (d ∷ cs) [] c o e = absurd (omega arith)
pairs-push (d ∷ cs) (p ∷ os) c o e = ap (λ (l : Pairs). (d, outcome_view p) ∷ l) (pairs-push cs os c o (omega arith))

pub shown-append : (xs ys : Pairs) → shown_in (xs ++ ys) ≡ shown_in xs ++ shown_in ys
shown-append [] ys = refl
shown-append (x ∷ xs) ys = ap (λ (l : List ℕ). shown_by x.0 x.1.version ++ l) (shown-append xs ys) ∙ sym (append_assoc (shown_by x.0 x.1.version) (shown_in xs) (shown_in ys))

shown_before : (xs : Pairs) (p : Pair) (v : ℕ) → Contains (shown_in xs) v → Contains (shown_in (xs ++ p ∷ [])) v
shown_before xs p v here = subst (λ (l : List ℕ). Contains l v) (sym (shown-append xs (p ∷ []))) (Contains-append_left (shown_in xs) (shown_in (p ∷ [])) v here)

shown_now : (xs : Pairs) (p : Pair) (v : ℕ) → Contains (shown_by p.0 p.1.version) v → Contains (shown_in (xs ++ p ∷ [])) v
shown_now xs p v here =
    subst (λ (l : List ℕ). Contains l v) (sym (shown-append xs (p ∷ [])))
    (Contains-append_right (shown_in xs) (shown_in (p ∷ [])) v (Contains-append_left (shown_by p.0 p.1.version) [] v here))

pub times-append : (j : ℕ) (xs ys : Pairs) → times_made j (xs ++ ys) ≡ times_made j xs + times_made j ys
times-append j [] ys = let e : times_made j ys ≡ 0 + times_made j ys = omega arith in e
times-append j (x ∷ xs) ys =
    ap (λ (n : ℕ). cond (made j x) 1 0 + n) (times-append j xs ys)
    ∙ (let e : cond (made j x) 1 0 + (times_made j xs + times_made j ys) ≡ (cond (made j x) 1 0 + times_made j xs) + times_made j ys = omega arith in e)

times-push : (j : ℕ) (xs : Pairs) (p : Pair) (b : Bool) → made j p ≡ b → times_made j (xs ++ p ∷ []) ≡ times_made j xs + cond b 1 0
times-push j xs p b e = times-append j xs (p ∷ []) ∙ ap (λ (x : Bool). times_made j xs + (cond x 1 0 + 0)) e ∙ (let z : times_made j xs + (cond b 1 0 + 0) ≡ times_made j xs + cond b 1 0 = omega arith in z)

-- ---- histories that grow

pub replayed_more : (s : OpenedWith) (all part : List Commit) → StartsWith all part → (p : Pair) → p.1.version ≤ length part → Replayed s part p → Replayed s all p
replayed_more s all part b p le r = λ c.
    let was = r c in
    let below : p.1.version - 1 ≤ length part = omega (arith, le) in (
      was.0,
      (λ before e begins numbered. was.1 before e (begins_other all (before ++ e ∷ []) part begins b (omega (arith, le, numbered, length-append before (e ∷ [])))) numbered),
      (λ base stands.
          let made = was.2 base (subst (λ (es : Entries). StandsAs es base) (index_front s.opening all part (p.1.version - 1) b below) stands) in
          (made.0, made.1, subst (λ (es : Entries). StandsAs es made.0) (sym (index_front s.opening all part p.1.version b le)) made.2)),
    )

-- ---- how far a worker has come

pub record WorkerAt (s : OpenedWith) (numbers : Numbers) (t : WorkerPasses) (done ahead : List Command) (os : List Told_outcome) : Type 0 where
  pub alike : Alike done os
  pub progress : IsProgress t (progress_behind at_first (pairs_of done os))
  pub under : IsUnder t.asks t.holds
  pub told : (set : ℕ → Version) → AreVersions s t.asks.seen.history set → EachTells s.origin set done os
  pub work : Work s t (pairs_of done os)
  pub asker : work.asker.number ≡ numbers.asker
  pub holder : work.holder.number ≡ numbers.holder
  pub turn : InTurn t.held ahead

-- what was written, and what was seen: the worker's own part of the history so far
record Grown (s : OpenedWith) (numbers : Numbers) (t : WorkerPasses) (pairs : Pairs) : Type 0 where
  replayed : AllByRecursion (Replayed s t.asks.seen.history) pairs
  asker : Own
  is_asker : t.asks.pass ≡ Some asker
  number : asker.number ≡ numbers.asker
  committed : List Commit
  front : StartsWith t.asks.seen.history committed
  mine : asker.entries ≡ entries_by asker.number committed
  made : (j : ℕ) → times_made j pairs ≡ times_by asker.number j committed
  pinned : (v : ℕ) → Contains asker.pinned v → Contains (shown_in pairs) v

grows_same : (s : OpenedWith) (numbers : Numbers) (old new : WorkerPasses) (pairs : Pairs) (p : Pair) (w : Work s old pairs) → w.asker.number ≡ numbers.asker → StartsWith new.asks.seen.history old.asks.seen.history → is_committed p.1.ended ≡ false
    → Stays p.0 p.1.version w.asker new.asks → Grown s numbers new (pairs ++ p ∷ [])
grows_same s numbers old new pairs p w number grows plain y = record {
  replayed = all_push (Replayed s new.asks.seen.history) pairs p
      (all_both (λ (q : Pair). q.1.version ≤ length old.asks.seen.history) (Replayed s old.asks.seen.history) (Replayed s new.asks.seen.history) pairs
      (λ q le r. replayed_more s new.asks.seen.history old.asks.seen.history grows q le r) w.none_above w.replayed)
      (λ c. absurd (let e : true ≡ false = sym c ∙ plain in cc));
  asker = y.now;
  is_asker = y.pass;
  number = y.number ∙ number;
  committed = w.committed;
  front = begins_more new.asks.seen.history old.asks.seen.history w.committed grows w.front;
  mine = y.entries ∙ w.mine ∙ ap (λ (n : ℕ). entries_by n w.committed) (sym y.number);
  made = λ j. times-push j pairs p false (ap (λ (b : Bool). b && eqb p.1.version j) plain) ∙ (let z : times_made j pairs + 0 ≡ times_made j pairs = omega arith in z)
      ∙ w.made j ∙ ap (λ (n : ℕ). times_by n j w.committed) (sym y.number);
  pinned = λ v here. elim (y.pinned v here) [
    | inl was ↦ shown_before pairs p v (w.pinned v (inl was))
    | inr now ↦ shown_now pairs p v now
  ];
}

grows_more : (s : OpenedWith) (numbers : Numbers) (old new : WorkerPasses) (pairs : Pairs) (p : Pair) (w : Work s old pairs) → w.asker.number ≡ numbers.asker → StartsWith new.asks.seen.history old.asks.seen.history → is_committed p.1.ended ≡ true
    → Adds s w.asker p.0 p.1.version old.asks new.asks → Grown s numbers new (pairs ++ p ∷ [])
grows_more s numbers old new pairs p w number grows commits a =
    let n = w.asker.number in
    let longer : length new.asks.seen.history ≡ length a.base + 1 = ap length a.history ∙ length-append a.base (entry_of w.asker.number a.operations ∷ []) in
    let base_front : StartsWith new.asks.seen.history a.base = (entry_of w.asker.number a.operations ∷ [], a.history) in
    let was_front : StartsWith a.base w.committed = begins_more a.base old.asks.seen.history w.committed a.before w.front in
    let same : (j : ℕ) → times_by w.asker.number j a.base ≡ times_by w.asker.number j w.committed = λ j. times_front w.asker.number j a.base w.committed was_front (sym a.mine ∙ w.mine) in
    let before_it : p.1.version - 1 ≡ length a.base = omega (arith, a.numbered) in
    let last : p.1.version ≡ length new.asks.seen.history = omega (arith, a.numbered, longer) in
    record {
      replayed = all_push (Replayed s new.asks.seen.history) pairs p
          (all_both (λ (q : Pair). q.1.version ≤ length old.asks.seen.history) (Replayed s old.asks.seen.history) (Replayed s new.asks.seen.history) pairs
          (λ q le r. replayed_more s new.asks.seen.history old.asks.seen.history grows q le r) w.none_above w.replayed)
          (λ _. (
            omega (arith, a.numbered),
            (λ before e begins here.
                let same = last_commit a.base before (entry_of n a.operations) e (subst (λ (h : List Commit). StartsWith h (before ++ e ∷ [])) a.history begins) (omega (arith, here, a.numbered)) in
                subst (λ (x : Commit). IsAsked s (asked_by p.0) before x.change) same.1 (subst (λ (base : List Commit). IsAsked s (asked_by p.0) base a.operations) same.0 a.does)),
            (λ zone stands.
                let in_base : index_at s.opening new.asks.seen.history (p.1.version - 1) ≡ version_after applied s.opening a.base =
                index_front s.opening new.asks.seen.history a.base (p.1.version - 1) base_front (omega (arith, before_it)) ∙ index_last s.opening a.base (p.1.version - 1) before_it in
                let made = a.makes zone (subst (λ (es : Entries). StandsAs es zone) in_base stands) in
                (made.0, made.1, subst (λ (es : Entries). StandsAs es made.0) (sym (index_last s.opening new.asks.seen.history p.1.version last)) made.2)),
          ));
      asker = record w.asker { entries = w.asker.entries ++ entry_of w.asker.number a.operations ∷ [] };
      is_asker = a.pass;
      number = number;
      committed = new.asks.seen.history;
      front = begins_same new.asks.seen.history;
      mine = ap (λ (l : List Commit). l ++ entry_of w.asker.number a.operations ∷ []) a.mine ∙ sym (by-push w.asker.number a.base a.operations) ∙ ap (entries_by w.asker.number) (sym a.history);
      made = λ j. elim (cases_eq j p.1.version) [
        | inl e ↦
            let here : made j p ≡ true = (let t : eqb p.1.version j ≡ true = grind arith in ap (λ (b : Bool). b && eqb p.1.version j) commits ∙ t) in
            let past : length a.base < j = omega (arith, e, a.numbered) in
            let none : times_made j pairs ≡ 0 = w.made j ∙ sym (same j) ∙ times_past w.asker.number j a.base past in
            times-push j pairs p true here ∙ (let z : times_made j pairs + 1 ≡ 1 = omega (arith, none) in z)
            ∙ sym (ap (times_by w.asker.number j) a.history ∙ times_there w.asker.number j a.base a.operations (omega (arith, e, a.numbered)))
        | inr m ↦
            let here : made j p ≡ false = (let t : eqb p.1.version j ≡ false = grind arith in and_right (is_committed p.1.ended) (eqb p.1.version j) t) in
            times-push j pairs p false here ∙ (let z : times_made j pairs + 0 ≡ times_made j pairs = omega arith in z) ∙ w.made j ∙ sym (same j)
            ∙ sym (ap (times_by w.asker.number j) a.history ∙ times_else w.asker.number j a.base (entry_of w.asker.number a.operations) (λ e. m (omega (arith, e, a.numbered))))
      ];
      pinned = λ v here. shown_before pairs p v (w.pinned v (inl here));
    }

grows : (s : OpenedWith) (numbers : Numbers) (old new : WorkerPasses) (pairs : Pairs) (p : Pair) (w : Work s old pairs) (committed : Bool) → w.asker.number ≡ numbers.asker → StartsWith new.asks.seen.history old.asks.seen.history → is_committed p.1.ended ≡ committed
    → Writes s w.asker p.0 p.1.version committed old.asks new.asks → Grown s numbers new (pairs ++ p ∷ [])
grows s numbers old new pairs p w true number g c a = grows_more s numbers old new pairs p w number g c a
grows s numbers old new pairs p w false number g c y = grows_same s numbers old new pairs p w number g c y

pub worker_goes_on : (s : OpenedWith) (numbers : Numbers) (old new : WorkerPasses) (done : List Command) (c : Command) (behind : List Command) (os : List Told_outcome) (o : Told_outcome) → first_version new.asks.seen ≡ first_version old.asks.seen
    → WorkerAt s numbers old done (c ∷ behind) os → Step s c o old new → WorkerAt s numbers new (done ++ c ∷ []) behind (os ++ o ∷ [])
worker_goes_on s numbers old new done c behind os o opened w step =
    let p : Pair = (c, outcome_view o) in
    let pairs = pairs_of done os in
    let more : pairs_of (done ++ c ∷ []) (os ++ o ∷ []) ≡ pairs_of done os ++ (c, outcome_view o) ∷ [] = pairs-push done os c o w.alike in
    let g = grows s numbers old new (pairs_of done os) (c, outcome_view o) w.work (is_committed (ended_view o.told)) w.asker step.asks.history refl (step.writes w.work.asker w.work.is_asker) in
    let h = step.kept w.work.holder w.work.is_holder in
    let long = begins_length new.asks.seen.history old.asks.seen.history step.asks.history in
    let one : length (done ++ c ∷ []) ≡ length (os ++ o ∷ []) = omega (arith, w.alike, length-append done (c ∷ []), length-append os (o ∷ [])) in
    record {
      alike = one;
      progress = subst (IsProgress new) (sym (ap (progress_behind at_first) more ∙ progress_behind-push at_first (pairs_of done os) (c, outcome_view o))) (step.holding (progress_behind at_first (pairs_of done os)) w.progress);
      under = step.under;
      told = λ set are. each-push s.origin set done os c o (w.told set (versions_front s new.asks.seen.history old.asks.seen.history set step.asks.history are)) (step.tells set are);
      work = record {
        opened = opened ∙ w.work.opened;
        along = λ set deeds are explains. subst (Along (judged_by s set deeds) at_first) (sym more)
            (along-push (judged_by s set deeds) at_first (pairs_of done os) (c, outcome_view o)
            (w.work.along set deeds (versions_front s new.asks.seen.history old.asks.seen.history set step.asks.history are) (explains_front s deeds new.asks.seen old.asks.seen step.asks explains))
            (step.ends (progress_behind at_first (pairs_of done os)) w.progress set deeds are explains));
        none_above = subst (AllByRecursion (λ (q : Pair). q.1.version ≤ length new.asks.seen.history)) (sym more)
            (all_push (λ (q : Pair). q.1.version ≤ length new.asks.seen.history) (pairs_of done os) (c, outcome_view o)
            (all_weaker (λ (q : Pair). q.1.version ≤ length old.asks.seen.history) (λ (q : Pair). q.1.version ≤ length new.asks.seen.history) (pairs_of done os) (λ q le. omega (arith, le, long)) w.work.none_above) step.below);
        replayed = subst (AllByRecursion (Replayed s new.asks.seen.history)) (sym more) g.replayed;
        asker = g.asker;
        is_asker = g.is_asker;
        holder = h.now;
        is_holder = h.pass;
        committed = g.committed;
        front = g.front;
        mine = g.mine;
        made = λ j. ap (times_made j) more ∙ g.made j;
        none_held = h.entries ∙ w.work.none_held;
        pinned = λ v here. subst (λ (l : Pairs). Contains (shown_in l) v) (sym more) (elim here [
          | inl a ↦ g.pinned v a
          | inr b ↦ elim (h.pinned v b) [
            | inl was ↦ shown_before (pairs_of done os) (c, outcome_view o) v (w.work.pinned v (inr was))
            | inr now ↦ shown_now (pairs_of done os) (c, outcome_view o) v now
          ]
        ]);
      };
      asker = g.number;
      holder = h.number ∙ w.holder;
      turn = subst (λ (b : Bool). InTurn b behind) (sym step.held) w.turn.1;
    }

-- a command that needs no snapshot may come while none is held
may_come : (c : Command) → NeedsNoSnapshot c → MayCome false c
may_come (Ask question) plain = tt
may_come Hold plain = absurd plain
may_come (AskHeld question) plain = absurd plain
may_come Release plain = absurd plain
may_come (Block _ asked ending) plain = tt
may_come Compact plain = tt

-- the next command of a worker that holds none, if it needs none
pub plain_goes_on : (s : OpenedWith) (numbers : Numbers) (old new : WorkerPasses) (done : List Command) (c : Command) (os : List Told_outcome) (o : Told_outcome) → is_told old.asks.seen.opening ≡ true → old.held ≡ false → NeedsNoSnapshot c → WorkerAt s numbers old done [] os → Step s c o old new
    → WorkerAt s numbers new (done ++ c ∷ []) [] (os ++ o ∷ [])
plain_goes_on s numbers old new done c os o told free plain w step =
    worker_goes_on s numbers old new done c [] os o (opened_same new.asks.seen old.asks.seen told step.asks) (record {
      alike = w.alike;
      progress = w.progress;
      under = w.under;
      told = w.told;
      work = w.work;
      asker = w.asker;
      holder = w.holder;
      turn = (subst (λ (b : Bool). MayCome b c) (sym free) (may_come c plain), tt);
    }) step

pub worker_ran : (s : OpenedWith) (numbers : Numbers) (t : WorkerPasses) (commands done ahead : List Command) (os : List Told_outcome) → done ≡ commands → WorkerAt s numbers t done ahead os → WorkerRan s numbers t commands os
worker_ran s numbers t commands done ahead os all w =
    subst (λ (l : List Command). WorkerRan s numbers t l os) all (record { told = w.told; work = w.work; asker = w.asker; holder = w.holder })

-- the same commits and pinned versions, whatever else was told to the second pass
pub worker_back : (s : OpenedWith) (numbers : Numbers) (t : WorkerPasses) (asks holds : Known) (held : Bool) (commands : List Command) (os : List Told_outcome) → asks ≡ t.asks → holds.pass ≡ t.holds.pass → WorkerRan s numbers t commands os
    → WorkerRan s numbers (record { asks = asks; holds = holds; held = held }) commands os
worker_back s numbers t asks holds held commands os same pass r = subst (λ (v : Known). WorkerRan s numbers (record { asks = v; holds = holds; held = held }) commands os) (sym same) (record {
  told = r.told;
  work = record {
    opened = r.work.opened;
    along = r.work.along;
    none_above = r.work.none_above;
    replayed = r.work.replayed;
    asker = r.work.asker;
    is_asker = r.work.is_asker;
    holder = r.work.holder;
    is_holder = pass ∙ r.work.is_holder;
    committed = r.work.committed;
    front = r.work.front;
    mine = r.work.mine;
    made = r.work.made;
    none_held = r.work.none_held;
    pinned = r.work.pinned;
  };
  asker = r.asker;
  holder = r.holder;
})

-- two passes that have done nothing, and no snapshot is held
pub worker_starts : (s : OpenedWith) (numbers : Numbers) (asks spare : Known) (commands : List Command) → Begins s numbers asks spare → InTurn false commands → WorkerAt s numbers (ended asks spare) [] commands []
worker_starts s numbers asks spare commands b turn = record {
  alike = refl;
  progress = record { seen = omega arith; held = refl };
  under = record {
    opening = b.holder.opened ∙ sym b.asker.opened;
    history = (asks.seen.history, sym (ap (λ (l : List Commit). l ++ asks.seen.history) b.holder.no_history));
  };
  told = λ set are. tt;
  work = record {
    opened = b.asker.opened;
    along = λ set deeds are explains. tt;
    none_above = tt;
    replayed = tt;
    asker = b.asker.own;
    is_asker = b.asker.is_own;
    holder = b.holder.own;
    is_holder = b.holder.is_own;
    committed = [];
    front = (asks.seen.history, refl);
    mine = b.asker.none;
    made = λ j. refl;
    none_held = b.holder.none;
    pinned = λ v here. elim here [
      | inl mine ↦ subst (λ (l : List ℕ). Contains l v) b.asker.unpinned mine
      | inr held ↦ subst (λ (l : List ℕ). Contains l v) b.holder.unpinned held
    ];
  };
  asker = b.asker.numbered;
  holder = b.holder.numbered;
  turn = turn;
}

-- ---- a list and its elements, as they are seen

-- an element and what stands behind it
pub drop_here : {X Y : Type 0} (view : X → Y) (xs : List X) (i : ℕ) (here : X) → i < length xs → here ≡ get_or xs i here → map view (drop i xs) ≡ view here ∷ map view (drop (i + 1) xs)
drop_here view xs i here lt is = ap (map view) (drop_more xs i here lt ∙ ap (λ (x : _). x ∷ drop (i + 1) xs) (sym is))

pub take_here : {X Y : Type 0} (view : X → Y) (xs : List X) (i : ℕ) (here : X) → i < length xs → here ≡ get_or xs i here → map view (take (i + 1) xs) ≡ map view (take i xs) ++ view here ∷ []
take_here view xs i here lt is = map_more view xs i here lt ∙ ap (λ (x : _). map view (take i xs) ++ view x ∷ []) (sym is)

-- One worker alone at an index of two passes. What these tell of the history shows that its outcomes are lawful so far.
use Rattle.std.proofs.Common.{◌≡◌, ◌∙◌, ◌⊎◌, inl, inr, ⊎_elim, ℕ, ◌+◌, ◌<◌, ◌≤◌, Bool, true, false, cond, List, [], ◌∷◌, ◌++◌, length, map, Option, Some, refl, sym, ap, subst, arith, append-nil, length-append, eq-eqb}
use Rattle.std.specs.Prelude.{Contains}
use Rattle.std.specs.List.{AllByRecursion}
use Rattle.std.proofs.lemmas.List.{length-map}
use Rattle.std.proofs.lemmas.List.Elements.{All-contains, Contains-append_left, Contains-push_cases}
use Rattle.pin_core.proofs.Lists.{contains_cases}
use Rattle.zone_model.specs.Versions.{Version}
use Rattle.zone_answer.specs.Standing.{trie_entry}
use Rattle.trie_model.specs.Shape.{nodes, keys_of}
use Rattle.job_model.specs.Commands.{Command, MayCome}
use Rattle.job_model.specs.Sizes.{node_count}
use Rattle.job_model.specs.Outcomes.{Pair, AllAlong, all_pairs, asked_at, shown_in, times_made}
use Rattle.job_report.specs.Outcomes.{pairs_of}
use Rattle.job_report.specs.declared.outcomes.Outcome.{Outcome}
use Rattle.shared_cells.specs.declared.view.Naming.{Naming}
use Rattle.shared_cells.specs.History.{StartsWith, IsPartOf, entries_by, version_after}
use Rattle.shared_cells.specs.Steps.{Accounts}
use Rattle.shared_cells.specs.Views.{is_told, number_of, with_pinned}
use Rattle.qp_multi.specs.Operations.{applied}
use Rattle.qp_multi.specs.Passes.{Known, first_version, version_seen}
use Rattle.qp_multi.specs.Closings.{AllSeen, AreAll}
use Rattle.job_commands.specs.declared.closing.Last.{Last}
use Rattle.job_commands.specs.Histories.{OpenedWith, Commit, Entries, StandsAs, AreVersions, Deeds, Explains, judged_by, times_by}
use Rattle.job_commands.specs.Steps.{HoldsLast, WorkerPasses, Step}
use Rattle.job_commands.specs.Works.{AreNew, IsNew, Numbers, Replayed, ended}
use Rattle.job_commands.specs.Endings.{Measured}
use Rattle.job_commands.specs.Sittings.{AreBoth, AtWork, ComesTo, EndsAt, Sits, versions_by}
use Rattle.job_commands.proofs.HistoryLaws.{begins_more, begins_length, by-append, index_last, opened_same, part_same, times_front, times_none, versions_front}
use Rattle.job_commands.proofs.WorkLaws.{Own, Pairs, WorkerAt, replayed_more, worker_back, worker_goes_on, worker_starts}
use Rattle.job_commands.proofs.JobLaws.{Author, author_of, all_asked, versions_stand}
use Rattle.job_commands.proofs.CloseLaws.{exact_entries}
use Rattle.report_laws.proofs.ListLemmas.{all_both, all_weaker}

-- ---- parts of lists

front_contains : {A : Type 0} (all part : List A) (x : A) → StartsWith all part → Contains part x → Contains all x
front_contains all part x s c = subst (λ (l : List _). Contains l x) (sym s.1) (Contains-append_left part s.0 x c)

front_none : {A : Type 0} (xs ys : List A) → [] ≡ xs ++ ys → xs ≡ []
front_none [] ys e = refl
front_none (x ∷ xs) ys e = absurd cc

front_entries : (author : ℕ) (all part own : List Commit) → StartsWith all part → own ≡ entries_by author all → StartsWith own (entries_by author part)
front_entries author all part own s e = (entries_by author s.0, e ∙ ap (entries_by author) s.1 ∙ by-append author part s.0)

-- a list of two from which both were taken
pub two_popped : {A : Type 0} (whole front rest : List A) (x y : A) → whole ≡ front ++ x ∷ [] → front ≡ rest ++ y ∷ [] → length whole ≡ 2 → whole ≡ y ∷ x ∷ []
two_popped whole front [] x y last first two = last ∙ ap (λ (l : List _). l ++ x ∷ []) first
two_popped whole front (z ∷ rest) x y last first two = absurd (omega (arith, two, ap length last, ap length first, length-append front (x ∷ []), length-append rest (y ∷ [])))

-- ---- what a pass has done since

-- nothing but to take the current version, if that
pub record Since (old new : Known) (own : Own) : Type 0 where
  pub now : Own
  pub pass : new.pass ≡ Some now
  pub number : now.number ≡ own.number
  pub entries : now.entries ≡ own.entries
  pub pinned : (v : ℕ) → Contains now.pinned v → Contains own.pinned v ⊎ (v ≡ length new.seen.history)

pub record Goes (old new : Known) : Type 0 where
  pub grows : IsPartOf new.seen old.seen
  pub own : (own : Own) → old.pass ≡ Some own → Since old new own

pub goes_same : (v : Known) → is_told v.seen.opening ≡ true → Goes v v
goes_same v told = record {
  grows = part_same v.seen told;
  own = λ own is. record { now = own; pass = is; number = refl; entries = refl; pinned = λ n here. inl here };
}

pub goes_measured : (old new : Known) (last : Last) → Measured old new last → Goes old new
goes_measured old new last m = record {
  grows = m.grows;
  own = λ own is. record {
    now = record own { pinned = own.pinned ++ last.version ∷ [] };
    pass = m.pass ∙ ap (λ (p : Option Own). with_pinned p last.version) is;
    number = refl;
    entries = refl;
    pinned = λ n here. elim (Contains-push_cases own.pinned last.version n here) [
      | inl was ↦ inl was
      | inr e ↦ inr (sym e ∙ m.version)
    ];
  };
}

-- ---- both passes account for the history

module _ (s : OpenedWith) (numbers : Numbers) (t : WorkerPasses) (commands : List Command) (os : List Outcome) (both : AreBoth numbers) (w : AtWork s numbers t commands os) (asks holds : Known) (known other : AllSeen) (a : Accounts 2 asks known) (b : Accounts 2 holds other) (beside : IsPartOf other asks.seen)
    (since : Goes t.asks asks) (still : holds.pass ≡ t.holds.pass) where
  abbrev pairs : Pairs
  pairs = pairs_of commands os

  mine : Since t.asks asks w.ran.work.asker
  mine = since.own w.ran.work.asker w.ran.work.is_asker

  holder_is : holds.pass ≡ Some w.ran.work.holder
  holder_is = still ∙ w.ran.work.is_holder

  committed_front : StartsWith asks.seen.history w.ran.work.committed
  committed_front = begins_more asks.seen.history t.asks.seen.history w.ran.work.committed since.grows.history w.ran.work.front

  -- the history has of the first pass what it had committed
  asker_entries : entries_by w.ran.work.asker.number asks.seen.history ≡ entries_by w.ran.work.asker.number w.ran.work.committed
  asker_entries =
      let k = w.ran.work in
      let m = mine in
      let exact = exact_entries m.now.number m.now.entries asks.seen.history k.committed (front_entries m.now.number known.history asks.seen.history m.now.entries a.seen.history (a.entries m.now m.pass))
      (m.entries ∙ k.mine ∙ ap (λ (n : ℕ). entries_by n k.committed) (sym m.number)) committed_front in
      ap (λ (n : ℕ). entries_by n asks.seen.history) (sym m.number) ∙ sym exact ∙ m.entries ∙ k.mine

  -- and nothing of the second
  holder_none : entries_by w.ran.work.holder.number asks.seen.history ≡ []
  holder_none =
      let k = w.ran.work in
      let part = front_entries k.holder.number other.history asks.seen.history k.holder.entries beside.history (b.entries k.holder holder_is) in
      front_none (entries_by k.holder.number asks.seen.history) part.0 (sym k.none_held ∙ part.1)

  -- so each version was made once, by the first

  once_by : (j : ℕ) (v : Author asks.seen.history j) → (numbers.asker ≡ v.commit.author) ⊎ (numbers.holder ≡ v.commit.author) → times_made j pairs ≡ 1
  once_by j v (inl e) =
      let k = w.ran.work in
      k.made j ∙ sym (times_front k.asker.number j asks.seen.history k.committed committed_front asker_entries) ∙ v.times k.asker.number ∙ ap (λ (t : Bool). cond t 1 0) (eq-eqb v.commit.author k.asker.number (sym (w.ran.asker ∙ e)))
  once_by j v (inr e) =
      let k = w.ran.work in
      let one : times_by k.holder.number j asks.seen.history ≡ 1 = v.times k.holder.number ∙ ap (λ (t : Bool). cond t 1 0) (eq-eqb v.commit.author k.holder.number (sym (w.ran.holder ∙ e))) in
      let none : times_by k.holder.number j asks.seen.history ≡ 0 = times_none k.holder.number j asks.seen.history holder_none in
      absurd (let z : 0 ≡ 1 = sym none ∙ one in cc)

  once : (j : ℕ) → 0 < j → j ≤ length asks.seen.history → times_made j pairs ≡ 1
  once j some le =
      let v = author_of asks.seen.history j some le in
      once_by j v (both v.commit.author (All-contains (λ e. e.author < 2) known.history v.commit a.authors (front_contains known.history asks.seen.history v.commit a.seen.history v.inside)))

  all_replayed : AllByRecursion (Replayed s asks.seen.history) pairs
  all_replayed =
      all_both (λ (q : Pair). q.1.version ≤ length t.asks.seen.history) (Replayed s t.asks.seen.history) (Replayed s asks.seen.history) pairs
      (λ q le r. replayed_more s asks.seen.history t.asks.seen.history since.grows.history q le r) w.ran.work.none_above w.ran.work.replayed

  -- what a pass was found reading it showed

  shown_by_pass : (n : Naming) → n.version < length asks.seen.history → Contains known.namings n → Contains other.namings n → (numbers.asker ≡ n.pass) ⊎ (numbers.holder ≡ n.pass) → Contains (shown_in pairs) n.version
  shown_by_pass n below in_known in_other (inl e) =
      let m = mine in
      let there = All-contains (λ (x : Naming). x.pass ≡ m.now.number → Contains m.now.pinned x.version) known.namings n (a.namings m.now m.pass) in_known (sym e ∙ sym w.ran.asker ∙ sym m.number) in
      elim (m.pinned n.version there) [
        | inl was ↦ w.ran.work.pinned n.version (inl was)
        | inr last ↦ absurd (omega (arith, last, below))
      ]
  shown_by_pass n below in_known in_other (inr e) =
      let k = w.ran.work in
      k.pinned n.version (inr (All-contains (λ (x : Naming). x.pass ≡ k.holder.number → Contains k.holder.pinned x.version) other.namings n (b.namings k.holder holder_is) in_other (sym e ∙ sym w.ran.holder)))

  named : (n : Naming) → Contains t.asks.seen.namings n → n.version < length t.asks.seen.history → Contains (shown_in pairs) n.version
  named n inside below =
      let long = begins_length asks.seen.history t.asks.seen.history since.grows.history in
      let now = front_contains asks.seen.namings t.asks.seen.namings n since.grows.namings inside in
      let in_known = front_contains known.namings asks.seen.namings n a.seen.namings now in
      let in_other = front_contains other.namings asks.seen.namings n beside.namings now in
      shown_by_pass n (omega (arith, long, below)) in_known in_other (both n.pass (All-contains (λ (x : Naming). x.pass < 2) known.namings n a.namers in_known))

  -- the list of the one worker's outcomes is all that there are
  alone : all_pairs (pairs ∷ []) ≡ pairs
  alone = append-nil pairs

  module _ (zone : Version) (opens : StandsAs s.opening zone) where
    abbrev Made : Pairs
    Made = all_pairs (pairs ∷ [])

    made_once : (j : ℕ) → 0 < j → j ≤ length asks.seen.history → times_made j Made ≡ 1
    made_once j some le = subst (λ (l : Pairs). times_made j l ≡ 1) (sym alone) (once j some le)

    made_so : AllByRecursion (Replayed s asks.seen.history) Made
    made_so = subst (AllByRecursion (Replayed s asks.seen.history)) (sym alone) all_replayed

    pub versions_are : AreVersions s asks.seen.history (versions_by s zone commands os)
    versions_are = versions_stand s asks.seen.history zone Made opens made_so made_once

    deeds : Deeds
    deeds = record { shown = shown_in Made; made_by = λ j. asked_at j Made }

    explained : Explains s deeds t.asks.seen
    unfolding deeds
    explained = record {
      namings = λ n inside below. subst (λ (l : Pairs). Contains (shown_in l) n.version) (sym alone) (named n inside below);
      commits = λ before e begins. all_asked s asks.seen.history Made made_so made_once before e (begins_more asks.seen.history t.asks.seen.history (before ++ e ∷ []) since.grows.history begins);
    }

    along : AllAlong (judged_by s (versions_by s zone commands os) deeds) (pairs ∷ [])
    along = (w.ran.work.along (versions_by s zone commands os) deeds (versions_front s asks.seen.history t.asks.seen.history (versions_by s zone commands os) since.grows.history versions_are) explained, tt)

    pub comes_to : ComesTo s zone commands os (length asks.seen.history)
    unfolding deeds
    comes_to =
        let long = begins_length asks.seen.history t.asks.seen.history since.grows.history in
        record {
          lawful = record {
            once = made_once;
            none_above = subst (AllByRecursion (λ (p : Pair). p.1.version ≤ length asks.seen.history)) (sym alone)
                (all_weaker (λ (p : Pair). p.1.version ≤ length t.asks.seen.history) (λ (p : Pair). p.1.version ≤ length asks.seen.history) pairs (λ p le. omega (arith, le, long)) w.ran.work.none_above);
            along = along;
          };
          tell = w.ran.told (versions_by s zone commands os) (versions_front s asks.seen.history t.asks.seen.history (versions_by s zone commands os) since.grows.history versions_are);
        }

    pub ends_at : (last : Last) → last.version ≡ length asks.seen.history → last.names ≡ length (version_after applied s.opening asks.seen.history) → last.nodes ≡ nodes (keys_of (version_after applied s.opening asks.seen.history)) → EndsAt s zone commands os last
    ends_at last is names many =
        let set = versions_by s zone commands os in
        let stands = versions_are (length asks.seen.history) (omega arith) in
        let entries : version_after applied s.opening asks.seen.history ≡ map trie_entry (versions_by s zone commands os (length asks.seen.history)) = sym (index_last s.opening asks.seen.history (length asks.seen.history) refl) ∙ sym stands.entries in
        record {
          comes_to = subst (ComesTo s zone commands os) (sym is) comes_to;
          names_are = names ∙ ap (λ (es : Entries). length es) entries ∙ length-map (versions_by s zone commands os (length asks.seen.history)) trie_entry ∙ ap (λ (n : ℕ). length (versions_by s zone commands os n)) (sym is);
          nodes_are = many ∙ ap (λ (es : Entries). nodes (keys_of es)) entries ∙ ap (λ (n : ℕ). node_count (versions_by s zone commands os n)) (sym is);
        }

-- ---- a sitting, from its beginning on

-- what was told to the second pass changes nothing
work_still : (s : OpenedWith) (numbers : Numbers) (t : WorkerPasses) (commands : List Command) (os : List Outcome) (asks holds : Known) (held : Bool) → asks ≡ t.asks → holds.seen ≡ t.holds.seen → holds.pass ≡ t.holds.pass → held ≡ t.held → AtWork s numbers t commands os
    → AtWork s numbers (record { asks = asks; holds = holds; held = held }) commands os
work_still s numbers t commands os asks holds held same seen pass hold w =
    subst (λ (v : Known). AtWork s numbers (record { asks = v; holds = holds; held = held }) commands os) (sym same)
    (subst (λ (h : Bool). AtWork s numbers (record { asks = t.asks; holds = holds; held = h }) commands os) (sym hold) (record {
      alike = w.alike;
      progress = record { seen = w.progress.seen; held = holds_so t.held _ w.progress.held };
      under = record {
        opening = ap first_version seen ∙ w.under.opening;
        history = subst (λ x. StartsWith t.asks.seen.history x.history) (sym seen) w.under.history;
      };
      ran = worker_back s numbers t t.asks holds t.held commands os refl pass w.ran;
    }))
  where
    holds_so : (b : Bool) (v : Option ℕ) → HoldsLast t b v → HoldsLast (record { asks = t.asks; holds = holds; held = t.held }) b v
    holds_so false v h = h
    holds_so true v h = h ∙ ap (λ x. Some (length x.history)) (sym seen)

pub sits_still : (s : OpenedWith) (t : WorkerPasses) (commands : List Command) (os : List Outcome) (asks holds : Known) (held : Bool) → asks ≡ t.asks → holds.seen ≡ t.holds.seen → holds.pass ≡ t.holds.pass → held ≡ t.held → Sits s t commands os
    → Sits s (record { asks = asks; holds = holds; held = held }) commands os
sits_still s t commands os asks holds held same seen pass hold w = record {
  two = w.two;
  numbers = w.numbers;
  both = w.both;
  work = work_still s w.numbers t commands os asks holds held same seen pass hold w.work;
}

-- the next command
pub sits_on : (s : OpenedWith) (old new : WorkerPasses) (commands : List Command) (os : List Outcome) (c : Command) (o : Outcome) → is_told old.asks.seen.opening ≡ true → MayCome old.held c → Sits s old commands os → Step s c o old new → Sits s new (commands ++ c ∷ []) (os ++ o ∷ [])
sits_on s old new commands os c o told may w step =
    let k = w.work in
    let at : WorkerAt s w.numbers old commands (c ∷ []) os = record {
      alike = k.alike;
      progress = k.progress;
      under = k.under;
      told = k.ran.told;
      work = k.ran.work;
      asker = k.ran.asker;
      holder = k.ran.holder;
      turn = (may, tt);
    } in
    let n = worker_goes_on s w.numbers old new commands c [] os o (opened_same new.asks.seen old.asks.seen told step.asks) at step in
    record {
      two = w.two;
      numbers = w.numbers;
      both = w.both;
      work = record { alike = n.alike; progress = n.progress; under = n.under; ran = record { told = n.told; work = n.work; asker = n.asker; holder = n.holder } };
    }

-- two passes that have done nothing
pub sits_down : (s : OpenedWith) (spare asks : Known) → s.passes ≡ 2 → AreNew s.opening (spare ∷ asks ∷ []) → AreAll 2 (spare ∷ asks ∷ []) → Sits s (ended asks spare) [] []
sits_down s spare asks two new all =
    let numbers : Numbers = record { asker = new.1.0.0; holder = new.0.0 } in
    let n = worker_starts s numbers asks spare [] (record { asker = new.1.0.1; holder = new.0.1 }) tt in
    record {
      two = two;
      numbers = numbers;
      both = λ number few.
          let v = all number few in
          elim (contains_cases spare v.0 (asks ∷ []) v.1) [
            | inl e ↦ inr (numbered spare new.0.0 number new.0.1 (ap (λ (x : Known). number_of x.pass) e ∙ v.2))
            | inr more ↦ inl (numbered asks new.1.0.0 number new.1.0.1 (ap (λ (x : Known). number_of x.pass) (only asks v.0 more) ∙ v.2))
          ];
      work = record { alike = n.alike; progress = n.progress; under = n.under; ran = record { told = n.told; work = n.work; asker = n.asker; holder = n.holder } };
    }
  where
    only : (x y : Known) → Contains (x ∷ []) y → x ≡ y
    only x y c = ⊎_elim (λ (e : x ≡ y). e) (λ (none : Contains [] y). absurd (let l = none.1 in omega arith)) (contains_cases x y [] c)

    numbered : (v : Known) (n number : ℕ) → IsNew n s.opening v → number_of v.pass ≡ number + 1 → n ≡ number
    numbered v n number is e = let k : is.own.number + 1 ≡ number + 1 = sym (ap number_of is.is_own) ∙ e in sym is.numbered ∙ (let z : is.own.number ≡ number = omega (arith, k) in z)

-- ---- as the calls tell it

-- both passes were accounted for, and nothing else was done
pub tells_all : (s : OpenedWith) (t : WorkerPasses) (commands : List Command) (os : List Outcome) (w : Sits s t commands os) (count : ℕ) → s.passes ≡ count → is_told t.asks.seen.opening ≡ true → (asks holds : Known) (known other : AllSeen) → Accounts count t.asks known → Accounts count holds other
    → IsPartOf other t.asks.seen → asks ≡ t.asks → holds.pass ≡ t.holds.pass → (zone : Version) → StandsAs s.opening zone → ComesTo s zone commands os (length asks.seen.history) × AreVersions s asks.seen.history (versions_by s zone commands os)
tells_all s t commands os w count counted told asks holds known other a b beside same still zone opens =
    let two : count ≡ 2 = sym counted ∙ w.two in
    let a2 = subst (λ (n : ℕ). Accounts n t.asks known) two a in
    let b2 = subst (λ (n : ℕ). Accounts n holds other) two b in
    let since = goes_same t.asks told in
    subst (λ (v : Known). ComesTo s zone commands os (length v.seen.history) × AreVersions s v.seen.history (versions_by s zone commands os)) (sym same) (
      comes_to s w.numbers t commands os w.both w.work t.asks holds known other a2 b2 beside since still zone opens,
      versions_are s w.numbers t commands os w.both w.work t.asks holds known other a2 b2 beside since still zone opens,
    )

-- the last version was measured, and then both passes were accounted for
pub ends_all : (s : OpenedWith) (t : WorkerPasses) (commands : List Command) (os : List Outcome) (w : Sits s t commands os) (count : ℕ) → s.passes ≡ count → is_told t.asks.seen.opening ≡ true → (asks holds : Known) (last : Last) (known other : AllSeen) → Measured t.asks asks last → Accounts count asks known → Accounts count holds other
    → IsPartOf other asks.seen → holds.pass ≡ t.holds.pass → (zone : Version) → StandsAs s.opening zone → EndsAt s zone commands os last
ends_all s t commands os w count counted told asks holds last known other m a b beside still zone opens =
    let two : count ≡ 2 = sym counted ∙ w.two in
    let opened : version_seen asks.seen ≡ version_after applied s.opening asks.seen.history =
    ap (λ (o : Entries). version_after applied o asks.seen.history) (opened_same asks.seen t.asks.seen told m.grows ∙ w.work.ran.work.opened) in
    ends_at s w.numbers t commands os w.both w.work asks holds known other (subst (λ (n : ℕ). Accounts n asks known) two a) (subst (λ (n : ℕ). Accounts n holds other) two b) beside (goes_measured t.asks asks last m) still zone opens
    last m.version (m.names ∙ ap (λ (es : Entries). length es) opened) (m.nodes ∙ ap (λ (es : Entries). nodes (keys_of es)) opened)

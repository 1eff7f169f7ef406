-- What all workers together have come to.
use Rattle.std.proofs.Common.{◌≡◌, ◌∙◌, ◌≢◌, ◌⊎◌, inl, inr, ⊎_elim, ℕ, zero, suc, ◌+◌, ◌-◌, ◌<◌, ◌≤◌, Bool, true, false, cond, eqb, List, [], ◌∷◌, ◌++◌, length, map, Option, Some, None, refl, sym, ap, subst, arith, append-nil, length-append, Ok, eq-eqb}
use Rattle.std.specs.Prelude.{Contains}
use Rattle.std.proofs.lemmas.Bool.Decides.{nat_tests}
use Rattle.std.proofs.lemmas.List.{length-map}
use Rattle.std.proofs.lemmas.List.Elements.{Contains-append_left, Contains-append_right, Contains-push}
use Rattle.std.proofs.lemmas.Bool.{and_parts}
use Rattle.std.specs.List.{AllByRecursion}
use Rattle.zone_model.specs.Versions.{Version}
use Rattle.zone_model.specs.Transactions.{whole}
use Rattle.zone_answer.specs.Standing.{trie_entry}
use Rattle.trie_model.specs.Shape.{nodes, keys_of}
use Rattle.job_model.specs.Sizes.{node_count}
use Rattle.job_model.specs.Outcomes.{Pair, is_committed, made, asked_by, asked_at, accepted_or, times_made, version_at, AllAlong, all_pairs, shown_in}
use Rattle.job_report.specs.Outcomes.{pairs_of, job_pairs, versions_made, AllTell}
use Rattle.shared_cells.specs.declared.view.Naming.{Naming}
use Rattle.shared_cells.specs.History.{StartsWith, entries_by, version_after}
use Rattle.shared_cells.specs.Views.{number_of}
use Rattle.qp_multi.specs.Operations.{applied}
use Rattle.qp_multi.specs.Passes.{Known}
use Rattle.job_commands.specs.Histories.{OpenedWith, Commit, Entries, index_at, StandsAs, AreVersions, AreAsked, Deeds, Explains, IsAsked, judged_by, times_by}
use Rattle.job_commands.specs.Works.{Replayed}
use Rattle.job_commands.specs.Closings.{Some', AreApart, Worker, second_view, workers_views, views_of, numbers_in, commands_in, outcomes_in, IsPass, Closed, MainSees}
use Rattle.job_commands.specs.Runs.{IsRun}
use Rattle.job_commands.proofs.HistoryLaws.{begins_more, begins_length, index_last, versions_front, times_none, times_front, times_past}
use Rattle.job_commands.proofs.WorkLaws.{Pairs, Own, times-append, shown-append, replayed_more}
use Rattle.report_laws.proofs.ListLemmas.{all_append, all_both, all_weaker}

-- ---- elements

pub here : {A : Type 0} (x : A) (xs : List A) → Contains (x ∷ xs) x
here x xs = Contains-append_left (x ∷ []) xs x (Contains-push [] x)

pub there : {A : Type 0} (y x : A) (xs : List A) → Contains xs x → Contains (y ∷ xs) x
there y x xs h = Contains-append_right (y ∷ []) xs x h

-- ---- the commit that made a version

pub record Author (history : List Commit) (j : ℕ) : Type 0 where
  pub commit : Commit
  pub inside : Contains history commit
  pub times : (author : ℕ) → times_by author j history ≡ cond (eqb commit.author author) 1 0

pub author_of : (history : List Commit) (j : ℕ) → 0 < j → j ≤ length history → Author history j
author_of [] j some le = absurd (omega arith)
author_of (e ∷ history) zero some le = absurd (omega arith)
author_of (e ∷ history) (suc zero) some le = record { commit = e; inside = here e history; times = λ author. refl }
author_of (e ∷ history) (suc (suc j)) some le = further (author_of history (suc j) (omega arith) (omega arith))
  where
    further : Author history (suc j) → Author (e ∷ history) (suc (suc j))
    further a = record { commit = a.commit; inside = there e a.commit history a.inside; times = a.times }

-- ---- what a history has of a pass

-- the pass has told of just its commits in it
abbrev pub HasEntries : List Commit → Known → Type 0
HasEntries history v = (own : Own) → v.pass ≡ Some own → own.entries ≡ entries_by own.number history

abbrev pub number_in : Option Own → ℕ
number_in None = 0
number_in (Some o) = o.number

-- a pass that has committed nothing made no version
pub no_commits : (history : List Commit) (j : ℕ) (v : Known) (own : Own) (a : Author history j) → v.pass ≡ Some own → own.entries ≡ [] → HasEntries history v → IsPass a.commit.author v → ⊥
no_commits history j v own a is none entries pass =
    let same : own.number ≡ a.commit.author = ap number_in (sym is ∙ pass.1) ∙ pass.2 in
    let empty : entries_by own.number history ≡ [] = sym (entries own is) ∙ none in
    let zero_times : times_by own.number j history ≡ 0 = times_none own.number j history empty in
    let one : times_by own.number j history ≡ 1 = a.times own.number ∙ ap (λ (b : Bool). cond b 1 0) (eq-eqb a.commit.author own.number (sym same)) in
    absurd (let z : 0 ≡ 1 = sym zero_times ∙ one in cc)

-- it is no longer than what was seen of it, if nothing comes behind that
pub nothing_past : (history seen : List Commit) → StartsWith history seen → (0 < length history → length seen < length history → ⊥) → history ≡ seen
nothing_past history seen front never = by_rest front.0 front.1
  where
    by_rest : (rest : List Commit) → history ≡ seen ++ rest → history ≡ seen
    by_rest [] e = e ∙ append-nil seen
    by_rest (x ∷ rest) e =
        let long : length history ≡ length seen + suc (length rest) = ap length e ∙ length-append seen (x ∷ rest) in
        absurd (never (omega (arith, long)) (omega (arith, long)))

-- ---- the versions that outcomes make are those of the history, if each was made once

module _ (s : OpenedWith) (history : List Commit) where
  abbrev Makes : ℕ → Version → Pairs → Type 0
  Makes j base pairs = (next : Version) × (whole s.origin (asked_at j pairs) base ≡ Ok next) × StandsAs (index_at s.opening history j) next

  found : (j : ℕ) (base : Version) (pairs : Pairs) → times_made j pairs ≡ 1 → AllByRecursion (Replayed s history) pairs → StandsAs (index_at s.opening history (j - 1)) base → Makes j base pairs
  found j base [] once r b = absurd cc
  found j base (p ∷ pairs) once r b = by_made (λ fewer. found j base pairs fewer r.1 b) (made j p) refl
    where
      by_made : (times_made j pairs ≡ 1 → Makes j base pairs) → (t : Bool) → made j p ≡ t → Makes j base (p ∷ pairs)
      by_made rest true e =
          let both = and_parts (is_committed p.1.ended) (eqb p.1.version j) e in
          let same : p.1.version ≡ j = (let t : eqb p.1.version j ≡ true = both.1 in grind (arith, nat_tests)) in
          let replayed = (r.0 both.0).2 base (subst (λ (n : ℕ). StandsAs (index_at s.opening history (n - 1)) base) (sym same) b) in (
            replayed.0,
            ap (λ (t : Bool). whole s.origin (cond t (asked_by p.0) (asked_at j pairs)) base) e ∙ replayed.1,
            subst (λ (n : ℕ). StandsAs (index_at s.opening history n) replayed.0) same replayed.2,
          )
      by_made rest false e =
          let fewer : times_made j pairs ≡ 1 = sym (ap (λ (t : Bool). cond t 1 0 + times_made j pairs) e ∙ (let z : 0 + times_made j pairs ≡ times_made j pairs = omega arith in z)) ∙ once in
          let m = rest fewer in (
            m.0,
            ap (λ (t : Bool). whole s.origin (cond t (asked_by p.0) (asked_at j pairs)) base) e ∙ m.1,
            m.2,
          )

  pub versions_stand : (zone : Version) (pairs : Pairs) → StandsAs s.opening zone → AllByRecursion (Replayed s history) pairs → ((j : ℕ) → 0 < j → j ≤ length history → times_made j pairs ≡ 1) → AreVersions s history (version_at s.origin zone pairs)
  versions_stand zone pairs opens r once zero le = opens
  versions_stand zone pairs opens r once (suc j) le =
      let lt : j ≤ length history = omega arith in
      let one : suc j - 1 ≡ j = omega arith in
      let before = versions_stand zone pairs opens r once j lt in
      let m = found (suc j) (version_at s.origin zone pairs j) pairs (once (suc j) (omega arith) le) r (subst (λ (n : ℕ). StandsAs (index_at s.opening history n) (version_at s.origin zone pairs j)) (sym one) before) in
      subst (StandsAs (index_at s.opening history (suc j))) (sym (ap (accepted_or (version_at s.origin zone pairs j)) m.1)) m.2

  -- ---- commits do what was asked for

  each_asked : (j : ℕ) (before : List Commit) (e : Commit) (pairs : Pairs) → StartsWith history (before ++ e ∷ []) → length before + 1 ≡ j → times_made j pairs ≡ 1 → AllByRecursion (Replayed s history) pairs → IsAsked s (asked_at j pairs) before e.change
  each_asked j before e [] begins numbered once r = absurd cc
  each_asked j before e (p ∷ pairs) begins numbered once r = by_made (λ fewer. each_asked j before e pairs begins numbered fewer r.1) (made j p) refl
    where
      by_made : (times_made j pairs ≡ 1 → IsAsked s (asked_at j pairs) before e.change) → (t : Bool) → made j p ≡ t → IsAsked s (asked_at j (p ∷ pairs)) before e.change
      by_made rest true is =
          let both = and_parts (is_committed p.1.ended) (eqb p.1.version j) is in
          let same : p.1.version ≡ j = (let t : eqb p.1.version j ≡ true = both.1 in grind (arith, nat_tests)) in
          subst (λ (t : Bool). IsAsked s (cond t (asked_by p.0) (asked_at j pairs)) before e.change) (sym is) ((r.0 both.0).1 before e begins (numbered ∙ sym same))
      by_made rest false is =
          let fewer : times_made j pairs ≡ 1 = sym (ap (λ (t : Bool). cond t 1 0 + times_made j pairs) is ∙ (let z : 0 + times_made j pairs ≡ times_made j pairs = omega arith in z)) ∙ once in
          subst (λ (t : Bool). IsAsked s (cond t (asked_by p.0) (asked_at j pairs)) before e.change) (sym is) (rest fewer)

  pub all_asked : (pairs : Pairs) → AllByRecursion (Replayed s history) pairs → ((j : ℕ) → 0 < j → j ≤ length history → times_made j pairs ≡ 1) → AreAsked s (λ j. asked_at j pairs) history
  all_asked pairs r once before e begins =
      let long = begins_length history (before ++ e ∷ []) begins in
      each_asked (length before + 1) before e pairs begins refl (once (length before + 1) (omega arith) (omega (arith, long, length-append before (e ∷ [])))) r

-- ---- a version was made once, since the numbers of the passes are apart

module _ (history : List Commit) (j : ℕ) where
  -- how often it was made by passes of these numbers
  abbrev pub total : List ℕ → ℕ
  total [] = 0
  total (n ∷ ns) = times_by n j history + total ns

  none_else : (ns : List ℕ) (a : Author history j) → AllByRecursion (λ n. n ≢ a.commit.author) ns → total ns ≡ 0
  none_else [] a others = refl
  none_else (n ∷ ns) a others =
      let no : eqb a.commit.author n ≡ false = (let m = others.0 in grind (arith, nat_tests)) in
      let none : times_by n j history ≡ 0 = a.times n ∙ ap (λ (b : Bool). cond b 1 0) no in
      let rest : total ns ≡ 0 = none_else ns a others.1 in
      omega (arith, none, rest)

  pub total_one : (ns : List ℕ) (a : Author history j) → Some' (λ n. n ≡ a.commit.author) ns → AreApart ns → total ns ≡ 1
  total_one [] a one_of apart = absurd one_of
  total_one (n ∷ ns) a (inl same) apart =
      let one : times_by n j history ≡ 1 = a.times n ∙ ap (λ (b : Bool). cond b 1 0) (eq-eqb a.commit.author n (sym same)) in
      let rest : total ns ≡ 0 = none_else ns a (all_weaker (λ k. n ≢ k) (λ k. k ≢ a.commit.author) ns (λ k differ e. differ (same ∙ sym e)) apart.0) in
      omega (arith, one, rest)
  total_one (n ∷ ns) a (inr more) apart =
      let m : n ≢ a.commit.author = differs ns more apart.0 in
      let no : eqb a.commit.author n ≡ false = grind (arith, nat_tests) in
      let none : times_by n j history ≡ 0 = a.times n ∙ ap (λ (b : Bool). cond b 1 0) no in
      let rest : total ns ≡ 1 = total_one ns a more apart.1 in
      omega (arith, none, rest)
    where
      differs : (ks : List ℕ) → Some' (λ k. k ≡ a.commit.author) ks → AllByRecursion (λ k. n ≢ k) ks → n ≢ a.commit.author
      differs [] one_of others = absurd one_of
      differs (k ∷ ks) (inl e) others = λ h. others.0 (h ∙ sym e)
      differs (k ∷ ks) (inr further) others = differs ks further others.1

-- ---- passes, with a second one of a worker or without

rest_all : (P : Known → Type 0) (two : Bool) (second : Known) (others : List Known) (main : Known) → AllByRecursion P ((second_view two second ++ others) ++ main ∷ []) → AllByRecursion P (others ++ main ∷ [])
rest_all P true second others main all = all.1
rest_all P false second others main all = all

pub second_all : (P : Known → Type 0) (two : Bool) (second : Known) (others : List Known) (main : Known) → two ≡ true → AllByRecursion P ((second_view two second ++ others) ++ main ∷ []) → P second
second_all P true second others main is all = all.0
second_all P false second others main is all = absurd cc

rest_some : (P : Known → Type 0) (two : Bool) (second : Known) (others : List Known) (main : Known) → Some' P ((second_view two second ++ others) ++ main ∷ []) → ((two ≡ true) × P second) ⊎ Some' P (others ++ main ∷ [])
rest_some P true second others main (inl here) = inl (refl, here)
rest_some P true second others main (inr more) = inr more
rest_some P false second others main some' = inr some'

rest_numbers : (P : ℕ → Type 0) (two : Bool) (second : Known) (others : List Known) (main : Known) → AllByRecursion P (numbers_in ((second_view two second ++ others) ++ main ∷ [])) → AllByRecursion P (numbers_in (others ++ main ∷ []))
rest_numbers P true second others main all = all.1
rest_numbers P false second others main all = all

rest_apart : (two : Bool) (second : Known) (others : List Known) (main : Known) → AreApart (numbers_in ((second_view two second ++ others) ++ main ∷ [])) → AreApart (numbers_in (others ++ main ∷ []))
rest_apart true second others main apart = apart.1
rest_apart false second others main apart = apart

-- the passes of the workers behind one
pub behind : {s : OpenedWith} (main : Known) (P : Known → Type 0) (w : Worker s) (ws : List (Worker s)) → AllByRecursion P (views_of main (w ∷ ws)) → AllByRecursion P (views_of main ws)
behind main P w ws all = rest_all P w.has_second w.worker_passes.holds (workers_views ws) main all.1

module _ (s : OpenedWith) (history : List Commit) (namings : List Naming) (main : Known) where
  -- the numbers of the passes that may have made versions
  abbrev askers : List (Worker s) → List ℕ
  askers ws = map (λ (w : Worker s). w.numbers.asker) ws

  abbrev Sees : Known → Type 0
  Sees v = StartsWith history v.seen.history

  -- of a worker's commits the history has those up to its last one
  whole_times : (w : Worker s) (j : ℕ) → HasEntries history w.worker_passes.asks → Sees w.worker_passes.asks → times_made j (pairs_of w.commands w.outcomes.list.items) ≡ times_by w.numbers.asker j history
  whole_times w j entries sees =
      let k = w.ran.work in
      let all = entries k.asker k.is_asker in
      k.made j
      ∙ sym (times_front k.asker.number j history k.committed (begins_more history w.worker_passes.asks.seen.history k.committed sees k.front) (sym all ∙ k.mine))
      ∙ ap (λ (m : ℕ). times_by m j history) w.ran.asker

  abbrev Made : List (Worker s) → Pairs
  Made ws = all_pairs (job_pairs (commands_in ws) (outcomes_in ws))

  all_times : (ws : List (Worker s)) (j : ℕ) → AllByRecursion (HasEntries history) (views_of main ws) → AllByRecursion Sees (views_of main ws) → times_made j (Made ws) ≡ total history j (askers ws)
  all_times [] j e b = refl
  all_times (w ∷ ws) j e b =
      times-append j (pairs_of w.commands w.outcomes.list.items) (Made ws)
      ∙ ap (λ (k : ℕ). k + times_made j (Made ws)) (whole_times w j e.0 b.0)
      ∙ ap (λ (k : ℕ). times_by w.numbers.asker j history + k) (all_times ws j (behind main (HasEntries history) w ws e) (behind main Sees w ws b))

  -- a commit's pass is one of the workers' first passes
  among : (ws : List (Worker s)) (j : ℕ) (a : Author history j) (own : Own) → main.pass ≡ Some own → own.entries ≡ [] → AllByRecursion (HasEntries history) (views_of main ws) → Some' (IsPass a.commit.author) (views_of main ws) → Some' (λ n. n ≡ a.commit.author) (askers ws)
  among [] j a own is none e (inl pass) = absurd (no_commits history j main own a is none e.0 pass)
  among [] j a own is none e (inr more) = absurd more
  among (w ∷ ws) j a own is none e (inl pass) = inl (sym w.ran.asker ∙ ap number_in (sym w.ran.work.is_asker ∙ pass.1) ∙ pass.2)
  among (w ∷ ws) j a own is none e (inr more) = ⊎_elim
      (λ (second : (w.has_second ≡ true) × IsPass a.commit.author w.worker_passes.holds).
      absurd (no_commits history j w.worker_passes.holds w.ran.work.holder a w.ran.work.is_holder w.ran.work.none_held (second_all (HasEntries history) w.has_second w.worker_passes.holds (workers_views ws) main second.0 e.1) second.1))
      (λ (further : Some' (IsPass a.commit.author) (views_of main ws)). inr (among ws j a own is none (behind main (HasEntries history) w ws e) further))
      (rest_some (IsPass a.commit.author) w.has_second w.worker_passes.holds (workers_views ws) main more)

  -- the numbers of the workers' passes are those of their views
  asker_number : (w : Worker s) → number_of w.worker_passes.asks.pass ≡ w.numbers.asker + 1
  asker_number w = ap number_of w.ran.work.is_asker ∙ ap (λ (i : ℕ). i + 1) w.ran.asker

  others_apart : (w : Worker s) (ws : List (Worker s)) → AllByRecursion (λ (y : ℕ). number_of w.worker_passes.asks.pass ≢ y) (numbers_in (views_of main ws)) → AllByRecursion (λ n. w.numbers.asker ≢ n) (askers ws)
  others_apart w [] b = tt
  others_apart w (v ∷ vs) b = (
    (λ e. b.0 (asker_number w ∙ ap (λ (i : ℕ). i + 1) e ∙ sym (asker_number v))),
    others_apart w vs (rest_numbers (λ (y : ℕ). number_of w.worker_passes.asks.pass ≢ y) v.has_second v.worker_passes.holds (workers_views vs) main b.1),
  )

  apart_numbers : (ws : List (Worker s)) → AreApart (numbers_in (views_of main ws)) → AreApart (askers ws)
  apart_numbers [] a = tt
  apart_numbers (w ∷ ws) a = (
    others_apart w ws (rest_numbers (λ (y : ℕ). number_of w.worker_passes.asks.pass ≢ y) w.has_second w.worker_passes.holds (workers_views ws) main a.0),
    apart_numbers ws (rest_apart w.has_second w.worker_passes.holds (workers_views ws) main a.1),
  )

  -- ---- each version was made once

  pub made_once : (ws : List (Worker s)) (own : Own) → main.pass ≡ Some own → own.entries ≡ [] → Closed (views_of main ws) history namings → (j : ℕ) → 0 < j → j ≤ length history → times_made j (Made ws) ≡ 1
  made_once ws own is none c j some le =
      let a = author_of history j some le in
      all_times ws j c.entries c.begins ∙ total_one history j (askers ws) a (among ws j a own is none c.entries (c.authors a.commit a.inside)) (apart_numbers ws c.apart)

  -- ---- the history ends with what main has seen

  beyond : (ws : List (Worker s)) (j most : ℕ) → AllByRecursion (HasEntries history) (views_of main ws) → AllByRecursion Sees (views_of main ws) → AllByRecursion (λ (w : Worker s). length w.worker_passes.asks.seen.history ≤ most) ws → most < j → total history j (askers ws) ≡ 0
  beyond [] j most e b l past = refl
  beyond (w ∷ ws) j most e b l past =
      let k = w.ran.work in
      let short = begins_length w.worker_passes.asks.seen.history k.committed k.front in
      let long = l.0 in
      let beyond_it : length k.committed < j = omega (arith, short, long, past) in
      let none : times_by w.numbers.asker j history ≡ 0 = sym (whole_times w j e.0 b.0) ∙ k.made j ∙ times_past k.asker.number j k.committed beyond_it in
      let rest : total history j (askers ws) ≡ 0 = beyond ws j most (behind main (HasEntries history) w ws e) (behind main Sees w ws b) l.1 past in
      omega (arith, none, rest)

  main_sees : (ws : List (Worker s)) → AllByRecursion Sees (views_of main ws) → Sees main
  main_sees [] b = b.0
  main_sees (w ∷ ws) b = main_sees ws (behind main Sees w ws b)

  pub ends_there : (ws : List (Worker s)) → Closed (views_of main ws) history namings → MainSees main ws → history ≡ main.seen.history
  ends_there ws c m =
      let b = main_sees ws c.begins in
      nothing_past history main.seen.history b (λ some past.
      let le : length history ≤ length history = omega arith in
      let one = made_once ws m.own m.is_own m.none c (length history) some le in
      let none = beyond ws (length history) (length main.seen.history) c.entries c.begins
      (all_weaker (λ (w : Worker s). StartsWith main.seen.history w.worker_passes.asks.seen.history) (λ (w : Worker s). length w.worker_passes.asks.seen.history ≤ length main.seen.history) ws (λ w b. begins_length main.seen.history w.worker_passes.asks.seen.history b) m.learnt) past in
      absurd (let z : 1 ≡ 0 = sym one ∙ all_times ws (length history) c.entries c.begins ∙ none in cc))

  -- ---- what all workers' outcomes are

  all_replayed : (ws : List (Worker s)) → AllByRecursion Sees (views_of main ws) → AllByRecursion (Replayed s history) (Made ws)
  all_replayed [] b = tt
  all_replayed (w ∷ ws) b =
      all_append (Replayed s history) (pairs_of w.commands w.outcomes.list.items) (Made ws)
      (all_both (λ (q : Pair). q.1.version ≤ length w.worker_passes.asks.seen.history) (Replayed s w.worker_passes.asks.seen.history) (Replayed s history) (pairs_of w.commands w.outcomes.list.items)
      (λ q le h. replayed_more s history w.worker_passes.asks.seen.history b.0 q le h) w.ran.work.none_above w.ran.work.replayed)
      (all_replayed ws (behind main Sees w ws b))

  pub all_below : (ws : List (Worker s)) → AllByRecursion Sees (views_of main ws) → AllByRecursion (λ (p : Pair). p.1.version ≤ length history) (Made ws)
  all_below [] b = tt
  all_below (w ∷ ws) b =
      let long = begins_length history w.worker_passes.asks.seen.history b.0 in
      all_append (λ (p : Pair). p.1.version ≤ length history) (pairs_of w.commands w.outcomes.list.items) (Made ws)
      (all_weaker (λ (p : Pair). p.1.version ≤ length w.worker_passes.asks.seen.history) (λ (p : Pair). p.1.version ≤ length history) (pairs_of w.commands w.outcomes.list.items) (λ p le. omega (arith, le, long)) w.ran.work.none_above)
      (all_below ws (behind main Sees w ws b))

  -- ---- versions that a full index kept are shown

  shown_left : (xs ys : Pairs) (v : ℕ) → Contains (shown_in xs) v → Contains (shown_in (xs ++ ys)) v
  shown_left xs ys v h = subst (λ (l : List ℕ). Contains l v) (sym (shown-append xs ys)) (Contains-append_left (shown_in xs) (shown_in ys) v h)

  shown_right : (xs ys : Pairs) (v : ℕ) → Contains (shown_in ys) v → Contains (shown_in (xs ++ ys)) v
  shown_right xs ys v h = subst (λ (l : List ℕ). Contains l v) (sym (shown-append xs ys)) (Contains-append_right (shown_in xs) (shown_in ys) v h)

  abbrev Pinned : Naming → Known → Type 0
  Pinned n v = (own : Own) × (v.pass ≡ Some own) × (own.number ≡ n.pass) × Contains own.pinned n.version

  pinned_as : (v : Known) (a : Own) (n : Naming) → v.pass ≡ Some a → Pinned n v → Contains a.pinned n.version
  pinned_as v a n is p = subst (λ (l : List ℕ). Contains l n.version) (ap pinned_of (sym p.1 ∙ is)) p.3
    where
      pinned_of : Option Own → List ℕ
      pinned_of None = []
      pinned_of (Some o) = o.pinned

  covered : (ws : List (Worker s)) (n : Naming) (own : Own) → main.pass ≡ Some own → ((v : ℕ) → Contains own.pinned v → v ≡ length main.seen.history) → n.version < length main.seen.history → Some' (Pinned n) (views_of main ws) → Contains (shown_in (Made ws)) n.version
  covered [] n own is pinned below (inl p) = let e = pinned n.version (pinned_as main own n is p) in absurd (omega (arith, e, below))
  covered [] n own is pinned below (inr more) = absurd more
  covered (w ∷ ws) n own is pinned below (inl p) =
      shown_left (pairs_of w.commands w.outcomes.list.items) (Made ws) n.version (w.ran.work.pinned n.version (inl (pinned_as w.worker_passes.asks w.ran.work.asker n w.ran.work.is_asker p)))
  covered (w ∷ ws) n own is pinned below (inr more) = ⊎_elim
      (λ (second : (w.has_second ≡ true) × Pinned n w.worker_passes.holds).
      shown_left (pairs_of w.commands w.outcomes.list.items) (Made ws) n.version (w.ran.work.pinned n.version (inr (pinned_as w.worker_passes.holds w.ran.work.holder n w.ran.work.is_holder second.1))))
      (λ (further : Some' (Pinned n) (views_of main ws)). shown_right (pairs_of w.commands w.outcomes.list.items) (Made ws) n.version (covered ws n own is pinned below further))
      (rest_some (Pinned n) w.has_second w.worker_passes.holds (workers_views ws) main more)

  -- ---- all are lawful

  -- the whole history, and all namings
  abbrev ExplainsAll : Deeds → Type 0
  ExplainsAll deeds = ((n : Naming) → Contains namings n → n.version < length history → Contains deeds.shown n.version) × AreAsked s deeds.made_by history

  explains_each : (deeds : Deeds) (v : Known) → ExplainsAll deeds → Sees v → StartsWith namings v.seen.namings → Explains s deeds v.seen
  explains_each deeds v x b names = record {
    namings = λ n inside below.
        let long = begins_length history v.seen.history b in
        x.0 n (subst (λ (l : List Naming). Contains l n) (sym names.1) (Contains-append_left v.seen.namings names.0 n inside)) (omega (arith, below, long));
    commits = λ before e begins. x.1 before e (begins_more history v.seen.history (before ++ e ∷ []) b begins);
  }

  all_along : (ws : List (Worker s)) (set : ℕ → Version) (deeds : Deeds) → AreVersions s history set → ExplainsAll deeds → AllByRecursion Sees (views_of main ws) → AllByRecursion (λ (v : Known). StartsWith namings v.seen.namings) (views_of main ws)
      → AllAlong (judged_by s set deeds) (job_pairs (commands_in ws) (outcomes_in ws))
  all_along [] set deeds are explains b names = tt
  all_along (w ∷ ws) set deeds are explains b names = (
    w.ran.work.along set deeds (versions_front s history w.worker_passes.asks.seen.history set b.0 are) (explains_each deeds w.worker_passes.asks explains b.0 names.0),
    all_along ws set deeds are explains (behind main Sees w ws b) (behind main (λ (v : Known). StartsWith namings v.seen.namings) w ws names),
  )

  all_tell : (ws : List (Worker s)) (set : ℕ → Version) → AreVersions s history set → AllByRecursion Sees (views_of main ws) → AllTell s.origin set (commands_in ws) (outcomes_in ws)
  all_tell [] set are b = tt
  all_tell (w ∷ ws) set are b = (
    w.ran.told set (versions_front s history w.worker_passes.asks.seen.history set b.0 are),
    all_tell ws set are (behind main Sees w ws b),
  )

  -- The job's run, where main's last question showed a version with so many names.
  pub is_run : (zone : Version) (ws : List (Worker s)) (version names count : ℕ) → StandsAs s.opening zone → Closed (views_of main ws) history namings → MainSees main ws
      → version ≡ length main.seen.history → names ≡ length (version_after applied s.opening main.seen.history) → count ≡ nodes (keys_of (version_after applied s.opening main.seen.history))
      → IsRun s.chunks s.passes s.origin zone (commands_in ws) (outcomes_in ws) version names count
  is_run zone ws version names count opens c m last many_names many_nodes =
      let same = ends_there ws c m in
      let long : version ≡ length history = last ∙ sym (ap length same) in
      let once = made_once ws m.own m.is_own m.none c in
      let are = versions_stand s history zone (Made ws) opens (all_replayed ws c.begins) once in
      let deeds : Deeds = record { shown = shown_in (Made ws); made_by = λ j. asked_at j (Made ws) } in
      let named : (n : Naming) → Contains namings n → n.version < length history → Contains (shown_in (Made ws)) n.version = λ n inside below. covered ws n m.own m.is_own m.pinned (subst (λ (h : List Commit). n.version < length h) same below) (c.namers n inside) in
      let stands = are (length history) (omega arith) in
      record {
        lawful = record {
          once = λ j some le. once j some (omega (arith, le, long));
          none_above = all_weaker (λ (p : Pair). p.1.version ≤ length history) (λ (p : Pair). p.1.version ≤ version) (Made ws) (λ p le. omega (arith, le, long)) (all_below ws c.begins);
          along = all_along ws (versions_made s.origin zone (commands_in ws) (outcomes_in ws)) deeds are (named, all_asked s history (Made ws) (all_replayed ws c.begins) once) c.begins c.names;
        };
        tell = all_tell ws (versions_made s.origin zone (commands_in ws) (outcomes_in ws)) are c.begins;
        names_are =
            many_names ∙ ap (λ (h : List Commit). length (version_after applied s.opening h)) (sym same)
            ∙ ap (λ (es : Entries). length es) (sym (index_last s.opening history (length history) refl)) ∙ ap (λ (es : Entries). length es) (sym stands.entries) ∙ length-map (versions_made s.origin zone (commands_in ws) (outcomes_in ws) (length history)) trie_entry
            ∙ ap (λ (n : ℕ). length (versions_made s.origin zone (commands_in ws) (outcomes_in ws) n)) (sym long);
        nodes_are =
            many_nodes ∙ ap (λ (h : List Commit). nodes (keys_of (version_after applied s.opening h))) (sym same)
            ∙ ap (λ (es : Entries). nodes (keys_of es)) (sym (index_last s.opening history (length history) refl)) ∙ ap (λ (es : Entries). nodes (keys_of es)) (sym stands.entries)
            ∙ ap (λ (n : ℕ). node_count (versions_made s.origin zone (commands_in ws) (outcomes_in ws) n)) (sym long);
      }

-- Workers that are done, one after another.
use Rattle.std.proofs.Common.{true, false, ◌≡◌, ◌∙◌, ⊎_elim, ℕ, ◌+◌, ◌<◌, List, [], ◌∷◌, ◌++◌, length, Some, Result, Ok, IfOk, refl, sym, ap, subst, arith, append_assoc, length-append}
use Rattle.std.specs.Prelude.{Contains, remove, slice_index_or}
use Rattle.std.specs.List.{All}
use Rattle.std.proofs.lemmas.List.{map-append}
use Rattle.std.proofs.lemmas.List.Elements.{All-head, All-tail, Contains-append_left, Contains-append_right, Contains-append_cases}
use Rattle.zone_model.specs.Names.{Name}
use Rattle.job_model.specs.Commands.{Command}
use Rattle.job_report.specs.declared.outcomes.Outcomes.{Outcomes}
use Rattle.shared_cells.specs.declared.view.TableSize.{TableSize}
use Rattle.shared_cells.specs.declared.view.PassView.{PassView}
use Rattle.shared_cells.specs.History.{StartsWith}
use Rattle.shared_cells.specs.Views.{number_of, is_told}
use Rattle.qp_multi.specs.declared.meaning.Operation.{Operation}
use Rattle.qp_multi.specs.Passes.{Known, Learnt}
use Rattle.job_commands.specs.Histories.{OpenedWith, Entries}
use Rattle.job_commands.specs.Commands.{IsIndex, IsOpenedWith}
use Rattle.job_commands.specs.Works.{IsNew, AreNew, WorkerRan, ended, only}
use Rattle.job_commands.specs.Closings.{Worker, worker_views, numbers_in, Handed, Gathers}
use Rattle.job_commands.proofs.HistoryLaws.{begins_more, opened_same}
use Rattle.report_laws.proofs.ListLemmas.{all_weaker}

-- ---- passes that are back

-- main's pass alone
pub handed_main : {W : Type 0} (opening : Entries) (first : W → Known) (before views : List Known) (main : Known) → before ≡ main ∷ views → length before ≡ 1 → AreNew opening before → (views ≡ []) × Handed opening first before views main []
handed_main opening first before [] main is long new =
    let own = (subst (AreNew opening) is new).0.1 in (
      refl,
      subst (λ (l : List Known). Handed opening first l [] main []) (sym is) (record {
        as_many = refl;
        all_back = λ m c. c;
        own = own.own;
        is_own = own.is_own;
        none = own.none;
        unpinned = own.unpinned;
        opened = own.opened;
        learnt = tt;
      }),
    )
handed_main opening first before (v ∷ views) main is long new = absurd (omega (arith, long, ap length is))

numbers_append : (xs ys : List Known) → numbers_in (xs ++ ys) ≡ numbers_in xs ++ numbers_in ys
numbers_append xs ys = map-append (λ (v : Known). number_of v.pass) xs ys

pub numbers_same : (vs : List Known) (a b : Known) → number_of a.pass ≡ number_of b.pass → numbers_in (vs ++ a ∷ []) ≡ numbers_in (vs ++ b ∷ [])
numbers_same [] a b e = ap (λ (n : ℕ). n ∷ []) e
numbers_same (v ∷ vs) a b e = ap (λ (ks : List ℕ). number_of v.pass ∷ ks) (numbers_same vs a b e)

-- those of another worker, which were the first ones
pub handed_more : {W : Type 0} (opening : Entries) (first : W → Known) (before views mine mine' : List Known) (main after : Known) (done : List W) (u : W) → Handed opening first before views main done → length mine ≡ length mine' → numbers_in mine ≡ numbers_in mine' → is_told main.seen.opening ≡ true
    → Learnt main after (first u).seen → Handed opening first (mine ++ before) (mine' ++ views) after (u ∷ done)
handed_more opening first before views mine mine' main after done u h long same told l =
    let rest = numbers_in (views ++ after ∷ []) in
    let numbers : numbers_in ((mine' ++ views) ++ after ∷ []) ≡ numbers_in mine ++ rest =
    ap numbers_in (append_assoc mine' views (after ∷ [])) ∙ numbers_append mine' (views ++ after ∷ []) ∙ ap (λ (ks : List ℕ). ks ++ rest) (sym same) in
    record {
      as_many = (let many = h.as_many in omega (arith, many, long, length-append mine before, length-append mine' views));
      all_back = λ m c. subst (λ (ks : List ℕ). Contains ks m) (sym numbers) (⊎_elim
          (λ (new : Contains (numbers_in mine) m). Contains-append_left (numbers_in mine) rest m new)
          (λ (old : Contains (numbers_in before) m). Contains-append_right (numbers_in mine) rest m
          (subst (λ (ks : List ℕ). Contains ks m) (numbers_same views main after (ap number_of (sym l.pass))) (h.all_back m old)))
          (Contains-append_cases (numbers_in mine) (numbers_in before) m (subst (λ (ks : List ℕ). Contains ks m) (numbers_append mine before) c)));
      own = h.own;
      is_own = l.pass ∙ h.is_own;
      none = h.none;
      unpinned = h.unpinned;
      opened = opened_same after.seen main.seen told l.grows ∙ h.opened;
      learnt = (
        l.learns.history,
        all_weaker (λ w. StartsWith main.seen.history (first w).seen.history) (λ w. StartsWith after.seen.history (first w).seen.history) done
            (λ w b. begins_more after.seen.history main.seen.history (first w).seen.history l.grows.history b) h.learnt,
      );
    }

-- a pass keeps its number
pub number_kept : (opening : Entries) (number : ℕ) (old new : Known) (own : PassView (List Operation)) → IsNew number opening old → new.pass ≡ Some own → own.number ≡ number → number_of old.pass ≡ number_of new.pass
number_kept opening number old new own is pass same = ap number_of is.is_own ∙ ap (λ (n : ℕ). n + 1) (is.numbered ∙ sym same) ∙ sym (ap number_of pass)

-- ---- workers

-- none is left, and of the passes main's alone
pub gathers_main : (s : OpenedWith) (before views : List Known) (main : Known) (ws : List (List Command)) (os : List Outcomes) → before ≡ main ∷ views → length before ≡ 1 → ws ≡ [] → os ≡ [] → AreNew s.opening before → Gathers s before ws os views main
gathers_main s before views main ws os is long none no_outcomes new =
    let h = handed_main s.opening (λ (w : Worker s). w.worker_passes.asks) before views main is long new in record { done = []; commands_are = none; outcomes_are = no_outcomes; views_are = h.0; handed = h.1 }

-- another one, whose passes were the first ones
pub gathers_with : (s : OpenedWith) (before mine : List Known) (ws : List (List Command)) (os : List Outcomes) (views : List Known) (main after : Known) (u : Worker s) → Gathers s before ws os views main → length mine ≡ length (worker_views u) → numbers_in mine ≡ numbers_in (worker_views u)
    → is_told main.seen.opening ≡ true → Learnt main after u.worker_passes.asks.seen → Gathers s (mine ++ before) (u.commands ∷ ws) (u.outcomes ∷ os) (worker_views u ++ views) after
gathers_with s before mine ws os views main after u g long same told l = record {
  done = u ∷ g.done;
  commands_are = ap (λ (ls : List (List Command)). u.commands ∷ ls) g.commands_are;
  outcomes_are = ap (λ (ls : List Outcomes). u.outcomes ∷ ls) g.outcomes_are;
  views_are = ap (λ (vs : List Known). worker_views u ++ vs) g.views_are;
  handed = handed_more s.opening (λ (w : Worker s). w.worker_passes.asks) before views mine (worker_views u) main after g.done u g.handed long same told l;
}

-- it had one
pub gathers_server : (s : OpenedWith) (origin : Name) (size : TableSize) → IsIndex s origin size → (all before : List Known) (pass : Known) (ws : List (List Command)) (os : List Outcomes) (views : List Known) (main after pass' : Known) (w : List Command) (o : Outcomes) → all ≡ pass ∷ before → AreNew s.opening all
    → (AreNew s.opening before → Gathers s before ws os views main) → ((n : ℕ) → IsOpenedWith s origin size pass → IsNew n s.opening pass → WorkerRan s (only n) (ended pass' pass) w o.list.items) → is_told main.seen.opening ≡ true → Learnt main after pass'.seen
    → Gathers s all (w ∷ ws) (o ∷ os) (pass' ∷ views) after
gathers_server s origin size index all before pass ws os views main after pass' w o is new rest runs told l =
    let n = subst (AreNew s.opening) is new in
    let r = runs n.0.0 (record { index = index; opening = n.0.1.opened }) n.0.1 in
    subst (λ (vs : List Known). Gathers s vs (w ∷ ws) (o ∷ os) (pass' ∷ views) after) (sym is)
    (gathers_with s before (pass ∷ []) ws os views main after (record { numbers = only n.0.0; worker_passes = ended pass' pass; has_second = false; commands = w; outcomes = o; ran = r }) (rest n.1) refl
    (ap (λ (k : ℕ). k ∷ []) (number_kept s.opening n.0.0 pass pass' r.work.asker n.0.1 r.work.is_asker r.asker)) told l)

-- ---- the first of a list is taken out

pub first_taken : {A : Type 0} (old new : List A) (x : A) → 0 < length old → x ≡ slice_index_or old 0 x → new ≡ remove old 0 → old ≡ x ∷ new
first_taken [] new x some is rest = absurd (omega (arith, some))
first_taken (y ∷ old) new x some is rest = let e : x ≡ y = is in let r : new ≡ old = rest in cc

pub all_taken : {A : Type 0} (old new : List A) (x : A) (P : A → Type 0) → old ≡ x ∷ new → All P old → P x × All P new
all_taken old new x P is all = let parts = subst (All P) is all in (All-head P x new parts, All-tail P x new parts)

pub at_ok : {A E : Type 0} (r : Result A E) (x : A) (P : A → Type 0) → r ≡ Ok x → IfOk r P → P x
at_ok r x P is h = subst (λ (q : Result _ _). IfOk q P) is h

-- How a job ends, by what main's last question and the end of the index tell.
use Rattle.std.proofs.Common.{◌≡◌, ◌∙◌, ⊎_elim, ℕ, ◌+◌, true, List, [], ◌∷◌, ◌++◌, length, map, Option, Some, None, refl, sym, ap, subst, arith, length-append}
use Rattle.std.specs.Prelude.{Contains}
use Rattle.std.specs.List.{All, AllByRecursion}
use Rattle.std.proofs.lemmas.List.{map-append}
use Rattle.std.proofs.lemmas.List.Elements.{All-push}
use Rattle.pin_core.proofs.Lists.{contains_cases}
use Rattle.zone_model.specs.Versions.{Version}
use Rattle.trie_model.specs.Shape.{nodes, keys_of}
use Rattle.job_model.specs.Commands.{Command}
use Rattle.job_report.specs.declared.outcomes.Outcomes.{Outcomes}
use Rattle.shared_cells.specs.History.{StartsWith, IsPartOf, version_after}
use Rattle.shared_cells.specs.Views.{number_of, is_told, with_pinned}
use Rattle.qp_multi.specs.Operations.{applied}
use Rattle.qp_multi.specs.Passes.{Known, first_version, version_seen}
use Rattle.qp_multi.specs.Closings.{AllSeen, AreAll, Ends}
use Rattle.job_commands.specs.declared.closing.Last.{Last}
use Rattle.job_commands.specs.Histories.{OpenedWith, Entries, StandsAs}
use Rattle.job_commands.specs.Closings.{Worker, workers_views, views_of, numbers_in, commands_in, MainSees, Handed, Gathers}
use Rattle.job_commands.specs.Endings.{Measured}
use Rattle.job_commands.specs.Runs.{IsRun}
use Rattle.job_commands.proofs.HistoryLaws.{begins_more, opened_same}
use Rattle.job_commands.proofs.JobLaws.{here, there, ends_there, is_run}
use Rattle.job_commands.proofs.CloseLaws.{in_map, closed}
use Rattle.job_commands.proofs.GatherLaws.{numbers_same}
use Rattle.job_commands.proofs.WorkLaws.{Own}
use Rattle.report_laws.proofs.ListLemmas.{all_weaker}

pub out_of : {A B : Type 0} (f : A → B) (xs : List A) (y : B) → Contains (map f xs) y → (x : A) × Contains xs x × (f x ≡ y)
out_of f [] y c = absurd (let l = c.1 in omega arith)
out_of f (x ∷ xs) y c =
    ⊎_elim (λ (e : f x ≡ y). (x, here x xs, e)) (λ (more : Contains (map f xs) y). let r = out_of f xs y more in (r.0, there x r.0 xs r.1, r.2)) (contains_cases (f x) y (map f xs) c)

pub number_with : (p : Option Own) (n : ℕ) → number_of (with_pinned p n) ≡ number_of p
number_with None n = refl
number_with (Some own) n = refl

-- Main has asked once more, and all passes are handed in.
pub record HandedIn {W : Type 0} (opening : Entries) (first : W → Known) (count number : ℕ) (views : List Known) (main : Known) (done : List W) : Type 0 where
  pub own : Own
  pub is_own : main.pass ≡ Some own
  pub none : own.entries ≡ []
  pub pinned : own.pinned ≡ number ∷ []
  pub opened : first_version main.seen ≡ opening
  pub learnt : AllByRecursion (λ w. StartsWith main.seen.history (first w).seen.history) done
  pub all : AreAll count (views ++ main ∷ [])
  pub many : length (views ++ main ∷ []) ≡ count

pub handed_in : {W : Type 0} (opening : Entries) (first : W → Known) (before views : List Known) (main after : Known) (count number : ℕ) (done : List W) → Handed opening first before views main done → is_told main.seen.opening ≡ true → IsPartOf after.seen main.seen → after.pass ≡ with_pinned main.pass number
    → length before ≡ count → AreAll count before → HandedIn opening first count number views after done
handed_in opening first before views main after count number done h told grows pass counted all = record {
  own = record h.own { pinned = h.own.pinned ++ number ∷ [] };
  is_own = pass ∙ ap (λ (o : Option Own). with_pinned o number) h.is_own;
  none = h.none;
  pinned = ap (λ (l : List ℕ). l ++ number ∷ []) h.unpinned;
  opened = opened_same after.seen main.seen told grows ∙ h.opened;
  learnt = all_weaker (λ w. StartsWith main.seen.history (first w).seen.history) (λ w. StartsWith after.seen.history (first w).seen.history) done
      (λ w b. begins_more after.seen.history main.seen.history (first w).seen.history grows.history b) h.learnt;
  all = λ n lt.
      let a = all n lt in
      let inside : Contains (numbers_in before) (n + 1) = subst (Contains (numbers_in before)) a.2 (in_map (λ (v : Known). number_of v.pass) before a.0 a.1) in
      let same : number_of main.pass ≡ number_of after.pass = sym (ap number_of pass ∙ number_with main.pass number) in
      out_of (λ (v : Known). number_of v.pass) (views ++ after ∷ []) (n + 1) (subst (λ (ks : List ℕ). Contains ks (n + 1)) (numbers_same views main after same) (h.all_back (n + 1) inside));
  many = (let m = h.as_many in omega (arith, length-append views (after ∷ []), m, counted));
}

pub job_ends : (s : OpenedWith) (before : List Known) (ws : List (List Command)) (os : List Outcomes) (views : List Known) (main after : Known) (asked : Last) → Gathers s before ws os views main → is_told main.seen.opening ≡ true → Measured main after asked → (zone : Version) (count version : ℕ) (last : AllSeen) → StandsAs s.opening zone
    → length before ≡ count → AreAll count before → Ends count (views ++ after ∷ []) version last → IsRun s.chunks s.passes s.origin zone ws os version asked.names asked.nodes
job_ends s before ws os views main after asked g told m zone count version last opens counted all ends =
    let first = λ (w : Worker s). w.worker_passes.asks in
    let back = subst (λ (vs : List Known). Handed s.opening first before vs main g.done) g.views_are g.handed in
    let h = handed_in s.opening first before (workers_views g.done) main after count asked.version g.done back told m.grows m.pass counted all in
    let sees : MainSees after g.done = record {
      own = h.own;
      is_own = h.is_own;
      none = h.none;
      pinned = λ v c. ⊎_elim (λ (e : asked.version ≡ v). sym e ∙ m.version) (λ (none : Contains [] v). absurd (let l = none.1 in omega arith)) (contains_cases asked.version v [] (subst (λ (l : List ℕ). Contains l v) h.pinned c));
      learnt = h.learnt;
    } in
    let ended : Ends count (views_of after g.done) version last = subst (λ (vs : List Known). Ends count (vs ++ after ∷ []) version last) g.views_are ends in
    let c = closed s last after count version g.done sees ended h.all h.many in
    let there = ends_there s last.history last.namings after g.done c sees in
    let same : version_seen after.seen ≡ version_after applied s.opening after.seen.history = ap (λ (o : Entries). version_after applied o after.seen.history) h.opened in
    let r = is_run s last.history last.namings after zone g.done version asked.names asked.nodes opens c sees (ended.version_is ∙ ap length there) (m.names ∙ ap length same)
    (m.nodes ∙ ap (λ (es : Entries). nodes (keys_of es)) same) in
    subst (λ (cs : List (List Command)). IsRun s.chunks s.passes s.origin zone cs os version asked.names asked.nodes) (sym g.commands_are)
    (subst (λ (os' : List Outcomes). IsRun s.chunks s.passes s.origin zone (commands_in g.done) os' version asked.names asked.nodes) (sym g.outcomes_are) r)

-- what is left and main's
pub all_handed : {A : Type 0} (whole rest : List A) (main : A) (P : A → Type 0) → whole ≡ rest ++ main ∷ [] → All P rest → P main → All P whole
all_handed whole rest main P is all one = subst (All P) (sym is) (All-push P rest main all one)

-- what these know
pub with_main : {A : Type 0} (known : A → Known) (passes all : List A) (main : A) → all ≡ passes ++ main ∷ [] → map known all ≡ map known passes ++ known main ∷ []
with_main known passes all main is = ap (map known) is ∙ map-append known passes (main ∷ [])

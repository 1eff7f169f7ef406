-- A script that is read has no more workers than there may be.
use Rattle.std.proofs.Common.{◌≡◌, ℕ, ◌+◌, ◌≤◌, Bool, true, false, List, [], ◌∷◌, ◌++◌, length, Ok, refl, sym, ap, subst, arith, length-append}
use Rattle.std.specs.Prelude.{nat_lt}
use Rattle.std.proofs.lemmas.Bool.Decides.{nat_tests}
use Rattle.zone_model.specs.Names.{Name}
use Rattle.job_model.specs.Commands.{Command}
use Rattle.job_model.specs.Jobs.{Script, lists_of, worker_limit, next_worker, script_of}
use Rattle.job_model.proofs.ScriptLaws.{IsKept, AnyLine, any_lines, free, script_whole}

-- the workers before the last one, and whether one began
abbrev Few : Bool → List (List Command) → Type 0
Few true earlier = length earlier + 1 ≤ worker_limit
Few false earlier = earlier ≡ []

abbrev HasFew : Script → Type 0
HasFew s = Few s.begun s.earlier

next_kept : (s : Script) (begun : Bool) → Few begun s.earlier → nat_lt (length (lists_of (record s { begun = begun }))) worker_limit ≡ true → HasFew (next_worker (record s { begun = begun }))
next_kept s true few room =
    let l : length (s.earlier ++ s.commands ∷ []) + 1 ≤ worker_limit = grind (arith, nat_tests) in l
next_kept s false few room = let none : length s.earlier ≡ 0 = ap (λ (l : List (List Command)). length l) few in omega (arith, none)

kept : (origin : Name) → IsKept origin AnyLine HasFew
kept origin = record {
  worker = λ s few room _. next_kept (free s) s.begun few room;
  command = λ _ _ few _ _. few;
  opens = λ _ _ _ few _. few;
  need = λ _ _ _ few. few;
  operation = λ _ _ _ _ _ _ _ _ _ few _. few;
  block = λ _ _ _ few. few;
}

-- the workers of a script that is read
pub few_workers : (origin : Name) (n : ℕ) (lines : List (List ℕ)) (lists : List (List Command)) → script_of origin n lines ≡ Ok lists → length lists ≤ worker_limit
few_workers origin n lines lists read =
    let whole = script_whole origin AnyLine HasFew (kept origin) refl n lines lists (any_lines lines) read in
    let few : Few true whole.script.earlier = subst (λ (b : Bool). Few b whole.script.earlier) whole.begun whole.fact in
    subst (λ (l : List (List Command)). length l ≤ worker_limit) (sym whole.lists) (omega (arith, few, length-append whole.script.earlier (whole.script.commands ∷ [])))

-- What is said of one worker alone, computed on an example: it asks, takes a snapshot of version 3, makes version 4, asks the snapshot
-- and gives it back.
use Rattle.std.proofs.Common.{◌≡◌, inl, inr, zero, suc, List, [], ◌∷◌, Some, None, refl, arith}
use Rattle.zone_model.specs.Transactions.{no_changes}
use Rattle.job_model.specs.declared.Question.TheVariants.{Dump}
use Rattle.job_model.specs.declared.Ending.TheVariants.{Commit}
use Rattle.job_model.specs.declared.Weight.TheVariants.{Light}
use Rattle.job_model.specs.Commands.{Ask, AskHeld, Block, Hold, Release}
use Rattle.job_model.specs.Outcomes.{Committed, Pair, Shown, at_first}
use Rattle.job_commands.specs.Works.{Numbers}
use Rattle.job_commands.specs.Sittings.{AreBoth, progress_behind}

abbrev taken : List Pair
taken = (Ask Dump, record { version = 2; ended = Shown }) ∷ (Hold, record { version = 3; ended = Shown }) ∷ (Block Light no_changes Commit, record { version = 4; ended = Committed }) ∷ (AskHeld Dump, record { version = 3; ended = Shown }) ∷ []

-- it has made version 4, and holds version 3
holds_the_third : progress_behind at_first taken ≡ record { seen = 4; held = Some 3 }
holds_the_third = refl

given_back : progress_behind (progress_behind at_first taken) ((Release, record { version = 3; ended = Shown }) ∷ []) ≡ record { seen = 4; held = None }
given_back = refl

-- passes 1 and 0 are all that there are; passes 1 and 2 aren't

abbrev both : Numbers
both = record { asker = 1; holder = 0 }

abbrev others : Numbers
others = record { asker = 1; holder = 2 }

are_both : AreBoth both
are_both zero lt = inr refl
are_both (suc zero) lt = inl refl
are_both (suc (suc n)) lt = absurd (omega arith)

none_else : AreBoth others → ⊥
none_else all = elim (all 0 (omega arith)) [
  | inl e ↦ absurd (let z : 1 ≡ 0 = e in omega (arith, z))
  | inr e ↦ absurd (let z : 2 ≡ 0 = e in omega (arith, z))
]

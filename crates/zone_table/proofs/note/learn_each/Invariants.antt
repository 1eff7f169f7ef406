use Rattle.zone_table.proofs.PassLaws.{Kept}
use Rattle.zone_table.proofs.LearnLaws.{Learning}
use Rattle.zone_table.proofs.note.learn_each.Given as goal

-- those from the place behind the last note on have learnt, and the others are as they were
abbrev pub invariant-loop-note : goal.invariant-loop-note
invariant-loop-note g l = record {
  kept : Kept l.fn.passes.items l.passes.items;
  learning : Learning l.fn.passes.items l.passes.items l.fn.notes.items l.notes.items;
}

abbrev pub decreases-loop-note : goal.decreases-loop-note
decreases-loop-note g l = goal.left-loop-note g l

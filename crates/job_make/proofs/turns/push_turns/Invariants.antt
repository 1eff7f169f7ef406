use Rattle.std.proofs.Common.{◌≡◌, ◌++◌, ◌-◌}
use Rattle.std.specs.List.{flat_map}
use Rattle.job_model.specs.Loads.{line_text, state_after, turns_from}
use Rattle.job_make.specs.Views.{part_view}
use Rattle.job_make.proofs.turns.push_turns.Given as goal

abbrev pub invariant-loop-turn : goal.invariant-loop-turn
invariant-loop-turn l =
    record {
      state : state_after (l.turns - l._turn) l.draws ≡ state_after l.turns l.fn.draws;
      text : l.out.items ++ flat_map line_text (turns_from (part_view l.part) (l.turns - l._turn) l.draws) ≡ l.fn.out.items ++ flat_map line_text (turns_from (part_view l.part) l.turns l.fn.draws);
    }

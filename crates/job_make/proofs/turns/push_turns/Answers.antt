use Rattle.std.proofs.Common.{◌∙◌, ◌++◌, ◌-◌, ◌+◌, ℕ, List, ap, sym, append-nil}
use Rattle.std.specs.List.{flat_map}
use Rattle.job_model.specs.Loads.{line_text, state_after, turns_from}
use Rattle.job_make.specs.Views.{part_view}
use Rattle.job_make.proofs.LoadLemmas.{no_turns, same_state, state_more, turn_more}
use Rattle.job_make.proofs.turns.push_turns.Goals as goal

pub loop-turn-preserved : goal.loop-turn-preserved
loop-turn-preserved c =
    record {
      state = ap (λ (d : ℕ). state_after (c.args.turns - (c.loop-turn._turn + 1)) d) c.in_ok-push_next.ensures.state ∙ state_more c.args.turns c.loop-turn._turn c.loop-turn.draws c.loop-turn-test.true ∙ c.loop-turn.invariant.state;
      text =
          ap (λ (d : ℕ). c.push_next.new.out.items ++ flat_map line_text (turns_from (part_view c.args.part) (c.args.turns - (c.loop-turn._turn + 1)) d)) c.in_ok-push_next.ensures.state
          ∙ turn_more (part_view c.args.part) c.args.turns c.loop-turn._turn c.loop-turn.draws c.loop-turn.out.items c.push_next.new.out.items c.loop-turn-test.true c.in_ok-push_next.ensures.text
          ∙ c.loop-turn.invariant.text;
    }

pub returns-clause-state : goal.returns-clause-state
returns-clause-state c = sym (same_state c.args.turns c.loop-turn._turn c.loop-turn.draws c.loop-turn-test.false) ∙ c.loop-turn.invariant.state

pub returns-clause-text : goal.returns-clause-text
returns-clause-text c =
    sym (append-nil c.loop-turn.out.items)
    ∙ ap (λ (l : List (List ℕ)). c.loop-turn.out.items ++ flat_map line_text l) (sym (no_turns (part_view c.args.part) c.args.turns c.loop-turn._turn c.loop-turn.draws c.loop-turn-test.false))
    ∙ c.loop-turn.invariant.text

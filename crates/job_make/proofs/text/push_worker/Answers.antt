use Rattle.std.proofs.Common.{◌∙◌, sym}
use Rattle.job_make.specs.Views.{load_view}
use Rattle.job_make.proofs.LoadLemmas.{idle_lines, idle_state}
use Rattle.job_make.proofs.text.push_worker.Goals as goal

pub returns-then-part-eq0-clause-state : goal.returns-then-part-eq0-clause-state
returns-then-part-eq0-clause-state c = sym (idle_state (load_view c.args.load.now) c.args.remainder c.args.draws.now (sym c.share.ensures.count ∙ c.if-part-eq0.true))

pub returns-then-part-eq0-clause-text : goal.returns-then-part-eq0-clause-text
returns-then-part-eq0-clause-text c =
    idle_lines (load_view c.args.load.now) c.args.remainder c.args.draws.now c.args.out.now.items c.extend_from_slice.new.self.items (sym c.share.ensures.count ∙ c.if-part-eq0.true) c.in_ok-extend_from_slice.ensures.items

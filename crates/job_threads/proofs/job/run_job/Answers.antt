use Rattle.std.proofs.Common.{◌∙◌, List, map, sym, subst}
use Rattle.std.proofs.lemmas.List.{length-map}
use Rattle.zone_model.specs.Names.{Name}
use Rattle.qp_multi.specs.Closings.{AreAll}
use Rattle.qp_multi.specs.Passes.{known_at}
use Rattle.job_script.specs.Views.{worker_view}
use Rattle.job_commands.specs.Calls.{AllHeard}
use Rattle.job_commands.specs.Closings.{Gathers}
use Rattle.job_commands.specs.Runs.{IsRun}
use Rattle.job_threads.proofs.job.run_job.Goals as goal

pub returns : goal.returns
returns g c = record {
  ran = λ s zone index opens new.
      let before = map (λ p. known_at p.seat) c.args.passes.items in
      let g = c.in_ok-outcomes.field-0 in
      let gathers = subst (λ (l : List _). Gathers s before (map worker_view l) g.outcomes.items (map (λ p. known_at p.seat) g.passes.items) (known_at g.main.seat)) c.deref.ensures.value (c.in_ok-outcomes.ensures.ran s index new) in
      let size = c.args.index.shared.table.shared.key in
      let counted = length-map c.args.passes.items (λ p. known_at p.seat) ∙ sym c.requires.size in
      let all = subst (λ n. AreAll n before) (sym c.requires.size) c.requires.all in
      subst (λ (o : Name). IsRun s.chunks s.passes o zone (map worker_view c.args.job.now.workers.items) g.outcomes.items c.in_ok-last.last.version c.in_ok-last.last.names c.in_ok-last.last.nodes) index.origin_is
      (c.in_ok-last.ensures s zone before _ _ gathers counted all opens);
  heard = subst (λ (l : List _). AllHeard (g.G.Gate.hears c.args.gate.now) 1 (map worker_view l)) c.deref.ensures.value c.in_ok-outcomes.ensures.heard;
}

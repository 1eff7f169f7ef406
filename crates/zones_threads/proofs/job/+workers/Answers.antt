use Rattle.std.proofs.Common.{rules, ◌≡◌, ◌<◌, ◌+◌, List, [], ◌∷◌, length, arith, ap, sym, subst, ◌∙◌}
use Rattle.std.specs.List.{AllByRecursion}
use Rattle.std.proofs.lemmas.List.{length-map, nil_from_length}
use Rattle.std.proofs.lemmas.Option.{slice_get_within}
use Rattle.job_commands.proofs.CallLaws.{any_ok}
use Rattle.job_commands.proofs.GatherLaws.{first_taken, all_taken, at_ok}
use Rattle.zone_table.specs.Passes.{IsPassOf, table_known, zone_known}
use Rattle.zone_table.proofs.KnownLaws.{seat_told}
use Rattle.zone_table.proofs.PassLaws.{zone_told}
use Rattle.zones_report.specs.declared.outcomes.CommandEnds.{CommandEnds}
use Rattle.zones_report.specs.Outcomes.{AllAreOf, all_dones_view, dones_view}
use Rattle.zones_script.specs.Views.{worker_view}
use Rattle.zones_threads.specs.Calls.{AllHeard}
use Rattle.zones_threads.specs.Closings.{ZoneGathers, table_views, zone_views}
use Rattle.zones_threads.specs.Gatherings.{AreGathered, MayRun, MayWork}
use Rattle.zones_threads.specs.Sites.{IsSaid, Opens}
use Rattle.zones_threads.specs.Views.{workers_view}
use Rattle.zones_threads.proofs.GatherLaws.{zone_starts, zone_more, zone_done, table_starts, table_more, table_done, at_each}
use Rattle.zones_threads.proofs.job.+workers.Goals as goal

pub returns-in_default-clause-gathered : goal.returns-in_default-clause-gathered
returns-in_default-clause-gathered g t c =
    let workers = c.args.workers.now in
    let all = c.args.passes.items in
    let front = c.remove-pass.new.self.items in
    let pass = c.remove-pass.result in
    let none = nil_from_length workers c.in_default.ensures.cases in
    let alone : length all ≡ 1 = c.requires.count ∙ ap (λ l. length (workers_view l) + 1) none in
    let first = first_taken all front pass (search rules) c.remove-pass.ensures.value c.remove-pass.ensures.items in
    let passes = all_taken all front pass (IsPassOf c.args.zones.now.origins.items) first c.requires.passes in
    record {
      main = passes.0;
      passes = passes.1;
      kinds = subst (λ l. AllAreOf (workers_view l) c.new.result.items) (sym none) (subst (AllAreOf []) (sym c.new.ensures.items) tt);
      each = λ site s is index new. zone_starts s site.number (zone_views site.number all) (zone_views site.number front) (zone_known pass site.number) (workers_view workers) c.new.result.items (ap (zone_views site.number) first)
          (length-map all (λ p. zone_known p site.number) ∙ alone) (ap workers_view none) new;
      table = λ b same new. table_starts b (table_views all) (table_views front) (table_known pass) (all_dones_view (workers_view workers) c.new.result.items) (ap table_views first)
          (length-map all (λ p. table_known p) ∙ alone) (ap (λ l. all_dones_view (workers_view l) c.new.result.items) none) new;
    }

pub returns-in_default-clause-heard : goal.returns-in_default-clause-heard
returns-in_default-clause-heard g t c =
    subst (λ ws. AllHeard (g.G.Gate.hears c.args.gate.now) c.args.number (workers_view ws)) (sym (nil_from_length c.args.workers.now c.in_default.ensures.cases)) tt

pub join-ended-requires-after_bounds : goal.join-ended-requires-after_bounds
join-ended-requires-after_bounds g t c =
    let zones = c.args.zones.now in
    let front = c.remove-pass.new.self.items in
    let pass = c.remove-pass.result in
    let worker = c.in-Some.worker.now in
    let others = c.in-Some.others.now in
    let taken = first_taken c.args.passes.items front pass (search rules) c.remove-pass.ensures.value c.remove-pass.ensures.items in
    let passes = all_taken c.args.passes.items front pass (IsPassOf zones.origins.items) taken c.requires.passes in
    let opens = all_taken c.args.passes.items front pass (Opens zones) taken c.requires.opens in
    let said = subst (AllByRecursion (AllByRecursion (IsSaid zones.origins.items))) (ap workers_view c.in-Some.ensures.cases.0) c.requires.said in
    let many = c.requires.count ∙ ap (λ l. length (workers_view l) + 1) c.in-Some.ensures.cases.0 in
    let count : length front ≡ length (workers_view others) + 1 = omega (arith, many, ap length taken) in
    let first : MayWork zones pass (worker_view worker) = record { pass = passes.0; opens = opens.0; said = said.0 } in
    let rest : MayRun zones front (workers_view others) = record { count = count; passes = passes.1; opens = opens.1; said = said.1 } in
    λ κs bounds. ((first, search rules), (search rules, (search rules, (search rules, (search rules, (search rules, (rest, search rules)))))))

pub returns-clause-gathered : goal.returns-clause-gathered
returns-clause-gathered g t c =
    let zones = c.args.zones.now in
    let ended = c.in_ok-ended.field-0 in
    let others = c.in_ok-others.field-0 in
    let mine = at_ok _ ended _ c.in_ok-ended.was c.join-ended.ensures.first.0 in
    let theirs = at_ok _ others _ c.in_ok-others.was c.join-ended.ensures.second.0 in
    let passes = c.args.passes.items in
    let front = c.remove-pass.new.self.items in
    let pass = c.remove-pass.result in
    let taken = first_taken passes front pass (search rules) c.remove-pass.ensures.value c.remove-pass.ensures.items in
    let all_workers = c.in-Some.ensures.cases.0 in
    let workers = workers_view c.in-Some.others.now in
    let worker = worker_view c.in-Some.worker.now in
    let ds = ended.done ∷ others.done.items in
    at_each c.with_ended.result (λ r. AreGathered zones passes (workers_view c.args.workers.now) r.done.items r.passes.items r.main) (λ r is.
    let gathers = at_ok _ r _ is c.with_ended.ensures.gathers in
    let done = gathers.done in
    let back = at_ok _ r _ is c.with_ended.ensures.passes in
    record {
      main = back.0;
      passes = back.1;
      kinds = subst (AllAreOf (workers_view c.args.workers.now)) (sym done) (subst (λ ws. AllAreOf (workers_view ws) ds) (sym all_workers) (mine.kinds, theirs.kinds));
      each = λ site s there index new.
          let n = site.number in
          let lt : n < length zones.origins.items = slice_get_within zones.origins.items n site.origin there.origin in
          zone_done s n (zone_views n passes) (workers_view c.args.workers.now) ds r.done.items (zone_known ended.pass n ∷ zone_views n others.passes.items) (zone_views n r.passes.items) (zone_known r.main n)
          done (gathers.zones n)
          (subst (λ ws. ZoneGathers s n (zone_views n passes) ws ds (zone_known ended.pass n ∷ zone_views n others.passes.items) (zone_known r.main n)) (sym (ap workers_view all_workers))
          (zone_more s n site.origin site.size index (zone_views n passes) (zone_views n front) (zone_known pass n) workers others.done.items (zone_views n others.passes.items) (zone_known others.main n) (zone_known r.main n) (zone_known ended.pass n) worker ended.done (ap (zone_views n) taken) new
          (λ those. theirs.each site s there index those)
          (λ number opened_with begins. mine.ran site there s number opened_with begins) (zone_told zones.origins.items others.main theirs.main n lt) (at_ok _ r _ is (c.with_ended.ensures.zone_learnt n lt))));
      table = λ b same new.
          table_done b (table_views passes) (dones_view worker ended.done.list.items ∷ all_dones_view workers others.done.items) (all_dones_view (workers_view c.args.workers.now) r.done.items)
          (table_known ended.pass ∷ table_views others.passes.items) (table_views r.passes.items) (table_known r.main)
          (ap (λ (l : List CommandEnds). all_dones_view (workers_view c.args.workers.now) l) done ∙ ap (λ l. all_dones_view (workers_view l) ds) all_workers) gathers.table
          (table_more b (table_views passes) (table_views front) (table_known pass) (all_dones_view workers others.done.items) (table_views others.passes.items) (table_known others.main) (table_known r.main) (table_known ended.pass) (dones_view worker ended.done.list.items) (ap table_views taken) new
          (λ those. theirs.table b same those)
          (λ number begins. mine.table b number same begins) (seat_told others.main.table.seat theirs.main.table_here) (at_ok _ r _ is c.with_ended.ensures.learnt));
    })

pub returns-clause-heard : goal.returns-clause-heard
returns-clause-heard g t c =
    let mine = at_ok _ c.in_ok-ended.field-0 _ c.in_ok-ended.was c.join-ended.ensures.first.1 in
    let theirs = at_ok _ c.in_ok-others.field-0 _ c.in_ok-others.was c.join-ended.ensures.second.1 in
    any_ok c.with_ended.result
    (subst (λ ws. AllHeard (g.G.Gate.hears c.args.gate.now) c.args.number (workers_view ws)) (sym c.in-Some.ensures.cases.0)
    (mine, subst (λ n. AllHeard (g.G.Gate.hears c.args.gate.now) n (workers_view c.in-Some.others.now)) c.saturating_add-next.ensures theirs))

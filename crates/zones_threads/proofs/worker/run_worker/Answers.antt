use Rattle.std.proofs.Common.{rules, ◌≡◌, ◌∙◌, ◌≤◌, ◌<◌, ◌+◌, ℕ, List, [], ◌∷◌, ◌++◌, Some, length, length-append, take, map, refl, sym, ap, subst, arith}
use Rattle.std.specs.Prelude.{slice_get}
use Rattle.std.proofs.lemmas.List.{take_all, length-map}
use Rattle.std.proofs.lemmas.Option.{get_or_from_slice_get, slice_get_within}
use Rattle.std.specs.List.{AllByRecursion}
use Rattle.zone_model.specs.Names.{Name}
use Rattle.job_commands.specs.Calls.{After, Before, IsHeard, next_number}
use Rattle.job_commands.proofs.CallLaws.{one_more}
use Rattle.crew.proofs.CallLaws.{same_told}
use Rattle.job_commands.proofs.WorkLaws.{drop_here, take_here}
use Rattle.zone_table.specs.Passes.{table_known}
use Rattle.zone_table.proofs.KnownLaws.{seat_told}
use Rattle.zones_model.specs.Commands.{Command}
use Rattle.zones_report.specs.declared.outcomes.CommandEnd.{CommandEnd}
use Rattle.zones_threads.specs.Sites.{IsSaid}
use Rattle.zones_threads.specs.Steps.{TableGoes}
use Rattle.zones_report.specs.Outcomes.{AreOf, done_view, dones_view}
use Rattle.zones_script.specs.Views.{command_view}
use Rattle.zones_threads.specs.Works.{TableWork, ZonesRan}
use Rattle.zones_threads.proofs.TableLaws.{table_start, table_next}
use Rattle.zones_threads.proofs.WorkLaws.{ZonesAt, go_open, zones_start, zones_next, zones_ran, kinds-push, kinds_many, dones-push}
use Rattle.zones_threads.proofs.worker.run_worker.Goals as goal

pub loop-place-init : goal.loop-place-init
loop-place-init g c =
    let none = c.in_ok-list.ensures.items in
    let zones = c.args.zones.now in
    let first = c.args.pass in
    record {
      pass = c.requires.may.pass;
      opens = c.requires.may.opens;
      gate = refl;
      number = refl;
      commands = refl;
      free = c.requires.fresh.0;
      told = c.requires.fresh.1;
      many = ap length none;
      kinds = subst (AreOf []) (sym none) tt;
      heard = λ place lt. absurd (omega arith);
      said = c.requires.may.said;
      zones = subst (ZonesAt zones first first []) (sym none) (zones_start zones first);
      table = λ b number same new. subst (λ (ds : List CommandEnd). TableWork b number (table_known first) (dones_view [] ds)) (sym none) (table_start b number (table_known first) new);
    }

pub enter-entered-requires-clause-free : goal.enter-entered-requires-clause-free
enter-entered-requires-clause-free g c = λ κs bounds. (c.loop-place.invariant.free, subst (λ l. c.loop-place.place < length l.now) (sym c.loop-place.invariant.commands) (omega (arith, c.loop-place-test.true, c.count-count.ensures)))

pub run_command-requires-clause-said : goal.run_command-requires-clause-said
run_command-requires-clause-said g c =
    let i = c.loop-place.invariant in
    let commands = c.args.turnstile.now.commands.now in
    let here = c.enter-entered.result.command.now in
    let there = subst (λ l. slice_get l.now c.loop-place.place ≡ Some here) i.commands c.enter-entered.ensures.command in
    (subst (AllByRecursion (IsSaid c.args.zones.now.origins.items)) (drop_here command_view commands c.loop-place.place here (slice_get_within commands c.loop-place.place here there) (sym (get_or_from_slice_get commands c.loop-place.place here here there))) i.said).0

pub leave-requires-clause-done : goal.leave-requires-clause-done
leave-requires-clause-done g c =
    let i = c.loop-place.invariant in
    let many = ap length c.in_ok-push.ensures.items ∙ length-append c.loop-place.list.items (c.in_ok-done.done ∷ []) in
    let told = c.enter-entered.ensures.same.3 in
    omega (arith, many, told, i.told, i.many)

pub loop-place-preserved : goal.loop-place-preserved
loop-place-preserved g c =
    let i = c.loop-place.invariant in
    let zones = c.args.zones.now in
    let commands = c.args.turnstile.now.commands.now in
    let place = c.loop-place.place in
    let here = c.enter-entered.result.command.now in
    let there = subst (λ l. slice_get l.now place ≡ Some here) i.commands c.enter-entered.ensures.command in
    let lt = slice_get_within commands place here there in
    let is = sym (get_or_from_slice_get commands place here here there) in
    let inside = c.enter-entered.ensures.same in
    let left = c.leave.ensures.same in
    let before = same_told (g.G.Gate.hears) (λ n. Before n (next_number place)) _ _ _ _ (ap (λ r. r.now) i.gate) i.number c.enter-entered.ensures.heard in
    let after = same_told (g.G.Gate.hears) (λ n. After n (next_number place)) _ _ _ _ (ap (λ r. r.now) (inside.0 ∙ i.gate)) (inside.1 ∙ i.number) (c.leave.ensures.heard place c.enter-entered.ensures.entered) in
    let now = c.loop-place.pass in
    let next = c.run_command.new.pass in
    let first = c.args.pass in
    let cs = map command_view (take place commands) in
    let ds = c.loop-place.list.items in
    let d = c.in_ok-done.done in
    let goes = c.in_ok-done.ensures in
    let pushed = c.in_ok-push.ensures.items in
    let taken : map command_view (take (place + 1) commands) ≡ cs ++ command_view here ∷ [] = take_here command_view commands place here lt is in
    let many = ap length pushed ∙ length-append ds (d ∷ []) ∙ ap (λ (n : ℕ). n + 1) i.many in
    let alike = kinds_many cs ds i.kinds in
    record {
      pass = goes.pass;
      opens = go_open zones now next (command_view here) d i.pass goes.zones_go i.opens;
      gate = left.0 ∙ inside.0 ∙ i.gate;
      number = left.1 ∙ inside.1 ∙ i.number;
      commands = left.2 ∙ inside.2 ∙ i.commands;
      free = c.leave.ensures.left.0;
      told = c.leave.ensures.left.1 ∙ many;
      many = many;
      kinds = subst (λ (l : List Command). AreOf l c.push.new.self.items) (sym taken) (subst (AreOf (cs ++ command_view here ∷ [])) (sym pushed) (kinds-push cs ds (command_view here) d i.kinds goes.kind));
      heard = one_more (λ k. IsHeard (g.G.Gate.hears c.args.turnstile.now.gate.now) c.args.turnstile.now.worker (next_number k)) place (place + 1) refl i.heard (before, after);
      said = (subst (AllByRecursion (IsSaid zones.origins.items)) (drop_here command_view commands place here lt is) i.said).1;
      zones = subst (λ (l : List Command). ZonesAt zones first next l c.push.new.self.items) (sym taken)
          (subst (ZonesAt zones first next (cs ++ command_view here ∷ [])) (sym pushed) (zones_next zones first now next cs ds (command_view here) d c.requires.may.pass i.pass alike i.zones goes.zones_go));
      table = λ b number same new.
          subst (λ (l : List Command). TableWork b number (table_known next) (dones_view l c.push.new.self.items)) (sym taken)
          (subst (λ (l : List CommandEnd). TableWork b number (table_known next) (dones_view (cs ++ command_view here ∷ []) l)) (sym pushed)
          (subst (TableWork b number (table_known next)) (sym (dones-push cs ds (command_view here) d alike))
          (table_next b number (table_known now) (table_known next) (dones_view cs ds) (done_view (command_view here) d) (seat_told now.table.seat i.pass.table_here) (i.table b number same new)
          (subst (λ (o : List Name). TableGoes o (done_view (command_view here) d) (table_known now) (table_known next)) (sym same) goes.table))));
    }

pub returns-clause-done : goal.returns-clause-done
returns-clause-done g c =
    let i = c.loop-place.invariant in
    let zones = c.args.zones.now in
    let first = c.args.pass in
    let now = c.loop-place.pass in
    let ds = c.loop-place.list.items in
    let commands = c.args.turnstile.now.commands.now in
    let all = take_all c.loop-place.place commands (omega (arith, c.loop-place-test.false, c.count-count.ensures)) in
    record {
      pass = i.pass;
      kinds = subst (λ (l : List _). AreOf (map command_view l) ds) all i.kinds;
      ran = subst (λ (l : List _). ZonesRan zones first now (map command_view l) ds) all (zones_ran zones first now (map command_view (take c.loop-place.place commands)) ds i.zones);
      table = λ b number same new. subst (λ (l : List _). TableWork b number (table_known now) (dones_view (map command_view l) ds)) all (i.table b number same new);
    }

pub returns-clause-heard : goal.returns-clause-heard
returns-clause-heard g c =
    let many = length-map c.args.turnstile.now.commands.now command_view in
    let past : length c.args.turnstile.now.commands.now ≤ c.loop-place.place = omega (arith, c.loop-place-test.false, c.count-count.ensures) in
    (λ place lt. c.loop-place.invariant.heard place (omega (arith, lt, many, past)), search rules, search rules)

use Rattle.std.proofs.Common.{◌≡◌, ◌∙◌, sym, ap, subst, Option, refl, rules}
use Rattle.shared_cells.specs.declared.view.TurnView.{TurnView}
use Rattle.shared_cells.specs.Views.{kept_in}
use Rattle.shared_cells.specs.Steps.{Confirmed}
use Rattle.qp_multi.specs.Operations.{applied, AreWithin}
use Rattle.qp_multi.specs.Bases.{CommitsAreWithin}
use Rattle.qp_multi.specs.Capacity.{RestsRoomy}
use Rattle.qp_multi.specs.Meanings.{IsVersion}
use Rattle.qp_multi.specs.Passes.{Known}
use Rattle.qp_multi.specs.Turns.{Agrees, cells_with, current_root}
use Rattle.qp_multi.proofs.BeginLaws.{joined_of, base_stands}
use Rattle.qp_multi.proofs.writer.WriterAtRest.begin.Goals as goal

pub returns-clause-joins : goal.returns-clause-joins
returns-clause-joins g c = record {
  table = c.look.ensures.table ∙ c.join-seat.ensures.table;
  passes = c.look.ensures.same.3 ∙ c.join-seat.ensures.numbers.1;
  joined = (let v = c.look.new.self.place.me.0 in
      let old = c.join-seat.result.place.me.0 in
      let look = c.look.ensures in
      let same : v ≡ old = look.same.0 in
      let told : Confirmed applied g.L.Law.lawful (AreWithin g.L.Law.most_operations) IsVersion v look.confirmed.0 c.look.result = subst (λ (w : Known). Confirmed applied g.L.Law.lawful (AreWithin g.L.Law.most_operations) IsVersion w look.confirmed.0 c.look.result) (sym same) look.confirmed.2 in
      joined_of g.L.Law.lawful v look.confirmed.0 c.look.result (ap (λ (w : Known). w.turn) same ∙ look.confirmed.1) told c.look.new.self.told c.args.self.seat.place.me.0 c.args.pass.place.me.0 (same ∙ c.join-seat.ensures.joined));
  few_operations = subst (CommitsAreWithin g.L.Law.most_operations) (sym c.look.ensures.same.0) c.look.ensures.confirmed.2.allowed;
}

pub returns-clause-base : goal.returns-clause-base
returns-clause-base g c = record {
  usage = refl;
  log = search rules;
  rests = subst (RestsRoomy c.args.self.usage) (sym (ap (λ (w : Known). w.seen) (c.look.ensures.same.0 ∙ c.join-seat.ensures.joined))) c.args.self.rests;
  stands = (let v = c.look.new.self.place.me.0 in
      let old = c.join-seat.result.place.me.0 in
      let look = c.look.ensures in
      let same : v ≡ old = look.same.0 in
      let u = c.args.self.usage in
      let turn : v.turn ≡ c.args.self.seat.place.me.0.turn = ap (λ (w : Known). w.turn) (same ∙ c.join-seat.ensures.joined) in
      let told : Confirmed applied g.L.Law.lawful (AreWithin g.L.Law.most_operations) IsVersion v look.confirmed.0 c.look.result = subst (λ (w : Known). Confirmed applied g.L.Law.lawful (AreWithin g.L.Law.most_operations) IsVersion w look.confirmed.0 c.look.result) (sym same) look.confirmed.2 in
      base_stands g.L.Law.lawful v look.confirmed.0 c.look.result (ap (λ (w : Known). w.turn) same ∙ look.confirmed.1) told c.look.new.self.told u c.known.ensures c.args.self.seat.passes
      (subst (λ (t : Option TurnView). Agrees (cells_with u t) u c.args.self.seat.passes) (sym turn) c.args.self.agrees) c.args.self.at_rest c.args.self.root
      (c.args.self.root_is ∙ ap (λ (t : Option TurnView). current_root (kept_in t)) (sym turn)));
}

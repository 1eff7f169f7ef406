use Rattle.std.proofs.Common.{List, ℕ, drop, length, sym, subst}
use Rattle.std.proofs.lemmas.Bool.Decides.{Decides-eqb}
use Rattle.std.proofs.lemmas.Slice.Eq.{starts_is}
use Rattle.zone_model.specs.Keys.{Leads}
use Rattle.shift_key.proofs.LeadLemmas.{leads_by, led_by}
use Rattle.shift_key.proofs.Key.leads.Goals as goal

pub returns-then-item-le-MOST_ITEM_OCTETS : goal.returns-then-item-le-MOST_ITEM_OCTETS
returns-then-item-le-MOST_ITEM_OCTETS c =
    let begins = starts_is Decides-eqb c.args.item.now c.wire.result.now c.starts_with.result c.starts_with.ensures.value in
    let octets = c.wire.ensures in (
      λ t. subst (λ (k : List ℕ). Leads k c.args.item.now) c.self.view_is
          (leads_by c.self.inside.name c.wire.result.now (drop (length c.wire.result.now) c.args.item.now) c.args.item.now c.self.invariant.name octets.wire c.if-item-le-MOST_ITEM_OCTETS.true (begins.0 t)),
      λ l. let led = subst (λ (k : List ℕ). Leads k c.args.item.now) (sym c.self.view_is) l in
          begins.1 led.front.0 (led_by c.self.inside.name c.wire.result.now c.args.item.now c.self.invariant.name octets.wire led),
    )

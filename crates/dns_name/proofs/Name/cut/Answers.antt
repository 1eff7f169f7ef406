use Rattle.std.proofs.Common.{◌-◌, ℕ, drop, ap, ◌∙◌}
use Rattle.dns_name.specs.Spelling.{Spells}
use Rattle.dns_name.proofs.WireLemmas.{name_drop}
use Rattle.dns_name.proofs.Name.cut.Goals as goal

pub of_wire-requires : goal.of_wire-requires
of_wire-requires c =
    let whole : Spells c.wire-bytes.result.now c.args.self.now = record { each = c.wire-bytes.ensures.name.each; same = c.wire-bytes.ensures.wire } in
    (drop (c.count.result - c.args.labels) c.args.self.now, name_drop (c.count.result - c.args.labels) c.args.self.now c.wire-bytes.ensures.name, (c.skip.ensures c.args.self.now whole).same)

pub returns : goal.returns
returns c =
    let whole : Spells c.wire-bytes.result.now c.args.self.now = record { each = c.wire-bytes.ensures.name.each; same = c.wire-bytes.ensures.wire } in
    c.of_wire.ensures (drop (c.count.result - c.args.labels) c.args.self.now) (name_drop (c.count.result - c.args.labels) c.args.self.now c.wire-bytes.ensures.name) (c.skip.ensures c.args.self.now whole).same
    ∙ ap (λ (n : ℕ). drop (n - c.args.labels) c.args.self.now) (c.count.ensures c.args.self.now whole)

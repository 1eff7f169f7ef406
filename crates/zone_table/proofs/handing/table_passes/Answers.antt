use Rattle.std.proofs.Common.{◌≡◌, ◌∙◌, ◌++◌, ◌∷◌, [], List, append_assoc, map, None, sym, ap, subst}
use Rattle.std.specs.List.{All}
use Rattle.std.proofs.lemmas.List.Elements.{All-cons}
use Rattle.qp_multi.specs.declared.pass.Pass.{Pass}
use Rattle.zone_table.specs.declared.pass.ZonesPass.{ZonesPass}
use Rattle.zone_table.proofs.handing.table_passes.Goals as goal

pub loop-pass-preserved : goal.loop-pass-preserved
loop-pass-preserved g c =
    let i = c.loop-pass.invariant in
    let pass = c.in-Some.pass in
    let all = c.loop-pass.all.items in
    let made : ZonesPass g.row.N.Denot g.N.Named = record { table = pass; zones = c.new.result; remembered = c.nothing.result } in
    record {
      tables = ap (λ ps. c.pop.new.self.items ++ map (λ p. p.table) ps) c.in_ok-insert.ensures.items
          ∙ sym (append_assoc c.pop.new.self.items (pass ∷ []) (map (λ p. p.table) all))
          ∙ ap (λ (ps : List (Pass g.row.N.Denot g.N.Named)). ps ++ map (λ p. p.table) all) (sym c.in-Some.ensures.items) ∙ i.tables;
      none = subst (All (λ p. p.zones.items ≡ [])) (sym c.in_ok-insert.ensures.items) (All-cons (λ p. p.zones.items ≡ []) made all c.new.ensures.items i.none);
      nothing = subst (All (λ p. p.remembered.version ≡ None)) (sym c.in_ok-insert.ensures.items) (All-cons (λ p. p.remembered.version ≡ None) made all c.nothing.ensures i.nothing);
    }

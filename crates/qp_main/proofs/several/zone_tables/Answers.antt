use Rattle.std.proofs.Common.{◌≡◌, ◌∙◌, ◌+◌, ℕ, [], ◌∷◌, length, length-append, map, sym, ap, subst}
use Rattle.std.proofs.lemmas.List.{map-append}
use Rattle.std.proofs.lemmas.List.Elements.{All-push}
use Rattle.std.specs.List.{All}
use Rattle.shared_cells.specs.declared.view.TableSize.{TableSize}
use Rattle.qp_main.proofs.several.zone_tables.Goals as goal

pub loop-zone-preserved : goal.loop-zone-preserved
loop-zone-preserved c =
    let i = c.loop-zone.invariant in
    let blanks = c.loop-zone.blanks.items in
    let blank = c.in_ok-new.field-0 in
    let pushed = c.in_ok-push.ensures.items in
    let sizes = ap (map (λ b. b.shared.table.shared.key)) pushed ∙ map-append (λ b. b.shared.table.shared.key) blanks (blank ∷ []) in
    record {
      many = ap length pushed ∙ length-append blanks (blank ∷ []) ∙ ap (λ (n : ℕ). n + 1) i.many;
      chunks = subst (All (λ (s : TableSize). s.chunks ≡ c.args.chunks)) (sym sizes) (All-push (λ (s : TableSize). s.chunks ≡ c.args.chunks) (map (λ b. b.shared.table.shared.key) blanks) blank.shared.table.shared.key i.chunks c.in_ok-new.ensures.chunks);
      passes = subst (All (λ (s : TableSize). s.passes ≡ c.args.passes)) (sym sizes) (All-push (λ (s : TableSize). s.passes ≡ c.args.passes) (map (λ b. b.shared.table.shared.key) blanks) blank.shared.table.shared.key i.passes c.in_ok-new.ensures.passes);
    }

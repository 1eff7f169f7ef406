use Rattle.std.proofs.Common.{sym, ap, ◌∙◌, subst, eq-eqb}
use Rattle.std.specs.List.{Contains}
use Rattle.packed_node.specs.declared.Cell.{Cell}
use Rattle.shared_cells.specs.Views.{pinned_image}
use Rattle.cell_tests.proofs.OneCellLaws.{one_cell}
use Rattle.cell_tests.proofs.stress.is_its_version.Goals as goal

pub cell-cell-requires : goal.cell-cell-requires
cell-cell-requires c =
    let seat = c.args.pinned.now in
    let n = seat.version in
    let has = one_cell _ _ n c.in-Some.root c.requires.stood (sym seat.root_is ∙ c.in-Some.is) in
    let same = ap (λ s. pinned_image s.place.me.0.progress) c.new.ensures.seat in
    record { there = (record { big = n; small = n }, subst (λ image. Contains image (record { at = c.in-Some.root; big = n; small = n })) (sym same) has) }

pub returns-then-cell-version-clause-right : goal.returns-then-cell-version-clause-right
returns-then-cell-version-clause-right c =
    let n = c.args.pinned.now.version in
    let has = one_cell _ _ n c.in-Some.root c.requires.stood (sym c.args.pinned.now.root_is ∙ c.in-Some.is) in
    let same = ap (λ s. pinned_image s.place.me.0.progress) c.new.ensures.seat in
    eq-eqb c.cell-cell.result.small n (ap (λ (x : Cell). x.small) (c.cell-cell.ensures.value (record { big = n; small = n }) (subst (λ image. Contains image (record { at = c.in-Some.root; big = n; small = n })) (sym same) has)))

pub returns-else-cell-version-clause-right : goal.returns-else-cell-version-clause-right
returns-else-cell-version-clause-right c =
    let n = c.args.pinned.now.version in
    let has = one_cell _ _ n c.in-Some.root c.requires.stood (sym c.args.pinned.now.root_is ∙ c.in-Some.is) in
    let same = ap (λ s. pinned_image s.place.me.0.progress) c.new.ensures.seat in
    eq-eqb c.cell-cell.result.big n (ap (λ (x : Cell). x.big) (c.cell-cell.ensures.value (record { big = n; small = n }) (subst (λ image. Contains image (record { at = c.in-Some.root; big = n; small = n })) (sym same) has)))

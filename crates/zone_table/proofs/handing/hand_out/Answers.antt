use Rattle.std.proofs.Common.{◌≡◌, ◌∙◌, ◌<◌, ◌∷◌, [], length, arith, refl, ap, subst, length-append, length-take}
use Rattle.zone_table.specs.Handings.{HasOneMore}
use Rattle.zone_table.proofs.Lists.{read_at, none_left}
use Rattle.zone_table.proofs.WalkLaws.{Walk, walk_first, walk_next}
use Rattle.zone_table.proofs.HandingLaws.{handed_out}
use Rattle.zone_table.proofs.handing.hand_out.Goals as goal

pub loop-pass-init : goal.loop-pass-init
loop-pass-init g c = let n = c.requires in walk_first HasOneMore c.args.all.now.items c.args.passes.items (omega arith)

pub loop-pass-preserved : goal.loop-pass-preserved
loop-pass-preserved g c =
    let w = c.loop-pass.invariant in
    let place = c.len-place.ensures in
    let at : c.len-place.result ≡ length c.pop.new.self.items = omega arith in
    let size = ap length c.in-Some.ensures.items ∙ length-append c.pop.new.self.items (c.in-Some.pass ∷ []) in
    let short = ap length w.rest ∙ length-take (length c.loop-pass.passes.items) c.args.passes.items in
    let many = c.requires in
    let wide = w.count in
    let inside : c.len-place.result < length c.loop-pass.all.items = omega arith in
    walk_next HasOneMore c.args.all.now.items c.loop-pass.all.items c.args.passes.items c.loop-pass.passes.items c.pop.new.self.items c.in-Some.pass w c.in-Some.ensures.items c.len-place.result
    c.index_mut.result.now (record c.index_mut.result.now { zones = c.push.new.self }) at (read_at c.loop-pass.all.items c.len-place.result c.index_mut.result.now inside c.index_mut.ensures.value) inside
    (record { table = refl; remembered = refl; zones = c.in_ok-push.ensures.items })

pub returns : goal.returns
returns g c =
    let none = c.in_default.ensures.cases in
    let nothing = none_left c.loop-pass.passes.items (omega arith) in
    handed_out c.args.all.now.items c.loop-pass.all.items c.args.passes.items (subst (Walk HasOneMore c.args.all.now.items c.loop-pass.all.items c.args.passes.items) nothing c.loop-pass.invariant)

use Rattle.evacuate.proofs.AlongLaws.{branch_in, inside_in, further_in, says_in, fewer_in, way_begins, way_can, way_ends, way_goes_on}
use Rattle.evacuate.proofs.RearrangeLaws.{rearranged_same, rearranged_then}
use Rattle.evacuate.proofs.path_walk.go_on.Goals as goal

pub loop-passage-init : goal.loop-passage-init
loop-passage-init g c = way_begins c.requires

pub pass-requires-clause-can : goal.pass-requires-clause-can
pass-requires-clause-can g c = way_can c.loop-passage.invariant c.requires.stands c.in-Some.ensures.branch

pub returns-in_err-at-clause-rearranged : goal.returns-in_err-at-clause-rearranged
returns-in_err-at-clause-rearranged g c = rearranged_then (way_ends c.loop-passage.invariant) (rearranged_same c.in_err-at.ensures.unmoved.same c.in_err-at.ensures.unmoved.unchanged c.loop-passage.invariant.cells.ready)

pub cell-requires : goal.cell-requires
cell-requires g c =
    let u = c.loop-passage.invariant.way _ _ c.requires.stands.stood in
    let b = c.in-Some.passage.descent.branch in let is = c.in-Some.ensures.branch in
    let w = c.in_ok-at.ensures.passed.hung c.args.root c.requires.stands.es u.way u.t u.hung (branch_in u b is) in
    record { there = (_, further_in u b is c.in-Some.passage.descent.index c.in-Some.ensures.may_pass.index w) }

pub of-node-requires : goal.of-node-requires
of-node-requires g c =
    let u = c.loop-passage.invariant.way _ _ c.requires.stands.stood in
    let b = c.in-Some.passage.descent.branch in let is = c.in-Some.ensures.branch in let i = c.in-Some.passage.descent.index in let l = c.in-Some.ensures.may_pass.index in
    let w = c.in_ok-at.ensures.passed.hung c.args.root c.requires.stands.es u.way u.t u.hung (branch_in u b is) in
    says_in u b is i l w (c.cell.ensures.value _ (further_in u b is i l w))

pub loop-passage-smaller : goal.loop-passage-smaller
loop-passage-smaller g c =
    let u = c.loop-passage.invariant.way _ _ c.requires.stands.stood in
    let b = c.in-Some.passage.descent.branch in let is = c.in-Some.ensures.branch in let i = c.in-Some.passage.descent.index in let l = c.in-Some.ensures.may_pass.index in
    let w = c.in_ok-at.ensures.passed.hung c.args.root c.requires.stands.es u.way u.t u.hung (branch_in u b is) in
    fewer_in u b is i l w (c.cell.ensures.value _ (further_in u b is i l w)) c.of-node.ensures.back

pub loop-passage-preserved : goal.loop-passage-preserved
loop-passage-preserved g c = way_goes_on c.loop-passage.invariant c.in-Some.passage c.in-Some.ensures.branch c.in-Some.ensures.may_pass.index c.in_ok-at.ensures.passed c.in_ok-at.ensures.cells c.cell.ensures.same c.cell.ensures.value c.of-node.ensures.back

pub passage_at-requires : goal.passage_at-requires
passage_at-requires g c b is = let u = c.loop-passage.invariant.way _ _ c.requires.stands.stood in inside_in u b is

pub returns-clause-rearranged : goal.returns-clause-rearranged
returns-clause-rearranged g c = way_ends c.loop-passage.invariant

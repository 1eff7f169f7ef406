use Rattle.std.proofs.Common.{Fits-lit, arith, refl, ◌∙◌, ap}
use Rattle.std.proofs.Math.Facts.{Fits-lt}
use Rattle.evacuate.specs.Places.{first_of, width_of}
use Rattle.evacuate.proofs.AlongLaws.{hangs_first, is_hung, inside_in, read_there, says_in, hangs_further, fewer_in, twigs_there}
use Rattle.evacuate.proofs.DescentLaws.{begins, hung_there, hung_says, hung_read}
use Rattle.evacuate.proofs.TreeLaws.{hung_cells, used_writable}
use Rattle.evacuate.proofs.path_walk.descend.Goals as goal

pub of-node-requires : goal.of-node-requires
of-node-requires g c = let h = begins c.requires.stands.stood in hung_says h (c.cell.ensures.value _ (hung_there h))

pub loop-descent-init : goal.loop-descent-init
loop-descent-init g c = record {
  same = c.cell.ensures.same;
  hangs = λ es t stood. let h = begins stood in hangs_first refl stood (hung_read h (c.cell.ensures.value _ (hung_there h)) c.of-node.ensures.back);
  writable = c.requires.writable;
}

pub mutable_descent-requires : goal.mutable_descent-requires
mutable_descent-requires g c b is = inside_in (c.loop-descent.invariant.hangs _ _ c.requires.stands.stood) b is

pub overflow_add-at : goal.overflow_add-at
overflow_add-at g c =
    let u = c.loop-descent.invariant.hangs _ _ c.requires.stands.stood in
    let i = inside_in u c.in-Some.descent.branch c.in-Some.ensures.branch in let l = c.in-Some.ensures.index in
    Fits-lt {n = 4194304} (omega arith) (Fits-lit tt)

pub cell-requires-in-Some : goal.cell-requires-in-Some
cell-requires-in-Some g c =
    let u = c.loop-descent.invariant.hangs _ _ c.requires.stands.stood in
    record { there = (_, read_there u c.in-Some.descent.branch c.in-Some.ensures.branch c.in-Some.descent.index c.in-Some.ensures.index c.loop-descent.invariant.same) }

pub of-node-requires-in-Some : goal.of-node-requires-in-Some
of-node-requires-in-Some g c =
    let u = c.loop-descent.invariant.hangs _ _ c.requires.stands.stood in
    let b = c.in-Some.descent.branch in let is = c.in-Some.ensures.branch in let i = c.in-Some.descent.index in let l = c.in-Some.ensures.index in
    let w = twigs_there u b is i l in
    says_in u b is i l w (c.cell-in-Some.ensures.value _ (read_there u b is i l c.loop-descent.invariant.same))

pub loop-descent-smaller : goal.loop-descent-smaller
loop-descent-smaller g c =
    let u = c.loop-descent.invariant.hangs _ _ c.requires.stands.stood in
    let b = c.in-Some.descent.branch in let is = c.in-Some.ensures.branch in let i = c.in-Some.descent.index in let l = c.in-Some.ensures.index in
    let w = twigs_there u b is i l in
    fewer_in u b is i l w (c.cell-in-Some.ensures.value _ (read_there u b is i l c.loop-descent.invariant.same)) c.of-node-in-Some.ensures.back

pub loop-descent-preserved : goal.loop-descent-preserved
loop-descent-preserved g c =
    let b = c.in-Some.descent.branch in let is = c.in-Some.ensures.branch in let i = c.in-Some.descent.index in let l = c.in-Some.ensures.index in
    record {
      same = c.cell-in-Some.ensures.same ∙ c.loop-descent.invariant.same;
      hangs = λ es t stood.
          let u = c.loop-descent.invariant.hangs es t stood in
          let w = twigs_there u b is i l in
          hangs_further u b is i l w refl (c.cell-in-Some.ensures.value _ (read_there u b is i l c.loop-descent.invariant.same)) c.of-node-in-Some.ensures.back;
      writable =
          let u = c.loop-descent.invariant.hangs _ _ c.requires.stands.stood in
          let h = is_hung u is in
          let x = hung_cells h.hung (ap first_of h.is) (ap width_of h.is) in
          used_writable c.known.ensures c.requires.ready (x.in_use i l) c.in-Some.ensures.mutable;
    }

pub returns-clause-walks_on : goal.returns-clause-walks_on
returns-clause-walks_on g c = record { stands = c.requires.stands; hangs = c.loop-descent.invariant.hangs; writable = c.loop-descent.invariant.writable; ready = c.requires.ready }

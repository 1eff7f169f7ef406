use Rattle.std.proofs.Common.{ℕ, ◌+◌, ◌-◌, ◌/◌, ◌<◌, arith}
use Rattle.rr_data.proofs.RisingLemmas.{are_lower}
use Rattle.rr_data.proofs.places.start_of.Goals as goal

pub loop-at-preserved-then-rtype : goal.loop-at-preserved-then-rtype
loop-at-preserved-then-rtype c =
    let here = c.index-sets-middle.result in
    let middle = c.loop-at.at + (c.loop-at.end - c.loop-at.at) / 2 in
    let lower : here.rtype < c.args.rtype = omega (arith, c.rtype.ensures, c.if-rtype.true) in
    record {
      before = omega (arith, c.loop-at.invariant.before, c.loop-at-test.true);
      within = c.loop-at.invariant.within;
      lower = are_lower c.args.rtype c.args.sets.now middle (middle + 1) here c.requires (omega (arith, c.loop-at.invariant.within, c.loop-at-test.true)) c.index-sets-middle.is lower (omega arith);
    }

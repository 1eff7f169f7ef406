use Rattle.std.proofs.Common.{◌≡◌, ◌∙◌, ℕ, ◌+◌, ◌-◌, ◌/◌, List, sym, ap, arith, refl}
use Rattle.std.specs.declared.cmp.Ordering.TheVariants.{Greater}
use Rattle.zone_model.specs.Records.{octets_cmp}
use Rattle.rr_data.proofs.RisingLemmas.{goes_behind_at}
use Rattle.rr_data.proofs.rrset.start_of.Goals as goal

pub loop-at-preserved-in-Greater : goal.loop-at-preserved-in-Greater
loop-at-preserved-in-Greater c =
    let here = c.index-records-middle.result in
    let middle = c.loop-at.at + (c.loop-at.end - c.loop-at.at) / 2 in
    let above : octets_cmp c.args.octets.now here ≡ Greater = ap (octets_cmp c.args.octets.now) (sym c.octets.ensures.value) ∙ sym c.cmp.ensures ∙ c.in-Greater.is in
    record {
      before = omega (arith, c.loop-at.invariant.before, c.loop-at-test.true);
      within = c.loop-at.invariant.within;
      lower = goes_behind_at c.args.octets.now c.args.records.now middle (middle + 1) here c.requires (omega (arith, c.loop-at.invariant.within, c.loop-at-test.true)) c.index-records-middle.is above (omega arith);
    }

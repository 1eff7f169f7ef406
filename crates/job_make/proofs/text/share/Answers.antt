use Rattle.std.proofs.Common.{◌%◌, eqb, refl, arith}
use Rattle.job_make.proofs.LoadLemmas.{share_first, share_more}
use Rattle.job_make.proofs.text.share.Goals as goal

pub loop-name-init : goal.loop-name-init
loop-name-init c = record { counted = share_first c.args.workers c.args.remainder; few = omega arith }

pub loop-name-preserved : goal.loop-name-preserved
loop-name-preserved c =
    record {
      counted = share_more c.args.workers c.args.remainder c.loop-name.name c.loop-name.count c.one_more-count.result (eqb (c.loop-name.name % c.args.workers) c.args.remainder) c.loop-name.invariant.counted refl c.one_more-count.ensures.value;
      few = omega arith;
    }

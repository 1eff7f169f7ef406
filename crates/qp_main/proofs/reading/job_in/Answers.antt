use Rattle.std.proofs.Common.{◌<◌, arith, get_or}
use Rattle.qp_main.proofs.ReadingLemmas.{octets_of, job_said}
use Rattle.qp_main.proofs.reading.job_in.Goals as goal

pub returns-clause-said : goal.returns-clause-said
returns-clause-said c =
    job_said c.args.origin.now c.args.bytes.now c.wire-wire.ensures.name (octets_of c.args.bytes.now (λ i. let k : get_or c.args.bytes.now i 0 < 256 = omega (arith, c.type_inv.bytes i) in k)) c.args.first_line c.read_job.result c.read_job.ensures.reads

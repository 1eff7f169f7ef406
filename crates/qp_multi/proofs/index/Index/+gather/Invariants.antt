use Rattle.std.proofs.Common.{vec_len}
use Rattle.qp_multi.proofs.index.Index.+gather.Given as goal

abbrev pub decreases-gather : goal.decreases-gather
decreases-gather g a = vec_len a.others

use Rattle.std.proofs.Common.{length, ◌+◌, ◌*◌}
use Rattle.zones_threads.proofs.job.+workers.Given as goal

abbrev pub decreases-run_workers : goal.decreases-run_workers
decreases-run_workers g a = 2 * length a.workers.now

abbrev pub decreases-rest : goal.decreases-rest
decreases-rest g a = 2 * length a.others.now + 1

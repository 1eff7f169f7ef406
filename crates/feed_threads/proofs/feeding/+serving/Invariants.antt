use Rattle.std.proofs.Common.{vec_len, ◌+◌, ◌*◌}
use Rattle.feed_threads.proofs.feeding.+serving.Given as goal

abbrev pub decreases-serve_all : goal.decreases-serve_all
decreases-serve_all g a = 2 * vec_len a.seats

abbrev pub decreases-rest : goal.decreases-rest
decreases-rest g a = 2 * vec_len a.seats + 1

-- What is printed for a made load and its outcomes.
use Rattle.std.specs.Prelude.{ℕ, ◌+◌, Bool, List, [], ◌∷◌, ◌++◌, length, if◌then◌else◌, codes}
use Rattle.std.specs.Fmt.{decimal}
use Rattle.zone_model.specs.Names.{Name}
use Rattle.zone_model.specs.Versions.{Version}
use Rattle.job_model.specs.Sizes.{node_count}
use Rattle.job_model.specs.Outcomes.{Ended, Pair, is_committed, is_refused, all_pairs, version_at}
use Rattle.job_model.specs.Replies.{size_text}
use Rattle.job_model.specs.Reports.{head_text, ended_text}

-- how many commands ended so
abbrev pub ended_count : (Ended → Bool) → List Pair → ℕ
ended_count so [] = 0
ended_count so (pair ∷ rest) = (if so pair.1.ended then 1 else 0) + ended_count so rest

-- the lines of a worker's refused transactions, from a command on
abbrev pub refused_text : ℕ → ℕ → List Pair → List ℕ
refused_text w c [] = []
refused_text w c (pair ∷ rest) = (if is_refused pair.1.ended then head_text w c pair.1.version ++ ended_text pair.1.ended else []) ++ refused_text w (c + 1) rest

abbrev pub all_refused_text : ℕ → List (List Pair) → List ℕ
all_refused_text w [] = []
all_refused_text w (pairs ∷ rest) = refused_text w 1 pairs ++ all_refused_text (w + 1) rest

-- how many commands there were, and how many transactions were committed and refused
abbrev pub counts_text : ℕ → ℕ → ℕ → List ℕ
counts_text commands committed refused = codes "make commands " ++ decimal commands ++ codes " committed " ++ decimal committed ++ codes " refused " ++ decimal refused ++ codes "\n"

-- the last version with its size
abbrev pub sized_end_text : ℕ → ℕ → ℕ → List ℕ
sized_end_text last names nodes = codes "end v" ++ decimal last ++ codes " " ++ size_text names nodes

-- the counts, the refused transactions, and the last version with its size
abbrev pub summary : Name → Version → List (List Pair) → ℕ → List ℕ
summary origin zone workers last =
    counts_text (length (all_pairs workers)) (ended_count is_committed (all_pairs workers)) (ended_count is_refused (all_pairs workers))
    ++ all_refused_text 1 workers
    ++ sized_end_text last (length (version_at origin zone (all_pairs workers) last)) (node_count (version_at origin zone (all_pairs workers) last))

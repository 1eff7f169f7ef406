-- The trie of a version, and whether it fits into chunks.
use Rattle.std.specs.Prelude.{ℕ, List, Bool, nat_le, ◌++◌, length, codes}
use Rattle.std.specs.Fmt.{decimal}
use Rattle.zone_model.specs.Versions.{Version}
use Rattle.job_model.specs.Sizes.{cell_count, node_count}
use Rattle.job_model.specs.Replies.{size_text}
use Rattle.qp_multi.specs.Openings.{room_in}

abbrev pub fits : ℕ → Version → Bool
fits chunks version = nat_le (cell_count version) (room_in chunks)

abbrev pub no_room_text : ℕ → Version → List ℕ
no_room_text chunks version = codes "zone does not fit: " ++ decimal (cell_count version) ++ codes " cells over " ++ decimal (room_in chunks) ++ codes "\n"

-- how many names and nodes version 0 has
abbrev pub opened_text : Version → List ℕ
opened_text version = codes "v0 " ++ size_text (length version) (node_count version)

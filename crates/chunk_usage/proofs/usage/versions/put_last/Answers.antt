use Rattle.std.proofs.Common.{◌-◌, [], length, ap, ◌∙◌, arith}
use Rattle.std.specs.Prelude.{remove}
use Rattle.std.proofs.lemmas.Slice.{put_mid-rotated}
use Rattle.chunk_usage.specs.Ledger.{Row}
use Rattle.chunk_usage.proofs.KeptLemmas.{one_removed, rotated}
use Rattle.chunk_usage.proofs.usage.versions.put_last.Goals as goal

pub returns-clause-others : goal.returns-clause-others
returns-clause-others c =
    let d : Row = record { version = 0; chunks = [] } in
    rotated c.args.rows.now _ c.place_of-place.result _ c.place_of-place.ensures.within
    (put_mid-rotated c.place_of-place.result (length c.args.rows.now - c.place_of-place.result) c.args.rows.now c.rotate_left.new.self d c.place_of-place.ensures.within (omega arith) c.rotate_left.ensures.after)
    ∙ ap (remove c.args.rows.now) c.place_of-place.ensures.first
    ∙ one_removed c.args.rows.now c.args.version c.requires.rising c.requires.kept

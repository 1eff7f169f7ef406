use Rattle.std.proofs.Common.{ℕ, Option, slice_index, subst}
use Rattle.chunk_usage.specs.Ledger.{is_used}
use Rattle.trie_space.specs.Standing.{Standing}
use Rattle.evacuate.proofs.EndLaws.{stood_of}
use Rattle.evacuate.proofs.spans.find_spans.Goals as goal

pub find_below-requires : goal.find_below-requires
find_below-requires g c =
    let h = subst (λ (r : Option ℕ). Standing (g.C.CellRead.has c.args.cells.now) (is_used c.args.usage.now) (slice_index c.args.usage.now.live) r c.requires.stands.0) c.in-Some.is c.requires.stands.1 in
    record { stood = record { es = c.requires.stands.0; t = h.0; stood = stood_of h.1 } }

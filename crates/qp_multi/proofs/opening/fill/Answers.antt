use Rattle.std.proofs.Common.{◌≡◌, ◌∙◌, ◌==◌, List, Bool, length, slice_index, sym, ap, subst, rules}
use Rattle.std.proofs.lemmas.List.FromFn.{length-map-range_with_len}
use Rattle.pin_core.specs.Words.{status_at}
use Rattle.chunk_usage.specs.Ledger.{Ledger}
use Rattle.trie_write.specs.Entries.{entries_of_items}
use Rattle.shared_cells.specs.Views.{words_of}
use Rattle.shared_cells.specs.Cells.{Cells}
use Rattle.qp_multi.specs.Bases.{StandsFor}
use Rattle.qp_multi.specs.Turns.{cells_with}
use Rattle.qp_multi.proofs.AttemptLaws.{rooted_there}
use Rattle.qp_multi.proofs.OpenLaws.{items_tell}
use Rattle.qp_multi.proofs.opening.fill.Goals as goal

pub build-requires : goal.build-requires
build-requires g c = record { rising = c.requires.can.rising; uncounted = search rules; ready = search rules }

pub find_spans-requires : goal.find_spans-requires
find_spans-requires g c = record { stands = (entries_of_items c.args.items.now, c.in-Ok.ensures.built) }

pub returns-in-Ok-clause-stands : goal.returns-in-Ok-clause-stands
returns-in-Ok-clause-stands g c =
    let lent = c.build.new.cells in
    let new = c.build.new.usage in
    let es = entries_of_items c.args.items.now in
    let w = c.into_new.result.place.me.0 in
    let chunks : length new.given ≡ lent.chunks = ap (λ (bs : List Bool). length bs) (sym c.build.ensures.takes.ready.same) ∙ length-map-range_with_len (λ chunk. slice_index lent.words (status_at chunk) == 1) 0 lent.chunks in
    let words : words_of w.turn ≡ lent.words = ap (λ (k : Cells). k.words) c.into_new.ensures.cells ∙ ap (λ (k : Cells). k.words) c.find_spans.ensures.cells in
    subst (λ (u : Ledger). StandsFor w u c.in-Ok.root es) (sym c.find_spans.ensures.usage)
    (rooted_there lent (cells_with new w.turn) chunks words new c.in-Ok.root es (record { stands = c.in-Ok.ensures.built; tells = items_tell c.args.items.now }))

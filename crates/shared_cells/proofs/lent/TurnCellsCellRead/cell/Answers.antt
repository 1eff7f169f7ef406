use Rattle.std.proofs.Common.{◌≡◌, ℕ, ◌+◌, ◌*◌, ◌/◌, ◌<◌, true, sym, subst, arith}
use Rattle.shared_cells.proofs.Chunks.{chunk_within, same_chunks}
use Rattle.shared_cells.proofs.lent.TurnCellsCellRead.cell.Goals as goal

-- both words of a cell that there is are past the pins, and in the table
word_inside : (at word words chunks : ℕ) → word ≡ 4161 + 2 * at → at / 1024 < chunks → 4161 + 2048 * chunks ≡ words → (64 < word) × (word + 1 < words)
word_inside at word words chunks is small wide = (omega arith, omega arith)

pub recall-requires-clause-inside : goal.recall-requires-clause-inside
recall-requires-clause-inside g c =
    let s = c.self.inside in
    let n = s.shared.now.table.shared.key.chunks in
    let small : c.args.at / 1024 < n = subst (λ (k : ℕ). c.args.at / 1024 < k) (sym (same_chunks n s.place.me.0.turn _ c.self.view_is)) (chunk_within c.args.self.now _ true c.requires.there.1.given) in
    let l = word_inside c.args.at c.place_of_half-word.result _ n c.place_of_half-word.ensures small s.shared.now.wide in
    (l.0, (let m = l.1 in omega arith))

pub recall-requires-2-clause-inside : goal.recall-requires-2-clause-inside
recall-requires-2-clause-inside g c =
    let s = c.self.inside in
    let n = s.shared.now.table.shared.key.chunks in
    let small : c.args.at / 1024 < n = subst (λ (k : ℕ). c.args.at / 1024 < k) (sym (same_chunks n s.place.me.0.turn _ c.self.view_is)) (chunk_within c.args.self.now _ true c.requires.there.1.given) in
    let l = word_inside c.args.at c.place_of_half-word.result _ n c.place_of_half-word.ensures small s.shared.now.wide in
    ((let m = l.0 in omega arith), l.1)

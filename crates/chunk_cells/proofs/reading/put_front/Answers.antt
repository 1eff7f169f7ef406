use Rattle.std.proofs.Common.{◌≡◌, ℕ, ◌+◌, ◌-◌, ◌<◌, ◌≤◌, ◌⊎◌, inl, inr, List, length, length-take-le, drop, get_or-take, slice_index, arith, sym, ap, ◌∙◌}
use Rattle.std.proofs.lemmas.Bool.{cases_lt}
use Rattle.std.proofs.lemmas.List.{length-drop}
use borrow.Rule.Slice.PartMut.{put_mid}
use Rattle.chunk_cells.proofs.ItemLaws.{octet_there, put_mid_at}
use Rattle.chunk_cells.proofs.reading.put_front.Goals as goal

pub returns-clause-octets : goal.returns-clause-octets
returns-clause-octets c item low big small i l m =
    let rest = length-drop c.args.start c.args.out.now in
    let same : length c.copy_from_slice.new.self ≡ length c.args.out.now - c.args.start =
    c.copy_from_slice.ensures.len ∙ length-take-le (length c.args.out.now - c.args.start) (drop c.args.start c.args.out.now) (omega arith) in
    let e : c.args.start + (i - c.args.start) ≡ i = omega arith in
    ap (slice_index (put_mid c.args.start (length c.args.out.now - c.args.start) c.args.out.now c.copy_from_slice.new.self)) (sym e)
    ∙ put_mid_at c.args.start (length c.args.out.now - c.args.start) c.args.out.now c.copy_from_slice.new.self (i - c.args.start) (omega arith) (omega arith)
    ∙ ap (λ (xs : List ℕ). slice_index xs (i - c.args.start)) c.copy_from_slice.ensures.after
    ∙ get_or-take (length c.args.out.now - c.args.start) c.put_word-2.new.out (i - c.args.start) 0 (omega arith)
    ∙ word (cases_lt (i - c.args.start) 8)
  where
    word : ((i - c.args.start) < 8) ⊎ (8 ≤ (i - c.args.start)) → slice_index c.put_word-2.new.out (i - c.args.start) ≡ slice_index item i
    word (inl first) =
        let z : 0 + (i - c.args.start) ≡ i - c.args.start = omega arith in
        c.put_word-2.ensures.before (i - c.args.start) first ∙ ap (slice_index c.put_word.new.out) (sym z) ∙ c.put_word.ensures.written (i - c.args.start) first
        ∙ octet_there item c.args.cell.big c.args.start i low big l (omega arith)
    word (inr second) =
        let e : 8 + (i - (c.args.start + 8)) ≡ i - c.args.start = omega arith in
        ap (slice_index c.put_word-2.new.out) (sym e) ∙ c.put_word-2.ensures.written (i - (c.args.start + 8)) (let f = c.requires.few in omega arith)
        ∙ octet_there item c.args.cell.small (c.args.start + 8) i low small (omega arith) (let f = c.requires.few in omega arith)

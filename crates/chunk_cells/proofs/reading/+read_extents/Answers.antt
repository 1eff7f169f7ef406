use Rattle.std.proofs.Common.{◌≡◌, ℕ, ◌+◌, ◌-◌, ◌<◌, inl, inr, length, drop, slice_index, get_or-drop, get_or-take, length-take-le, sym, ap, subst, ◌∙◌, arith, rules}
use Rattle.std.proofs.lemmas.Bool.{cases_lt}
use Rattle.std.proofs.lemmas.List.{length-drop, get_or_past}
use borrow.Rule.Slice.PartMut.{put_mid}
use Rattle.trie_model.specs.Extents.{HasItem, item_cell, link_cell}
use Rattle.trie_model.specs.Keys.{AreOctets}
use Rattle.trie_model.proofs.ExtentLaws.{linked_is, LiesOn, lies_in_row, lies_on}
use Rattle.chunk_cells.proofs.ItemLaws.{put_mid_at, put_mid_before, put_mid_past}
use Rattle.chunk_cells.proofs.reading.+read_extents.Goals as goal

pub read_last-requires : goal.read_last-requires
read_last-requires g t c = record {
  room = search rules;
  short = search rules;
  inside =
      let x = c.requires.there in
      (lies_in_row (g.C.CellRead.has c.args.cells.now) c.args.at c.args.len x.0 x.2 (omega arith)).row.inside;
  there = λ k l.
      let x = c.requires.there in
      (item_cell x.0 k, (lies_in_row (g.C.CellRead.has c.args.cells.now) c.args.at c.args.len x.0 x.2 (omega arith)).cells k l);
}

pub read_cells-requires : goal.read_cells-requires
read_cells-requires g t c = record {
  room = search rules;
  inside =
      let x = c.requires.there in
      let r = (lies_on (g.C.CellRead.has c.args.cells.now) c.args.at c.args.len x.0 x.2 (omega arith)).row.inside in let e = linked_is in omega arith;
  there = λ k l.
      let x = c.requires.there in
      (item_cell x.0 k, (lies_on (g.C.CellRead.has c.args.cells.now) c.args.at c.args.len x.0 x.2 (omega arith)).cells k l);
}

pub next_extent-next-requires-clause-inside : goal.next_extent-next-requires-clause-inside
next_extent-next-requires-clause-inside g t c =
    let x = c.requires.there in
    let r = (lies_on (g.C.CellRead.has c.args.cells.now) c.args.at c.args.len x.0 x.2 (omega arith)).row.inside in let e = linked_is in omega arith

pub next_extent-next-requires-clause-there : goal.next_extent-next-requires-clause-there
next_extent-next-requires-clause-there g t c =
    let x = c.requires.there in
    let on = lies_on (g.C.CellRead.has c.args.cells.now) c.args.at c.args.len x.0 x.2 (omega arith) in
    (on.next, subst (λ s. g.C.CellRead.has s (c.args.at + 255) (link_cell on.next)) (sym c.read_cells.ensures.same) on.link, on.inside)

pub read_extents-requires : goal.read_extents-requires
read_extents-requires g t c κs within =
    let x = c.requires.there in
    let on = lies_on (g.C.CellRead.has c.args.cells.now) c.args.at c.args.len x.0 x.2 (omega arith) in
    let size = length-drop 4080 c.read_cells.new.out in
    let whole = length-take-le (length c.read_cells.new.out - 4080) (drop 4080 c.read_cells.new.out) (omega arith) in
    let room = c.requires.room in
    let same_out = c.read_cells.auto.out in
    let here : c.next_extent-next.new.cells ≡ c.args.cells.now = c.next_extent-next.ensures.same ∙ c.read_cells.ensures.same in
    let next : c.next_extent-next.result ≡ on.next =
    c.next_extent-next.ensures.next on.next (subst (λ s. g.C.CellRead.has s (c.args.at + 255) (link_cell on.next)) (sym c.read_cells.ensures.same) on.link) on.inside in
    let rest = subst (λ (n : ℕ). HasItem (g.C.CellRead.has c.next_extent-next.new.cells) n (c.args.len - 4080) (drop 4080 x.0)) (sym next)
    (subst (λ s. HasItem (g.C.CellRead.has s) on.next (c.args.len - 4080) (drop 4080 x.0)) (sym here) on.rest) in
    let octets : AreOctets (drop 4080 x.0) = λ i. subst (λ (n : ℕ). n < 256) (sym (get_or-drop 4080 x.0 i 0)) (x.1 (4080 + i)) in
    let less : c.args.len - 4080 < c.args.len = omega arith in
    (search (rules, less), (within, (omega arith, (drop 4080 x.0, octets, rest))))

pub returns-clause-octets : goal.returns-clause-octets
returns-clause-octets g t c item octets lies i l = elim (cases_lt i 4080) [
  | inl before ↦
      put_mid_before 4080 (length c.read_cells.new.out - 4080) c.read_cells.new.out c.read_extents.new.out i (let r = c.requires.room in let a = c.read_cells.auto.out in omega arith) before
      ∙ c.read_cells.ensures.octets item octets on.cells i (omega arith)
  | inr after ↦ (
      let e : 4080 + (i - 4080) ≡ i = omega arith in
      let size = length-drop 4080 c.read_cells.new.out in
      let whole = length-take-le (length c.read_cells.new.out - 4080) (drop 4080 c.read_cells.new.out) (omega arith) in
      ap (slice_index (put_mid 4080 (length c.read_cells.new.out - 4080) c.read_cells.new.out c.read_extents.new.out)) (sym e)
      ∙ put_mid_at 4080 (length c.read_cells.new.out - 4080) c.read_cells.new.out c.read_extents.new.out (i - 4080) (let r = c.requires.room in let a = c.read_cells.auto.out in omega arith) (let r = c.requires.room in let a = c.read_cells.auto.out in let b = c.read_extents.auto.out in omega arith)
      ∙ c.read_extents.ensures.octets (drop 4080 item) (λ j. subst (λ (n : ℕ). n < 256) (sym (get_or-drop 4080 item j 0)) (octets (4080 + j))) rest (i - 4080) (omega arith)
      ∙ get_or-drop 4080 item (i - 4080) 0 ∙ ap (slice_index item) e
      )
]
  where
    on : LiesOn (g.C.CellRead.has c.args.cells.now) c.args.at c.args.len item
    on = lies_on (g.C.CellRead.has c.args.cells.now) c.args.at c.args.len item lies (omega arith)

    next : c.next_extent-next.result ≡ on.next
    next = c.next_extent-next.ensures.next on.next (subst (λ s. g.C.CellRead.has s (c.args.at + 255) (link_cell on.next)) (sym c.read_cells.ensures.same) on.link) on.inside

    rest : HasItem (g.C.CellRead.has c.next_extent-next.new.cells) c.next_extent-next.result (c.args.len - 4080) (drop 4080 item)
    rest = subst (λ (n : ℕ). HasItem (g.C.CellRead.has c.next_extent-next.new.cells) n (c.args.len - 4080) (drop 4080 item)) (sym next)
        (subst (λ s. HasItem (g.C.CellRead.has s) on.next (c.args.len - 4080) (drop 4080 item)) (sym (c.next_extent-next.ensures.same ∙ c.read_cells.ensures.same)) on.rest)

pub returns-clause-rest : goal.returns-clause-rest
returns-clause-rest g t c i l = elim (cases_lt i (length c.args.out.now)) [
  | inl inside ↦ (
      let e : 4080 + (i - 4080) ≡ i = omega arith in
      let size = length-drop 4080 c.read_cells.new.out in
      let whole = length-take-le (length c.read_cells.new.out - 4080) (drop 4080 c.read_cells.new.out) (omega arith) in
      ap (slice_index (put_mid 4080 (length c.read_cells.new.out - 4080) c.read_cells.new.out c.read_extents.new.out)) (sym e)
      ∙ put_mid_at 4080 (length c.read_cells.new.out - 4080) c.read_cells.new.out c.read_extents.new.out (i - 4080) (let r = c.requires.room in let a = c.read_cells.auto.out in omega arith) (let r = c.requires.room in let a = c.read_cells.auto.out in let b = c.read_extents.auto.out in omega arith)
      ∙ c.read_extents.ensures.rest (i - 4080) (omega arith)
      ∙ get_or-take (length c.read_cells.new.out - 4080) (drop 4080 c.read_cells.new.out) (i - 4080) 0 (let a = c.read_cells.auto.out in omega arith)
      ∙ get_or-drop 4080 c.read_cells.new.out (i - 4080) 0 ∙ ap (slice_index c.read_cells.new.out) e ∙ c.read_cells.ensures.rest i (omega arith)
      )
  | inr outside ↦ (
      let size = length-drop 4080 c.read_cells.new.out in
      let whole = length-take-le (length c.read_cells.new.out - 4080) (drop 4080 c.read_cells.new.out) (omega arith) in
      put_mid_past 4080 (length c.read_cells.new.out - 4080) c.read_cells.new.out c.read_extents.new.out i (let r = c.requires.room in let a = c.read_cells.auto.out in omega arith) (let b = c.read_extents.auto.out in omega arith) (omega arith) (let r = c.requires.room in let a = c.read_cells.auto.out in omega arith)
      ∙ sym (get_or_past c.args.out.now i 0 outside)
      )
]

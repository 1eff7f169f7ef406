use Rattle.std.proofs.Common.{◌≡◌, ◌≢◌, ℕ, ◌+◌, ◌-◌, ◌/◌, ◌<◌, List, Bool, Contains, length, take, drop, slice_index, get_or-drop, sym, ap, subst, ◌∙◌, arith, rules}
use Rattle.std.proofs.lemmas.List.{length-drop, take_all}
use Rattle.trie_model.specs.Extents.{Extents, first_of, linked_cells, links, EachCell, IsBeside, ItemLies, item_cell, link_cell}
use Rattle.trie_model.proofs.ExtentLaws.{linked_is, item_kept, each_beside}
use Rattle.chunk_cells.specs.Chunks.{IsGiven}
use Rattle.chunk_cells.specs.Laying.{AreBlank, extents_at}
use Rattle.chunk_cells.proofs.LayingLaws.{BlankRows, blank_row, blank_rows, one_extent, more_extents, first_is}
use Rattle.chunk_cells.proofs.writing.+write_extents.Goals as goal

-- ---- one extent
pub write_cells-requires : goal.write_cells-requires
write_cells-requires g t c = record {
  few = search rules;
  inside =
      let b = (blank_row _ _ (length c.args.item.now) c.args.at.now (omega arith) (let e = c.requires.enough in omega arith) c.requires.blank).row.inside in
      let e = c.content_cells_for.ensures in omega arith;
  given = λ k l. (blank_row _ _ (length c.args.item.now) c.args.at.now (omega arith) (let e = c.requires.enough in omega arith) c.requires.blank).in_given k (let e = c.content_cells_for.ensures in omega arith);
  unkept = λ k l. (blank_row _ _ (length c.args.item.now) c.args.at.now (omega arith) (let e = c.requires.enough in omega arith) c.requires.blank).unkept k (let e = c.content_cells_for.ensures in omega arith);
}

pub returns-then-item-le-LAST_OCTETS-clause-lies : goal.returns-then-item-le-LAST_OCTETS-clause-lies
returns-then-item-le-LAST_OCTETS-clause-lies g t c =
    subst (λ (x : Extents). ItemLies (g.C.CellRead.has c.write_cells.new.cells) x c.args.item.now) (sym (one_extent (length c.args.item.now) c.args.at.now (omega arith) (let e = c.requires.enough in omega arith)))
    (λ k l. c.write_cells.ensures.lies k (let e = c.content_cells_for.ensures in omega arith))

pub returns-then-item-le-LAST_OCTETS-clause-others : goal.returns-then-item-le-LAST_OCTETS-clause-others
returns-then-item-le-LAST_OCTETS-clause-others g t c q x beside h =
    let one = subst (IsBeside q (length c.args.item.now)) (one_extent (length c.args.item.now) c.args.at.now (omega arith) (let e = c.requires.enough in omega arith)) beside in
    c.write_cells.ensures.others q x (λ k l. one k (let e = c.content_cells_for.ensures in omega arith)) h

-- ---- several
pub write_extents-requires : goal.write_extents-requires
write_extents-requires g t c κs within =
    let size = length-drop 4080 c.args.item.now in
    let item_is : length (take (length c.args.item.now - 4080) (drop 4080 c.args.item.now)) ≡ length c.args.item.now - 4080 =
    ap length (take_all (length c.args.item.now - 4080) (drop 4080 c.args.item.now) (omega arith)) ∙ size in
    let places = length-drop 1 c.args.at.now in
    let at_is : take (length c.args.at.now - 1) (drop 1 c.args.at.now) ≡ drop 1 c.args.at.now = take_all (length c.args.at.now - 1) (drop 1 c.args.at.now) (omega arith) in
    let enough = c.requires.enough in
    let rows = blank_rows _ _ (length c.args.item.now) c.args.at.now (omega arith) (omega arith) c.requires.blank in
    let behind = subst (λ (rs : List ℕ). AreBlank (g.C.CellWrite.kept c.args.cells.now) (g.C.CellWrite.given c.args.cells.now) (length c.args.item.now - 4080) (extents_at (links (length c.args.item.now - 4080)) rs)) (sym at_is) rows.behind in
    let blank = subst (λ (n : ℕ). AreBlank (g.C.CellWrite.kept c.args.cells.now) (g.C.CellWrite.given c.args.cells.now) n (extents_at (links n) (take (length c.args.at.now - 1) (drop 1 c.args.at.now)))) (sym item_is) behind in
    let fewer : links (length (take (length c.args.item.now - 4080) (drop 4080 c.args.item.now))) < length (take (length c.args.at.now - 1) (drop 1 c.args.at.now)) = let l = ap length at_is in omega arith in
    let less : length (take (length c.args.item.now - 4080) (drop 4080 c.args.item.now)) < length c.args.item.now = omega arith in
    (search (rules, less), (within, record { enough = fewer; blank = blank }))

pub write_cells-requires-2 : goal.write_cells-requires-2
write_cells-requires-2 g t c = record {
  few = search rules;
  inside = let i = (blank_rows _ _ (length c.args.item.now) c.args.at.now (omega arith) (let e = c.requires.enough in omega arith) c.requires.blank).first.row.inside in let e = linked_is in omega arith;
  given = λ k l.
      subst (λ (gs : List Bool). IsGiven gs ((slice_index c.args.at.now 0 + k) / 1024)) (sym c.write_extents.ensures.given)
      ((blank_rows _ _ (length c.args.item.now) c.args.at.now (omega arith) (let e = c.requires.enough in omega arith) c.requires.blank).first.in_given k (let e = linked_is in omega arith));
  unkept = λ k l h.
      (blank_rows _ _ (length c.args.item.now) c.args.at.now (omega arith) (let e = c.requires.enough in omega arith) c.requires.blank).first.unkept k (let e = linked_is in omega arith)
      (subst (λ (ks : List ℕ). Contains ks (slice_index c.args.at.now 0 + k)) c.write_extents.ensures.kept h);
}

pub put-requires-clause-given : goal.put-requires-clause-given
put-requires-clause-given g t c =
    subst (λ (gs : List Bool). IsGiven gs ((slice_index c.args.at.now 0 + 255) / 1024)) (sym (c.write_cells-2.ensures.given ∙ c.write_extents.ensures.given))
    ((blank_rows _ _ (length c.args.item.now) c.args.at.now (omega arith) (let e = c.requires.enough in omega arith) c.requires.blank).first.in_given 255 (let e = linked_is in omega arith))

pub put-requires-clause-unkept : goal.put-requires-clause-unkept
put-requires-clause-unkept g t c h =
    (blank_rows _ _ (length c.args.item.now) c.args.at.now (omega arith) (let e = c.requires.enough in omega arith) c.requires.blank).first.unkept 255 (let e = linked_is in omega arith)
    (subst (λ (ks : List ℕ). Contains ks (slice_index c.args.at.now 0 + 255)) (c.write_cells-2.ensures.kept ∙ c.write_extents.ensures.kept) h)

pub returns-clause-others : goal.returns-clause-others
returns-clause-others g t c q x beside h =
    let parts = subst (IsBeside q (length c.args.item.now)) (more_extents (length c.args.item.now) c.args.at.now (omega arith) (let e = c.requires.enough in omega arith)) beside in
    let size = length-drop 4080 c.args.item.now in
    let item_is : length (take (length c.args.item.now - 4080) (drop 4080 c.args.item.now)) ≡ length c.args.item.now - 4080 =
    ap length (take_all (length c.args.item.now - 4080) (drop 4080 c.args.item.now) (omega arith)) ∙ size in
    let places = length-drop 1 c.args.at.now in
    let at_is : take (length c.args.at.now - 1) (drop 1 c.args.at.now) ≡ drop 1 c.args.at.now = take_all (length c.args.at.now - 1) (drop 1 c.args.at.now) (omega arith) in
    let apart = subst (λ (n : ℕ). IsBeside q n (extents_at (links n) (take (length c.args.at.now - 1) (drop 1 c.args.at.now)))) (sym item_is)
    (subst (λ (rs : List ℕ). IsBeside q (length c.args.item.now - 4080) (extents_at (links (length c.args.item.now - 4080)) rs)) (sym at_is) parts.1) in
    c.put.ensures.others q x (parts.0 255 (let e = linked_is in omega arith)) (c.write_cells-2.ensures.others q x (λ k l. parts.0 k (let e = linked_is in omega arith)) (c.write_extents.ensures.others q x apart h))

pub returns-clause-lies : goal.returns-clause-lies
returns-clause-lies g t c =
    subst (λ (x : Extents). ItemLies (g.C.CellRead.has c.put.new.self) x c.args.item.now) (sym (more_extents (length c.args.item.now) c.args.at.now (omega arith) (let e = c.requires.enough in omega arith)))
    (front, link, behind)
  where
    rows : BlankRows (g.C.CellWrite.kept c.args.cells.now) (g.C.CellWrite.given c.args.cells.now) (length c.args.item.now) (slice_index c.args.at.now 0) (extents_at (links (length c.args.item.now - 4080)) (drop 1 c.args.at.now))
    rows = blank_rows _ _ (length c.args.item.now) c.args.at.now (omega arith) (let e = c.requires.enough in omega arith) c.requires.blank

    front : (k : ℕ) → k < 255 → g.C.CellRead.has c.put.new.self (slice_index c.args.at.now 0 + k) (item_cell c.args.item.now k)
    front k l = c.put.ensures.others (slice_index c.args.at.now 0 + k) (item_cell c.args.item.now k) (λ e. omega arith) (c.write_cells-2.ensures.lies k l)

    next_is : c.link_to.result ≡ link_cell (first_of (extents_at (links (length c.args.item.now - 4080)) (drop 1 c.args.at.now)))
    next_is = c.link_to.ensures ∙ ap link_cell (sym (first_is (links (length c.args.item.now - 4080)) (drop 1 c.args.at.now) (let e = c.requires.enough in let s = length-drop 1 c.args.at.now in omega arith) ∙ get_or-drop 1 c.args.at.now 0 0))

    link : g.C.CellRead.has c.put.new.self (slice_index c.args.at.now 0 + 255) (link_cell (first_of (extents_at (links (length c.args.item.now - 4080)) (drop 1 c.args.at.now))))
    link = subst (g.C.CellRead.has c.put.new.self (slice_index c.args.at.now 0 + 255)) next_is c.put.ensures.written

    rest_is : take (length c.args.item.now - 4080) (drop 4080 c.args.item.now) ≡ drop 4080 c.args.item.now
    rest_is = take_all (length c.args.item.now - 4080) (drop 4080 c.args.item.now) (let s = length-drop 4080 c.args.item.now in omega arith)

    at_is : take (length c.args.at.now - 1) (drop 1 c.args.at.now) ≡ drop 1 c.args.at.now
    at_is = take_all (length c.args.at.now - 1) (drop 1 c.args.at.now) (let s = length-drop 1 c.args.at.now in omega arith)

    before : ItemLies (g.C.CellRead.has c.write_extents.new.cells) (extents_at (links (length c.args.item.now - 4080)) (drop 1 c.args.at.now)) (drop 4080 c.args.item.now)
    before =
        subst (λ (n : ℕ). ItemLies (g.C.CellRead.has c.write_extents.new.cells) (extents_at (links n) (drop 1 c.args.at.now)) (drop 4080 c.args.item.now)) (length-drop 4080 c.args.item.now)
        (subst (λ (rs : List ℕ). ItemLies (g.C.CellRead.has c.write_extents.new.cells) (extents_at (links (length (drop 4080 c.args.item.now))) rs) (drop 4080 c.args.item.now)) at_is
        (subst (λ (xs : List ℕ). ItemLies (g.C.CellRead.has c.write_extents.new.cells) (extents_at (links (length xs)) (take (length c.args.at.now - 1) (drop 1 c.args.at.now))) xs) rest_is c.write_extents.ensures.lies))

    beside : EachCell (λ q. (k : ℕ) → k < linked_cells → q ≢ slice_index c.args.at.now 0 + k) (length (drop 4080 c.args.item.now)) (extents_at (links (length c.args.item.now - 4080)) (drop 1 c.args.at.now))
    beside = subst (λ (n : ℕ). EachCell (λ q. (k : ℕ) → k < linked_cells → q ≢ slice_index c.args.at.now 0 + k) n (extents_at (links (length c.args.item.now - 4080)) (drop 1 c.args.at.now))) (sym (length-drop 4080 c.args.item.now))
        (each_beside (slice_index c.args.at.now 0) (length c.args.item.now - 4080) (extents_at (links (length c.args.item.now - 4080)) (drop 1 c.args.at.now)) rows.beside)

    behind : ItemLies (g.C.CellRead.has c.put.new.self) (extents_at (links (length c.args.item.now - 4080)) (drop 1 c.args.at.now)) (drop 4080 c.args.item.now)
    behind = item_kept (λ q. (k : ℕ) → k < linked_cells → q ≢ slice_index c.args.at.now 0 + k) (g.C.CellRead.has c.write_extents.new.cells) (g.C.CellRead.has c.put.new.self)
        (λ q x apart h. c.put.ensures.others q x (apart 255 (let e = linked_is in omega arith)) (c.write_cells-2.ensures.others q x (λ k l. apart k (let e = linked_is in omega arith)) h))
        (extents_at (links (length c.args.item.now - 4080)) (drop 1 c.args.at.now)) (drop 4080 c.args.item.now) beside before

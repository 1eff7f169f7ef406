use Rattle.std.proofs.Common.{take, get_or-take, length-take, length-take-le, ext_get_or, sym, ◌∙◌, arith, rules}
use Rattle.trie_model.specs.Extents.{item_cell}
use Rattle.trie_model.proofs.ExtentLaws.{front_lies, front_inside}
use Rattle.chunk_cells.proofs.reading.read_front.Goals as goal

pub read_cells-requires : goal.read_cells-requires
read_cells-requires g c = record {
  room = search rules;
  inside =
      let x = c.requires.there in let e = c.content_cells_for.ensures in let m = c.min-len.ensures in
      front_inside (g.C.CellRead.has c.args.cells.now) c.args.leaf.at c.args.leaf.len x.0 x.1 c.content_cells_for.result (omega arith) (omega arith);
  there = λ k l.
      let x = c.requires.there in let e = c.content_cells_for.ensures in let m = c.min-len.ensures in
      (item_cell x.0 k, front_lies (g.C.CellRead.has c.args.cells.now) c.args.leaf.at c.args.leaf.len x.0 x.1 k (omega arith) (omega arith));
}

pub returns-clause-front : goal.returns-clause-front
returns-clause-front g c item octets lies =
    let n = c.content_cells_for.ensures in
    let r = c.min-len.ensures in
    let size = lies.there.size in
    let taken = length-take-le c.min-len.result c.read_cells.new.out (let a = c.read_cells.auto.out in let b = c.told-out in omega arith) in
    let front = length-take 256 item in
    ext_get_or 0 (take c.min-len.result c.read_cells.new.out) (take 256 item) (omega arith)
    (λ i l. get_or-take c.min-len.result c.read_cells.new.out i 0 (omega arith)
    ∙ c.read_cells.ensures.octets item octets (λ k m. front_lies (g.C.CellRead.has c.args.cells.now) c.args.leaf.at c.args.leaf.len item lies k (omega arith) (omega arith)) i (omega arith)
    ∙ sym (get_or-take 256 item i 0 (omega arith)))

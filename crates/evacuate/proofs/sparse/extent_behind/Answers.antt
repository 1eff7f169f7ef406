use Rattle.std.proofs.Common.{ℕ, ◌-◌, List, drop, sym, subst, arith}
use Rattle.trie_model.specs.Extents.{Extents, LiesAt, first_of}
use Rattle.trie_model.proofs.ExtentLaws.{linked_is, goes_on}
use Rattle.evacuate.specs.Chains.{LiesBehind}
use Rattle.evacuate.proofs.sparse.extent_behind.Goals as goal

pub next_extent-next-requires-clause-inside : goal.next_extent-next-requires-clause-inside
next_extent-next-requires-clause-inside g c =
    let x = c.requires.there in
    let r = (goes_on (g.C.CellRead.has c.args.cells.now) c.args.at c.args.len x.0 x.1.extents x.1.there (omega arith)).row.inside in let e = linked_is in omega arith

pub next_extent-next-requires-clause-there : goal.next_extent-next-requires-clause-there
next_extent-next-requires-clause-there g c =
    let x = c.requires.there in
    let on = goes_on (g.C.CellRead.has c.args.cells.now) c.args.at c.args.len x.0 x.1.extents x.1.there (omega arith) in
    (_, on.link, on.inside)

behind : (g : _) (c : goal.After-next_extent-next g) → (item : List ℕ) (x : Extents) → LiesAt (g.C.CellRead.has c.args.cells.now) c.args.at c.args.len item x → LiesBehind (g.C.CellRead.has c.next_extent-next.new.cells) c.args.at x c.next_extent-next.result (c.args.len - 4080)
behind g c item x lies =
    let on = goes_on (g.C.CellRead.has c.args.cells.now) c.args.at c.args.len item x lies (omega arith) in
    let next = c.next_extent-next.ensures.next (first_of on.rest) on.link on.inside in
    record {
      item = drop 4080 item;
      rest = on.rest;
      is = on.is;
      lies = subst (λ s. LiesAt (g.C.CellRead.has s) c.next_extent-next.result (c.args.len - 4080) (drop 4080 item) on.rest) (sym c.next_extent-next.ensures.same)
          (subst (λ (n : ℕ). LiesAt (g.C.CellRead.has c.args.cells.now) n (c.args.len - 4080) (drop 4080 item) on.rest) (sym next) on.behind);
    }

pub returns-clause-behind : goal.returns-clause-behind
returns-clause-behind g c =
    let b = behind g c c.requires.there.0 c.requires.there.1.extents c.requires.there.1.there in
    record { fewer = omega arith; item = (b.item, record { extents = b.rest; there = b.lies }); behind = behind g c }

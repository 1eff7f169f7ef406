use Rattle.std.proofs.Common.{◌≡◌, ℕ, ◌-◌, ◌<◌, ◌≤◌, List, length, take, drop, slice_index, slice_set, length-take-le, length-append, ◌++◌, sym, ap, subst, ◌∙◌, arith, rules}
use Rattle.std.proofs.lemmas.List.{length-drop, length-set, get_or-set_same}
use borrow.Rule.Slice.PartMut.{put_mid, post_of}
use Rattle.trie_model.specs.Extents.{LiesAt, first_of, links}
use Rattle.trie_model.specs.Extents.Extents.{last, linked}
use Rattle.trie_model.proofs.ExtentLaws.{Goes, lone, goes_on, linked_is}
use Rattle.chunk_cells.specs.Laying.{extents_at}
use Rattle.chunk_cells.proofs.ItemLaws.{put_mid_before, put_mid_end}
use Rattle.chunk_cells.proofs.LayingLaws.{one_extent, more_extents}
use Rattle.chunk_cells.proofs.extents.+follow_links.Goals as goal

pub next_extent-next-requires-clause-inside : goal.next_extent-next-requires-clause-inside
next_extent-next-requires-clause-inside g t c =
    let x = c.requires.there in
    let r = (goes_on (g.C.CellRead.has c.args.cells.now) c.args.at c.args.len x.0 x.1.extents x.1.there (omega arith)).row.inside in let e = linked_is in omega arith

pub next_extent-next-requires-clause-there : goal.next_extent-next-requires-clause-there
next_extent-next-requires-clause-there g t c =
    let x = c.requires.there in
    let on = goes_on (g.C.CellRead.has c.args.cells.now) c.args.at c.args.len x.0 x.1.extents x.1.there (omega arith) in
    (_, on.link, on.inside)

pub follow_links-requires : goal.follow_links-requires
follow_links-requires g t c κs within =
    let x = c.requires.there in
    let on = goes_on (g.C.CellRead.has c.args.cells.now) c.args.at c.args.len x.0 x.1.extents x.1.there (omega arith) in
    let next = c.next_extent-next.ensures.next (first_of on.rest) on.link on.inside in
    let here = subst (λ (n : ℕ). LiesAt (g.C.CellRead.has c.args.cells.now) n (c.args.len - 4080) (drop 4080 x.0) on.rest) (sym next) on.behind in
    let there : LiesAt (g.C.CellRead.has c.next_extent-next.new.cells) c.next_extent-next.result (c.args.len - 4080) (drop 4080 x.0) on.rest =
    subst (λ s. LiesAt (g.C.CellRead.has s) c.next_extent-next.result (c.args.len - 4080) (drop 4080 x.0) on.rest) (sym c.next_extent-next.ensures.same) here in
    let size = length-set c.args.out.now 0 c.args.at in
    let places = length-drop 1 (slice_set c.args.out.now 0 c.args.at) in
    let room = length-take-le (length (slice_set c.args.out.now 0 c.args.at) - 1) (drop 1 (slice_set c.args.out.now 0 c.args.at)) (omega arith) in
    let enough = c.requires.enough in
    let less : c.args.len - 4080 < c.args.len = omega arith in
    (search (rules, less), (within, (omega arith, (drop 4080 x.0, record { extents = on.rest; there = there }))))

pub returns-then-len-gt-LAST_OCTETS-clause-there : goal.returns-then-len-gt-LAST_OCTETS-clause-there
returns-then-len-gt-LAST_OCTETS-clause-there g t c item x lies =
    more_extents c.args.len written (omega arith) (let a = put_mid_length in omega arith)
    ∙ ap (λ (p : ℕ). linked p (extents_at (links (c.args.len - 4080)) (drop 1 written))) first
    ∙ ap (λ (rs : List ℕ). linked c.args.at (extents_at (links (c.args.len - 4080)) rs)) (put_mid_end 1 (length set - 1) set c.follow_links.new.out some (omega arith))
    ∙ ap (linked c.args.at) (c.follow_links.ensures.there (drop 4080 item) on.rest there) ∙ sym on.is
  where
    set : List ℕ
    set = slice_set c.args.out.now 0 c.args.at

    some : 1 ≤ length set
    some = let e = c.requires.enough in let s = length-set c.args.out.now 0 c.args.at in omega arith

    written : List ℕ
    written = put_mid 1 (length set - 1) set c.follow_links.new.out

    put_mid_length : 0 < length written
    put_mid_length = let a = length-append (take 1 set) (c.follow_links.new.out ++ post_of 1 (length set - 1) set) in let b = length-take-le 1 set some in omega arith

    first : slice_index written 0 ≡ c.args.at
    first = put_mid_before 1 (length set - 1) set c.follow_links.new.out 0 some (omega arith) ∙ get_or-set_same c.args.out.now 0 c.args.at 0 (let e = c.requires.enough in omega arith)

    on : Goes (g.C.CellRead.has c.args.cells.now) c.args.at c.args.len item x
    on = goes_on (g.C.CellRead.has c.args.cells.now) c.args.at c.args.len item x lies (omega arith)

    next : c.next_extent-next.result ≡ first_of on.rest
    next = c.next_extent-next.ensures.next (first_of on.rest) on.link on.inside

    there : LiesAt (g.C.CellRead.has c.next_extent-next.new.cells) c.next_extent-next.result (c.args.len - 4080) (drop 4080 item) on.rest
    there = subst (λ s. LiesAt (g.C.CellRead.has s) c.next_extent-next.result (c.args.len - 4080) (drop 4080 item) on.rest) (sym c.next_extent-next.ensures.same)
        (subst (λ (n : ℕ). LiesAt (g.C.CellRead.has c.args.cells.now) n (c.args.len - 4080) (drop 4080 item) on.rest) (sym next) on.behind)

pub returns-else-len-gt-LAST_OCTETS-clause-there : goal.returns-else-len-gt-LAST_OCTETS-clause-there
returns-else-len-gt-LAST_OCTETS-clause-there g t c item x lies =
    let enough = c.requires.enough in
    let size = length-set c.args.out.now 0 c.args.at in
    one_extent c.args.len (slice_set c.args.out.now 0 c.args.at) (omega arith) (omega arith) ∙ ap last (get_or-set_same c.args.out.now 0 c.args.at 0 (omega arith))
    ∙ sym (lone (g.C.CellRead.has c.args.cells.now) c.args.at c.args.len item x lies (omega arith))

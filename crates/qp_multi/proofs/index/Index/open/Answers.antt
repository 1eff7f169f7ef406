use Rattle.std.proofs.Common.{◌^◌, ◌<◌, ◌∙◌, length, sym, ap, arith}
use Rattle.qp_multi.specs.Openings.{room_in}
use Rattle.trie_write.proofs.MostLaws.{cells_few}
use Rattle.qp_multi.proofs.index.Index.open.Goals as goal

pub returns-in-Some-clause-full : goal.returns-in-Some-clause-full
returns-in-Some-clause-full g c =
    let few : length c.args.items.now < 2 ^ 40 = let f = c.if-items-ge-MANY_ITEMS.false in omega arith in
    let small = cells_few c.args.items.now c.requires.rising few in
    let e = c.in-Some.ensures.beyond in
    (let a = e.0 in omega arith, c.room_in-limit.ensures ∙ ap room_in (c.chunks.ensures ∙ sym c.args.blank.size), e.1)

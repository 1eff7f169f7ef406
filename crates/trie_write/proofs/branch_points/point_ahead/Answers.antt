use Rattle.std.proofs.Common.{Some, None, sym}
use Rattle.trie_write.proofs.ItemLaws.{first_item, neighbours_part, keys_part, keys_part_at}
use Rattle.trie_write.proofs.branch_points.point_ahead.Goals as goal

pub returns-in_err-parting : goal.returns-in_err-parting
returns-in_err-parting c =
    let h = first_item c.args.rest.now c.in_ok-next.next.now (sym c.in_ok-next.ensures.value) in
    absurd (keys_part c.args.item.now c.in_ok-next.next.now c.args.rest.now h.0 h.1 c.requires
    (neighbours_part c.args.item.now c.in_ok-next.next.now c.args.rest.now h.0 h.1 c.requires c.octets.ensures.octets c.octets-2.ensures.octets None c.in_err-parting.ensures))

pub returns : goal.returns
returns c =
    let h = first_item c.args.rest.now c.in_ok-next.next.now (sym c.in_ok-next.ensures.value) in
    keys_part_at c.args.item.now c.in_ok-next.next.now c.args.rest.now h.0 h.1 c.requires c.in_ok-parting.parting
    (neighbours_part c.args.item.now c.in_ok-next.next.now c.args.rest.now h.0 h.1 c.requires c.octets.ensures.octets c.octets-2.ensures.octets (Some c.in_ok-parting.parting) c.in_ok-parting.ensures)

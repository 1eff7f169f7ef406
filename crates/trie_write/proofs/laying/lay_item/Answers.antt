use Rattle.std.proofs.Common.{rules}
use Rattle.trie_write.proofs.LaidLaws.{item_open, frame_item}
use Rattle.trie_write.proofs.laying.lay_item.Goals as goal

pub write_item-requires-clause-blank : goal.write_item-requires-clause-blank
write_item-requires-clause-blank g c = item_open c.in_ok-room_for_extents.ensures.handed c.requires.ready c.in_ok-room_for_extents.ensures.takes.ready c.in_ok-room_for_extents.ensures.takes.frame.keeps

pub returns-clause-laid : goal.returns-clause-laid
returns-clause-laid g c = record { len = search rules; handed = c.in_ok-room_for_extents.ensures.handed; lies = c.write_item.ensures.lies }

pub returns-clause-takes : goal.returns-clause-takes
returns-clause-takes g c = record {
  consumes = search rules;
  frame = frame_item c.in_ok-room_for_extents.ensures.handed c.in_ok-room_for_extents.ensures.takes.frame c.write_item.ensures.others c.write_item.ensures.given c.write_item.ensures.kept;
  ready = search rules;
}

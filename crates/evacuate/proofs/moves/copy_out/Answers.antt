use Rattle.std.proofs.Common.{◌+◌}
use Rattle.trie_space.proofs.SpaceLaws.{apart_from, frame_wrote, frame_refl, ready_wrote}
use Rattle.evacuate.proofs.moves.copy_out.Goals as goal

pub room_for-requires-clause-length : goal.room_for-requires-clause-length
room_for-requires-clause-length g c = c.requires.length

pub copy_twigs-requires-clause-there : goal.copy_twigs-requires-clause-there
copy_twigs-requires-clause-there g c i l = let x = c.requires.there i l in (x.0, c.in_ok-to.ensures.asks.all (c.args.from + i) x.0 x.1)

pub copy_twigs-requires-clause-apart : goal.copy_twigs-requires-clause-apart
copy_twigs-requires-clause-apart g c i j l m = apart_from c.in_ok-to.ensures.room.handed (c.args.from + i) (c.requires.in_use i l) j m

pub returns-clause-copied : goal.returns-clause-copied
returns-clause-copied g c = record {
  handed = c.in_ok-to.ensures.room.handed;
  copied = λ i x l h. c.copy_twigs.ensures.copied i x l (c.in_ok-to.ensures.asks.all (c.args.from + i) x h);
  elsewhere = c.in_ok-to.ensures.room.elsewhere;
}

pub returns-clause-takes : goal.returns-clause-takes
returns-clause-takes g c = record {
  moves = c.in_ok-to.ensures.asks.moves;
  frame = frame_wrote c.in_ok-to.ensures.room.handed c.in_ok-to.ensures.asks.frame (frame_refl _ _) c.copy_twigs.ensures.wrote;
  ready = ready_wrote c.copy_twigs.ensures.wrote c.in_ok-to.ensures.asks.ready;
}

pub returns-in_err-to-clause-takes : goal.returns-in_err-to-clause-takes
returns-in_err-to-clause-takes g c = let a = c.in_err-to.ensures.asks in record { moves = a.moves; frame = a.frame; ready = a.ready }

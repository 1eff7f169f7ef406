use Rattle.std.proofs.Common.{arith}
use Rattle.trie_space.proofs.SpaceLaws.{err_on, frame_same, fenced_of, fenced_put, ready_put, refused_same, writable_later, slot_open}
use Rattle.trie_write.proofs.AskLaws.{lower_asked}
use Rattle.trie_write.proofs.CopyLaws.{same_asks}
use Rattle.trie_write.proofs.SlotLaws.{root_asks, lower_asks, opened_below}
use Rattle.trie_write.proofs.mutable.open_below.Goals as goal

pub last_mutable-last-requires : goal.last_mutable-last-requires
last_mutable-last-requires g c = record { asks = record { way = c.requires.asks.way; end = c.requires.asks.end; asks = root_asks c.requires.asks.asks c.requires.node }; writable = c.requires.writable; ready = c.requires.ready }

pub copy_way-requires-clause-asks : goal.copy_way-requires-clause-asks
copy_way-requires-clause-asks g c =
    let a = c.requires.asks.asks in
    let p = c.last_mutable-last.ensures.last.parted _ c.requires.asks.end (root_asks a c.requires.node) in
    record { way = p.lower; end = c.requires.asks.end; asks = same_asks c.last_mutable-last.ensures.same (lower_asks a p) }

pub returns-in_err-copied-clause-opens : goal.returns-in_err-copied-clause-opens
returns-in_err-copied-clause-opens g c = record {
  consumes = λ spare way end a.
      let p = c.last_mutable-last.ensures.last.parted way end (root_asks a c.requires.node) in
      let s = c.copy_way.ensures.copies.consumes p.lower end (same_asks c.last_mutable-last.ensures.same (lower_asks a p)) in
      let e = p.copied 1 in omega arith;
  frame = fenced_of (frame_same c.last_mutable-last.ensures.same c.copy_way.ensures.copies.frame);
  ready = c.copy_way.ensures.copies.ready;
}

pub returns-in_err-copied-clause-lacks : goal.returns-in_err-copied-clause-lacks
returns-in_err-copied-clause-lacks g c = err_on _ c.from_residual.result c.from_residual.ensures.1 (record {
  refused = refused_same c.last_mutable-last.ensures.same c.in_err-copied.ensures.lacks.refused;
  asked = λ spare way end a.
      let p = c.last_mutable-last.ensures.last.parted way end (root_asks a c.requires.node) in
      lower_asked p.upper p.lower way _ p.whole (c.in_err-copied.ensures.lacks.asked p.lower end (same_asks c.last_mutable-last.ensures.same (lower_asks a p)));
})

pub put-requires : goal.put-requires
put-requires g c =
    let w = writable_later c.last_mutable-last.ensures.last.writable c.in_ok-copied.ensures.copies.frame.grows c.in_ok-copied.ensures.copies.frame.given_stays in
    record { given = w.in_given; unkept = slot_open w c.in_ok-copied.ensures.copies.ready }

pub returns-clause-slot : goal.returns-clause-slot
returns-clause-slot g c spare way end a =
    let p = c.last_mutable-last.ensures.last.parted way end (root_asks a c.requires.node) in
    let f = frame_same c.last_mutable-last.ensures.same c.in_ok-copied.ensures.copies.frame in
    opened_below a p (c.in_ok-copied.ensures.copied p.lower end (same_asks c.last_mutable-last.ensures.same (lower_asks a p))) f.stays f.grows.stays c.put.ensures.given
    (writable_later c.last_mutable-last.ensures.last.writable c.in_ok-copied.ensures.copies.frame.grows c.in_ok-copied.ensures.copies.frame.given_stays) c.put.ensures.written c.put.ensures.others

pub returns-clause-opens : goal.returns-clause-opens
returns-clause-opens g c = record {
  consumes = λ spare way end a.
      let p = c.last_mutable-last.ensures.last.parted way end (root_asks a c.requires.node) in
      let s = c.copy_way.ensures.copies.consumes p.lower end (same_asks c.last_mutable-last.ensures.same (lower_asks a p)) in
      let e = p.copied 1 in omega arith;
  frame = fenced_put (fenced_of (frame_same c.last_mutable-last.ensures.same c.in_ok-copied.ensures.copies.frame)) (c.in_ok-copied.ensures.copies.frame.grows.fresher _ c.last_mutable-last.ensures.last.writable.mutable) c.put.ensures.others c.put.ensures.given c.put.ensures.kept;
  ready = ready_put c.in_ok-copied.ensures.copies.ready c.put.ensures.given c.put.ensures.kept;
}

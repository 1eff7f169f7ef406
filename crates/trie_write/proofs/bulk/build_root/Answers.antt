use Rattle.std.proofs.Common.{arith, refl}
use Rattle.trie_space.proofs.SpaceLaws.{frame_then}
use Rattle.trie_write.proofs.BuildLaws.{root_stands, root_cost, stopped_cost}
use Rattle.trie_write.proofs.ItemLaws.{each_entry}
use Rattle.trie_write.proofs.bulk.build_root.Goals as goal

pub build_front-requires : goal.build_front-requires
build_front-requires g c = record { some = c.requires.some; rising = c.requires.can.rising; low = omega arith; ready = c.requires.can.ready }

pub returns-in_err-whole-clause-takes : goal.returns-in_err-whole-clause-takes
returns-in_err-whole-clause-takes g c = record {
  consumes = (let s = stopped_cost (each_entry c.args.items.now) c.requires.can.rising c.in_err-whole.ensures.stopped in omega arith);
  frame = c.in_err-whole.ensures.adds.frame;
  ready = c.in_err-whole.ensures.adds.ready;
}

pub returns-in_err-root-clause-takes : goal.returns-in_err-root-clause-takes
returns-in_err-root-clause-takes g c = record {
  consumes = (let s = root_cost c.in_ok-whole.ensures.front.built in let n = c.lay_row.ensures.takes.consumes in omega arith);
  frame = frame_then c.in_ok-whole.ensures.adds.frame c.lay_row.ensures.takes.frame;
  ready = c.lay_row.ensures.takes.ready;
}

pub returns-clause-takes : goal.returns-clause-takes
returns-clause-takes g c = record {
  consumes = (let s = root_cost c.in_ok-whole.ensures.front.built in let n = c.lay_row.ensures.takes.consumes in omega arith);
  frame = frame_then c.in_ok-whole.ensures.adds.frame c.lay_row.ensures.takes.frame;
  ready = c.lay_row.ensures.takes.ready;
}

pub returns-clause-built : goal.returns-clause-built
returns-clause-built g c =
    root_stands c.requires.can.uncounted c.in_ok-whole.ensures.front.built c.in_ok-root.ensures.handed c.in_ok-root.ensures.takes.frame.stays c.in_ok-root.ensures.takes.frame.grows.stays (c.in_ok-root.ensures.written 0 c.in_ok-whole.whole.cell refl)

use Rattle.std.proofs.Common.{◌≡◌, ◌++◌, take, drop}
use Rattle.trie_size.specs.Ways.{before, meets}
use Rattle.trie_size.proofs.offsets.split_at_offset.Given as goal

abbrev pub invariant-loop-i : goal.invariant-loop-i
invariant-loop-i l = record {
  before : before l.offset l.offsets ≡ take l.i l.offsets ++ before l.offset (drop l.i l.offsets);
  meets : meets l.offset l.offsets ≡ meets l.offset (drop l.i l.offsets);
}

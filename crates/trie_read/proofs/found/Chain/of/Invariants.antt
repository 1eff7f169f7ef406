use Rattle.std.proofs.Common.{◌≡◌, length, take, map}
use Rattle.trie_read.specs.declared.ancestors.Ancestor.{Ancestor}
use Rattle.trie_read.proofs.found.Chain.of.Given as goal

abbrev pub invariant-loop-i : goal.invariant-loop-i
invariant-loop-i l = record {
  long : length l.labels ≡ 128;
  front : take l.i l.labels ≡ map (λ (a : Ancestor). a.labels) (take l.i l.names);
}

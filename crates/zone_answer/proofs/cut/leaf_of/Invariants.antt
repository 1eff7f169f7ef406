use Rattle.std.proofs.Common.{◌≡◌, drop, eqb}
use Rattle.std.specs.List.{find}
use Rattle.trie_read.specs.declared.ancestors.Ancestor.{Ancestor}
use Rattle.zone_answer.proofs.cut.leaf_of.Given as goal

abbrev pub invariant-loop-ancestor : goal.invariant-loop-ancestor
invariant-loop-ancestor l = find (λ (a : Ancestor). eqb a.labels l.labels) l.above ≡ find (λ (a : Ancestor). eqb a.labels l.labels) (drop l.ancestor-index l.above)

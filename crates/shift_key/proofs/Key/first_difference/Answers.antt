use Rattle.std.proofs.Common.{refl}
use Rattle.shift_key.proofs.PlaceLemmas.{agree_whole}
use Rattle.shift_key.proofs.Key.first_difference.Goals as goal

pub returns-clause-none : goal.returns-clause-none
returns-clause-none c = (
  λ _. agree_whole c.self.inside.name c.other.inside.name c.args.self.now c.args.other.now c.self.inside.len c.other.inside.len c.max-place-end.result c.loop-place.place c.self.invariant.name c.other.invariant.name c.self.view_is c.other.view_is
      c.self.invariant.laid.len_is c.other.invariant.laid.len_is c.max-place-end.ensures c.loop-place-test.false c.loop-place.invariant,
  λ _. refl,
)

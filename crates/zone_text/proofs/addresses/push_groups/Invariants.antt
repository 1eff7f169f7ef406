use Rattle.std.proofs.Common.{◌≡◌, ◌++◌, drop, map}
use Rattle.std.specs.Option.{option_map}
use Rattle.zone_model.specs.Addresses.{groups_of}
use Rattle.zone_text.proofs.addresses.push_groups.Given as goal

abbrev pub invariant-loop-part : goal.invariant-loop-part
invariant-loop-part l = option_map (λ xs. l.fn.out.items ++ xs) (groups_of (map (λ w. w.now) l.parts)) ≡ option_map (λ xs. l.out.items ++ xs) (groups_of (map (λ w. w.now) (drop l.part-index l.parts)))

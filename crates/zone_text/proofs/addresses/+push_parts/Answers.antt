use Rattle.std.proofs.Common.{Bool, ℕ, ◌∷◌, [], take, sym, subst, refl}
use Rattle.std.specs.Option.{option_map}
use Rattle.zone_model.specs.Texts.{address_part}
use Rattle.zone_text.specs.Pushing.{PushesAll}
use Rattle.zone_text.proofs.AddressLemmas.{part_pushed}
use Rattle.zone_text.proofs.addresses.+push_parts.Goals as goal

pub returns : goal.returns
returns t c =
    part_pushed c.args.text.now _ c.args.left c.in-Some.dot c.args.out.now.items c.push_part-else-left-le1.new.out.items c.push_parts.new.out.items c.in_ok-good.good (sym c.in-Some.ensures) c.if-left-le1.false refl
    (subst (λ (b : Bool). PushesAll b c.args.out.now.items c.push_part-else-left-le1.new.out.items (option_map (λ (d : ℕ). d ∷ []) (address_part (take c.in-Some.dot c.args.text.now)))) c.if-not-branch.false c.in_ok-push_part.ensures) c.in_ok-good.ensures

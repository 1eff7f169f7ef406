use Rattle.std.proofs.Common.{◌∙◌, Bool, Option, ap, subst, sym}
use Rattle.std.specs.Ordering.{is_ge, is_le}
use Rattle.zone_model.specs.Names.{Name}
use Rattle.zone_diff.specs.NamesAhead.{first_name, name_changes, owner_ahead, passed_if}
use Rattle.zone_diff.proofs.NameLemmas.{first_is}
use Rattle.zone_diff.proofs.names.push_first.Goals as goal

pub push_name-requires-clause-first : goal.push_name-requires-clause-first
push_name-requires-clause-first g c b a sb sa =
    ap (λ (x : Option Name). first_name x (owner_ahead a)) (sym (c.owner.ensures b sb)) ∙ ap (first_name c.owner.result) (sym (c.owner-2.ensures a sa)) ∙ sym c.first_name.ensures ∙ c.in-Some.is

pub returns-clause-left : goal.returns-clause-left
returns-clause-left g c b a sb sa =
    let owner = c.in-Some.first.0 in
    let order = c.in-Some.first.1 in
    let first = first_is owner order b a (ap (λ (x : Option Name). first_name x (owner_ahead a)) (sym (c.owner.ensures b sb)) ∙ ap (first_name c.owner.result) (sym (c.owner-2.ensures a sa)) ∙ sym c.first_name.ensures ∙ c.in-Some.is) in record {
      before = passed_if (is_le order) b;
      after = passed_if (is_ge order) a;
      shown = subst (λ (x : Bool). g.B.Names.shows c.pass_if.new.names (passed_if x b)) c.is_le.ensures (c.pass_if.ensures.left b sb);
      shown' = subst (λ (x : Bool). g.A.Names.shows c.pass_if-2.new.names (passed_if x a)) c.is_ge.ensures (c.pass_if-2.ensures.left a sa);
      front = record { done = name_changes c.args.serial owner order b a; gives = first.gives c.args.serial; added = c.in_ok-push_name.ensures b a sb sa };
    }

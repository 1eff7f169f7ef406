use Rattle.std.proofs.Common.{◌≡◌, ◌++◌, ◌∙◌, ℕ, List, Bool, ap, drop, subst}
use Rattle.zone_model.specs.Names.{Name as Labels, wire, IsName}
use Rattle.dns_name.specs.Spelling.{Spells}
use Rattle.dns_name.specs.SortKeys.{PushesBelow, sort_key, weight}
use Rattle.dns_name.proofs.sort_key.SortKey.below.Goals as goal

spelled : (bytes : List ℕ) (name : Labels) → bytes ≡ wire name → IsName name → Spells bytes name
spelled bytes name e is = record { each = is.each; same = e }

pub returns-then-not-branch : goal.returns-then-not-branch
returns-then-not-branch c =
    subst (λ (b : Bool). PushesBelow b c.args.name.now c.args.apex.now c.clear.new.self.items c.push_below.new.out.items) c.if-not-branch.true
    (c.in_ok-push_below.ensures c.args.name.now c.args.apex.now (spelled _ _ c.wire.ensures.wire c.wire.ensures.name) (spelled _ _ c.wire-2.ensures.wire c.wire-2.ensures.name))

pub returns : goal.returns
returns c =
    let p = subst (λ (b : Bool). PushesBelow b c.args.name.now c.args.apex.now c.clear.new.self.items c.push_below.new.out.items) c.if-not-branch.false
    (c.in_ok-push_below.ensures c.args.name.now c.args.apex.now (spelled _ _ c.wire.ensures.wire c.wire.ensures.name) (spelled _ _ c.wire-2.ensures.wire c.wire-2.ensures.name)) in
    let laid : c.push_below.new.out.items ≡ sort_key p.0 = p.2 ∙ ap (λ (l : List ℕ). l ++ sort_key p.0) c.clear.ensures.items in
    let all : c.deref.result.now ≡ sort_key p.0 = c.deref.ensures.value ∙ laid in
    let all_too : c.deref-2.result.now ≡ sort_key p.0 = c.deref-2.ensures.value ∙ laid in
    let middle : c.behind-middle.result.now ≡ drop 7 (sort_key p.0) = c.behind-middle.ensures ∙ ap (drop 7) all in (
      p.0,
      p.1,
      record {
        front = c.weight.ensures ∙ ap (weight 7 0) all_too;
        middle = c.weight-2.ensures ∙ ap (weight 7 0) middle;
        rest = c.in_ok-from_slice.ensures.items ∙ c.behind.ensures ∙ ap (drop 7) middle;
      },
    )

use Rattle.std.proofs.Common.{◌∙◌, ℕ, List, length, ap, sym, subst}
use Rattle.std.proofs.lemmas.List.{nil_from_length}
use borrow.Author.Tests.{eqb-true}
use Rattle.rr_data.specs.ItemViews.{AreSets}
use Rattle.rr_data.proofs.ItemViewLemmas.{not_nil, nothing_seen, says_item, item_sets, sets_view}
use Rattle.rr_data.proofs.views.ItemView.of.Goals as goal

pub returns-then-is_empty : goal.returns-then-is_empty
returns-then-is_empty c entry says =
    nothing_seen c.args.owner.now c.args.octets.now entry says (nil_from_length c.args.octets.now (eqb-true (length c.args.octets.now) 0 (sym c.is_empty.ensures ∙ c.if-is_empty.true)))

pub invariant_of-result-2 : goal.invariant_of-result-2
invariant_of-result-2 c =
    let some = not_nil (length c.args.octets.now) (sym c.is_empty.ensures ∙ c.if-is_empty.false) in
    let item = says_item c.args.owner.now c.args.octets.now c.requires.0 c.requires.1 some in (
      c.requires.0,
      subst (λ (n : ℕ). AreSets n c.split_at-2.result.1.now c.requires.0) (sym c.short_of.ensures)
          (item_sets c.args.owner.now c.args.octets.now c.split_at.result.1.now c.split_at-2.result.0.now c.split_at-2.result.1.now (length c.wire.result.now) c.requires.0 item (ap (λ (l : List ℕ). length l) c.wire.ensures.wire) c.split_at.ensures.back c.split_at-2.ensures.front c.split_at-2.ensures.back),
    )

pub returns : goal.returns
returns c entry says =
    let some = not_nil (length c.args.octets.now) (sym c.is_empty.ensures ∙ c.if-is_empty.false) in
    let item = says_item c.args.owner.now c.args.octets.now entry says some in
    sets_view c.short_of.result c.split_at-2.result.1.now entry (subst (λ (n : ℕ). AreSets n c.split_at-2.result.1.now entry) (sym c.short_of.ensures)
    (item_sets c.args.owner.now c.args.octets.now c.split_at.result.1.now c.split_at-2.result.0.now c.split_at-2.result.1.now (length c.wire.result.now) entry item (ap (λ (l : List ℕ). length l) c.wire.ensures.wire) c.split_at.ensures.back c.split_at-2.ensures.front c.split_at-2.ensures.back))

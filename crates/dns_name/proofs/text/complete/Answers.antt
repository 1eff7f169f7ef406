use Rattle.std.proofs.Common.{◌≡◌, ◌∙◌, ◌+◌, ◌-◌, ◌++◌, [], List, ℕ, length, Ok, sym, ap, arith, rules, cond}
use borrow.Rule.Slice.PartMut.{put_mid}
use Rattle.zone_model.specs.Names.{wire}
use Rattle.dns_name.specs.Inside.{HasName, view-stored}
use Rattle.dns_name.proofs.LabelLemmas.{measured, whole_name, length-whole, fitting-long, fitting-fits, completed_by, completed_as}
use Rattle.dns_name.proofs.text.complete.Goals as goal

pub returns-in_err-front : goal.returns-in_err-front
returns-in_err-front c =
    let known = completed_by c.args.origin.now _ _ c.in_err-front.ensures.measures in
    search (rules, known)

pub returns-then-total-gt-MOST_OCTETS : goal.returns-then-total-gt-MOST_OCTETS
returns-then-total-gt-MOST_OCTETS c =
    let m = measured c.args.text.now c.in_ok-front.front c.in_ok-front.absolute c.in_ok-front.ensures.measures in
    let back = cond c.in_ok-front.absolute [] c.args.origin.now in
    let n : c.in_ok-front.front + length c.behind-back.result.now ≡ length (wire (m.labels ++ back))
    = omega (arith, length-whole _ _ _ m back, ap (λ (l : List ℕ). length l) c.behind-back.ensures.wire) in
    fitting-long (m.labels ++ back) _ n c.if-total-gt-MOST_OCTETS.true ∙ completed_as _ _ _ m c.args.origin.now

pub invariant_of-result : goal.invariant_of-result
invariant_of-result c =
    let m = measured c.args.text.now c.in_ok-front.front c.in_ok-front.absolute c.in_ok-front.ensures.measures in
    let back = cond c.in_ok-front.absolute [] c.args.origin.now in
    let total = c.in_ok-front.front + length c.behind-back.result.now in
    let behind = c.copy_from_slice.ensures.after ∙ c.behind-back.ensures.wire in (
      m.labels ++ back,
      whole_name _ _ total _ m c.lay.new.octets c.copy_from_slice.new.self back c.in_ok-front.ensures.laid c.behind-back.ensures.name behind
          (omega (arith, ap (λ (l : List ℕ). length l) c.copy_from_slice.ensures.after)) c.if-total-gt-MOST_OCTETS.false,
    )

pub returns : goal.returns
returns c =
    let m = measured c.args.text.now c.in_ok-front.front c.in_ok-front.absolute c.in_ok-front.ensures.measures in
    let back = cond c.in_ok-front.absolute [] c.args.origin.now in
    let total = c.in_ok-front.front + length c.behind-back.result.now in
    let behind = c.copy_from_slice.ensures.after ∙ c.behind-back.ensures.wire in
    let is : HasName (put_mid c.in_ok-front.front (total - c.in_ok-front.front) c.lay.new.octets c.copy_from_slice.new.self) total (m.labels ++ back)
    = whole_name _ _ total _ m c.lay.new.octets c.copy_from_slice.new.self back c.in_ok-front.ensures.laid c.behind-back.ensures.name behind
    (omega (arith, ap (λ (l : List ℕ). length l) c.copy_from_slice.ensures.after)) c.if-total-gt-MOST_OCTETS.false in
    ap (λ (l : List (List ℕ)). Ok l) (view-stored _ (m.labels ++ back) is) ∙ sym (fitting-fits (m.labels ++ back) is.name.short) ∙ completed_as _ _ _ m c.args.origin.now

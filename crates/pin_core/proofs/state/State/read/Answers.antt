use Rattle.std.proofs.Common.{ℕ, ◌<◌, List, length, sym, ap, ◌∙◌, subst, arith}
use Rattle.pin_core.specs.declared.kept.Kept.{Kept}
use Rattle.pin_core.specs.Machine.{is_in_version}
use Rattle.pin_core.specs.Inside.{core_of}
use Rattle.pin_core.proofs.Inside.{stage_read, kept_within, shown_word}
use Rattle.pin_core.proofs.state.State.read.Goals as goal

pub index-requires-2 : goal.index-requires-2
index-requires-2 c =
    let s = core_of c.self.inside in
    let there = sym (ap (λ (ks : List Kept). is_in_version ks c.in-Pinned.version c.args.at) c.deref.ensures.value) ∙ sym c.is_in_image_of.ensures ∙ c.if-not-is_in_image_of.false in
    let within = kept_within s c.self.invariant c.in-Pinned.version c.args.at c.args.half there in
    omega (arith, c.self.inside.words.ok.0, c.place_of_half.ensures)

pub returns : goal.returns
returns c =
    let s = core_of c.self.inside in
    let there = sym (ap (λ (ks : List Kept). is_in_version ks c.in-Pinned.version c.args.at) c.deref.ensures.value) ∙ sym c.is_in_image_of.ensures ∙ c.if-not-is_in_image_of.false in
    let within = subst (λ (i : ℕ). i < length s.words) (sym c.place_of_half.ensures) (kept_within s c.self.invariant c.in-Pinned.version c.args.at c.args.half there) in
    let is = stage_read s _ c.self.invariant c.self.view_is c.args.p c.requires _ _ c.index.ensures c.in-Pinned.is in
    shown_word s _ c.self.view_is c.args.p c.args.at c.in-Pinned.version _ _ c.args.half c.place_of_half.ensures within is there c.index-2.ensures

-- What a method of a state knows of its fields, once it has looked at them.
use Rattle.std.proofs.Common.{◌≡◌, ℕ, ◌*◌, ◌<◌, length, get_or, Bool, true, cond, sym, ap, ◌∙◌, subst, arith}
use Rattle.std.specs.Prelude.{◌&&◌, ◌==◌}
use Rattle.std.specs.List.{All, Contains}
use Rattle.std.proofs.lemmas.List.Elements.{All-contains}
use Rattle.std.proofs.lemmas.List.Folds.{Any-from_list_any}
use Rattle.std.proofs.lemmas.Bool.Decides.{eqb_tells}
use Rattle.std.proofs.lemmas.List.{get_or_read}
use Rattle.pin_core.specs.declared.kept.Stage.{Stage}
use Rattle.pin_core.specs.declared.kept.Stage.TheVariants as stage
use Rattle.pin_core.specs.declared.kept.Mark.{Mark}
use Rattle.pin_core.specs.declared.kept.Mark.TheVariants as mark
use Rattle.pin_core.specs.declared.event.Half.{Half}
use Rattle.pin_core.specs.declared.event.Half.TheVariants.{Big, Small}
use Rattle.pin_core.specs.declared.event.Step.TheVariants.{Refused, Word}
use Rattle.pin_core.specs.Words.{pin_at, half_at}
use Rattle.pin_core.specs.Sound.{stage_at, mark_at, IsGiven}
use Rattle.pin_core.specs.Machine.{Core, IsSound, has_cell, is_in_version, shown}
use Rattle.pin_core.proofs.Lists.{and_right}

module _ (s v : Core) (h : IsSound s) (same : s ≡ v) (p : ℕ) (small : p < v.size.passes) where
  -- the pass is one of the state's
  pub within : p < s.size.passes
  within = subst (λ (c : Core). p < c.size.passes) (sym same) small

  -- the stage that was read, and what else is kept of the pass
  pub stage_read : (r g : Stage) → r ≡ get_or s.stages p r → r ≡ g → stage_at s.stages p ≡ g
  stage_read r g read is = sym (get_or_read s.stages p r (let e = h.staged in let l = within in omega arith) read stage.Idle) ∙ is

  pub mark_read : (r g : Mark) → r ≡ get_or s.turn.marks p r → r ≡ g → mark_at s.turn.marks p ≡ g
  mark_read r g read is = sym (get_or_read s.turn.marks p r (let e = h.marked in let l = within in omega arith) read mark.Blank) ∙ is

  pub seen_read : (r : ℕ) → r ≡ get_or s.seen p r → r ≡ get_or s.seen p 0
  seen_read r read = get_or_read s.seen p r (let e = h.watched in let l = within in omega arith) read 0

  pub pin_read : (r : ℕ) → r ≡ get_or s.words (pin_at p) r → r ≡ get_or s.words (pin_at p) 0
  pin_read r read = get_or_read s.words (pin_at p) r (let e = h.wide in let m = h.small in let l = within in omega arith) read 0

pub current_read : (s : Core) → IsSound s → (r : ℕ) → r ≡ get_or s.words 0 r → r ≡ get_or s.words 0 0
current_read s h r read = get_or_read s.words 0 r (let e = h.wide in omega arith) read 0

-- a cell of a kept version has its words among the state's
pub kept_within : (s : Core) → IsSound s → (version at : ℕ) (half : Half) → is_in_version s.turn.kept version at ≡ true → half_at at half < length s.words
kept_within s h version at half e = place half
  where
    small : at < 1024 * s.size.chunks
    small =
        let a = Any-from_list_any (λ k. (k.version == version) && has_cell k.image at) s.turn.kept e in
        let cells = and_right (a.1.version == version) (has_cell a.1.image at) a.4 in
        let c = Any-from_list_any (λ c. c.at == at) a.1.image cells in
        let has : Contains s.turn.kept a.1 = (a.0, a.2, a.3) in
        let there : Contains a.1.image c.1 = (c.0, c.2, c.3) in
        let g : IsGiven s.size s.words c.1 = All-contains (IsGiven s.size s.words) a.1.image c.1 (All-contains (λ k. All (IsGiven s.size s.words) k.image) s.turn.kept a.1 h.given has) there in
        let l : c.1.at < 1024 * s.size.chunks = g.0 in
        let t : (c.1.at == at) ≡ true = c.4 in
        grind (arith, eqb_tells c.1.at at)

    place : (half : Half) → half_at at half < length s.words
    place Big = let w = h.wide in let l = small in omega arith
    place Small = let w = h.wide in let l = small in omega arith

-- what a read of a pinned pass answers
pub shown_word : (s v : Core) → s ≡ v → (p at version r w : ℕ) (half : Half) → r ≡ half_at at half → r < length s.words → stage_at s.stages p ≡ stage.Pinned version → is_in_version s.turn.kept version at ≡ true
    → w ≡ get_or s.words r w → Word w ≡ (shown v at half (stage_at v.stages p)).1
shown_word s v same p at version r w half place within is there read =
    subst (λ (c : Core). Word w ≡ (shown c at half (stage_at c.stages p)).1) same
    (subst (λ (g : Stage). Word w ≡ (shown s at half g).1) (sym is)
    (subst (λ (b : Bool). Word w ≡ cond b (Word (get_or s.words (half_at at half) 0)) Refused) (sym there)
    (ap Word (get_or_read s.words r w within read 0 ∙ ap (λ (i : ℕ). get_or s.words i 0) place))))

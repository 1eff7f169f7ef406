use Rattle.std.proofs.Common.{ℕ, List, [], ◌∷◌, ◌++◌, ap, ◌∙◌, set, replicate, arith}
use Rattle.pin_core.specs.declared.kept.Kept.{Kept}
use Rattle.std.specs.List.{fold}
use Rattle.pin_core.specs.Words.{size_of, word_count, current_word}
use Rattle.pin_core.specs.Machine.{with_cell}
use Rattle.pin_core.proofs.Openings.{opening_at, opening_root_fits}
use Rattle.pin_core.proofs.Turns.{written_back}
use Rattle.pin_core.proofs.state.State.open.Goals as goal

pub word_of_version-requires-clause-root : goal.word_of_version-requires-clause-root
word_of_version-requires-clause-root c = opening_root_fits (size_of c.args.passes c.args.chunks) c.args.root c.args.image c.requires.limits.1 c.requires.limits.3 c.requires.image

pub invariant_of-result : goal.invariant_of-result
invariant_of-result c =
    let z = size_of c.args.passes c.args.chunks in
    let image = c.deref.ensures.value ∙ c.image.view_is in
    let first = c.deref_mut.ensures.value ∙ ap (λ (ws : List ℕ). set ws 0 c.word_of_version.result) c.in_ok-words.ensures ∙ ap (set (replicate (word_count z) 0) 0) c.word_of_version.ensures in
    let laid = c.lay_image.ensures ∙ ap (λ (ws : List ℕ). fold with_cell ws c.deref.result.now) first ∙ ap (fold with_cell (set (replicate (word_count z) 0) 0 (current_word 0 c.args.root))) image in
    let back = written_back c.lay_image.new.words (set c.in_ok-words.words.items 0 c.word_of_version.result) c.in_ok-words.words.len (omega (arith, c.lay_image.auto.words, c.deref_mut.ensures.len)) in
    let kept = c.in_ok-push.ensures.items ∙ ap (λ (ks : List Kept). ks ++ record { version = 0; root = c.args.root; image = c.args.image } ∷ []) c.new-kept.ensures.items in
    opening_at z c.args.root c.args.image c.requires.limits.1 c.requires.limits.3 c.requires.image _ (back ∙ laid) _ c.in_ok-stages.ensures _ c.in_ok-seen.ensures _ kept _ c.in_ok-marks.ensures

pub returns-clause-sound : goal.returns-clause-sound
returns-clause-sound c = invariant_of-result c

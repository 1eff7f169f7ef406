use Rattle.std.proofs.Common.{◌≡◌, ◌∙◌, ◌<◌, ℕ, List, ◌++◌, ap, arith}
use Rattle.zone_diff.specs.Texts.{closing}
use Rattle.zone_diff.proofs.HeldLemmas.{aimed_begun, aimed_whole}
use Rattle.zone_diff.proofs.text.DiffText.finish.Goals as goal

pub returns-then-room-eq0 : goal.returns-then-room-eq0
returns-then-room-eq0 c aim operations h = let s = c.args.self in let none : s.room ≡ 0 = omega arith in aimed_whole s.style s.origin s.out.items s.room aim operations none h

pub returns : goal.returns
returns c aim operations h =
    let s = c.args.self in
    let some : 0 < s.room = omega arith in
    let text : c.extend_from_slice.new.self.items ≡ s.out.items ++ closing s.style = c.in_ok-extend_from_slice.ensures.items ∙ ap (λ (l : List ℕ). s.out.items ++ l) c.closing.ensures in
    text ∙ aimed_begun s.style s.origin s.out.items s.room aim operations some h

use Rattle.std.proofs.Common.{◌≡◌, Bool, true, false, cond, ℕ, List, Option, None, refl, sym, codes}
use Rattle.std.specs.Cmp.Lexicographic.{bytes_decides}
use Rattle.std.specs.Str.{bytes_eq}
use Rattle.command_line.specs.Invocations.{Invocation}
use Rattle.command_line.proofs.asked.asked_of.Goals as goal

-- a word that is another
past : (word command : List ℕ) (x y z : Option Invocation) → (word ≡ command → ⊥) → y ≡ z → cond (bytes_eq word command) x y ≡ z
past word command x y z other e = by_test (bytes_eq word command) refl
  where
    by_test : (b : Bool) → bytes_eq word command ≡ b → cond b x y ≡ z
    by_test true same = absurd (other ((bytes_decides word command).0 same))
    by_test false same = e

-- the word is no command's
pub returns-in_default : goal.returns-in_default
returns-in_default c =
    let word = c.args.command.now in
    let none = c.in_default in
    sym
    (past word (codes "run") _ _ None none.not-run
    (past word (codes "check") _ _ None none.not-check
    (past word (codes "make") _ _ None none.not-make
    (past word (codes "dump") _ _ None none.not-dump
    (past word (codes "feed") _ _ None none.not-feed
    (past word (codes "size") _ _ None none.not-size
    (past word (codes "zones") _ _ None none.not-zones
    (past word (codes "diff") _ _ None none.not-diff
    (past word (codes "live") _ _ None none.not-live refl)))))))))

-- A session that has come to one line more.
use Rattle.std.proofs.Common.{◌≡◌, ◌∙◌, ℕ, ◌+◌, List, [], ◌∷◌, ◌++◌, length, sym, ap, arith, append_assoc, append-nil}
use Rattle.zone_model.specs.Names.{Name}
use Rattle.job_model.specs.Sessions.{Said, Session, Step, session_line, session_lines}

-- the step of the line behind some
abbrev pub step_behind : Name → ℕ → List (List ℕ) → List ℕ → Session → Step
step_behind origin n lines line s = session_line origin (n + length lines) line (session_lines origin n lines s).session

pub session-push : (origin : Name) (n : ℕ) (lines : List (List ℕ)) (line : List ℕ) (s : Session) → (session_lines origin n (lines ++ line ∷ []) s).session ≡ (step_behind origin n lines line s).session
unfolding session_lines
session-push origin n [] line s = ap (λ (k : ℕ). (session_line origin k line s).session) (let e : n ≡ n + 0 = omega arith in e)
session-push origin n (x ∷ lines) line s =
    session-push origin (n + 1) lines line (session_line origin n x s).session
    ∙ ap (λ (k : ℕ). (session_line origin k line (session_lines origin (n + 1) lines (session_line origin n x s).session).session).session) (let e : n + 1 + length lines ≡ n + length (x ∷ lines) = omega arith in e)

pub said-push : (origin : Name) (n : ℕ) (lines : List (List ℕ)) (line : List ℕ) (s : Session) → (session_lines origin n (lines ++ line ∷ []) s).said ≡ (session_lines origin n lines s).said ++ (step_behind origin n lines line s).said
unfolding session_lines
said-push origin n [] line s = append-nil (session_line origin n line s).said ∙ ap (λ (k : ℕ). (session_line origin k line s).said) (let e : n ≡ n + 0 = omega arith in e)
said-push origin n (x ∷ lines) line s =
    ap (λ (l : List Said). (session_line origin n x s).said ++ l) (said-push origin (n + 1) lines line (session_line origin n x s).session)
    ∙ sym (append_assoc (session_line origin n x s).said (session_lines origin (n + 1) lines (session_line origin n x s).session).said _)
    ∙ ap (λ (k : ℕ). ((session_line origin n x s).said ++ (session_lines origin (n + 1) lines (session_line origin n x s).session).said) ++ (session_line origin k line (session_lines origin (n + 1) lines (session_line origin n x s).session).session).said)
    (let e : n + 1 + length lines ≡ n + length (x ∷ lines) = omega arith in e)

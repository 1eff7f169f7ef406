-- One line of a session.
use Rattle.std.proofs.Common.{◌≡◌, ◌∙◌, ℕ, Bool, false, cond, List, [], ◌∷◌, Option, Some, None, Result, Ok, Err, refl, sym, ap}
use Rattle.std.specs.Option.{is_some, option_map}
use Rattle.zone_model.specs.Names.{Name}
use Rattle.zone_model.specs.Refusals.{Refused}
use Rattle.job_model.specs.declared.ScriptKind.{ScriptKind}
use Rattle.std.specs.Prelude.{IfOk}
use Rattle.std.specs.declared.alloc.AllocError.{AllocError}
use Rattle.session_lines.specs.declared.session.Session.{Session as Now}
use Rattle.session_lines.specs.declared.session.Said.{Said as Said'}
use Rattle.session_lines.specs.Views.{StepsTo}
use Rattle.job_model.specs.Jobs.{Script, script_line}
use Rattle.job_model.specs.Sessions.{Said, Session, Step, completed, held_by, is_last_word, refused_in, script_at, session_line, step_of, took, went_on}

same_there : {A B : Type 0} (f : A → B) (o : Option A) → is_some (option_map f o) ≡ is_some o
same_there f None = refl
same_there f (Some x) = refl

pub is_there : {A B : Type 0} (f : A → B) (o : Option A) (b : Bool) → b ≡ is_some o → is_some (option_map f o) ≡ b
is_there f o b e = same_there f o ∙ sym e

read_alone : (origin : Name) (n : ℕ) (line : List ℕ) (s : Session) → s.given_up ≡ false → session_line origin n line s ≡ took n line s (script_line origin 1 line (script_at s))
unfolding session_line
read_alone origin n line s alone = rw alone refl

-- the script of the line
same_script : (origin : Name) (line text : List ℕ) (rest : List (List ℕ)) (lines : List (List ℕ)) (s : Session) (script : Script) → lines ≡ line ∷ [] → lines ≡ text ∷ rest → script ≡ script_at s
    → script_line origin 1 line (script_at s) ≡ script_line origin 1 text script
same_script origin line text rest lines s script one here at = let e : line ≡ text = cc in ap (λ (t : List ℕ). script_line origin 1 t (script_at s)) e ∙ ap (script_line origin 1 text) (sym at)

pub takes : (origin : Name) (n : ℕ) (line text : List ℕ) (rest : List (List ℕ)) (lines : List (List ℕ)) (s : Session) (script next : Script) (step : Step)
    → s.given_up ≡ false → lines ≡ line ∷ [] → lines ≡ text ∷ rest → script ≡ script_at s → script_line origin 1 text script ≡ Ok next → went_on n s next ≡ step → session_line origin n line s ≡ step
takes origin n line text rest lines s script next step alone one here at ok is =
    read_alone origin n line s alone ∙ ap (took n line s) (same_script origin line text rest lines s script one here at ∙ ok) ∙ is

pub refuses : (origin : Name) (n : ℕ) (line text : List ℕ) (rest : List (List ℕ)) (lines : List (List ℕ)) (s : Session) (script : Script) (e : Refused ScriptKind) (kind : ScriptKind) (step : Step)
    → s.given_up ≡ false → lines ≡ line ∷ [] → lines ≡ text ∷ rest → script ≡ script_at s → script_line origin 1 text script ≡ Err e → e.kind ≡ kind
    → refused_in n kind s (is_last_word line) s.block ≡ step → session_line origin n line s ≡ step
refuses origin n line text rest lines s script e kind step alone one here at err k is =
    read_alone origin n line s alone ∙ ap (took n line s) (same_script origin line text rest lines s script one here at ∙ err)
    ∙ ap (λ (x : ScriptKind). refused_in n x s (is_last_word line) s.block) k ∙ is

pub went : (n : ℕ) (s now : Session) (script : Script) (said : List Said) → now.held ≡ held_by s.held script.commands → now.block ≡ script.block → now.opened ≡ cond (is_some s.block) s.opened n → now.given_up ≡ s.given_up
    → completed script.commands ≡ said → went_on n s script ≡ step_of now said
went n s now script said held block opened given is = rw (is, sym held, sym block, sym opened, sym given) refl

-- the number of the first line of what is open
pub opened_by : (there was_open : Bool) (opened before n : ℕ) → there ≡ was_open → before ≡ opened → cond was_open before n ≡ cond there opened n
opened_by there was_open opened before n e o = cc

-- the refusal may want memory
pub if_refuses : (origin : Name) (n : ℕ) (line text : List ℕ) (rest : List (List ℕ)) (lines : List (List ℕ)) (s : Session) (script : Script) (e : Refused ScriptKind) (kind : ScriptKind) (new : Now) (result : Result Said' AllocError)
    → s.given_up ≡ false → lines ≡ line ∷ [] → lines ≡ text ∷ rest → script ≡ script_at s → script_line origin 1 text script ≡ Err e → e.kind ≡ kind
    → IfOk result (StepsTo (refused_in n kind s (is_last_word line) s.block) new n) → IfOk result (StepsTo (session_line origin n line s) new n)
if_refuses origin n line text rest lines s script e kind new (Ok said) alone one here at err k is = refuses origin n line text rest lines s script e kind _ alone one here at err k is
if_refuses origin n line text rest lines s script e kind new (Err a) alone one here at err k is = tt

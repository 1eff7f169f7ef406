-- What a line says may be run where it stands, and asks for changes as scripts say them.
use Rattle.std.proofs.Common.{◌≡◌, ◌∙◌, ℕ, Bool, true, false, cond, List, [], ◌∷◌, ◌++◌, Option, Some, None, Result, Ok, Err, refl, sym, ap, subst}
use Rattle.std.specs.List.{AllByRecursion}
use Rattle.zone_model.specs.Names.{Name, IsName}
use Rattle.zone_model.specs.Refusals.{Refused}
use Rattle.job_model.specs.declared.ScriptKind.{ScriptKind}
use Rattle.job_model.specs.Commands.{Command, Block, InTurn, MayCome, held_after}
use Rattle.job_model.specs.Jobs.{Script, Unfinished, is_by_worker, script_line}
use Rattle.job_model.specs.Sessions.{Said, Runs, Refuses, GivesUp, Session, Step, completed, gave_up, held_by, is_last_word, passed_over, refused_in, script_at, session_line, took, went_on}
use Rattle.job_model.proofs.ScriptLaws.{IsKept, AnyLine, line_taken}
use Rattle.job_model.proofs.TurnLemmas.{InTurn-push, held_behind, held_behind-push}
use Rattle.report_laws.specs.Changes.{AllAsked, IsBlock}
use Rattle.report_laws.specs.Octets.{AllOctets}
use Rattle.report_laws.proofs.ScriptLemmas.{IsScript, line_asks}
use Rattle.session_lines.specs.Well.{RunsWell, StepsWell}

-- ---- snapshots

-- commands in turn behind what was held
record Turns (start : Bool) (commands : List Command) (held : Bool) : Type 0 where
  in_turn : InTurn start commands
  behind : held ≡ held_behind start commands

turns-push : (start : Bool) (commands : List Command) (held : Bool) (command : Command) → Turns start commands held → MayCome held command → Turns start (commands ++ command ∷ []) (held_after held command)
turns-push start commands held command t may = record {
  in_turn = InTurn-push start commands command t.in_turn (subst (λ (b : Bool). MayCome b command) t.behind may);
  behind = ap (λ (b : Bool). held_after b command) t.behind ∙ sym (held_behind-push start commands command);
}

-- of a listing that no worker begins in
record LiveTurns (start : Bool) (s : Script) : Type 0 where
  one : is_by_worker s.listing ≡ false
  turns : Turns start s.commands s.held

turns_kept : (origin : Name) (start : Bool) → IsKept origin AnyLine (LiveTurns start)
turns_kept origin start = record {
  worker = λ s h _ may. absurd (let no : false ≡ true = sym h.one ∙ may in cc);
  command = λ s command h may _. record { one = h.one; turns = turns-push start s.commands s.held command h.turns may.turn };
  opens = λ _ _ _ h _. record { one = h.one; turns = h.turns };
  need = λ _ _ _ h. record { one = h.one; turns = h.turns };
  operation = λ _ _ _ _ _ _ _ _ _ h _. record { one = h.one; turns = h.turns };
  block = λ b s ending h. record { one = h.one; turns = turns-push start s.commands s.held (Block b.weight b.asked ending) h.turns tt };
}

-- the script of a line, behind it
line_turns : (origin : Name) (line : List ℕ) (s : Session) (next : Script) → script_line origin 1 line (script_at s) ≡ Ok next → LiveTurns s.held next
line_turns origin line s next e =
    line_taken origin AnyLine (LiveTurns s.held) (turns_kept origin s.held) 1 line (script_at s) next tt (record { one = refl; turns = record { in_turn = tt; behind = refl } }) e

-- ---- one line

runs_first : (origin : Name) (held : Bool) (commands : List Command) → InTurn held commands → AllByRecursion (AllAsked origin) commands → RunsWell origin held (held_by held commands) (completed commands)
runs_first origin held [] turn asked = refl
runs_first origin held (command ∷ commands) turn asked = (turn.0, asked.0, refl)

went_well : (origin : Name) (n : ℕ) (line : List ℕ) (s : Session) (next : Script) → IsName origin → AllOctets line → IsBlock origin s.block → script_line origin 1 line (script_at s) ≡ Ok next → StepsWell origin s (went_on n s next)
went_well origin n line s next o l b e =
    let asks = line_asks origin 1 line (script_at s) next o l (record { earlier = tt; commands = tt; block = b }) e in
    let turns = line_turns origin line s next e in
    record { block = asks.block; runs = runs_first origin s.held next.commands turns.turns.in_turn asks.commands }

gave_well : (origin : Name) (n : ℕ) (kind : ScriptKind) (s : Session) (last : Bool) → StepsWell origin s (gave_up n kind s last)
gave_well origin n kind s true = record { block = tt; runs = refl }
gave_well origin n kind s false = record { block = tt; runs = refl }

refused_well : (origin : Name) (n : ℕ) (kind : ScriptKind) (s : Session) (last : Bool) (block : Option Unfinished) → IsBlock origin s.block → StepsWell origin s (refused_in n kind s last block)
refused_well origin n kind s last None b = record { block = b; runs = refl }
refused_well origin n kind s last (Some open') b = gave_well origin n kind s last

took_well : (origin : Name) (n : ℕ) (line : List ℕ) (s : Session) (r : Result Script (Refused ScriptKind)) → IsName origin → AllOctets line → IsBlock origin s.block → script_line origin 1 line (script_at s) ≡ r → StepsWell origin s (took n line s r)
took_well origin n line s (Ok next) o l b e = went_well origin n line s next o l b e
took_well origin n line s (Err e') o l b e = refused_well origin n e'.kind s (is_last_word line) s.block b

passed_well : (origin : Name) (s : Session) (last : Bool) → IsBlock origin s.block → StepsWell origin s (passed_over s last)
passed_well origin s true b = record { block = b; runs = refl }
passed_well origin s false b = record { block = b; runs = refl }

either_well : (origin : Name) (n : ℕ) (line : List ℕ) (s : Session) (given_up : Bool) → IsName origin → AllOctets line → IsBlock origin s.block
    → StepsWell origin s (cond given_up (passed_over s (is_last_word line)) (took n line s (script_line origin 1 line (script_at s))))
either_well origin n line s true o l b = passed_well origin s (is_last_word line) b
either_well origin n line s false o l b = took_well origin n line s (script_line origin 1 line (script_at s)) o l b refl

pub line_well : (origin : Name) (n : ℕ) (line : List ℕ) (s : Session) → IsName origin → AllOctets line → IsBlock origin s.block → StepsWell origin s (session_line origin n line s)
unfolding session_line
line_well origin n line s o l b = either_well origin n line s s.given_up o l b

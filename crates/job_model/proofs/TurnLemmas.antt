-- Each command of a script that is read may come where it stands.
use Rattle.std.proofs.Common.{◌≡◌, ◌∙◌, ℕ, Bool, true, false, List, [], ◌∷◌, ◌++◌, Ok, refl, sym, ap, subst}
use Rattle.std.specs.List.{AllByRecursion}
use Rattle.zone_model.specs.Names.{Name}
use Rattle.job_model.specs.Commands.{Command, Block, held_after, MayCome, InTurn}
use Rattle.job_model.specs.Jobs.{Script, next_worker, script_of}
use Rattle.job_model.proofs.ScriptLaws.{IsKept, AnyLine, any_lines, free, script_whole}

-- whether a snapshot is held behind commands
abbrev pub held_behind : Bool → List Command → Bool
held_behind held [] = held
held_behind held (command ∷ commands) = held_behind (held_after held command) commands

pub held_behind-push : (held : Bool) (commands : List Command) (command : Command) → held_behind held (commands ++ command ∷ []) ≡ held_after (held_behind held commands) command
held_behind-push held [] command = refl
held_behind-push held (c ∷ commands) command = held_behind-push (held_after held c) commands command

pub InTurn-push : (held : Bool) (commands : List Command) (command : Command) → InTurn held commands → MayCome (held_behind held commands) command → InTurn held (commands ++ command ∷ [])
InTurn-push held [] command turn may = (may, tt)
InTurn-push held (c ∷ commands) command turn may = (turn.0, InTurn-push (held_after held c) commands command turn.1 may)

all-push : (lists : List (List Command)) (commands : List Command) → AllByRecursion (InTurn false) lists → InTurn false commands → AllByRecursion (InTurn false) (lists ++ commands ∷ [])
all-push [] commands all turn = (turn, tt)
all-push (l ∷ lists) commands all turn = (all.0, all-push lists commands all.1 turn)

-- what holds of a script so far
record Sound (earlier : List (List Command)) (commands : List Command) (held : Bool) : Type 0 where
  earlier_in_turn : AllByRecursion (InTurn false) earlier
  in_turn : InTurn false commands
  behind : held ≡ held_behind false commands

sound-push : (earlier : List (List Command)) (commands : List Command) (held : Bool) (command : Command) → Sound earlier commands held → MayCome held command → Sound earlier (commands ++ command ∷ []) (held_after held command)
sound-push earlier commands held command s may = record {
  earlier_in_turn = s.earlier_in_turn;
  in_turn = InTurn-push false commands command s.in_turn (subst (λ (b : Bool). MayCome b command) s.behind may);
  behind = ap (λ (b : Bool). held_after b command) s.behind ∙ sym (held_behind-push false commands command);
}

abbrev IsSound : Script → Type 0
IsSound s = Sound s.earlier s.commands s.held

next_kept : (s : Script) (begun : Bool) → IsSound s → IsSound (next_worker (record s { begun = begun }))
next_kept s true sound = record { earlier_in_turn = all-push s.earlier s.commands sound.earlier_in_turn sound.in_turn; in_turn = tt; behind = refl }
next_kept s false sound = sound

kept : (origin : Name) → IsKept origin AnyLine IsSound
kept origin = record {
  worker = λ s sound _ _. next_kept (free s) s.begun sound;
  command = λ s command sound may _. sound-push s.earlier s.commands s.held command sound may.turn;
  opens = λ _ _ _ sound _. sound;
  need = λ _ _ _ sound. sound;
  operation = λ _ _ _ _ _ _ _ _ _ sound _. sound;
  block = λ b s ending sound. sound-push s.earlier s.commands s.held (Block b.weight b.asked ending) sound tt;
}

-- the workers' lists of a script that is read
pub read_in_turn : (origin : Name) (n : ℕ) (lines : List (List ℕ)) (lists : List (List Command)) → script_of origin n lines ≡ Ok lists → AllByRecursion (InTurn false) lists
read_in_turn origin n lines lists read =
    let whole = script_whole origin AnyLine IsSound (kept origin) (record { earlier_in_turn = tt; in_turn = tt; behind = refl }) n lines lists (any_lines lines) read in
    subst (AllByRecursion (InTurn false)) (sym whole.lists) (all-push whole.script.earlier whole.script.commands whole.fact.earlier_in_turn whole.fact.in_turn)

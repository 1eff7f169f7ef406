-- A script that is one list has no more commands than a list may have, and none of them needs a snapshot.
use Rattle.std.proofs.Common.{◌≡◌, ℕ, ◌<◌, ◌≤◌, List, [], ◌∷◌, ◌++◌, length, Option, Some, None, Ok, refl, sym, subst, arith, length-append}
use Rattle.std.specs.List.{AllByRecursion}
use Rattle.zone_model.specs.Names.{Name}
use Rattle.job_model.specs.declared.Listing.{Listing}
use Rattle.job_model.specs.declared.Listing.TheVariants.{OneList}
use Rattle.job_model.specs.Commands.{Command, Block, NeedsNoSnapshot}
use Rattle.job_model.specs.Jobs.{Unfinished, Script, command_limit, list_of}
use Rattle.job_model.proofs.ScriptLaws.{IsKept, AnyLine, any_lines, not_here, list_whole}

-- a block that is open is to become a command
abbrev Few : Option Unfinished → List Command → Type 0
Few None commands = length commands ≤ command_limit
Few (Some b) commands = length commands < command_limit

-- what holds of a script so far
record Listed (listing : Listing) (commands : List Command) (block : Option Unfinished) : Type 0 where
  one : listing ≡ OneList
  plain : AllByRecursion NeedsNoSnapshot commands
  few : Few block commands

abbrev IsListed : Script → Type 0
IsListed s = Listed s.listing s.commands s.block

all-push : (commands : List Command) (command : Command) → AllByRecursion NeedsNoSnapshot commands → NeedsNoSnapshot command → AllByRecursion NeedsNoSnapshot (commands ++ command ∷ [])
all-push [] command all plain = (plain, tt)
all-push (c ∷ commands) command all plain = (all.0, all-push commands command all.1 plain)

-- one command more, for which there is room
command_kept : (s : Script) (command : Command) → s.listing ≡ OneList → AllByRecursion NeedsNoSnapshot s.commands → NeedsNoSnapshot command → length s.commands < command_limit → Listed s.listing (s.commands ++ command ∷ []) None
command_kept s command one all plain room = record {
  one = one;
  plain = all-push s.commands command all plain;
  few = omega (arith, room, length-append s.commands (command ∷ []));
}

kept : (origin : Name) → IsKept origin AnyLine IsListed
kept origin = record {
  worker = λ s so_far _ may. absurd (not_here s.listing may so_far.one);
  command = λ s command so_far may _. command_kept s command so_far.one so_far.plain (may.place so_far.one) may.room;
  opens = λ _ _ _ so_far room. record { one = so_far.one; plain = so_far.plain; few = room };
  need = λ _ _ _ so_far. record { one = so_far.one; plain = so_far.plain; few = so_far.few };
  operation = λ _ _ _ _ _ _ _ _ _ so_far _. record { one = so_far.one; plain = so_far.plain; few = so_far.few };
  block = λ b s ending so_far. command_kept s (Block b.weight b.asked ending) so_far.one so_far.plain tt so_far.few;
}

-- commands that may be one list
pub record IsOneList (commands : List Command) : Type 0 where
  pub plain : AllByRecursion NeedsNoSnapshot commands
  pub few : length commands ≤ command_limit

-- the commands of a list that is read
pub read_plain : (origin : Name) (n : ℕ) (lines : List (List ℕ)) (commands : List Command) → list_of origin n lines ≡ Ok commands → IsOneList commands
read_plain origin n lines commands read =
    let whole = list_whole origin AnyLine IsListed (kept origin) (record { one = refl; plain = tt; few = omega arith }) n lines commands (any_lines lines) read in
    subst IsOneList (sym whole.list) (record { plain = whole.fact.plain; few = whole.fact.few })

-- No block of a job that is read has more operations than a block may have.
use Rattle.std.proofs.Common.{◌≡◌, ℕ, ◌≤◌, Bool, true, false, List, [], ◌∷◌, length, Option, Some, None, Result, Ok, Err, refl, sym, subst, arith, length-append}
use Rattle.std.specs.List.{AllByRecursion}
use Rattle.zone_model.specs.Names.{Name}
use Rattle.zone_model.specs.Versions.{Version}
use Rattle.zone_model.specs.Refusals.{Refused, ◌>>=◌}
use Rattle.zone_model.specs.MasterFile.{zone_of}
use Rattle.zone_model.specs.declared.ZoneKind.{ZoneKind}
use Rattle.job_model.specs.declared.ScriptKind.{ScriptKind}
use Rattle.job_model.specs.Commands.{Command, Ask, Hold, AskHeld, Release, Block, Compact, Job}
use Rattle.job_model.specs.Outcomes.{asked_by}
use Rattle.job_model.specs.Jobs.{JobRefusal, Unfinished, Script, operation_limit, next_worker, script_of, zone_refused, script_refused, zone_lines, script_lines, script_start, job_of_lines, job_of}
use Rattle.job_model.proofs.ScriptLaws.{IsKept, IsLone, AnyLine, any_lines, free, script_whole}
use Rattle.dns_name.proofs.BodyLemmas.{all_push}

abbrev pub IsShort : Command → Type 0
IsShort command = length (asked_by command).operations ≤ operation_limit

abbrev pub AllShort : List (List Command) → Type 0
AllShort lists = AllByRecursion (AllByRecursion IsShort) lists

abbrev Few : Option Unfinished → Type 0
Few None = Unit {0}
Few (Some b) = length b.asked.operations ≤ operation_limit

-- what holds of a script so far
record Short (earlier : List (List Command)) (commands : List Command) (block : Option Unfinished) : Type 0 where
  lists : AllShort earlier
  list : AllByRecursion IsShort commands
  few : Few block

abbrev AreShort : Script → Type 0
AreShort s = Short s.earlier s.commands s.block

-- a command that is no block asks for no operation
lone_short : (command : Command) → IsLone command → IsShort command
lone_short (Ask question) lone = omega arith
lone_short Hold lone = omega arith
lone_short (AskHeld question) lone = omega arith
lone_short Release lone = omega arith
lone_short (Block _ asked ending) lone = absurd lone
lone_short Compact lone = omega arith

next_kept : (s : Script) (begun : Bool) → AreShort s → AreShort (next_worker (record s { begun = begun }))
next_kept s true short = record { lists = all_push (AllByRecursion IsShort) s.earlier s.commands short.lists short.list; list = tt; few = short.few }
next_kept s false short = record { lists = short.lists; list = short.list; few = short.few }

kept : (origin : Name) → IsKept origin AnyLine AreShort
kept origin = record {
  worker = λ s short _ _. next_kept (free s) s.begun short;
  command = λ s command short _ lone. record { lists = short.lists; list = all_push IsShort s.commands command short.list (lone_short command lone); few = tt };
  opens = λ _ _ _ short _. record { lists = short.lists; list = short.list; few = omega arith };
  need = λ _ _ _ short. record { lists = short.lists; list = short.list; few = short.few };
  operation = λ _ _ _ b _ operation _ _ _ short room. record {
    lists = short.lists;
    list = short.list;
    few = omega (arith, room, length-append b.asked.operations (operation ∷ []));
  };
  block = λ b s ending short. record { lists = short.lists; list = all_push IsShort s.commands (Block b.weight b.asked ending) short.list short.few; few = tt };
}

-- ---- the job

abbrev ListsShort : Result (List (List Command)) (Refused ScriptKind) → Type 0
ListsShort (Ok lists) = AllShort lists
ListsShort (Err e) = Unit {0}

script_short : (origin : Name) (n : ℕ) (lines : List (List ℕ)) → ListsShort (script_of origin n lines)
script_short origin n lines = by_result (script_of origin n lines) refl
  where
    by_result : (r : Result (List (List Command)) (Refused ScriptKind)) → script_of origin n lines ≡ r → ListsShort r
    by_result (Err e) read = tt
    by_result (Ok lists) read =
        let whole = script_whole origin AnyLine AreShort (kept origin) (record { lists = tt; list = tt; few = tt }) n lines lists (any_lines lines) read in
        subst AllShort (sym whole.lists) (all_push (AllByRecursion IsShort) whole.script.earlier whole.script.commands whole.fact.lists whole.fact.list)

abbrev JobShort : Result Job JobRefusal → Type 0
JobShort (Ok job) = AllShort job.workers
JobShort (Err e) = Unit {0}

by_parts : (origin : Name) (zone : Result Version (Refused ZoneKind)) (script : Result (List (List Command)) (Refused ScriptKind)) → ListsShort script
    → JobShort (zone_refused zone >>= (λ version. script_refused script >>= (λ workers. Ok (record { origin = origin; zone = version; workers = workers }))))
by_parts origin (Err e) script short = tt
by_parts origin (Ok version) (Err e) short = tt
by_parts origin (Ok version) (Ok workers) short = short

lines_short : (origin : Name) (zone : List (List ℕ)) (start : ℕ) (script : List (List ℕ)) → JobShort (job_of_lines origin zone start script)
unfolding job_of_lines
lines_short origin zone start script = by_parts origin (zone_of origin zone) (script_of origin start script) (script_short origin start script)

-- the blocks of the job that bytes say
pub blocks_short : (origin : Name) (bytes : List ℕ) (job : Job) → job_of origin bytes ≡ Ok job → AllShort job.workers
blocks_short origin bytes job says = subst JobShort says (lines_short origin (zone_lines bytes) (script_start bytes) (script_lines bytes))

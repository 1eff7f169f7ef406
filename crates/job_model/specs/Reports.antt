-- What is printed for a job and its outcomes.
use Rattle.std.specs.Prelude.{ℕ, ◌+◌, List, [], ◌∷◌, ◌++◌, length, codes}
use Rattle.std.specs.List.{flat_map}
use Rattle.std.specs.Fmt.{decimal}
use Rattle.zone_model.specs.Names.{Name}
use Rattle.zone_model.specs.Versions.{Version}
use Rattle.job_model.specs.Commands.{Command, Ask, Hold, AskHeld, Release, Block, Compact}
use Rattle.job_model.specs.Replies.{reply_of, reply_text}
use Rattle.job_model.specs.Outcomes.{Cause, Rule, Full, Spent, Ended, Shown, Committed, RolledBack, Refused, Outcome, Pair, all_pairs, version_at}
use Rattle.zone_model.specs.declared.Refusal.{Refusal}
use Rattle.zone_model.specs.declared.Refusal.TheVariants.{Prereq, Soa, Cname, Long}

-- worker, command and version
abbrev pub head_text : ℕ → ℕ → ℕ → List ℕ
head_text worker command version = decimal worker ++ codes "." ++ decimal command ++ codes " v" ++ decimal version ++ codes " "

abbrev pub rule_text : Refusal → List ℕ
rule_text Prereq = codes "prereq"
rule_text Soa = codes "soa"
rule_text Cname = codes "cname"
rule_text Long = codes "long"

-- for want of room the number of the operation and the kept versions
abbrev pub cause_text : Cause → List ℕ
cause_text (Rule refusal) = rule_text refusal
cause_text (Full operation kept) = codes "full at " ++ decimal operation ++ codes " kept" ++ flat_map (λ v. codes " " ++ decimal v) kept
cause_text Spent = codes "spent"

-- how a block ended
abbrev pub ended_text : Ended → List ℕ
ended_text Shown = []
ended_text Committed = codes "COMMITTED\n"
ended_text RolledBack = codes "ROLLED BACK\n"
ended_text (Refused cause) = codes "REFUSED " ++ cause_text cause ++ codes "\n"

-- how a compaction ended
abbrev pub compacted_text : Ended → List ℕ
compacted_text Shown = []
compacted_text Committed = codes "COMPACTED\n"
compacted_text RolledBack = []
compacted_text (Refused cause) = ended_text (Refused cause)

abbrev pub command_text : Name → (ℕ → Version) → Command → Outcome → List ℕ
command_text origin set (Ask question) o = reply_text (reply_of origin (set o.version) question)
command_text origin set Hold o = codes "HELD\n"
command_text origin set (AskHeld question) o = reply_text (reply_of origin (set o.version) question)
command_text origin set Release o = codes "RELEASED\n"
command_text origin set (Block _ asked ending) o = ended_text o.ended
command_text origin set Compact o = compacted_text o.ended

abbrev pub worker_text : Name → (ℕ → Version) → ℕ → ℕ → List Pair → List ℕ
worker_text origin set w c [] = []
worker_text origin set w c (pair ∷ rest) = head_text w c pair.1.version ++ command_text origin set pair.0 pair.1 ++ worker_text origin set w (c + 1) rest

abbrev pub workers_text : Name → (ℕ → Version) → ℕ → List (List Pair) → List ℕ
workers_text origin set w [] = []
workers_text origin set w (pairs ∷ rest) = worker_text origin set w 1 pairs ++ workers_text origin set (w + 1) rest

-- the last version, and how many names it has
abbrev pub end_text : ℕ → ℕ → List ℕ
end_text last names = codes "end v" ++ decimal last ++ codes " names " ++ decimal names ++ codes "\n"

-- worker by worker, command by command, and then the last version
abbrev pub report : Name → Version → List (List Pair) → ℕ → List ℕ
report origin zone workers last =
    workers_text origin (version_at origin zone (all_pairs workers)) 1 workers ++ end_text last (length (version_at origin zone (all_pairs workers) last))

-- A line where it stands; commands that may come where they stand.
use Rattle.std.proofs.Common.{◌≡◌, ◌∙◌, ℕ, ◌≤◌, Bool, true, false, cond, List, [], ◌∷◌, length, arith, Option, Some, None, Result, Ok, Err, IfOk, refl, ap, sym, Vec, Global, vec_len}
use Rattle.std.specs.List.{AllByRecursion}
use Rattle.std.proofs.lemmas.List.{length-map}
use Rattle.zone_model.specs.Names.{Name}
use Rattle.zone_model.specs.Tokens.{Token}
use Rattle.job_model.specs.Phrases.{Phrase, Worker, Asks, AsksWhole, Holds, AsksHeld, AsksHeldWhole, Releases, Opens, Needs, Adds, Deletes, Ends, Compacts, phrase_of}
use Rattle.job_model.specs.declared.ScriptKind.TheVariants.{BadCommand}
use Rattle.job_model.specs.Arguments.{refuse}
use Rattle.job_model.specs.Commands.{InTurn, NeedsNoSnapshot}
use Rattle.job_model.specs.Jobs.{Script, Unfinished, outside, inside, may_stand, by_block, taken, tokens_say, script_of, list_of}
use Rattle.job_model.proofs.TurnLemmas.{read_in_turn}
use Rattle.job_model.proofs.ManyLemmas.{few_workers}
use Rattle.job_model.proofs.OneListLemmas.{read_plain}
use Rattle.job_script.specs.Scripts.{Says}
use Rattle.job_script.specs.Views.{command_view, job_view, list_view, worker_view}
use Rattle.job_script.specs.declared.commands.Command.{Command}
use Rattle.job_script.specs.declared.commands.Job.{Job}
use Rattle.job_script.specs.declared.refusal.JobRefusal.{JobRefusal}

-- It doesn't depend on what the script has as its block, since that block is handed to it.
pub inside_alike : (origin : Name) (n : ℕ) (b : Unfinished) (p : Phrase) (s : Script) (block : Option Unfinished) → inside origin n b p (record s { block = block }) ≡ inside origin n b p s
inside_alike origin n b Worker s block = refl
inside_alike origin n b (Asks asked) s block = refl
inside_alike origin n b (AsksWhole asked) s block = refl
inside_alike origin n b Holds s block = refl
inside_alike origin n b (AsksHeld asked) s block = refl
inside_alike origin n b (AsksHeldWhole asked) s block = refl
inside_alike origin n b Releases s block = refl
inside_alike origin n b (Opens _) s block = refl
inside_alike origin n b (Needs wanted owner rtype) s block = refl
inside_alike origin n b (Adds owner ttl rtype tokens) s block = refl
inside_alike origin n b (Deletes owner rest) s block = refl
inside_alike origin n b (Ends ending) s block = refl
inside_alike origin n b Compacts s block = refl

-- what a line may say is taken where it stands
may_be : (origin : Name) (n : ℕ) (s : Script) (p : Phrase) (may : Bool) → may_stand s.listing p ≡ may → taken origin n s (Some p) ≡ cond may (by_block origin n p s s.block) (refuse n BadCommand)
may_be origin n s p may is = ap (λ (b : Bool). cond b (by_block origin n p s s.block) (refuse n BadCommand)) is

tokens_taken : (origin : Name) (n : ℕ) (s : Script) (tokens : List Token) (p : Phrase) → phrase_of origin tokens ≡ Some p → tokens_say origin n s (Some tokens) ≡ taken origin n s (Some p)
unfolding phrase_of
tokens_taken origin n s [] p said = absurd cc
tokens_taken origin n s (t ∷ tokens) p said = ap (taken origin n s) said

pub tokens_outside : (origin : Name) (n : ℕ) (s : Script) (tokens : List Token) (p : Phrase) → phrase_of origin tokens ≡ Some p → may_stand s.listing p ≡ true → s.block ≡ None
    → tokens_say origin n s (Some tokens) ≡ outside origin n p (record s { block = None })
tokens_outside origin n s tokens p said may none =
    tokens_taken origin n s tokens p said ∙ may_be origin n s p true may ∙ ap (by_block origin n p s) none ∙ ap (λ (b : Option Unfinished). outside origin n p (record s { block = b })) none

pub tokens_inside : (origin : Name) (n : ℕ) (s : Script) (tokens : List Token) (p : Phrase) (b : Unfinished) → phrase_of origin tokens ≡ Some p → may_stand s.listing p ≡ true → s.block ≡ Some b → tokens_say origin n s (Some tokens) ≡ inside origin n b p (record s { block = None })
tokens_inside origin n s tokens p b said may here =
    tokens_taken origin n s tokens p said ∙ may_be origin n s p true may ∙ ap (by_block origin n p s) here ∙ sym (inside_alike origin n b p s None)

-- a job that was read
pub read_turn : (origin : Name) (n : ℕ) (lines : List (List ℕ)) (r : Result Job JobRefusal) → Says r job_view (script_of origin n lines) → IfOk r (λ job. AllByRecursion (InTurn false) (job_view job))
read_turn origin n lines (Ok job) s = read_in_turn origin n lines (job_view job) s
read_turn origin n lines (Err refusal) s = tt

pub read_few : (origin : Name) (n : ℕ) (lines : List (List ℕ)) (r : Result Job JobRefusal) → Says r job_view (script_of origin n lines) → IfOk r (λ job. length job.workers.items ≤ 16)
read_few origin n lines (Ok job) s = let few = few_workers origin n lines (job_view job) s in omega (arith, few, length-map job.workers.items worker_view)
read_few origin n lines (Err refusal) s = tt

-- one list that was read
pub read_list_plain : (origin : Name) (n : ℕ) (lines : List (List ℕ)) (r : Result (Vec Command Global) JobRefusal) → Says r list_view (list_of origin n lines) → IfOk r (λ commands. AllByRecursion NeedsNoSnapshot (list_view commands))
read_list_plain origin n lines (Ok commands) s = (read_plain origin n lines (list_view commands) s).plain
read_list_plain origin n lines (Err refusal) s = tt

pub read_list_few : (origin : Name) (n : ℕ) (lines : List (List ℕ)) (r : Result (Vec Command Global) JobRefusal) → Says r list_view (list_of origin n lines) → IfOk r (λ commands. vec_len commands ≤ 10000)
read_list_few origin n lines (Ok commands) s = let few = (read_plain origin n lines (list_view commands) s).few in omega (arith, few, length-map commands.items command_view)
read_list_few origin n lines (Err refusal) s = tt

-- A session and a list that take the same lines.
use Rattle.std.proofs.Common.{◌≡◌, ◌∙◌, ◌⊎◌, inl, inr, ℕ, ◌+◌, Bool, true, false, cond, not, ◌==◌, nat_lt, List, [], ◌∷◌, ◌++◌, length, map, Option, Some, None, Result, Ok, Err, refl, sym, ap, subst, append_assoc, append-nil, option_map, is_some}
use Rattle.zone_model.specs.Names.{Name}
use Rattle.zone_model.specs.Refusals.{Refused, ◌>>=◌}
use Rattle.zone_model.specs.Tokens.{Token}
use Rattle.zone_model.specs.Versions.{Operation}
use Rattle.zone_model.specs.Transactions.{Prerequisite, Transaction, no_changes}
use Rattle.job_model.specs.declared.ScriptKind.{ScriptKind}
use Rattle.job_model.specs.declared.Weight.{Weight}
use Rattle.job_model.specs.Commands.{Command, Ask, Hold, AskHeld, Release, Block, Compact, NeedsNoSnapshot, held_after}
use Rattle.job_model.specs.Phrases.{Phrase, Worker, Asks, AsksWhole, Holds, AsksHeld, AsksHeldWhole, Releases, Opens, Needs, Adds, Deletes, Ends, Compacts, phrase_of, script_tokens}
use Rattle.job_model.specs.Arguments.{refuse}
use Rattle.job_model.specs.Jobs.{Script, Unfinished, command_limit, list_finished, list_of, may_end, need_limit, no_commands, no_live_lines, operation_limit, script_from, script_line, taken, tokens_say}
use Rattle.job_model.specs.Sessions.{Runs, Said, Session, Step, all_said, first_session, session_line, session_lines, step_of, took}
use Rattle.session_laws.proofs.LineNumbers.{put, tokens_same}
use Rattle.session_laws.proofs.ArgumentLaws.{SameOk, addition_same, deletion_same, phrase_same, prerequisite_same, put_phrase}

-- ---- where both stand

-- no transaction is open; or one is, by its first line as the list and as the session counts it
data Place : Type 0 where
  Closed : Place
  Open : (list live : ℕ) (weight : Weight) (asked : Transaction) → Place

abbrev list_block : Place → Option Unfinished
list_block Closed = None
list_block (Open list live weight asked) = Some (record { start = list; weight = weight; asked = asked })

abbrev live_block : Place → Option Unfinished
live_block Closed = None
live_block (Open list live weight asked) = Some (record { start = live; weight = weight; asked = asked })

abbrev list_at : List Command → Place → Script
list_at commands p = record no_commands { commands = commands; block = list_block p }

abbrev live_at : Place → Script
live_at p = record no_live_lines { held = false; block = live_block p }

abbrev session_at : Place → ℕ → Session
session_at p opened = record { held = false; block = live_block p; opened = opened; given_up = false }

abbrev Read : Type 0
Read = Result Script (Refused ScriptKind)

-- both took a line: it said no command yet, or this one
abbrev Took : List Command → Script → Read → Type 0
Took commands next r =
    ((p : Place) × (next ≡ list_at commands p) × (r ≡ Ok (live_at p)))
    ⊎ ((command : Command) × NeedsNoSnapshot command × (next ≡ list_at (commands ++ command ∷ []) Closed) × (r ≡ Ok (record (live_at Closed) { commands = command ∷ [] })))

-- where the list took it
abbrev IfTook : List Command → Read → Read → Type 0
IfTook commands (Ok next) r = Took commands next r
IfTook commands (Err e) r = Unit {0}

-- ---- one line

if_room : (commands : List Command) (b : Bool) (n : ℕ) (kind : ScriptKind) (next : Script) (r : Read) → Took commands next r → IfTook commands (cond b (Ok next) (refuse n kind)) r
if_room commands true n kind next r h = h
if_room commands false n kind next r h = tt

no_room : (commands : List Command) (b : Bool) (n m : ℕ) (kind other : ScriptKind) (r : Read) → IfTook commands (cond b (refuse n kind) (refuse m other)) r
no_room commands true n m kind other r = tt
no_room commands false n m kind other r = tt

if_either : (commands : List Command) (b : Bool) (x y u v : Read) → IfTook commands x u → IfTook commands y v → IfTook commands (cond b x y) (cond b u v)
if_either commands true x y u v h k = h
if_either commands false x y u v h k = k

then_took : {A : Type 0} (commands : List Command) (r u : Result A (Refused ScriptKind)) (f g : A → Read) → SameOk r u → ((x : A) → IfTook commands (f x) (g x)) → IfTook commands (r >>= f) (u >>= g)
then_took {A = A} commands (Ok x) u f g h k = subst (λ (z : Result A (Refused ScriptKind)). IfTook commands (f x) (z >>= g)) (sym h) (k x)
then_took commands (Err e) u f g h k = tt

abbrev list_takes : Name → ℕ → List Command → Place → Phrase → Read
list_takes origin n commands p phrase = taken origin n (list_at commands p) (Some (put_phrase n phrase))

abbrev live_takes : Name → Place → Phrase → Read
live_takes origin p phrase = taken origin 1 (live_at p) (Some phrase)

module _ (origin : Name) (n : ℕ) (commands : List Command) where
  outside_took : (phrase : Phrase) → IfTook commands (list_takes origin n commands Closed phrase) (live_takes origin Closed phrase)
  outside_took Worker = tt
  outside_took (Asks (Ok question)) = if_room commands (nat_lt (length commands) command_limit) _ _ _ _ (inr (Ask question, tt, refl, refl))
  outside_took (Asks (Err kind)) = no_room commands (nat_lt (length commands) command_limit) _ _ _ _ _
  outside_took (AsksWhole asked) = tt
  outside_took Holds = tt
  outside_took (AsksHeld asked) = tt
  outside_took (AsksHeldWhole asked) = tt
  outside_took Releases = tt
  outside_took (Opens weight) = if_room commands (nat_lt (length commands) command_limit) _ _ _ _ (inl (Open n 1 weight no_changes, refl, refl))
  outside_took (Needs wanted owner rtype) = tt
  outside_took (Adds owner ttl rtype ts) = tt
  outside_took (Deletes owner rest) = tt
  outside_took (Ends ending) = tt
  outside_took Compacts = if_room commands (nat_lt (length commands) command_limit) _ _ _ _ (inr (Compact, tt, refl, refl))

  module _ (list live : ℕ) (weight : Weight) (asked : Transaction) where
    inside_took : (phrase : Phrase) → IfTook commands (list_takes origin n commands (Open list live weight asked) phrase) (live_takes origin (Open list live weight asked) phrase)
    inside_took Worker = tt
    inside_took (Asks r) = tt
    inside_took (AsksWhole r) = tt
    inside_took Holds = tt
    inside_took (AsksHeld r) = tt
    inside_took (AsksHeldWhole r) = tt
    inside_took Releases = tt
    inside_took (Opens other) = tt
    inside_took (Needs wanted owner rtype) =
        if_either commands (not (length asked.operations == 0)) _ _ _ _ tt
        (if_either commands (nat_lt (length asked.needs) need_limit) _ _ _ _
        (then_took commands _ _ _ _ (prerequisite_same origin n 1 wanted owner rtype) (λ (x : Prerequisite). inl (Open list live weight (record asked { needs = asked.needs ++ x ∷ [] }), refl, refl))) tt)
    inside_took (Adds owner ttl rtype ts) =
        if_either commands (nat_lt (length asked.operations) operation_limit) _ _ _ _
        (then_took commands _ _ _ _ (addition_same origin n 1 owner ttl rtype ts) (λ (x : Operation). inl (Open list live weight (record asked { operations = asked.operations ++ x ∷ [] }), refl, refl))) tt
    inside_took (Deletes owner rest) =
        if_either commands (nat_lt (length asked.operations) operation_limit) _ _ _ _
        (then_took commands _ _ _ _ (deletion_same origin n 1 owner rest) (λ (x : Operation). inl (Open list live weight (record asked { operations = asked.operations ++ x ∷ [] }), refl, refl))) tt
    inside_took (Ends ending) = if_either commands (may_end weight ending) _ _ _ _ (inr (Block weight asked ending, tt, refl, refl)) tt
    inside_took Compacts = tt

  phrase_took : (p : Place) (phrase : Phrase) → IfTook commands (list_takes origin n commands p phrase) (live_takes origin p phrase)
  phrase_took Closed phrase = outside_took phrase
  phrase_took (Open list live weight asked) phrase = inside_took list live weight asked phrase

  said_took : (p : Place) (said : Option Phrase) → IfTook commands (taken origin n (list_at commands p) (option_map (put_phrase n) said)) (taken origin 1 (live_at p) said)
  said_took p None = tt
  said_took p (Some phrase) = phrase_took p phrase

  tokens_took : (p : Place) (tokens : Option (List Token)) → IfTook commands (tokens_say origin n (list_at commands p) (option_map (map (put n)) tokens)) (tokens_say origin 1 (live_at p) tokens)
  tokens_took p None = tt
  tokens_took p (Some []) = inl (p, refl, refl)
  tokens_took p (Some (t ∷ ts)) =
      subst (λ (said : Option Phrase). IfTook commands (taken origin n (list_at commands p) said) (taken origin 1 (live_at p) (phrase_of origin (t ∷ ts)))) (sym (phrase_same origin n (t ∷ ts)))
      (said_took p (phrase_of origin (t ∷ ts)))

  line_took : (p : Place) (line : List ℕ) → IfTook commands (script_line origin n line (list_at commands p)) (script_line origin 1 line (live_at p))
  unfolding script_line
  line_took p line =
      subst (λ (tokens : Option (List Token)). IfTook commands (tokens_say origin n (list_at commands p) tokens) (tokens_say origin 1 (live_at p) (script_tokens 1 line))) (sym (tokens_same 1 n line))
      (tokens_took p (script_tokens 1 line))

-- ---- all lines

no_snapshot : (command : Command) → NeedsNoSnapshot command → held_after false command ≡ false
no_snapshot (Ask question) plain = refl
no_snapshot Hold plain = absurd plain
no_snapshot (AskHeld question) plain = absurd plain
no_snapshot Release plain = absurd plain
no_snapshot (Block _ asked ending) plain = refl
no_snapshot Compact plain = refl

-- the number that a session keeps behind a line
abbrev opened_at : Place → ℕ → ℕ → ℕ
opened_at p opened n = cond (is_some (live_block p)) opened n

session_took : (origin : Name) (n : ℕ) (line : List ℕ) (p next : Place) (opened : ℕ) → script_line origin 1 line (live_at p) ≡ Ok (live_at next)
    → session_line origin n line (session_at p opened) ≡ step_of (session_at next (opened_at p opened n)) []
unfolding session_line
session_took origin n line p next opened e = ap (took n line (session_at p opened)) e

session_ran : (origin : Name) (n : ℕ) (line : List ℕ) (p : Place) (command : Command) (opened : ℕ) → NeedsNoSnapshot command
    → script_line origin 1 line (live_at p) ≡ Ok (record (live_at Closed) { commands = command ∷ [] })
    → session_line origin n line (session_at p opened) ≡ step_of (session_at Closed (opened_at p opened n)) (Runs command ∷ [])
unfolding session_line
session_ran origin n line p command opened plain e =
    ap (took n line (session_at p opened)) e
    ∙ ap (λ (held : Bool). step_of (record { held = held; block = None; opened = opened_at p opened n; given_up = false }) (Runs command ∷ [])) (no_snapshot command plain)

-- the lines say the commands behind these
record SaysRest (commands all : List Command) (step : Step) : Type 0 where
  rest : List Command
  is : all ≡ commands ++ rest
  said : all_said step ≡ map Runs rest

abbrev behind : Name → ℕ → List (List ℕ) → Step → Step
behind origin n lines first =
    let rest : Step = session_lines origin (n + 1) lines first.session in step_of rest.session (first.said ++ rest.said)

-- the lines behind this one
abbrev Onward : Name → ℕ → List (List ℕ) → List Command → Type 0
Onward origin n lines all = (commands : List Command) (p : Place) (opened : ℕ) → (script_from origin n lines (list_at commands p) >>= list_finished) ≡ Ok all
    → SaysRest commands all (session_lines origin n lines (session_at p opened))

line_says : (origin : Name) (n : ℕ) (line : List ℕ) (lines : List (List ℕ)) (commands all : List Command) (p : Place) (opened : ℕ) (r : Read) → Onward origin (n + 1) lines all
    → IfTook commands r (script_line origin 1 line (live_at p)) → ((r >>= script_from origin (n + 1) lines) >>= list_finished) ≡ Ok all
    → SaysRest commands all (behind origin n lines (session_line origin n line (session_at p opened)))
line_says origin n line lines commands all p opened (Err e') onward h e = absurd cc
line_says origin n line lines commands all p opened (Ok script) onward (inl (next, i, j)) e =
    let more = onward commands next (opened_at p opened n) (subst (λ (s : Script). (script_from origin (n + 1) lines s >>= list_finished) ≡ Ok all) i e) in
    record {
      rest = more.rest;
      is = more.is;
      said = ap (λ (first : Step). all_said (behind origin n lines first)) (session_took origin n line p next opened j) ∙ more.said;
    }
line_says origin n line lines commands all p opened (Ok script) onward (inr (command, plain, i, j)) e =
    let more = onward (commands ++ command ∷ []) Closed (opened_at p opened n) (subst (λ (s : Script). (script_from origin (n + 1) lines s >>= list_finished) ≡ Ok all) i e) in
    record {
      rest = command ∷ more.rest;
      is = more.is ∙ append_assoc commands (command ∷ []) more.rest;
      said = ap (λ (first : Step). all_said (behind origin n lines first)) (session_ran origin n line p command opened plain j) ∙ ap (λ (l : List Said). Runs command ∷ l) more.said;
    }

lines_say : (origin : Name) (n : ℕ) (lines : List (List ℕ)) (all : List Command) → Onward origin n lines all
unfolding script_from session_lines
lines_say origin n [] all commands Closed opened e = record { rest = []; is = (let i : commands ≡ all = cc in sym i ∙ sym (append-nil commands)); said = refl }
lines_say origin n [] all commands (Open _ _ _ _) opened e = absurd cc
lines_say origin n (line ∷ lines) all commands p opened e =
    line_says origin n line lines commands all p opened (script_line origin n line (list_at commands p)) (lines_say origin (n + 1) lines all) (line_took origin n commands p line) e

pub list_says : (origin : Name) (n : ℕ) (lines : List (List ℕ)) (commands : List Command) → list_of origin n lines ≡ Ok commands → all_said (session_lines origin n lines first_session) ≡ map Runs commands
unfolding list_of
list_says origin n lines commands e = let says = lines_say origin n lines commands [] Closed 0 e in says.said ∙ ap (map Runs) (sym says.is)

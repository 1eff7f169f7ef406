-- A block whose lines are taken as those of a script of its zone alone goes on, or is the one command of that.
use Rattle.std.proofs.Common.{◌≡◌, ◌∙◌, ℕ, ◌+◌, Bool, true, false, cond, List, [], ◌∷◌, ◌++◌, length, Option, Some, None, Result, Ok, Err, refl, ap, arith}
use Rattle.std.specs.Prelude.{nat_lt, not, ◌==◌, codes}
use Rattle.zone_model.specs.Names.{Name}
use Rattle.zone_model.specs.Refusals.{Refused, ◌>>=◌}
use Rattle.zone_model.specs.Tokens.{Token, line_tokens, steps, step, line_end}
use Rattle.zone_model.specs.Versions.{Operation}
use Rattle.zone_model.specs.Transactions.{Prerequisite, Transaction}
use Rattle.job_model.specs.declared.ScriptKind.{ScriptKind}
use Rattle.job_model.specs.declared.ScriptKind.TheVariants.{BadCommand, TooMany}
use Rattle.job_model.specs.declared.Ending.{Ending}
use Rattle.job_model.specs.declared.Weight.{Weight}
use Rattle.job_model.specs.declared.Weight.TheVariants.{Light, Heavy}
use Rattle.job_model.specs.Commands.{Command, Block}
use Rattle.job_model.specs.Phrases.{Phrase, Worker, Asks, AsksWhole, Holds, AsksHeld, AsksHeldWhole, Releases, Opens, Needs, Adds, Deletes, Ends, Compacts, phrase_of, script_tokens}
use Rattle.job_model.specs.Questions.{asked_of}
use Rattle.job_model.specs.Arguments.{refuse, prerequisite_of, addition_of, deletion_of}
use Rattle.job_model.specs.Jobs.{Unfinished, Script, need_limit, operation_limit, with_command, with_need, needed_first, with_operation, joined, may_end, ended, inside, may_stand, by_block, taken, tokens_say, script_line, script_from, opened, no_lines}
use Rattle.zones_script.specs.Told.{opening}

-- commands that are one block
pub record IsBlock (weight : Weight) (commands : List Command) : Type 0 where
  pub asked : Transaction
  pub ending : Ending
  pub is : commands ≡ Block weight asked ending ∷ []

-- a block is open, and nothing came before it
abbrev pub IsOpen : Weight → Option Unfinished → List Command → Type 0
IsOpen w None commands = ⊥
IsOpen w (Some b) commands = (commands ≡ []) × (b.weight ≡ w)

-- so it is, or it has ended
abbrev pub IsBegun : Weight → Option Unfinished → List Command → Type 0
IsBegun w None commands = IsBlock w commands
IsBegun w (Some b) commands = (commands ≡ []) × (b.weight ≡ w)

-- one worker began
pub record IsFirst (s : Script) : Type 0 where
  pub begun : s.begun ≡ true
  pub earlier : s.earlier ≡ []

abbrev pub Kept : Weight → Result Script (Refused ScriptKind) → Type 0
Kept w (Ok s) = IsBegun w s.block s.commands × IsFirst s
Kept w (Err e) = Unit {0}

if_kept : (w : Weight) (b : Bool) (x y : Result Script (Refused ScriptKind)) → Kept w x → Kept w y → Kept w (cond b x y)
if_kept w true x y p q = p
if_kept w false x y p q = q

bind_kept : {A : Type 0} (w : Weight) (r : Result A (Refused ScriptKind)) (f : A → Result Script (Refused ScriptKind)) → ((x : A) → Kept w (f x)) → Kept w (r >>= f)
bind_kept w (Ok x) f k = k x
bind_kept w (Err e) f k = tt

-- a block that has not ended, where nothing came before it
record IsHere (w : Weight) (b : Unfinished) (s : Script) : Type 0 where
  none : s.commands ≡ []
  weight : b.weight ≡ w
  first : IsFirst s

needed_kept : (w : Weight) (n : ℕ) (b : Unfinished) (s : Script) (r : Result Prerequisite (Refused ScriptKind)) → IsHere w b s → Kept w (needed_first n b s r)
needed_kept w n b s r here =
    if_kept w (not (length b.asked.operations == 0)) (refuse n BadCommand)
    (cond (nat_lt (length b.asked.needs) need_limit) (r >>= with_need b s) (refuse n (TooMany need_limit))) tt
    (if_kept w (nat_lt (length b.asked.needs) need_limit) (r >>= with_need b s) (refuse n (TooMany need_limit))
    (bind_kept w r (with_need b s) (λ need. ((here.none, here.weight), record { begun = here.first.begun; earlier = here.first.earlier }))) tt)

joined_kept : (w : Weight) (n : ℕ) (b : Unfinished) (s : Script) (r : Result Operation (Refused ScriptKind)) → IsHere w b s → Kept w (joined n b s r)
joined_kept w n b s r here =
    if_kept w (nat_lt (length b.asked.operations) operation_limit) (r >>= with_operation b s) (refuse n (TooMany operation_limit))
    (bind_kept w r (with_operation b s) (λ operation. ((here.none, here.weight), record { begun = here.first.begun; earlier = here.first.earlier }))) tt

ended_kept : (w : Weight) (n : ℕ) (b : Unfinished) (ending : Ending) (s : Script) → IsHere w b s → Kept w (ended n b ending s)
ended_kept w n b ending s here =
    let command = Block b.weight b.asked ending in
    if_kept w (may_end b.weight ending) (Ok (record (with_command s command) { block = None })) (refuse n BadCommand) (
      record {
        asked = b.asked;
        ending = ending;
        is = ap (λ (l : List Command). l ++ command ∷ []) here.none ∙ ap (λ (v : Weight). Block v b.asked ending ∷ []) here.weight;
      },
      record { begun = here.first.begun; earlier = here.first.earlier },
    ) tt

inside_kept : (w : Weight) (origin : Name) (n : ℕ) (b : Unfinished) (phrase : Phrase) (s : Script) → IsHere w b s → Kept w (inside origin n b phrase s)
inside_kept w origin n b Worker s here = tt
inside_kept w origin n b (Asks asked) s here = tt
inside_kept w origin n b (AsksWhole asked) s here = tt
inside_kept w origin n b Holds s here = tt
inside_kept w origin n b (AsksHeld asked) s here = tt
inside_kept w origin n b (AsksHeldWhole asked) s here = tt
inside_kept w origin n b Releases s here = tt
inside_kept w origin n b (Opens _) s here = tt
inside_kept w origin n b (Needs wanted owner rtype) s here = needed_kept w n b s (prerequisite_of origin n wanted owner rtype) here
inside_kept w origin n b (Adds owner ttl rtype tokens) s here = joined_kept w n b s (addition_of origin n owner ttl rtype tokens) here
inside_kept w origin n b (Deletes owner rest) s here = joined_kept w n b s (deletion_of origin n owner rest) here
inside_kept w origin n b (Ends ending) s here = ended_kept w n b ending s here
inside_kept w origin n b Compacts s here = tt

by_block_kept : (w : Weight) (origin : Name) (n : ℕ) (phrase : Phrase) (s : Script) (block : Option Unfinished) → IsOpen w block s.commands → IsFirst s → Kept w (by_block origin n phrase (record s { block = block }) block)
by_block_kept w origin n phrase s None here first = absurd here
by_block_kept w origin n phrase s (Some b) here first =
    inside_kept w origin n b phrase (record s { block = Some b }) (record { none = here.0; weight = here.1; first = record { begun = first.begun; earlier = first.earlier } })

begun : (w : Weight) (block : Option Unfinished) (commands : List Command) → IsOpen w block commands → IsBegun w block commands
begun w None commands here = absurd here
begun w (Some b) commands here = here

tokens_kept : (w : Weight) (origin : Name) (n : ℕ) (s : Script) (tokens : Option (List Token)) → IsOpen w s.block s.commands → IsFirst s → Kept w (tokens_say origin n s tokens)
tokens_kept w origin n s None here first = tt
tokens_kept w origin n s (Some []) here first = (begun w s.block s.commands here, first)
tokens_kept w origin n s (Some (t ∷ tokens)) here first = by_phrase (phrase_of origin (t ∷ tokens))
  where
    by_phrase : (p : Option Phrase) → Kept w (taken origin n s p)
    by_phrase None = tt
    by_phrase (Some phrase) = if_kept w (may_stand s.listing phrase) (by_block origin n phrase s s.block) (refuse n BadCommand) (by_block_kept w origin n phrase s s.block here first) tt

pub line_kept : (w : Weight) (origin : Name) (n : ℕ) (line : List ℕ) (s : Script) → IsOpen w s.block s.commands → IsFirst s → Kept w (script_line origin n line s)
unfolding script_line
line_kept w origin n line s here first = tokens_kept w origin n s (script_tokens n line) here first

-- ---- the script alone

-- lines one after another
pub lines_more : (origin : Name) (n : ℕ) (xs ys : List (List ℕ)) (s t : Script) → script_from origin n xs s ≡ Ok t → script_from origin n (xs ++ ys) s ≡ script_from origin (n + length xs) ys t
unfolding script_from
lines_more origin n [] ys s t h =
    let same : s ≡ t = cc in
    let here : n ≡ n + 0 = omega arith in
    ap (script_from origin n ys) same ∙ ap (λ (k : ℕ). script_from origin k ys t) here
lines_more origin n (x ∷ xs) ys s t h = by_line (script_line origin n x s) h (lines_more origin (n + 1) xs ys)
  where
    by_line : (r : Result Script (Refused ScriptKind)) → r >>= script_from origin (n + 1) xs ≡ Ok t
        → ((s t : Script) → script_from origin (n + 1) xs s ≡ Ok t → script_from origin (n + 1) (xs ++ ys) s ≡ script_from origin (n + 1 + length xs) ys t)
        → r >>= script_from origin (n + 1) (xs ++ ys) ≡ script_from origin (n + length (x ∷ xs)) ys t
    by_line (Ok next) h more = let size : n + 1 + length xs ≡ n + length (x ∷ xs) = omega arith in more next t h ∙ ap (λ (k : ℕ). script_from origin k ys t) size
    by_line (Err e) h more = absurd cc

-- a worker's line, and the one that opens the block
pub opens : (origin : Name) (start : ℕ) (w : Weight) (own : List (List ℕ))
    → script_from origin start (codes "worker" ∷ opening w ∷ own) no_lines ≡ script_from origin (start + 1 + 1) own (opened (start + 1) w (record no_lines { begun = true }))
unfolding script_from script_line phrase_of line_tokens steps step line_end asked_of
opens origin start Light own = refl
opens origin start Heavy own = refl

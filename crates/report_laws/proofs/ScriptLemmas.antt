-- What the operations of scripts of octets are.
use Rattle.std.proofs.Common.{◌≡◌, ℕ, Bool, true, false, cond, List, [], ◌∷◌, Option, Some, None, Result, Ok, Err, refl, sym, ap, subst, codes}
use Rattle.std.specs.List.{AllByRecursion}
use Rattle.std.specs.Option.{option_map, option_or}
use Rattle.zone_model.specs.Refusals.{Refused, ◌>>=◌}
use Rattle.zone_model.specs.Names.{Name, IsName, is_under}
use Rattle.zone_model.specs.Versions.{Operation, Add, DeleteName, DeleteSet, DeleteRecord}
use Rattle.zone_model.specs.Tokens.{Token, Scan, fresh, line_tokens}
use Rattle.zone_model.specs.Data.{data_of}
use Rattle.zone_model.specs.MasterFile.{name_word, time_word, type_word}
use Rattle.zone_model.specs.declared.ZoneKind.{ZoneKind}
use Rattle.zone_model.specs.declared.DataRefusal.{DataRefusal}
use Rattle.zone_model.proofs.SplitLemmas.{and_some, map_some, cond_some}
use Rattle.dns_name.proofs.BodyLemmas.{all_push}
use Rattle.job_model.specs.declared.ScriptKind.{ScriptKind}
use Rattle.job_model.specs.declared.ScriptKind.TheVariants.{BadName, BadType, BadNumber}
use Rattle.job_model.specs.Commands.{Command, Ask, Hold, AskHeld, Release, Block, Compact}
use Rattle.job_model.specs.declared.Question.{Question}
use Rattle.job_model.specs.Words.{says}
use Rattle.job_model.specs.Questions.{asked_of, response_wanted}
use Rattle.job_model.specs.Phrases.{Phrase, Worker, Asks, AsksWhole, Holds, AsksHeld, AsksHeldWhole, asks_held, Releases, Opens, Needs, Adds, Deletes, Ends, Compacts, without_parens, script_tokens, lone_word, adds, needs, argued, no_question, phrase_of}
use Rattle.job_model.specs.Arguments.{needed, inner_name, octets_needed, addition_of, deletion_of}
use Rattle.job_model.proofs.ScriptLaws.{IsKept, IsLone, IsOn, free, operation_of, line_taken, script_whole, list_whole}
use Rattle.job_model.specs.Jobs.{Script, next_worker, script_line, script_of, list_of}
use Rattle.report_laws.specs.Octets.{AllOctets}
use Rattle.report_laws.specs.Changes.{IsInside, IsSaid, IsBlock, AllAsked}
use Rattle.report_laws.proofs.DataLemmas.{IsTokenText, AllTexts, data_is, bound}
use Rattle.report_laws.proofs.TokenLemmas.{either, line_is, fresh_is}
use Rattle.report_laws.proofs.ReaderLemmas.{name_said, time_said, type_said}

-- ---- tokens and phrases

tokens_are : (n : ℕ) (line : List ℕ) (tokens : List Token) → AllOctets line → script_tokens n line ≡ Some tokens → AllTexts tokens
tokens_are n line tokens l e = by_line (line_tokens n line fresh) refl e
  where
    by_line : (r : Result Scan (Refused ZoneKind)) → line_tokens n line fresh ≡ r → without_parens (r >>= (λ s. Ok (record { tokens = s.tokens; parens = s.parens }))) ≡ Some tokens → AllTexts tokens
    by_line (Err refusal) s k = absurd cc
    by_line (Ok scan) s k =
        either scan.parens _ _ (Some tokens) (λ j. absurd cc) (λ j. let is : scan.tokens ≡ tokens = cc in subst AllTexts is (line_is n line fresh scan l fresh_is s).tokens) k

-- the tokens that operations are read from are of octets
abbrev IsPhrase : Phrase → Type 0
IsPhrase Worker = Unit {0}
IsPhrase (Asks asked) = Unit {0}
IsPhrase (AsksWhole asked) = Unit {0}
IsPhrase Holds = Unit {0}
IsPhrase (AsksHeld asked) = Unit {0}
IsPhrase (AsksHeldWhole asked) = Unit {0}
IsPhrase Releases = Unit {0}
IsPhrase (Opens _) = Unit {0}
IsPhrase (Needs wanted owner rtype) = Unit {0}
IsPhrase (Adds owner ttl rtype rdata) = IsTokenText owner × AllTexts rdata
IsPhrase (Deletes owner rest) = IsTokenText owner
IsPhrase (Ends ending) = Unit {0}
IsPhrase Compacts = Unit {0}

so_is : (x phrase : Phrase) → IsPhrase x → Some x ≡ Some phrase → IsPhrase phrase
so_is x phrase p h = let is : x ≡ phrase = cc in subst IsPhrase is p

never : (phrase : Phrase) → ◌≡◌ {A = Option Phrase} None (Some phrase) → IsPhrase phrase
never phrase h = absurd cc

-- a question alone
question_is : (asks : Result Question ScriptKind → Phrase) → ((asked : Result Question ScriptKind) → IsPhrase (asks asked)) → (o : Option (Result Question ScriptKind)) (phrase : Phrase) → option_map asks o ≡ Some phrase → IsPhrase phrase
question_is asks all o phrase h = let m = map_some asks o phrase h in subst IsPhrase m.2 (all m.0)

held_is : (origin : Name) (w : Token) (operands : List Token) (phrase : Phrase) → asks_held origin w operands ≡ Some phrase → IsPhrase phrase
held_is origin w operands phrase h =
    either (says w (codes "ask")) _ _ (Some phrase) (question_is AsksHeldWhole (λ asked. tt) (response_wanted origin operands) phrase)
    (question_is AsksHeld (λ asked. tt) (asked_of origin w operands) phrase) h

word_is : (w : Token) (phrase : Phrase) → lone_word w ≡ Some phrase → IsPhrase phrase
word_is w phrase h =
    either (says w (codes "worker")) _ _ (Some phrase) (so_is Worker phrase tt)
    (either (says w (codes "hold")) _ _ (Some phrase) (so_is Holds phrase tt)
    (either (says w (codes "release")) _ _ (Some phrase) (so_is Releases phrase tt)
    (either (says w (codes "write")) _ _ (Some phrase) (so_is (Opens _) phrase tt)
    (either (says w (codes "update")) _ _ (Some phrase) (so_is (Opens _) phrase tt)
    (either (says w (codes "commit")) _ _ (Some phrase) (so_is (Ends _) phrase tt)
    (either (says w (codes "rollback")) _ _ (Some phrase) (so_is (Ends _) phrase tt)
    (either (says w (codes "compact")) _ _ (Some phrase) (so_is Compacts phrase tt)
    (never phrase)))))))) h

adds_is : (owner : Token) (rest : List Token) (phrase : Phrase) → IsTokenText owner → AllTexts rest → adds owner rest ≡ Some phrase → IsPhrase phrase
adds_is owner [] phrase o t h = absurd cc
adds_is owner (ttl ∷ []) phrase o t h = absurd cc
adds_is owner (ttl ∷ rtype ∷ []) phrase o t h = absurd cc
adds_is owner (ttl ∷ rtype ∷ first ∷ rest) phrase o t h = so_is (Adds owner ttl rtype (first ∷ rest)) phrase (o, t.1.1) h

needs_is : (wanted : Bool) (owner : Token) (rest : List Token) (phrase : Phrase) → needs wanted owner rest ≡ Some phrase → IsPhrase phrase
needs_is wanted owner [] phrase h = so_is (Needs wanted owner None) phrase tt h
needs_is wanted owner (rtype ∷ []) phrase h = so_is (Needs wanted owner (Some rtype)) phrase tt h
needs_is wanted owner (rtype ∷ other ∷ rest) phrase h = absurd cc

argued_is : (origin : Name) (w first : Token) (rest : List Token) (phrase : Phrase) → IsTokenText first → AllTexts rest → argued origin w first rest ≡ Some phrase → IsPhrase phrase
argued_is origin w first rest phrase f t h =
    either (says w (codes "add")) _ _ (Some phrase) (adds_is first rest phrase f t)
    (either (says w (codes "del")) _ _ (Some phrase) (so_is (Deletes first rest) phrase f)
    (either (says w (codes "ask")) _ _ (Some phrase) (question_is AsksWhole (λ asked. tt) (response_wanted origin (first ∷ rest)) phrase)
    (either (says w (codes "at")) _ _ (Some phrase) (held_is origin first rest phrase)
    (either (says w (codes "need")) _ _ (Some phrase) (needs_is true first rest phrase)
    (either (says w (codes "neednot")) _ _ (Some phrase) (needs_is false first rest phrase)
    (never phrase)))))) h

other_is : (origin : Name) (w : Token) (arguments : List Token) (phrase : Phrase) → AllTexts arguments → no_question origin w arguments ≡ Some phrase → IsPhrase phrase
other_is origin w [] phrase t h = word_is w phrase h
other_is origin w (first ∷ rest) phrase t h = argued_is origin w first rest phrase t.0 t.1 h

asked_or : (asked : Option (Result Question ScriptKind)) (other : Option Phrase) (phrase : Phrase) → (other ≡ Some phrase → IsPhrase phrase) → option_or (option_map Asks asked) other ≡ Some phrase → IsPhrase phrase
asked_or None other phrase is h = is h
asked_or (Some asked) other phrase is h = so_is (Asks asked) phrase tt h

phrase_is : (origin : Name) (tokens : List Token) (phrase : Phrase) → AllTexts tokens → phrase_of origin tokens ≡ Some phrase → IsPhrase phrase
unfolding phrase_of
phrase_is origin [] phrase t h = absurd cc
phrase_is origin (w ∷ arguments) phrase t h = asked_or (asked_of origin w arguments) (no_question origin w arguments) phrase (other_is origin w arguments phrase t.1) h

-- ---- operations

given : {A : Type 0} (n : ℕ) (kind : ScriptKind) (o : Option A) (x : A) → needed n kind o ≡ Ok x → o ≡ Some x
given n kind (Some y) x h = let is : y ≡ x = cc in ap Some is
given n kind None x h = absurd cc

octets_given : (n : ℕ) (r : Result (List ℕ) DataRefusal) (octets : List ℕ) → octets_needed n r ≡ Ok octets → r ≡ Ok octets
octets_given n (Ok x) octets h = let is : x ≡ octets = cc in ap (λ (l : List ℕ). Ok l) is
octets_given n (Err refusal) octets h = absurd cc

inside_is : (origin : Name) (t : Token) (name : Name) → IsTokenText t → IsName origin → inner_name origin t ≡ Some name → IsInside origin name
inside_is origin t name b o h =
    let a = and_some (λ (name : Name). cond (is_under name origin) (Some name) None) (name_word origin t) name h in
    let c = cond_some (is_under a.0 origin) (Some a.0) name a.2 in
    let is : a.0 ≡ name = cc in
    subst (IsInside origin) is (record { name = name_said origin t a.0 b o a.1; under = c.0 })

owner_given : (origin : Name) (n : ℕ) (owner : Token) (name : Name) → IsTokenText owner → IsName origin → needed n BadName (inner_name origin owner) ≡ Ok name → IsInside origin name
owner_given origin n owner name b o h = inside_is origin owner name b o (given n BadName (inner_name origin owner) name h)

abbrev Operated : Type 0
Operated = Result Operation (Refused ScriptKind)

operation_is : (origin : Name) (x operation : Operation) → IsSaid origin x → ◌≡◌ {A = Operated} (Ok x) (Ok operation) → IsSaid origin operation
operation_is origin x operation s h = let is : x ≡ operation = cc in subst (IsSaid origin) is s

addition_is : (origin : Name) (n : ℕ) (owner ttl rtype : Token) (rdata : List Token) (operation : Operation) → IsTokenText owner → AllTexts rdata → IsName origin → addition_of origin n owner ttl rtype rdata ≡ Ok operation → IsSaid origin operation
unfolding addition_of
addition_is origin n owner ttl rtype rdata operation b t o h =
    let a = bound (needed n BadName (inner_name origin owner)) _ operation h in
    let c = bound (needed n BadNumber (time_word ttl)) _ operation a.2 in
    let d = bound (needed n BadType (type_word rtype)) _ operation c.2 in
    let e = bound (octets_needed n (data_of origin d.0 rdata)) _ operation d.2 in
    let inner = owner_given origin n owner a.0 b o a.1 in
    let most = time_said ttl c.0 (given n BadNumber (time_word ttl) c.0 c.1) in
    let kind = type_said rtype d.0 (given n BadType (type_word rtype) d.0 d.1) in
    let octets = data_is origin d.0 rdata e.0 t o (octets_given n (data_of origin d.0 rdata) e.0 e.1) in
    operation_is origin (Add (record { owner = a.0; rtype = d.0; ttl = c.0; octets = e.0 })) operation
    (inner, record { owner = inner.name; number = kind.number; kind = kind.kind; time = most; bytes = octets.bytes; short = octets.short; form = octets.form }) e.2

deletion_is : (origin : Name) (n : ℕ) (owner : Token) (rest : List Token) (operation : Operation) → IsTokenText owner → IsName origin → deletion_of origin n owner rest ≡ Ok operation → IsSaid origin operation
unfolding deletion_of
deletion_is origin n owner [] operation b o h =
    let a = bound (needed n BadName (inner_name origin owner)) _ operation h in
    operation_is origin (DeleteName a.0) operation (owner_given origin n owner a.0 b o a.1) a.2
deletion_is origin n owner (rtype ∷ []) operation b o h =
    let a = bound (needed n BadName (inner_name origin owner)) _ operation h in
    let c = bound (needed n BadType (type_word rtype)) _ operation a.2 in
    operation_is origin (DeleteSet a.0 c.0) operation (owner_given origin n owner a.0 b o a.1) c.2
deletion_is origin n owner (rtype ∷ first ∷ rest) operation b o h =
    let a = bound (needed n BadName (inner_name origin owner)) _ operation h in
    let c = bound (needed n BadType (type_word rtype)) _ operation a.2 in
    let d = bound (octets_needed n (data_of origin c.0 (first ∷ rest))) _ operation c.2 in
    operation_is origin (DeleteRecord a.0 c.0 d.0) operation (owner_given origin n owner a.0 b o a.1) d.2

-- ---- scripts

abbrev pub AllCommands : Name → List Command → Type 0
AllCommands origin commands = AllByRecursion (AllAsked origin) commands

abbrev pub AllLists : Name → List (List Command) → Type 0
AllLists origin lists = AllByRecursion (AllCommands origin) lists

-- a script so far
pub record IsScript (origin : Name) (s : Script) : Type 0 where
  pub earlier : AllLists origin s.earlier
  pub commands : AllCommands origin s.commands
  pub block : IsBlock origin s.block

-- a command that is no block asks for no change
lone_asks : (origin : Name) (command : Command) → IsLone command → AllAsked origin command
lone_asks origin (Ask question) lone = tt
lone_asks origin Hold lone = tt
lone_asks origin (AskHeld question) lone = tt
lone_asks origin Release lone = tt
lone_asks origin (Block _ asked ending) lone = absurd lone
lone_asks origin Compact lone = tt

next_is : (origin : Name) (s : Script) (begun : Bool) → IsScript origin s → IsScript origin (next_worker (record s { begun = begun }))
next_is origin s true h = record { earlier = all_push (AllCommands origin) s.earlier s.commands h.earlier h.commands; commands = tt; block = h.block }
next_is origin s false h = record { earlier = h.earlier; commands = h.commands; block = h.block }

-- the operation of a line of octets
operation_said : (origin : Name) (n : ℕ) (phrase : Phrase) (operation : Operation) → IsName origin → IsPhrase phrase → operation_of origin n phrase ≡ Ok operation → IsSaid origin operation
operation_said origin n Worker operation o p e = absurd cc
operation_said origin n (Asks asked) operation o p e = absurd cc
operation_said origin n (AsksWhole asked) operation o p e = absurd cc
operation_said origin n Holds operation o p e = absurd cc
operation_said origin n (AsksHeld asked) operation o p e = absurd cc
operation_said origin n (AsksHeldWhole asked) operation o p e = absurd cc
operation_said origin n Releases operation o p e = absurd cc
operation_said origin n (Opens _) operation o p e = absurd cc
operation_said origin n (Needs wanted owner rtype) operation o p e = absurd cc
operation_said origin n (Adds owner ttl rtype rdata) operation o p e = addition_is origin n owner ttl rtype rdata operation p.0 p.1 o e
operation_said origin n (Deletes owner rest) operation o p e = deletion_is origin n owner rest operation p o e
operation_said origin n (Ends ending) operation o p e = absurd cc
operation_said origin n Compacts operation o p e = absurd cc

on_line : (origin : Name) (n : ℕ) (line : List ℕ) (phrase : Phrase) (operation : Operation) → IsName origin → AllOctets line → IsOn origin n line phrase → operation_of origin n phrase ≡ Ok operation → IsSaid origin operation
on_line origin n line phrase operation o l on e = operation_said origin n phrase operation o (phrase_is origin on.tokens phrase (tokens_are n line on.tokens l on.scanned) on.said) e

kept : (origin : Name) → IsName origin → IsKept origin AllOctets (IsScript origin)
kept origin o = record {
  worker = λ s h _ _. next_is origin (free s) s.begun h;
  command = λ s command h _ lone. record { earlier = h.earlier; commands = all_push (AllAsked origin) s.commands command h.commands (lone_asks origin command lone); block = tt };
  opens = λ _ _ _ h _. record { earlier = h.earlier; commands = h.commands; block = tt };
  need = λ _ _ _ h. record { earlier = h.earlier; commands = h.commands; block = h.block };
  operation = λ n line phrase b _ operation l on e h _. record {
    earlier = h.earlier;
    commands = h.commands;
    block = all_push (IsSaid origin) b.asked.operations operation h.block (on_line origin n line phrase operation o l on e);
  };
  block = λ b s ending h. record { earlier = h.earlier; commands = all_push (AllAsked origin) s.commands (Block b.weight b.asked ending) h.commands h.block; block = tt };
}

-- ---- one line

pub line_asks : (origin : Name) (n : ℕ) (line : List ℕ) (s next : Script) → IsName origin → AllOctets line → IsScript origin s → script_line origin n line s ≡ Ok next → IsScript origin next
line_asks origin n line s next o l = line_taken origin AllOctets (IsScript origin) (kept origin o) n line s next l

-- ---- the whole

pub scripts_ask : (origin : Name) (n : ℕ) (lines : List (List ℕ)) (workers : List (List Command)) → IsName origin → AllByRecursion AllOctets lines → script_of origin n lines ≡ Ok workers → AllLists origin workers
scripts_ask origin n lines workers o l e =
    let whole = script_whole origin AllOctets (IsScript origin) (kept origin o) (record { earlier = tt; commands = tt; block = tt }) n lines workers l e in
    subst (AllLists origin) (sym whole.lists) (all_push (AllCommands origin) whole.script.earlier whole.script.commands whole.fact.earlier whole.fact.commands)

pub lists_ask : (origin : Name) (n : ℕ) (lines : List (List ℕ)) (commands : List Command) → IsName origin → AllByRecursion AllOctets lines → list_of origin n lines ≡ Ok commands → AllCommands origin commands
lists_ask origin n lines commands o l e =
    let whole = list_whole origin AllOctets (IsScript origin) (kept origin o) (record { earlier = tt; commands = tt; block = tt }) n lines commands l e in
    subst (AllCommands origin) (sym whole.list) whole.fact.commands

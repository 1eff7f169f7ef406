-- What workers are told by a script over zones.
use Rattle.std.proofs.Common.{◌≡◌, ◌∙◌, ℕ, ◌+◌, ◌<◌, ◌≤◌, Bool, true, false, cond, List, [], ◌∷◌, ◌++◌, length, get_or, Option, Some, None, Result, Ok, Err, refl, sym, ap, subst, arith, length-append, ltb-true, append-nil, append_assoc}
use Rattle.std.specs.Prelude.{nat_lt, position, slice_get, codes}
use Rattle.std.specs.List.{AllByRecursion}
use Rattle.std.proofs.lemmas.List.Quantifiers.{position-Some}
use Rattle.std.proofs.lemmas.Option.{gets}
use Rattle.std.proofs.lemmas.Grind.{common_steps}
use Rattle.zone_model.specs.Names.{Name, same_name}
use Rattle.zone_model.proofs.NameLemmas.{same_name-true}
use Rattle.zone_model.specs.MasterFile.{name_word, type_word}
use Rattle.zone_model.specs.Refusals.{Refused, ◌>>=◌}
use Rattle.zone_model.specs.Tokens.{Token}
use Rattle.job_model.specs.declared.Weight.{Weight}
use Rattle.job_model.specs.declared.ScriptKind.{ScriptKind}
use Rattle.job_model.specs.declared.ScriptKind.TheVariants.{NoWorker, BadName, BadType, TooMany}
use Rattle.job_model.specs.Commands as alone
use Rattle.job_model.specs.Phrases.{script_tokens}
use Rattle.job_model.specs.Arguments.{refuse, needed}
use Rattle.job_model.specs.Jobs as jobs
use Rattle.job_model.specs.Jobs.{worker_limit, command_limit}
use Rattle.zones_model.specs.Commands.{Command, Get, Block, Attach, Detach}
use Rattle.zones_script.specs.Phrases.{Phrase, Worker, Gets, Opens, Attaches, Detaches, phrase_of}
use Rattle.zones_script.specs.Scripts.{Chosen, OpenBlock, Script, lists_of, chosen, question_of, has_room, with_command, opened, next_worker, outside, taken, tokens_say, in_zone, goes_on, inside, by_block, script_line, script_from, finished, no_lines, script_of}
use Rattle.zones_script.specs.Told.{opening, IsBlockOf, IsTold, IsList, AreLists}
use Rattle.zones_script.proofs.AloneLemmas as block
use Rattle.zones_script.proofs.AloneLemmas.{IsBlock, IsOpen, IsBegun, IsFirst, line_kept, lines_more, opens}

all-push : {X : Type 0} (P : X → Type 0) (xs : List X) (x : X) → AllByRecursion P xs → P x → AllByRecursion P (xs ++ x ∷ [])
all-push P [] x all here = (here, tt)
all-push P (y ∷ xs) x all here = (all.0, all-push P xs x all.1 here)

all-map : {X : Type 0} (P Q : X → Type 0) (xs : List X) → ((x : X) → P x → Q x) → AllByRecursion P xs → AllByRecursion Q xs
all-map P Q [] f all = tt
all-map P Q (x ∷ xs) f all = (f x all.0, all-map P Q xs f all.1)

-- ---- what was told stays so where a line more is read

told_on : (origins : List Name) (lines : List (List ℕ)) (line : List ℕ) (command : Command) → IsTold origins lines command → IsTold origins (lines ++ line ∷ []) command
told_on origins lines line (Get name rtype) told = tt
told_on origins lines line (Attach zone) told = told
told_on origins lines line (Detach zone) told = told
told_on origins lines line (Block zone _ asked ending) told = record {
  origin = told.origin;
  of_zone = told.of_zone;
  before = told.before;
  own = told.own;
  behind = told.behind ++ line ∷ [];
  in_row = ap (λ (l : List (List ℕ)). l ++ line ∷ []) told.in_row ∙ append_assoc told.before (told.own ++ told.behind) (line ∷ []) ∙ ap (λ (l : List (List ℕ)). told.before ++ l) (append_assoc told.own told.behind (line ∷ []));
  start = told.start;
  said = told.said;
}

list_on : (origins : List Name) (lines : List (List ℕ)) (line : List ℕ) (list : List Command) → IsList origins lines list → IsList origins (lines ++ line ∷ []) list
list_on origins lines line list is = record { few = is.few; each = all-map (IsTold origins lines) (IsTold origins (lines ++ line ∷ [])) list (told_on origins lines line) is.each }

-- ---- what holds of a script so far

-- the workers before the last one, and whether one began
abbrev FewWorkers : Bool → List (List Command) → Type 0
FewWorkers true earlier = length earlier + 1 ≤ worker_limit
FewWorkers false earlier = earlier ≡ []

-- a block that is open behind some lines, the last of which has a number
record IsOpenIn (origins : List Name) (lines : List (List ℕ)) (last : ℕ) (b : OpenBlock) : Type 0 where
  weight : Weight
  of_zone : slice_get origins b.chosen.zone ≡ Some b.chosen.origin
  before : List (List ℕ)
  own : List (List ℕ)
  in_row : lines ≡ before ++ own
  start : ℕ
  here : last ≡ start + 1 + length own
  so_far : jobs.script_from b.chosen.origin (start + 1 + 1) own (jobs.opened (start + 1) weight (record jobs.no_lines { begun = true })) ≡ Ok b.alone
  open_block : IsOpen weight b.alone.block b.alone.commands
  first : IsFirst b.alone

-- the worker has room for the block that is open
abbrev HasRoom : List Name → List (List ℕ) → ℕ → Option OpenBlock → List Command → Type 0
HasRoom origins lines last None commands = length commands ≤ command_limit
HasRoom origins lines last (Some b) commands = (length commands < command_limit) × IsOpenIn origins lines last b

record IsSound (origins : List Name) (lines : List (List ℕ)) (last : ℕ) (lists : List (List Command)) (is_begun : Bool) (list : List Command) (block : Option OpenBlock) : Type 0 where
  few : FewWorkers is_begun lists
  earlier : AllByRecursion (IsList origins lines) lists
  commands : AllByRecursion (IsTold origins lines) list
  room : HasRoom origins lines last block list

abbrev Kept : List Name → List (List ℕ) → ℕ → Result Script (Refused ScriptKind) → Type 0
Kept origins lines last (Ok s) = IsSound origins lines last s.earlier s.begun s.commands s.block
Kept origins lines last (Err e) = Unit {0}

if_kept : (origins : List Name) (lines : List (List ℕ)) (last : ℕ) (b : Bool) (x y : Result Script (Refused ScriptKind)) → (b ≡ true → Kept origins lines last x) → Kept origins lines last y → Kept origins lines last (cond b x y)
if_kept origins lines last true x y p q = p refl
if_kept origins lines last false x y p q = q

bind_kept : {A : Type 0} (origins : List Name) (lines : List (List ℕ)) (last : ℕ) (r : Result A (Refused ScriptKind)) (f : A → Result Script (Refused ScriptKind)) → ((x : A) → r ≡ Ok x → Kept origins lines last (f x)) → Kept origins lines last (r >>= f)
bind_kept origins lines last (Ok x) f k = k x refl
bind_kept origins lines last (Err e) f k = tt

-- ---- a line outside a block

-- a zone that is chosen is there, with its origin
abbrev IsThere : List Name → Chosen → Type 0
IsThere origins c = slice_get origins c.zone ≡ Some c.origin

get_there : (origins : List Name) (k : ℕ) (name : Name) → k < length origins → get_or origins k [] ≡ name → slice_get origins k ≡ Some name
get_there origins k name lt e = grind (arith, common_steps, gets)

there_below : (origins : List Name) (k : ℕ) (name : Name) → slice_get origins k ≡ Some name → k < length origins
there_below origins k name e = grind (arith, common_steps, gets)

chosen_in : (origins : List Name) (n : ℕ) (word : Token) (c : Chosen) → chosen origins n word ≡ Ok c → IsThere origins c
unfolding chosen
chosen_in origins n word c h = by_name (name_word [] word) h
  where
    by_zone : (name : Name) (zone : Option ℕ) → position (λ origin. same_name origin name) origins ≡ zone → needed n BadName zone >>= (λ z. Ok (record { zone = z; origin = name })) ≡ Ok c → IsThere origins c
    by_zone name None e h = absurd cc
    by_zone name (Some z) e h =
        let same : (record { zone = z; origin = name }) ≡ c = cc in
        let at = position-Some (λ origin. same_name origin name) origins z [] e in
        subst (IsThere origins) same (get_there origins z name at.0 (same_name-true (get_or origins z []) name at.1))

    by_name : (name : Option Name) → needed n BadName name >>= (λ q. needed n BadName (position (λ origin. same_name origin q) origins) >>= (λ z. Ok (record { zone = z; origin = q }))) ≡ Ok c → IsThere origins c
    by_name None h = absurd cc
    by_name (Some name) h = by_zone name (position (λ origin. same_name origin name) origins) refl h

asked_in : (origins : List Name) (lines : List (List ℕ)) (n : ℕ) (name rtype : Token) (command : Command) → question_of n name rtype ≡ Ok command → IsTold origins lines command
unfolding question_of
asked_in origins lines n name rtype command h = by_words (name_word [] name) (type_word rtype) h
  where
    by_words : (q : Option Name) (t : Option ℕ) → needed n BadName q >>= (λ q. needed n BadType t >>= (λ t. Ok (Get q t))) ≡ Ok command → IsTold origins lines command
    by_words None t h = absurd cc
    by_words (Some q) None h = absurd cc
    by_words (Some q) (Some t) h = let same : Get q t ≡ command = cc in subst (IsTold origins lines) same tt

abbrev room_for : ℕ → Bool → Bool → Result (Unit {0}) (Refused ScriptKind)
room_for n b room = cond b (cond room (Ok tt) (refuse n (TooMany command_limit))) (refuse n NoWorker)

room_kept : (origins : List Name) (lines : List (List ℕ)) (last n : ℕ) (s : Script) (next : Result Script (Refused ScriptKind))
    → (length s.commands < command_limit → Kept origins lines last next) → Kept origins lines last (has_room n s >>= (λ _. next))
unfolding has_room
room_kept origins lines last n s next k = by_room s.begun (nat_lt (length s.commands) command_limit) refl
  where
    by_room : (b room : Bool) → nat_lt (length s.commands) command_limit ≡ room → Kept origins lines last (room_for n b room >>= (λ _. next))
    by_room false room e = tt
    by_room true false e = tt
    by_room true true e = k (ltb-true (length s.commands) command_limit e)

-- so is a command of a zone
zone_kept : (origins : List Name) (lines : List (List ℕ)) (last n : ℕ) (s : Script) (word : Token) (f : Chosen → Result Script (Refused ScriptKind))
    → ((zone : Chosen) → IsThere origins zone → length s.commands < command_limit → Kept origins lines last (f zone))
    → Kept origins lines last (has_room n s >>= (λ _. chosen origins n word >>= f))
zone_kept origins lines last n s word f k =
    room_kept origins lines last n s (chosen origins n word >>= f)
    (λ room. bind_kept origins lines last (chosen origins n word) f (λ zone is. k zone (chosen_in origins n word zone is) room))

-- a script in which no block is open
abbrev free : Script → Script
free s = record s { block = None }

abbrev IsFree : List Name → List (List ℕ) → ℕ → Script → Type 0
IsFree origins lines last s = IsSound origins lines last s.earlier s.begun s.commands None

command_kept : (origins : List Name) (lines : List (List ℕ)) (last : ℕ) (s : Script) (command : Command) → IsFree origins lines last s → IsTold origins lines command → length s.commands < command_limit → Kept origins lines last (with_command (free s) command)
command_kept origins lines last s command sound here room = record {
  few = sound.few;
  earlier = sound.earlier;
  commands = all-push (IsTold origins lines) s.commands command sound.commands here;
  room = omega (arith, room, length-append s.commands (command ∷ []));
}

next_kept : (origins : List Name) (lines : List (List ℕ)) (last : ℕ) (s : Script) (is_begun : Bool) → IsSound origins lines last s.earlier is_begun s.commands None → nat_lt (length (lists_of (record s { begun = is_begun }))) worker_limit ≡ true → Kept origins lines last (Ok (next_worker (record s { begun = is_begun; block = None })))
next_kept origins lines last s true sound room = record {
  few = (let l : length (s.earlier ++ s.commands ∷ []) + 1 ≤ worker_limit = omega (arith, ltb-true (length (s.earlier ++ s.commands ∷ [])) worker_limit room) in l);
  earlier = all-push (IsList origins lines) s.earlier s.commands sound.earlier (record { few = sound.room; each = sound.commands });
  commands = tt;
  room = omega arith;
}
next_kept origins lines last s false sound room = record {
  few = (let none : length s.earlier ≡ 0 = ap (λ (l : List (List Command)). length l) sound.few in omega (arith, none));
  earlier = sound.earlier;
  commands = sound.commands;
  room = sound.room;
}

-- a block that begins
open_here : (origins : List Name) (lines : List (List ℕ)) (last : ℕ) (w : Weight) (zone : Chosen) → IsThere origins zone
    → IsOpenIn origins lines (last + 1) (record { chosen = zone; alone = jobs.opened (last + 1) w (record jobs.no_lines { begun = true }) })
unfolding jobs.script_from
open_here origins lines last w zone there = record {
  weight = w;
  of_zone = there;
  before = lines;
  own = [];
  in_row = sym (append-nil lines);
  start = last;
  here = omega arith;
  so_far = refl;
  open_block = (refl, refl);
  first = record { begun = refl; earlier = refl };
}

-- line last + 1, which is the last of the lines
outside_kept : (origins : List Name) (lines : List (List ℕ)) (last : ℕ) (phrase : Phrase) (s : Script) → IsFree origins lines (last + 1) s → Kept origins lines (last + 1) (outside origins (last + 1) phrase (free s))
outside_kept origins lines last Worker s sound =
    if_kept origins lines (last + 1) (nat_lt (length (lists_of s)) worker_limit) (Ok (next_worker (free s))) (refuse (last + 1) (TooMany worker_limit)) (λ room. next_kept origins lines (last + 1) s s.begun sound room) tt
outside_kept origins lines last (Gets name rtype) s sound =
    room_kept origins lines (last + 1) (last + 1) (free s) (question_of (last + 1) name rtype >>= with_command (free s))
    (λ room. bind_kept origins lines (last + 1) (question_of (last + 1) name rtype) (with_command (free s))
    (λ command is. command_kept origins lines (last + 1) s command sound (asked_in origins lines (last + 1) name rtype command is) room))
outside_kept origins lines last (Opens weight origin) s sound =
    zone_kept origins lines (last + 1) (last + 1) (free s) origin (opened (last + 1) weight (free s)) (λ zone there room. record {
      few = sound.few;
      earlier = sound.earlier;
      commands = sound.commands;
      room = (room, open_here origins lines last weight zone there);
    })
outside_kept origins lines last (Attaches origin) s sound =
    zone_kept origins lines (last + 1) (last + 1) (free s) origin (λ zone. with_command (free s) (Attach zone.zone))
    (λ zone there room. command_kept origins lines (last + 1) s (Attach zone.zone) sound (there_below origins zone.zone zone.origin there) room)
outside_kept origins lines last (Detaches origin) s sound =
    zone_kept origins lines (last + 1) (last + 1) (free s) origin (λ zone. with_command (free s) (Detach zone.zone))
    (λ zone there room. command_kept origins lines (last + 1) s (Detach zone.zone) sound (there_below origins zone.zone zone.origin there) room)

tokens_kept : (origins : List Name) (lines : List (List ℕ)) (last : ℕ) (s : Script) (tokens : Option (List Token)) → IsFree origins lines (last + 1) s → Kept origins lines (last + 1) (tokens_say origins (last + 1) (free s) tokens)
tokens_kept origins lines last s None sound = tt
tokens_kept origins lines last s (Some []) sound = sound
tokens_kept origins lines last s (Some (t ∷ tokens)) sound = by_phrase (phrase_of (t ∷ tokens))
  where
    by_phrase : (p : Option Phrase) → Kept origins lines (last + 1) (taken origins (last + 1) (free s) p)
    by_phrase None = tt
    by_phrase (Some phrase) = outside_kept origins lines last phrase s sound

free_on : (origins : List Name) (lines : List (List ℕ)) (line : List ℕ) (last : ℕ) (s : Script) → IsFree origins lines last s → IsFree origins (lines ++ line ∷ []) (last + 1) s
free_on origins lines line last s sound = record {
  few = sound.few;
  earlier = all-map (IsList origins lines) (IsList origins (lines ++ line ∷ [])) s.earlier (list_on origins lines line) sound.earlier;
  commands = all-map (IsTold origins lines) (IsTold origins (lines ++ line ∷ [])) s.commands (told_on origins lines line) sound.commands;
  room = sound.room;
}

-- ---- a line inside a block

-- a script alone that has come to commands of its one worker
alone_ends : (k : ℕ) (s : jobs.Script) (commands : List alone.Command) → IsFirst s → s.commands ≡ commands → jobs.finished k (record s { block = None }) ≡ Ok (commands ∷ [])
alone_ends k s commands first is =
    ap (λ (b : Bool). cond b (Ok (cond b (s.earlier ++ s.commands ∷ []) [])) (refuse k NoWorker)) first.begun
    ∙ ap (λ (e : List (List alone.Command)). Ok (e ++ s.commands ∷ [])) first.earlier
    ∙ ap (λ (c : List alone.Command). Ok (c ∷ [])) is

-- the lines of an open block with one more
line_joins : (origins : List Name) (lines : List (List ℕ)) (line : List ℕ) (last : ℕ) (b : OpenBlock) (o : IsOpenIn origins lines last b) (after : jobs.Script) → jobs.script_line b.chosen.origin (last + 1) line b.alone ≡ Ok after
    → jobs.script_from b.chosen.origin (o.start + 1 + 1) (o.own ++ line ∷ []) (jobs.opened (o.start + 1) o.weight (record jobs.no_lines { begun = true })) ≡ Ok after
unfolding jobs.script_from
line_joins origins lines line last b o after h =
    let origin = b.chosen.origin in
    let here : o.start + 1 + 1 + length o.own ≡ last + 1 = omega (arith, o.here) in
    lines_more origin (o.start + 1 + 1) o.own (line ∷ []) (jobs.opened (o.start + 1) o.weight (record jobs.no_lines { begun = true })) b.alone o.so_far
    ∙ ap (λ (k : ℕ). jobs.script_line origin k line b.alone >>= jobs.script_from origin (k + 1) []) here
    ∙ ap (λ (r : Result jobs.Script (Refused ScriptKind)). r >>= jobs.script_from origin (last + 1 + 1) []) h

block_told : (origins : List Name) (lines : List (List ℕ)) (line : List ℕ) (last : ℕ) (b : OpenBlock) (o : IsOpenIn origins lines last b) (after : jobs.Script) → jobs.script_line b.chosen.origin (last + 1) line b.alone ≡ Ok (record after { block = None })
    → IsFirst after → (e : IsBlock o.weight after.commands) → IsBlockOf origins (lines ++ line ∷ []) b.chosen.zone o.weight e.asked e.ending
unfolding jobs.script_of
block_told origins lines line last b o after h first e =
    let origin = b.chosen.origin in
    let own = o.own ++ line ∷ [] in
    let count = o.start + length (codes "worker" ∷ opening o.weight ∷ own) in
    record {
      origin = origin;
      of_zone = o.of_zone;
      before = o.before;
      own = own;
      behind = [];
      in_row = ap (λ (l : List (List ℕ)). l ++ line ∷ []) o.in_row ∙ append_assoc o.before o.own (line ∷ []) ∙ ap (λ (l : List (List ℕ)). o.before ++ l) (sym (append-nil own));
      start = o.start;
      said = ap (λ (r : Result jobs.Script (Refused ScriptKind)). r >>= jobs.finished count) (opens origin o.start o.weight own ∙ line_joins origins lines line last b o (record after { block = None }) h)
          ∙ alone_ends count after (alone.Block o.weight e.asked e.ending ∷ []) first e.is;
    }

ended_kept : (origins : List Name) (lines : List (List ℕ)) (line : List ℕ) (last : ℕ) (s : Script) (b : OpenBlock) (sound : IsSound origins lines last s.earlier s.begun s.commands (Some b)) (after : jobs.Script)
    → jobs.script_line b.chosen.origin (last + 1) line b.alone ≡ Ok (record after { block = None }) → IsFirst after → IsBlock sound.room.1.weight after.commands
    → IsSound origins (lines ++ line ∷ []) (last + 1) s.earlier s.begun (s.commands ++ in_zone b.chosen.zone after.commands) None
ended_kept origins lines line last s b sound after h first ended =
    let o = sound.room.1 in
    let command = Block b.chosen.zone o.weight ended.asked ended.ending in
    let one : in_zone b.chosen.zone after.commands ≡ command ∷ [] = ap (in_zone b.chosen.zone) ended.is in
    subst (λ (l : List Command). IsSound origins (lines ++ line ∷ []) (last + 1) s.earlier s.begun (s.commands ++ l) None) (sym one)
    (record {
      few = sound.few;
      earlier = all-map (IsList origins lines) (IsList origins (lines ++ line ∷ [])) s.earlier (list_on origins lines line) sound.earlier;
      commands = all-push (IsTold origins (lines ++ line ∷ [])) s.commands command (all-map (IsTold origins lines) (IsTold origins (lines ++ line ∷ [])) s.commands (told_on origins lines line) sound.commands) (block_told origins lines line last b o after h first ended);
      room = omega (arith, sound.room.0, length-append s.commands (command ∷ []));
    })

on_kept : (origins : List Name) (lines : List (List ℕ)) (line : List ℕ) (last : ℕ) (s : Script) (b : OpenBlock) (sound : IsSound origins lines last s.earlier s.begun s.commands (Some b)) (after : jobs.Script) (block : Option jobs.Unfinished)
    → jobs.script_line b.chosen.origin (last + 1) line b.alone ≡ Ok (record after { block = block }) → IsFirst after → IsBegun sound.room.1.weight block after.commands
    → Kept origins (lines ++ line ∷ []) (last + 1) (Ok (goes_on b s (record after { block = block })))
on_kept origins lines line last s b sound after None h first begun = ended_kept origins lines line last s b sound after h first begun
on_kept origins lines line last s b sound after (Some u) h first begun =
    let o = sound.room.1 in
    record {
      few = sound.few;
      earlier = all-map (IsList origins lines) (IsList origins (lines ++ line ∷ [])) s.earlier (list_on origins lines line) sound.earlier;
      commands = all-map (IsTold origins lines) (IsTold origins (lines ++ line ∷ [])) s.commands (told_on origins lines line) sound.commands;
      room = (
        sound.room.0,
        record {
          weight = o.weight;
          of_zone = o.of_zone;
          before = o.before;
          own = o.own ++ line ∷ [];
          in_row = ap (λ (l : List (List ℕ)). l ++ line ∷ []) o.in_row ∙ append_assoc o.before o.own (line ∷ []);
          start = o.start;
          here = (let e : last + 1 ≡ o.start + 1 + length (o.own ++ line ∷ []) = omega (arith, o.here, length-append o.own (line ∷ [])) in e);
          so_far = line_joins origins lines line last b o (record after { block = Some u }) h;
          open_block = begun;
          first = record { begun = first.begun; earlier = first.earlier };
        },
      );
    }

inside_kept : (origins : List Name) (lines : List (List ℕ)) (line : List ℕ) (last : ℕ) (b : OpenBlock) (s : Script) → IsSound origins lines last s.earlier s.begun s.commands (Some b) → Kept origins (lines ++ line ∷ []) (last + 1) (inside (last + 1) line b s)
inside_kept origins lines line last b s sound =
    by_line (jobs.script_line b.chosen.origin (last + 1) line b.alone) refl (line_kept sound.room.1.weight b.chosen.origin (last + 1) line b.alone sound.room.1.open_block sound.room.1.first)
  where
    by_line : (r : Result jobs.Script (Refused ScriptKind)) → jobs.script_line b.chosen.origin (last + 1) line b.alone ≡ r → block.Kept sound.room.1.weight r → Kept origins (lines ++ line ∷ []) (last + 1) (r >>= (λ after. Ok (goes_on b s after)))
    by_line (Ok after) h kept = on_kept origins lines line last s b sound after after.block h kept.1 kept.0
    by_line (Err e) h kept = tt

-- ---- the lines

block_kept : (origins : List Name) (lines : List (List ℕ)) (line : List ℕ) (last : ℕ) (s : Script) (block : Option OpenBlock) → IsSound origins lines last s.earlier s.begun s.commands block
    → Kept origins (lines ++ line ∷ []) (last + 1) (by_block origins (last + 1) line (record s { block = block }) block)
block_kept origins lines line last s None sound = tokens_kept origins (lines ++ line ∷ []) last s (script_tokens (last + 1) line) (free_on origins lines line last s sound)
block_kept origins lines line last s (Some b) sound = inside_kept origins lines line last b (record s { block = Some b }) sound

-- all lines: those that were read, and those that are left
lines_kept : (origins : List Name) (read left : List (List ℕ)) (last : ℕ) (s : Script) → IsSound origins read last s.earlier s.begun s.commands s.block
    → (end : ℕ) → end ≡ last + length left → Kept origins (read ++ left) end (script_from origins (last + 1) left s)
unfolding script_from script_line
lines_kept origins read [] last s sound end is =
    let here : last ≡ end = omega (arith, is) in
    subst (λ (l : List (List ℕ)). IsSound origins l end s.earlier s.begun s.commands s.block) (sym (append-nil read)) (subst (λ (k : ℕ). IsSound origins read k s.earlier s.begun s.commands s.block) here sound)
lines_kept origins read (line ∷ left) last s sound end is =
    let count : end ≡ last + 1 + length left = omega (arith, is) in
    subst (λ (l : List (List ℕ)). Kept origins l end (by_block origins (last + 1) line s s.block >>= script_from origins (last + 1 + 1) left)) (append_assoc read (line ∷ []) left)
    (on_from (by_block origins (last + 1) line s s.block) (block_kept origins read line last s s.block sound) (λ next kept. lines_kept origins (read ++ line ∷ []) left (last + 1) next kept end count))
  where
    on_from : (r : Result Script (Refused ScriptKind)) → Kept origins (read ++ line ∷ []) (last + 1) r
        → ((next : Script) → IsSound origins (read ++ line ∷ []) (last + 1) next.earlier next.begun next.commands next.block → Kept origins ((read ++ line ∷ []) ++ left) end (script_from origins (last + 1 + 1) left next))
        → Kept origins ((read ++ line ∷ []) ++ left) end (r >>= script_from origins (last + 1 + 1) left)
    on_from (Ok next) kept more = more next kept
    on_from (Err e) kept more = tt

-- ---- the end

end_lists : (origins : List Name) (lines : List (List ℕ)) (last n : ℕ) (s : Script) (is_begun : Bool) (workers : List (List Command)) → IsSound origins lines last s.earlier is_begun s.commands None
    → cond is_begun (Ok (lists_of (record s { begun = is_begun }))) (refuse n NoWorker) ≡ Ok workers → AreLists origins lines workers
end_lists origins lines last n s false workers sound h = absurd cc
end_lists origins lines last n s true workers sound h =
    let same : s.earlier ++ s.commands ∷ [] ≡ workers = cc in
    subst (AreLists origins lines) same (record {
      some = omega (arith, length-append s.earlier (s.commands ∷ []));
      few = (let few : length s.earlier + 1 ≤ worker_limit = sound.few in omega (arith, length-append s.earlier (s.commands ∷ [])));
      each = all-push (IsList origins lines) s.earlier s.commands sound.earlier (record { few = sound.room; each = sound.commands });
    })

still_open : (w : Weight) (block : Option jobs.Unfinished) (commands : List alone.Command) (next : Result (List (List Command)) (Refused ScriptKind)) (workers : List (List Command)) → IsOpen w block commands → jobs.while_closed block next ≡ Ok workers → ⊥
still_open w None commands next workers here h = here
still_open w (Some b) commands next workers here h = cc

end_closed : (origins : List Name) (lines : List (List ℕ)) (last n : ℕ) (s : Script) (block : Option OpenBlock) (workers : List (List Command)) → IsSound origins lines last s.earlier s.begun s.commands block → finished n (record s { block = block }) ≡ Ok workers → AreLists origins lines workers
end_closed origins lines last n s None workers sound h = end_lists origins lines last n s s.begun workers sound h
end_closed origins lines last n s (Some b) workers sound h =
    absurd (still_open sound.room.1.weight b.alone.block b.alone.commands (cond s.begun (Ok (lists_of s)) (refuse n NoWorker)) workers sound.room.1.open_block h)

pub workers_told : (origins : List Name) (n : ℕ) (lines : List (List ℕ)) (workers : List (List Command)) → script_of origins (n + 1) lines ≡ Ok workers → AreLists origins lines workers
unfolding script_of
workers_told origins n lines workers h =
    by_lines (script_from origins (n + 1) lines no_lines) (lines_kept origins [] lines n no_lines (record { few = refl; earlier = tt; commands = tt; room = omega arith }) (n + length lines) refl) h
  where
    by_lines : (r : Result Script (Refused ScriptKind)) → Kept origins lines (n + length lines) r → r >>= finished (n + 1 + length lines) ≡ Ok workers → AreLists origins lines workers
    by_lines (Ok s) kept h = end_closed origins lines (n + length lines) (n + 1 + length lines) s s.block workers kept h
    by_lines (Err e) kept h = absurd cc

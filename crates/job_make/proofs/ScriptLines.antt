-- The lines of a made load's script say commands.
use Rattle.std.proofs.Common.{◌≡◌, ◌∙◌, ℕ, zero, suc, ◌+◌, ◌*◌, ◌/◌, ◌%◌, ◌^◌, ◌<◌, ◌≤◌, Bool, true, false, cond, ◌||◌, eqb, ltb, List, [], ◌∷◌, ◌++◌, length, refl, sym, ap, subst, arith, Some, None, Ok, append_assoc, append-nil, length-append, codes, inl, inr}
use Rattle.std.proofs.Math.Nat.{add-mul-mod_self_left}
use Rattle.std.proofs.lemmas.Nat.{mod-mul-add}
use Rattle.std.proofs.lemmas.Bool.{cases_eq, and_parts}
use Rattle.std.proofs.lemmas.Bool.Decides.{nat_tests}
use Rattle.std.proofs.lemmas.Fmt.{decimal_digit, decimal_nonempty, decimal_step, length-decimal-le}
use Rattle.std.specs.List.{AllByRecursion, list_all}
use Rattle.std.specs.Char.{is_ascii_digit, to_ascii_lowercase}
use Rattle.std.specs.Fmt.{decimal}
use Rattle.zone_model.specs.Names.{Name, is_under, same_name, wire}
use Rattle.zone_model.specs.NameText.{completed, fitting, labels_from, name_of, pieces_from}
use Rattle.zone_model.specs.Refusals.{◌>>=◌}
use Rattle.zone_model.specs.Grammar.{Token, stops_word, Spells}
use Rattle.zone_model.specs.Data.{data_of, read_fields}
use Rattle.zone_model.specs.Texts.{address, digits_from, number}
use Rattle.zone_model.specs.Versions.{Operation, Add, DeleteName, DeleteSet}
use Rattle.zone_model.specs.Transactions.{Transaction, no_changes}
use Rattle.zone_model.specs.DataText as print
use Rattle.zone_model.specs.DataWords.{groups, time_of, type_named}
use Rattle.zone_model.proofs.GrammarLemmas.{line_is}
use Rattle.zone_model.proofs.NameLemmas.{same_name-true}
use Rattle.zone_model.proofs.OrderLemmas.{ends_under}
use Rattle.zone_model.proofs.SplitLemmas.{IsBytes}
use Rattle.rr_data.proofs.PrintedLemmas.{decimal_all_digits}
use Rattle.rr_data.proofs.PrintedFieldLemmas.{address_back}
use Rattle.rr_data.proofs.PrintedWordLemmas.{Shows, alphabetic_word, decimal_word, hex_word, shows_append, shows_one}
use Rattle.rr_data.proofs.PrintedDataLemmas.{plain, spell_word, spell_word_then, word}
use Rattle.job_model.specs.declared.Ending.TheVariants.{Commit}
use Rattle.job_model.specs.declared.Listing.TheVariants.{ByWorker}
use Rattle.job_model.specs.declared.Weight.{Weight}
use Rattle.job_model.specs.declared.Weight.TheVariants.{Light, Heavy}
use Rattle.job_model.specs.declared.Question.TheVariants.{Get, Find}
use Rattle.job_model.specs.Commands.{Command, Ask, Block}
use Rattle.job_model.specs.Questions.{asked_of}
use Rattle.job_model.specs.Phrases.{phrase_of, without_parens}
use Rattle.job_model.specs.Arguments.{addition_of, deletion_of}
use Rattle.job_model.specs.Jobs.{Script, Unfinished, finished, no_lines, script_from, script_line, script_of, tokens_say}
use Rattle.job_model.specs.Loads.{Finds, Gets, Load, Moves, Part, Removes, Turn, address_text, drawn, made_origin, name_text, next_state, part_of, share, state_behind, turn_from, turn_lines, turn_of, turns_from, turns_of, worker_state, workers_from}
use Rattle.dns_name.proofs.BodyLemmas.{all_push}
use Rattle.report_laws.specs.Apart.{changes}
use Rattle.job_make.proofs.SizeLemmas.{IsWithin, share_le, small_name}

-- ---- a name's word

digit_lower : (c : ℕ) → is_ascii_digit c ≡ true → to_ascii_lowercase c ≡ c
digit_lower c h = grind (arith, nat_tests)

digit_no_dot : (c : ℕ) → is_ascii_digit c ≡ true → eqb c 46 ≡ false
digit_no_dot c h = grind (arith, nat_tests)

digit_no_escape : (c : ℕ) → is_ascii_digit c ≡ true → eqb c 92 ≡ false
digit_no_escape c h = grind (arith, nat_tests)

-- digits go on with a label
digits_label : (label digits : List ℕ) (at : ℕ) → 0 < length label → length label + length digits ≤ 63 → list_all is_ascii_digit digits ≡ true → labels_from label (pieces_from 0 at digits) ≡ Ok ((label ++ digits) ∷ [], false)
unfolding labels_from pieces_from
digits_label label [] at some short h =
    let e : eqb (length label) 0 ≡ false = grind arith in
    rw e (ap (λ (l : List ℕ). Ok (l ∷ [], false)) (sym (append-nil label)))
digits_label label (c ∷ digits) at some short h =
    let g = and_parts (is_ascii_digit c) (list_all is_ascii_digit digits) h in
    let full : eqb (length label) 63 ≡ false = grind arith in
    let long : length (label ++ c ∷ []) ≡ length label + 1 = length-append label (c ∷ []) in
    rw (digit_no_dot c g.0) (rw (digit_no_escape c g.0) (rw (digit_lower c g.0) (rw full
    (digits_label (label ++ c ∷ []) digits (at + 1) (omega arith) (omega arith) g.1 ∙ ap (λ (l : List ℕ). Ok (l ∷ [], false)) (append_assoc label (c ∷ []) digits)))))

-- a name of a load is read as one label in front of the origin
name_from : (digits : List ℕ) → 0 < length digits → length digits ≤ 6 → list_all is_ascii_digit digits ≡ true → name_of (110 ∷ digits) made_origin ≡ Ok ((110 ∷ digits) ∷ made_origin)
unfolding name_of labels_from pieces_from completed fitting
name_from [] some short h = absurd (omega arith)
name_from (d ∷ digits) some short h =
    let label = digits_label (110 ∷ []) (d ∷ digits) 1 (omega arith) (omega arith) h in
    let long = length-append digits (wire made_origin) in
    let fits : length (wire ((110 ∷ d ∷ digits) ∷ made_origin)) ≤ 255 = omega arith in
    let within : ltb 255 (length (wire ((110 ∷ d ∷ digits) ∷ made_origin))) ≡ false = grind (arith, nat_tests) in
    ap (completed made_origin) label ∙ rw within refl

digits_of : (i : ℕ) → i < 1000000 → (0 < length (decimal i)) × (length (decimal i) ≤ 6) × (list_all is_ascii_digit (decimal i) ≡ true)
digits_of i h =
    let wide : i < 2 ^ 64 = omega arith in
    (decimal_nonempty i wide, length-decimal-le 6 i (omega arith) (omega arith) wide, decimal_all_digits i wide)

-- the owner of a number
abbrev pub owner : ℕ → Name
owner i = name_text i ∷ made_origin

pub name_said : (i : ℕ) → i < 1000000 → name_of (name_text i) made_origin ≡ Ok (owner i)
name_said i h = let d = digits_of i h in name_from (decimal i) d.0 d.1 d.2

-- ---- words of a line

pub name_shows : (i : ℕ) → i < 1000000 → Shows stops_word (name_text i)
name_shows i h = shows_append (shows_one stops_word 110 refl refl) (decimal i) (decimal_word i (omega arith))

pub name_some : (i : ℕ) → 0 < length (name_text i)
name_some i = omega arith

-- a line of words says their tokens
two_words : (n : ℕ) (a b : List ℕ) → 0 < length a → Shows stops_word a → 0 < length b → Shows stops_word b → Spells n [] (a ++ 32 ∷ [] ++ b) (plain (word n a ∷ word n b ∷ []))
two_words n a b la sa lb sb = spell_word_then n a b (word n b ∷ []) la sa.run (spell_word n b lb sb.run)

pub three_words : (n : ℕ) (a b c : List ℕ) → 0 < length a → Shows stops_word a → 0 < length b → Shows stops_word b → 0 < length c → Shows stops_word c → Spells n [] (a ++ 32 ∷ [] ++ (b ++ 32 ∷ [] ++ c)) (plain (word n a ∷ word n b ∷ word n c ∷ []))
three_words n a b c la sa lb sb lc sc = spell_word_then n a (b ++ 32 ∷ [] ++ c) (word n b ∷ word n c ∷ []) la sa.run (two_words n b c lb sb lc sc)

-- a script's line is what its tokens say
tokens_said : (n : ℕ) (text : List ℕ) (tokens : List Token) (s : Script) → Spells n [] text (plain tokens) → script_line made_origin n text s ≡ tokens_say made_origin n s (Some tokens)
unfolding script_line
tokens_said n text tokens s h = ap (λ r. tokens_say made_origin n s (without_parens r)) (line_is n text (plain tokens) h)

-- ---- commands

-- a transaction without prerequisites
abbrev pub asks : List Operation → Transaction
asks operations = record { needs = []; operations = operations }

-- a script between commands, and one in a block
abbrev pub between : List (List Command) → List Command → Script
between earlier commands = record { listing = ByWorker; earlier = earlier; begun = true; commands = commands; held = false; block = None }

abbrev pub inside_block : List (List Command) → List Command → Unfinished → Script
inside_block earlier commands block = record { listing = ByWorker; earlier = earlier; begun = true; commands = commands; held = false; block = Some block }

room_of : (n : ℕ) → n < 10000 → ltb n 10000 ≡ true
room_of n h = grind (arith, nat_tests)

-- ---- the line of a question

regroup : (v s n a : List ℕ) → (v ++ s) ++ ((n ++ s) ++ a) ≡ ((v ++ s) ++ n) ++ (s ++ a)
regroup v s n a = simp append_assoc

-- a word, a name, and the type of addresses
address_spelled : (n i : ℕ) (verb : List ℕ) → 0 < length verb → Shows stops_word verb → i < 1000000 → Spells n [] (verb ++ codes " " ++ name_text i ++ codes " A") (plain (word n verb ∷ word n (name_text i) ∷ word n (codes "A") ∷ []))
address_spelled n i verb some shows h =
    subst (λ (t : List ℕ). Spells n [] t (plain (word n verb ∷ word n (name_text i) ∷ word n (codes "A") ∷ []))) (regroup verb (codes " ") (name_text i) (codes "A"))
    (three_words n verb (name_text i) (codes "A") some shows (name_some i) (name_shows i h) (omega arith) (alphabetic_word (codes "A") refl))

get_line : (n i : ℕ) (es : List (List Command)) (cs : List Command) → i < 1000000 → length cs < 10000 → script_line made_origin n (codes "get " ++ name_text i ++ codes " A") (between es cs) ≡ Ok (between es (cs ++ Ask (Get (owner i) 1) ∷ []))
unfolding phrase_of asked_of type_named
get_line n i es cs h few =
    tokens_said n (codes "get " ++ name_text i ++ codes " A") (word n (codes "get") ∷ word n (name_text i) ∷ word n (codes "A") ∷ []) (between es cs) (address_spelled n i (codes "get") (omega arith) (alphabetic_word (codes "get") refl) h)
    ∙ rw (room_of (length cs) few) (rw (name_said i h) refl)

find_line : (n i : ℕ) (es : List (List Command)) (cs : List Command) → i < 1000000 → length cs < 10000 → script_line made_origin n (codes "find " ++ name_text i) (between es cs) ≡ Ok (between es (cs ++ Ask (Find (owner i)) ∷ []))
unfolding phrase_of asked_of
find_line n i es cs h few =
    tokens_said n (codes "find " ++ name_text i) (word n (codes "find") ∷ word n (name_text i) ∷ []) (between es cs) (two_words n (codes "find") (name_text i) (omega arith) (alphabetic_word (codes "find") refl) (name_some i) (name_shows i h))
    ∙ rw (room_of (length cs) few) (rw (name_said i h) refl)

-- ---- the lines of a block

write_line : (n : ℕ) (es : List (List Command)) (cs : List Command) → length cs < 10000 → script_line made_origin n (codes "write") (between es cs) ≡ Ok (inside_block es cs (record { start = n; weight = Light; asked = no_changes }))
unfolding phrase_of asked_of
write_line n es cs few =
    tokens_said n (codes "write") (word n (codes "write") ∷ []) (between es cs) (spell_word n (codes "write") (omega arith) (alphabetic_word (codes "write") refl).run)
    ∙ rw (room_of (length cs) few) refl

update_line : (n : ℕ) (es : List (List Command)) (cs : List Command) → length cs < 10000 → script_line made_origin n (codes "update") (between es cs) ≡ Ok (inside_block es cs (record { start = n; weight = Heavy; asked = no_changes }))
unfolding phrase_of asked_of
update_line n es cs few =
    tokens_said n (codes "update") (word n (codes "update") ∷ []) (between es cs) (spell_word n (codes "update") (omega arith) (alphabetic_word (codes "update") refl).run)
    ∙ rw (room_of (length cs) few) refl

commit_spelled : (n : ℕ) → Spells n [] (codes "commit") (plain (word n (codes "commit") ∷ []))
commit_spelled n = spell_word n (codes "commit") (omega arith) (alphabetic_word (codes "commit") refl).run

commit_line : (n m : ℕ) (es : List (List Command)) (cs : List Command) (how : Weight) (operations : List Operation) → script_line made_origin n (codes "commit") (inside_block es cs (record { start = m; weight = how; asked = asks operations })) ≡ Ok (between es (cs ++ Block how (asks operations) Commit ∷ []))
unfolding phrase_of asked_of
commit_line n m es cs Light operations = tokens_said n (codes "commit") (word n (codes "commit") ∷ []) (inside_block es cs (record { start = m; weight = Light; asked = asks operations })) (commit_spelled n)
commit_line n m es cs Heavy operations = tokens_said n (codes "commit") (word n (codes "commit") ∷ []) (inside_block es cs (record { start = m; weight = Heavy; asked = asks operations })) (commit_spelled n)

pub owner_under : (i : ℕ) → is_under (owner i) made_origin ≡ true
owner_under i = ends_under (name_text i ∷ []) made_origin

removal_line : (n m i : ℕ) (es : List (List Command)) (cs : List Command) (how : Weight) → i < 1000000 → script_line made_origin n (codes "del " ++ name_text i) (inside_block es cs (record { start = m; weight = how; asked = no_changes })) ≡ Ok (inside_block es cs (record { start = m; weight = how; asked = asks (DeleteName (owner i) ∷ []) }))
unfolding phrase_of asked_of deletion_of
removal_line n m i es cs how h =
    tokens_said n (codes "del " ++ name_text i) (word n (codes "del") ∷ word n (name_text i) ∷ []) (inside_block es cs (record { start = m; weight = how; asked = no_changes }))
    (two_words n (codes "del") (name_text i) (omega arith) (alphabetic_word (codes "del") refl) (name_some i) (name_shows i h))
    ∙ rw (name_said i h) (rw (owner_under i) refl)

del_line : (n m i : ℕ) (es : List (List Command)) (cs : List Command) → i < 1000000 → script_line made_origin n (codes "del " ++ name_text i ++ codes " A") (inside_block es cs (record { start = m; weight = Light; asked = no_changes })) ≡ Ok (inside_block es cs (record { start = m; weight = Light; asked = asks (DeleteSet (owner i) 1 ∷ []) }))
unfolding phrase_of asked_of deletion_of type_named
del_line n m i es cs h =
    tokens_said n (codes "del " ++ name_text i ++ codes " A") (word n (codes "del") ∷ word n (name_text i) ∷ word n (codes "A") ∷ []) (inside_block es cs (record { start = m; weight = Light; asked = no_changes })) (address_spelled n i (codes "del") (omega arith) (alphabetic_word (codes "del") refl) h)
    ∙ rw (name_said i h) (rw (owner_under i) refl)

-- ---- an address

abbrev octets : ℕ → List ℕ
octets c = 10 ∷ (c / 65536 % 256) ∷ (c / 256 % 256) ∷ (c % 256) ∷ []

ten : decimal 10 ≡ codes "10"
ten = decimal_step 10 (omega arith) (omega arith) ∙ ap (λ (l : List ℕ). l ++ 48 ∷ []) (decimal_digit 1 (omega arith))

regroup_address : (t d p q r : List ℕ) → ((((t ++ d) ++ p) ++ d) ++ q) ++ d ++ r ≡ (t ++ d) ++ ((p ++ d) ++ ((q ++ d) ++ r))
regroup_address t d p q r = simp append_assoc

-- the text is that of the octets
address_printed : (c : ℕ) → address_text c ≡ print.address_text (octets c)
address_printed c =
    regroup_address (codes "10") (codes ".") (decimal (c / 65536 % 256)) (decimal (c / 256 % 256)) (decimal (c % 256))
    ∙ ap (λ (t : List ℕ). (t ++ codes ".") ++ ((decimal (c / 65536 % 256) ++ codes ".") ++ ((decimal (c / 256 % 256) ++ codes ".") ++ decimal (c % 256)))) (sym ten)

octets_small : (c : ℕ) → IsBytes (octets c)
octets_small c zero = omega arith
octets_small c (suc zero) = omega arith
octets_small c (suc (suc zero)) = omega arith
octets_small c (suc (suc (suc zero))) = omega arith
octets_small c (suc (suc (suc (suc i)))) = omega arith

address_said : (c : ℕ) → address (address_text c) ≡ Some (octets c)
address_said c = ap address (address_printed c) ∙ address_back (octets c) refl (octets_small c)

pub address_shows : (c : ℕ) → Shows stops_word (address_text c)
address_shows c =
    let dot : Shows stops_word (codes ".") = shows_one stops_word 46 refl refl in
    let front : Shows stops_word (codes "10.") = shows_append (hex_word (codes "10") refl) (codes ".") dot in
    shows_append (shows_append (shows_append (shows_append (shows_append front (decimal (c / 65536 % 256)) (decimal_word (c / 65536 % 256) (omega arith))) (codes ".") dot) (decimal (c / 256 % 256)) (decimal_word (c / 256 % 256) (omega arith))) (codes ".") dot)
    (decimal (c % 256)) (decimal_word (c % 256) (omega arith))

data_said : (n c : ℕ) → data_of made_origin 1 (word n (address_text c) ∷ []) ≡ Ok (octets c)
unfolding data_of read_fields
data_said n c = rw (address_said c) refl

regroup_add : (a s n t x d : List ℕ) → (a ++ s) ++ ((n ++ s) ++ ((t ++ s) ++ ((x ++ s) ++ d))) ≡ (((a ++ s) ++ n) ++ (((s ++ t) ++ s) ++ (x ++ s))) ++ d
regroup_add a s n t x d = simp append_assoc

add_spelled : (n i c : ℕ) → i < 1000000 → Spells n [] (codes "add " ++ name_text i ++ codes " 300 A " ++ address_text c) (plain (word n (codes "add") ∷ word n (name_text i) ∷ word n (codes "300") ∷ word n (codes "A") ∷ word n (address_text c) ∷ []))
add_spelled n i c h =
    subst (λ (t : List ℕ). Spells n [] t (plain (word n (codes "add") ∷ word n (name_text i) ∷ word n (codes "300") ∷ word n (codes "A") ∷ word n (address_text c) ∷ []))) (regroup_add (codes "add") (codes " ") (name_text i) (codes "300") (codes "A") (address_text c))
    (spell_word_then n (codes "add") (name_text i ++ codes " " ++ (codes "300" ++ codes " " ++ (codes "A" ++ codes " " ++ address_text c))) (word n (name_text i) ∷ word n (codes "300") ∷ word n (codes "A") ∷ word n (address_text c) ∷ []) (omega arith) (alphabetic_word (codes "add") refl).run
    (spell_word_then n (name_text i) (codes "300" ++ codes " " ++ (codes "A" ++ codes " " ++ address_text c)) (word n (codes "300") ∷ word n (codes "A") ∷ word n (address_text c) ∷ []) (name_some i) (name_shows i h).run
    (three_words n (codes "300") (codes "A") (address_text c) (omega arith) (hex_word (codes "300") refl) (omega arith) (alphabetic_word (codes "A") refl) (omega arith) (address_shows c))))

add_line : (n m i c : ℕ) (es : List (List Command)) (cs : List Command) → i < 1000000 → script_line made_origin n (codes "add " ++ name_text i ++ codes " 300 A " ++ address_text c) (inside_block es cs (record { start = m; weight = Light; asked = asks (DeleteSet (owner i) 1 ∷ []) }))
    ≡ Ok (inside_block es cs (record { start = m; weight = Light; asked = asks (DeleteSet (owner i) 1 ∷ Add (record { owner = owner i; rtype = 1; ttl = 300; octets = octets c }) ∷ []) }))
unfolding phrase_of asked_of addition_of type_named time_of groups number digits_from
add_line n m i c es cs h =
    tokens_said n (codes "add " ++ name_text i ++ codes " 300 A " ++ address_text c) (word n (codes "add") ∷ word n (name_text i) ∷ word n (codes "300") ∷ word n (codes "A") ∷ word n (address_text c) ∷ [])
    (inside_block es cs (record { start = m; weight = Light; asked = asks (DeleteSet (owner i) 1 ∷ []) })) (add_spelled n i c h)
    ∙ rw (name_said i h) (rw (owner_under i) (rw (data_said n c) refl))

-- ---- lines after lines

step_read : (n : ℕ) (line : List ℕ) (rest : List (List ℕ)) (s next : Script) → script_line made_origin n line s ≡ Ok next → script_from made_origin n (line ∷ rest) s ≡ script_from made_origin (n + 1) rest next
unfolding script_from
step_read n line rest s next e = ap (λ r. r >>= script_from made_origin (n + 1) rest) e

-- lines say so many commands more, each of which is so
pub record Reads (So : Command → Type 0) (n : ℕ) (lines : List (List ℕ)) (earlier : List (List Command)) (before : List Command) (more : ℕ) : Type 0 where
  pub after : List Command
  pub many : length after ≡ length before + more
  pub each : AllByRecursion So before → AllByRecursion So after
  pub read : (rest : List (List ℕ)) → script_from made_origin n (lines ++ rest) (between earlier before) ≡ script_from made_origin (n + length lines) rest (between earlier after)

-- the operations that give a name another address
moved : ℕ → ℕ → List Operation
moved i c = DeleteSet (owner i) 1 ∷ Add (record { owner = owner i; rtype = 1; ttl = 300; octets = octets c }) ∷ []

-- what turns with a name ask for is so
record OfTurns (So : Command → Type 0) (i : ℕ) : Type 0 where
  get : So (Ask (Get (owner i) 1))
  find : So (Ask (Find (owner i)))
  removal : So (Block Heavy (asks (DeleteName (owner i) ∷ [])) Commit)
  move : (c : ℕ) → So (Block Light (asks (moved i c)) Commit)

-- one line that says a command
line_reads : (So : Command → Type 0) (n : ℕ) (line : List ℕ) (command : Command) (es : List (List Command)) (cs : List Command) → So command → script_line made_origin n line (between es cs) ≡ Ok (between es (cs ++ command ∷ [])) → Reads So n (line ∷ []) es cs 1
line_reads So n line command es cs so e = record {
  after = cs ++ command ∷ [];
  many = length-append cs (command ∷ []);
  each = λ all. all_push So cs command all so;
  read = λ rest. step_read n line rest (between es cs) (between es (cs ++ command ∷ [])) e;
}

removal_reads : (So : Command → Type 0) (n i : ℕ) (es : List (List Command)) (cs : List Command) → OfTurns So i → i < 1000000 → length cs < 10000 → Reads So n (turn_lines (Removes i)) es cs 1
removal_reads So n i es cs o h few =
    record {
      after = cs ++ Block Heavy (asks (DeleteName (owner i) ∷ [])) Commit ∷ [];
      many = length-append cs (Block Heavy (asks (DeleteName (owner i) ∷ [])) Commit ∷ []);
      each = λ all. all_push So cs (Block Heavy (asks (DeleteName (owner i) ∷ [])) Commit) all (o.removal);
      read = λ rest.
          step_read n (codes "update") ((codes "del " ++ name_text i) ∷ codes "commit" ∷ rest) (between es cs) _ (update_line n es cs few)
          ∙ step_read (n + 1) (codes "del " ++ name_text i) (codes "commit" ∷ rest) _ _ (removal_line (n + 1) n i es cs Heavy h)
          ∙ step_read (n + 1 + 1) (codes "commit") rest _ _ (commit_line (n + 1 + 1) n es cs Heavy (DeleteName (owner i) ∷ []))
          ∙ ap (λ (k : ℕ). script_from made_origin k rest (between es (cs ++ Block Heavy (asks (DeleteName (owner i) ∷ [])) Commit ∷ []))) (let e : n + 1 + 1 + 1 ≡ n + 3 = omega arith in e);
    }

move_reads : (So : Command → Type 0) (n i c : ℕ) (es : List (List Command)) (cs : List Command) → OfTurns So i → i < 1000000 → length cs < 10000 → Reads So n (turn_lines (Moves i c)) es cs 1
unfolding moved
move_reads So n i c es cs o h few =
    record {
      after = cs ++ Block Light (asks (moved i c)) Commit ∷ [];
      many = length-append cs (Block Light (asks (moved i c)) Commit ∷ []);
      each = λ all. all_push So cs (Block Light (asks (moved i c)) Commit) all (o.move c);
      read = λ rest.
          step_read n (codes "write") ((codes "del " ++ name_text i ++ codes " A") ∷ (codes "add " ++ name_text i ++ codes " 300 A " ++ address_text c) ∷ codes "commit" ∷ rest) (between es cs) _ (write_line n es cs few)
          ∙ step_read (n + 1) (codes "del " ++ name_text i ++ codes " A") ((codes "add " ++ name_text i ++ codes " 300 A " ++ address_text c) ∷ codes "commit" ∷ rest) _ _ (del_line (n + 1) n i es cs h)
          ∙ step_read (n + 1 + 1) (codes "add " ++ name_text i ++ codes " 300 A " ++ address_text c) (codes "commit" ∷ rest) _ _ (add_line (n + 1 + 1) n i c es cs h)
          ∙ step_read (n + 1 + 1 + 1) (codes "commit") rest _ _ (commit_line (n + 1 + 1 + 1) n es cs Light (moved i c))
          ∙ ap (λ (k : ℕ). script_from made_origin k rest (between es (cs ++ Block Light (asks (moved i c)) Commit ∷ []))) (let e : n + 1 + 1 + 1 + 1 ≡ n + 4 = omega arith in e);
    }

either_reads : (So : Command → Type 0) (b : Bool) (t u : Turn) (n : ℕ) (es : List (List Command)) (cs : List Command) → Reads So n (turn_lines t) es cs 1 → Reads So n (turn_lines u) es cs 1 → Reads So n (turn_lines (cond b t u)) es cs 1
either_reads So true t u n es cs h k = h
either_reads So false t u n es cs h k = k

turn_reads : (So : Command → Type 0) (n a i c : ℕ) (es : List (List Command)) (cs : List Command) → OfTurns So i → i < 1000000 → length cs < 10000 → Reads So n (turn_lines (turn_of a i c)) es cs 1
turn_reads So n a i c es cs o h few =
    either_reads So (eqb (a % 4) 0) (Gets i) (cond (eqb (a % 4) 1) (Moves i c) (cond (eqb (a % 4) 2) (Removes i) (Finds i))) n es cs (line_reads So n (codes "get " ++ name_text i ++ codes " A") (Ask (Get (owner i) 1)) es cs o.get (get_line n i es cs h few))
    (either_reads So (eqb (a % 4) 1) (Moves i c) (cond (eqb (a % 4) 2) (Removes i) (Finds i)) n es cs (move_reads So n i c es cs o h few)
    (either_reads So (eqb (a % 4) 2) (Removes i) (Finds i) n es cs (removal_reads So n i es cs o h few) (line_reads So n (codes "find " ++ name_text i) (Ask (Find (owner i))) es cs o.find (find_line n i es cs h few))))

no_lines_read : (So : Command → Type 0) (n : ℕ) (es : List (List Command)) (cs : List Command) → Reads So n [] es cs 0
no_lines_read So n es cs =
    record {
      after = cs;
      each = λ all. all;
      many = (let e : length cs ≡ length cs + 0 = omega arith in e);
      read = λ rest. ap (λ (k : ℕ). script_from made_origin k rest (between es cs)) (let e : n ≡ n + 0 = omega arith in e);
    }

then_reads : (So : Command → Type 0) (n : ℕ) (xs ys : List (List ℕ)) (es : List (List Command)) (cs : List Command) (j k : ℕ) (r : Reads So n xs es cs j) → Reads So (n + length xs) ys es r.after k → Reads So n (xs ++ ys) es cs (j + k)
then_reads So n xs ys es cs j k r s =
    record {
      after = s.after;
      each = λ all. s.each (r.each all);
      many = s.many ∙ ap (λ (m : ℕ). m + k) r.many ∙ (let e : (length cs + j) + k ≡ length cs + (j + k) = omega arith in e);
      read = λ rest.
          ap (λ (l : List (List ℕ)). script_from made_origin n l (between es cs)) (append_assoc xs ys rest) ∙ r.read (ys ++ rest) ∙ s.read rest
          ∙ ap (λ (m : ℕ). script_from made_origin m rest (between es s.after)) (let a = length-append xs ys in let e : (n + length xs) + length ys ≡ n + length (xs ++ ys) = omega arith in e);
    }

turns_read : (So : Command → Type 0) (part : Part) (turns n x : ℕ) (es : List (List Command)) (cs : List Command) → ((d : ℕ) → part.remainder + part.workers * (d % part.count) < 1000000)
    → ((d : ℕ) → OfTurns So (part.remainder + part.workers * (d % part.count))) → length cs + turns ≤ 10000 → Reads So n (turns_from part turns x) es cs turns
unfolding turns_from
turns_read So part zero n x es cs small so few = no_lines_read So n es cs
turns_read So part (suc turns) n x es cs small so few =
    let first = turn_reads So n (drawn (next_state x)) (part.remainder + part.workers * (drawn (next_state (next_state x)) % part.count)) (drawn (next_state (next_state (next_state x)))) es cs (so (drawn (next_state (next_state x)))) (small (drawn (next_state (next_state x)))) (omega arith) in
    let long = first.many in
    let others = turns_read So part turns (n + length (turn_lines (turn_from part x))) (state_behind x) es first.after small so (omega arith) in
    subst (λ (k : ℕ). Reads So n (turn_lines (turn_from part x) ++ turns_from part turns (state_behind x)) es cs k) (let e : 1 + turns ≡ suc turns = omega arith in e)
    (then_reads So n (turn_lines (turn_from part x)) (turns_from part turns (state_behind x)) es cs 1 turns first others)

-- ---- names of a worker's own

-- one of those whose numbers leave this remainder
pub record IsOwner (workers remainder : ℕ) (name : Name) : Type 0 where
  pub number : ℕ
  pub small : number < 1000000
  pub leaves : number % workers ≡ remainder
  pub is : name ≡ owner number

-- a command changes none but these
abbrev pub IsOwn : ℕ → ℕ → Command → Type 0
IsOwn workers remainder command = (name : Name) → changes name command ≡ true → IsOwner workers remainder name

one_of : (a : Bool) → (a || false) ≡ true → a ≡ true
one_of a h = grind arith

either_of : (a : Bool) → (a || (a || false)) ≡ true → a ≡ true
either_of a h = grind arith

of_own : (workers remainder q : ℕ) → remainder < workers → remainder + workers * q < 1000000 → OfTurns (IsOwn workers remainder) (remainder + workers * q)
unfolding moved
of_own workers remainder q below small = record {
  get = λ name h. absurd cc;
  find = λ name h. absurd cc;
  removal = λ name h. own name (one_of (same_name name (owner i)) h);
  move = λ c name h. own name (either_of (same_name name (owner i)) h);
}
  where
    i : ℕ
    i = remainder + workers * q

    left : (remainder + workers * q) % workers ≡ remainder
    left =
        let same : 0 * workers + remainder ≡ remainder = omega arith in
        add-mul-mod_self_left remainder workers q ∙ ap (λ (n : ℕ). n % workers) (sym same) ∙ mod-mul-add 0 workers remainder below

    own : (name : Name) → same_name name (owner (remainder + workers * q)) ≡ true → IsOwner workers remainder name
    own name h = record { number = remainder + workers * q; small = small; leaves = left; is = same_name-true name (owner (remainder + workers * q)) h }

-- lists of commands, each of names of its own, of remainders from one on
abbrev pub OwnFrom : ℕ → ℕ → List (List Command) → Type 0
OwnFrom workers remainder [] = Unit {0}
OwnFrom workers remainder (commands ∷ others) = AllByRecursion (IsOwn workers remainder) commands × OwnFrom workers (remainder + 1) others

own_push : (workers remainder last : ℕ) (es : List (List Command)) (cs : List Command) → last ≡ remainder + length es → OwnFrom workers remainder es → AllByRecursion (IsOwn workers last) cs → OwnFrom workers remainder (es ++ cs ∷ [])
own_push workers remainder last [] cs at h k = (subst (λ (n : ℕ). AllByRecursion (IsOwn workers n) cs) (let e : last ≡ remainder = omega (arith, at) in e) k, tt)
own_push workers remainder last (e ∷ es) cs at h k = (h.0, own_push workers (remainder + 1) last es cs (omega (arith, at)) h.1 k)

-- ---- the turns of a worker

-- a worker without names has none
pub own_turns_read : (part : Part) (turns n x : ℕ) (es : List (List Command)) → part.count ≤ 20000 → part.remainder < part.workers → part.workers ≤ 16 → turns ≤ 10000
    → Reads (IsOwn part.workers part.remainder) n (turns_from part (turns_of part turns) x) es [] (turns_of part turns)
unfolding turns_from
own_turns_read part turns n x es few first workers within =
    elim (cases_eq part.count 0) [
      | inl none ↦
          let e : 0 ≡ turns_of part turns = ap (λ (k : ℕ). cond (eqb k 0) 0 turns) (sym none) in
          subst (λ (t : ℕ). Reads (IsOwn part.workers part.remainder) n (turns_from part t x) es [] t) e (no_lines_read (IsOwn part.workers part.remainder) n es [])
      | inr some ↦
          let f : eqb part.count 0 ≡ false = grind arith in
          let positive : 0 < part.count = omega arith in
          let e : turns ≡ turns_of part turns = ap (λ (b : Bool). cond b 0 turns) (sym f) in
          let small : (d : ℕ) → part.remainder + part.workers * (d % part.count) < 1000000 = λ d. small_name part d (record { some = positive; few = few; remainder = omega (arith, first, workers); workers = workers }) in
          let so : (d : ℕ) → OfTurns (IsOwn part.workers part.remainder) (part.remainder + part.workers * (d % part.count)) = λ d. of_own part.workers part.remainder (d % part.count) first (small d) in
          subst (λ (t : ℕ). Reads (IsOwn part.workers part.remainder) n (turns_from part t x) es [] t) e (turns_read (IsOwn part.workers part.remainder) part turns n x es [] small so (omega arith))
    ]

-- ---- workers after workers

worker_spelled : (n : ℕ) → Spells n [] (codes "worker") (plain (word n (codes "worker") ∷ []))
worker_spelled n = spell_word n (codes "worker") (omega arith) (alphabetic_word (codes "worker") refl).run

first_worker : (n : ℕ) → script_line made_origin n (codes "worker") no_lines ≡ Ok (between [] [])
unfolding phrase_of asked_of
first_worker n = tokens_said n (codes "worker") (word n (codes "worker") ∷ []) no_lines (worker_spelled n)

few_lists : (n : ℕ) → n < 16 → ltb n 16 ≡ true
few_lists n h = grind (arith, nat_tests)

later_worker : (n : ℕ) (es : List (List Command)) (cs : List Command) → length es + 1 < 16 → script_line made_origin n (codes "worker") (between es cs) ≡ Ok (between (es ++ cs ∷ []) [])
unfolding phrase_of asked_of
later_worker n es cs few =
    let long : length (es ++ cs ∷ []) ≡ length es + 1 = length-append es (cs ∷ []) in
    tokens_said n (codes "worker") (word n (codes "worker") ∷ []) (between es cs) (worker_spelled n)
    ∙ rw (few_lists (length (es ++ cs ∷ [])) (omega (arith, long))) refl

-- the lines of so many workers say so many lists more, of which the last is told apart
record ReadsLists (workers n : ℕ) (lines : List (List ℕ)) (before : Script) (more : ℕ) : Type 0 where
  lists : List (List Command)
  last : List Command
  own : OwnFrom workers 0 lists
  own_last : AllByRecursion (IsOwn workers (length lists)) last
  many : length lists ≡ more
  read : script_from made_origin n lines before ≡ Ok (between lists last)

own_few : (load : Load) (r : ℕ) → IsWithin load → share load.workers r load.names ≤ 20000
own_few load r w =
    let few = share_le load.workers r load.names in
    let names = w.names in
    omega arith

workers_read : (load : Load) (workers r n x : ℕ) (es : List (List Command)) (cs : List Command) → IsWithin load → r + workers ≤ load.workers → r ≡ length es + 1 → OwnFrom load.workers 0 es → AllByRecursion (IsOwn load.workers (length es)) cs
    → ReadsLists load.workers n (workers_from load workers r x) (between es cs) (length es + workers)
unfolding workers_from script_from
workers_read load zero r n x es cs w first at own own_last = record { lists = es; last = cs; own = own; own_last = own_last; many = (let e : length es ≡ length es + 0 = omega arith in e); read = refl }
workers_read load (suc workers) r n x es cs w first at own own_last =
    let most = w.workers in
    let long : length (es ++ cs ∷ []) ≡ length es + 1 = length-append es (cs ∷ []) in
    let turns : List (List ℕ) = turns_from (part_of load r) (turns_of (part_of load r) load.turns) x in
    let rest : List (List ℕ) = workers_from load workers (r + 1) (worker_state load r x) in
    let turned = own_turns_read (part_of load r) load.turns (n + 1) x (es ++ cs ∷ []) (own_few load r w) (omega (arith, first)) w.workers w.turns in
    let mine : AllByRecursion (IsOwn load.workers (length (es ++ cs ∷ []))) turned.after = subst (λ (k : ℕ). AllByRecursion (IsOwn load.workers k) turned.after) (at ∙ sym long) (turned.each tt) in
    let others = workers_read load workers (r + 1) (n + 1 + length turns) (worker_state load r x) (es ++ cs ∷ []) turned.after w (omega (arith, first)) (omega (arith, at, long)) (own_push load.workers 0 (length es) es cs (omega arith) own own_last) mine in
    record {
      lists = others.lists;
      last = others.last;
      own = others.own;
      own_last = others.own_last;
      many = others.many ∙ (let e : length (es ++ cs ∷ []) + workers ≡ length es + suc workers = omega (arith, long) in e);
      read = step_read n (codes "worker") (turns ++ rest) (between es cs) (between (es ++ cs ∷ []) []) (later_worker n es cs (omega (arith, first, at, most))) ∙ turned.read rest ∙ others.read;
    }

all_read : (load : Load) (workers n x : ℕ) → IsWithin load → suc workers ≤ load.workers → ReadsLists load.workers n (workers_from load (suc workers) 0 x) no_lines workers
unfolding workers_from
all_read load workers n x w few =
    let turns : List (List ℕ) = turns_from (part_of load 0) (turns_of (part_of load 0) load.turns) x in
    let rest : List (List ℕ) = workers_from load workers 1 (worker_state load 0 x) in
    let own = own_turns_read (part_of load 0) load.turns (n + 1) x [] (own_few load 0 w) (omega (arith, few)) w.workers w.turns in
    let others = workers_read load workers 1 (n + 1 + length turns) (worker_state load 0 x) [] own.after w (omega (arith, few)) refl tt (own.each tt) in
    record {
      lists = others.lists;
      last = others.last;
      own = others.own;
      own_last = others.own_last;
      many = (let m = others.many in let e : length others.lists ≡ workers = omega (arith, m) in e);
      read = step_read n (codes "worker") (turns ++ rest) no_lines (between [] []) (first_worker n) ∙ own.read rest ∙ others.read;
    }

-- ---- the whole script

-- the lines of so many workers are a script of so many lists
pub record SaysLists (of start : ℕ) (lines : List (List ℕ)) (workers : ℕ) : Type 0 where
  pub lists : List (List Command)
  pub own : OwnFrom of 0 lists
  pub many : length lists ≡ workers
  pub said : script_of made_origin start lines ≡ Ok lists

script_by : (load : Load) (workers x start : ℕ) → IsWithin load → 0 < workers → workers ≤ load.workers → SaysLists load.workers start (workers_from load workers 0 x) workers
unfolding script_of
script_by load zero x start w some few = absurd (omega arith)
script_by load (suc workers) x start w some few =
    let r = all_read load workers start x w few in
    let long : length (r.lists ++ r.last ∷ []) ≡ length r.lists + 1 = length-append r.lists (r.last ∷ []) in
    let many = r.many in
    record {
      lists = r.lists ++ r.last ∷ [];
      own = own_push load.workers 0 (length r.lists) r.lists r.last (omega arith) r.own r.own_last;
      many = (let e : length (r.lists ++ r.last ∷ []) ≡ suc workers = omega (arith, long, many) in e);
      said = ap (λ s. s >>= finished (start + length (workers_from load (suc workers) 0 x))) r.read;
    }

pub script_said : (load : Load) (start : ℕ) → IsWithin load → 0 < load.workers → SaysLists load.workers start (workers_from load load.workers 0 load.seed) load.workers
script_said load start w some = script_by load load.workers load.seed start w some (let e : load.workers ≤ load.workers = omega arith in e)

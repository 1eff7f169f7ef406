-- The lines of a made load's zone say a zone, and its text says a job.
use Rattle.std.proofs.Common.{◌≡◌, ◌∙◌, ℕ, zero, suc, ◌+◌, ◌-◌, ◌*◌, ◌%◌, ◌<◌, ◌≤◌, Bool, true, false, cond, not, ◌||◌, eqb, ltb, List, [], ◌∷◌, ◌++◌, length, take, drop, refl, sym, ap, subst, arith, Option, Some, None, unwrap_or, Ok, Err, append_assoc, append-nil, length-append, codes, inl, inr}
use Rattle.std.proofs.lemmas.Bool.{cases_eq}
use Rattle.std.proofs.lemmas.Bool.Decides.{nat_tests}
use Rattle.std.proofs.lemmas.Fmt.{length-decimal-le}
use Rattle.std.proofs.lemmas.List.{take_at, drop_at}
use Rattle.std.specs.List.{AllByRecursion, after_first, before_first, flat_map, list_all, list_any, position_or_len}
use Rattle.std.specs.BTreeMap.{insert_entry, is_at}
use Rattle.std.specs.Map.{lookup}
use Rattle.std.specs.Ordering.{match_ordering}
use Rattle.std.specs.declared.cmp.Ordering.{Ordering}
use Rattle.std.specs.declared.cmp.Ordering.TheVariants.{Less, Equal, Greater}
use Rattle.zone_model.specs.Names.{Name, name_cmp}
use Rattle.zone_model.specs.NameText.{completed, fitting, labels_from, name_of, onto, pieces_from}
use Rattle.zone_model.specs.Refusals.{◌>>=◌}
use Rattle.zone_model.specs.Lines.{lines_of}
use Rattle.zone_model.specs.Grammar.{Spells, stops_word}
use Rattle.zone_model.specs.Tokens.{line_end, line_tokens, step, steps}
use Rattle.zone_model.specs.Data.{data_of, read_fields}
use Rattle.zone_model.specs.DataWords.{class_named, groups, time_of, type_named}
use Rattle.zone_model.specs.Texts.{address, digits_from, number}
use Rattle.zone_model.specs.Records.{Entry, item, with_rr, item_limit}
use Rattle.zone_model.specs.Versions.{Version}
use Rattle.zone_model.specs.MasterFile.{Reader, added, at_first, directive, entry_says, front_of, entry_fault, placed_in, record_says, unless_fault, with_soa, zone_from, zone_of}
use Rattle.zone_model.specs.declared.ZoneKind.{ZoneKind}
use Rattle.zone_model.specs.declared.ZoneKind.TheVariants.{OutsideZone}
use Rattle.dns_name.proofs.BodyLemmas.{all_append as each_append}
use Rattle.rr_data.proofs.FormLemmas.{all_append}
use Rattle.rr_data.proofs.PrintedWordLemmas.{Shows, alphabetic_word, hex_word, is_shown, shows_append, shows_one}
use Rattle.rr_data.proofs.PrintedDataLemmas.{plain, word}
use Rattle.job_model.specs.Commands.{Command, Job}
use Rattle.job_model.specs.Jobs.{is_cut, job_of, job_of_lines, script_lines, script_of, script_refused, script_start, zone_lines, zone_refused}
use Rattle.job_model.specs.Loads.{Finds, Gets, Load, Moves, Part, Removes, Turn, address_text, drawn, first_lines, line_text, load_lines, made_origin, made_text, name_text, names_lines, next_state, part_of, state_behind, turn_from, turn_lines, turns_from, turns_of, worker_state, workers_from}
use Rattle.job_make.proofs.SizeLemmas.{IsWithin, share_le, small_name}
use Rattle.job_make.proofs.ScriptLines.{OwnFrom, address_shows, name_said, name_shows, name_some, owner, script_said, three_words, owner_under}
use Rattle.master_file.proofs.PrintedLineLemmas.{first_line, reads_line, shown_in_line, zone_step}

-- ---- lines

abbrev pub AllShown : List (List ℕ) → Type 0
AllShown lines = AllByRecursion (λ (l : List ℕ). list_all is_shown l ≡ true) lines

-- lines of bytes that are shown are the lines of their text
lines_back : (ls : List (List ℕ)) → AllShown ls → lines_of (flat_map line_text ls) ≡ ls
lines_back [] h = refl
lines_back (l ∷ ls) h = ap lines_of (append_assoc l (codes "\n") (flat_map line_text ls)) ∙ first_line l (flat_map line_text ls) (shown_in_line l h.0) ∙ ap (λ (t : List (List ℕ)). l ∷ t) (lines_back ls h.1)

shown_append : (xs ys : List (List ℕ)) → AllShown xs → AllShown ys → AllShown (xs ++ ys)
shown_append = each_append (λ (l : List ℕ). list_all is_shown l ≡ true)

name_shown : (i : ℕ) → i < 1000000 → list_all is_shown (name_text i) ≡ true
name_shown i h = (name_shows i h).shown

turn_shown : (t : Turn) (i c : ℕ) → i < 1000000 → (b0 b1 b2 : Bool) → AllShown (turn_lines (cond b0 (Gets i) (cond b1 (Moves i c) (cond b2 (Removes i) (Finds i)))))
turn_shown t i c h true b1 b2 = (all_append is_shown (codes "get " ++ name_text i) (codes " A") (all_append is_shown (codes "get ") (name_text i) refl (name_shown i h)) refl, tt)
turn_shown t i c h false true b2 = (
  refl,
  (
    all_append is_shown (codes "del " ++ name_text i) (codes " A") (all_append is_shown (codes "del ") (name_text i) refl (name_shown i h)) refl,
    (
      all_append is_shown (codes "add " ++ name_text i ++ codes " 300 A ") (address_text c) (all_append is_shown (codes "add " ++ name_text i) (codes " 300 A ") (all_append is_shown (codes "add ") (name_text i) refl (name_shown i h)) refl) (address_shows c).shown,
      (refl, tt),
    ),
  ),
)
turn_shown t i c h false false true = (refl, (all_append is_shown (codes "del ") (name_text i) refl (name_shown i h), (refl, tt)))
turn_shown t i c h false false false = (all_append is_shown (codes "find ") (name_text i) refl (name_shown i h), tt)

turns_shown : (part : Part) (turns x : ℕ) → ((d : ℕ) → part.remainder + part.workers * (d % part.count) < 1000000) → AllShown (turns_from part turns x)
unfolding turns_from
turns_shown part zero x small = tt
turns_shown part (suc turns) x small =
    let a = drawn (next_state x) in
    shown_append (turn_lines (turn_from part x)) (turns_from part turns (state_behind x))
    (turn_shown (Finds 0) (part.remainder + part.workers * (drawn (next_state (next_state x)) % part.count)) (drawn (next_state (next_state (next_state x)))) (small (drawn (next_state (next_state x)))) (eqb (a % 4) 0) (eqb (a % 4) 1) (eqb (a % 4) 2))
    (turns_shown part turns (state_behind x) small)

names_shown : (names : ℕ) → names ≤ 20000 → AllShown (names_lines names)
unfolding names_lines
names_shown zero h = tt
names_shown (suc name) h = shown_append (names_lines name) ((name_text name ++ codes " A 10.0.0.1") ∷ []) (names_shown name (omega arith)) (all_append is_shown (name_text name) (codes " A 10.0.0.1") (name_shown name (omega arith)) refl, tt)

-- ---- where the script begins

abbrev cut_place : List (List ℕ) → ℕ
cut_place ls = position_or_len is_cut ls

place_step : (x : List ℕ) (front rest : List (List ℕ)) (t : Bool) → is_cut x ≡ t → (t || list_any is_cut front) ≡ false → (list_any is_cut front ≡ false → cut_place (front ++ rest) ≡ length front + cut_place rest) → cond (not t) (1 + cut_place (front ++ rest)) 0 ≡ suc (length front) + cut_place rest
place_step x front rest true e n i = absurd cc
place_step x front rest false e n i = let p : cut_place (front ++ rest) ≡ length front + cut_place rest = i n in omega (arith, p)

place_append : (front rest : List (List ℕ)) → list_any is_cut front ≡ false → cut_place (front ++ rest) ≡ length front + cut_place rest
place_append [] rest n = omega arith
place_append (x ∷ front) rest n = place_step x front rest (is_cut x) refl n (place_append front rest)

place_of : (front rest : List (List ℕ)) → list_any is_cut front ≡ false → cut_place (front ++ codes "%%" ∷ rest) ≡ length front
place_of front rest n = place_append front (codes "%%" ∷ rest) n ∙ (let e : length front + 0 ≡ length front = omega arith in e)

zone_part : (front rest : List (List ℕ)) → list_any is_cut front ≡ false → before_first is_cut (front ++ codes "%%" ∷ rest) ≡ front
zone_part front rest n = ap (λ (k : ℕ). take k (front ++ codes "%%" ∷ rest)) (place_of front rest n) ∙ take_at front (codes "%%" ∷ rest) (length front) refl

script_part : (front rest : List (List ℕ)) → list_any is_cut front ≡ false → after_first is_cut (front ++ codes "%%" ∷ rest) ≡ rest
script_part front rest n =
    let long : length (front ++ codes "%%" ∷ []) ≡ length front + 1 = length-append front (codes "%%" ∷ []) in
    ap (λ (k : ℕ). drop (k + 1) (front ++ codes "%%" ∷ rest)) (place_of front rest n)
    ∙ ap (drop (length front + 1)) (sym (append_assoc front (codes "%%" ∷ []) rest)) ∙ drop_at (front ++ codes "%%" ∷ []) rest (length front + 1) (omega arith)

any_append : (xs ys : List (List ℕ)) → list_any is_cut xs ≡ false → list_any is_cut ys ≡ false → list_any is_cut (xs ++ ys) ≡ false
any_append [] ys h k = k
any_append (x ∷ xs) ys h k = go (is_cut x) (list_any is_cut xs) (list_any is_cut (xs ++ ys)) h (λ e. any_append xs ys e k)
  where
    go : (a b c : Bool) → (a || b) ≡ false → (b ≡ false → c ≡ false) → (a || c) ≡ false
    go a b c h f = grind arith

names_uncut : (names : ℕ) → list_any is_cut (names_lines names) ≡ false
unfolding names_lines
names_uncut zero = refl
names_uncut (suc name) = any_append (names_lines name) ((name_text name ++ codes " A 10.0.0.1") ∷ []) (names_uncut name) refl

-- ---- the zone

-- what the names of a load's zone own
abbrev one_address : Entry
one_address = (record { rtype = 1; ttl = 300; records = (10 ∷ 0 ∷ 0 ∷ 1 ∷ []) ∷ [] }) ∷ []

abbrev server_address : Entry
server_address = (record { rtype = 1; ttl = 300; records = (192 ∷ 0 ∷ 2 ∷ 1 ∷ []) ∷ [] }) ∷ []

abbrev both_addresses : Entry
both_addresses = (record { rtype = 1; ttl = 300; records = (10 ∷ 0 ∷ 0 ∷ 1 ∷ []) ∷ (192 ∷ 0 ∷ 2 ∷ 1 ∷ []) ∷ [] }) ∷ []

data Owns : Entry → Type 0 where
  One : Owns one_address
  Server : Owns server_address
  Both : Owns both_addresses

-- the address joins what a name owns
joined : (e : Entry) → Owns e → Owns (with_rr 1 300 (10 ∷ 0 ∷ 0 ∷ 1 ∷ []) e)
joined e One = One
joined e Server = Both
joined e Both = Both

short_name : (i : ℕ) → i < 1000000 → length (name_text i) ≤ 7
short_name i h = let d = length-decimal-le 6 i (omega arith) (omega arith) (omega arith) in omega arith

-- such an entry can stand
fault_none : (i : ℕ) (e : Entry) → i < 1000000 → Owns e → entry_fault (owner i) e ≡ None
fault_none i e h One =
    let short = short_name i h in
    let n : length (item (owner i) one_address) ≤ item_limit = simp length-append (omega arith) in
    let t : ltb item_limit (length (item (owner i) one_address)) ≡ false = grind (arith, nat_tests) in
    rw t refl
fault_none i e h Server =
    let short = short_name i h in
    let n : length (item (owner i) server_address) ≤ item_limit = simp length-append (omega arith) in
    let t : ltb item_limit (length (item (owner i) server_address)) ≡ false = grind (arith, nat_tests) in
    rw t refl
fault_none i e h Both =
    let short = short_name i h in
    let n : length (item (owner i) both_addresses) ≤ item_limit = simp length-append (omega arith) in
    let t : ltb item_limit (length (item (owner i) both_addresses)) ≡ false = grind (arith, nat_tests) in
    rw t refl

abbrev AllOwn : Version → Type 0
AllOwn version = AllByRecursion (λ (p : Name × Entry). Owns p.1) version

FoundOwns : Option Entry → Type 0
FoundOwns None = Unit {0}
FoundOwns (Some e) = Owns e

pick : (b : Bool) (e : Entry) (o : Option Entry) → Owns e → FoundOwns o → FoundOwns (cond b (Some e) o)
unfolding FoundOwns
pick true e o h k = h
pick false e o h k = k

found : (name : Name) (rest : Version) → AllOwn rest → FoundOwns (lookup (is_at (name_cmp name)) rest)
unfolding FoundOwns
found name [] h = tt
found name (p ∷ rest) h = pick (is_at (name_cmp name) p.0) p.1 (lookup (is_at (name_cmp name)) rest) h.0 (found name rest h.1)

-- what it owns with the address
with_one : (o : Option Entry) → FoundOwns o → Owns (with_rr 1 300 (10 ∷ 0 ∷ 0 ∷ 1 ∷ []) (unwrap_or o []))
unfolding FoundOwns
with_one None h = One
with_one (Some e) h = joined e h

place_own : (o : Ordering) (name : Name) (e : Entry) (p : Name × Entry) (rest more : Version) → Owns e → Owns p.1 → AllOwn rest → AllOwn more → AllOwn (match_ordering o ((name, e) ∷ p ∷ rest) ((p.0, e) ∷ rest) (p ∷ more))
place_own Less name e p rest more h k a m = (h, (k, a))
place_own Equal name e p rest more h k a m = (h, a)
place_own Greater name e p rest more h k a m = (k, m)

inserted : (name : Name) (e : Entry) (rest : Version) → Owns e → AllOwn rest → AllOwn (insert_entry name_cmp rest name e)
inserted name e [] h a = (h, tt)
inserted name e (p ∷ rest) h a = place_own (name_cmp name p.0) name e p rest (insert_entry name_cmp rest name e) h a.0 a.1 (inserted name e rest h a.1)

-- a zone with its SOA, whose other names own addresses
abbrev zone_with : Entry → Version → Version
zone_with apex rest = (made_origin, apex) ∷ rest

entry_with : ℕ → Version → Entry
entry_with i rest = with_rr 1 300 (10 ∷ 0 ∷ 0 ∷ 1 ∷ []) (unwrap_or (lookup (is_at (name_cmp (owner i))) rest) [])

entry_owns : (i : ℕ) (rest : Version) → AllOwn rest → Owns (entry_with i rest)
unfolding entry_with
entry_owns i rest h = with_one (lookup (is_at (name_cmp (owner i))) rest) (found (owner i) rest h)

added_to : (n i : ℕ) (apex : Entry) (rest : Version) → i < 1000000 → AllOwn rest
    → added made_origin n (owner i) 1 300 (10 ∷ 0 ∷ 0 ∷ 1 ∷ []) (zone_with apex rest) ≡ Ok (zone_with apex (insert_entry name_cmp rest (owner i) (entry_with i rest)))
unfolding added entry_with
added_to n i apex rest h own =
    ap (λ (b : Bool). cond (not b) (Err (record { line = n; kind = OutsideZone })) (placed_in n (owner i) 1 300 (10 ∷ 0 ∷ 0 ∷ 1 ∷ []) (zone_with apex rest))) (owner_under i)
    ∙ ap (λ (o : Option ZoneKind). unless_fault n o (zone_with apex (insert_entry name_cmp rest (owner i) (entry_with i rest)))) (fault_none i (entry_with i rest) h (entry_owns i rest own))

-- a reader of a load's zone
abbrev reading : Option Name → Version → Reader
reading last version = record { origin = made_origin; set_time = Some 300; last_time = None; minimum = Some 60; owner = last; version = version }

name_entry : (n i : ℕ) (last : Option Name) (version : Version) → i < 1000000
    → entry_says made_origin n false (word n (name_text i) ∷ word n (codes "A") ∷ word n (codes "10.0.0.1") ∷ []) (reading last version)
    ≡ added made_origin n (owner i) 1 300 (10 ∷ 0 ∷ 0 ∷ 1 ∷ []) version >>= (λ w. Ok (reading (Some (owner i)) w))
unfolding entry_says record_says front_of class_named type_named data_of read_fields address number digits_from
name_entry n i last version h = rw (name_said i h) refl

address_word : Shows stops_word (codes "10.0.0.1")
address_word =
    let dot : Shows stops_word (codes ".") = shows_one stops_word 46 refl refl in
    let zero_word : Shows stops_word (codes "0") = hex_word (codes "0") refl in
    shows_append (hex_word (codes "10") refl) (codes ".0.0.1") (shows_append dot (codes "0.0.1") (shows_append zero_word (codes ".0.1") (shows_append dot (codes "0.1") (shows_append zero_word (codes ".1") (shows_append dot (codes "1") (hex_word (codes "1") refl))))))

regroup_name : (n s a d : List ℕ) → (n ++ s) ++ ((a ++ s) ++ d) ≡ n ++ ((s ++ a) ++ (s ++ d))
regroup_name n s a d = simp append_assoc

name_spelled : (n i : ℕ) → i < 1000000 → Spells n [] (name_text i ++ codes " A 10.0.0.1") (plain (word n (name_text i) ∷ word n (codes "A") ∷ word n (codes "10.0.0.1") ∷ []))
name_spelled n i h =
    subst (λ (t : List ℕ). Spells n [] t (plain (word n (name_text i) ∷ word n (codes "A") ∷ word n (codes "10.0.0.1") ∷ []))) (regroup_name (name_text i) (codes " ") (codes "A") (codes "10.0.0.1"))
    (three_words n (name_text i) (codes "A") (codes "10.0.0.1") (name_some i) (name_shows i h) (omega arith) (alphabetic_word (codes "A") refl) (omega arith) address_word)

name_read : (n i : ℕ) (lines : List (List ℕ)) (last : Option Name) (apex : Entry) (rest : Version) → i < 1000000 → AllOwn rest
    → zone_from made_origin n ((name_text i ++ codes " A 10.0.0.1") ∷ lines) None (reading last (zone_with apex rest)) ≡ zone_from made_origin (n + 1) lines None (reading (Some (owner i)) (zone_with apex (insert_entry name_cmp rest (owner i) (entry_with i rest))))
name_read n i lines last apex rest h own =
    zone_step made_origin n (name_text i ++ codes " A 10.0.0.1") lines (word n (name_text i) ∷ word n (codes "A") ∷ word n (codes "10.0.0.1") ∷ []) (reading last (zone_with apex rest)) (reads_line n (name_text i ++ codes " A 10.0.0.1") (word n (name_text i) ∷ word n (codes "A") ∷ word n (codes "10.0.0.1") ∷ []) (name_spelled n i h))
    ∙ ap (λ r. r >>= zone_from made_origin (n + 1) lines None) (name_entry n i last (zone_with apex rest) h)
    ∙ ap (λ r. (r >>= (λ w. Ok (reading (Some (owner i)) w))) >>= zone_from made_origin (n + 1) lines None) (added_to n i apex rest h own)

-- so many names were read
record NamesRead (n names : ℕ) (lines : List (List ℕ)) (last : Option Name) (apex : Entry) (rest : Version) : Type 0 where
  pub owner_last : Option Name
  pub others : Version
  pub own : AllOwn others
  pub read : zone_from made_origin n (names_lines names ++ lines) None (reading last (zone_with apex rest)) ≡ zone_from made_origin (n + names) lines None (reading owner_last (zone_with apex others))

names_read : (n names : ℕ) (lines : List (List ℕ)) (last : Option Name) (apex : Entry) (rest : Version) → names ≤ 20000 → AllOwn rest → NamesRead n names lines last apex rest
unfolding names_lines
names_read n zero lines last apex rest h own =
    record { owner_last = last; others = rest; own = own; read = ap (λ (k : ℕ). zone_from made_origin k lines None (reading last (zone_with apex rest))) (let e : n ≡ n + 0 = omega arith in e) }
names_read n (suc name) lines last apex rest h own =
    let r = names_read n name ((name_text name ++ codes " A 10.0.0.1") ∷ lines) last apex rest (omega arith) own in
    record {
      owner_last = Some (owner name);
      others = insert_entry name_cmp r.others (owner name) (entry_with name r.others);
      own = inserted (owner name) (entry_with name r.others) r.others (entry_owns name r.others r.own) r.own;
      read = ap (λ (l : List (List ℕ)). zone_from made_origin n l None (reading last (zone_with apex rest))) (append_assoc (names_lines name) ((name_text name ++ codes " A 10.0.0.1") ∷ []) lines)
          ∙ r.read ∙ name_read (n + name) name lines r.owner_last apex r.others (omega arith) r.own
          ∙ ap (λ (k : ℕ). zone_from made_origin k lines None (reading (Some (owner name)) (zone_with apex (insert_entry name_cmp r.others (owner name) (entry_with name r.others))))) (let e : n + name + 1 ≡ n + suc name = omega arith in e);
    }

-- ---- the first four lines

server : Name
server = codes "ns" ∷ made_origin

apex_first : Entry
apex_first =
    (record { rtype = 2; ttl = 300; records = (2 ∷ 110 ∷ 115 ∷ 7 ∷ 101 ∷ 120 ∷ 97 ∷ 109 ∷ 112 ∷ 108 ∷ 101 ∷ 0 ∷ []) ∷ [] })
    ∷ (record {
      rtype = 6;
      ttl = 300;
      records = (2 ∷ 110 ∷ 115 ∷ 7 ∷ 101 ∷ 120 ∷ 97 ∷ 109 ∷ 112 ∷ 108 ∷ 101 ∷ 0
          ∷ 10 ∷ 104 ∷ 111 ∷ 115 ∷ 116 ∷ 109 ∷ 97 ∷ 115 ∷ 116 ∷ 101 ∷ 114 ∷ 7 ∷ 101 ∷ 120 ∷ 97 ∷ 109 ∷ 112 ∷ 108 ∷ 101 ∷ 0
          ∷ 0 ∷ 0 ∷ 0 ∷ 1 ∷ 0 ∷ 0 ∷ 14 ∷ 16 ∷ 0 ∷ 0 ∷ 2 ∷ 88 ∷ 0 ∷ 1 ∷ 81 ∷ 128 ∷ 0 ∷ 0 ∷ 0 ∷ 60 ∷ []) ∷ [];
    })
    ∷ []

first_read : (lines : List (List ℕ)) → zone_from made_origin 1 (first_lines ++ lines) None (at_first made_origin) ≡ zone_from made_origin 5 lines None (reading (Some server) (zone_with apex_first ((server, server_address) ∷ [])))
unfolding zone_from line_tokens steps step line_end entry_says directive record_says front_of class_named type_named time_of groups data_of read_fields name_of pieces_from labels_from onto completed fitting address number digits_from added apex_first server
first_read lines = refl

-- the zone's lines say a zone
zone_said : (names : ℕ) → names ≤ 20000 → (version : Version) × (zone_of made_origin (first_lines ++ names_lines names) ≡ Ok version)
unfolding zone_of zone_from apex_first
zone_said names h =
    let r = names_read 5 names [] (Some server) apex_first ((server, server_address) ∷ []) h (Server, tt) in
    let read : zone_from made_origin 1 (first_lines ++ names_lines names) None (at_first made_origin) ≡ Ok (reading r.owner_last (zone_with apex_first r.others)) =
    first_read (names_lines names)
    ∙ ap (λ (l : List (List ℕ)). zone_from made_origin 5 l None (reading (Some server) (zone_with apex_first ((server, server_address) ∷ [])))) (sym (append-nil (names_lines names)))
    ∙ r.read in
    (zone_with apex_first r.others, ap (λ x. x >>= with_soa made_origin (length (first_lines ++ names_lines names) + 1)) read)

-- ---- the whole

own_turns_shown : (part : Part) (turns x : ℕ) → part.count ≤ 20000 → part.remainder < 16 → part.workers ≤ 16 → AllShown (turns_from part (turns_of part turns) x)
unfolding turns_from
own_turns_shown part turns x few first workers =
    elim (cases_eq part.count 0) [
      | inl none ↦ subst (λ (t : ℕ). AllShown (turns_from part t x)) (ap (λ (n : ℕ). cond (eqb n 0) 0 turns) (sym none)) tt
      | inr some ↦
          let f : eqb part.count 0 ≡ false = grind arith in
          let positive : 0 < part.count = omega arith in
          subst (λ (t : ℕ). AllShown (turns_from part t x)) (ap (λ (b : Bool). cond b 0 turns) (sym f))
          (turns_shown part turns x (λ d. small_name part d (record { some = positive; few = few; remainder = first; workers = workers })))
    ]

workers_shown : (load : Load) (workers r x : ℕ) → IsWithin load → r + workers ≤ 16 → AllShown (workers_from load workers r x)
unfolding workers_from
workers_shown load zero r x w few = tt
workers_shown load (suc workers) r x w few =
    let names = w.names in
    let share_few = share_le load.workers r load.names in
    let own = own_turns_shown (part_of load r) load.turns x (omega arith) (omega arith) w.workers in
    (refl, shown_append (turns_from (part_of load r) (turns_of (part_of load r) load.turns) x) (workers_from load workers (r + 1) (worker_state load r x)) own (workers_shown load workers (r + 1) (worker_state load r x) w (omega arith)))

job_by : (zone_is front script_is script : List (List ℕ)) (start : ℕ) (version : Version) (workers : List (List Command)) → zone_is ≡ front → script_is ≡ script → zone_of made_origin front ≡ Ok version → script_of made_origin start script ≡ Ok workers
    → job_of_lines made_origin zone_is start script_is ≡ Ok (record { origin = made_origin; zone = version; workers = workers })
unfolding job_of_lines
job_by zone_is front script_is script start version workers a b z s =
    ap (λ (l : List (List ℕ)). job_of_lines made_origin l start script_is) a
    ∙ ap (λ (l : List (List ℕ)). job_of_lines made_origin front start l) b
    ∙ ap (λ r. zone_refused r >>= (λ w. script_refused (script_of made_origin start script) >>= (λ ws. Ok (record { origin = made_origin; zone = w; workers = ws })))) z
    ∙ ap (λ r. script_refused r >>= (λ ws. Ok (record { origin = made_origin; zone = version; workers = ws }))) s

abbrev script_of_load : Load → List (List ℕ)
script_of_load load = workers_from load load.workers 0 load.seed

-- lines whose bytes are shown say a job of so many workers, each of which changes names of its own
pub record SaysJob (lines : List (List ℕ)) (workers : ℕ) : Type 0 where
  pub job : Job
  pub shown : AllShown lines
  pub own : OwnFrom workers 0 job.workers
  pub many : length job.workers ≡ workers
  pub said : job_of made_origin (flat_map line_text lines) ≡ Ok job

-- the text of a load says a job
pub made_job : (load : Load) → IsWithin load → 0 < load.workers → SaysJob (load_lines load) load.workers
made_job load w some =
    let front : List (List ℕ) = first_lines ++ names_lines load.names in
    let z = zone_said load.names w.names in
    let s = script_said load (script_start (made_text load)) w some in
    let most = w.workers in
    let few : 0 + load.workers ≤ 16 = omega arith in
    let shown : AllShown ((first_lines ++ names_lines load.names) ++ codes "%%" ∷ script_of_load load) =
    shown_append (first_lines ++ names_lines load.names) (codes "%%" ∷ script_of_load load) (shown_append first_lines (names_lines load.names) (refl, (refl, (refl, (refl, tt)))) (names_shown load.names w.names)) (refl, workers_shown load load.workers 0 load.seed w few) in
    let uncut : list_any is_cut (first_lines ++ names_lines load.names) ≡ false = any_append first_lines (names_lines load.names) refl (names_uncut load.names) in
    let lines : lines_of (made_text load) ≡ (first_lines ++ names_lines load.names) ++ codes "%%" ∷ script_of_load load = lines_back ((first_lines ++ names_lines load.names) ++ codes "%%" ∷ script_of_load load) shown in
    let zone_is : zone_lines (made_text load) ≡ first_lines ++ names_lines load.names = ap (before_first is_cut) lines ∙ zone_part (first_lines ++ names_lines load.names) (script_of_load load) uncut in
    let script_is : script_lines (made_text load) ≡ script_of_load load = ap (after_first is_cut) lines ∙ script_part (first_lines ++ names_lines load.names) (script_of_load load) uncut in
    record {
      job = record { origin = made_origin; zone = z.0; workers = s.lists };
      shown = shown;
      own = s.own;
      many = s.many;
      said = job_by (zone_lines (made_text load)) (first_lines ++ names_lines load.names) (script_lines (made_text load)) (script_of_load load) (script_start (made_text load)) z.0 s.lists zone_is script_is z.1 s.said;
    }

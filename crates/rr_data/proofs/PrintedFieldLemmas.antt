-- What is printed for a field is read as the octets that it was printed of.
use Rattle.std.proofs.Common.{◌≡◌, ◌∙◌, ℕ, zero, suc, ◌+◌, ◌*◌, ◌/◌, ◌%◌, ◌^◌, ◌<◌, ◌≤◌, Bool, true, false, cond, ◌&&◌, eqb, leb, ltb, List, [], ◌∷◌, ◌++◌, length, take, drop, refl, sym, ap, subst, arith, Option, Some, None, Ok, append_assoc, append-nil, option_and_then, length-append}
use Rattle.std.proofs.lemmas.Bool.Decides.{nat_tests}
use borrow.Author.Tests.{eqb-true, leb-true, leb-false, ltb-true, ltb-false}
use Rattle.std.specs.Option.{option_map}
use Rattle.std.specs.List.{list_all, list_any, slice_split, All}
use Rattle.std.specs.Int.{w16, w32, from_be_bytes, to_be_bytes}
use Rattle.std.specs.Char.{is_ascii_digit, is_ascii_hexdigit}
use Rattle.std.specs.Fmt.{decimal}
use Rattle.std.proofs.lemmas.Fmt.{decimal_by_steps}
use Rattle.std.proofs.lemmas.List.Splits.{slice_split_at, slice_split_none}
use Rattle.std.proofs.lemmas.List.{length-take-le, take-append-drop}
use Rattle.std.proofs.lemmas.Nat.{be_bytes_2, be_bytes_4}
use Rattle.zone_model.specs.Names.{Name, IsName, wire}
use Rattle.zone_model.specs.NameText.{name_of, relative_text, name_text}
use Rattle.zone_model.specs.Splits.{split_octets, split_name}
use Rattle.zone_model.specs.Texts.{named, number, address, address_part, all_some}
use Rattle.zone_model.specs.Addresses.{hex_from, group, last_group, last_groups_of, parts_of, begins_with_colon, double_at, by_double, address6, whole_address, joined}
use Rattle.zone_model.specs.DataWords.{most_time}
use Rattle.zone_model.specs.Types.{Field, NameField, ShortField, NumberField, TimeField, AddressField, Address6Field}
use Rattle.zone_model.specs.DataForms.{split_time}
use Rattle.zone_model.specs.Data.{field_octets}
use Rattle.zone_model.specs.DataText.{hex_digit, digit_at, group_text, groups_text, address_text, field_text}
use Rattle.zone_model.proofs.SplitLemmas.{IsBytes, name_sound, SplitsName}
use Rattle.dns_name.proofs.PrintedLemmas.{name_of-text_of, name_of-relative_text}
use Rattle.rr_data.specs.Printing.{ReadsUnder}
use Rattle.rr_data.proofs.FormLemmas.{all_append}
use Rattle.rr_data.proofs.PrintedLemmas.{number_back, time_back, digit_back, decimal_all_digits}

-- the octets behind a front
pub bytes_behind : (a r : List ℕ) → IsBytes (a ++ r) → IsBytes r
bytes_behind [] r h = h
bytes_behind (x ∷ a) r h = bytes_behind a r (λ i. h (suc i))

pub bytes_before : (a r : List ℕ) → IsBytes (a ++ r) → IsBytes a
bytes_before [] r h i = omega arith
bytes_before (x ∷ a) r h zero = h zero
bytes_before (x ∷ a) r h (suc i) = bytes_before a r (λ j. h (suc j)) i

-- ---- parts of a text

both : (a b : Bool) → (a && b) ≡ true → (a ≡ true) × (b ≡ true)
both true b h = (refl, h)
both false b h = absurd cc

-- an element that passes a test is none that doesn't
other : (p : ℕ → Bool) (c stop : ℕ) → p c ≡ true → p stop ≡ false → eqb c stop ≡ false
other p c stop h k = by_test (eqb c stop) refl
  where
    by_test : (t : Bool) → eqb c stop ≡ t → t ≡ false
    by_test true e = let s : p stop ≡ true = ap p (sym (eqb-true c stop e)) ∙ h in absurd cc
    by_test false e = refl

pub no_stop : (p : ℕ → Bool) (text : List ℕ) (stop : ℕ) → list_all p text ≡ true → p stop ≡ false → All (λ x. eqb x stop ≡ false) text
no_stop p [] stop h k i d lt = absurd (omega arith)
no_stop p (c ∷ text) stop h k zero d lt = other p c stop (both (p c) (list_all p text) h).0 k
no_stop p (c ∷ text) stop h k (suc i) d lt = no_stop p text stop (both (p c) (list_all p text) h).1 k i d (omega arith)

-- ---- addresses of version 4

abbrev AtMost : ℕ → List ℕ → Type 0
AtMost n digits = (n < 10 → length digits ≤ 1) × (n < 100 → length digits ≤ 2) × (n < 1000 → length digits ≤ 3)

decimal_short : (n : ℕ) → n < 2 ^ 64 → AtMost n (decimal n)
decimal_short = decimal_by_steps AtMost
    (λ n l. (λ _. omega arith, λ _. omega arith, λ _. omega arith))
    (λ n ds l h. (λ k. absurd (omega arith), λ k. let f = h.0 (omega arith) in omega (arith, length-append ds ((48 + n % 10) ∷ [])), λ k. let f = h.1 (omega arith) in omega (arith, length-append ds ((48 + n % 10) ∷ []))))

part_back : (n : ℕ) → n < 256 → address_part (decimal n) ≡ Some n
part_back n h =
    let small : n < 2 ^ 64 = omega arith in
    let short : length (decimal n) ≤ 3 = (decimal_short n small).2 (omega arith) in
    let t : leb (length (decimal n)) 3 ≡ true = grind (arith, nat_tests) in
    ap (λ b. cond b (number 255 (decimal n)) None) t ∙ number_back 255 n small (omega arith)

no_dot : (n : ℕ) → n < 256 → All (λ x. eqb x 46 ≡ false) (decimal n)
no_dot n h = no_stop is_ascii_digit (decimal n) 46 (decimal_all_digits n (omega arith)) refl

-- a part ends where it is stopped
part_ends : (part : List ℕ) (stop : ℕ) (rest : List ℕ) → All (λ x. eqb x stop ≡ false) part → eqb stop stop ≡ true → slice_split (λ b. eqb b stop) (part ++ stop ∷ [] ++ rest) ≡ part ∷ slice_split (λ b. eqb b stop) rest
part_ends part stop rest h e = ap (slice_split (λ b. eqb b stop)) (append_assoc part (stop ∷ []) rest) ∙ slice_split_at (λ b. eqb b stop) part stop rest h e

dot_at : (n : ℕ) (rest : List ℕ) → n < 256 → slice_split (λ b. eqb b 46) (decimal n ++ 46 ∷ [] ++ rest) ≡ decimal n ∷ slice_split (λ b. eqb b 46) rest
dot_at n rest h = part_ends (decimal n) 46 rest (no_dot n h) refl

some_more : (n : ℕ) (rest : List (Option ℕ)) (xs : List ℕ) (part : Option ℕ) → part ≡ Some n → all_some rest ≡ Some xs → all_some (part ∷ rest) ≡ Some (n ∷ xs)
some_more n rest xs None h e = absurd cc
some_more n rest xs (Some x) h e = ap (option_map (λ ys. x ∷ ys)) e ∙ ap (λ (y : ℕ). Some (y ∷ xs)) (let k : x ≡ n = cc in k)

address_of_four : (a b c d : ℕ) → a < 256 → b < 256 → c < 256 → d < 256 → address (address_text (a ∷ b ∷ c ∷ d ∷ [])) ≡ Some (a ∷ b ∷ c ∷ d ∷ [])
unfolding address
address_of_four a b c d ha hb hc hd =
    let parts : slice_split (λ x. eqb x 46) (address_text (a ∷ b ∷ c ∷ d ∷ [])) ≡ decimal a ∷ decimal b ∷ decimal c ∷ decimal d ∷ [] =
    dot_at a (address_text (b ∷ c ∷ d ∷ [])) ha
    ∙ ap (λ (l : List (List ℕ)). decimal a ∷ l) (dot_at b (address_text (c ∷ d ∷ [])) hb)
    ∙ ap (λ (l : List (List ℕ)). decimal a ∷ decimal b ∷ l) (dot_at c (address_text (d ∷ [])) hc)
    ∙ ap (λ (l : List (List ℕ)). decimal a ∷ decimal b ∷ decimal c ∷ l) (slice_split_none (λ x. eqb x 46) (decimal d) (no_dot d hd)) in
    rw parts
    (some_more a (address_part (decimal b) ∷ address_part (decimal c) ∷ address_part (decimal d) ∷ []) (b ∷ c ∷ d ∷ []) (address_part (decimal a)) (part_back a ha)
    (some_more b (address_part (decimal c) ∷ address_part (decimal d) ∷ []) (c ∷ d ∷ []) (address_part (decimal b)) (part_back b hb)
    (some_more c (address_part (decimal d) ∷ []) (d ∷ []) (address_part (decimal c)) (part_back c hc)
    (some_more d [] [] (address_part (decimal d)) (part_back d hd) refl))))

pub address_back : (octets : List ℕ) → length octets ≡ 4 → IsBytes octets → address (address_text octets) ≡ Some octets
address_back [] e h = absurd (omega arith)
address_back (a ∷ []) e h = absurd (omega arith)
address_back (a ∷ b ∷ []) e h = absurd (omega arith)
address_back (a ∷ b ∷ c ∷ []) e h = absurd (omega arith)
address_back (a ∷ b ∷ c ∷ d ∷ []) e h = address_of_four a b c d (h 0) (h 1) (h 2) (h 3)
address_back (a ∷ b ∷ c ∷ d ∷ x ∷ octets) e h = absurd (omega arith)

-- ---- addresses of version 6

hex_step : (v d : ℕ) (text : List ℕ) → d < 16 → hex_from v (hex_digit d ∷ text) ≡ hex_from (16 * v + d) text
unfolding hex_from
hex_step v d text h = ap (λ (n : ℕ). hex_from (16 * v + n) text) (digit_back d h)

-- a digit that is left out is zero, and so is what stands before it
hex_place : (v place n : ℕ) (text : List ℕ) → (n < place → (v ≡ 0) × (n / place % 16 ≡ 0)) → hex_from v (digit_at place n ++ text) ≡ hex_from (16 * v + n / place % 16) text
hex_place v place n text h = by_test (leb place n) refl
  where
    by_test : (t : Bool) → leb place n ≡ t → hex_from v (cond t (hex_digit (n / place % 16) ∷ []) [] ++ text) ≡ hex_from (16 * v + n / place % 16) text
    by_test true e = hex_step v (n / place % 16) text (omega arith)
    by_test false e = let f = h (leb-false place n e) in ap (λ (k : ℕ). hex_from k text) (omega (arith, f.0, f.1))

hex_end : (v d : ℕ) → d < 16 → hex_from v (hex_digit d ∷ []) ≡ 16 * v + d
unfolding hex_from
hex_end v d h = hex_step v d [] h

pub hexdigit_is : (d : ℕ) → d < 16 → is_ascii_hexdigit (hex_digit d) ≡ true
hexdigit_is d h = by_test (ltb d 10) refl
  where
    by_test : (t : Bool) → ltb d 10 ≡ t → is_ascii_hexdigit (cond t (48 + d) (87 + d)) ≡ true
    by_test true e = let lt : d < 10 = ltb-true d 10 e in grind (arith, nat_tests)
    by_test false e = let ge : 10 ≤ d = ltb-false d 10 e in grind (arith, nat_tests)

place_hex : (place n : ℕ) → (list_all is_ascii_hexdigit (digit_at place n) ≡ true) × (length (digit_at place n) ≤ 1)
place_hex place n = by_test (leb place n)
  where
    by_test : (t : Bool) → (list_all is_ascii_hexdigit (cond t (hex_digit (n / place % 16) ∷ []) []) ≡ true) × (length (cond t (hex_digit (n / place % 16) ∷ []) []) ≤ 1)
    by_test true = (ap (λ b. b && true) (hexdigit_is (n / place % 16) (omega arith)), omega arith)
    by_test false = (refl, omega arith)

-- a group's text is one to four digits, which say the number
pub record IsGroupText (n : ℕ) (text : List ℕ) : Type 0 where
  pub value : hex_from 0 text ≡ n
  pub digits : list_all is_ascii_hexdigit text ≡ true
  pub some : 0 < length text
  pub short : length text ≤ 4

pub group_texts : (n : ℕ) → n < 65536 → IsGroupText n (group_text n)
group_texts n h =
    let a = digit_at 4096 n in
    let b = digit_at 256 n in
    let c = digit_at 16 n in
    let e = hex_digit (n % 16) ∷ [] in
    let pa = place_hex 4096 n in
    let pb = place_hex 256 n in
    let pc = place_hex 16 n in
    let last : list_all is_ascii_hexdigit (hex_digit (n % 16) ∷ []) ≡ true = ap (λ t. t && true) (hexdigit_is (n % 16) (omega arith)) in
    let ab = length-append a b in
    let abc = length-append (a ++ b) c in
    let abce = length-append (a ++ b ++ c) e in
    record {
      value = ap (hex_from 0) (append_assoc (a ++ b) c e ∙ append_assoc a b (c ++ e))
          ∙ hex_place 0 4096 n (b ++ (c ++ e)) (λ l. (refl, omega arith))
          ∙ hex_place (16 * 0 + n / 4096 % 16) 256 n (c ++ e) (λ l. (omega arith, omega arith))
          ∙ hex_place (16 * (16 * 0 + n / 4096 % 16) + n / 256 % 16) 16 n e (λ l. (omega arith, omega arith))
          ∙ hex_end (16 * (16 * (16 * 0 + n / 4096 % 16) + n / 256 % 16) + n / 16 % 16) (n % 16) (omega arith)
          ∙ omega arith;
      digits = all_append is_ascii_hexdigit (a ++ b ++ c) e (all_append is_ascii_hexdigit (a ++ b) c (all_append is_ascii_hexdigit a b pa.0 pb.0) pc.0) last;
      some = omega (arith, abce);
      short = omega (arith, ab, abc, abce, pa.1, pb.1, pc.1);
    }

group_back : (a b : ℕ) → a < 256 → b < 256 → group (group_text (from_be_bytes w16 (a ∷ b ∷ []))) ≡ Some (a ∷ b ∷ [])
group_back a b ha hb = said (from_be_bytes w16 (a ∷ b ∷ [])) (group_text (from_be_bytes w16 (a ∷ b ∷ []))) (omega arith) (group_texts (from_be_bytes w16 (a ∷ b ∷ [])) (omega arith))
  where
    said : (n : ℕ) (text : List ℕ) → n ≡ 256 * a + b → IsGroupText n text → group text ≡ Some (a ∷ b ∷ [])
    said n text e g =
        let some : ltb 0 (length text) ≡ true = grind (arith, nat_tests, g.some) in
        let short : leb (length text) 4 ≡ true = grind (arith, nat_tests, g.short) in
        let t : (ltb 0 (length text) && leb (length text) 4 && list_all is_ascii_hexdigit text) ≡ true = rw (some, short, g.digits) refl in
        let high : hex_from 0 text / 256 ≡ a = omega (arith, g.value) in
        let low : hex_from 0 text % 256 ≡ b = omega (arith, g.value) in
        ap (λ x. cond x (Some (hex_from 0 text / 256 ∷ hex_from 0 text % 256 ∷ [])) None) t
        ∙ ap (λ (x : ℕ). Some (x ∷ hex_from 0 text % 256 ∷ [])) high ∙ ap (λ (x : ℕ). Some (a ∷ x ∷ [])) low

no_dots : (text : List ℕ) → list_all is_ascii_hexdigit text ≡ true → list_any (λ c. eqb c 46) text ≡ false
no_dots [] h = refl
no_dots (c ∷ text) h = let f = both (is_ascii_hexdigit c) (list_all is_ascii_hexdigit text) h in rw (other is_ascii_hexdigit c 46 f.0 refl) (no_dots text f.1)

last_back : (a b : ℕ) → a < 256 → b < 256 → last_group (group_text (from_be_bytes w16 (a ∷ b ∷ []))) ≡ Some (a ∷ b ∷ [])
last_back a b ha hb =
    let n = from_be_bytes w16 (a ∷ b ∷ []) in
    ap (λ t. cond t (address (group_text n)) (group (group_text n))) (no_dots (group_text n) (group_texts n (omega arith)).digits) ∙ group_back a b ha hb

-- octets two by two
abbrev pub InPairs : List ℕ → Type 0
InPairs [] = ⊥
InPairs (a ∷ []) = ⊥
InPairs (a ∷ b ∷ []) = (a < 256) × (b < 256)
InPairs (a ∷ b ∷ next ∷ rest) = (a < 256) × (b < 256) × InPairs (next ∷ rest)

pub in_pairs : (n : ℕ) (octets : List ℕ) → length octets ≡ 2 * n + 2 → IsBytes octets → InPairs octets
in_pairs n [] e h = absurd (omega arith)
in_pairs n (a ∷ []) e h = absurd (omega arith)
in_pairs n (a ∷ b ∷ []) e h = (h 0, h 1)
in_pairs zero (a ∷ b ∷ next ∷ rest) e h = absurd (omega arith)
in_pairs (suc n) (a ∷ b ∷ next ∷ rest) e h = (h 0, h 1, in_pairs n (next ∷ rest) (omega arith) (λ i. h (suc (suc i))))

-- each group's text
abbrev texts_of : List ℕ → List (List ℕ)
texts_of [] = []
texts_of (a ∷ []) = []
texts_of (a ∷ b ∷ []) = group_text (from_be_bytes w16 (a ∷ b ∷ [])) ∷ []
texts_of (a ∷ b ∷ next ∷ rest) = group_text (from_be_bytes w16 (a ∷ b ∷ [])) ∷ texts_of (next ∷ rest)

no_colon : (a b : ℕ) → a < 256 → b < 256 → All (λ x. eqb x 58 ≡ false) (group_text (from_be_bytes w16 (a ∷ b ∷ [])))
no_colon a b ha hb = no_stop is_ascii_hexdigit (group_text (from_be_bytes w16 (a ∷ b ∷ []))) 58 (group_texts (from_be_bytes w16 (a ∷ b ∷ [])) (omega arith)).digits refl

colons_part : (octets : List ℕ) → InPairs octets → slice_split (λ b. eqb b 58) (groups_text octets) ≡ texts_of octets
colons_part [] h = absurd h
colons_part (a ∷ []) h = absurd h
colons_part (a ∷ b ∷ []) h = slice_split_none (λ x. eqb x 58) (group_text (from_be_bytes w16 (a ∷ b ∷ []))) (no_colon a b h.0 h.1)
colons_part (a ∷ b ∷ next ∷ rest) h =
    part_ends (group_text (from_be_bytes w16 (a ∷ b ∷ []))) 58 (groups_text (next ∷ rest)) (no_colon a b h.0 h.1) refl
    ∙ ap (λ (l : List (List ℕ)). group_text (from_be_bytes w16 (a ∷ b ∷ [])) ∷ l) (colons_part (next ∷ rest) h.2)

join_two : (a b : ℕ) (x : Option (List ℕ)) (y : Option (List ℕ)) (rest : List ℕ) → x ≡ Some (a ∷ b ∷ []) → y ≡ Some rest → joined x y ≡ Some (a ∷ b ∷ rest)
join_two a b None y rest e f = absurd cc
join_two a b (Some x) None rest e f = absurd cc
join_two a b (Some x) (Some y) rest e f = let g : x ≡ a ∷ b ∷ [] = cc in let k : y ≡ rest = cc in ap Some (rw (g, k) refl)

-- groups behind a first one
last_more : (part : List ℕ) (octets : List ℕ) → InPairs octets → last_groups_of (part ∷ texts_of octets) ≡ joined (group part) (last_groups_of (texts_of octets))
unfolding last_groups_of
last_more part [] h = absurd h
last_more part (a ∷ []) h = absurd h
last_more part (a ∷ b ∷ []) h = refl
last_more part (a ∷ b ∷ next ∷ rest) h = refl

groups_back : (octets : List ℕ) → InPairs octets → last_groups_of (texts_of octets) ≡ Some octets
unfolding last_groups_of
groups_back [] h = absurd h
groups_back (a ∷ []) h = absurd h
groups_back (a ∷ b ∷ []) h = last_back a b h.0 h.1
groups_back (a ∷ b ∷ next ∷ rest) h =
    last_more (group_text (from_be_bytes w16 (a ∷ b ∷ []))) (next ∷ rest) h.2
    ∙ join_two a b (group (group_text (from_be_bytes w16 (a ∷ b ∷ [])))) (last_groups_of (texts_of (next ∷ rest))) (next ∷ rest) (group_back a b h.0 h.1) (groups_back (next ∷ rest) h.2)

digit_begins : (text more : List ℕ) → list_all is_ascii_hexdigit text ≡ true → 0 < length text → begins_with_colon (text ++ more) ≡ false
digit_begins [] more h lt = absurd (omega arith)
digit_begins (c ∷ text) more h lt = other is_ascii_hexdigit c 58 (both (is_ascii_hexdigit c) (list_all is_ascii_hexdigit text) h).0 refl

group_begins : (octets : List ℕ) → InPairs octets → begins_with_colon (groups_text octets) ≡ false
group_begins [] h = absurd h
group_begins (a ∷ []) h = absurd h
group_begins (a ∷ b ∷ []) h =
    let n = from_be_bytes w16 (a ∷ b ∷ []) in
    let g = group_texts n (omega (arith, h.0, h.1)) in ap begins_with_colon (sym (append-nil (group_text n))) ∙ digit_begins (group_text n) [] g.digits g.some
group_begins (a ∷ b ∷ next ∷ rest) h =
    let n = from_be_bytes w16 (a ∷ b ∷ []) in
    let g = group_texts n (omega (arith, h.0, h.1)) in
    ap begins_with_colon (append_assoc (group_text n) (58 ∷ []) (groups_text (next ∷ rest))) ∙ digit_begins (group_text n) (58 ∷ groups_text (next ∷ rest)) g.digits g.some

-- a group's text has no double colon, and none begins behind it
double_past : (text more : List ℕ) → list_all is_ascii_hexdigit text ≡ true → double_at more ≡ None → double_at (text ++ more) ≡ None
unfolding double_at
double_past [] more h e = e
double_past (c ∷ text) more h e =
    let f = both (is_ascii_hexdigit c) (list_all is_ascii_hexdigit text) h in
    let t : eqb c 58 ≡ false = other is_ascii_hexdigit c 58 f.0 refl in
    rw t (ap (option_map (λ n. n + 1)) (double_past text more f.1 e))

single_colon : (more : List ℕ) → begins_with_colon more ≡ false → double_at more ≡ None → double_at (58 ∷ more) ≡ None
unfolding double_at
single_colon more h e = rw h (ap (option_map (λ n. n + 1)) e)

no_double : (octets : List ℕ) → InPairs octets → double_at (groups_text octets) ≡ None
unfolding double_at
no_double [] h = absurd h
no_double (a ∷ []) h = absurd h
no_double (a ∷ b ∷ []) h =
    let n = from_be_bytes w16 (a ∷ b ∷ []) in
    ap double_at (sym (append-nil (group_text n))) ∙ double_past (group_text n) [] (group_texts n (omega (arith, h.0, h.1))).digits refl
no_double (a ∷ b ∷ next ∷ rest) h =
    let n = from_be_bytes w16 (a ∷ b ∷ []) in
    ap double_at (append_assoc (group_text n) (58 ∷ []) (groups_text (next ∷ rest)))
    ∙ double_past (group_text n) (58 ∷ groups_text (next ∷ rest)) (group_texts n (omega (arith, h.0, h.1))).digits (single_colon (groups_text (next ∷ rest)) (group_begins (next ∷ rest) h.2) (no_double (next ∷ rest) h.2))

parts_some : (text : List ℕ) (parts : List (List ℕ)) → slice_split (λ b. eqb b 58) text ≡ parts → last_groups_of parts ≡ last_groups_of (slice_split (λ b. eqb b 58) text) → (text ≡ [] → ⊥) → last_groups_of (parts_of text) ≡ last_groups_of parts
parts_some [] parts e f n = absurd (n refl)
parts_some (c ∷ text) parts e f n = sym f

pub address6_back : (octets : List ℕ) → length octets ≡ 16 → IsBytes octets → address6 (groups_text octets) ≡ Some octets
unfolding address6
address6_back octets e h =
    let p : InPairs octets = in_pairs 7 octets e h in
    let whole : eqb (length octets) 16 ≡ true = grind (arith, nat_tests) in
    let some : groups_text octets ≡ [] → ⊥ = λ k. texts_some octets p k in
    ap (by_double (groups_text octets)) (no_double octets p)
    ∙ ap (option_and_then whole_address) (parts_some (groups_text octets) (texts_of octets) (colons_part octets p) (ap last_groups_of (sym (colons_part octets p))) some ∙ groups_back octets p)
    ∙ ap (λ t. cond t (Some octets) None) whole
  where
    some_text : (text more : List ℕ) → 0 < length text → text ++ more ≡ [] → ⊥
    some_text [] more h e = omega arith
    some_text (c ∷ text) more h e = absurd cc

    texts_some : (octets : List ℕ) → InPairs octets → groups_text octets ≡ [] → ⊥
    texts_some [] h k = h
    texts_some (a ∷ []) h k = h
    texts_some (a ∷ b ∷ []) h k = let n = from_be_bytes w16 (a ∷ b ∷ []) in some_text (group_text n) [] (group_texts n (omega (arith, h.0, h.1))).some (append-nil (group_text n) ∙ k)
    texts_some (a ∷ b ∷ next ∷ rest) h k =
        let n = from_be_bytes w16 (a ∷ b ∷ []) in some_text (group_text n) (58 ∷ groups_text (next ∷ rest)) (group_texts n (omega (arith, h.0, h.1))).some (sym (append_assoc (group_text n) (58 ∷ []) (groups_text (next ∷ rest))) ∙ k)

-- ---- fields

-- A text is read as the octets in front of others.
pub record IsReadBack (origin : Name) (field : Field) (text rest octets : List ℕ) : Type 0 where
  pub front : List ℕ
  pub read : field_octets origin field text ≡ Some front
  pub octets_are : octets ≡ front ++ rest

pub map_some : {A B : Type 0} (f : A → B) (o : Option A) (y : B) → option_map f o ≡ Some y → (x : A) × (o ≡ Some x) × (f x ≡ y)
map_some f None y h = absurd cc
map_some f (Some x) y h = (x, refl, cc)

cond_some : {A : Type 0} (b : Bool) (o : Option A) (y : A) → cond b o None ≡ Some y → (b ≡ true) × (o ≡ Some y)
cond_some true o y h = (refl, h)
cond_some false o y h = absurd cc

pub octets_split : (n : ℕ) (octets : List ℕ) (x : List ℕ × List ℕ) → split_octets n octets ≡ Some x → (length x.0 ≡ n) × (octets ≡ x.0 ++ x.1)
octets_split n octets x h =
    let c = cond_some (leb n (length octets)) (Some (take n octets, drop n octets)) x h in
    let le : n ≤ length octets = leb-true n (length octets) c.0 in
    let e : (take n octets, drop n octets) ≡ x = cc in
    (ap (λ (y : List ℕ × List ℕ). length y.0) (sym e) ∙ length-take-le n octets le, sym (take-append-drop n octets) ∙ ap (λ (y : List ℕ × List ℕ). y.0 ++ y.1) e)

pub time_split : (octets : List ℕ) (o : Option (List ℕ × List ℕ)) (x : List ℕ × List ℕ) → split_octets 4 octets ≡ o → option_and_then (λ y. cond (leb (from_be_bytes w32 y.0) most_time) (Some y) None) o ≡ Some x → (o ≡ Some x) × (from_be_bytes w32 x.0 ≤ most_time)
time_split octets None x e h = absurd cc
time_split octets (Some y) x e h =
    let c = cond_some (leb (from_be_bytes w32 y.0) most_time) (Some y) x h in
    (c.1, let k : y ≡ x = cc in rw (sym k) (leb-true (from_be_bytes w32 y.0) most_time c.0))

pub short_size : (octets : List ℕ) → length octets ≡ 2 → IsBytes octets → from_be_bytes w16 octets ≤ 65535
short_size [] e h = absurd (omega arith)
short_size (a ∷ []) e h = absurd (omega arith)
short_size (a ∷ b ∷ []) e h = omega (arith, h 0, h 1)
short_size (a ∷ b ∷ c ∷ octets) e h = absurd (omega arith)

pub number_size : (octets : List ℕ) → length octets ≡ 4 → IsBytes octets → from_be_bytes w32 octets ≤ 4294967295
number_size [] e h = absurd (omega arith)
number_size (a ∷ []) e h = absurd (omega arith)
number_size (a ∷ b ∷ []) e h = absurd (omega arith)
number_size (a ∷ b ∷ c ∷ []) e h = absurd (omega arith)
number_size (a ∷ b ∷ c ∷ d ∷ []) e h = omega (arith, h 0, h 1, h 2, h 3)
number_size (a ∷ b ∷ c ∷ d ∷ x ∷ octets) e h = absurd (omega arith)

-- a text that is read as the octets which were split off
read_front : (origin : Name) (field : Field) (printed text rest octets : List ℕ) (x : List ℕ × List ℕ) → octets ≡ x.0 ++ x.1 → ◌≡◌ {A = List ℕ × List ℕ} (printed, x.1) (text, rest) → field_octets origin field printed ≡ Some x.0 → IsReadBack origin field text rest octets
read_front origin field printed text rest octets x e p r =
    let t : printed ≡ text = ap (λ (y : List ℕ × List ℕ). y.0) p in
    let k : x.1 ≡ rest = ap (λ (y : List ℕ × List ℕ). y.1) p in
    record { front = x.0; read = ap (field_octets origin field) (sym t) ∙ r; octets_are = e ∙ ap (λ (l : List ℕ). x.0 ++ l) k }

-- a printed name is read as that name
pub name_back : (printed : Option Name) (origin name : Name) → ReadsUnder printed origin → IsName name → name_of (name_text printed name) origin ≡ Ok name
name_back None origin name u h = name_of-text_of name origin h
name_back (Some o) origin name u h = ap (λ (n : Name). name_of (relative_text o name) n) u ∙ name_of-relative_text name o h

pub field_back : (printed : Option Name) (origin : Name) (field : Field) (octets text rest : List ℕ) → ReadsUnder printed origin → IsBytes octets → field_text printed field octets ≡ Some (text, rest) → IsReadBack origin field text rest octets
field_back printed origin NameField octets text rest u b h =
    let x = map_some (λ (x : Name × List ℕ). (name_text printed x.0, x.1)) (split_name octets) (text, rest) h in
    let s : SplitsName octets x.0 = name_sound octets x.0 b x.1 in
    read_front origin NameField (name_text printed x.0.0) text rest octets (wire x.0.0, x.0.1) s.octets x.2
    (ap (λ r. option_map wire (named r)) (name_back printed origin x.0.0 u s.name))
field_back printed origin ShortField octets text rest u b h =
    let x = map_some (λ (x : List ℕ × List ℕ). (decimal (from_be_bytes w16 x.0), x.1)) (split_octets 2 octets) (text, rest) h in
    let s = octets_split 2 octets x.0 x.1 in
    let f : IsBytes x.0.0 = bytes_before x.0.0 x.0.1 (subst IsBytes s.1 b) in
    let n = from_be_bytes w16 x.0.0 in
    let le : from_be_bytes w16 x.0.0 ≤ 65535 = short_size x.0.0 s.0 f in
    read_front origin ShortField (decimal n) text rest octets x.0 s.1 x.2
    (ap (option_map (to_be_bytes w16)) (number_back 65535 n (omega arith) le) ∙ ap Some (be_bytes_2 x.0.0 n s.0 f refl))
field_back printed origin NumberField octets text rest u b h =
    let x = map_some (λ (x : List ℕ × List ℕ). (decimal (from_be_bytes w32 x.0), x.1)) (split_octets 4 octets) (text, rest) h in
    let s = octets_split 4 octets x.0 x.1 in
    let f : IsBytes x.0.0 = bytes_before x.0.0 x.0.1 (subst IsBytes s.1 b) in
    let n = from_be_bytes w32 x.0.0 in
    let le : from_be_bytes w32 x.0.0 ≤ 4294967295 = number_size x.0.0 s.0 f in
    read_front origin NumberField (decimal n) text rest octets x.0 s.1 x.2
    (ap (option_map (to_be_bytes w32)) (number_back 4294967295 n (omega arith) le) ∙ ap Some (be_bytes_4 x.0.0 n s.0 f refl))
field_back printed origin TimeField octets text rest u b h =
    let x = map_some (λ (x : List ℕ × List ℕ). (decimal (from_be_bytes w32 x.0), x.1)) (split_time octets) (text, rest) h in
    let t = time_split octets (split_octets 4 octets) x.0 refl x.1 in
    let s = octets_split 4 octets x.0 t.0 in
    let f : IsBytes x.0.0 = bytes_before x.0.0 x.0.1 (subst IsBytes s.1 b) in
    let n = from_be_bytes w32 x.0.0 in
    read_front origin TimeField (decimal n) text rest octets x.0 s.1 x.2
    (ap (option_map (to_be_bytes w32)) (time_back n t.1) ∙ ap Some (be_bytes_4 x.0.0 n s.0 f refl))
field_back printed origin AddressField octets text rest u b h =
    let x = map_some (λ (x : List ℕ × List ℕ). (address_text x.0, x.1)) (split_octets 4 octets) (text, rest) h in
    let s = octets_split 4 octets x.0 x.1 in
    let f : IsBytes x.0.0 = bytes_before x.0.0 x.0.1 (subst IsBytes s.1 b) in
    read_front origin AddressField (address_text x.0.0) text rest octets x.0 s.1 x.2 (address_back x.0.0 s.0 f)
field_back printed origin Address6Field octets text rest u b h =
    let x = map_some (λ (x : List ℕ × List ℕ). (groups_text x.0, x.1)) (split_octets 16 octets) (text, rest) h in
    let s = octets_split 16 octets x.0 x.1 in
    let f : IsBytes x.0.0 = bytes_before x.0.0 x.0.1 (subst IsBytes s.1 b) in
    read_front origin Address6Field (groups_text x.0.0) text rest octets x.0 s.1 x.2 (address6_back x.0.0 s.0 f)

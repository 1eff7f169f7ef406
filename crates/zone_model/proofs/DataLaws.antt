-- Data that tokens say has at most 65,535 octets.
use Rattle.std.proofs.Common.{◌≡◌, ◌∙◌, ℕ, suc, ◌+◌, ◌-◌, ◌*◌, ◌≤◌, Bool, true, false, cond, not, leb, ltb, eqb, ◌&&◌, List, [], ◌∷◌, ◌++◌, length, map, take, drop, refl, sym, ap, subst, arith, Option, Some, None, Result, Ok, Err, option_and_then, replicate, length-append}
use Rattle.std.proofs.lemmas.List.{length-replicate}
use borrow.Author.Tests.{leb-true, ltb-false, eqb-true}
use Rattle.std.specs.Option.{option_map}
use Rattle.std.specs.List.{slice_split, list_all}
use Rattle.std.specs.Char.{is_ascii_hexdigit}
use Rattle.std.specs.Int.{w16, w32, to_be_bytes}
use Rattle.zone_model.specs.declared.NameRefusal.{NameRefusal}
use Rattle.zone_model.specs.declared.NameRefusal.TheVariants.{LongName}
use Rattle.zone_model.specs.declared.DataRefusal.{DataRefusal}
use Rattle.zone_model.specs.declared.DataRefusal.TheVariants.{BadRdata}
use Rattle.zone_model.specs.Names.{Name, wire}
use Rattle.zone_model.specs.NameText.{name_of, completed, fitting}
use Rattle.zone_model.specs.Texts.{named, number, at_most, address, address_part, all_some, digits_from}
use Rattle.zone_model.specs.Tokens.{Token}
use Rattle.zone_model.specs.Refusals.{◌>>=◌}
use Rattle.zone_model.specs.DataWords.{unescaped, paired, time_of}
use Rattle.zone_model.specs.Types.{Field, NameField, ShortField, NumberField, TimeField, AddressField, Address6Field, Form, Fields, Strings, form_of}
use Rattle.zone_model.specs.DataForms.{form_fits}
use Rattle.zone_model.proofs.TypeLaws.{few_fields}
use Rattle.zone_model.specs.Addresses.{address6, by_double, filled, whole_address, groups_of, last_groups_of, parts_of, double_at}
use Rattle.zone_model.specs.Data.{field_octets, word_octets, ahead, taken, read_fields, string_octets, read_strings, read_digits, word_number, read_counted, read_generic, is_generic, of_form, read_formed, read_typed, data_of}

-- ---- names

fits_short : (labels name : Name) → fitting labels ≡ Ok name → length (wire name) ≤ 255
unfolding fitting
fits_short labels name h = by_test (ltb 255 (length (wire labels))) refl h
  where
    by_test : (t : Bool) → ltb 255 (length (wire labels)) ≡ t → cond t (Err (LongName (length (wire labels)))) (Ok labels) ≡ Ok name → length (wire name) ≤ 255
    by_test true e k = absurd cc
    by_test false e k = let s : labels ≡ name = cc in subst (λ (n : Name). length (wire n) ≤ 255) s (ltb-false 255 (length (wire labels)) e)

completed_short : (origin : Name) (r : Result (Name × Bool) NameRefusal) (name : Name) → completed origin r ≡ Ok name → length (wire name) ≤ 255
unfolding completed
completed_short origin (Err e) name h = absurd cc
completed_short origin (Ok x) name h = fits_short (cond x.1 x.0 (x.0 ++ origin)) name h

one_letter : (origin name : Name) (a b : Bool) (r : Result Name NameRefusal) → length (wire origin) ≤ 255 → (r ≡ Ok name → length (wire name) ≤ 255) → cond a (Ok origin) (cond b (Ok []) r) ≡ Ok name → length (wire name) ≤ 255
one_letter origin name true b r o f h = let s : origin ≡ name = cc in subst (λ (n : Name). length (wire n) ≤ 255) s o
one_letter origin name false true r o f h = let s : [] ≡ name = cc in subst (λ (n : Name). length (wire n) ≤ 255) s (omega arith)
one_letter origin name false false r o f h = f h

name_short : (origin : Name) (text : List ℕ) (name : Name) → length (wire origin) ≤ 255 → name_of text origin ≡ Ok name → length (wire name) ≤ 255
unfolding name_of
name_short origin [] name o h = absurd cc
name_short origin (c ∷ []) name o h = one_letter origin name (eqb c 64) (eqb c 46) _ o (completed_short origin _ name) h
name_short origin (c ∷ d ∷ text) name o h = completed_short origin _ name h

-- ---- fields

map_short : {A : Type 0} (f : A → List ℕ) (o : Option A) (octets : List ℕ) (n : ℕ) → ((x : A) → o ≡ Some x → length (f x) ≤ n) → option_map f o ≡ Some octets → length octets ≤ n
map_short f None octets n g h = absurd cc
map_short f (Some x) octets n g h = let e : f x ≡ octets = cc in subst (λ (l : List ℕ). length l ≤ n) e (g x refl)

named_is : (r : Result Name NameRefusal) (name : Name) → named r ≡ Some name → r ≡ Ok name
named_is (Ok x) name h = let e : x ≡ name = cc in ap Ok e
named_is (Err e) name h = absurd cc

all_length : (os : List (Option ℕ)) (octets : List ℕ) → all_some os ≡ Some octets → length octets ≡ length os
all_length [] octets h = let e : [] ≡ octets = cc in ap (λ (l : List ℕ). length l) (sym e)
all_length (None ∷ os) octets h = absurd cc
all_length (Some x ∷ os) octets h = by_rest (all_some os) (all_length os) h
  where
    by_rest : (r : Option (List ℕ)) → ((xs : List ℕ) → r ≡ Some xs → length xs ≡ length os) → option_map (λ xs. x ∷ xs) r ≡ Some octets → length octets ≡ length (Some x ∷ os)
    by_rest None f k = absurd cc
    by_rest (Some xs) f k = let s : x ∷ xs ≡ octets = cc in ap (λ (l : List ℕ). length l) (sym s) ∙ ap suc (f xs refl)

parts_count : (parts : List (List ℕ)) → length (map address_part parts) ≡ length parts
parts_count [] = refl
parts_count (part ∷ parts) = ap suc (parts_count parts)

address_short : (text octets : List ℕ) → address text ≡ Some octets → length octets ≤ 255
unfolding address
address_short text octets h = by_test (eqb (length parts) 4) refl h
  where
    parts : List (List ℕ)
    parts = slice_split (λ b. eqb b 46) text

    by_test : (t : Bool) → eqb (length parts) 4 ≡ t → cond t (all_some (map address_part parts)) None ≡ Some octets → length octets ≤ 255
    by_test true e k = omega (arith, all_length (map address_part parts) octets k, parts_count parts, eqb-true (length parts) 4 e)
    by_test false e k = absurd cc

filled_short : (front back octets : List ℕ) → filled front back ≡ Some octets → length octets ≤ 255
filled_short front back octets h = by_test (leb (length front + length back) 14) refl h
  where
    whole : List ℕ
    whole = front ++ replicate (16 - (length front + length back)) 0 ++ back

    by_test : (t : Bool) → leb (length front + length back) 14 ≡ t → cond t (Some whole) None ≡ Some octets → length octets ≤ 255
    by_test true e k =
        let s : whole ≡ octets = cc in
        let le : length front + length back ≤ 14 = leb-true (length front + length back) 14 e in
        omega (arith, ap (λ (l : List ℕ). length l) s, length-append (front ++ replicate (16 - (length front + length back)) 0) back, length-append front (replicate (16 - (length front + length back)) 0), length-replicate {A = ℕ} (16 - (length front + length back)) 0)
    by_test false e k = absurd cc

and_then_short : {A : Type 0} (f : A → Option (List ℕ)) (o : Option A) (octets : List ℕ) → ((x : A) (y : List ℕ) → f x ≡ Some y → length y ≤ 255) → option_and_then f o ≡ Some octets → length octets ≤ 255
and_then_short f None octets g h = absurd cc
and_then_short f (Some x) octets g h = g x octets h

whole_short : (x octets : List ℕ) → whole_address x ≡ Some octets → length octets ≤ 255
whole_short x octets h = by_test (eqb (length x) 16) refl h
  where
    by_test : (t : Bool) → eqb (length x) 16 ≡ t → cond t (Some x) None ≡ Some octets → length octets ≤ 255
    by_test true e k = let s : x ≡ octets = cc in omega (arith, ap (λ (l : List ℕ). length l) s, eqb-true (length x) 16 e)
    by_test false e k = absurd cc

double_short : (text : List ℕ) (at : Option ℕ) (octets : List ℕ) → by_double text at ≡ Some octets → length octets ≤ 255
double_short text None octets h = and_then_short whole_address (last_groups_of (parts_of text)) octets whole_short h
double_short text (Some n) octets h =
    and_then_short (λ front. option_and_then (filled front) (last_groups_of (parts_of (drop (n + 2) text)))) (groups_of (parts_of (take n text))) octets
    (λ front y k. and_then_short (filled front) (last_groups_of (parts_of (drop (n + 2) text))) y (filled_short front) k) h

address6_short : (text octets : List ℕ) → address6 text ≡ Some octets → length octets ≤ 255
unfolding address6
address6_short text octets h = double_short text (double_at text) octets h

field_short : (origin : Name) (field : Field) (text octets : List ℕ) → length (wire origin) ≤ 255 → field_octets origin field text ≡ Some octets → length octets ≤ 255
field_short origin NameField text octets o h = map_short wire (named (name_of text origin)) octets 255 (λ name e. name_short origin text name o (named_is (name_of text origin) name e)) h
field_short origin ShortField text octets o h = map_short (to_be_bytes w16) (number 65535 text) octets 255 (λ n e. omega arith) h
field_short origin NumberField text octets o h = map_short (to_be_bytes w32) (number 4294967295 text) octets 255 (λ n e. omega arith) h
field_short origin TimeField text octets o h = map_short (to_be_bytes w32) (time_of text) octets 255 (λ n e. omega arith) h
field_short origin AddressField text octets o h = address_short text octets h
field_short origin Address6Field text octets o h = address6_short text octets h

word_short : (origin : Name) (field : Field) (t : Token) (octets : List ℕ) → length (wire origin) ≤ 255 → word_octets origin field t ≡ Some octets → length octets ≤ 255
word_short origin field t octets o h = by_quoted t.quoted h
  where
    by_quoted : (q : Bool) → cond q None (field_octets origin field t.text) ≡ Some octets → length octets ≤ 255
    by_quoted true k = absurd cc
    by_quoted false k = field_short origin field t.text octets o k

ahead_length : (front : List ℕ) (r : Result (List ℕ) DataRefusal) (octets : List ℕ) → ahead front r ≡ Ok octets → (back : List ℕ) × (r ≡ Ok back) × (length octets ≡ length front + length back)
ahead_length front (Err e) octets h = absurd cc
ahead_length front (Ok back) octets h = let s : front ++ back ≡ octets = cc in (back, refl, ap (λ (l : List ℕ). length l) (sym s) ∙ length-append front back)

taken_length : (at : ℕ) (o : Option (List ℕ)) (r : Result (List ℕ) DataRefusal) (octets : List ℕ) → ((x : List ℕ) → o ≡ Some x → length x ≤ 255) → taken at o r ≡ Ok octets → (back : List ℕ) × (r ≡ Ok back) × (length octets ≤ 255 + length back)
taken_length at None r octets f h = absurd cc
taken_length at (Some x) r octets f h = let a = ahead_length x r octets h in let le : length x ≤ 255 = f x refl in (a.0, a.1, omega (arith, a.2))

fields_short : (origin : Name) (at : ℕ) (fields : List Field) (tokens : List Token) (octets : List ℕ) → length (wire origin) ≤ 255 → read_fields origin at fields tokens ≡ Ok octets → length octets ≤ 255 * length fields
unfolding read_fields
fields_short origin at [] [] octets o h = let e : [] ≡ octets = cc in omega (arith, ap (λ (l : List ℕ). length l) e)
fields_short origin at [] (t ∷ tokens) octets o h = absurd cc
fields_short origin at (field ∷ fields) [] octets o h = absurd cc
fields_short origin at (field ∷ fields) (t ∷ tokens) octets o h =
    let a = taken_length at (word_octets origin field t) (read_fields origin (at + 1) fields tokens) octets (λ x e. word_short origin field t x o e) h in
    omega (arith, a.2, fields_short origin (at + 1) fields tokens a.0 o a.1)

-- ---- strings

bind_ok : {A B : Type 0} (r : Result A DataRefusal) (f : A → Result B DataRefusal) (y : B) → (r >>= f) ≡ Ok y → (x : A) × (r ≡ Ok x) × (f x ≡ Ok y)
bind_ok (Ok x) f y h = (x, refl, h)
bind_ok (Err e) f y h = absurd cc

strings_short : (at room : ℕ) (tokens : List Token) (octets : List ℕ) → read_strings at room tokens ≡ Ok octets → length octets ≤ room
unfolding read_strings
strings_short at room [] octets h = let e : [] ≡ octets = cc in omega (arith, ap (λ (l : List ℕ). length l) e)
strings_short at room (t ∷ tokens) octets h =
    let b = bind_ok (string_octets at (unescaped t.text)) (λ (x : List ℕ). cond (ltb room (length x)) (Err (BadRdata at)) (ahead x (read_strings (at + 1) (room - length x) tokens))) octets h in
    by_room b.0 (strings_short (at + 1) (room - length b.0) tokens) (ltb room (length b.0)) refl b.2
  where
    by_room : (x : List ℕ) → ((y : List ℕ) → read_strings (at + 1) (room - length x) tokens ≡ Ok y → length y ≤ room - length x) → (t : Bool) → ltb room (length x) ≡ t → cond t (Err (BadRdata at)) (ahead x (read_strings (at + 1) (room - length x) tokens)) ≡ Ok octets → length octets ≤ room
    by_room x f true e k = absurd cc
    by_room x f false e k =
        let le : length x ≤ room = ltb-false room (length x) e in
        let a = ahead_length x (read_strings (at + 1) (room - length x) tokens) octets k in
        omega (arith, a.2, f a.0 a.1)

-- ---- digits

digits_length : (at left : ℕ) (tokens : List Token) (digits : List ℕ) → read_digits at left tokens ≡ Ok digits → length digits ≤ left
unfolding read_digits
digits_length at left [] digits h = by_left (eqb left 0) h
  where
    by_left : (t : Bool) → cond t (Ok []) (Err (BadRdata at)) ≡ Ok digits → length digits ≤ left
    by_left true k = let e : [] ≡ digits = cc in omega (arith, ap (λ (l : List ℕ). length l) e)
    by_left false k = absurd cc
digits_length at left (t ∷ tokens) digits h = by_test (digits_length (at + 1) (left - length t.text) tokens) (not t.quoted && list_all is_ascii_hexdigit t.text) (leb (length t.text) left) refl h
  where
    by_test : ((y : List ℕ) → read_digits (at + 1) (left - length t.text) tokens ≡ Ok y → length y ≤ left - length t.text) → (a b : Bool) → leb (length t.text) left ≡ b → cond (a && b) (ahead t.text (read_digits (at + 1) (left - length t.text) tokens)) (Err (BadRdata at)) ≡ Ok digits → length digits ≤ left
    by_test f true true e k =
        let le : length t.text ≤ left = leb-true (length t.text) left e in
        let a = ahead_length t.text (read_digits (at + 1) (left - length t.text) tokens) digits k in
        omega (arith, a.2, f a.0 a.1)
    by_test f true false e k = absurd cc
    by_test f false b e k = absurd cc

paired_short : (digits : List ℕ) → 2 * length (paired digits) ≤ length digits
unfolding paired
paired_short [] = omega arith
paired_short (a ∷ []) = omega arith
paired_short (a ∷ b ∷ digits) = omega (arith, paired_short digits)

number_most : (most : ℕ) (text : List ℕ) (n : ℕ) → number most text ≡ Some n → n ≤ most
unfolding number
number_most most [] n h = absurd cc
number_most most (c ∷ text) n h = by_digits (digits_from 0 (c ∷ text)) h
  where
    by_digits : (o : Option ℕ) → option_and_then (at_most most) o ≡ Some n → n ≤ most
    by_digits None k = absurd cc
    by_digits (Some m) k = by_most m (leb m most) refl k
      where
        by_most : (m : ℕ) (t : Bool) → leb m most ≡ t → cond t (Some m) None ≡ Some n → n ≤ most
        by_most m true e j = let s : m ≡ n = cc in subst (λ (x : ℕ). x ≤ most) s (leb-true m most e)
        by_most m false e j = absurd cc

counted_short : (o : Option ℕ) (tokens : List Token) (octets : List ℕ) → ((n : ℕ) → o ≡ Some n → n ≤ 65535) → read_counted o tokens ≡ Ok octets → length octets ≤ 65535
counted_short None tokens octets f h = absurd cc
counted_short (Some n) tokens octets f h =
    let b = bind_ok (read_digits 2 (2 * n) tokens) (λ (digits : List ℕ). Ok (paired digits)) octets h in
    let s : paired b.0 ≡ octets = cc in
    let most : n ≤ 65535 = f n refl in
    omega (arith, ap (λ (l : List ℕ). length l) s, paired_short b.0, digits_length 2 (2 * n) tokens b.0 b.1)

generic_short : (tokens : List Token) (octets : List ℕ) → read_generic tokens ≡ Ok octets → length octets ≤ 65535
unfolding read_generic
generic_short [] octets h = absurd cc
generic_short (t ∷ tokens) octets h = counted_short (word_number 65535 t) tokens octets (λ n e. by_quoted t.quoted n e) h
  where
    by_quoted : (q : Bool) (n : ℕ) → cond q None (number 65535 t.text) ≡ Some n → n ≤ 65535
    by_quoted true n e = absurd cc
    by_quoted false n e = number_most 65535 t.text n e

-- ---- data

formed_short : (origin : Name) (rtype : ℕ) (o : Option Form) (tokens : List Token) (octets : List ℕ) → length (wire origin) ≤ 255 → form_of rtype ≡ o → read_formed origin o tokens ≡ Ok octets → length octets ≤ 65535
formed_short origin rtype None tokens octets l e h = absurd cc
formed_short origin rtype (Some (Fields fields)) tokens octets l e h = omega (arith, fields_short origin 0 fields tokens octets l h, few_fields rtype fields e)
formed_short origin rtype (Some Strings) [] octets l e h = absurd cc
formed_short origin rtype (Some Strings) (t ∷ tokens) octets l e h = strings_short 0 65535 (t ∷ tokens) octets h

form_same : (rtype : ℕ) (x octets : List ℕ) → of_form rtype x ≡ Ok octets → x ≡ octets
form_same rtype x octets h = by_test (form_fits rtype x) h
  where
    by_test : (t : Bool) → cond t (Ok x) (Err (BadRdata 0)) ≡ Ok octets → x ≡ octets
    by_test true k = cc
    by_test false k = absurd cc

pub data_short : (origin : Name) (rtype : ℕ) (tokens : List Token) (octets : List ℕ) → length (wire origin) ≤ 255 → data_of origin rtype tokens ≡ Ok octets → length octets ≤ 65535
unfolding data_of
data_short origin rtype tokens octets l h = by_form (is_generic tokens) h
  where
    by_form : (g : Bool) → cond g (read_generic (drop 1 tokens) >>= of_form rtype) (read_typed origin rtype tokens) ≡ Ok octets → length octets ≤ 65535
    by_form true k =
        let b = bind_ok (read_generic (drop 1 tokens)) (of_form rtype) octets k in
        subst (λ (x : List ℕ). length x ≤ 65535) (form_same rtype b.0 octets b.2) (generic_short (drop 1 tokens) b.0 b.1)
    by_form false k = formed_short origin rtype (form_of rtype) tokens octets l refl k

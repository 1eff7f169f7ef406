-- Data that tokens say is of its type's form.
use Rattle.std.proofs.Common.{◌≡◌, ◌∙◌, ℕ, zero, suc, ◌+◌, ◌-◌, ◌*◌, ◌<◌, ◌≤◌, Bool, true, false, cond, not, ◌&&◌, eqb, leb, ltb, List, [], ◌∷◌, ◌++◌, length, drop, Option, Some, None, Result, Ok, Err, option_and_then, refl, sym, ap, subst, arith, length-append}
use Rattle.std.proofs.lemmas.Bool.Decides.{nat_tests}
use Rattle.std.proofs.lemmas.List.{drop_at}
use Rattle.std.proofs.lemmas.Nat.{from_be_bytes-to_be_bytes_4}
use Rattle.std.proofs.lemmas.Bool.{and_parts}
use borrow.Author.Tests.{leb-true, ltb-false}
use Rattle.std.specs.Option.{option_map}
use Rattle.std.specs.List.{AllByRecursion, list_all}
use Rattle.std.specs.Char.{is_ascii_digit, is_ascii_hexdigit}
use Rattle.std.specs.Int.{w16, w32, to_be_bytes, from_be_bytes}
use Rattle.zone_model.specs.Names.{Name, IsName, IsLabel, wire}
use Rattle.zone_model.specs.NameText.{name_of}
use Rattle.zone_model.specs.Texts.{named, number}
use Rattle.zone_model.specs.Tokens.{Token}
use Rattle.zone_model.specs.Refusals.{◌>>=◌}
use Rattle.zone_model.specs.declared.NameRefusal.{NameRefusal}
use Rattle.zone_model.specs.declared.DataRefusal.{DataRefusal}
use Rattle.zone_model.specs.declared.DataRefusal.TheVariants.{BadRdata, LongString}
use Rattle.zone_model.specs.DataWords.{most_time, time_of, Behind, Plain, Slash, One, Two, octets_from, unescaped, paired}
use Rattle.zone_model.specs.Types.{Field, NameField, ShortField, NumberField, TimeField, AddressField, Address6Field, Form, Fields, Strings, form_of}
use Rattle.zone_model.specs.Splits.{split_octets}
use Rattle.zone_model.specs.DataForms.{field_rest, fits_behind, fields_fit, strings_fit, fits_form, form_fits}
use Rattle.zone_model.specs.Data.{field_octets, ahead, word_octets, taken, read_fields, string_octets, read_strings, read_digits, word_number, read_counted, read_generic, is_generic, of_form, read_formed, read_typed, data_of}
use Rattle.zone_model.proofs.SplitLemmas.{map_some, cond_some, octets_back, name_back}
use Rattle.zone_model.proofs.DataLaws.{data_short}
use Rattle.dns_name.proofs.BodyLemmas.{all_append}
use Rattle.rr_data.proofs.FormLemmas.{all_append as all_pass}
use Rattle.report_laws.specs.Octets.{IsOctet, AllOctets}
use Rattle.report_laws.proofs.EntryLemmas.{IsData}
use Rattle.report_laws.proofs.NameLemmas.{name_is}
use Rattle.report_laws.proofs.WordLemmas.{time_most, address_is, address6_is, all_digits}

abbrev pub IsTokenText : Token → Type 0
IsTokenText t = AllOctets t.text

-- tokens whose texts are octets
abbrev pub AllTexts : List Token → Type 0
AllTexts tokens = AllByRecursion IsTokenText tokens

-- ---- names as octets

labels_small : (name : Name) → AllByRecursion IsLabel name → AllOctets (wire name)
labels_small [] h = (omega arith, tt)
labels_small (label ∷ name) h = ((let short = h.0.short in omega arith), all_append IsOctet label (wire name) h.0.octets (labels_small name h.1))

pub named_is : (text : List ℕ) (origin name : Name) → AllOctets text → IsName origin → named (name_of text origin) ≡ Some name → IsName name
named_is text origin name t o h = by_name (name_of text origin) refl h
  where
    by_name : (r : Result Name NameRefusal) → name_of text origin ≡ r → named r ≡ Some name → IsName name
    by_name (Ok x) e k = let is : x ≡ name = cc in subst IsName is (name_is text origin x t o e)
    by_name (Err refusal) e k = absurd cc

-- ---- fields

-- octets of a field, which are told apart from what stands behind them
record IsField (field : Field) (octets : List ℕ) : Type 0 where
  bytes : AllOctets octets
  behind : (back : List ℕ) → field_rest field (octets ++ back) ≡ Some back

short_bytes : (n : ℕ) → AllOctets (to_be_bytes w16 n)
short_bytes n = (omega arith, (omega arith, tt))

number_bytes : (n : ℕ) → AllOctets (to_be_bytes w32 n)
number_bytes n = (omega arith, (omega arith, (omega arith, (omega arith, tt))))

split_behind : (n : ℕ) (octets back : List ℕ) → length octets ≡ n → option_map (λ (x : List ℕ × List ℕ). x.1) (split_octets n (octets ++ back)) ≡ Some back
split_behind n octets back e = ap (λ (k : ℕ). option_map (λ (x : List ℕ × List ℕ). x.1) (split_octets k (octets ++ back))) (sym e) ∙ ap (option_map (λ (x : List ℕ × List ℕ). x.1)) (octets_back octets back)

name_field : (origin : Name) (text octets : List ℕ) → AllOctets text → IsName origin → option_map wire (named (name_of text origin)) ≡ Some octets → IsField NameField octets
name_field origin text octets t o h =
    let m = map_some wire (named (name_of text origin)) octets h in
    let name = named_is text origin m.0 t o m.1 in
    subst (IsField NameField) m.2 (record { bytes = labels_small m.0 name.each; behind = λ back. ap (option_map (λ (x : Name × List ℕ). x.1)) (name_back m.0 back name) })

time_field : (n : ℕ) → n ≤ most_time → IsField TimeField (to_be_bytes w32 n)
time_field n le = record { bytes = number_bytes n; behind = λ back. behind back }
  where
    behind : (back : List ℕ) → field_rest TimeField (to_be_bytes w32 n ++ back) ≡ Some back
    behind back =
        let value : from_be_bytes w32 (to_be_bytes w32 n) ≡ n = from_be_bytes-to_be_bytes_4 n (omega arith) in
        let test : leb n most_time ≡ true = grind (arith, nat_tests) in
        let pair : List ℕ × List ℕ = (to_be_bytes w32 n, back) in
        ap (λ (o : Option (List ℕ × List ℕ)). option_map (λ (x : List ℕ × List ℕ). x.1) (option_and_then (λ (x : List ℕ × List ℕ). cond (leb (from_be_bytes w32 x.0) most_time) (Some x) None) o)) (octets_back (to_be_bytes w32 n) back)
        ∙ ap (λ (b : Bool). option_map (λ (x : List ℕ × List ℕ). x.1) (cond b (Some pair) None)) (ap (λ (k : ℕ). leb k most_time) value ∙ test)

field_is : (origin : Name) (field : Field) (text octets : List ℕ) → AllOctets text → IsName origin → field_octets origin field text ≡ Some octets → IsField field octets
field_is origin NameField text octets t o h = name_field origin text octets t o h
field_is origin ShortField text octets t o h =
    let m = map_some (to_be_bytes w16) (number 65535 text) octets h in
    subst (IsField ShortField) m.2 (record { bytes = short_bytes m.0; behind = λ back. split_behind 2 (to_be_bytes w16 m.0) back refl })
field_is origin NumberField text octets t o h =
    let m = map_some (to_be_bytes w32) (number 4294967295 text) octets h in
    subst (IsField NumberField) m.2 (record { bytes = number_bytes m.0; behind = λ back. split_behind 4 (to_be_bytes w32 m.0) back refl })
field_is origin TimeField text octets t o h =
    let m = map_some (to_be_bytes w32) (time_of text) octets h in
    subst (IsField TimeField) m.2 (time_field m.0 (time_most text m.0 m.1))
field_is origin AddressField text octets t o h = let a = address_is text octets h in record { bytes = a.bytes; behind = λ back. split_behind 4 octets back a.length }
field_is origin Address6Field text octets t o h = let a = address6_is text octets h in record { bytes = a.bytes; behind = λ back. split_behind 16 octets back a.length }

word_is : (origin : Name) (field : Field) (t : Token) (octets : List ℕ) → IsTokenText t → IsName origin → word_octets origin field t ≡ Some octets → IsField field octets
word_is origin field t octets b o h = by_quote t.quoted h
  where
    by_quote : (q : Bool) → cond q None (field_octets origin field t.text) ≡ Some octets → IsField field octets
    by_quote true k = absurd cc
    by_quote false k = field_is origin field t.text octets b o k

-- ---- rows of fields

ahead_is : (front : List ℕ) (r : Result (List ℕ) DataRefusal) (octets : List ℕ) → ahead front r ≡ Ok octets → (back : List ℕ) × (r ≡ Ok back) × (front ++ back ≡ octets)
ahead_is front (Err e) octets h = absurd cc
ahead_is front (Ok back) octets h = (back, refl, cc)

-- octets that are so
record Fits (bytes : List ℕ) (test : Bool) : Type 0 where
  pub small : AllOctets bytes
  pub fits : test ≡ true

taken_is : (field : Field) (fields : List Field) (at : ℕ) (o : Option (List ℕ)) (r : Result (List ℕ) DataRefusal) (octets : List ℕ) → ((x : List ℕ) → o ≡ Some x → IsField field x) → ((x : List ℕ) → r ≡ Ok x → Fits x (fields_fit fields x))
    → taken at o r ≡ Ok octets → Fits octets (fields_fit (field ∷ fields) octets)
unfolding fields_fit
taken_is field fields at None r octets f g h = absurd cc
taken_is field fields at (Some x) r octets f g h =
    let a = ahead_is x r octets h in
    let first = f x refl in
    let more = g a.0 a.1 in
    subst (λ (l : List ℕ). Fits l (fits_behind (field_rest field l) (fields_fit fields))) a.2
    (record { small = all_append IsOctet x a.0 first.bytes more.small; fits = ap (λ (o : Option (List ℕ)). fits_behind o (fields_fit fields)) (first.behind a.0) ∙ more.fits })

fields_are : (origin : Name) (at : ℕ) (fields : List Field) (tokens : List Token) (octets : List ℕ) → AllTexts tokens → IsName origin → read_fields origin at fields tokens ≡ Ok octets → Fits octets (fields_fit fields octets)
unfolding read_fields fields_fit
fields_are origin at [] [] octets t o h = let is : [] ≡ octets = cc in subst (λ (l : List ℕ). Fits l (eqb (length l) 0)) is (record { small = tt; fits = refl })
fields_are origin at [] (token ∷ tokens) octets t o h = absurd cc
fields_are origin at (field ∷ fields) [] octets t o h = absurd cc
fields_are origin at (field ∷ fields) (token ∷ tokens) octets t o h =
    taken_is field fields at (word_octets origin field token) (read_fields origin (at + 1) fields tokens) octets (λ x e. word_is origin field token x t.0 o e) (λ x e. fields_are origin (at + 1) fields tokens x t.1 o e) h

-- ---- strings

onto_small : (c : ℕ) (o : Option (List ℕ)) (octets : List ℕ) → c < 256 → ((x : List ℕ) → o ≡ Some x → AllOctets x) → option_map (λ cs. c ∷ cs) o ≡ Some octets → AllOctets octets
onto_small c o octets small f h = let m = map_some (λ (cs : List ℕ). c ∷ cs) o octets h in subst AllOctets m.2 (small, f m.0 m.1)

unescaped_small : (state : Behind) (text octets : List ℕ) → AllOctets text → octets_from state text ≡ Some octets → AllOctets octets
unfolding octets_from
unescaped_small Plain [] octets t h = let is : [] ≡ octets = cc in subst AllOctets is tt
unescaped_small Slash [] octets t h = absurd cc
unescaped_small (One value) [] octets t h = absurd cc
unescaped_small (Two value) [] octets t h = absurd cc
unescaped_small Plain (c ∷ text) octets t h = by_test (unescaped_small Slash text octets t.1) (λ x. unescaped_small Plain text x t.1) (eqb c 92) h
  where
    by_test : (octets_from Slash text ≡ Some octets → AllOctets octets) → ((x : List ℕ) → octets_from Plain text ≡ Some x → AllOctets x) → (b : Bool) → cond b (octets_from Slash text) (option_map (λ cs. c ∷ cs) (octets_from Plain text)) ≡ Some octets → AllOctets octets
    by_test f g true k = f k
    by_test f g false k = onto_small c (octets_from Plain text) octets t.0 g k
unescaped_small Slash (c ∷ text) octets t h = by_test (unescaped_small (One (c - 48)) text octets t.1) (λ x. unescaped_small Plain text x t.1) (is_ascii_digit c) h
  where
    by_test : (octets_from (One (c - 48)) text ≡ Some octets → AllOctets octets) → ((x : List ℕ) → octets_from Plain text ≡ Some x → AllOctets x) → (b : Bool) → cond b (octets_from (One (c - 48)) text) (option_map (λ cs. c ∷ cs) (octets_from Plain text)) ≡ Some octets → AllOctets octets
    by_test f g true k = f k
    by_test f g false k = onto_small c (octets_from Plain text) octets t.0 g k
unescaped_small (One value) (c ∷ text) octets t h =
    let s = cond_some (is_ascii_digit c) (octets_from (Two (10 * value + (c - 48))) text) octets h in unescaped_small (Two (10 * value + (c - 48))) text octets t.1 s.1
unescaped_small (Two value) (c ∷ text) octets t h =
    let s = cond_some (is_ascii_digit c && leb (10 * value + (c - 48)) 255) (option_map (λ cs. (10 * value + (c - 48)) ∷ cs) (octets_from Plain text)) octets h in
    let le : 10 * value + (c - 48) ≤ 255 = leb-true (10 * value + (c - 48)) 255 (and_parts (is_ascii_digit c) (leb (10 * value + (c - 48)) 255) s.0).1 in
    onto_small (10 * value + (c - 48)) (octets_from Plain text) octets (omega arith) (λ x. unescaped_small Plain text x t.1) s.1

pub bound : {A B E : Type 0} (r : Result A E) (f : A → Result B E) (y : B) → (r >>= f) ≡ Ok y → (x : A) × (r ≡ Ok x) × (f x ≡ Ok y)
bound (Ok x) f y h = (x, refl, h)
bound (Err e) f y h = absurd cc

-- a string's octets behind their number
record IsString (octets : List ℕ) : Type 0 where
  inner : List ℕ
  is : length inner ∷ inner ≡ octets
  bytes : AllOctets (length inner ∷ inner)

string_is : (at : ℕ) (text octets : List ℕ) → AllOctets text → string_octets at (unescaped text) ≡ Ok octets → IsString octets
string_is at text octets t h = by_text (unescaped text) (λ x. unescaped_small Plain text x t) h
  where
    by_text : (o : Option (List ℕ)) → ((x : List ℕ) → o ≡ Some x → AllOctets x) → string_octets at o ≡ Ok octets → IsString octets
    by_text None f k = absurd cc
    by_text (Some x) f k = by_length (ltb 255 (length x)) refl k
      where
        by_length : (b : Bool) → ltb 255 (length x) ≡ b → cond b (Err (LongString at)) (Ok (length x ∷ x)) ≡ Ok octets → IsString octets
        by_length true e j = absurd cc
        by_length false e j = let le : length x ≤ 255 = ltb-false 255 (length x) e in record { inner = x; is = cc; bytes = (omega arith, f x refl) }

-- whatever the room that is left, it is enough
record AreStrings (octets : List ℕ) : Type 0 where
  small : AllOctets octets
  fits : (left : ℕ) → length octets ≤ left → strings_fit left octets ≡ true

one_more : (s octets more : List ℕ) → IsString s → AreStrings more → s ++ more ≡ octets → AreStrings octets
unfolding strings_fit
one_more s octets more i m e =
    let inner = i.inner in
    let whole : length inner ∷ (inner ++ more) ≡ octets = ap (λ (l : List ℕ). l ++ more) i.is ∙ e in
    subst AreStrings whole (record { small = (i.bytes.0, all_append IsOctet inner more i.bytes.1 m.small); fits = λ left le. fit left le })
  where
    fit : (left : ℕ) → length (length i.inner ∷ (i.inner ++ more)) ≤ left → strings_fit left (length i.inner ∷ (i.inner ++ more)) ≡ true
    fit zero le = absurd (omega arith)
    fit (suc left) le =
        let size : length (i.inner ++ more) ≡ length i.inner + length more = length-append i.inner more in
        let test : leb (length i.inner) (length (i.inner ++ more)) ≡ true = grind (arith, nat_tests) in
        ap (λ (b : Bool). b && strings_fit left (drop (length i.inner) (i.inner ++ more))) test
        ∙ ap (strings_fit left) (drop_at i.inner more (length i.inner) refl) ∙ m.fits left (omega arith)

no_strings : AreStrings []
unfolding strings_fit
no_strings = record { small = tt; fits = λ left le. none left }
  where
    none : (left : ℕ) → strings_fit left [] ≡ true
    none zero = refl
    none (suc left) = refl

strings_are : (at room : ℕ) (tokens : List Token) (octets : List ℕ) → AllTexts tokens → read_strings at room tokens ≡ Ok octets → AreStrings octets
unfolding read_strings
strings_are at room [] octets t h = let is : [] ≡ octets = cc in subst AreStrings is no_strings
strings_are at room (token ∷ tokens) octets t h =
    let b = bound (string_octets at (unescaped token.text)) (λ (x : List ℕ). cond (ltb room (length x)) (Err (BadRdata at)) (ahead x (read_strings (at + 1) (room - length x) tokens))) octets h in
    by_room b.0 (string_is at token.text b.0 t.0 b.1) (λ y. strings_are (at + 1) (room - length b.0) tokens y t.1) (ltb room (length b.0)) b.2
  where
    by_room : (x : List ℕ) → IsString x → ((y : List ℕ) → read_strings (at + 1) (room - length x) tokens ≡ Ok y → AreStrings y) → (c : Bool) → cond c (Err (BadRdata at)) (ahead x (read_strings (at + 1) (room - length x) tokens)) ≡ Ok octets → AreStrings octets
    by_room x i f true k = absurd cc
    by_room x i f false k = let a = ahead_is x (read_strings (at + 1) (room - length x) tokens) octets k in one_more x octets a.0 i (f a.0 a.1) a.2

strings_some : (at room : ℕ) (token : Token) (tokens : List Token) (octets : List ℕ) → AllTexts (token ∷ tokens) → read_strings at room (token ∷ tokens) ≡ Ok octets → ltb 0 (length octets) ≡ true
unfolding read_strings
strings_some at room token tokens octets t h =
    let b = bound (string_octets at (unescaped token.text)) (λ (x : List ℕ). cond (ltb room (length x)) (Err (BadRdata at)) (ahead x (read_strings (at + 1) (room - length x) tokens))) octets h in
    by_room b.0 (string_is at token.text b.0 t.0 b.1) (ltb room (length b.0)) b.2
  where
    some : (l m : List ℕ) → l ≡ m → 0 < length l → ltb 0 (length m) ≡ true
    some l m e lt = let same : length l ≡ length m = ap (λ (x : List ℕ). length x) e in grind (arith, nat_tests)

    by_room : (x : List ℕ) → IsString x → (c : Bool) → cond c (Err (BadRdata at)) (ahead x (read_strings (at + 1) (room - length x) tokens)) ≡ Ok octets → ltb 0 (length octets) ≡ true
    by_room x i true k = absurd cc
    by_room x i false k =
        let a = ahead_is x (read_strings (at + 1) (room - length x) tokens) octets k in
        some (length i.inner ∷ (i.inner ++ a.0)) octets (ap (λ (l : List ℕ). l ++ a.0) i.is ∙ a.2) (omega arith)

-- ---- data of any type

digits_are : (at left : ℕ) (tokens : List Token) (digits : List ℕ) → read_digits at left tokens ≡ Ok digits → list_all is_ascii_hexdigit digits ≡ true
unfolding read_digits
digits_are at left [] digits h = by_test (eqb left 0) h
  where
    by_test : (b : Bool) → cond b (Ok []) (Err (BadRdata at)) ≡ Ok digits → list_all is_ascii_hexdigit digits ≡ true
    by_test true k = let is : [] ≡ digits = cc in ap (list_all is_ascii_hexdigit) (sym is)
    by_test false k = absurd cc
digits_are at left (t ∷ tokens) digits h = by_test (λ y. digits_are (at + 1) (left - length t.text) tokens y) (not t.quoted) (list_all is_ascii_hexdigit t.text) (leb (length t.text) left) refl h
  where
    by_test : ((y : List ℕ) → read_digits (at + 1) (left - length t.text) tokens ≡ Ok y → list_all is_ascii_hexdigit y ≡ true) → (a b c : Bool) → list_all is_ascii_hexdigit t.text ≡ b
        → cond (a && b && c) (ahead t.text (read_digits (at + 1) (left - length t.text) tokens)) (Err (BadRdata at)) ≡ Ok digits → list_all is_ascii_hexdigit digits ≡ true
    by_test f true true true e k =
        let a = ahead_is t.text (read_digits (at + 1) (left - length t.text) tokens) digits k in
        ap (list_all is_ascii_hexdigit) (sym a.2) ∙ all_pass is_ascii_hexdigit t.text a.0 e (f a.0 a.1)
    by_test f false b c e k = absurd cc
    by_test f true false c e k = absurd cc
    by_test f true true false e k = absurd cc

pairs_small : (digits : List ℕ) → list_all is_ascii_hexdigit digits ≡ true → AllOctets (paired digits)
unfolding paired
pairs_small [] h = tt
pairs_small (a ∷ []) h = tt
pairs_small (a ∷ b ∷ digits) h =
    let x = all_digits a (b ∷ digits) h in
    let y = all_digits b digits x.1 in
    let p = x.0 in
    let q = y.0 in
    (omega arith, pairs_small digits y.1)

counted_small : (o : Option ℕ) (tokens : List Token) (octets : List ℕ) → read_counted o tokens ≡ Ok octets → AllOctets octets
counted_small None tokens octets h = absurd cc
counted_small (Some n) tokens octets h =
    let b = bound (read_digits 2 (2 * n) tokens) (λ (digits : List ℕ). Ok (paired digits)) octets h in
    let is : paired b.0 ≡ octets = cc in
    subst AllOctets is (pairs_small b.0 (digits_are 2 (2 * n) tokens b.0 b.1))

generic_small : (tokens : List Token) (octets : List ℕ) → read_generic tokens ≡ Ok octets → AllOctets octets
unfolding read_generic
generic_small [] octets h = absurd cc
generic_small (t ∷ tokens) octets h = counted_small (word_number 65535 t) tokens octets h

formed : (rtype : ℕ) (x octets : List ℕ) → AllOctets x → of_form rtype x ≡ Ok octets → Fits octets (form_fits rtype octets)
formed rtype x octets small h = by_test (form_fits rtype x) refl h
  where
    by_test : (b : Bool) → form_fits rtype x ≡ b → cond b (Ok x) (Err (BadRdata 0)) ≡ Ok octets → Fits octets (form_fits rtype octets)
    by_test true e k = let is : x ≡ octets = cc in subst (λ (l : List ℕ). Fits l (form_fits rtype l)) is (record { small = small; fits = e })
    by_test false e k = absurd cc

-- ---- data

of_form_is : (origin : Name) (form : Option Form) (tokens : List Token) (octets : List ℕ) → AllTexts tokens → IsName origin → read_formed origin form tokens ≡ Ok octets → Fits octets (fits_form form octets)
of_form_is origin None tokens octets t o h = absurd cc
of_form_is origin (Some (Fields fields)) tokens octets t o h = fields_are origin 0 fields tokens octets t o h
of_form_is origin (Some Strings) [] octets t o h = absurd cc
of_form_is origin (Some Strings) (token ∷ tokens) octets t o h =
    let s = strings_are 0 65535 (token ∷ tokens) octets t h in
    record { small = s.small; fits = ap (λ (b : Bool). b && strings_fit (length octets) octets) (strings_some 0 65535 token tokens octets t h) ∙ s.fits (length octets) (omega arith) }

pub data_is : (origin : Name) (rtype : ℕ) (tokens : List Token) (octets : List ℕ) → AllTexts tokens → IsName origin → data_of origin rtype tokens ≡ Ok octets → IsData rtype octets
unfolding data_of
data_is origin rtype tokens octets t o h = by_form (is_generic tokens) h
  where
    whole : Fits octets (form_fits rtype octets) → IsData rtype octets
    whole f = record { bytes = f.small; short = data_short origin rtype tokens octets o.short h; form = f.fits }

    by_form : (g : Bool) → cond g (read_generic (drop 1 tokens) >>= of_form rtype) (read_typed origin rtype tokens) ≡ Ok octets → IsData rtype octets
    by_form true k =
        let b = bound (read_generic (drop 1 tokens)) (of_form rtype) octets k in
        whole (formed rtype b.0 octets (generic_small (drop 1 tokens) b.0 b.1) b.2)
    by_form false k = whole (of_form_is origin (form_of rtype) tokens octets t o k)

-- Printed data is cut into words and strings that say the same octets.
use Rattle.std.proofs.Common.{◌≡◌, ◌∙◌, ℕ, zero, suc, ◌+◌, ◌-◌, ◌*◌, ◌^◌, ◌<◌, ◌≤◌, Bool, true, false, cond, ◌&&◌, eqb, leb, ltb, List, [], ◌∷◌, ◌++◌, length, take, drop, refl, sym, ap, subst, arith, Option, Some, None, Result, Ok, Err, unwrap_or, append_assoc, append-nil, option_and_then, length-append}
use Rattle.std.proofs.lemmas.Bool.Decides.{nat_tests}
use Rattle.std.proofs.lemmas.List.{nil_from_length}
use borrow.Author.Tests.{eqb-true}
use Rattle.std.specs.Option.{option_map}
use Rattle.std.specs.List.{list_all, flat_map, AllByRecursion}
use Rattle.std.specs.Int.{w16, w32, from_be_bytes}
use Rattle.std.specs.Char.{is_ascii_hexdigit}
use Rattle.std.specs.Fmt.{decimal}
use Rattle.std.proofs.lemmas.Fmt.{decimal_nonempty}
use Rattle.zone_model.specs.declared.ZoneKind.{ZoneKind}
use Rattle.zone_model.specs.declared.DataRefusal.{DataRefusal}
use Rattle.zone_model.specs.declared.DataRefusal.TheVariants.{BadRdata, LongString}
use Rattle.zone_model.specs.Refusals.{◌>>=◌}
use Rattle.zone_model.specs.Names.{Name}
use Rattle.zone_model.specs.NameText.{name_text}
use Rattle.zone_model.specs.Splits.{split_octets, split_name}
use Rattle.zone_model.specs.Grammar as says
use Rattle.zone_model.specs.Grammar.{Token, Run, stops_word, stops_quote, Spelled, Spells}
use Rattle.zone_model.specs.DataWords.{paired}
use Rattle.zone_model.specs.Types.{Field, NameField, ShortField, NumberField, TimeField, AddressField, Address6Field, Form, Fields, Strings, form_of}
use Rattle.zone_model.specs.DataForms.{split_time, field_rest, fits_behind, fields_fit, strings_fit, fits_form, form_fits}
use Rattle.zone_model.specs.Data.{word_octets, ahead, taken, read_fields, string_octets, read_strings, read_digits, read_counted, read_generic, is_generic, of_form, read_formed, read_typed, data_of}
use Rattle.zone_model.specs.DataText.{address_text, groups_text, field_text, fields_text, string_text, quoted_text, strings_text, hex_text, generic_text, formed_text, typed_text, data_text_in}
use Rattle.zone_model.proofs.SplitLemmas.{IsBytes, name_sound, SplitsName}
use Rattle.rr_data.specs.Printing.{ReadsUnder}
use Rattle.rr_data.proofs.FormLemmas.{all_append}
use Rattle.rr_data.proofs.PrintedLemmas.{bytes_of, string_back, number_back, digits_back_of}
use Rattle.rr_data.proofs.PrintedFieldLemmas.{bytes_before, bytes_behind, map_some, octets_split, time_split, short_size, number_size, in_pairs, IsReadBack, field_back}
use Rattle.rr_data.proofs.PrintedWordLemmas.{any_type, is_shown, IsFieldWord, name_is_word, decimal_is_word, decimal_word, address_is_word, groups_are_word, string_run, hex_all, hex_word}

-- ---- tokens of a line

-- what a line says that has these tokens and no parenthesis
abbrev pub plain : List Token → Result Spelled ZoneKind
plain tokens = Ok (record { tokens = tokens; parens = false; opens = [] })

abbrev pub word : ℕ → List ℕ → Token
word n text = record { text = text; quoted = false; line = n }

abbrev pub string : ℕ → List ℕ → Token
string n octets = record { text = string_text octets; quoted = true; line = n }

pub spell_word : (n : ℕ) (text : List ℕ) → 0 < length text → Run stops_word text → Spells n [] text (plain (word n text ∷ []))
spell_word n text l r = subst (λ (t : List ℕ). Spells n [] t (plain (word n text ∷ []))) (append-nil text) (says.Word [] text [] (plain []) l r tt (says.End []))

pub spell_word_then : (n : ℕ) (text rest : List ℕ) (tokens : List Token) → 0 < length text → Run stops_word text → Spells n [] rest (plain tokens) → Spells n [] (text ++ 32 ∷ [] ++ rest) (plain (word n text ∷ tokens))
spell_word_then n text rest tokens l r s =
    subst (λ (t : List ℕ). Spells n [] t (plain (word n text ∷ tokens))) (sym (append_assoc text (32 ∷ []) rest))
    (says.Word [] text (32 ∷ rest) (plain tokens) l r refl (says.Blank [] 32 rest (plain tokens) refl s))

spell_string : (n : ℕ) (octets : List ℕ) → Run stops_quote (string_text octets) → Spells n [] (quoted_text octets) (plain (string n octets ∷ []))
spell_string n octets r = says.Quoted [] (string_text octets) [] (plain []) r (says.End [])

spell_string_then : (n : ℕ) (octets rest : List ℕ) (tokens : List Token) → Run stops_quote (string_text octets) → Spells n [] rest (plain tokens) → Spells n [] (quoted_text octets ++ 32 ∷ [] ++ rest) (plain (string n octets ∷ tokens))
spell_string_then n octets rest tokens r s =
    let inner = string_text octets in
    subst (λ (t : List ℕ). Spells n [] (34 ∷ t) (plain (string n octets ∷ tokens))) (sym (append_assoc (inner ++ 34 ∷ []) (32 ∷ []) rest ∙ append_assoc inner (34 ∷ []) (32 ∷ rest)))
    (says.Quoted [] inner (32 ∷ rest) (plain tokens) r (says.Blank [] 32 rest (plain tokens) refl s))

abbrev AllShown : List ℕ → Type 0
AllShown text = list_all is_shown text ≡ true

pub shown_then : (a b : List ℕ) → list_all is_shown a ≡ true → list_all is_shown b ≡ true → list_all is_shown (a ++ 32 ∷ [] ++ b) ≡ true
shown_then a b h k = all_append is_shown (a ++ 32 ∷ []) b (all_append is_shown a (32 ∷ []) h refl) k

quoted_shown : (octets : List ℕ) → list_all is_shown (string_text octets) ≡ true → list_all is_shown (quoted_text octets) ≡ true
quoted_shown octets h = all_append is_shown (string_text octets) (34 ∷ []) h refl

-- ---- fields

and_some : {A B : Type 0} (f : A → Option B) (o : Option A) (y : B) → option_and_then f o ≡ Some y → (x : A) × (o ≡ Some x) × (f x ≡ Some y)
and_some f None y h = absurd cc
and_some f (Some x) y h = (x, refl, h)

cond_some : {A : Type 0} (b : Bool) (o : Option A) (y : A) → cond b o None ≡ Some y → (b ≡ true) × (o ≡ Some y)
cond_some true o y h = (refl, h)
cond_some false o y h = absurd cc

first_is : {A : Type 0} (a : List ℕ) (b : A) (c : List ℕ) (d : A) → ◌≡◌ {A = List ℕ × A} (a, b) (c, d) → a ≡ c
first_is {A = A} a b c d e = ap (λ (y : List ℕ × A). y.0) e

field_is_word : (printed : Option Name) (field : Field) (octets text rest : List ℕ) → IsBytes octets → field_text printed field octets ≡ Some (text, rest) → IsFieldWord text
field_is_word printed NameField octets text rest b h =
    let x = map_some (λ (x : Name × List ℕ). (name_text printed x.0, x.1)) (split_name octets) (text, rest) h in
    let s : SplitsName octets x.0 = name_sound octets x.0 b x.1 in
    subst IsFieldWord (first_is (name_text printed x.0.0) x.0.1 text rest x.2) (name_is_word printed x.0.0 s.name.each)
field_is_word printed ShortField octets text rest b h =
    let x = map_some (λ (x : List ℕ × List ℕ). (decimal (from_be_bytes w16 x.0), x.1)) (split_octets 2 octets) (text, rest) h in
    let s = octets_split 2 octets x.0 x.1 in
    let le : from_be_bytes w16 x.0.0 ≤ 65535 = short_size x.0.0 s.0 (bytes_before x.0.0 x.0.1 (subst IsBytes s.1 b)) in
    subst IsFieldWord (first_is (decimal (from_be_bytes w16 x.0.0)) x.0.1 text rest x.2) (decimal_is_word (from_be_bytes w16 x.0.0) (omega (arith, le)))
field_is_word printed NumberField octets text rest b h =
    let x = map_some (λ (x : List ℕ × List ℕ). (decimal (from_be_bytes w32 x.0), x.1)) (split_octets 4 octets) (text, rest) h in
    let s = octets_split 4 octets x.0 x.1 in
    let le : from_be_bytes w32 x.0.0 ≤ 4294967295 = number_size x.0.0 s.0 (bytes_before x.0.0 x.0.1 (subst IsBytes s.1 b)) in
    subst IsFieldWord (first_is (decimal (from_be_bytes w32 x.0.0)) x.0.1 text rest x.2) (decimal_is_word (from_be_bytes w32 x.0.0) (omega (arith, le)))
field_is_word printed TimeField octets text rest b h =
    let x = map_some (λ (x : List ℕ × List ℕ). (decimal (from_be_bytes w32 x.0), x.1)) (split_time octets) (text, rest) h in
    let t = time_split octets (split_octets 4 octets) x.0 refl x.1 in
    subst IsFieldWord (first_is (decimal (from_be_bytes w32 x.0.0)) x.0.1 text rest x.2) (decimal_is_word (from_be_bytes w32 x.0.0) (omega (arith, t.1)))
field_is_word printed AddressField octets text rest b h =
    let x = map_some (λ (x : List ℕ × List ℕ). (address_text x.0, x.1)) (split_octets 4 octets) (text, rest) h in
    let s = octets_split 4 octets x.0 x.1 in
    subst IsFieldWord (first_is (address_text x.0.0) x.0.1 text rest x.2) (address_is_word x.0.0 (omega (arith, s.0)) (bytes_of x.0.0 (bytes_before x.0.0 x.0.1 (subst IsBytes s.1 b))))
field_is_word printed Address6Field octets text rest b h =
    let x = map_some (λ (x : List ℕ × List ℕ). (groups_text x.0, x.1)) (split_octets 16 octets) (text, rest) h in
    let s = octets_split 16 octets x.0 x.1 in
    subst IsFieldWord (first_is (groups_text x.0.0) x.0.1 text rest x.2) (groups_are_word x.0.0 (in_pairs 7 x.0.0 s.0 (bytes_before x.0.0 x.0.1 (subst IsBytes s.1 b))))

rest_is : {A : Type 0} (f : A → List ℕ) (o : Option (A × List ℕ)) (text rest : List ℕ) → option_map {U = List ℕ × List ℕ} (λ x. (f x.0, x.1)) o ≡ Some (text, rest) → option_map (λ x. x.1) o ≡ Some rest
rest_is f None text rest h = absurd cc
rest_is f (Some x) text rest h = let e : ◌≡◌ {A = List ℕ × List ℕ} (f x.0, x.1) (text, rest) = cc in ap (λ (y : List ℕ × List ℕ). Some y.1) e

field_rest_is : (printed : Option Name) (field : Field) (octets text rest : List ℕ) → field_text printed field octets ≡ Some (text, rest) → field_rest field octets ≡ Some rest
field_rest_is printed NameField octets text rest h = rest_is (name_text printed) (split_name octets) text rest h
field_rest_is printed ShortField octets text rest h = rest_is (λ x. decimal (from_be_bytes w16 x)) (split_octets 2 octets) text rest h
field_rest_is printed NumberField octets text rest h = rest_is (λ x. decimal (from_be_bytes w32 x)) (split_octets 4 octets) text rest h
field_rest_is printed TimeField octets text rest h = rest_is (λ x. decimal (from_be_bytes w32 x)) (split_time octets) text rest h
field_rest_is printed AddressField octets text rest h = rest_is address_text (split_octets 4 octets) text rest h
field_rest_is printed Address6Field octets text rest h = rest_is groups_text (split_octets 16 octets) text rest h

-- an origin that names are read under
reader_of : Option Name → Name
reader_of None = []
reader_of (Some origin) = origin

reads_under : (printed : Option Name) → ReadsUnder printed (reader_of printed)
unfolding reader_of
reads_under None = tt
reads_under (Some origin) = refl

-- what a line says that fields' text stands on
record FieldsBack (printed : Option Name) (n : ℕ) (fields : List Field) (text octets : List ℕ) : Type 0 where
  pub first : Token
  pub others : List Token
  pub spelled : Spells n [] text (plain (first ∷ others))
  pub shown : list_all is_shown text ≡ true
  pub read : (origin : Name) (at : ℕ) → ReadsUnder printed origin → read_fields origin at fields (first ∷ others) ≡ Ok octets
  pub typed : is_generic (first ∷ others) ≡ false
  pub fit : fields_fit fields octets ≡ true

field_read : (origin : Name) (at n : ℕ) (field : Field) (text rest octets : List ℕ) (r : Result (List ℕ) DataRefusal) → IsReadBack origin field text rest octets → r ≡ Ok rest → taken at (word_octets origin field (word n text)) r ≡ Ok octets
field_read origin at n field text rest octets r b e =
    ap (λ (o : Option (List ℕ)). taken at o r) b.read ∙ ap (ahead b.front) e ∙ ap Ok (sym b.octets_are)

is_typed : (n : ℕ) (text : List ℕ) (others : List Token) → IsFieldWord text → is_generic (word n text ∷ others) ≡ false
is_typed n text others w = w.typed

fields_back : (printed : Option Name) (n : ℕ) (field : Field) (fields : List Field) (octets text : List ℕ) → IsBytes octets → fields_text printed (field ∷ fields) octets ≡ Some text → FieldsBack printed n (field ∷ fields) text octets
unfolding fields_text read_fields fields_fit
fields_back printed n field [] octets text b h =
    let x = and_some (λ (x : List ℕ × List ℕ). cond (eqb (length x.1) 0) (Some x.0) None) (field_text printed field octets) text h in
    let c = cond_some (eqb (length x.0.1) 0) (Some x.0.0) text x.2 in
    let same : x.0.0 ≡ text = cc in
    let none : length x.0.1 ≡ 0 = eqb-true (length x.0.1) 0 c.0 in
    let empty : x.0.1 ≡ [] = nil_from_length x.0.1 none in
    let w : IsFieldWord x.0.0 = field_is_word printed field octets x.0.0 x.0.1 b x.1 in
    record {
      first = word n x.0.0;
      others = [];
      spelled = subst (λ (t : List ℕ). Spells n [] t (plain (word n x.0.0 ∷ []))) same (spell_word n x.0.0 w.some w.shows.run);
      shown = subst AllShown same w.shows.shown;
      read = λ origin at u. field_read origin at n field x.0.0 x.0.1 octets (Ok []) (field_back printed origin field octets x.0.0 x.0.1 u b x.1) (ap Ok (sym empty));
      typed = is_typed n x.0.0 [] w;
      fit = ap (λ (o : Option (List ℕ)). fits_behind o (fields_fit [])) (field_rest_is printed field octets x.0.0 x.0.1 x.1) ∙ c.0;
    }
fields_back printed n field (next ∷ fields) octets text b h =
    let x = and_some (λ (x : List ℕ × List ℕ). option_map (λ t. x.0 ++ 32 ∷ [] ++ t) (fields_text printed (next ∷ fields) x.1)) (field_text printed field octets) text h in
    let t = map_some (λ (t : List ℕ). x.0.0 ++ 32 ∷ [] ++ t) (fields_text printed (next ∷ fields) x.0.1) text x.2 in
    let w : IsFieldWord x.0.0 = field_is_word printed field octets x.0.0 x.0.1 b x.1 in
    let r : IsReadBack (reader_of printed) field x.0.0 x.0.1 octets = field_back printed (reader_of printed) field octets x.0.0 x.0.1 (reads_under printed) b x.1 in
    let i : FieldsBack printed n (next ∷ fields) t.0 x.0.1 = fields_back printed n next fields x.0.1 t.0 (bytes_behind r.front x.0.1 (subst IsBytes r.octets_are b)) t.1 in
    record {
      first = word n x.0.0;
      others = i.first ∷ i.others;
      spelled = subst (λ (t : List ℕ). Spells n [] t (plain (word n x.0.0 ∷ i.first ∷ i.others))) t.2 (spell_word_then n x.0.0 t.0 (i.first ∷ i.others) w.some w.shows.run i.spelled);
      shown = subst AllShown t.2 (shown_then x.0.0 t.0 w.shows.shown i.shown);
      read = λ origin at u. field_read origin at n field x.0.0 x.0.1 octets (read_fields origin (at + 1) (next ∷ fields) (i.first ∷ i.others)) (field_back printed origin field octets x.0.0 x.0.1 u b x.1) (i.read origin (at + 1) u);
      typed = is_typed n x.0.0 (i.first ∷ i.others) w;
      fit = ap (λ (o : Option (List ℕ)). fits_behind o (fields_fit (next ∷ fields))) (field_rest_is printed field octets x.0.0 x.0.1 x.1) ∙ i.fit;
    }

-- ---- strings

-- what a line says that strings' text stands on
record StringsBack (n left : ℕ) (text octets : List ℕ) : Type 0 where
  pub first : Token
  pub others : List Token
  pub spelled : Spells n [] text (plain (first ∷ others))
  pub shown : list_all is_shown text ≡ true
  pub read : (at room : ℕ) → length octets ≤ room → read_strings at room (first ∷ others) ≡ Ok octets
  pub typed : is_generic (first ∷ others) ≡ false
  pub fit : strings_fit left octets ≡ true

string_first : (at room : ℕ) (octets behind : List ℕ) (tokens : List Token) (n : ℕ) → AllByRecursion (λ c. c < 256) octets → length octets ≤ 255 → length octets + 1 + length behind ≤ room
    → ((k : ℕ) → length behind ≤ k → read_strings (at + 1) k tokens ≡ Ok behind) → read_strings at room (string n octets ∷ tokens) ≡ Ok (length octets ∷ (octets ++ behind))
unfolding read_strings
string_first at room octets behind tokens n b short fits h =
    let a : ltb 255 (length octets) ≡ false = grind (arith, nat_tests) in
    let m : ltb room (length (length octets ∷ octets)) ≡ false = grind (arith, nat_tests) in
    let r : read_strings (at + 1) (room - length (length octets ∷ octets)) tokens ≡ Ok behind = h (room - length (length octets ∷ octets)) (omega arith) in
    ap (λ o. string_octets at o >>= (λ x. cond (ltb room (length x)) (Err (BadRdata at)) (ahead x (read_strings (at + 1) (room - length x) tokens)))) (string_back octets b)
    ∙ ap (λ t. cond t (Err (LongString at)) (Ok (length octets ∷ octets)) >>= (λ x. cond (ltb room (length x)) (Err (BadRdata at)) (ahead x (read_strings (at + 1) (room - length x) tokens)))) a
    ∙ ap (λ t. cond t (Err (BadRdata at)) (ahead (length octets ∷ octets) (read_strings (at + 1) (room - length (length octets ∷ octets)) tokens))) m
    ∙ ap (ahead (length octets ∷ octets)) r

no_strings : (at k : ℕ) → read_strings at k [] ≡ Ok []
unfolding read_strings
no_strings at k = refl

none_fit : (left : ℕ) → strings_fit left [] ≡ true
unfolding strings_fit
none_fit zero = refl
none_fit (suc left) = refl

-- the octets that a string takes off
record TakenOff (c : ℕ) (rest : List ℕ) (x : List ℕ × List ℕ) : Type 0 where
  pub size : length x.0 ≡ c
  pub is : rest ≡ x.0 ++ x.1
  pub fits : leb c (length rest) ≡ true
  pub behind : drop c rest ≡ x.1

taken_off : (c : ℕ) (rest : List ℕ) (x : List ℕ × List ℕ) → split_octets c rest ≡ Some x → TakenOff c rest x
taken_off c rest x h =
    let s = octets_split c rest x h in
    let k = cond_some (leb c (length rest)) (Some (take c rest, drop c rest)) x h in
    let e : ◌≡◌ {A = List ℕ × List ℕ} (take c rest, drop c rest) x = cc in
    record { size = s.0; is = s.1; fits = k.0; behind = ap (λ (y : List ℕ × List ℕ). y.1) e }

strings_back : (n left : ℕ) (octets text : List ℕ) → IsBytes octets → strings_text left octets ≡ Some text → StringsBack n left text octets
unfolding strings_text strings_fit
strings_back n left [] text b h = absurd cc
strings_back n zero (c ∷ rest) text b h = absurd cc
strings_back n (suc left) (c ∷ rest) text b h =
    let f : List ℕ × List ℕ → Option (List ℕ) = λ x. cond (eqb (length x.1) 0) (Some (quoted_text x.0)) (option_map (λ t. quoted_text x.0 ++ 32 ∷ [] ++ t) (strings_text left x.1)) in
    let x = and_some f (split_octets c rest) text h in
    let s : TakenOff c rest x.0 = taken_off c rest x.0 x.1 in
    let all : IsBytes (x.0.0 ++ x.0.1) = subst IsBytes s.is (λ i. b (suc i)) in
    let front : AllByRecursion (λ c. c < 256) x.0.0 = bytes_of x.0.0 (bytes_before x.0.0 x.0.1 all) in
    let short : length x.0.0 ≤ 255 = omega (arith, s.size, b 0) in
    by_test x.0.0 x.0.1 s all front short (strings_back n left x.0.1) (eqb (length x.0.1) 0) refl x.2
  where
    by_test : (front behind : List ℕ) → TakenOff c rest (front, behind) → IsBytes (front ++ behind) → AllByRecursion (λ c. c < 256) front → length front ≤ 255
        → ((t : List ℕ) → IsBytes behind → strings_text left behind ≡ Some t → StringsBack n left t behind)
        → (e : Bool) → eqb (length behind) 0 ≡ e → cond e (Some (quoted_text front)) (option_map (λ t. quoted_text front ++ 32 ∷ [] ++ t) (strings_text left behind)) ≡ Some text → StringsBack n (suc left) text (c ∷ rest)
    by_test front behind s all b short more true e k =
        let empty : behind ≡ [] = nil_from_length behind (eqb-true (length behind) 0 e) in
        let same : quoted_text front ≡ text = cc in
        let whole : Ok (length front ∷ (front ++ [])) ≡ Ok (c ∷ rest) = ap (λ (m : ℕ). Ok (m ∷ (front ++ []))) s.size ∙ ap (λ (l : List ℕ). Ok (c ∷ l)) (ap (λ (l : List ℕ). front ++ l) (sym empty) ∙ sym s.is) in
        record {
          first = string n front;
          others = [];
          spelled = subst (λ (t : List ℕ). Spells n [] t (plain (string n front ∷ []))) same (spell_string n front (string_run front b).run);
          shown = subst AllShown same (quoted_shown front (string_run front b).shown);
          read = λ at room fits. string_first at room front [] [] n b short (omega (arith, s.size, ap (λ (l : List ℕ). length l) s.is, length-append front behind, fits)) (λ k le. no_strings (at + 1) k) ∙ whole;
          typed = refl;
          fit = rw s.fits (ap (strings_fit left) (s.behind ∙ empty) ∙ none_fit left);
        }
    by_test front behind s all b short more false e k =
        let t = map_some (λ (t : List ℕ). quoted_text front ++ 32 ∷ [] ++ t) (strings_text left behind) text k in
        let i : StringsBack n left t.0 behind = more t.0 (bytes_behind front behind all) t.1 in
        let whole : Ok (length front ∷ (front ++ behind)) ≡ Ok (c ∷ rest) = ap (λ (m : ℕ). Ok (m ∷ (front ++ behind))) s.size ∙ ap (λ (l : List ℕ). Ok (c ∷ l)) (sym s.is) in
        record {
          first = string n front;
          others = i.first ∷ i.others;
          spelled = subst (λ (t : List ℕ). Spells n [] t (plain (string n front ∷ i.first ∷ i.others))) t.2 (spell_string_then n front t.0 (i.first ∷ i.others) (string_run front b).run i.spelled);
          shown = subst AllShown t.2 (shown_then (quoted_text front) t.0 (quoted_shown front (string_run front b).shown) i.shown);
          read = λ at room fits. string_first at room front behind (i.first ∷ i.others) n b short (omega (arith, s.size, ap (λ (l : List ℕ). length l) s.is, length-append front behind, fits)) (i.read (at + 1)) ∙ whole;
          typed = refl;
          fit = rw s.fits (ap (strings_fit left) s.behind ∙ i.fit);
        }

-- ---- data of any type

record GenericBack (n : ℕ) (octets : List ℕ) : Type 0 where
  pub tokens : List Token
  pub spelled : Spells n [] (generic_text octets) (plain tokens)
  pub shown : list_all is_shown (generic_text octets) ≡ true
  pub generic : is_generic tokens ≡ true
  pub read : read_generic (drop 1 tokens) ≡ Ok octets

any_word : Run stops_word any_type
any_word = says.Escaped 35 [] says.Empty

no_digits : (n : ℕ) → read_generic (word n (decimal 0) ∷ []) ≡ Ok []
unfolding read_generic read_digits paired
no_digits n = ap (λ o. read_counted o []) (number_back 65535 0 (omega arith) (omega arith))

some_digits : (n k : ℕ) (text : List ℕ) → 0 < k → k ≤ 65535 → list_all is_ascii_hexdigit text ≡ true → length text ≡ 2 * k → read_generic (word n (decimal k) ∷ word n text ∷ []) ≡ Ok (paired text)
unfolding read_generic read_digits
some_digits n k text lt le h e =
    let fits : leb (length text) (2 * k) ≡ true = grind (arith, nat_tests) in
    let all : (list_all is_ascii_hexdigit text && leb (length text) (2 * k)) ≡ true = rw (h, fits) refl in
    let done : eqb (2 * k - length text) 0 ≡ true = grind (arith, nat_tests) in
    ap (λ o. read_counted o (word n text ∷ [])) (number_back 65535 k (omega arith) le)
    ∙ ap (λ t. cond t (ahead text (cond (eqb (2 * k - length text) 0) (Ok []) (Err (BadRdata 3)))) (Err (BadRdata 2)) >>= (λ digits. Ok (paired digits))) all
    ∙ ap (λ t. ahead text (cond t (Ok []) (Err (BadRdata 3))) >>= (λ digits. Ok (paired digits))) done
    ∙ ap (λ (l : List ℕ). Ok (paired l)) (append-nil text)

generic_back : (n : ℕ) (octets : List ℕ) → IsBytes octets → length octets ≤ 65535 → GenericBack n octets
generic_back n [] b le = record {
  tokens = word n any_type ∷ word n (decimal 0) ∷ [];
  spelled = subst (λ (t : List ℕ). Spells n [] t (plain (word n any_type ∷ word n (decimal 0) ∷ []))) (sym (append-nil (92 ∷ 35 ∷ 32 ∷ decimal 0)))
      (spell_word_then n any_type (decimal 0) (word n (decimal 0) ∷ []) (omega arith) any_word (spell_word n (decimal 0) (decimal_nonempty 0 (omega arith)) (decimal_word 0 (omega arith)).run));
  shown = subst AllShown (sym (append-nil (92 ∷ 35 ∷ 32 ∷ decimal 0))) (decimal_word 0 (omega arith)).shown;
  generic = refl;
  read = no_digits n;
}
generic_back n (c ∷ octets) b le =
    let k = length (c ∷ octets) in
    let text = flat_map hex_text (c ∷ octets) in
    let all : AllByRecursion (λ c. c < 256) (c ∷ octets) = bytes_of (c ∷ octets) b in
    let h = hex_all (c ∷ octets) all in
    let tokens : List Token = word n any_type ∷ word n (decimal k) ∷ word n text ∷ [] in
    let some : eqb k 0 ≡ false = grind (arith, nat_tests) in
    let small : k < 2 ^ 64 = omega arith in
    let digits : Spells n [] text (plain (word n text ∷ [])) = spell_word n text (omega (arith, h.1)) (hex_word text h.0).run in
    let counted : Spells n [] (decimal k ++ 32 ∷ [] ++ text) (plain (word n (decimal k) ∷ word n text ∷ [])) = spell_word_then n (decimal k) text (word n text ∷ []) (decimal_nonempty k small) (decimal_word k small).run digits in
    let text_is : generic_text (c ∷ octets) ≡ any_type ++ 32 ∷ [] ++ (decimal k ++ 32 ∷ [] ++ text) =
    ap (λ t. (92 ∷ 35 ∷ 32 ∷ decimal k) ++ cond t [] (32 ∷ [] ++ text)) some ∙ ap (λ (l : List ℕ). 92 ∷ 35 ∷ 32 ∷ l) (sym (append_assoc (decimal k) (32 ∷ []) text)) in
    record {
      tokens = tokens;
      spelled = subst (λ (t : List ℕ). Spells n [] t (plain tokens)) (sym text_is) (spell_word_then n any_type (decimal k ++ 32 ∷ [] ++ text) (word n (decimal k) ∷ word n text ∷ []) (omega arith) any_word counted);
      shown = subst AllShown (sym text_is) (shown_then any_type (decimal k ++ 32 ∷ [] ++ text) refl (shown_then (decimal k) text (decimal_word k small).shown (hex_word text h.0).shown));
      generic = refl;
      read = some_digits n k text (omega arith) le h.0 h.1 ∙ ap Ok (digits_back_of (c ∷ octets) all);
    }

-- ---- the data of a type

-- what a line says that printed data stands on
pub record DataBack (printed : Option Name) (n rtype : ℕ) (octets : List ℕ) : Type 0 where
  pub tokens : List Token
  pub spelled : Spells n [] (data_text_in printed rtype octets) (plain tokens)
  pub shown : list_all is_shown (data_text_in printed rtype octets) ≡ true
  pub read : (origin : Name) → ReadsUnder printed origin → data_of origin rtype tokens ≡ of_form rtype octets

typed_read : (origin : Name) (rtype : ℕ) (first : Token) (others : List Token) → is_generic (first ∷ others) ≡ false
    → data_of origin rtype (first ∷ others) ≡ read_formed origin (form_of rtype) (first ∷ others)
unfolding data_of
typed_read origin rtype first others g = ap (λ t. cond t (read_generic others >>= of_form rtype) (read_typed origin rtype (first ∷ others))) g

generic_read : (origin : Name) (rtype : ℕ) (tokens : List Token) (octets : List ℕ) → is_generic tokens ≡ true → read_generic (drop 1 tokens) ≡ Ok octets → data_of origin rtype tokens ≡ of_form rtype octets
unfolding data_of
generic_read origin rtype tokens octets g h = ap (λ t. cond t (read_generic (drop 1 tokens) >>= of_form rtype) (read_typed origin rtype tokens)) g ∙ ap (λ r. r >>= of_form rtype) h

some_strings : (left : ℕ) (octets text : List ℕ) → strings_text left octets ≡ Some text → ltb 0 (length octets) ≡ true
unfolding strings_text
some_strings left [] text h = absurd cc
some_strings left (c ∷ octets) text h = grind (arith, nat_tests)

data_fits : (rtype : ℕ) (octets : List ℕ) → form_fits rtype octets ≡ true → of_form rtype octets ≡ Ok octets
data_fits rtype octets h = ap (λ t. cond t (Ok octets) (Err (BadRdata 0))) h

by_form : (printed : Option Name) (n rtype : ℕ) (octets text : List ℕ) → IsBytes octets → length octets ≤ 65535 → (o : Option Form) → form_of rtype ≡ o → formed_text printed o octets ≡ Some text → data_text_in printed rtype octets ≡ text → DataBack printed n rtype octets
unfolding fields_text
by_form printed n rtype octets text b le None f h t = absurd cc
by_form printed n rtype octets text b le (Some Strings) f h t =
    let i : StringsBack n (length octets) text octets = strings_back n (length octets) octets text b h in
    let some = some_strings (length octets) octets text h in
    let fit : (ltb 0 (length octets) && strings_fit (length octets) octets) ≡ true = rw some i.fit in
    let form : form_fits rtype octets ≡ true = ap (λ o. fits_form o octets) f ∙ fit in
    record {
      tokens = i.first ∷ i.others;
      spelled = subst (λ (l : List ℕ). Spells n [] l (plain (i.first ∷ i.others))) (sym t) i.spelled;
      shown = subst AllShown (sym t) i.shown;
      read = λ origin u. typed_read origin rtype i.first i.others i.typed ∙ ap (λ o. read_formed origin o (i.first ∷ i.others)) f ∙ i.read 0 65535 le ∙ sym (data_fits rtype octets form);
    }
by_form printed n rtype octets text b le (Some (Fields [])) f h t = absurd cc
by_form printed n rtype octets text b le (Some (Fields (field ∷ fields))) f h t =
    let i : FieldsBack printed n (field ∷ fields) text octets = fields_back printed n field fields octets text b h in
    let form : form_fits rtype octets ≡ true = ap (λ o. fits_form o octets) f ∙ i.fit in
    record {
      tokens = i.first ∷ i.others;
      spelled = subst (λ (l : List ℕ). Spells n [] l (plain (i.first ∷ i.others))) (sym t) i.spelled;
      shown = subst AllShown (sym t) i.shown;
      read = λ origin u. typed_read origin rtype i.first i.others i.typed ∙ ap (λ o. read_formed origin o (i.first ∷ i.others)) f ∙ i.read origin 0 u ∙ sym (data_fits rtype octets form);
    }

pub data_back : (printed : Option Name) (n rtype : ℕ) (octets : List ℕ) → IsBytes octets → length octets ≤ 65535 → DataBack printed n rtype octets
data_back printed n rtype octets b le = by_text (typed_text printed rtype octets) refl
  where
    by_text : (o : Option (List ℕ)) → typed_text printed rtype octets ≡ o → DataBack printed n rtype octets
    by_text None e =
        let g : GenericBack n octets = generic_back n octets b le in
        record {
          tokens = g.tokens;
          spelled = subst (λ (l : List ℕ). Spells n [] l (plain g.tokens)) (sym (ap (λ o. unwrap_or o (generic_text octets)) e)) g.spelled;
          shown = subst AllShown (sym (ap (λ o. unwrap_or o (generic_text octets)) e)) g.shown;
          read = λ origin u. generic_read origin rtype g.tokens octets g.generic g.read;
        }
    by_text (Some text) e = by_form printed n rtype octets text b le (form_of rtype) refl e (ap (λ o. unwrap_or o (generic_text octets)) e)

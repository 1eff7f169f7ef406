-- What is printed is words and strings that a line is cut into.
use Rattle.std.proofs.Common.{◌≡◌, ◌∙◌, ℕ, zero, suc, ◌+◌, ◌-◌, ◌*◌, ◌/◌, ◌%◌, ◌^◌, ◌<◌, Bool, true, false, cond, not, ◌&&◌, ◌||◌, eqb, ltb, List, [], ◌∷◌, ◌++◌, Option, Some, None, length, take, get_or, refl, sym, ap, subst, arith, append_assoc, append-nil, length-append}
use Rattle.std.proofs.lemmas.Bool.Decides.{nat_tests}
use Rattle.std.proofs.lemmas.Slice.Eq.{bytes_eq-Decides}
use Rattle.std.specs.Str.{bytes_eq}
use Rattle.std.specs.List.{list_all, flat_map, AllByRecursion}
use Rattle.std.specs.Int.{w16, from_be_bytes}
use Rattle.std.specs.Char.{is_ascii_alphabetic, is_ascii_alphanumeric, is_ascii_digit, is_ascii_hexdigit}
use Rattle.std.specs.Fmt.{decimal}
use Rattle.std.proofs.lemmas.Fmt.{decimal_nonempty}
use Rattle.zone_model.specs.Names.{Name, Label, IsLabel, is_under}
use Rattle.zone_model.specs.NameText.{text_of, label_text, octet_text, is_special, three_digits, labels_text, front_text, relative_text, name_text}
use Rattle.dns_name.proofs.PrintedLemmas.{BeginsWithOctet, labels_begin, text_some}
use Rattle.zone_model.specs.Grammar as says
use Rattle.zone_model.specs.Grammar.{Run, stops_word, stops_quote}
use Rattle.zone_model.specs.DataText.{string_octet, string_text, hex_text, hex_digit, address_text, groups_text, group_text}
use Rattle.rr_data.proofs.FormLemmas.{all_append}
use Rattle.rr_data.proofs.PrintedLemmas.{decimal_all_digits}
use Rattle.rr_data.proofs.PrintedFieldLemmas.{group_texts, InPairs, hexdigit_is}

pub run_append : {stops : ℕ → Bool} {a : List ℕ} → Run stops a → (b : List ℕ) → Run stops b → Run stops (a ++ b)
run_append says.Empty b r = r
run_append (says.Plain c text e h) b r = says.Plain c (text ++ b) e (run_append h b r)
run_append (says.Escaped c text h) b r = says.Escaped c (text ++ b) (run_append h b r)

pub both : (a b : Bool) → (a && b) ≡ true → (a ≡ true) × (b ≡ true)
both true b h = (refl, h)
both false b h = absurd cc

-- a byte that is shown as it is
abbrev pub is_shown : ℕ → Bool
is_shown c = ltb 31 c && ltb c 127

-- bytes that no stop is among but behind a backslash, each of them shown
pub record Shows (stops : ℕ → Bool) (text : List ℕ) : Type 0 where
  pub run : Run stops text
  pub shown : list_all is_shown text ≡ true

pub nothing : {stops : ℕ → Bool} → Shows stops []
nothing = record { run = says.Empty; shown = refl }

pub shows_append : {stops : ℕ → Bool} {a : List ℕ} → Shows stops a → (b : List ℕ) → Shows stops b → Shows stops (a ++ b)
shows_append {a = a} h b r = record { run = run_append h.run b r.run; shown = all_append is_shown a b h.shown r.shown }

pub shows_one : (stops : ℕ → Bool) (c : ℕ) → stops c ≡ false → is_shown c ≡ true → Shows stops (c ∷ [])
shows_one stops c h k = record { run = says.Plain c [] h says.Empty; shown = rw k refl }

escaped : (stops : ℕ → Bool) (c : ℕ) → is_shown c ≡ true → Shows stops (92 ∷ c ∷ [])
escaped stops c k = record { run = says.Escaped c [] says.Empty; shown = rw k refl }

-- bytes that pass a test which no stop passes
run_all : (stops p : ℕ → Bool) (text : List ℕ) → ((c : ℕ) → p c ≡ true → stops c ≡ false) → list_all p text ≡ true → Run stops text
run_all stops p [] f h = says.Empty
run_all stops p (c ∷ text) f h = let g = both (p c) (list_all p text) h in says.Plain c text (f c g.0) (run_all stops p text f g.1)

shown_all : (p : ℕ → Bool) (text : List ℕ) → ((c : ℕ) → p c ≡ true → is_shown c ≡ true) → list_all p text ≡ true → list_all is_shown text ≡ true
shown_all p [] f h = refl
shown_all p (c ∷ text) f h = let g = both (p c) (list_all p text) h in ap (λ b. b && list_all is_shown text) (f c g.0) ∙ shown_all p text f g.1

digit_shown : (c : ℕ) → is_ascii_digit c ≡ true → is_shown c ≡ true
digit_shown c h = grind (arith, nat_tests)

hexdigit_shown : (c : ℕ) → is_ascii_hexdigit c ≡ true → is_shown c ≡ true
hexdigit_shown c h = grind (arith, nat_tests)

digit_goes_on : (c : ℕ) → is_ascii_digit c ≡ true → stops_word c ≡ false
digit_goes_on c h = grind (arith, nat_tests)

hexdigit_goes_on : (c : ℕ) → is_ascii_hexdigit c ≡ true → stops_word c ≡ false
hexdigit_goes_on c h = grind (arith, nat_tests)

digit_in_quotes : (c : ℕ) → is_ascii_digit c ≡ true → stops_quote c ≡ false
digit_in_quotes c h = grind (arith, nat_tests)

pub decimal_word : (n : ℕ) → n < 2 ^ 64 → Shows stops_word (decimal n)
decimal_word n h =
    let d = decimal_all_digits n h in record { run = run_all stops_word is_ascii_digit (decimal n) digit_goes_on d; shown = shown_all is_ascii_digit (decimal n) digit_shown d }

-- a backslash and three digits
digits_run : (stops : ℕ → Bool) (c : ℕ) → ((x : ℕ) → is_ascii_digit x ≡ true → stops x ≡ false) → c < 256 → Shows stops (92 ∷ three_digits c)
digits_run stops c f h =
    let b : is_ascii_digit (c / 10 % 10 + 48) ≡ true = digit_is (c / 10 % 10) (omega arith) in
    let d : is_ascii_digit (c % 10 + 48) ≡ true = digit_is (c % 10) (omega arith) in
    shows_append (escaped stops (c / 100 + 48) (digit_shown (c / 100 + 48) (digit_is (c / 100) (omega arith)))) ((c / 10 % 10 + 48) ∷ (c % 10 + 48) ∷ [])
    (shows_append (shows_one stops (c / 10 % 10 + 48) (f (c / 10 % 10 + 48) b) (digit_shown (c / 10 % 10 + 48) b)) ((c % 10 + 48) ∷ [])
    (shows_one stops (c % 10 + 48) (f (c % 10 + 48) d) (digit_shown (c % 10 + 48) d)))
  where
    digit_is : (d : ℕ) → d < 10 → is_ascii_digit (d + 48) ≡ true
    digit_is d h = grind (arith, nat_tests)

letter_goes_on : (c : ℕ) → is_ascii_alphabetic c ≡ true → stops_word c ≡ false
letter_goes_on c h = grind (arith, nat_tests)

letter_shown : (c : ℕ) → is_ascii_alphabetic c ≡ true → is_shown c ≡ true
letter_shown c h = grind (arith, nat_tests)

pub alphabetic_word : (text : List ℕ) → list_all is_ascii_alphabetic text ≡ true → Shows stops_word text
alphabetic_word text h = record { run = run_all stops_word is_ascii_alphabetic text letter_goes_on h; shown = shown_all is_ascii_alphabetic text letter_shown h }

alphanumeric_goes_on : (c : ℕ) → is_ascii_alphanumeric c ≡ true → stops_word c ≡ false
alphanumeric_goes_on c h = grind (arith, nat_tests)

alphanumeric_shown : (c : ℕ) → is_ascii_alphanumeric c ≡ true → is_shown c ≡ true
alphanumeric_shown c h = grind (arith, nat_tests)

pub alphanumeric_word : (text : List ℕ) → list_all is_ascii_alphanumeric text ≡ true → Shows stops_word text
alphanumeric_word text h = record { run = run_all stops_word is_ascii_alphanumeric text alphanumeric_goes_on h; shown = shown_all is_ascii_alphanumeric text alphanumeric_shown h }

pub hex_word : (text : List ℕ) → list_all is_ascii_hexdigit text ≡ true → Shows stops_word text
hex_word text h = record { run = run_all stops_word is_ascii_hexdigit text hexdigit_goes_on h; shown = shown_all is_ascii_hexdigit text hexdigit_shown h }

-- an octet of a word that is shown as it is
abbrev pub is_word_octet : ℕ → Bool
is_word_octet c = is_shown c && not (stops_word c)

pub plain_word : (text : List ℕ) → list_all is_word_octet text ≡ true → Shows stops_word text
plain_word [] h = nothing
plain_word (c ∷ text) h =
    let f = both (is_word_octet c) (list_all is_word_octet text) h in
    let g = both (is_shown c) (not (stops_word c)) f.0 in
    shows_append (shows_one stops_word c (negated (stops_word c) g.1) g.0) text (plain_word text f.1)
  where
    negated : (b : Bool) → not b ≡ true → b ≡ false
    negated true h = absurd cc
    negated false h = refl

-- ---- names

special_shown : (c : ℕ) → is_special c ≡ true → is_shown c ≡ true
special_shown c h = grind (arith, nat_tests)

plain_shown : (c : ℕ) → (ltb 32 c && ltb c 127) ≡ true → is_shown c ≡ true
plain_shown c h = grind (arith, nat_tests)

plain_octet : (c : ℕ) → is_special c ≡ false → (ltb 32 c && ltb c 127) ≡ true → stops_word c ≡ false
plain_octet c h k = grind (arith, nat_tests)

octet_run : (c : ℕ) → c < 256 → Shows stops_word (octet_text c)
octet_run c h = go (is_special c) (ltb 32 c && ltb c 127) refl refl
  where
    go : (s p : Bool) → is_special c ≡ s → (ltb 32 c && ltb c 127) ≡ p → Shows stops_word (cond s (92 ∷ c ∷ []) (cond p (c ∷ []) (92 ∷ three_digits c)))
    go true p es ep = escaped stops_word c (special_shown c es)
    go false true es ep = shows_one stops_word c (plain_octet c es ep) (plain_shown c ep)
    go false false es ep = digits_run stops_word c digit_goes_on h

octets_run : (label : Label) → AllByRecursion (λ c. c < 256) label → Shows stops_word (flat_map octet_text label)
octets_run [] h = nothing
octets_run (c ∷ label) h = shows_append (octet_run c h.0) (flat_map octet_text label) (octets_run label h.1)

label_run : (label : Label) → AllByRecursion (λ c. c < 256) label → Shows stops_word (label_text label)
label_run label h = shows_append (octets_run label h) (46 ∷ []) (shows_one stops_word 46 refl refl)

labels_run : (labels : Name) → AllByRecursion (AllByRecursion (λ c. c < 256)) labels → Shows stops_word (flat_map label_text labels)
labels_run [] h = nothing
labels_run (label ∷ labels) h = shows_append (label_run label h.0) (flat_map label_text labels) (labels_run labels h.1)

pub label_octets : (name : Name) → AllByRecursion IsLabel name → AllByRecursion (AllByRecursion (λ c. c < 256)) name
label_octets [] h = tt
label_octets (label ∷ name) h = (h.0.octets, label_octets name h.1)

name_word : (name : Name) → AllByRecursion (AllByRecursion (λ c. c < 256)) name → Shows stops_word (text_of name)
name_word [] h = shows_one stops_word 46 refl refl
name_word (label ∷ labels) h = labels_run (label ∷ labels) h

-- a name's text ends with a dot
record EndsWithDot (text : List ℕ) : Type 0 where
  pub front : List ℕ
  pub is : text ≡ front ++ 46 ∷ []

labels_end : (label : Label) (labels : Name) → EndsWithDot (flat_map label_text (label ∷ labels))
labels_end label [] = record { front = flat_map octet_text label; is = append-nil (label_text label) }
labels_end label (next ∷ labels) =
    let e = labels_end next labels in
    record { front = label_text label ++ e.front; is = ap (λ (l : List ℕ). label_text label ++ l) e.is ∙ sym (append_assoc (label_text label) e.front (46 ∷ [])) }

name_ends : (name : Name) → EndsWithDot (text_of name)
name_ends [] = record { front = []; is = refl }
name_ends (label ∷ labels) = labels_end label labels

name_some : (name : Name) → 0 < length (text_of name)
name_some name = let e = name_ends name in omega (arith, ap (λ (l : List ℕ). length l) e.is, length-append e.front (46 ∷ []))

-- the word that begins data of any type
abbrev pub any_type : List ℕ
any_type = 92 ∷ 35 ∷ []

second_is_dot : (front : List ℕ) (x y : ℕ) → front ++ 46 ∷ [] ≡ x ∷ y ∷ [] → 46 ≡ y
second_is_dot [] x y k = let n : length {A = ℕ} (46 ∷ []) ≡ length (x ∷ y ∷ []) = ap (λ (l : List ℕ). length l) k in absurd (omega (arith, n))
second_is_dot (a ∷ []) x y k = ap (λ (l : List ℕ). get_or l 1 0) k
second_is_dot (a ∷ b ∷ front) x y k =
    let n : length (a ∷ (b ∷ (front ++ 46 ∷ []))) ≡ length (x ∷ y ∷ []) = ap (λ (l : List ℕ). length l) k in
    let m : length (front ++ 46 ∷ []) ≡ length front + length {A = ℕ} (46 ∷ []) = length-append front (46 ∷ []) in
    absurd (omega (arith, n, m))

ends_not : (text : List ℕ) → EndsWithDot text → text ≡ any_type → ⊥
ends_not text d e = let k : ◌≡◌ {A = ℕ} 46 35 = second_is_dot d.front 92 35 (sym d.is ∙ e) in omega arith

-- a word that isn't the one that begins data of any type
pub record IsFieldWord (text : List ℕ) : Type 0 where
  pub some : 0 < length text
  pub shows : Shows stops_word text
  pub typed : bytes_eq text any_type ≡ false

unlike : (text : List ℕ) → (text ≡ any_type → ⊥) → bytes_eq text any_type ≡ false
unlike text n = by_test (bytes_eq text any_type) refl
  where
    by_test : (t : Bool) → bytes_eq text any_type ≡ t → t ≡ false
    by_test true e = absurd (n ((bytes_eq-Decides text any_type).0 e))
    by_test false e = refl

pub absolute_is_word : (name : Name) → AllByRecursion IsLabel name → IsFieldWord (text_of name)
absolute_is_word name h = record { some = name_some name; shows = name_word name (label_octets name h); typed = unlike (text_of name) (ends_not (text_of name) (name_ends name)) }

-- labels with dots between them
front_run : (label : Label) (labels : Name) → AllByRecursion (AllByRecursion (λ c. c < 256)) (label ∷ labels) → Shows stops_word (labels_text (label ∷ labels))
front_run label [] h = octets_run label h.0
front_run label (next ∷ labels) h =
    shows_append (octets_run label h.0) (46 ∷ labels_text (next ∷ labels)) (shows_append (shows_one stops_word 46 refl refl) (labels_text (next ∷ labels)) (front_run next labels h.1))

-- a printed octet doesn't begin that word
octet_not : (c : ℕ) (more : List ℕ) → octet_text c ++ more ≡ any_type → ⊥
octet_not c more = go (is_special c) (ltb 32 c && ltb c 127) refl refl
  where
    go : (s p : Bool) → is_special c ≡ s → (ltb 32 c && ltb c 127) ≡ p → cond s (92 ∷ c ∷ []) (cond p (c ∷ []) (92 ∷ three_digits c)) ++ more ≡ any_type → ⊥
    go true p es ep e = let k : c ≡ 35 = ap (λ (l : List ℕ). get_or l 1 0) e in let f : is_special c ≡ false = ap is_special k in cc
    go false true es ep e = let k : c ≡ 92 = ap (λ (l : List ℕ). get_or l 0 0) e in let f : is_special c ≡ true = ap is_special k in cc
    go false false es ep e = let k : c / 100 + 48 ≡ 35 = ap (λ (l : List ℕ). get_or l 1 0) e in omega arith

pub begin_not : (text : List ℕ) → BeginsWithOctet text → text ≡ any_type → ⊥
begin_not text b e = octet_not b.octet b.more (sym b.is ∙ e)

front_is_word : (front : Name) → AllByRecursion IsLabel front → IsFieldWord (front_text front)
front_is_word [] h = record { some = omega arith; shows = shows_one stops_word 64 refl refl; typed = refl }
front_is_word (label ∷ labels) h =
    let b = labels_begin label labels h.0.some in
    record { some = text_some (labels_text (label ∷ labels)) b; shows = front_run label labels (label_octets (label ∷ labels) h); typed = unlike (labels_text (label ∷ labels)) (begin_not (labels_text (label ∷ labels)) b) }

pub some_labels : (n : ℕ) (name : Name) → AllByRecursion IsLabel name → AllByRecursion IsLabel (take n name)
some_labels zero name h = tt
some_labels (suc n) [] h = tt
some_labels (suc n) (label ∷ labels) h = (h.0, some_labels n labels h.1)

relative_is_word : (origin name : Name) → AllByRecursion IsLabel name → IsFieldWord (relative_text origin name)
relative_is_word origin name h = by_under (is_under name origin)
  where
    by_under : (u : Bool) → IsFieldWord (cond u (front_text (take (length name - length origin) name)) (text_of name))
    by_under true = front_is_word (take (length name - length origin) name) (some_labels (length name - length origin) name h)
    by_under false = absolute_is_word name h

-- a name in either manner
pub name_is_word : (printed : Option Name) (name : Name) → AllByRecursion IsLabel name → IsFieldWord (name_text printed name)
name_is_word None name h = absolute_is_word name h
name_is_word (Some origin) name h = relative_is_word origin name h

-- what begins with a hexadecimal digit isn't that word
begins_not : (text more : List ℕ) → list_all is_ascii_hexdigit text ≡ true → 0 < length text → text ++ more ≡ any_type → ⊥
begins_not [] more h lt e = omega arith
begins_not (c ∷ text) more h lt e =
    let k : c ≡ 92 = ap (λ (l : List ℕ). get_or l 0 0) e in
    let t : is_ascii_hexdigit c ≡ true = (both (is_ascii_hexdigit c) (list_all is_ascii_hexdigit text) h).0 in
    let f : is_ascii_hexdigit c ≡ false = ap is_ascii_hexdigit k in
    absurd cc

digit_is_hex : (c : ℕ) → is_ascii_digit c ≡ true → is_ascii_hexdigit c ≡ true
digit_is_hex c h = grind (arith, nat_tests)

all_hex : (text : List ℕ) → list_all is_ascii_digit text ≡ true → list_all is_ascii_hexdigit text ≡ true
all_hex [] h = refl
all_hex (c ∷ text) h = let f = both (is_ascii_digit c) (list_all is_ascii_digit text) h in ap (λ b. b && list_all is_ascii_hexdigit text) (digit_is_hex c f.0) ∙ all_hex text f.1

-- ---- numbers and addresses

decimal_first : (n : ℕ) (more : List ℕ) → n < 2 ^ 64 → Shows stops_word more → IsFieldWord (decimal n ++ more)
decimal_first n more h r = record {
  some = omega (arith, decimal_nonempty n h, length-append (decimal n) more);
  shows = shows_append (decimal_word n h) more r;
  typed = unlike (decimal n ++ more) (begins_not (decimal n) more (all_hex (decimal n) (decimal_all_digits n h)) (decimal_nonempty n h));
}

pub decimal_is_word : (n : ℕ) → n < 2 ^ 64 → IsFieldWord (decimal n)
decimal_is_word n h = subst IsFieldWord (append-nil (decimal n)) (decimal_first n [] h nothing)

address_run : (octets : List ℕ) → AllByRecursion (λ c. c < 256) octets → Shows stops_word (address_text octets)
address_run [] h = nothing
address_run (a ∷ []) h = decimal_word a (omega (arith, h.0))
address_run (a ∷ b ∷ octets) h = shows_append (shows_append (decimal_word a (omega (arith, h.0))) (46 ∷ []) (shows_one stops_word 46 refl refl)) (address_text (b ∷ octets)) (address_run (b ∷ octets) h.1)

pub address_is_word : (octets : List ℕ) → 1 < length octets → AllByRecursion (λ c. c < 256) octets → IsFieldWord (address_text octets)
address_is_word [] l h = absurd (omega arith)
address_is_word (a ∷ []) l h = absurd (omega arith)
address_is_word (a ∷ b ∷ octets) l h =
    subst IsFieldWord (sym (append_assoc (decimal a) (46 ∷ []) (address_text (b ∷ octets))))
    (decimal_first a (46 ∷ address_text (b ∷ octets)) (omega (arith, h.0)) (shows_append (shows_one stops_word 46 refl refl) (address_text (b ∷ octets)) (address_run (b ∷ octets) h.1)))

group_run : (n : ℕ) → n < 65536 → Shows stops_word (group_text n)
group_run n h = hex_word (group_text n) (group_texts n h).digits

groups_run : (octets : List ℕ) → InPairs octets → Shows stops_word (groups_text octets)
groups_run [] h = absurd h
groups_run (a ∷ []) h = absurd h
groups_run (a ∷ b ∷ []) h = group_run (from_be_bytes w16 (a ∷ b ∷ [])) (omega (arith, h.0, h.1))
groups_run (a ∷ b ∷ next ∷ rest) h =
    shows_append (shows_append (group_run (from_be_bytes w16 (a ∷ b ∷ [])) (omega (arith, h.0, h.1))) (58 ∷ []) (shows_one stops_word 58 refl refl)) (groups_text (next ∷ rest)) (groups_run (next ∷ rest) h.2)

group_first : (n : ℕ) (more : List ℕ) → n < 65536 → Shows stops_word more → IsFieldWord (group_text n ++ more)
group_first n more h r =
    let g = group_texts n h in record {
      some = omega (arith, g.some, length-append (group_text n) more);
      shows = shows_append (group_run n h) more r;
      typed = unlike (group_text n ++ more) (begins_not (group_text n) more g.digits g.some);
    }

pub groups_are_word : (octets : List ℕ) → InPairs octets → IsFieldWord (groups_text octets)
groups_are_word [] h = absurd h
groups_are_word (a ∷ []) h = absurd h
groups_are_word (a ∷ b ∷ []) h =
    let n = from_be_bytes w16 (a ∷ b ∷ []) in subst IsFieldWord (append-nil (group_text n)) (group_first n [] (omega (arith, h.0, h.1)) nothing)
groups_are_word (a ∷ b ∷ next ∷ rest) h =
    let n = from_be_bytes w16 (a ∷ b ∷ []) in
    subst IsFieldWord (sym (append_assoc (group_text n) (58 ∷ []) (groups_text (next ∷ rest))))
    (group_first n (58 ∷ groups_text (next ∷ rest)) (omega (arith, h.0, h.1)) (shows_append (shows_one stops_word 58 refl refl) (groups_text (next ∷ rest)) (groups_run (next ∷ rest) h.2)))

-- ---- strings and digits

quote_octet : (c : ℕ) → (eqb c 34 || eqb c 92) ≡ false → stops_quote c ≡ false
quote_octet c h = h

slash_shown : (c : ℕ) → (eqb c 34 || eqb c 92) ≡ true → is_shown c ≡ true
slash_shown c h = grind (arith, nat_tests)

string_octet_run : (c : ℕ) → c < 256 → Shows stops_quote (string_octet c)
string_octet_run c h = go (eqb c 34 || eqb c 92) (ltb 31 c && ltb c 127) refl refl
  where
    go : (s p : Bool) → (eqb c 34 || eqb c 92) ≡ s → (ltb 31 c && ltb c 127) ≡ p → Shows stops_quote (cond s (92 ∷ c ∷ []) (cond p (c ∷ []) (92 ∷ three_digits c)))
    go true p es ep = escaped stops_quote c (slash_shown c es)
    go false true es ep = shows_one stops_quote c (quote_octet c es) ep
    go false false es ep = digits_run stops_quote c digit_in_quotes h

pub string_run : (octets : List ℕ) → AllByRecursion (λ c. c < 256) octets → Shows stops_quote (string_text octets)
string_run [] h = nothing
string_run (c ∷ octets) h = shows_append (string_octet_run c h.0) (string_text octets) (string_run octets h.1)

pub hex_all : (octets : List ℕ) → AllByRecursion (λ c. c < 256) octets → (list_all is_ascii_hexdigit (flat_map hex_text octets) ≡ true) × (length (flat_map hex_text octets) ≡ 2 * length octets)
hex_all [] h = (refl, refl)
hex_all (c ∷ octets) h =
    let i = hex_all octets h.1 in
    let a : is_ascii_hexdigit (hex_digit (c / 16)) ≡ true = hexdigit_is (c / 16) (omega (arith, h.0)) in
    let b : is_ascii_hexdigit (hex_digit (c % 16)) ≡ true = hexdigit_is (c % 16) (omega arith) in
    (rw (a, b) i.0, omega (arith, i.1))

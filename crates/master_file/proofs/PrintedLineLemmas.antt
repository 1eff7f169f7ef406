-- A printed record is read as that record.
use Rattle.std.proofs.Common.{◌≡◌, ◌∙◌, ℕ, zero, suc, ◌+◌, ◌-◌, ◌^◌, ◌<◌, ◌≤◌, Bool, true, false, cond, not, ◌&&◌, ◌||◌, eqb, ltb, List, [], ◌∷◌, ◌++◌, length, get_or, take, refl, sym, ap, arith, Option, Some, None, Result, Ok, Err, append_assoc}
use Rattle.std.proofs.lemmas.Bool.Decides.{nat_tests}
use borrow.Author.Tests.{eqb-true}
use Rattle.std.specs.List.{list_all, slice_split, AllByRecursion, flat_map}
use Rattle.std.specs.Char.{is_ascii_digit}
use Rattle.std.specs.Fmt.{decimal}
use Rattle.std.proofs.lemmas.Fmt.{decimal_nonempty}
use Rattle.std.proofs.lemmas.List.Splits.{slice_split_at, length-slice_split}
use Rattle.std.specs.Str.Lines.{lines_of_parts, strip_carriage_return}
use Rattle.zone_model.specs.declared.ZoneKind.{ZoneKind}
use Rattle.zone_model.specs.declared.ZoneKind.TheVariants.{NoOwner, NoTtl}
use Rattle.zone_model.specs.declared.DataRefusal.TheVariants.{BadRdata}
use Rattle.master_file.specs.Rows.{IsRecord, StandsUnder, KnowsOwner, written, row_added, rows_added}
use Rattle.zone_model.specs.Refusals.{Refused, ◌>>=◌}
use Rattle.zone_model.specs.Names.{Name, IsLabel, is_under}
use Rattle.zone_model.specs.NameText.{name_of, text_of, label_text, octet_text, is_special, three_digits, labels_text, front_text, relative_text, name_text}
use Rattle.zone_model.specs.Lines.{lines_of}
use Rattle.zone_model.specs.Grammar as says
use Rattle.zone_model.specs.Grammar.{Token, Run, stops_word, Spelled, Spells, is_blank, begins_blank, parts_words, with_first, with_paren}
use Rattle.zone_model.specs.Tokens.{Scan, fresh, line_tokens}
use Rattle.zone_model.specs.DataWords.{time_of, data_type, type_named, class_named}
use Rattle.zone_model.specs.Types.{NamedType, named_types, type_numbered}
use Rattle.zone_model.specs.DataText.{mnemonic_in, type_text, data_text, data_text_in}
use Rattle.zone_model.specs.Data.{data_of}
use Rattle.zone_model.specs.MasterFile.{Reader, begins_with, is_time, front_of, required, or_else, minimum_of, time_for, added, after_record, record_says, last_line, entry_says, zone_from, at_first, with_soa, zone_of}
use Rattle.zone_model.specs.Rows.{Row, Directives, origin_of, ttl_field, line_text, row_text}
use Rattle.zone_model.proofs.SplitLemmas.{IsBytes}
use Rattle.zone_model.proofs.GrammarLemmas.{Agrees, line_read}
use Rattle.zone_model.proofs.TypeLaws.{found_passes}
use Rattle.dns_name.proofs.PrintedLemmas.{BeginsWithOctet, labels_begin}
use Rattle.rr_data.specs.Printing.{ReadsUnder}
use Rattle.rr_data.proofs.PrintedLemmas.{decimal_all_digits, time_back}
use Rattle.rr_data.proofs.PrintedFieldLemmas.{no_stop, name_back}
use Rattle.rr_data.proofs.PrintedWordLemmas.{is_shown, both, Shows, decimal_word, plain_word, IsFieldWord, name_is_word, some_labels}
use Rattle.rr_data.proofs.PrintedTypeLemmas.{type_back, type_is_word, IsTypeWord}
use Rattle.rr_data.proofs.PrintedDataLemmas.{plain, word, spell_word_then, shown_then, data_back, DataBack}

-- ---- a line that ends with a line feed

-- a byte that a printed line has: one that is shown, or a tab
abbrev pub in_line : ℕ → Bool
in_line c = is_shown c || eqb c 9

not_carriage : (text : List ℕ) (i : ℕ) → list_all in_line text ≡ true → eqb (get_or text i 0) 13 ≡ false
not_carriage [] i h = refl
not_carriage (c ∷ text) zero h = let f = both (in_line c) (list_all in_line text) h in line_apart c f.0
  where
    line_apart : (c : ℕ) → in_line c ≡ true → eqb c 13 ≡ false
    line_apart c h = grind (arith, nat_tests)
not_carriage (c ∷ text) (suc i) h = let f = both (in_line c) (list_all in_line text) h in not_carriage text i f.1

parts_more : (line : List ℕ) (parts : List (List ℕ)) → 0 < length parts → lines_of_parts (line ∷ parts) ≡ strip_carriage_return line ∷ lines_of_parts parts
parts_more line [] h = absurd (omega arith)
parts_more line (y ∷ more) h = refl

-- such bytes and a line feed are the first line
pub first_line : (text rest : List ℕ) → list_all in_line text ≡ true → lines_of (text ++ 10 ∷ rest) ≡ text ∷ lines_of rest
first_line text rest h =
    let some : 0 < length (slice_split (λ b. eqb b 10) rest) = omega (arith, length-slice_split (λ b. eqb b 10) rest) in
    let same : strip_carriage_return text ≡ text = ap (λ b. cond b (take (length text - 1) text) text) (not_carriage text (length text - 1) h) in
    ap lines_of_parts (slice_split_at (λ b. eqb b 10) text 10 rest (no_stop in_line text 10 h refl) refl)
    ∙ parts_more text (slice_split (λ b. eqb b 10) rest) some ∙ ap (λ (l : List ℕ). l ∷ lines_of rest) same

pub shown_in_line : (text : List ℕ) → list_all is_shown text ≡ true → list_all in_line text ≡ true
shown_in_line [] h = refl
shown_in_line (c ∷ text) h =
    let f = both (is_shown c) (list_all is_shown text) h in
    ap (λ (b : Bool). (b || eqb c 9) && list_all in_line text) f.0 ∙ shown_in_line text f.1

-- ---- the tokens of a line

-- each token stands on the line
abbrev OnLine : ℕ → Result Spelled ZoneKind → Type 0
OnLine n (Ok s) = AllByRecursion (λ (t : Token). t.line ≡ n) s.tokens
OnLine n (Err kind) = Unit {0}

first_on : (n : ℕ) (t : Token) (out : Result Spelled ZoneKind) → t.line ≡ n → OnLine n out → OnLine n (with_first t out)
first_on n t (Ok s) e h = (e, h)
first_on n t (Err kind) e h = tt

paren_on : (n : ℕ) (out : Result Spelled ZoneKind) → OnLine n out → OnLine n (with_paren out)
paren_on n (Ok s) h = h
paren_on n (Err kind) h = tt

on_line : (n : ℕ) {opens text : List ℕ} {out : Result Spelled ZoneKind} → Spells n opens text out → OnLine n out
on_line n (says.End opens) = tt
on_line n (says.Comment opens text) = tt
on_line n (says.Blank opens c text out e s) = on_line n s
on_line n (says.Open opens text out s) = paren_on n out (on_line n s)
on_line n (says.Close opened opens text out s) = on_line n s
on_line n (says.Word opens w text out l r x s) = first_on n (record { text = w; quoted = false; line = n }) out refl (on_line n s)
on_line n (says.Quoted opens inner text out r s) = first_on n (record { text = inner; quoted = true; line = n }) out refl (on_line n s)
on_line n (says.StrayClose text) = tt
on_line n (says.WordCut opens w r) = tt
on_line n (says.QuoteCut opens inner r) = tt
on_line n (says.QuoteOpen opens inner r) = tt

last_is : (n : ℕ) (tokens : List Token) → AllByRecursion (λ (t : Token). t.line ≡ n) tokens → last_line n tokens ≡ n
last_is n [] h = refl
last_is n (t ∷ tokens) h = ap (λ (k : ℕ). last_line k tokens) h.0 ∙ last_is n tokens h.1

-- a word doesn't begin with a space or tab
pub word_begins : {w : List ℕ} (rest : List ℕ) → Run stops_word w → 0 < length w → begins_blank (w ++ rest) ≡ false
word_begins rest says.Empty l = absurd (omega arith)
word_begins rest (says.Plain c text e r) l = grind (arith, nat_tests)
word_begins rest (says.Escaped c text r) l = refl

-- a line's tokens, where no parenthesis is open at its end
pub record ReadsLine (n : ℕ) (text : List ℕ) (tokens : List Token) : Type 0 where
  pub scan : Scan
  pub read : line_tokens n text fresh ≡ Ok scan
  pub depth : scan.depth ≡ 0
  pub tokens_are : scan.tokens ≡ tokens

pub reads_line : (n : ℕ) (text : List ℕ) (tokens : List Token) → Spells n [] text (plain tokens) → ReadsLine n text tokens
reads_line n text tokens s = agreed (line_tokens n text fresh) refl (line_read n s fresh (record { depth = refl; outer = λ h. absurd (omega arith) }))
  where
    agreed : (r : Result Scan (Refused ZoneKind)) → line_tokens n text fresh ≡ r → Agrees n fresh (plain tokens) r → ReadsLine n text tokens
    agreed (Ok t) e a = record { scan = t; read = e; depth = a.opens.depth; tokens_are = a.tokens }
    agreed (Err k) e a = absurd a

-- ---- the words of a record

-- a time to live's word, if it is written
abbrev stated : Bool → ℕ → Option ℕ
stated true ttl = Some ttl
stated false ttl = None

abbrev time_words : ℕ → Bool → ℕ → List Token → List Token
time_words n true ttl rest = word n (decimal ttl) ∷ rest
time_words n false ttl rest = rest

first_digit : (text : List ℕ) (n : ℕ) → 0 < length text → list_all is_ascii_digit text ≡ true → is_time (word n text) ≡ true
first_digit [] n l h = absurd (omega arith)
first_digit (c ∷ text) n l h = (both (is_ascii_digit c) (list_all is_ascii_digit text) h).0

-- a type's word begins with no digit
is_no_time : NamedType → Bool
is_no_time t = not (is_time (word 0 t.mnemonic))

none_is_time : list_all is_no_time named_types ≡ true
unfolding is_no_time
none_is_time = refl

type_no_time : (n rtype : ℕ) → is_time (word n (type_text rtype)) ≡ false
unfolding is_no_time
type_no_time n rtype = by_row (type_numbered rtype) refl
  where
    negated : (b : Bool) → not b ≡ true → b ≡ false
    negated true h = absurd cc
    negated false h = refl

    by_row : (o : Option NamedType) → type_numbered rtype ≡ o → is_time (word n (mnemonic_in o rtype)) ≡ false
    by_row None e = refl
    by_row (Some t) e = let f = found_passes is_no_time (λ (t : NamedType). eqb t.number rtype) named_types t none_is_time e in negated (is_time (word 0 t.mnemonic)) f.0

front_back : (last n : ℕ) (w : Bool) (ttl rtype : ℕ) (rest : List Token) → ttl ≤ 2147483647 → rtype ≤ 65535 → data_type rtype ≡ Some rtype
    → front_of last None false (time_words n w ttl (word n (73 ∷ 78 ∷ []) ∷ word n (type_text rtype) ∷ rest)) ≡ Ok (record { time = stated w ttl; rtype = rtype; rest = rest })
unfolding front_of class_named
front_back last n true ttl rtype rest ht hr d =
    let small : ttl < 2 ^ 64 = omega arith in
    let time : is_time (word n (decimal ttl)) ≡ true = first_digit (decimal ttl) n (decimal_nonempty ttl small) (decimal_all_digits ttl small) in
    let says_time : time_of (decimal ttl) ≡ Some ttl = time_back ttl ht in
    let says_type : type_named (type_text rtype) ≡ Some rtype = type_back rtype hr ∙ d in
    rw (time, says_time, says_type) refl
front_back last n false ttl rtype rest ht hr d =
    let no_time : is_time (word n (type_text rtype)) ≡ false = type_no_time n rtype in
    let says_type : type_named (type_text rtype) ≡ Some rtype = type_back rtype hr ∙ d in
    rw (no_time, says_type) refl

octet_no_dollar : (c : ℕ) (more : List ℕ) → begins_with 36 (octet_text c ++ more) ≡ false
octet_no_dollar c more = go (is_special c) (ltb 32 c && ltb c 127) refl
  where
    go : (s p : Bool) → is_special c ≡ s → begins_with 36 (cond s (92 ∷ c ∷ []) (cond p (c ∷ []) (92 ∷ three_digits c)) ++ more) ≡ false
    go true p e = refl
    go false true e = grind (arith, nat_tests)
    go false false e = refl

text_no_dollar : (text : List ℕ) → BeginsWithOctet text → begins_with 36 text ≡ false
text_no_dollar text b = ap (begins_with 36) b.is ∙ octet_no_dollar b.octet b.more

front_no_dollar : (front : Name) → AllByRecursion IsLabel front → begins_with 36 (front_text front) ≡ false
front_no_dollar [] h = refl
front_no_dollar (label ∷ labels) h = text_no_dollar (labels_text (label ∷ labels)) (labels_begin label labels h.0.some)

absolute_no_dollar : (name : Name) → AllByRecursion IsLabel name → begins_with 36 (text_of name) ≡ false
absolute_no_dollar [] h = refl
absolute_no_dollar ([] ∷ labels) h = absurd (omega (arith, h.0.some))
absolute_no_dollar ((c ∷ label) ∷ labels) h =
    ap (begins_with 36) (append_assoc (octet_text c ++ flat_map octet_text label) (46 ∷ []) (flat_map label_text labels) ∙ append_assoc (octet_text c) (flat_map octet_text label) (46 ∷ flat_map label_text labels))
    ∙ octet_no_dollar c (flat_map octet_text label ++ 46 ∷ flat_map label_text labels)

name_no_dollar : (printed : Option Name) (name : Name) → AllByRecursion IsLabel name → begins_with 36 (name_text printed name) ≡ false
name_no_dollar None name h = absolute_no_dollar name h
name_no_dollar (Some origin) name h = by_under (is_under name origin)
  where
    by_under : (u : Bool) → begins_with 36 (cond u (front_text (take (length name - length origin) name)) (text_of name)) ≡ false
    by_under true = front_no_dollar (take (length name - length origin) name) (some_labels (length name - length origin) name h)
    by_under false = absolute_no_dollar name h

time_is : (w : Bool) (ttl rtype : ℕ) (octets : List ℕ) (r : Reader) → (w ≡ false → r.set_time ≡ Some ttl) → time_for (stated w ttl) rtype octets r ≡ Some ttl
time_is true ttl rtype octets r h = refl
time_is false ttl rtype octets r h = ap (λ (o : Option ℕ). or_else o (or_else r.last_time (cond (eqb rtype 6) (Some (minimum_of octets)) r.minimum))) (h refl)

record_back : (apex owner : Name) (n : ℕ) (w : Bool) (ttl rtype : ℕ) (octets : List ℕ) (rest : List Token) (r : Reader) → ttl ≤ 2147483647 → rtype ≤ 65535 → data_type rtype ≡ Some rtype → data_of r.origin rtype rest ≡ Ok octets
    → (w ≡ false → r.set_time ≡ Some ttl)
    → record_says apex n owner (time_words n w ttl (word n (73 ∷ 78 ∷ []) ∷ word n (type_text rtype) ∷ rest)) r ≡ added apex n owner rtype ttl octets r.version >>= (λ version. Ok (after_record (stated w ttl) rtype octets owner r version))
unfolding record_says
record_back apex owner n w ttl rtype octets rest r ht hr d e set =
    rw (front_back n n w ttl rtype rest ht hr d) (rw e (ap (λ (o : Option ℕ). required n NoTtl o >>= (λ time. added apex n owner rtype time octets r.version >>= (λ version. Ok (after_record (stated w ttl) rtype octets owner r version)))) (time_is w ttl rtype octets r set)))

-- an entry that states its owner
owned_entry : (apex owner : Name) (n : ℕ) (text : List ℕ) (tokens : List Token) (r : Reader) → begins_with 36 text ≡ false → name_of text r.origin ≡ Ok owner → last_line n tokens ≡ n
    → entry_says apex n false (word n text ∷ tokens) r ≡ record_says apex n owner tokens r
unfolding entry_says
owned_entry apex owner n text tokens r dollar name l = rw dollar (rw name (ap (λ (k : ℕ). record_says apex k owner tokens r) l))

-- an entry whose owner is the last stated one
blank_entry : (apex owner : Name) (n : ℕ) (t : Token) (tokens : List Token) (r : Reader) → r.owner ≡ Some owner → last_line t.line tokens ≡ n → entry_says apex n true (t ∷ tokens) r ≡ record_says apex n owner (t ∷ tokens) r
unfolding entry_says
blank_entry apex owner n t tokens r known l =
    ap (λ (o : Option Name). required n NoOwner o >>= (λ (name : Name). record_says apex (last_line t.line tokens) name (t ∷ tokens) r)) known ∙ ap (λ (k : ℕ). record_says apex k owner (t ∷ tokens) r) l

pub zone_step : (apex : Name) (n : ℕ) (text : List ℕ) (lines : List (List ℕ)) (tokens : List Token) (r : Reader) → ReadsLine n text tokens → zone_from apex n (text ∷ lines) None r ≡ entry_says apex n (begins_blank text) tokens r >>= zone_from apex (n + 1) lines None
unfolding zone_from
zone_step apex n text lines tokens r l =
    let closed : eqb l.scan.depth 0 ≡ true = ap (λ (k : ℕ). eqb k 0) l.depth in
    rw l.read (rw closed (ap (λ (ts : List Token). entry_says apex n (begins_blank text) ts r >>= zone_from apex (n + 1) lines None) l.tokens_are))

-- ---- the text of a record's line

-- from the time to live on
abbrev class_text : Option Name → Row → List ℕ
class_text printed row = (73 ∷ 78 ∷ []) ++ 32 ∷ [] ++ (type_text row.rtype ++ 32 ∷ [] ++ data_text_in printed row.rtype row.octets)

abbrev time_text : Bool → ℕ → List ℕ → List ℕ
time_text true ttl rest = decimal ttl ++ 32 ∷ [] ++ rest
time_text false ttl rest = rest

-- whether a line says its time to live
abbrev says_time : Option Directives → ℕ → Bool
says_time None ttl = true
says_time (Some d) ttl = not (eqb ttl d.ttl)

written_is : (d : Option Directives) (ttl : ℕ) → stated (says_time d ttl) ttl ≡ written d ttl
written_is None ttl = refl
written_is (Some d) ttl = by_test (eqb ttl d.ttl)
  where
    by_test : (b : Bool) → stated (not b) ttl ≡ cond b None (Some ttl)
    by_test true = refl
    by_test false = refl

abbrev tail_text : Option Directives → Row → List ℕ
tail_text d row = time_text (says_time d row.ttl) row.ttl (class_text (origin_of d) row)

-- the line without its line feed
abbrev body_text : Option Directives → Bool → Row → List ℕ
body_text None first row = text_of row.owner ++ 32 ∷ [] ++ tail_text None row
body_text (Some d) true row = relative_text d.origin row.owner ++ 32 ∷ [] ++ tail_text (Some d) row
body_text (Some d) false row = 9 ∷ tail_text (Some d) row

full_parts : (o d t x rest : List ℕ) → o ++ 32 ∷ [] ++ d ++ 32 ∷ 73 ∷ 78 ∷ 32 ∷ [] ++ t ++ 32 ∷ [] ++ x ++ 10 ∷ [] ++ rest ≡ o ++ 32 ∷ [] ++ (d ++ 32 ∷ [] ++ ((73 ∷ 78 ∷ []) ++ 32 ∷ [] ++ (t ++ 32 ∷ [] ++ x))) ++ 10 ∷ rest
full_parts o d t x rest = simp append_assoc refl

timed_parts : (f d t x rest : List ℕ) → f ++ (d ++ 32 ∷ []) ++ 73 ∷ 78 ∷ 32 ∷ [] ++ t ++ 32 ∷ [] ++ x ++ 10 ∷ [] ++ rest ≡ f ++ (d ++ 32 ∷ [] ++ ((73 ∷ 78 ∷ []) ++ 32 ∷ [] ++ (t ++ 32 ∷ [] ++ x))) ++ 10 ∷ rest
timed_parts f d t x rest = simp append_assoc refl

untimed_parts : (f t x rest : List ℕ) → f ++ [] ++ 73 ∷ 78 ∷ 32 ∷ [] ++ t ++ 32 ∷ [] ++ x ++ 10 ∷ [] ++ rest ≡ f ++ ((73 ∷ 78 ∷ []) ++ 32 ∷ [] ++ (t ++ 32 ∷ [] ++ x)) ++ 10 ∷ rest
untimed_parts f t x rest = simp append_assoc refl

short_parts : (d : Directives) (f : List ℕ) (row : Row) (rest : List ℕ)
    → f ++ ttl_field d row.ttl ++ 73 ∷ 78 ∷ 32 ∷ [] ++ type_text row.rtype ++ 32 ∷ [] ++ data_text_in (Some d.origin) row.rtype row.octets ++ 10 ∷ [] ++ rest ≡ f ++ tail_text (Some d) row ++ 10 ∷ rest
short_parts d f row rest = by_test (eqb row.ttl d.ttl)
  where
    by_test : (b : Bool) → f ++ cond b [] (decimal row.ttl ++ 32 ∷ []) ++ 73 ∷ 78 ∷ 32 ∷ [] ++ type_text row.rtype ++ 32 ∷ [] ++ data_text_in (Some d.origin) row.rtype row.octets ++ 10 ∷ [] ++ rest
        ≡ f ++ time_text (not b) row.ttl (class_text (Some d.origin) row) ++ 10 ∷ rest
    by_test true = untimed_parts f (type_text row.rtype) (data_text_in (Some d.origin) row.rtype row.octets) rest
    by_test false = timed_parts f (decimal row.ttl) (type_text row.rtype) (data_text_in (Some d.origin) row.rtype row.octets) rest

line_parts : (d : Option Directives) (first : Bool) (row : Row) (rest : List ℕ) → line_text d first row ++ rest ≡ body_text d first row ++ 10 ∷ rest
line_parts None first row rest = full_parts (text_of row.owner) (decimal row.ttl) (type_text row.rtype) (data_text row.rtype row.octets) rest
line_parts (Some d) true row rest = short_parts d (relative_text d.origin row.owner ++ 32 ∷ []) row rest
line_parts (Some d) false row rest = short_parts d (9 ∷ []) row rest

bytes_from : (octets : List ℕ) → AllByRecursion (λ c. c < 256) octets → IsBytes octets
bytes_from [] h i = omega arith
bytes_from (c ∷ octets) h zero = h.0
bytes_from (c ∷ octets) h (suc i) = bytes_from octets h.1 i

-- ---- the words of a line, as its text stands on them

-- from the time to live on
record TailWords (printed : Option Name) (n : ℕ) (w : Bool) (row : Row) : Type 0 where
  pub others : List Token
  pub spelled : Spells n [] (time_text w row.ttl (class_text printed row)) (plain (time_words n w row.ttl (word n (73 ∷ 78 ∷ []) ∷ word n (type_text row.rtype) ∷ others)))
  pub shown : list_all is_shown (time_text w row.ttl (class_text printed row)) ≡ true
  pub read : (origin : Name) → ReadsUnder printed origin → data_of origin row.rtype others ≡ Ok row.octets
  pub last : last_line n others ≡ n

tail_words : (printed : Option Name) (n : ℕ) (w : Bool) (row : Row) → IsRecord row → TailWords printed n w row
tail_words printed n w row h =
    let d : DataBack printed n row.rtype row.octets = data_back printed n row.rtype row.octets (bytes_from row.octets h.bytes) h.short in
    let t : IsTypeWord (type_text row.rtype) row.rtype = type_is_word row.rtype h.number in
    let class : Shows stops_word (73 ∷ 78 ∷ []) = plain_word (73 ∷ 78 ∷ []) refl in
    let from_type = type_text row.rtype ++ 32 ∷ [] ++ data_text_in printed row.rtype row.octets in
    let at_type = spell_word_then n (type_text row.rtype) (data_text_in printed row.rtype row.octets) d.tokens t.some t.shows.run d.spelled in
    let at_class = spell_word_then n (73 ∷ 78 ∷ []) from_type (word n (type_text row.rtype) ∷ d.tokens) (omega arith) class.run at_type in
    let class_shown = shown_then (73 ∷ 78 ∷ []) from_type class.shown (shown_then (type_text row.rtype) (data_text_in printed row.rtype row.octets) t.shows.shown d.shown) in
    let timed = by_time w (word n (73 ∷ 78 ∷ []) ∷ word n (type_text row.rtype) ∷ d.tokens) (omega (arith, h.time)) at_class class_shown in
    record {
      others = d.tokens;
      spelled = timed.0;
      shown = timed.1;
      read = λ origin u. d.read origin u ∙ ap (λ b. cond b (Ok row.octets) (Err (BadRdata 0))) h.form;
      last = last_is n d.tokens (on_line n d.spelled);
    }
  where
    by_time : (w : Bool) (tokens : List Token) → row.ttl < 2 ^ 64 → Spells n [] (class_text printed row) (plain tokens) → list_all is_shown (class_text printed row) ≡ true
        → Spells n [] (time_text w row.ttl (class_text printed row)) (plain (time_words n w row.ttl tokens)) × (list_all is_shown (time_text w row.ttl (class_text printed row)) ≡ true)
    by_time true tokens small s k =
        let time : Shows stops_word (decimal row.ttl) = decimal_word row.ttl small in
        (spell_word_then n (decimal row.ttl) (class_text printed row) tokens (decimal_nonempty row.ttl small) time.run s, shown_then (decimal row.ttl) (class_text printed row) time.shown k)
    by_time false tokens small s k = (s, k)

-- an owner, a space and the tail
record OwnedWords (printed : Option Name) (n : ℕ) (w : Bool) (row : Row) : Type 0 where
  pub tokens : List Token
  pub spelled : Spells n [] (name_text printed row.owner ++ 32 ∷ [] ++ time_text w row.ttl (class_text printed row)) (plain tokens)
  pub shown : list_all is_shown (name_text printed row.owner ++ 32 ∷ [] ++ time_text w row.ttl (class_text printed row)) ≡ true
  pub begins : begins_blank (name_text printed row.owner ++ 32 ∷ [] ++ time_text w row.ttl (class_text printed row)) ≡ false
  pub says : (apex : Name) (r : Reader) → ReadsUnder printed r.origin → (w ≡ false → r.set_time ≡ Some row.ttl)
      → entry_says apex n false tokens r ≡ added apex n row.owner row.rtype row.ttl row.octets r.version >>= (λ version. Ok (after_record (stated w row.ttl) row.rtype row.octets row.owner r version))

-- the tail's words stand on the line
tail_last : (n : ℕ) (w : Bool) (ttl rtype : ℕ) (others : List Token) → last_line n others ≡ n → last_line n (time_words n w ttl (word n (73 ∷ 78 ∷ []) ∷ word n (type_text rtype) ∷ others)) ≡ n
tail_last n true ttl rtype others h = h
tail_last n false ttl rtype others h = h

owned_words : (printed : Option Name) (n : ℕ) (w : Bool) (row : Row) → IsRecord row → OwnedWords printed n w row
owned_words printed n w row h =
    let t : TailWords printed n w row = tail_words printed n w row h in
    let tail = time_text w row.ttl (class_text printed row) in
    let words : List Token = time_words n w row.ttl (word n (73 ∷ 78 ∷ []) ∷ word n (type_text row.rtype) ∷ t.others) in
    let o : IsFieldWord (name_text printed row.owner) = name_is_word printed row.owner h.owner.each in
    record {
      tokens = word n (name_text printed row.owner) ∷ words;
      spelled = spell_word_then n (name_text printed row.owner) tail words o.some o.shows.run t.spelled;
      shown = shown_then (name_text printed row.owner) tail o.shows.shown t.shown;
      begins = ap begins_blank (append_assoc (name_text printed row.owner) (32 ∷ []) tail) ∙ word_begins (32 ∷ tail) o.shows.run o.some;
      says = λ apex r u set.
          owned_entry apex row.owner n (name_text printed row.owner) words r (name_no_dollar printed row.owner h.owner.each) (name_back printed r.origin row.owner u h.owner) (tail_last n w row.ttl row.rtype t.others t.last)
          ∙ record_back apex row.owner n w row.ttl row.rtype row.octets t.others r h.time h.number h.kind (t.read r.origin u) set;
    }

tail_entry : (apex owner : Name) (n : ℕ) (w : Bool) (ttl : ℕ) (t : Token) (tokens : List Token) (r : Reader) → t.line ≡ n → r.owner ≡ Some owner → last_line n tokens ≡ n
    → entry_says apex n true (time_words n w ttl (t ∷ tokens)) r ≡ record_says apex n owner (time_words n w ttl (t ∷ tokens)) r
tail_entry apex owner n true ttl t tokens r e known l = blank_entry apex owner n (word n (decimal ttl)) (t ∷ tokens) r known (ap (λ (k : ℕ). last_line k tokens) e ∙ l)
tail_entry apex owner n false ttl t tokens r e known l = blank_entry apex owner n t tokens r known (ap (λ (k : ℕ). last_line k tokens) e ∙ l)

-- what a line's words say
record LineWords (d : Option Directives) (first : Bool) (n : ℕ) (row : Row) : Type 0 where
  pub tokens : List Token
  pub spelled : Spells n [] (body_text d first row) (plain tokens)
  pub in_line : list_all in_line (body_text d first row) ≡ true
  pub says : (apex : Name) (r : Reader) → StandsUnder d r → KnowsOwner d first row.owner r → entry_says apex n (begins_blank (body_text d first row)) tokens r ≡ row_added apex n (written d row.ttl) row r

row_is : (apex : Name) (n : ℕ) (d : Option Directives) (row : Row) (r : Reader)
    → (added apex n row.owner row.rtype row.ttl row.octets r.version >>= (λ version. Ok (after_record (stated (says_time d row.ttl) row.ttl) row.rtype row.octets row.owner r version))) ≡ row_added apex n (written d row.ttl) row r
row_is apex n d row r = ap (λ (o : Option ℕ). row_added apex n o row r) (written_is d row.ttl)

-- a time to live that isn't written is the directive's
left_out : (d : Directives) (ttl : ℕ) (r : Reader) → r.set_time ≡ Some d.ttl → says_time (Some d) ttl ≡ false → r.set_time ≡ Some ttl
left_out d ttl r set e = set ∙ ap Some (sym (eqb-true ttl d.ttl (negated (eqb ttl d.ttl) e)))
  where
    negated : (b : Bool) → not b ≡ false → b ≡ true
    negated true h = refl
    negated false h = absurd cc

owned_line : (d : Option Directives) (n : ℕ) (row : Row) (apex : Name) (r : Reader) (o : OwnedWords (origin_of d) n (says_time d row.ttl) row) → ReadsUnder (origin_of d) r.origin → (says_time d row.ttl ≡ false → r.set_time ≡ Some row.ttl)
    → entry_says apex n (begins_blank (name_text (origin_of d) row.owner ++ 32 ∷ [] ++ tail_text d row)) o.tokens r ≡ row_added apex n (written d row.ttl) row r
owned_line d n row apex r o u set = ap (λ (b : Bool). entry_says apex n b o.tokens r) o.begins ∙ o.says apex r u set ∙ row_is apex n d row r

line_words : (d : Option Directives) (first : Bool) (n : ℕ) (row : Row) → IsRecord row → LineWords d first n row
line_words None first n row h =
    let o : OwnedWords None n true row = owned_words None n true row h in
    record {
      tokens = o.tokens;
      spelled = o.spelled;
      in_line = shown_in_line (body_text None first row) o.shown;
      says = λ apex r s k. owned_line None n row apex r o tt (λ e. absurd cc);
    }
line_words (Some d) true n row h =
    let o : OwnedWords (Some d.origin) n (says_time (Some d) row.ttl) row = owned_words (Some d.origin) n (says_time (Some d) row.ttl) row h in
    record {
      tokens = o.tokens;
      spelled = o.spelled;
      in_line = shown_in_line (body_text (Some d) true row) o.shown;
      says = λ apex r s k. owned_line (Some d) n row apex r o s.0 (left_out d row.ttl r s.1);
    }
line_words (Some d) false n row h =
    let w = says_time (Some d) row.ttl in
    let t : TailWords (Some d.origin) n w row = tail_words (Some d.origin) n w row h in
    let words : List Token = word n (type_text row.rtype) ∷ t.others in
    record {
      tokens = time_words n w row.ttl (word n (73 ∷ 78 ∷ []) ∷ words);
      spelled = says.Blank [] 9 (tail_text (Some d) row) (plain (time_words n w row.ttl (word n (73 ∷ 78 ∷ []) ∷ words))) refl t.spelled;
      in_line = shown_in_line (tail_text (Some d) row) t.shown;
      says = λ apex r s k.
          tail_entry apex row.owner n w row.ttl (word n (73 ∷ 78 ∷ [])) words r refl k t.last
          ∙ record_back apex row.owner n w row.ttl row.rtype row.octets t.others r h.time h.number h.kind (t.read r.origin s.0) (left_out d row.ttl r s.1) ∙ row_is apex n (Some d) row r;
    }

-- a printed record is the first line
row_line : (d : Option Directives) (first : Bool) (row : Row) (rest : List ℕ) → IsRecord row → lines_of (line_text d first row ++ rest) ≡ body_text d first row ∷ lines_of rest
row_line d first row rest h = ap lines_of (line_parts d first row rest) ∙ first_line (body_text d first row) rest (line_words d first 1 row h).in_line

pub row_back : (d : Option Directives) (first : Bool) (row : Row) (apex : Name) (n : ℕ) (rest : List ℕ) (r : Reader) → IsRecord row → StandsUnder d r → KnowsOwner d first row.owner r
    → zone_from apex n (lines_of (line_text d first row ++ rest)) None r ≡ row_added apex n (written d row.ttl) row r >>= zone_from apex (n + 1) (lines_of rest) None
row_back d first row apex n rest r h stands knows =
    let w : LineWords d first n row = line_words d first n row h in
    ap (λ (ls : List (List ℕ)). zone_from apex n ls None r) (row_line d first row rest h)
    ∙ zone_step apex n (body_text d first row) (lines_of rest) w.tokens r (reads_line n (body_text d first row) w.tokens w.spelled)
    ∙ ap (λ x. x >>= zone_from apex (n + 1) (lines_of rest) None) (w.says apex r stands knows)

-- ---- all records

pub no_lines : (apex : Name) (n : ℕ) (r : Reader) → zone_from apex n [] None r ≡ Ok r
unfolding zone_from
no_lines apex n r = refl

on_from : {A B E : Type 0} (a : Result A E) (f g : A → Result B E) → ((x : A) → f x ≡ g x) → a >>= f ≡ a >>= g
on_from (Ok x) f g h = h x
on_from (Err e) f g h = refl

pub rows_back : (rows : List Row) (apex : Name) (n : ℕ) (r : Reader) → AllByRecursion IsRecord rows → zone_from apex n (lines_of (flat_map row_text rows)) None r ≡ rows_added apex n rows r
rows_back [] apex n r h = no_lines apex n r
rows_back (row ∷ rows) apex n r h = row_back None true row apex n (flat_map row_text rows) r h.0 tt tt ∙ on_from (row_added apex n (Some row.ttl) row r) (zone_from apex (n + 1) (lines_of (flat_map row_text rows)) None) (rows_added apex (n + 1) rows) (λ x. rows_back rows apex (n + 1) x h.1)

rows_lines : (rows : List Row) → AllByRecursion IsRecord rows → length (lines_of (flat_map row_text rows)) ≡ length rows
rows_lines [] h = refl
rows_lines (row ∷ rows) h = ap (λ (l : List (List ℕ)). length l) (row_line None true row (flat_map row_text rows) h.0) ∙ ap suc (rows_lines rows h.1)

pub zone_back : (rows : List Row) (apex : Name) → AllByRecursion IsRecord rows → zone_of apex (lines_of (flat_map row_text rows)) ≡ rows_added apex 1 rows (at_first apex) >>= with_soa apex (length rows + 1)
unfolding zone_of
zone_back rows apex h =
    ap (λ x. x >>= with_soa apex (length (lines_of (flat_map row_text rows)) + 1)) (rows_back rows apex 1 (at_first apex) h) ∙ ap (λ (k : ℕ). rows_added apex 1 rows (at_first apex) >>= with_soa apex (k + 1)) (rows_lines rows h)

-- A line of a script says the operation that it was written of.
use Rattle.std.proofs.Common.{◌≡◌, ◌∙◌, ℕ, ◌^◌, ◌<◌, ◌≤◌, Bool, true, false, cond, eqb, List, [], ◌∷◌, ◌++◌, length, refl, sym, ap, arith, Option, Some, None, Ok, Err, codes, append_assoc}
use Rattle.std.specs.List.{list_all}
use Rattle.std.specs.Option.{option_map}
use Rattle.std.specs.Fmt.{decimal}
use Rattle.std.proofs.lemmas.Fmt.{decimal_nonempty}
use Rattle.zone_model.specs.Names.{Name, is_under}
use Rattle.zone_model.specs.NameText.{name_of, text_of}
use Rattle.zone_model.specs.Grammar.{Token, Spells, stops_word}
use Rattle.zone_model.specs.DataText.{data_text, type_text}
use Rattle.zone_model.specs.DataWords.{time_of, type_named}
use Rattle.zone_model.specs.Data.{data_of, read_fields, read_formed}
use Rattle.zone_model.specs.Types.{Fields, Form, NamedType, Strings, named_types, type_numbered}
use Rattle.zone_model.specs.Versions.{Operation, Add, DeleteName, DeleteSet, DeleteRecord}
use Rattle.zone_model.specs.declared.DataRefusal.TheVariants.{BadRdata}
use Rattle.zone_model.proofs.TypeLaws.{found_passes}
use Rattle.rr_data.proofs.PrintedLemmas.{time_back}
use Rattle.rr_data.proofs.PrintedFieldLemmas.{name_back}
use Rattle.rr_data.proofs.PrintedWordLemmas.{IsFieldWord, Shows, alphabetic_word, decimal_word, is_shown, name_is_word}
use Rattle.rr_data.proofs.PrintedTypeLemmas.{IsTypeWord, type_back, type_is_word}
use Rattle.rr_data.proofs.PrintedDataLemmas.{DataBack, data_back, plain, shown_then, spell_word, spell_word_then, word}
use Rattle.job_model.specs.Arguments.{addition_of, deletion_of}
use Rattle.job_model.specs.Jobs.{Script, Unfinished, by_block, joined, tokens_say}
use Rattle.job_model.specs.Phrases.{Adds, Deletes, phrase_of}
use Rattle.job_model.specs.Questions.{asked_of}
use Rattle.report_laws.specs.Changes.{IsInside}
use Rattle.report_laws.proofs.EntryLemmas.{IsData}
use Rattle.zone_diff.specs.declared.DiffStyle.TheVariants.{Script as AsScript}
use Rattle.zone_diff.specs.Texts.{line}
use Rattle.zone_diff.proofs.SoaForms.{is_bytes}
use Rattle.zone_diff.proofs.SaidLemmas.{IsTold, IsType}

-- ---- the text of a line

-- without its line feed
abbrev pub body : Operation → List ℕ
body (Add a) = codes "add" ++ 32 ∷ [] ++ (text_of a.owner ++ 32 ∷ [] ++ (decimal a.ttl ++ 32 ∷ [] ++ (type_text a.rtype ++ 32 ∷ [] ++ data_text a.rtype a.octets)))
body (DeleteName owner) = codes "del" ++ 32 ∷ [] ++ text_of owner
body (DeleteSet owner rtype) = codes "del" ++ 32 ∷ [] ++ (text_of owner ++ 32 ∷ [] ++ type_text rtype)
body (DeleteRecord owner rtype octets) = codes "del" ++ 32 ∷ [] ++ (text_of owner ++ 32 ∷ [] ++ (type_text rtype ++ 32 ∷ [] ++ data_text rtype octets))

five : (a n s d e t x l r : List ℕ) → a ++ n ++ s ++ d ++ s ++ e ++ (t ++ s ++ x) ++ l ++ r ≡ a ++ (n ++ (s ++ (d ++ (s ++ (e ++ (t ++ (s ++ (x ++ (l ++ r)))))))))
five a n s d e t x l r = simp append_assoc

five_words : (a s n d t x r : List ℕ) → a ++ s ++ (n ++ s ++ (d ++ s ++ (t ++ s ++ x))) ++ r ≡ a ++ (s ++ (n ++ (s ++ (d ++ (s ++ (t ++ (s ++ (x ++ r))))))))
five_words a s n d t x r = simp append_assoc

four : (a n s e t x l r : List ℕ) → a ++ n ++ s ++ e ++ (t ++ s ++ x) ++ l ++ r ≡ a ++ (n ++ (s ++ (e ++ (t ++ (s ++ (x ++ (l ++ r)))))))
four a n s e t x l r = simp append_assoc

four_words : (a s n t x r : List ℕ) → a ++ s ++ (n ++ s ++ (t ++ s ++ x)) ++ r ≡ a ++ (s ++ (n ++ (s ++ (t ++ (s ++ (x ++ r))))))
four_words a s n t x r = simp append_assoc

abbrev space : List ℕ
space = 32 ∷ []

abbrev feed : List ℕ
feed = 10 ∷ []

pub line_parts : (operation : Operation) (rest : List ℕ) → line AsScript operation ++ rest ≡ body operation ++ 10 ∷ rest
line_parts (Add a) rest =
    five (codes "add ") (text_of a.owner) space (decimal a.ttl) [] (type_text a.rtype) (data_text a.rtype a.octets) feed rest
    ∙ sym (five_words (codes "add") space (text_of a.owner) (decimal a.ttl) (type_text a.rtype) (data_text a.rtype a.octets) (10 ∷ rest))
line_parts (DeleteName owner) rest = simp append_assoc
line_parts (DeleteSet owner rtype) rest = simp append_assoc
line_parts (DeleteRecord owner rtype octets) rest =
    four (codes "del ") (text_of owner) space [] (type_text rtype) (data_text rtype octets) feed rest ∙ sym (four_words (codes "del") space (text_of owner) (type_text rtype) (data_text rtype octets) (10 ∷ rest))

-- ---- data has a token

has_words : Form → Bool
has_words Strings = true
has_words (Fields []) = false
has_words (Fields (field ∷ fields)) = true

type_has_words : NamedType → Bool
type_has_words t = has_words t.form

all_have_words : list_all type_has_words named_types ≡ true
unfolding type_has_words has_words
all_have_words = refl

no_words : (origin : Name) (rtype : ℕ) (octets : List ℕ) → data_of origin rtype [] ≡ Ok octets → ⊥
unfolding data_of read_fields has_words type_has_words
no_words origin rtype octets h = by_row (type_numbered rtype) refl h
  where
    by_form : (f : Form) → has_words f ≡ true → read_formed origin (Some f) [] ≡ Ok octets → ⊥
    by_form Strings w e = cc
    by_form (Fields []) w e = cc
    by_form (Fields (field ∷ fields)) w e = cc

    by_row : (o : Option NamedType) → type_numbered rtype ≡ o → read_formed origin (option_map (λ (t : NamedType). t.form) o) [] ≡ Ok octets → ⊥
    by_row None e k = cc
    by_row (Some t) e k = let f = found_passes type_has_words (λ (t : NamedType). eqb t.number rtype) named_types t all_have_words e in by_form t.form f.0 k

-- ---- words

record NameSaid (origin : Name) (n : ℕ) (owner : Name) : Type 0 where
  some : 0 < length (text_of owner)
  shows : Shows stops_word (text_of owner)
  read : name_of (text_of owner) origin ≡ Ok owner
  under : is_under owner origin ≡ true

name_said : (origin : Name) (n : ℕ) (owner : Name) → IsInside origin owner → NameSaid origin n owner
name_said origin n owner inside =
    let w : IsFieldWord (text_of owner) = name_is_word None owner inside.name.each in
    record { some = w.some; shows = w.shows; read = name_back None origin owner tt inside.name; under = inside.under }

type_said : (t : ℕ) → IsType t → type_named (type_text t) ≡ Some t
type_said t is = type_back t is.number ∙ is.kind

-- data with its tokens, of which there are some
record DataSaid (origin : Name) (n rtype : ℕ) (octets : List ℕ) : Type 0 where
  first : Token
  others : List Token
  spelled : Spells n [] (data_text rtype octets) (plain (first ∷ others))
  shown : list_all is_shown (data_text rtype octets) ≡ true
  read : data_of origin rtype (first ∷ others) ≡ Ok octets

data_said : (origin : Name) (n rtype : ℕ) (octets : List ℕ) → IsData rtype octets → DataSaid origin n rtype octets
data_said origin n rtype octets is = by_tokens d.tokens d.spelled (d.read origin tt ∙ ap (λ (b : Bool). cond b (Ok octets) (Err (BadRdata 0))) is.form)
  where
    d : DataBack None n rtype octets
    d = data_back None n rtype octets (is_bytes octets is.bytes) is.short

    by_tokens : (tokens : List Token) → Spells n [] (data_text rtype octets) (plain tokens) → data_of origin rtype tokens ≡ Ok octets → DataSaid origin n rtype octets
    by_tokens [] s r = absurd (no_words origin rtype octets r)
    by_tokens (first ∷ others) s r = record { first = first; others = others; spelled = s; shown = d.shown; read = r }

-- ---- a line

-- what a script's line stands on, inside a block
pub record LineSaid (origin : Name) (n : ℕ) (operation : Operation) : Type 0 where
  pub tokens : List Token
  pub spelled : Spells n [] (body operation) (plain tokens)
  pub shown : list_all is_shown (body operation) ≡ true
  pub says : (s : Script) (b : Unfinished) → s.block ≡ Some b → tokens_say origin n s (Some tokens) ≡ joined n b s (Ok operation)

add_shows : Shows stops_word (codes "add")
add_shows = alphabetic_word (codes "add") refl

del_shows : Shows stops_word (codes "del")
del_shows = alphabetic_word (codes "del") refl

name_gone : (origin owner : Name) (n : ℕ) → NameSaid origin n owner → deletion_of origin n (word n (text_of owner)) [] ≡ Ok (DeleteName owner)
unfolding deletion_of
name_gone origin owner n w = rw w.read (rw w.under refl)

set_gone : (origin owner : Name) (n rtype : ℕ) → NameSaid origin n owner → type_named (type_text rtype) ≡ Some rtype → deletion_of origin n (word n (text_of owner)) (word n (type_text rtype) ∷ []) ≡ Ok (DeleteSet owner rtype)
unfolding deletion_of
set_gone origin owner n rtype w t = rw w.read (rw w.under (rw t refl))

record_gone : (origin owner : Name) (n rtype : ℕ) (octets : List ℕ) → NameSaid origin n owner → type_named (type_text rtype) ≡ Some rtype → (d : DataSaid origin n rtype octets)
    → deletion_of origin n (word n (text_of owner)) (word n (type_text rtype) ∷ d.first ∷ d.others) ≡ Ok (DeleteRecord owner rtype octets)
unfolding deletion_of
record_gone origin owner n rtype octets w t d = rw w.read (rw w.under (rw t (rw d.read refl)))

record_come : (origin owner : Name) (n rtype ttl : ℕ) (octets : List ℕ) → NameSaid origin n owner → time_of (decimal ttl) ≡ Some ttl → type_named (type_text rtype) ≡ Some rtype → (d : DataSaid origin n rtype octets)
    → addition_of origin n (word n (text_of owner)) (word n (decimal ttl)) (word n (type_text rtype)) (d.first ∷ d.others) ≡ Ok (Add (record { owner = owner; rtype = rtype; ttl = ttl; octets = octets }))
unfolding addition_of
record_come origin owner n rtype ttl octets w m t d = rw w.read (rw w.under (rw m (rw t (rw d.read refl))))

del_line : (origin : Name) (n : ℕ) (owner : List ℕ) (rest : List Token) (operation : Operation) (s : Script) (b : Unfinished) → deletion_of origin n (word n owner) rest ≡ Ok operation → s.block ≡ Some b → tokens_say origin n s (Some (word n (codes "del") ∷ word n owner ∷ rest)) ≡ joined n b s (Ok operation)
unfolding phrase_of asked_of
del_line origin n owner rest operation s b e h = ap (by_block origin n (Deletes (word n owner) rest) s) h ∙ ap (joined n b s) e

add_line : (origin : Name) (n : ℕ) (owner ttl rtype : List ℕ) (first : Token) (others : List Token) (operation : Operation) (s : Script) (b : Unfinished) → addition_of origin n (word n owner) (word n ttl) (word n rtype) (first ∷ others) ≡ Ok operation → s.block ≡ Some b
    → tokens_say origin n s (Some (word n (codes "add") ∷ word n owner ∷ word n ttl ∷ word n rtype ∷ first ∷ others)) ≡ joined n b s (Ok operation)
unfolding phrase_of asked_of
add_line origin n owner ttl rtype first others operation s b e h = ap (by_block origin n (Adds (word n owner) (word n ttl) (word n rtype) (first ∷ others)) s) h ∙ ap (joined n b s) e

pub line_said : (origin : Name) (n : ℕ) (operation : Operation) → IsTold origin operation → LineSaid origin n operation
line_said origin n (DeleteName owner) inside =
    let w : NameSaid origin n owner = name_said origin n owner inside in record {
      tokens = word n (codes "del") ∷ word n (text_of owner) ∷ [];
      spelled = spell_word_then n (codes "del") (text_of owner) (word n (text_of owner) ∷ []) (omega arith) del_shows.run (spell_word n (text_of owner) w.some w.shows.run);
      shown = shown_then (codes "del") (text_of owner) refl w.shows.shown;
      says = λ s b h. del_line origin n (text_of owner) [] (DeleteName owner) s b (name_gone origin owner n w) h;
    }
line_said origin n (DeleteSet owner rtype) (inside, is) =
    let w : NameSaid origin n owner = name_said origin n owner inside in
    let t : IsTypeWord (type_text rtype) rtype = type_is_word rtype is.number in record {
      tokens = word n (codes "del") ∷ word n (text_of owner) ∷ word n (type_text rtype) ∷ [];
      spelled =
          spell_word_then n (codes "del") (text_of owner ++ 32 ∷ [] ++ type_text rtype) (word n (text_of owner) ∷ word n (type_text rtype) ∷ []) (omega arith) del_shows.run
          (spell_word_then n (text_of owner) (type_text rtype) (word n (type_text rtype) ∷ []) w.some w.shows.run (spell_word n (type_text rtype) t.some t.shows.run));
      shown = shown_then (codes "del") (text_of owner ++ 32 ∷ [] ++ type_text rtype) refl (shown_then (text_of owner) (type_text rtype) w.shows.shown t.shows.shown);
      says = λ s b h. del_line origin n (text_of owner) (word n (type_text rtype) ∷ []) (DeleteSet owner rtype) s b (set_gone origin owner n rtype w (type_said rtype is)) h;
    }
line_said origin n (DeleteRecord owner rtype octets) (inside, is, data') =
    let w : NameSaid origin n owner = name_said origin n owner inside in
    let t : IsTypeWord (type_text rtype) rtype = type_is_word rtype is.number in
    let d : DataSaid origin n rtype octets = data_said origin n rtype octets data' in
    let tail : List ℕ = type_text rtype ++ 32 ∷ [] ++ data_text rtype octets in record {
      tokens = word n (codes "del") ∷ word n (text_of owner) ∷ word n (type_text rtype) ∷ d.first ∷ d.others;
      spelled =
          spell_word_then n (codes "del") (text_of owner ++ 32 ∷ [] ++ tail) (word n (text_of owner) ∷ word n (type_text rtype) ∷ d.first ∷ d.others) (omega arith) del_shows.run
          (spell_word_then n (text_of owner) tail (word n (type_text rtype) ∷ d.first ∷ d.others) w.some w.shows.run (spell_word_then n (type_text rtype) (data_text rtype octets) (d.first ∷ d.others) t.some t.shows.run d.spelled));
      shown = shown_then (codes "del") (text_of owner ++ 32 ∷ [] ++ tail) refl (shown_then (text_of owner) tail w.shows.shown (shown_then (type_text rtype) (data_text rtype octets) t.shows.shown d.shown));
      says = λ s b h. del_line origin n (text_of owner) (word n (type_text rtype) ∷ d.first ∷ d.others) (DeleteRecord owner rtype octets) s b (record_gone origin owner n rtype octets w (type_said rtype is) d) h;
    }
line_said origin n (Add a) (inside, is) =
    let w : NameSaid origin n a.owner = name_said origin n a.owner inside in
    let t : IsTypeWord (type_text a.rtype) a.rtype = type_is_word a.rtype is.number in
    let d : DataSaid origin n a.rtype a.octets = data_said origin n a.rtype a.octets (record { bytes = is.bytes; short = is.short; form = is.form }) in
    let time : a.ttl ≤ 2147483647 = is.time in
    let small : a.ttl < 2 ^ 64 = omega arith in
    let m : Shows stops_word (decimal a.ttl) = decimal_word a.ttl small in
    let tail : List ℕ = type_text a.rtype ++ 32 ∷ [] ++ data_text a.rtype a.octets in
    let timed : List ℕ = decimal a.ttl ++ 32 ∷ [] ++ tail in record {
      tokens = word n (codes "add") ∷ word n (text_of a.owner) ∷ word n (decimal a.ttl) ∷ word n (type_text a.rtype) ∷ d.first ∷ d.others;
      spelled =
          spell_word_then n (codes "add") (text_of a.owner ++ 32 ∷ [] ++ timed) (word n (text_of a.owner) ∷ word n (decimal a.ttl) ∷ word n (type_text a.rtype) ∷ d.first ∷ d.others) (omega arith) add_shows.run
          (spell_word_then n (text_of a.owner) timed (word n (decimal a.ttl) ∷ word n (type_text a.rtype) ∷ d.first ∷ d.others) w.some w.shows.run
          (spell_word_then n (decimal a.ttl) tail (word n (type_text a.rtype) ∷ d.first ∷ d.others) (decimal_nonempty a.ttl small) m.run (spell_word_then n (type_text a.rtype) (data_text a.rtype a.octets) (d.first ∷ d.others) t.some t.shows.run d.spelled)));
      shown = shown_then (codes "add") (text_of a.owner ++ 32 ∷ [] ++ timed) refl (shown_then (text_of a.owner) timed w.shows.shown (shown_then (decimal a.ttl) tail m.shown (shown_then (type_text a.rtype) (data_text a.rtype a.octets) t.shows.shown d.shown)));
      says = λ s b h. add_line origin n (text_of a.owner) (decimal a.ttl) (type_text a.rtype) d.first d.others (Add a) s b (record_come origin a.owner n a.rtype a.ttl a.octets w (time_back a.ttl time) (type_back a.rtype is.number ∙ is.kind) d) h;
    }

-- Where the text of a reply ends is told by what it begins with.
use Rattle.std.proofs.Common.{◌≡◌, ◌∙◌, ℕ, ◌+◌, ◌<◌, ◌^◌, Bool, true, false, List, [], ◌++◌, length, drop, subst, Option, Some, None, refl, sym, ap, arith, append_assoc, length-append, codes}
use Rattle.std.specs.Fmt.{decimal}
use Rattle.std.specs.List.{flat_map}
use Rattle.std.proofs.lemmas.Fmt.{decimal_injective}
use Rattle.std.proofs.lemmas.List.{append_cancel_left}
use Rattle.zone_model.specs.Names.{Name}
use Rattle.zone_model.specs.NameText.{text_of}
use Rattle.zone_model.specs.Rows.{Row, row_text}
use Rattle.zone_model.specs.DataText.{type_text, data_text}
use Rattle.zone_model.specs.Versions.{Version}
use Rattle.zone_answer.specs.Answers.{Answer}
use Rattle.zone_answer.specs.declared.kind.Kind.{Kind}
use Rattle.zone_answer.specs.declared.kind.Kind.TheVariants.{Answered, Nodata, Nxdomain, Referral, Outside}
use Rattle.zone_answer.specs.Responses.{Response}
use Rattle.zone_answer.specs.declared.header.Code.{Code}
use Rattle.zone_answer.specs.declared.header.Code.TheVariants.{NoError, NxDomain, Refused}
use Rattle.zone_answer.specs.Around.{Found}
use Rattle.trie_read.specs.declared.found.Kind.{Kind as FoundKind}
use Rattle.trie_read.specs.declared.found.Kind.TheVariants as there
use Rattle.job_model.specs.declared.Question.{Question}
use Rattle.job_model.specs.Questions.{Form, OfAnswer, OfResponse, OfFound, OfNames, OfRows, OfSize, form_of}
use Rattle.job_model.specs.Replies.{form_text, reply_of, reply_text, count_text, kind_text, answer_text, code_text, flag_text, header_text, response_rows, response_text, name_line, names_text, found_kind_text, name_or_none, found_text, size_text}
use Rattle.report_laws.proofs.CutLemmas.{Free, free_append, cut}
use Rattle.report_laws.proofs.TextLemmas.{spaced_free, decimal_free, name_free, type_free, data_free}
use Rattle.report_laws.proofs.LineLemmas.{IsLine, line, line_cut, lines_cut, lines_some, IsWord, counted_cut}

-- ---- lines

row_line : (r : Row) → IsLine (row_text r)
row_line r =
    let owner = spaced_free (text_of r.owner) (codes " ") (decimal r.ttl) (name_free r.owner) refl (decimal_free 10 r.ttl (omega arith)) in
    let class = spaced_free (text_of r.owner ++ codes " " ++ decimal r.ttl) (codes " IN ") (type_text r.rtype) owner refl (type_free r.rtype) in
    line (text_of r.owner ++ codes " " ++ decimal r.ttl ++ codes " IN " ++ type_text r.rtype ++ codes " " ++ data_text r.rtype r.octets)
    (spaced_free (text_of r.owner ++ codes " " ++ decimal r.ttl ++ codes " IN " ++ type_text r.rtype) (codes " ") (data_text r.rtype r.octets) class refl (data_free r.rtype r.octets))

named_line : (name : Name) → IsLine (name_line name)
named_line name = line (text_of name) (name_free name)

or_none_free : (o : Option Name) → Free 10 (name_or_none o)
or_none_free None = refl
or_none_free (Some name) = name_free name

size_line : (names nodes : ℕ) → IsLine (size_text names nodes)
size_line names nodes =
    let many = free_append 10 (codes "names ") (decimal names) refl (decimal_free 10 names (omega arith)) in
    line (codes "names " ++ decimal names ++ codes " nodes " ++ decimal nodes) (spaced_free (codes "names " ++ decimal names) (codes " nodes ") (decimal nodes) many refl (decimal_free 10 nodes (omega arith)))

-- ---- words

kind_word : (kind : Kind) → IsWord (kind_text kind)
kind_word Answered = record { in_line = refl; in_one = refl }
kind_word Nodata = record { in_line = refl; in_one = refl }
kind_word Nxdomain = record { in_line = refl; in_one = refl }
kind_word Referral = record { in_line = refl; in_one = refl }
kind_word Outside = record { in_line = refl; in_one = refl }

found_word : (kind : FoundKind) → IsWord (found_kind_text kind)
found_word there.Exact = record { in_line = refl; in_one = refl }
found_word there.Partial = record { in_line = refl; in_one = refl }
found_word there.Absent = record { in_line = refl; in_one = refl }

-- ---- replies

answer_cut : (a b : Answer) (s t : List ℕ) → length (answer_text a ++ s) < 2 ^ 64 → answer_text a ++ s ≡ answer_text b ++ t → s ≡ t
answer_cut a b s t small e = counted_cut row_text row_line (kind_text a.kind) (kind_text b.kind) (kind_word a.kind) (kind_word b.kind) a.rows b.rows s t small e

-- ---- responses

code_word : (code : Code) → IsWord (code_text code)
code_word NoError = record { in_line = refl; in_one = refl }
code_word NxDomain = record { in_line = refl; in_one = refl }
code_word Refused = record { in_line = refl; in_one = refl }

flag_word : (authoritative : Bool) → IsWord (flag_text authoritative)
flag_word true = record { in_line = refl; in_one = refl }
flag_word false = record { in_line = refl; in_one = refl }

decimal_word : (n : ℕ) → IsWord (decimal n)
decimal_word n = record { in_line = decimal_free 10 n (omega arith); in_one = decimal_free 32 n (omega arith) }

header_line : (code : Code) (flag : Bool) (a n x : ℕ) → IsLine (header_text code flag a n x)
header_line code flag a n x =
    let first = free_append 10 (codes "ask ") (code_text code) refl (code_word code).in_line in
    let second = spaced_free (codes "ask " ++ code_text code) (codes " ") (flag_text flag) first refl (flag_word flag).in_line in
    let third = spaced_free (codes "ask " ++ code_text code ++ codes " " ++ flag_text flag) (codes " ") (decimal a) second refl (decimal_word a).in_line in
    let fourth = spaced_free (codes "ask " ++ code_text code ++ codes " " ++ flag_text flag ++ codes " " ++ decimal a) (codes " ") (decimal n) third refl (decimal_word n).in_line in
    line (codes "ask " ++ code_text code ++ codes " " ++ flag_text flag ++ codes " " ++ decimal a ++ codes " " ++ decimal n ++ codes " " ++ decimal x)
    (spaced_free (codes "ask " ++ code_text code ++ codes " " ++ flag_text flag ++ codes " " ++ decimal a ++ codes " " ++ decimal n) (codes " ") (decimal x) fourth refl (decimal_word x).in_line)

-- a header word by word
by_words : (word c space f a n x end : List ℕ)
    → word ++ c ++ space ++ f ++ space ++ a ++ space ++ n ++ space ++ x ++ end ≡ word ++ (c ++ (space ++ (f ++ (space ++ (a ++ (space ++ (n ++ (space ++ (x ++ end)))))))))
by_words word c space f a n x end = simp append_assoc

-- words that each stand before a space are told, and what is behind the space
worded : (a b x y : List ℕ) → IsWord a → IsWord b → a ++ (codes " " ++ x) ≡ b ++ (codes " " ++ y) → (a ≡ b) × (x ≡ y)
worded a b x y v w e = let parts = cut 32 a b (codes " " ++ x) (codes " " ++ y) v.in_one w.in_one refl refl e in (parts.0, ap (drop 1) parts.1)

-- the numbers of a header are told by its text
record SameNumbers (a b n m x y : ℕ) : Type 0 where
  answer : decimal a ≡ decimal b
  authority : decimal n ≡ decimal m
  additional : decimal x ≡ decimal y

numbers_told : (code coded : Code) (flag flagged : Bool) (a b n m x y : ℕ) → header_text code flag a n x ≡ header_text coded flagged b m y → SameNumbers a b n m x y
numbers_told code coded flag flagged a b n m x y e =
    let apart = append_cancel_left (codes "ask ") (code_text code ++ (codes " " ++ (flag_text flag ++ (codes " " ++ (decimal a ++ (codes " " ++ (decimal n ++ (codes " " ++ (decimal x ++ codes "\n")))))))))
    (code_text coded ++ (codes " " ++ (flag_text flagged ++ (codes " " ++ (decimal b ++ (codes " " ++ (decimal m ++ (codes " " ++ (decimal y ++ codes "\n")))))))))
    (sym (by_words (codes "ask ") (code_text code) (codes " ") (flag_text flag) (decimal a) (decimal n) (decimal x) (codes "\n")) ∙ e
    ∙ by_words (codes "ask ") (code_text coded) (codes " ") (flag_text flagged) (decimal b) (decimal m) (decimal y) (codes "\n")) in
    let flags = worded (code_text code) (code_text coded) _ _ (code_word code) (code_word coded) apart in
    let first = worded (flag_text flag) (flag_text flagged) _ _ (flag_word flag) (flag_word flagged) flags.1 in
    let second = worded (decimal a) (decimal b) _ _ (decimal_word a) (decimal_word b) first.1 in
    let third = worded (decimal n) (decimal m) _ _ (decimal_word n) (decimal_word m) second.1 in
    record {
      answer = second.0;
      authority = third.0;
      additional = (cut 10 (decimal x) (decimal y) (codes "\n") (codes "\n") (decimal_word x).in_line (decimal_word y).in_line refl refl third.1).0;
    }

-- all records of a response
records_counted : (r : Response) → length (response_rows r) ≡ length r.answer + length r.authority + length r.additional
records_counted r = omega (arith, length-append (r.answer ++ r.authority) r.additional, length-append r.answer r.authority)

few_records : (r : Response) (s : List ℕ) → length (response_text r ++ s) < 2 ^ 64 → length r.answer + length r.authority + length r.additional < 2 ^ 64
few_records r s small =
    let rows = flat_map row_text (response_rows r) in
    let first = header_text r.code r.authoritative (length r.answer) (length r.authority) (length r.additional) in
    omega (arith, small, records_counted r, lines_some row_text row_line (response_rows r), length-append first rows, length-append (first ++ rows) s)

response_cut : (a b : Response) (s t : List ℕ) → length (response_text a ++ s) < 2 ^ 64 → response_text a ++ s ≡ response_text b ++ t → s ≡ t
response_cut a b s t small e =
    let first = header_text a.code a.authoritative (length a.answer) (length a.authority) (length a.additional) in
    let second = header_text b.code b.authoritative (length b.answer) (length b.authority) (length b.additional) in
    let behind = flat_map row_text (response_rows a) in
    let after = flat_map row_text (response_rows b) in
    let parts = line_cut first second (behind ++ s) (after ++ t) (header_line a.code a.authoritative (length a.answer) (length a.authority) (length a.additional))
    (header_line b.code b.authoritative (length b.answer) (length b.authority) (length b.additional)) (sym (append_assoc first behind s) ∙ e ∙ append_assoc second after t) in
    let told = numbers_told a.code b.code a.authoritative b.authoritative (length a.answer) (length b.answer) (length a.authority) (length b.authority) (length a.additional) (length b.additional) parts.0 in
    let few = few_records a s small in
    let few_too = few_records b t (subst (λ (l : List ℕ). length l < 2 ^ 64) e small) in
    let answer = decimal_injective (length a.answer) (length b.answer) (omega (arith, few)) (omega (arith, few_too)) told.answer in
    let authority = decimal_injective (length a.authority) (length b.authority) (omega (arith, few)) (omega (arith, few_too)) told.authority in
    let additional = decimal_injective (length a.additional) (length b.additional) (omega (arith, few)) (omega (arith, few_too)) told.additional in
    lines_cut row_text row_line (response_rows a) (response_rows b) s t (omega (arith, answer, authority, additional, records_counted a, records_counted b)) parts.1

names_cut : (v w : List ℕ) → IsWord v → IsWord w → (xs ys : List Name) (s t : List ℕ) → length (names_text v xs ++ s) < 2 ^ 64 → names_text v xs ++ s ≡ names_text w ys ++ t → s ≡ t
names_cut v w is_v is_w xs ys s t small e = counted_cut name_line named_line v w is_v is_w xs ys s t small e

before_line : Option Name → List ℕ
before_line o = codes "pred " ++ name_or_none o ++ codes "\n"

before_is_line : (o : Option Name) → IsLine (before_line o)
unfolding before_line
before_is_line o = line (codes "pred " ++ name_or_none o) (free_append 10 (codes "pred ") (name_or_none o) refl (or_none_free o))

in_two : (a b c d s : List ℕ) → (a ++ b ++ c ++ d) ++ s ≡ a ++ (b ++ c ++ d ++ s)
in_two a b c d s = simp append_assoc

found_parts : (f : Found) (s : List ℕ) → found_text f ++ s ≡ names_text (found_kind_text f.kind) f.chain ++ (before_line f.predecessor ++ s)
unfolding before_line
found_parts f s = in_two (names_text (found_kind_text f.kind) f.chain) (codes "pred ") (name_or_none f.predecessor) (codes "\n") s

found_cut : (f g : Found) (s t : List ℕ) → length (found_text f ++ s) < 2 ^ 64 → found_text f ++ s ≡ found_text g ++ t → s ≡ t
found_cut f g s t small e =
    let parts = ap (λ (l : List ℕ). length l) (found_parts f s) in
    let last = names_cut (found_kind_text f.kind) (found_kind_text g.kind) (found_word f.kind) (found_word g.kind) f.chain g.chain (before_line f.predecessor ++ s) (before_line g.predecessor ++ t)
    (omega (arith, small, parts)) (sym (found_parts f s) ∙ e ∙ found_parts g t) in
    (line_cut (before_line f.predecessor) (before_line g.predecessor) s t (before_is_line f.predecessor) (before_is_line g.predecessor) last).1

-- a word that both begin with may be any
regrouped : (a b c d e : List ℕ) → (a ++ b ++ c ++ d) ++ e ≡ a ++ ((b ++ c ++ d) ++ e)
regrouped a b c d e = simp append_assoc

worded_cut : {A : Type 0} (f : A → List ℕ) → ((a : A) → IsLine (f a)) → (word : List ℕ) (xs ys : List A) (s t : List ℕ)
    → length ((word ++ count_text (length xs) ++ codes "\n" ++ flat_map f xs) ++ s) < 2 ^ 64
    → (word ++ count_text (length xs) ++ codes "\n" ++ flat_map f xs) ++ s ≡ (word ++ count_text (length ys) ++ codes "\n" ++ flat_map f ys) ++ t → s ≡ t
worded_cut f each word xs ys s t small e =
    let parts = regrouped word (count_text (length xs)) (codes "\n") (flat_map f xs) s in
    let long = ap (λ (l : List ℕ). length l) parts in
    let counted = (count_text (length xs) ++ codes "\n" ++ flat_map f xs) ++ s in
    counted_cut f each [] [] (record { in_line = refl; in_one = refl }) (record { in_line = refl; in_one = refl }) xs ys s t (omega (arith, small, long, length-append word counted))
    (append_cancel_left word counted ((count_text (length ys) ++ codes "\n" ++ flat_map f ys) ++ t) (sym parts ∙ e ∙ regrouped word (count_text (length ys)) (codes "\n") (flat_map f ys) t))

-- what is behind a form that two versions fill is told
form_cut : (form : Form) (v w : Version) (s t : List ℕ) → length (form_text form v ++ s) < 2 ^ 64 → form_text form v ++ s ≡ form_text form w ++ t → s ≡ t
form_cut (OfAnswer answer) v w s t small e = answer_cut (answer v) (answer w) s t small e
form_cut (OfResponse response) v w s t small e = response_cut (response v) (response w) s t small e
form_cut (OfFound found) v w s t small e = found_cut (found v) (found w) s t small e
form_cut (OfNames word names) v w s t small e = worded_cut name_line named_line word (names v) (names w) s t small e
form_cut (OfRows word rows) v w s t small e = worded_cut row_text row_line word (rows v) (rows w) s t small e
form_cut (OfSize names nodes) v w s t small e =
    (line_cut (size_text (names v) (nodes v)) (size_text (names w) (nodes w)) s t (size_line (names v) (nodes v)) (size_line (names w) (nodes w)) e).1

-- what is behind two versions' replies to one question is told
pub reply_cut : (origin : Name) (v w : Version) (question : Question) (s t : List ℕ)
    → length (reply_text (reply_of origin v question) ++ s) < 2 ^ 64 → reply_text (reply_of origin v question) ++ s ≡ reply_text (reply_of origin w question) ++ t → s ≡ t
reply_cut origin v w question s t small e = form_cut (form_of origin question) v w s t small e

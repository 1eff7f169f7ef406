-- Lines behind whole lines.
use Rattle.std.proofs.Common.{◌≡◌, ◌∙◌, ℕ, ◌+◌, ◌<◌, List, [], ◌∷◌, ◌++◌, length, take, drop, get_or, refl, sym, ap, arith, inl, inr, append_assoc, length-append, subst}
use Rattle.std.specs.List.{AllByRecursion}
use Rattle.report_laws.specs.Octets.{AllOctets}
use Rattle.report_laws.proofs.VersionLemmas.{lines_are}
use Rattle.std.proofs.Common.{◌≤◌, true, false, eqb, Option, Some, None}
use Rattle.std.specs.List.{after_first, before_first, position, position_or_len}
use Rattle.std.specs.Option.{option_map}
use Rattle.std.specs.Str.Lines.{strip_carriage_return}
use Rattle.std.proofs.lemmas.List.{drop_all, get_or-take, length-take-le, take_more}
use Rattle.std.proofs.lemmas.List.Sums.{fails_before_first, passes_at_first, position_or_len_is}
use borrow.Author.Tests.{eqb-true}
use Rattle.session_lines.specs.Taking.{IsUnbroken, line_end}
use Rattle.zone_text.proofs.LineLemmas.{found, lines_first, lines_last, missed}
use Rattle.zone_model.specs.Lines.{lines_of}
use Rattle.zone_text.proofs.CutLemmas.{Begins, at_start, behind_feed, cut_lines}
use Rattle.session_talk.specs.Answering.{IsFed}
use lib.Seq.{get_or-append_seam}
pub use lib.Seq.{drop-append_seam as rest-of, take-append_seam as front-of}
pub use Rattle.report_laws.proofs.VersionLemmas.{octets_of}

pub begins-behind : (done more : List ℕ) → IsFed done → Begins (done ++ more) (length done)
begins-behind done more (inl none) = at_start (ap length none)
begins-behind done more (inr fed) =
    let same : done ++ more ≡ fed.0 ++ 10 ∷ more = ap (λ (l : List ℕ). l ++ more) fed.1 ∙ append_assoc fed.0 (10 ∷ []) more in
    let len : length done ≡ length fed.0 + 1 = ap length fed.1 ∙ length-append fed.0 (10 ∷ []) in
    let here : get_or (done ++ more) (length fed.0) 0 ≡ 10 = ap (λ (l : List ℕ). get_or l (length fed.0) 0) same ∙ get_or-append_seam fed.0 10 more 0 in
    behind_feed (length fed.0) len (omega (arith, length-append done more)) here

pub lines_behind : (done more : List ℕ) → IsFed done → lines_of (done ++ more) ≡ lines_of done ++ lines_of more
lines_behind done more fed =
    sym (cut_lines (done ++ more) (length done) (begins-behind done more fed))
    ∙ ap (λ (l : List ℕ). lines_of l ++ lines_of (drop (length done) (done ++ more))) (front-of done more)
    ∙ ap (λ (l : List ℕ). lines_of done ++ lines_of l) (rest-of done more)

-- a line of octets
pub octets_in : (bytes text : List ℕ) → lines_of bytes ≡ text ∷ [] → AllOctets bytes → AllOctets text
octets_in bytes text one octets = let all : AllByRecursion AllOctets (text ∷ []) = subst (AllByRecursion AllOctets) one (lines_are bytes octets) in all.0

-- ---- the first line of some bytes

-- where its line feed is
pub feed_at : (bytes : List ℕ) (count : ℕ) → line_end bytes ≡ Some count → (n : ℕ) × (count ≡ n + 1) × (position (λ b. eqb b 10) bytes ≡ Some n)
feed_at bytes count e = by_place (position (λ b. eqb b 10) bytes) refl e
  where
    by_place : (place : Option ℕ) → position (λ b. eqb b 10) bytes ≡ place → option_map (λ n. n + 1) place ≡ Some count → (n : ℕ) × (count ≡ n + 1) × (position (λ b. eqb b 10) bytes ≡ Some n)
    by_place None p e = absurd cc
    by_place (Some n) p e = (n, (let same : count ≡ n + 1 = cc in same), p)

pub count_inside : (bytes : List ℕ) (count : ℕ) → line_end bytes ≡ Some count → (0 < count) × (count ≤ length bytes)
count_inside bytes count e = let f = feed_at bytes count e in let p = found bytes f.0 f.2 in (omega (arith, f.1), omega (arith, f.1, p.1))

-- the line with its line feed
whole_line : (bytes : List ℕ) (count : ℕ) (e : line_end bytes ≡ Some count) → take count bytes ≡ take (feed_at bytes count e).0 bytes ++ 10 ∷ []
whole_line bytes count e =
    let f = feed_at bytes count e in
    let p = found bytes f.0 f.2 in
    let here : get_or bytes f.0 0 ≡ 10 = ap (λ (k : ℕ). get_or bytes k 0) (sym p.0) ∙ eqb-true (get_or bytes (position_or_len (λ b. eqb b 10) bytes) 0) 10 (passes_at_first (λ b. eqb b 10) bytes 0 (omega (arith, p.0, p.1))) in
    ap (λ (k : ℕ). take k bytes) f.1 ∙ take_more bytes f.0 0 p.1 ∙ ap (λ (c : ℕ). take f.0 bytes ++ c ∷ []) here

pub fed_line : (done bytes : List ℕ) (count : ℕ) → line_end bytes ≡ Some count → IsFed (done ++ take count bytes)
fed_line done bytes count e = inr (done ++ take (feed_at bytes count e).0 bytes, ap (λ (l : List ℕ). done ++ l) (whole_line bytes count e) ∙ sym (append_assoc done (take (feed_at bytes count e).0 bytes) (10 ∷ [])))

pub one_line : (bytes : List ℕ) (count : ℕ) → line_end bytes ≡ Some count → (text : List ℕ) × (lines_of (take count bytes) ≡ text ∷ [])
one_line bytes count e =
    let f = feed_at bytes count e in
    let p = found bytes f.0 f.2 in
    let line : List ℕ = take count bytes in
    let short : length line ≡ count = length-take-le count bytes (omega (arith, f.1, p.1)) in
    let before : (k : ℕ) → k < f.0 → eqb (get_or line k 0) 10 ≡ false = (λ k lt. ap (λ (c : ℕ). eqb c 10) (get_or-take count bytes k 0 (omega (arith, f.1))) ∙ fails_before_first (λ b. eqb b 10) bytes k 0 (omega (arith, p.0))) in
    let here : eqb (get_or line f.0 0) 10 ≡ true =
    ap (λ (c : ℕ). eqb c 10) (get_or-take count bytes f.0 0 (omega (arith, f.1))) ∙ ap (λ (k : ℕ). eqb (get_or bytes k 0) 10) (sym p.0) ∙ passes_at_first (λ b. eqb b 10) bytes 0 (omega (arith, p.0, p.1)) in
    let at : position_or_len (λ b. eqb b 10) line ≡ f.0 = position_or_len_is (λ b. eqb b 10) line f.0 0 (omega (arith, short, f.1)) before (λ _. here) in
    let none : after_first (λ b. eqb b 10) line ≡ [] = ap (λ (k : ℕ). drop (k + 1) line) at ∙ drop_all (f.0 + 1) line (omega (arith, short, f.1)) in
    (_, lines_first line (omega (arith, short, f.1, at)) ∙ ap (λ (l : List ℕ). strip_carriage_return (before_first (λ b. eqb b 10) line) ∷ lines_of l) none)

-- what has no line feed is one line
pub last_one : (bytes : List ℕ) → 0 < length bytes → IsUnbroken bytes → (text : List ℕ) × (lines_of bytes ≡ text ∷ [])
last_one bytes some unbroken = (bytes, lines_last bytes some (missed (λ b. eqb b 10) bytes unbroken))

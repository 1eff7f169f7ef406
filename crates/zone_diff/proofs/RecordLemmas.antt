-- Records that go and records that come: what is there afterwards.
use Rattle.std.proofs.Common.{◌≡◌, ◌≢◌, ◌∙◌, ℕ, ◌≤◌, Bool, true, false, not, ◌&&◌, ◌||◌, cond, List, [], ◌∷◌, length, refl, sym, ap, subst, arith, Option, Some, None}
use Rattle.std.specs.List.{AllByRecursion}
use Rattle.std.specs.declared.cmp.Ordering.{Ordering}
use Rattle.std.specs.declared.cmp.Ordering.TheVariants.{Less, Equal, Greater}
use Rattle.std.specs.Ordering.{match_ordering, is_eq, ordering_reverse}
use Rattle.std.specs.FinMap.{nat_cmp-IsAntisymmetric, slice_cmp-IsAntisymmetric}
use Rattle.std.proofs.lemmas.Cmp.{nat_list_cmp_total, tied_itself}
use Rattle.zone_model.specs.Records.{octets_cmp, with_record, without_record, has_record, RisingOctets}
use Rattle.zone_model.proofs.EntryLaws.{rising_with, rising_without}
use Rattle.zone_diff.specs.Differences.{lacking}

same_octets : (a b : List ℕ) → octets_cmp a b ≡ Equal → a ≡ b
same_octets a b e = slice_cmp-IsAntisymmetric nat_cmp-IsAntisymmetric a b e

is_same : (o : Ordering) → is_eq o ≡ true → o ≡ Equal
is_same o e = grind arith

pub or_none : (a : Bool) → (a || false) ≡ true → a ≡ true
or_none a e = grind arith

-- whether a record is another
abbrev pub is_it : List ℕ → List ℕ → Bool
is_it r o = is_eq (octets_cmp r o)

pub it_is : (r o : List ℕ) → is_it r o ≡ true → r ≡ o
it_is r o e = same_octets r o (is_same (octets_cmp r o) e)

-- where a record is alone
pub has_same : (p q : List ℕ) → has_record p (q ∷ []) ≡ true → p ≡ q
has_same p q e = it_is p q (or_none (is_it p q) e)

pub has_other : (p q : List ℕ) → p ≢ q → has_record p (q ∷ []) ≡ false
has_other p q other = never (is_it p q) (λ e. other (it_is p q e))
  where
    never : (a : Bool) → a ≢ true → (a || false) ≡ false
    never a n = grind arith

turned_less : (a b : List ℕ) → octets_cmp a b ≡ Greater → octets_cmp b a ≡ Less
turned_less a b e = nat_list_cmp_total.antisymm b a ∙ ap ordering_reverse e

-- ---- what is there

-- a record below the first isn't there
pub none_behind : (r b : List ℕ) (records : List (List ℕ)) → octets_cmp r b ≡ Less → RisingOctets (Some b) records → has_record r records ≡ false
none_behind r b [] e h = refl
none_behind r b (x ∷ records) e h =
    let lt : octets_cmp r x ≡ Less = nat_list_cmp_total.trans r b x e h.0 in
    ap (λ (o : Ordering). is_eq o || has_record r records) lt ∙ none_behind r x records lt h.2

-- the first isn't there once more
not_again : (r x : List ℕ) (records : List (List ℕ)) → RisingOctets (Some x) records → is_it r x ≡ true → has_record r records ≡ false
not_again r x [] h e = refl
not_again r x (y ∷ records) h e =
    let lt : octets_cmp r y ≡ Less = subst (λ (z : List ℕ). octets_cmp z y ≡ Less) (sym (it_is r x e)) h.0 in
    ap (λ (o : Ordering). is_eq o || has_record r records) lt ∙ none_behind r y records lt h.2

twice : (a b : Bool) → (a || b) ≡ (a || (a || b))
twice a b = grind arith

moved : (a b c d : Bool) → d ≡ (b || c) → (a || d) ≡ (b || (a || c))
moved a b c d e = grind arith

pub there_with : (r octets : List ℕ) (records : List (List ℕ)) → has_record r (with_record octets records) ≡ (is_it r octets || has_record r records)
there_with r octets [] = refl
there_with r octets (first ∷ rest) = by_order (octets_cmp octets first) refl (there_with r octets rest)
  where
    by_order : (o : Ordering) → octets_cmp octets first ≡ o → has_record r (with_record octets rest) ≡ (is_it r octets || has_record r rest)
        → has_record r (match_ordering o (octets ∷ (first ∷ rest)) (first ∷ rest) (first ∷ with_record octets rest)) ≡ (is_it r octets || (is_it r first || has_record r rest))
    by_order Less e on = refl
    by_order Equal e on = subst (λ (x : List ℕ). (is_it r first || has_record r rest) ≡ (is_it r x || (is_it r first || has_record r rest))) (sym (same_octets octets first e)) (twice (is_it r first) (has_record r rest))
    by_order Greater e on = moved (is_it r first) (is_it r octets) (has_record r rest) (has_record r (with_record octets rest)) on

nothing : (a : Bool) → false ≡ (not a && false)
nothing a = grind arith

unless_there : (a b : Bool) → (a ≡ true → b ≡ false) → b ≡ (not a && b)
unless_there a b f = grind arith

gone : (a b : Bool) → (a ≡ true → b ≡ false) → b ≡ (not a && (a || b))
gone a b f = grind arith

spread : (a b c d : Bool) → (a ≡ true → b ≡ false) → d ≡ (not b && c) → (a || d) ≡ (not b && (a || c))
spread a b c d f e = grind arith

pub there_without : (r octets : List ℕ) (before : Option (List ℕ)) (records : List (List ℕ)) → RisingOctets before records → has_record r (without_record octets records) ≡ (not (is_it r octets) && has_record r records)
there_without r octets before [] h = nothing (is_it r octets)
there_without r octets before (first ∷ rest) h = by_order (octets_cmp octets first) refl (there_without r octets (Some first) rest h.2)
  where
    by_order : (o : Ordering) → octets_cmp octets first ≡ o → has_record r (without_record octets rest) ≡ (not (is_it r octets) && has_record r rest)
        → has_record r (match_ordering o (first ∷ rest) rest (first ∷ without_record octets rest)) ≡ (not (is_it r octets) && (is_it r first || has_record r rest))
    by_order Less e on = unless_there (is_it r octets) (is_it r first || has_record r rest) (λ same.
        let lt : octets_cmp r first ≡ Less = subst (λ (x : List ℕ). octets_cmp x first ≡ Less) (sym (it_is r octets same)) e in
        ap (λ (o : Ordering). is_eq o || has_record r rest) lt ∙ none_behind r first rest lt h.2)
    by_order Equal e on =
        subst (λ (x : List ℕ). has_record r rest ≡ (not (is_it r x) && (is_it r first || has_record r rest))) (sym (same_octets octets first e)) (gone (is_it r first) (has_record r rest) (not_again r first rest h.2))
    by_order Greater e on = spread (is_it r first) (is_it r octets) (has_record r rest) (has_record r (without_record octets rest))
        (λ same. ap is_eq (subst (λ (x : List ℕ). octets_cmp x octets ≡ Less) (sym (it_is r first same)) (turned_less octets first e))) on

-- ---- many records

-- the records with others
abbrev pub with_all : List (List ℕ) → List (List ℕ) → List (List ℕ)
with_all [] records = records
with_all (x ∷ more) records = with_all more (with_record x records)

-- the records without others
abbrev pub without_all : List (List ℕ) → List (List ℕ) → List (List ℕ)
without_all [] records = records
without_all (x ∷ more) records = without_all more (without_record x records)

-- each has at most 65,535 octets
abbrev pub AreShort : List (List ℕ) → Type 0
AreShort records = AllByRecursion (λ (octets : List ℕ). length octets ≤ 65535) records

rising_with_all : (more records : List (List ℕ)) → AreShort more → RisingOctets None records → RisingOctets None (with_all more records)
rising_with_all [] records s h = h
rising_with_all (x ∷ more) records s h = rising_with_all more (with_record x records) s.1 (rising_with None x records tt s.0 h)

rising_without_all : (more records : List (List ℕ)) → RisingOctets None records → RisingOctets None (without_all more records)
rising_without_all [] records h = h
rising_without_all (x ∷ more) records h = rising_without_all more (without_record x records) (rising_without None x records h)

one_more : (m x c d e : Bool) → e ≡ (m || d) → d ≡ (x || c) → e ≡ ((x || m) || c)
one_more m x c d e f g = grind arith

there_with_all : (r : List ℕ) (more records : List (List ℕ)) → has_record r (with_all more records) ≡ (has_record r more || has_record r records)
there_with_all r [] records = refl
there_with_all r (x ∷ more) records =
    one_more (has_record r more) (is_it r x) (has_record r records) (has_record r (with_record x records)) (has_record r (with_all more (with_record x records))) (there_with_all r more (with_record x records)) (there_with r x records)

one_less : (m x c d e : Bool) → e ≡ (not m && d) → d ≡ (not x && c) → e ≡ (not (x || m) && c)
one_less m x c d e f g = grind arith

there_without_all : (r : List ℕ) (more records : List (List ℕ)) → RisingOctets None records → has_record r (without_all more records) ≡ (not (has_record r more) && has_record r records)
there_without_all r [] records h = refl
there_without_all r (x ∷ more) records h =
    one_less (has_record r more) (is_it r x) (has_record r records) (has_record r (without_record x records)) (has_record r (without_all more (without_record x records)))
    (there_without_all r more (without_record x records) (rising_without None x records h)) (there_without r x None records h)

one_lacking : (a b c d l : Bool) → (a ≡ true → b ≡ d) → l ≡ (c && not d) → cond (not b) (a || l) l ≡ ((a || c) && not d)
one_lacking a b c d l f e = grind arith

there_lacking : (r : List ℕ) (others records : List (List ℕ)) → has_record r (lacking others records) ≡ (has_record r records && not (has_record r others))
there_lacking r others [] = refl
there_lacking r others (x ∷ records) =
    by_test (has_record x others)
    ∙ one_lacking (is_it r x) (has_record x others) (has_record r records) (has_record r others) (has_record r (lacking others records)) (λ same. ap (λ (y : List ℕ). has_record y others) (sym (it_is r x same))) (there_lacking r others records)
  where
    by_test : (b : Bool) → has_record r (cond (not b) (x ∷ lacking others records) (lacking others records)) ≡ cond (not b) (is_it r x || has_record r (lacking others records)) (has_record r (lacking others records))
    by_test true = refl
    by_test false = refl

-- ---- lists of the same records are one

has_head : (x : List ℕ) (rest : List (List ℕ)) → has_record x (x ∷ rest) ≡ true
has_head x rest = ap (λ (o : Ordering). is_eq o || has_record x rest) (tied_itself nat_list_cmp_total x)

without_head : (a b c d : Bool) → (a || c) ≡ (b || d) → a ≡ b → (a ≡ true → c ≡ false) → (b ≡ true → d ≡ false) → c ≡ d
without_head a b c d e same f g = grind arith

same_records : (b c : Option (List ℕ)) (xs ys : List (List ℕ)) → RisingOctets b xs → RisingOctets c ys → ((r : List ℕ) → has_record r xs ≡ has_record r ys) → xs ≡ ys
same_records b c [] [] h k e = refl
same_records b c [] (y ∷ ys) h k e = let bad : false ≡ true = e y ∙ has_head y ys in cc
same_records b c (x ∷ xs) [] h k e = let bad : true ≡ false = sym (has_head x xs) ∙ e x in cc
same_records b c (x ∷ xs) (y ∷ ys) h k e = by_order (same_records (Some x) (Some y) xs ys h.2 k.2) (octets_cmp x y) refl
  where
    by_order : (((r : List ℕ) → has_record r xs ≡ has_record r ys) → xs ≡ ys) → (o : Ordering) → octets_cmp x y ≡ o → x ∷ xs ≡ y ∷ ys
    by_order more Less l =
        let none : has_record x (y ∷ ys) ≡ false = ap (λ (o : Ordering). is_eq o || has_record x ys) l ∙ none_behind x y ys l k.2 in
        let bad : true ≡ false = sym (has_head x xs) ∙ e x ∙ none in cc
    by_order more Greater l =
        let lt = turned_less x y l in
        let none : has_record y (x ∷ xs) ≡ false = ap (λ (o : Ordering). is_eq o || has_record y xs) lt ∙ none_behind y x xs lt h.2 in
        let bad : false ≡ true = sym none ∙ e y ∙ has_head y ys in cc
    by_order more Equal l =
        let is : x ≡ y = same_octets x y l in
        let rest : xs ≡ ys = more (λ r. without_head (is_it r x) (is_it r y) (has_record r xs) (has_record r ys) (e r) (ap (is_it r) is) (not_again r x xs h.2) (not_again r y ys k.2)) in
        cc

-- ---- what goes and what comes make of one list the other

swapped : (a b l g v w : Bool) → w ≡ (l || v) → l ≡ (a && not b) → v ≡ (not g && b) → g ≡ (b && not a) → w ≡ a
swapped a b l g v w e f h k = grind arith

pub exchanged : (before after : List (List ℕ)) → RisingOctets None before → RisingOctets None after → AreShort (lacking before after)
    → with_all (lacking before after) (without_all (lacking after before) before) ≡ after
exchanged before after h k short =
    let left : List (List ℕ) = without_all (lacking after before) before in
    same_records None None (with_all (lacking before after) left) after (rising_with_all (lacking before after) left short (rising_without_all (lacking after before) before h)) k
    (λ r. swapped (has_record r after) (has_record r before) (has_record r (lacking before after)) (has_record r (lacking after before)) (has_record r left) (has_record r (with_all (lacking before after) left))
    (there_with_all r (lacking before after) left) (there_lacking r before after) (there_without_all r (lacking after before) before h) (there_lacking r after before))

none_more : (a b : Bool) → b ≡ (a || false) → b ≡ a
none_more a b e = grind arith

pub all_come : (after : List (List ℕ)) → RisingOctets None after → AreShort after → with_all after [] ≡ after
all_come after k short =
    same_records None None (with_all after []) after (rising_with_all after [] short tt) k (λ r. none_more (has_record r after) (has_record r (with_all after [])) (there_with_all r after []))

pub all_short : (before : Option (List ℕ)) (records : List (List ℕ)) → RisingOctets before records → AreShort records
all_short before [] h = tt
all_short before (x ∷ records) h = (h.1, all_short (Some x) records h.2)

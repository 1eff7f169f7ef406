-- Texts of addresses.
use Rattle.std.proofs.Common.{◌≡◌, ◌∙◌, ℕ, ◌+◌, ◌*◌, ◌^◌, ◌<◌, ◌≤◌, Bool, true, false, ◌&&◌, eqb, cond, zero, suc, add-one, Option, Some, None, append_assoc, map, option_and_then, ◌++◌, List, ◌∷◌, [], length, get_or, take, drop, ap, sym, subst, refl, arith, ltb, ◌-◌}
use Rattle.std.specs.List.{list_all, position, position_or_len, slice_split, slice_range}
use Rattle.std.proofs.lemmas.List.Splits.{slice_split_first, slice_split_none, length-slice_split}
use Rattle.std.proofs.lemmas.List.Sums.{fails_before_first}
use Rattle.std.proofs.Math.Nat.{pow-suc, pow-le-pow_right}
use Rattle.std.specs.Option.{option_map}
use Rattle.zone_text.specs.Pushing.{PushesAll}
use denote.Ref.{Bor}
use Rattle.std.proofs.lemmas.List.{drop_more}
use Rattle.std.proofs.Math.Seq.{drop-nil}
use Rattle.std.proofs.lemmas.List.{append-nil, map-append, take_all, length-drop}
use Rattle.std.proofs.lemmas.Bool.Decides.{nat_tests}
use borrow.Author.Tests.{eqb-true, ltb-true}
use Rattle.zone_model.specs.Texts.{address_part, all_some}
use Rattle.zone_text.specs.Parts.{said_by, parts_said}
use Rattle.zone_model.specs.Addresses.{joined, double_at, begins_with_colon, last_group, last_groups_of, groups_of, group}

and_first : (a b : Bool) → (a && b) ≡ true → (a ≡ true) × (b ≡ true)
and_first true b h = (refl, h)
and_first false b h = absurd cc

-- each element passes
pub all_at : (p : ℕ → Bool) (xs : List ℕ) (i : ℕ) → list_all p xs ≡ true → i < length xs → p (get_or xs i 0) ≡ true
all_at p [] i h lt = absurd (omega arith)
all_at p (x ∷ xs) zero h lt = (and_first (p x) (list_all p xs) h).0
all_at p (x ∷ xs) (suc i) h lt = all_at p xs i (and_first (p x) (list_all p xs) h).1 (omega arith)

pub hex_fits : (v i : ℕ) → v < 16 ^ i → i ≤ 4 → v < 65536
hex_fits v i h le =
    let e : 16 ^ i ≤ 16 ^ 4 = pow-le-pow_right {n = 16} (omega arith) {i = i} {j = 4} le in omega arith

pub hex_more : (v d i : ℕ) → v < 16 ^ i → d < 16 → v * 16 + d < 16 ^ (i + 1)
hex_more v d i h k = let e : 16 ^ (i + 1) ≡ 16 ^ i * 16 = rw add-one (pow-suc 16 i) in omega arith

pub ruleset hex_rules = (all_at, hex_fits, hex_more)

pub joined_front : (front : List ℕ) (a b : Option (List ℕ)) (now : List ℕ) → option_map (λ xs. front ++ xs) a ≡ Some now → option_map (λ xs. front ++ xs) (joined a b) ≡ option_map (λ xs. now ++ xs) b
joined_front front None b now h = absurd cc
joined_front front (Some x) None now h = refl
joined_front front (Some x) (Some y) now h = let e : front ++ x ≡ now = cc in ap Some (sym (append_assoc front x y) ∙ ap (λ (l : List ℕ). l ++ y) e)

pub joined_none : (a b : Option (List ℕ)) → a ≡ None → joined a b ≡ None
joined_none None b h = refl
joined_none (Some x) b h = absurd cc

pub ruleset group_rules = (joined_front, joined_none)

colon_yes : (text : List ℕ) (i : ℕ) → i < length text → get_or text i 0 ≡ 58 → begins_with_colon (drop i text) ≡ true
colon_yes text i lt e = let t : eqb (get_or text i 0) 58 ≡ true = grind (arith, nat_tests) in ap begins_with_colon (drop_more text i 0 lt) ∙ t

colon_no : (text : List ℕ) (i : ℕ) → (i < length text → get_or text i 0 ≡ 58 → ⊥) → begins_with_colon (drop i text) ≡ false
colon_no [] i n = ap begins_with_colon (drop-nil i)
colon_no (c ∷ text) zero n = let m : c ≡ 58 → ⊥ = n (omega arith) in grind (arith, nat_tests)
colon_no (c ∷ text) (suc i) n = colon_no text i (λ lt e. n (omega arith) e)

pub double_here : (text : List ℕ) (i : ℕ) → double_at text ≡ option_map (λ n. i + n) (double_at (drop i text)) → i + 1 < length text → get_or text i 0 ≡ 58 → get_or text (i + 1) 0 ≡ 58 → Some i ≡ double_at text
unfolding double_at
double_here text i h lt a b =
    let here : i < length text = omega arith in
    let t : eqb (get_or text i 0) 58 ≡ true = grind (arith, nat_tests) in
    let u : begins_with_colon (drop (i + 1) text) ≡ true = colon_yes text (i + 1) lt b in
    let f = λ (x : Bool). option_map (λ n. i + n) (cond x (Some 0) (option_map (λ n. n + 1) (double_at (drop (i + 1) text)))) in
    let z : i + 0 ≡ i = omega arith in
    sym (h ∙ ap (λ (l : List ℕ). option_map (λ n. i + n) (double_at l)) (drop_more text i 0 here) ∙ ap f (ap (λ (x : Bool). x && begins_with_colon (drop (i + 1) text)) t ∙ u) ∙ ap Some z)

later : (i : ℕ) (o : Option ℕ) → option_map (λ n. i + n) (option_map (λ n. n + 1) o) ≡ option_map (λ n. i + 1 + n) o
later i None = refl
later i (Some n) = let e : i + (n + 1) ≡ i + 1 + n = omega arith in ap Some e

either_false : (a b : Bool) → (a ≡ true → b ≡ false) → (a && b) ≡ false
either_false true b f = f refl
either_false false b f = refl

pub double_later : (text : List ℕ) (i : ℕ) → double_at text ≡ option_map (λ n. i + n) (double_at (drop i text)) → i < length text → ((get_or text i 0 ≡ 58) → (i + 1 < length text) → (get_or text (i + 1) 0 ≡ 58) → ⊥) → double_at text ≡ option_map (λ n. i + 1 + n) (double_at (drop (i + 1) text))
unfolding double_at
double_later text i h lt n =
    let t : (eqb (get_or text i 0) 58 && begins_with_colon (drop (i + 1) text)) ≡ false = either_false _ _ (λ a. colon_no text (i + 1) (n (eqb-true (get_or text i 0) 58 a))) in
    let f = λ (x : Bool). option_map (λ n. i + n) (cond x (Some 0) (option_map (λ n. n + 1) (double_at (drop (i + 1) text)))) in
    h ∙ ap (λ (l : List ℕ). option_map (λ n. i + n) (double_at l)) (drop_more text i 0 lt) ∙ ap f t ∙ later i (double_at (drop (i + 1) text))

pub ruleset double_rules = (double_here, double_later)

joined_assoc : (a b c : Option (List ℕ)) → joined a (joined b c) ≡ joined (joined a b) c
joined_assoc None b c = refl
joined_assoc (Some a) None c = refl
joined_assoc (Some a) (Some b) None = refl
joined_assoc (Some a) (Some b) (Some c) = ap Some (sym (append_assoc a b c))

joined_empty : (a : Option (List ℕ)) → joined (Some []) a ≡ a
joined_empty None = refl
joined_empty (Some a) = refl

joined_more : (a : Option (List ℕ)) → joined a (Some []) ≡ a
joined_more None = refl
joined_more (Some a) = ap Some (append-nil a)

joined_nothing : (a b : Option (List ℕ)) → b ≡ None → joined a b ≡ None
joined_nothing None b h = refl
joined_nothing (Some a) None h = refl
joined_nothing (Some a) (Some b) h = absurd cc

pub last_is : (front : List (List ℕ)) (part : List ℕ) → last_groups_of (front ++ part ∷ []) ≡ joined (groups_of front) (last_group part)
unfolding last_groups_of groups_of
last_is [] part = sym (joined_empty (last_group part))
last_is (a ∷ []) part = ap (λ x. joined x (last_group part)) (sym (joined_more (group a)))
last_is (a ∷ b ∷ front) part = ap (joined (group a)) (last_is (b ∷ front) part) ∙ joined_assoc (group a) (groups_of (b ∷ front)) (last_group part)

pub last_none : (first : List ℕ) (xs : List (Bor (List ℕ))) → length xs ≡ 0 → option_map (λ cs. first ++ cs) (last_groups_of (map (λ w. w.now) xs)) ≡ Some first
unfolding last_groups_of
last_none first [] h = ap Some (append-nil first)
last_none first (x ∷ xs) h = absurd (omega arith)

pub last_words : (xs front : List (Bor (List ℕ))) (x : Bor (List ℕ)) → xs ≡ front ++ x ∷ [] → last_groups_of (map (λ w. w.now) xs) ≡ joined (groups_of (map (λ w. w.now) front)) (last_group x.now)
last_words xs front x e = ap (λ (l : List (Bor (List ℕ))). last_groups_of (map (λ w. w.now) l)) e ∙ ap last_groups_of (map-append (λ w. w.now) front (x ∷ [])) ∙ last_is (map (λ w. w.now) front) x.now

pub pushes_joined : (first mid new : List ℕ) (a b wanted : Option (List ℕ)) (good : Bool) → wanted ≡ joined a b → option_map (λ xs. first ++ xs) a ≡ Some mid → PushesAll good mid new b → PushesAll good first new wanted
pushes_joined first mid new a b wanted true e f p = ap (λ o. option_map (λ xs. first ++ xs) o) e ∙ joined_front first a b mid f ∙ p
pushes_joined first mid new a b wanted false e f p = e ∙ joined_nothing a b p

pub ruleset last_rules = (last_words, pushes_joined, joined_none)

pub filled_none : (a b : Option (List ℕ)) (fs : List ℕ → List ℕ → Option (List ℕ)) → a ≡ None → option_and_then (λ front. option_and_then (fs front) b) a ≡ None
filled_none None b fs h = refl
filled_none (Some a) b fs h = absurd cc

pub back_none : (a b : Option (List ℕ)) (fs : List ℕ → List ℕ → Option (List ℕ)) → b ≡ None → option_and_then (λ front. option_and_then (fs front) b) a ≡ None
back_none None b fs h = refl
back_none (Some a) None fs h = refl
back_none (Some a) (Some b) fs h = absurd cc

pub ruleset filled_rules = (filled_none, back_none)

-- ---- parts between dots

found : (xs : List ℕ) (n : ℕ) → position (λ b. eqb b 46) xs ≡ Some n → (position_or_len (λ b. eqb b 46) xs ≡ n) × (n < length xs)
found xs n h = by_test (ltb (position_or_len (λ b. eqb b 46) xs) (length xs)) refl h
  where
    by_test : (b : Bool) → ltb (position_or_len (λ b. eqb b 46) xs) (length xs) ≡ b → cond b (Some (position_or_len (λ b. eqb b 46) xs)) None ≡ Some n → (position_or_len (λ b. eqb b 46) xs ≡ n) × (n < length xs)
    by_test true e h = let p : position_or_len (λ b. eqb b 46) xs ≡ n = cc in (p, omega (arith, ltb-true (position_or_len (λ b. eqb b 46) xs) (length xs) e))
    by_test false e h = absurd cc

missed : (xs : List ℕ) → position (λ b. eqb b 46) xs ≡ None → length xs ≤ position_or_len (λ b. eqb b 46) xs
missed xs h = by_test (ltb (position_or_len (λ b. eqb b 46) xs) (length xs)) refl h
  where
    by_test : (b : Bool) → ltb (position_or_len (λ b. eqb b 46) xs) (length xs) ≡ b → cond b (Some (position_or_len (λ b. eqb b 46) xs)) None ≡ None → length xs ≤ position_or_len (λ b. eqb b 46) xs
    by_test true e h = absurd cc
    by_test false e h = grind (arith, nat_tests)

one_part : (text : List ℕ) → position (λ b. eqb b 46) text ≡ None → slice_split (λ b. eqb b 46) text ≡ text ∷ []
one_part text h = slice_split_none (λ b. eqb b 46) text (λ k d lt. let m = missed text h in fails_before_first (λ b. eqb b 46) text k d (omega arith))

first_part : (text : List ℕ) (n : ℕ) → position (λ b. eqb b 46) text ≡ Some n → slice_split (λ b. eqb b 46) text ≡ take n text ∷ slice_split (λ b. eqb b 46) (drop (n + 1) text)
first_part text n h =
    let f = found text n h in
    let lt : position_or_len (λ b. eqb b 46) text < length text = omega arith in
    slice_split_first (λ b. eqb b 46) text 0 lt ∙ ap (λ (k : ℕ). take k text ∷ slice_split (λ b. eqb b 46) (drop (k + 1) text)) f.0

-- one part alone
pub last_said : (text : List ℕ) (n : ℕ) → position (λ b. eqb b 46) text ≡ None → n ≡ 1 → parts_said n text ≡ option_map (λ c. c ∷ []) (address_part text)
last_said text n h e = ap (said_by n) (one_part text h) ∙ ap (λ (k : ℕ). said_by k (text ∷ [])) e ∙ by_part (address_part text)
  where
    by_part : (o : Option ℕ) → all_some (o ∷ []) ≡ option_map (λ c. c ∷ []) o
    by_part None = refl
    by_part (Some x) = refl

pub last_unsaid : (text : List ℕ) (n : ℕ) → position (λ b. eqb b 46) text ≡ None → (n ≡ 1 → ⊥) → parts_said n text ≡ None
last_unsaid text n h e =
    let t : eqb 1 n ≡ false = grind (arith, nat_tests) in
    ap (said_by n) (one_part text h) ∙ ap (λ (b : Bool). cond b (all_some (address_part text ∷ [])) None) t

-- too few parts are wanted
pub more_unsaid : (text : List ℕ) (n at : ℕ) → position (λ b. eqb b 46) text ≡ Some at → n ≤ 1 → parts_said n text ≡ None
more_unsaid text n at h e =
    let some : 0 < length (slice_split (λ b. eqb b 46) (drop (at + 1) text)) = omega (arith, length-slice_split (λ b. eqb b 46) (drop (at + 1) text)) in
    let t : eqb (length (take at text ∷ slice_split (λ b. eqb b 46) (drop (at + 1) text))) n ≡ false = grind (arith, nat_tests) in
    ap (said_by n) (first_part text at h) ∙ ap (λ (b : Bool). cond b (all_some (map address_part (take at text ∷ slice_split (λ b. eqb b 46) (drop (at + 1) text)))) None) t

-- a part that is none
pub part_unsaid : (text : List ℕ) (n at : ℕ) → position (λ b. eqb b 46) text ≡ Some at → option_map (λ (c : ℕ). c ∷ []) (address_part (take at text)) ≡ None → parts_said n text ≡ None
part_unsaid text n at h e =
    ap (said_by n) (first_part text at h)
    ∙ by_part (address_part (take at text)) (eqb (length (take at text ∷ slice_split (λ b. eqb b 46) (drop (at + 1) text))) n) (map address_part (slice_split (λ b. eqb b 46) (drop (at + 1) text))) e
  where
    by_part : (o : Option ℕ) (b : Bool) (rest : List (Option ℕ)) → option_map (λ (c : ℕ). c ∷ []) o ≡ None → cond b (all_some (o ∷ rest)) None ≡ None
    by_part None true rest e = refl
    by_part None false rest e = refl
    by_part (Some x) b rest e = absurd cc

-- the octets of a part, and then those of the others
pub part_said : (text : List ℕ) (n at : ℕ) (old now new : List ℕ) (good : Bool) → position (λ b. eqb b 46) text ≡ Some at → 1 < n → option_map (λ cs. old ++ cs) (option_map (λ (c : ℕ). c ∷ []) (address_part (take at text))) ≡ Some now
    → PushesAll good now new (parts_said (n - 1) (drop (at + 1) text)) → PushesAll good old new (parts_said n text)
part_said text n at old now new good h more e p = by_part (address_part (take at text)) refl good e p
  where
    parts : List (List ℕ)
    parts = slice_split (λ b. eqb b 46) (drop (at + 1) text)

    counted : eqb (length (take at text ∷ parts)) n ≡ eqb (length parts) (n - 1)
    counted = grind (arith, nat_tests)

    here : parts_said n text ≡ cond (eqb (length parts) (n - 1)) (all_some (address_part (take at text) ∷ map address_part parts)) None
    here = ap (said_by n) (first_part text at h) ∙ ap (λ (b : Bool). cond b (all_some (map address_part (take at text ∷ parts))) None) counted

    on : (b : Bool) (x : ℕ) (rest : Option (List ℕ)) → cond b (option_map (λ (xs : List ℕ). x ∷ xs) rest) None ≡ option_map (λ (xs : List ℕ). x ∷ xs) (cond b rest None)
    on true x rest = refl
    on false x rest = refl

    pushed : (good : Bool) (x : ℕ) (w : Option (List ℕ)) → old ++ x ∷ [] ≡ now → PushesAll good now new w → PushesAll good old new (option_map (λ (xs : List ℕ). x ∷ xs) w)
    pushed true x None s q = absurd cc
    pushed true x (Some cs) s q = ap Some (sym (append_assoc old (x ∷ []) cs) ∙ ap (λ (l : List ℕ). l ++ cs) s) ∙ q
    pushed false x None s q = refl
    pushed false x (Some cs) s q = absurd cc

    by_part : (o : Option ℕ) → address_part (take at text) ≡ o → (good : Bool) → option_map (λ cs. old ++ cs) (option_map (λ (c : ℕ). c ∷ []) (address_part (take at text))) ≡ Some now → PushesAll good now new (parts_said (n - 1) (drop (at + 1) text)) → PushesAll good old new (parts_said n text)
    by_part None s good e p = let bad : None ≡ Some now = sym (ap (λ (o : Option ℕ). option_map (λ cs. old ++ cs) (option_map (λ (c : ℕ). c ∷ []) o)) s) ∙ e in absurd cc
    by_part (Some x) s good e p =
        let one : Some (old ++ x ∷ []) ≡ Some now = sym (ap (λ (o : Option ℕ). option_map (λ cs. old ++ cs) (option_map (λ (c : ℕ). c ∷ []) o)) s) ∙ e in
        let joined_to : old ++ x ∷ [] ≡ now = cc in
        subst (λ w. PushesAll good old new w) (sym (here ∙ ap (λ (o : Option ℕ). cond (eqb (length parts) (n - 1)) (all_some (o ∷ map address_part parts)) None) s ∙ on (eqb (length parts) (n - 1)) x (all_some (map address_part parts)))) (pushed good x (parts_said (n - 1) (drop (at + 1) text)) joined_to p)

pub ruleset part_rules = (last_said, last_unsaid, more_unsaid, part_unsaid)

-- the octets of a part, and then those of the others, as slices have them
pub part_pushed : (text rest : List ℕ) (n at : ℕ) (old now new : List ℕ) (good : Bool) → position (λ b. eqb b 46) text ≡ Some at → 1 < n → rest ≡ slice_range text (at + 1) (length text)
    → PushesAll true old now (option_map (λ c. c ∷ []) (address_part (take at text))) → PushesAll good now new (parts_said (n - 1) rest) → PushesAll good old new (parts_said n text)
part_pushed text rest n at old now new good h more f p q =
    let behind : rest ≡ drop (at + 1) text = f ∙ take_all (length text - (at + 1)) (drop (at + 1) text) (omega (arith, length-drop (at + 1) text)) in
    part_said text n at old now new good h more p (subst (λ (l : List ℕ). PushesAll good now new (parts_said (n - 1) l)) behind q)

-- Passes that are told of the opening.
use Rattle.std.proofs.Common.{◌≡◌, ◌∙◌, ⊎_elim, ℕ, zero, suc, ◌+◌, ◌-◌, ◌<◌, ◌≤◌, Bool, true, false, List, [], ◌∷◌, ◌++◌, map, length, take, get_or, get_or-take, take-take, length-take-le, eq-or-lt_of_le, Option, Some, cond, nat_lt, refl, sym, ap, subst, arith}
use Rattle.std.specs.Prelude.{unwrap_or}
use Rattle.std.specs.List.{All, range_with_len}
use Rattle.std.proofs.lemmas.List.{get_or-map, length-map, map-append}
use Rattle.std.proofs.lemmas.List.Elements.{Contains-append_left, Contains-push}
use Rattle.std.proofs.lemmas.List.FromFn.{length-range_with_len, get_or-range_with_len}
use Rattle.trie_model.specs.Keys.{Entry}
use Rattle.shared_cells.specs.declared.view.Entry.{Entry as Commit}
use Rattle.shared_cells.specs.History.{IsPartOf, OpeningFits, longer_of}
use Rattle.shared_cells.specs.Views.{is_told, number_of, pass_view}
use Rattle.shared_cells.proofs.Seats.{told_there}
use Rattle.qp_multi.specs.declared.meaning.Operation.{Operation}
use Rattle.qp_multi.specs.Passes.{Known, commits_in, first_version, pinned_in}
use Rattle.qp_multi.specs.Closings.{IsThere}
use Rattle.qp_multi.specs.Openings.{SeesFirst}

-- no pass has seen anything when the table is made
pub all_unseen : {A : Type 0} (f : A → Known) (xs : List A) (ns : List ℕ) (chunks : ℕ) → map f xs ≡ map (λ n. pass_view n chunks) ns → All (λ x. length (f x).seen.history ≡ 0) xs
all_unseen f [] ns chunks e k d l = absurd (omega arith)
all_unseen f (x ∷ xs) [] chunks e k d l = absurd cc
all_unseen f (x ∷ xs) (n ∷ ns) chunks e zero d l = let h : f x ≡ pass_view n chunks = cc in ap (λ (v : Known). length v.seen.history) h
all_unseen f (x ∷ xs) (n ∷ ns) chunks e (suc k) d l = all_unseen f xs ns chunks (let t : map f xs ≡ map (λ n. pass_view n chunks) ns = cc in t) k d (omega arith)

-- nor has it done anything
pub all_unused : {A : Type 0} (f : A → Known) (xs : List A) (ns : List ℕ) (chunks : ℕ) → map f xs ≡ map (λ n. pass_view n chunks) ns → All (λ x. (commits_in (f x).pass ≡ []) × (pinned_in (f x).pass ≡ [])) xs
all_unused f [] ns chunks e k d l = absurd (omega arith)
all_unused f (x ∷ xs) [] chunks e k d l = absurd cc
all_unused f (x ∷ xs) (n ∷ ns) chunks e zero d l = let h : f x ≡ pass_view n chunks = cc in (ap (λ (v : Known). commits_in v.pass) h, ap (λ (v : Known). pinned_in v.pass) h)
all_unused f (x ∷ xs) (n ∷ ns) chunks e (suc k) d l = all_unused f xs ns chunks (let t : map f xs ≡ map (λ n. pass_view n chunks) ns = cc in t) k d (omega arith)

-- the passes are numbered from 0
pub all_numbered : {A : Type 0} (f : A → Known) (xs : List A) (first count chunks : ℕ) → map f xs ≡ map (λ n. pass_view n chunks) (range_with_len first count) → map (λ x. number_of (f x).pass) xs ≡ range_with_len (first + 1) count
all_numbered f [] first zero chunks e = refl
all_numbered f [] first (suc count) chunks e = absurd cc
all_numbered f (x ∷ xs) first zero chunks e = absurd cc
all_numbered f (x ∷ xs) first (suc count) chunks e =
    let h : f x ≡ pass_view first chunks = cc in
    let t : map f xs ≡ map (λ n. pass_view n chunks) (range_with_len (first + 1) count) = cc in
    let more = all_numbered f xs (first + 1) count chunks t in
    let here : number_of (f x).pass ≡ first + 1 = ap (λ (v : Known). number_of v.pass) h in
    ap (λ (n : ℕ). n ∷ map (λ y. number_of (f y).pass) xs) here ∙ ap (λ (ns : List ℕ). (first + 1) ∷ ns) more

-- what is left of a list of n from which the last was taken
pub fewer_left : {A : Type 0} (now old all : List A) (n : ℕ) → n ≡ length old → 0 < n → old ≡ take (length old) all → now ≡ take (n - 1) old → (length now + 1 ≡ n) × (now ≡ take (length now) all)
fewer_left now old all n count some is taken =
    let long : length now ≡ n - 1 = ap (λ xs. length xs) taken ∙ length-take-le (n - 1) old (omega arith) in (
      omega arith,
      taken ∙ ap (take (n - 1)) is ∙ take-take (n - 1) (length old) all (omega arith) ∙ ap (λ (k : ℕ). take k all) (sym long),
    )

-- the last that is left has the number of those before it
pub last_number : {A : Type 0} (g : A → ℕ) (old all : List A) (n count : ℕ) (d : A) → n ≡ length old → 0 < n → n ≤ length all → old ≡ take (length old) all → map g all ≡ range_with_len 1 count
    → g (get_or old (n - 1) d) ≡ n
last_number g old all n count d same some within is numbered =
    let long : length all ≡ count = sym (length-map all g) ∙ ap (λ (ns : List ℕ). length ns) numbered ∙ length-range_with_len 1 count in
    ap (λ xs. g (get_or xs (n - 1) d)) is ∙ ap g (get_or-take (length old) all (n - 1) d (omega arith)) ∙ sym (get_or-map g all (n - 1) d (g d) (omega arith)) ∙ ap (λ (ns : List ℕ). get_or ns (n - 1) (g d)) numbered
    ∙ get_or-range_with_len 1 count (n - 1) (g d) (omega arith) ∙ omega arith

-- as many as there are numbers
pub numbered_long : {A : Type 0} (g : A → ℕ) (xs : List A) (count : ℕ) → map g xs ≡ range_with_len 1 count → length xs ≡ count
numbered_long g xs count numbered = sym (length-map xs g) ∙ ap (λ (ns : List ℕ). length ns) numbered ∙ length-range_with_len 1 count

-- a pass more is there
pub there_more : {A : Type 0} (f : A → Known) (ps : List A) (p : A) (left count : ℕ) → number_of (f p).pass ≡ left + 1
    → ((number : ℕ) → left + 1 ≤ number → number < count → IsThere (map f ps) number) → (number : ℕ) → left ≤ number → number < count → IsThere (map f (ps ++ p ∷ [])) number
there_more f ps p left count is others number some few =
    subst (λ (vs : List Known). IsThere vs number) (sym (map-append f ps (p ∷ []))) (⊎_elim
    (λ (e : left ≡ number). (f p, Contains-push (map f ps) (f p), is ∙ ap (λ (n : ℕ). n + 1) e))
    (λ (l : left < number). let t = others number (omega arith) few in (t.0, Contains-append_left (map f ps) (f p ∷ []) t.0 t.1, t.2))
    (eq-or-lt_of_le some))

-- the longer of two that are empty
pub none_longer : (xs ys : List (Commit (List Operation))) → length xs ≡ 0 → length ys ≡ 0 → length (longer_of xs ys) ≡ 0
none_longer xs ys e f = go (nat_lt (length xs) (length ys))
  where
    go : (b : Bool) → length (cond b ys xs) ≡ 0
    go true = f
    go false = e

nothing : {A : Type 0} (xs : List A) → length xs ≡ 0 → xs ≡ []
nothing [] e = refl
nothing (x ∷ xs) e = absurd (omega arith)

pub sees_first : (v w : Known) → is_told v.seen.opening ≡ true → IsPartOf w.seen v.seen → length w.seen.history ≡ 0 → SeesFirst (first_version v.seen) w
sees_first v w known part none =
    let o = told_there v.seen.opening known in
    let opening : w.seen.opening ≡ Some o.0 = subst (λ (x : Option (List Entry)). OpeningFits w.seen.opening x v.seen) o.1 part.opening in
    record {
      opening = ap (λ (x : Option (List Entry)). unwrap_or x []) opening ∙ sym (ap (λ (x : Option (List Entry)). unwrap_or x []) o.1);
      history = nothing w.seen.history none;
    }

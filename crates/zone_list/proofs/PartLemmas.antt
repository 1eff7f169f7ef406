-- Lines are parts in one way.
use Rattle.std.proofs.Common.{◌≡◌, ◌∙◌, ℕ, ◌+◌, Bool, true, false, ◌||◌, List, [], ◌∷◌, ◌++◌, length, refl, sym, ap, subst, arith, append-nil}
use Rattle.std.specs.List.{list_any}
use Rattle.zone_list.specs.Lists.{is_head, Part, Cut, cut_from, begins_part}
use Rattle.zone_list.specs.Parts.{AreParts, NoPart, PartFirst}
use Rattle.zone_list.proofs.CutLemmas.{behind, line_skipped, line_begins, none_in_front}

-- what is cut of lines is all of them: some that begin no part, and then parts
abbrev Whole : ℕ → List (List ℕ) → Cut → Type 0
Whole n lines cut = (rest : List (List ℕ)) × (lines ≡ cut.front ++ rest) × (list_any is_head cut.front ≡ false) × AreParts (n + length cut.front) cut.parts rest

line_more : (n : ℕ) (line : List ℕ) (lines : List (List ℕ)) (t : Bool) → is_head line ≡ t → Whole (n + 1) lines (cut_from (n + 1) lines) → Whole n (line ∷ lines) (cut_from n (line ∷ lines))
line_more n line lines true e w =
    let c = cut_from (n + 1) lines in
    let here : n + 0 ≡ n = omega arith in
    let first : AreParts n ((record { number = n; head = line; lines = c.front }) ∷ c.parts) (line ∷ (c.front ++ w.0)) = PartFirst n line c.front w.0 c.parts e w.2 w.3 in
    subst (Whole n (line ∷ lines)) (sym (line_begins n line lines e))
    (line ∷ lines, refl, refl, subst (λ (l : List (List ℕ)). AreParts (n + 0) ((record { number = n; head = line; lines = c.front }) ∷ c.parts) (line ∷ l)) (sym w.1) (subst (λ (k : ℕ). AreParts k ((record { number = n; head = line; lines = c.front }) ∷ c.parts) (line ∷ (c.front ++ w.0))) (sym here) first))
line_more n line lines false e w =
    let c = cut_from (n + 1) lines in
    let size : n + 1 + length c.front ≡ n + length (line ∷ c.front) = omega arith in
    subst (Whole n (line ∷ lines)) (sym (line_skipped n line lines e))
    (w.0, ap (λ (l : List (List ℕ)). line ∷ l) w.1, ap (λ (b : Bool). b || list_any is_head c.front) e ∙ w.2, subst (λ (k : ℕ). AreParts k c.parts w.0) size w.3)

whole : (n : ℕ) (lines : List (List ℕ)) → Whole n lines (cut_from n lines)
unfolding cut_from
whole n [] = ([], refl, refl, (let e : n + 0 ≡ n = omega arith in subst (λ (k : ℕ). AreParts k [] []) (sym e) (NoPart n)))
whole n (line ∷ lines) = line_more n line lines (is_head line) refl (whole (n + 1) lines)

pub parts_whole : (n : ℕ) (lines : List (List ℕ)) → begins_part lines ≡ true → AreParts n (cut_from n lines).parts lines
parts_whole n lines b =
    let w = whole n lines in
    let c = cut_from n lines in
    let none : c.front ≡ [] = none_in_front n lines b in
    let here : n + length c.front ≡ n = omega (arith, ap (λ (l : List (List ℕ)). length l) none) in
    let rest : w.0 ≡ lines = sym (w.1 ∙ ap (λ (l : List (List ℕ)). l ++ w.0) none) in
    subst (λ (l : List (List ℕ)). AreParts n c.parts l) rest (subst (λ (k : ℕ). AreParts k c.parts w.0) here w.3)

-- lines that begin no part stand in front of what is cut behind them
skipped : (n : ℕ) (lines rest : List (List ℕ)) → list_any is_head lines ≡ false → cut_from n (lines ++ rest) ≡ behind lines (cut_from (n + length lines) rest)
skipped n [] rest h = let e : n ≡ n + 0 = omega arith in ap (λ (k : ℕ). cut_from k rest) e
skipped n (line ∷ lines) rest h = by_test (is_head line) refl h (skipped (n + 1) lines rest)
  where
    by_test : (t : Bool) → is_head line ≡ t → (t || list_any is_head lines) ≡ false → (list_any is_head lines ≡ false → cut_from (n + 1) (lines ++ rest) ≡ behind lines (cut_from (n + 1 + length lines) rest))
        → cut_from n (line ∷ (lines ++ rest)) ≡ behind (line ∷ lines) (cut_from (n + length (line ∷ lines)) rest)
    by_test true e h more = absurd cc
    by_test false e h more =
        let size : n + 1 + length lines ≡ n + length (line ∷ lines) = omega arith in
        line_skipped n line (lines ++ rest) e ∙ ap (behind (line ∷ [])) (more h ∙ ap (λ (k : ℕ). behind lines (cut_from k rest)) size)

none_ahead : (n m : ℕ) (parts : List Part) (lines : List (List ℕ)) → AreParts n parts lines → (cut_from m lines).front ≡ []
unfolding cut_from
none_ahead n m parts lines (NoPart _) = refl
none_ahead n m parts lines (PartFirst _ head ls rest more h l p) = ap (λ (c : Cut). c.front) (line_begins m head (ls ++ rest) h)

pub parts_only : (n : ℕ) (parts : List Part) (lines : List (List ℕ)) → AreParts n parts lines → (cut_from n lines).parts ≡ parts
unfolding cut_from
parts_only n parts lines (NoPart _) = refl
parts_only n parts lines (PartFirst _ head ls rest more h l p) =
    let m = n + 1 + length ls in
    let c = cut_from m rest in
    let behind_head : cut_from (n + 1) (ls ++ rest) ≡ behind ls c = skipped (n + 1) ls rest l in
    let none : ls ++ c.front ≡ ls = ap (λ (f : List (List ℕ)). ls ++ f) (none_ahead m m more rest p) ∙ append-nil ls in
    ap (λ (x : Cut). x.parts) (line_begins n head (ls ++ rest) h)
    ∙ ap (λ (x : Cut). (record { number = n; head = head; lines = x.front }) ∷ x.parts) behind_head
    ∙ ap (λ (f : List (List ℕ)). (record { number = n; head = head; lines = f }) ∷ c.parts) none
    ∙ ap (λ (ps : List Part). (record { number = n; head = head; lines = ls }) ∷ ps) (parts_only m more rest p)

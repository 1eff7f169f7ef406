-- Lines in full are those of the records, one after another.
use Rattle.std.proofs.Common.{◌≡◌, ◌∙◌, ℕ, List, [], ◌∷◌, ◌++◌, refl, sym, ap, append_assoc, None}
use Rattle.std.specs.List.{flat_map}
use Rattle.zone_model.specs.Versions.{Version}
use Rattle.zone_model.specs.Rows.{Row, row_text}
use Rattle.zone_model.specs.Dumps.{rows_at, all_rows, owner_lines, version_lines}

pub flat_map-append : {A B : Type 0} (f : A → List B) (xs ys : List A) → flat_map f (xs ++ ys) ≡ flat_map f xs ++ flat_map f ys
flat_map-append f [] ys = refl
flat_map-append f (x ∷ xs) ys = ap (λ l. f x ++ l) (flat_map-append f xs ys) ∙ sym (append_assoc (f x) (flat_map f xs) (flat_map f ys))

full_name : (rows : List Row) → owner_lines None rows ≡ flat_map row_text rows
full_name [] = refl
full_name (row ∷ rows) = refl

pub full_lines : (version : Version) → version_lines None version ≡ flat_map row_text (all_rows version)
full_lines [] = refl
full_lines (pair ∷ version) =
    ap (λ (l : List ℕ). l ++ version_lines None version) (full_name (rows_at pair)) ∙ ap (λ (l : List ℕ). flat_map row_text (rows_at pair) ++ l) (full_lines version)
    ∙ sym (flat_map-append row_text (rows_at pair) (all_rows version))

-- Data that are a name from a place on.
use Rattle.std.proofs.Common.{◌≡◌, ◌∙◌, ℕ, ◌+◌, ◌<◌, ◌≤◌, List, [], ◌∷◌, ◌++◌, length, drop, get_or, Option, Some, None, refl, sym, ap, subst, arith, length-append}
use Rattle.std.proofs.lemmas.List.{drop_all, get_or-drop}
use Rattle.zone_model.specs.Names.{Name, IsName, BeginsWith, wire}
use Rattle.zone_model.specs.Splits.{split_name, split_labels}
use Rattle.zone_model.proofs.SplitLemmas.{name_back, name_sound, SplitsName}
use Rattle.zone_answer.specs.Responses.{whole_name, name_from}

pub no_octets : (place : ℕ) (octets : List ℕ) → length octets ≤ place → None ≡ name_from place octets
unfolding split_labels
no_octets place octets l = sym (ap (λ (b : List ℕ). whole_name (split_name b)) (drop_all place octets l))

none_split : (bytes : List ℕ) (o : Option (Name × List ℕ)) → split_name bytes ≡ o → ((i : ℕ) → get_or bytes i 0 < 256) → ((name : Name) → IsName name → BeginsWith bytes name → ⊥) → None ≡ whole_name o
none_split bytes None e b never = refl
none_split bytes (Some x) e b never = let s : SplitsName bytes x = name_sound bytes x b e in absurd (never x.0 s.name (x.1, s.octets))

pub no_name : (place : ℕ) (octets behind : List ℕ) → behind ≡ drop place octets → ((i : ℕ) → get_or octets i 0 < 256) → ((name : Name) → IsName name → BeginsWith behind name → ⊥) → None ≡ name_from place octets
no_name place octets behind e b never =
    let small : (i : ℕ) → get_or behind i 0 < 256 = λ i. subst (λ (n : ℕ). n < 256) (sym (ap (λ (l : List ℕ). get_or l i 0) e ∙ get_or-drop place octets i 0)) (b (place + i)) in
    none_split behind (split_name behind) refl small never ∙ ap (λ (l : List ℕ). whole_name (split_name l)) e

begun : (place : ℕ) (octets behind : List ℕ) (name : Name) (rest : List ℕ) → behind ≡ drop place octets → IsName name → behind ≡ wire name ++ rest → whole_name (Some (name, rest)) ≡ name_from place octets
begun place octets behind name rest e is laid =
    ap whole_name (sym (name_back name rest is)) ∙ ap (λ (l : List ℕ). whole_name (split_name l)) (sym laid ∙ e)

more_behind : (behind : List ℕ) (name : Name) (rest : List ℕ) → behind ≡ wire name ++ rest → length (wire name) < length behind → None ≡ whole_name (Some (name, rest))
more_behind behind name [] e l = absurd (let size = ap (λ (b : List ℕ). length b) e in let parts = length-append (wire name) [] in omega arith)
more_behind behind name (octet ∷ rest) e l = refl

none_behind : (behind : List ℕ) (name : Name) (rest : List ℕ) → behind ≡ wire name ++ rest → length behind ≤ length (wire name) → Some name ≡ whole_name (Some (name, rest))
none_behind behind name [] e l = refl
none_behind behind name (octet ∷ rest) e l = absurd (let size = ap (λ (b : List ℕ). length b) e in let parts = length-append (wire name) (octet ∷ rest) in omega arith)

pub longer : (place : ℕ) (octets behind : List ℕ) (name : Name) → behind ≡ drop place octets → IsName name → BeginsWith behind name → length (wire name) < length behind → None ≡ name_from place octets
longer place octets behind name e is begins l = more_behind behind name begins.0 begins.1 l ∙ begun place octets behind name begins.0 e is begins.1

pub just : (place : ℕ) (octets behind : List ℕ) (name : Name) → behind ≡ drop place octets → IsName name → BeginsWith behind name → length behind ≤ length (wire name) → Some name ≡ name_from place octets
just place octets behind name e is begins l = none_behind behind name begins.0 begins.1 l ∙ begun place octets behind name begins.0 e is begins.1

-- Records and RRsets, one by one.
use Rattle.std.proofs.Common.{◌≡◌, ◌∙◌, ℕ, zero, suc, ◌-◌, ◌<◌, ◌≤◌, true, false, cond, List, [], ◌∷◌, ◌++◌, refl, sym, ap, arith, Option, Some, None, option_and_then, append_assoc}
use Rattle.std.specs.Option.{option_map}
use Rattle.std.proofs.lemmas.List.{append-nil}
use Rattle.zone_model.specs.Items.{split_record, split_records, is_above, split_set, split_sets, type_above}
use Rattle.rr_data.specs.Items.{behind_records, behind_sets}
use Rattle.zone_model.specs.Records.{Rrset}

abbrev first : List ℕ → List (List ℕ) × List ℕ → List (List ℕ) × List ℕ
first octets y = (octets ∷ y.0, y.1)

then_push : (records : List (List ℕ)) (octets : List ℕ) (z : Option (List (List ℕ) × List ℕ)) → option_map (behind_records records) (option_map (first octets) z) ≡ option_map (behind_records (records ++ octets ∷ [])) z
then_push records octets None = refl
then_push records octets (Some y) = ap (λ (l : List (List ℕ)). Some (l, y.1)) (sym (append_assoc records (octets ∷ []) y.0))

abbrev read_on : ℕ → Option (List ℕ) → List ℕ × List ℕ → Option (List (List ℕ) × List ℕ)
read_on left before x = cond (is_above before x.0) (option_map (first x.0) (split_records left (Some x.0) x.1)) None

pub records_on : (left : ℕ) (before : Option (List ℕ)) (rest octets behind : List ℕ) (records now : List (List ℕ)) (wanted : Option (List (List ℕ) × List ℕ)) → wanted ≡ option_map (behind_records records) (split_records left before rest) → 0 < left → split_record rest ≡ Some (octets, behind) → is_above before octets ≡ true → now ≡ records ++ octets ∷ []
    → wanted ≡ option_map (behind_records now) (split_records (left - 1) (Some octets) behind)
unfolding split_records
records_on zero before rest octets behind records now wanted h lt e a p = absurd (omega arith)
records_on (suc left) before rest octets behind records now wanted h lt e a p =
    let k : left ≡ suc left - 1 = omega arith in
    h ∙ ap (λ r. option_map (behind_records records) (option_and_then (read_on left before) r)) e
    ∙ ap (λ b. option_map (behind_records records) (cond b (option_map (first octets) (split_records left (Some octets) behind)) None)) a
    ∙ then_push records octets (split_records left (Some octets) behind)
    ∙ ap (λ (l : List (List ℕ)). option_map (behind_records l) (split_records left (Some octets) behind)) (sym p)
    ∙ ap (λ (n : ℕ). option_map (behind_records now) (split_records n (Some octets) behind)) k

pub records_missing : (left : ℕ) (before : Option (List ℕ)) (rest : List ℕ) (records : List (List ℕ)) (wanted : Option (List (List ℕ) × List ℕ)) → wanted ≡ option_map (behind_records records) (split_records left before rest) → 0 < left → split_record rest ≡ None → wanted ≡ None
unfolding split_records
records_missing zero before rest records wanted h lt e = absurd (omega arith)
records_missing (suc left) before rest records wanted h lt e = h ∙ ap (λ r. option_map (behind_records records) (option_and_then (read_on left before) r)) e

pub records_unsorted : (left : ℕ) (before : Option (List ℕ)) (rest octets behind : List ℕ) (records : List (List ℕ)) (wanted : Option (List (List ℕ) × List ℕ)) → wanted ≡ option_map (behind_records records) (split_records left before rest) → 0 < left → split_record rest ≡ Some (octets, behind) → is_above before octets ≡ false → wanted ≡ None
unfolding split_records
records_unsorted zero before rest octets behind records wanted h lt e a = absurd (omega arith)
records_unsorted (suc left) before rest octets behind records wanted h lt e a =
    h ∙ ap (λ r. option_map (behind_records records) (option_and_then (read_on left before) r)) e
    ∙ ap (λ b. option_map (behind_records records) (cond b (option_map (first octets) (split_records left (Some octets) behind)) None)) a

pub records_done : (left : ℕ) (before : Option (List ℕ)) (rest : List ℕ) (records : List (List ℕ)) (wanted : Option (List (List ℕ) × List ℕ)) → wanted ≡ option_map (behind_records records) (split_records left before rest) → left ≤ 0 → Some (records, rest) ≡ wanted
unfolding split_records
records_done zero before rest records wanted h le = sym (h ∙ ap (λ (l : List (List ℕ)). Some (l, rest)) (append-nil records))
records_done (suc left) before rest records wanted h le = absurd (omega arith)

pub ruleset records_rules = (records_on, records_missing, records_done)

abbrev first_set : Rrset → List Rrset × List ℕ → List Rrset × List ℕ
first_set octets y = (octets ∷ y.0, y.1)

sets_push : (records : List Rrset) (octets : Rrset) (z : Option (List Rrset × List ℕ)) → option_map (behind_sets records) (option_map (first_set octets) z) ≡ option_map (behind_sets (records ++ octets ∷ [])) z
sets_push records octets None = refl
sets_push records octets (Some y) = ap (λ (l : List Rrset). Some (l, y.1)) (sym (append_assoc records (octets ∷ []) y.0))

abbrev set_on : ℕ → Option ℕ → Rrset × List ℕ → Option (List Rrset × List ℕ)
set_on left before x = cond (type_above before x.0.rtype) (option_map (first_set x.0) (split_sets left (Some x.0.rtype) x.1)) None

pub sets_go_on : (left : ℕ) (before : Option ℕ) (rest behind : List ℕ) (octets : Rrset) (records now : List Rrset) (wanted : Option (List Rrset × List ℕ)) → wanted ≡ option_map (behind_sets records) (split_sets left before rest) → 0 < left → split_set rest ≡ Some (octets, behind) → type_above before octets.rtype ≡ true → now ≡ records ++ octets ∷ []
    → wanted ≡ option_map (behind_sets now) (split_sets (left - 1) (Some octets.rtype) behind)
unfolding split_sets
sets_go_on zero before rest behind octets records now wanted h lt e a p = absurd (omega arith)
sets_go_on (suc left) before rest behind octets records now wanted h lt e a p =
    let k : left ≡ suc left - 1 = omega arith in
    h ∙ ap (λ r. option_map (behind_sets records) (option_and_then (set_on left before) r)) e
    ∙ ap (λ b. option_map (behind_sets records) (cond b (option_map (first_set octets) (split_sets left (Some octets.rtype) behind)) None)) a
    ∙ sets_push records octets (split_sets left (Some octets.rtype) behind)
    ∙ ap (λ (l : List Rrset). option_map (behind_sets l) (split_sets left (Some octets.rtype) behind)) (sym p)
    ∙ ap (λ (n : ℕ). option_map (behind_sets now) (split_sets n (Some octets.rtype) behind)) k

pub sets_missing : (left : ℕ) (before : Option ℕ) (rest : List ℕ) (records : List Rrset) (wanted : Option (List Rrset × List ℕ)) → wanted ≡ option_map (behind_sets records) (split_sets left before rest) → 0 < left → split_set rest ≡ None → wanted ≡ None
unfolding split_sets
sets_missing zero before rest records wanted h lt e = absurd (omega arith)
sets_missing (suc left) before rest records wanted h lt e = h ∙ ap (λ r. option_map (behind_sets records) (option_and_then (set_on left before) r)) e

pub sets_unsorted : (left : ℕ) (before : Option ℕ) (rest behind : List ℕ) (octets : Rrset) (records : List Rrset) (wanted : Option (List Rrset × List ℕ)) → wanted ≡ option_map (behind_sets records) (split_sets left before rest) → 0 < left → split_set rest ≡ Some (octets, behind) → type_above before octets.rtype ≡ false → wanted ≡ None
unfolding split_sets
sets_unsorted zero before rest behind octets records wanted h lt e a = absurd (omega arith)
sets_unsorted (suc left) before rest behind octets records wanted h lt e a =
    h ∙ ap (λ r. option_map (behind_sets records) (option_and_then (set_on left before) r)) e
    ∙ ap (λ b. option_map (behind_sets records) (cond b (option_map (first_set octets) (split_sets left (Some octets.rtype) behind)) None)) a

pub sets_done : (left : ℕ) (before : Option ℕ) (rest : List ℕ) (records : List Rrset) (wanted : Option (List Rrset × List ℕ)) → wanted ≡ option_map (behind_sets records) (split_sets left before rest) → left ≤ 0 → Some (records, rest) ≡ wanted
unfolding split_sets
sets_done zero before rest records wanted h le = sym (h ∙ ap (λ (l : List Rrset). Some (l, rest)) (append-nil records))
sets_done (suc left) before rest records wanted h le = absurd (omega arith)

pub ruleset sets_rules = (sets_go_on, sets_missing, sets_done)

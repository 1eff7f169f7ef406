-- The origin is the first name of its zone.
use Rattle.std.proofs.Common.{◌≡◌, ◌∙◌, Bool, true, false, cond, [], ◌∷◌, Some, refl, sym, ap, subst, unwrap_or}
use Rattle.std.specs.Prelude.{is_some}
use Rattle.std.specs.List.{AllByRecursion}
use Rattle.std.specs.List.Sorted.{IsStrictlySortedBy}
use Rattle.std.specs.Map.{keys_of}
use Rattle.std.specs.Ordering.{is_eq, is_gt, ordering_reverse}
use Rattle.std.specs.declared.cmp.Ordering.TheVariants.{Less, Greater}
use Rattle.zone_model.specs.Names.{Name, name_cmp}
use Rattle.zone_model.specs.NameOrder.{name_cmp_total}
use Rattle.zone_model.specs.Records.{Entry, rrset_of}
use Rattle.zone_model.specs.Versions.{Version, entry_of, has_soa, soa_type}
use Rattle.zone_model.proofs.NameLemmas.{same_name-true}
use Rattle.zone_model.proofs.OrderLemmas.{under_not_before}
use Rattle.master_file.specs.Rows.{CanBeDumped}
use Rattle.report_laws.proofs.WellFormedLemmas.{soa_there}

-- a name that has an SOA is there, so it stands behind one that is before all
before_soa : (origin first : Name) (version : Version) → has_soa origin version ≡ true → AllByRecursion (λ y. name_cmp first y ≡ Less) (keys_of version) → name_cmp first origin ≡ Less
before_soa origin first [] soa above = absurd cc
before_soa origin first (pair ∷ rest) soa above = by_test (λ s. before_soa origin first rest s above.1) (is_eq (name_cmp origin pair.0)) refl soa
  where
    by_test : (has_soa origin rest ≡ true → name_cmp first origin ≡ Less) → (b : Bool) → is_eq (name_cmp origin pair.0) ≡ b → is_some (rrset_of soa_type (unwrap_or (cond b (Some pair.1) (entry_of origin rest)) [])) ≡ true → name_cmp first origin ≡ Less
    by_test more true e s = subst (λ (n : Name). name_cmp first n ≡ Less) (sym (same_name-true origin pair.0 e)) above.0
    by_test more false e s = more s

-- but none that is under it stands before it
not_before : (origin first : Name) → is_gt (name_cmp origin first) ≡ false → name_cmp first origin ≡ Less → ⊥
not_before origin first after before =
    let greater : name_cmp origin first ≡ Greater = name_cmp_total.antisymm origin first ∙ ap ordering_reverse before in
    let is : true ≡ false = sym (ap is_gt greater) ∙ after in
    cc

pub zone_first : (origin : Name) (version : Version) → CanBeDumped origin version → (entry : Entry) × (rest : Version) × (version ≡ (origin, entry) ∷ rest)
unfolding IsStrictlySortedBy
zone_first origin [] h = absurd (let soa : has_soa origin [] ≡ true = soa_there origin [] h in cc)
zone_first origin (pair ∷ rest) h = (pair.1, rest, ap (λ (n : Name). (n, pair.1) ∷ rest) (by_test (is_eq (name_cmp origin pair.0)) refl))
  where
    by_test : (b : Bool) → is_eq (name_cmp origin pair.0) ≡ b → pair.0 ≡ origin
    by_test true e = sym (same_name-true origin pair.0 e)
    by_test false e =
        let soa : has_soa origin rest ≡ true = sym (ap (λ (b : Bool). is_some (rrset_of soa_type (unwrap_or (cond b (Some pair.1) (entry_of origin rest)) []))) e) ∙ soa_there origin (pair ∷ rest) h in
        absurd (not_before origin pair.0 (under_not_before pair.0 origin h.zone.inside.0) (before_soa origin pair.0 rest soa h.rising.0))

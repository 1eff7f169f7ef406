-- A record joins the RRset of its type.
use Rattle.std.proofs.Common.{◌≡◌, ℕ, suc, ◌+◌, ◌<◌, List, [], ◌∷◌, ◌++◌, length, take, drop, get_or, set, sym, ap, ◌∙◌, arith}
use Rattle.std.specs.declared.cmp.Ordering.{Ordering}
use Rattle.std.specs.declared.cmp.Ordering.TheVariants.{Equal}
use Rattle.std.specs.Ordering.{nat_cmp, match_ordering}
use Rattle.std.proofs.lemmas.List.{set_split, drop_more}
use Rattle.std.specs.List.{AllZip}
use Rattle.std.proofs.lemmas.Slice.Zip.{AllZip-map}
use Rattle.std.proofs.lemmas.List.{map-id}
use Rattle.zone_model.specs.Records.{Rrset, with_record, with_rr}

pub joins : (rtype ttl : ℕ) (octets : List ℕ) (sets : List Rrset) (at : ℕ) (here next : Rrset) → at < length sets → here ≡ get_or sets at here → nat_cmp rtype here.rtype ≡ Equal
    → next ≡ record here { records = with_record octets here.records } → with_rr rtype ttl octets sets ≡ take at sets ++ with_rr rtype ttl octets (drop at sets) → set sets at next ≡ with_rr rtype ttl octets sets
joins rtype ttl octets sets at here next h is same n so_far =
    let begins : drop at sets ≡ here ∷ drop (suc at) sets = drop_more sets at here h ∙ ap (λ (x : Rrset). x ∷ drop (at + 1) sets) (sym is) ∙ ap (λ (k : ℕ). here ∷ drop k sets) (let e : at + 1 ≡ suc at = omega arith in e) in
    let step : with_rr rtype ttl octets (here ∷ drop (suc at) sets) ≡ (record here { records = with_record octets here.records }) ∷ drop (suc at) sets =
    ap (λ (o : Ordering). match_ordering o
    ((record { rtype = rtype; ttl = ttl; records = octets ∷ [] }) ∷ (here ∷ drop (suc at) sets))
    ((record here { records = with_record octets here.records }) ∷ drop (suc at) sets)
    (here ∷ with_rr rtype ttl octets (drop (suc at) sets))) same in
    set_split sets at next h ∙ ap (λ (x : Rrset). take at sets ++ x ∷ drop (suc at) sets) n
    ∙ sym (so_far ∙ ap (λ (l : List Rrset). take at sets ++ with_rr rtype ttl octets l) begins ∙ ap (λ (l : List Rrset). take at sets ++ l) step)

-- lists that are alike place by place
pub same_items : {X : Type 0} (xs ys : List X) → AllZip (λ x y. y ≡ x) xs ys → ys ≡ xs
same_items {X} xs ys h = AllZip-map (λ (x : X). x) xs ys h ∙ map-id xs

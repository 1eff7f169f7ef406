-- Looked at once, RRsets that rise give the same as each looked up.
use Rattle.std.proofs.Common.{◌≡◌, ◌∙◌, ℕ, ◌<◌, ◌≤◌, Bool, true, false, cond, eqb, List, [], ◌∷◌, ◌++◌, refl, sym, ap, subst, arith, Option, Some, None}
use Rattle.std.specs.List.{AllByRecursion, flat_map}
use Rattle.std.specs.declared.cmp.Ordering.{Ordering}
use Rattle.std.specs.declared.cmp.Ordering.TheVariants.{Less, Equal, Greater}
use Rattle.std.specs.Ordering.{nat_cmp, match_ordering}
use Rattle.std.proofs.lemmas.Cmp.{ranked}
use Rattle.zone_model.specs.Names.{Name}
use Rattle.zone_model.specs.Records.{Rrset, Entry, rrset_of, IsEntry, IsRrset, RisingSets}
use Rattle.zone_model.specs.Versions.{Operation}
use Rattle.zone_change.proofs.FoundLaws.{rises_on, is_set, none_above}
use Rattle.zone_diff.specs.declared.sets.Side.{Side}
use Rattle.zone_diff.specs.Differences.{entry_changes, set_changes, unless_soa}
use Rattle.zone_diff.specs.Merges.{Rises}
use Rattle.zone_diff.specs.Sinks.{Aim, Adds, AddsFront}
use Rattle.zone_diff.specs.Walks.{sets_reached, set_ahead, changes_walked, each_beside}
use Rattle.zone_diff.proofs.EachLemmas.{all_of, all_proper}
use Rattle.zone_diff.proofs.EntryLemmas.{passed}
use Rattle.zone_diff.proofs.MergeLemmas.{front_joins}

ahead_is : (t : ℕ) (b : Option ℕ) (others : Entry) → RisingSets b others → set_ahead t (sets_reached t others) ≡ rrset_of t others
ahead_is t b [] h = refl
ahead_is t b (s ∷ rest) h = by_order (nat_cmp t s.rtype) refl (ahead_is t (Some s.rtype) rest (rises_on b s rest h))
  where
    none_behind : t ≤ s.rtype → set_ahead t (s ∷ rest) ≡ rrset_of t (s ∷ rest)
    none_behind le = ap (λ (f : Option Rrset). cond (eqb s.rtype t) (Some s) f) (sym (none_above t s.rtype rest le (rises_on b s rest h)))

    by_order : (o : Ordering) → nat_cmp t s.rtype ≡ o → set_ahead t (sets_reached t rest) ≡ rrset_of t rest → set_ahead t (match_ordering o (s ∷ rest) (s ∷ rest) (sets_reached t rest)) ≡ rrset_of t (s ∷ rest)
    by_order Less e on = let lt : t < s.rtype = ranked t s.rtype Less (sym e) in none_behind (omega arith)
    by_order Equal e on = let same : t ≡ s.rtype = ranked t s.rtype Equal (sym e) in none_behind (omega arith)
    by_order Greater e on = let gt : s.rtype < t = ranked t s.rtype Greater (sym e) in on ∙ sym (passed t s rest (λ same. absurd (omega arith)))

later_is : (t k : ℕ) (others : Entry) → t < k → rrset_of k (sets_reached t others) ≡ rrset_of k others
later_is t k [] lt = refl
later_is t k (s ∷ rest) lt = by_order (nat_cmp t s.rtype) refl (later_is t k rest lt)
  where
    by_order : (o : Ordering) → nat_cmp t s.rtype ≡ o → rrset_of k (sets_reached t rest) ≡ rrset_of k rest → rrset_of k (match_ordering o (s ∷ rest) (s ∷ rest) (sets_reached t rest)) ≡ rrset_of k (s ∷ rest)
    by_order Less e on = refl
    by_order Equal e on = refl
    by_order Greater e on = let gt : s.rtype < t = ranked t s.rtype Greater (sym e) in on ∙ sym (passed k s rest (λ same. absurd (omega arith)))

reached_rises : (t : ℕ) (b : Option ℕ) (others : Entry) → RisingSets b others → RisingSets None (sets_reached t others)
reached_rises t b [] h = tt
reached_rises t b (s ∷ rest) h = by_order (nat_cmp t s.rtype) (reached_rises t (Some s.rtype) rest (rises_on b s rest h))
  where
    by_order : (o : Ordering) → RisingSets None (sets_reached t rest) → RisingSets None (match_ordering o (s ∷ rest) (s ∷ rest) (sets_reached t rest))
    by_order Less on = (is_set b s rest h, rises_on b s rest h)
    by_order Equal on = (is_set b s rest h, rises_on b s rest h)
    by_order Greater on = on

module _ (due : Option Rrset → Rrset → List Operation) where
  -- what is due where each is looked up
  abbrev looked_up : Entry → Entry → List Operation
  looked_up others sets = flat_map (λ (s : Rrset). due (rrset_of s.rtype others) s) sets

  up_alike : (t : ℕ) (less others sets : Entry) → ((k : ℕ) → t < k → rrset_of k less ≡ rrset_of k others) → RisingSets (Some t) sets → looked_up less sets ≡ looked_up others sets
  up_alike t less others [] f h = refl
  up_alike t less others (s ∷ sets) f h =
      let above : t < s.rtype = h.0 in
      let on : looked_up less sets ≡ looked_up others sets = up_alike s.rtype less others sets (λ k lt. f k (omega arith)) h.2 in
      ap (λ (x : Option Rrset). due x s ++ looked_up less sets) (f s.rtype h.0) ∙ ap (λ (l : List Operation). due (rrset_of s.rtype others) s ++ l) on

  beside_looks_up : (b c : Option ℕ) (others sets : Entry) → RisingSets b others → RisingSets c sets → each_beside due others sets ≡ looked_up others sets
  beside_looks_up b c others [] h k = refl
  beside_looks_up b c others (s ∷ sets) h k =
      let left : Entry = sets_reached s.rtype others in
      let on : each_beside due left sets ≡ looked_up others sets =
      beside_looks_up None (Some s.rtype) left sets (reached_rises s.rtype b others h) (rises_on c s sets k)
      ∙ up_alike s.rtype left others sets (λ n lt. later_is s.rtype n others lt) (rises_on c s sets k) in
      ap (λ (x : Option Rrset). due x s ++ each_beside due left sets) (ahead_is s.rtype b others h) ∙ ap (λ (l : List Operation). due (rrset_of s.rtype others) s ++ l) on

pub changes_are_walked : (side : Side) (owner : Name) (others sets : Entry) → IsEntry others → IsEntry sets → changes_walked side owner others sets ≡ entry_changes side owner others sets
changes_are_walked side owner others sets h k = beside_looks_up (λ other s. unless_soa s (set_changes side owner other s)) None None others sets h k

-- ---- one RRset more

-- the records of each RRset rise
abbrev pub AllRise : Entry → Type 0
AllRise sets = AllByRecursion (λ (s : Rrset). Rises (Some s)) sets

pub all_rise : (b : Option ℕ) (sets : Entry) → RisingSets b sets → AllRise sets
all_rise b sets h = all_of IsRrset (λ (s : Rrset). Rises (Some s)) (λ s is. is.rising) sets (all_proper b sets h)

pub reached_rise : (t : ℕ) (others : Entry) → AllRise others → AllRise (sets_reached t others)
reached_rise t [] h = tt
reached_rise t (s ∷ rest) h = by_order (nat_cmp t s.rtype) (reached_rise t rest h.1)
  where
    by_order : (o : Ordering) → AllRise (sets_reached t rest) → AllRise (match_ordering o (s ∷ rest) (s ∷ rest) (sets_reached t rest))
    by_order Less on = h
    by_order Equal on = h
    by_order Greater on = on

pub ahead_rises : (t : ℕ) (others : Entry) → AllRise others → Rises (set_ahead t others)
ahead_rises t [] h = tt
ahead_rises t (s ∷ rest) h = by_test (eqb s.rtype t)
  where
    by_test : (b : Bool) → Rises (cond b (Some s) None)
    by_test true = h.0
    by_test false = tt

-- how far a walk has come
pub record WalksOn (had has : Aim → List Operation → Type 0) (all : List Operation) (due : Option Rrset → Rrset → List Operation) (others sets : Entry) : Type 0 where
  pub front : AddsFront had has all (each_beside due others sets)
  pub others_rise : AllRise others
  pub sets_rise : AllRise sets

pub walk_goes_on : (had has next : Aim → List Operation → Type 0) (all : List Operation) (due : Option Rrset → Rrset → List Operation) (others sets rest left : Entry) (s : Rrset) (other : Option Rrset) (n : ℕ)
    → sets ≡ s ∷ rest → n ≡ s.rtype → left ≡ sets_reached n others → other ≡ set_ahead n (sets_reached n others) → WalksOn had has all due others sets → Adds has next (due other s) → WalksOn had next all due left rest
walk_goes_on had has next all due others sets rest left s other n e t l o w a =
    let here : left ≡ sets_reached s.rtype others = l ∙ ap (λ (k : ℕ). sets_reached k others) t in
    let found : other ≡ set_ahead s.rtype (sets_reached s.rtype others) = o ∙ ap (λ (k : ℕ). set_ahead k (sets_reached k others)) t in
    let now : AddsFront had has all (each_beside due others (s ∷ rest)) = subst (λ (x : Entry). AddsFront had has all (each_beside due others x)) e w.front in
    let come : Adds has next (due (set_ahead s.rtype (sets_reached s.rtype others)) s) = subst (λ (x : Option Rrset). Adds has next (due x s)) found a in
    let rise : AllRise (s ∷ rest) = subst AllRise e w.sets_rise in record {
      front = subst (λ (x : Entry). AddsFront had next all (each_beside due x rest)) (sym here) (front_joins had has next all (each_beside due (sets_reached s.rtype others) rest) (due (set_ahead s.rtype (sets_reached s.rtype others)) s) now come);
      others_rise = subst AllRise (sym here) (reached_rise s.rtype others w.others_rise);
      sets_rise = rise.1;
    }

-- Names that are left of two zones.
use Rattle.std.proofs.Common.{◌≡◌, ◌∙◌, ℕ, true, List, [], ◌∷◌, ◌++◌, length, take, drop, refl, sym, ap, subst, Option, Some, None, IfSome, MatchOption}
use Rattle.std.specs.Int.{w16, from_be_bytes}
use Rattle.std.specs.declared.cmp.Ordering.{Ordering}
use Rattle.std.specs.declared.cmp.Ordering.TheVariants.{Less, Equal, Greater}
use Rattle.std.specs.Ordering.{is_ge, is_le, match_ordering}
use Rattle.zone_model.specs.Names.{Name, name_cmp, wire}
use Rattle.zone_model.specs.Records.{Rrset, Entry, IsItem}
use Rattle.zone_model.specs.Versions.{Version, Operation}
use Rattle.rr_data.specs.ItemViews.{SaysEntry}
use Rattle.rr_data.proofs.ItemViewLemmas.{item_says, item_sets, sets_view}
use Rattle.zone_model.proofs.NameLemmas.{name_cmp-IsAntisymmetric}
use Rattle.zone_diff.specs.declared.Serial.{Serial}
use Rattle.zone_diff.specs.Differences.{difference}
use Rattle.zone_diff.specs.Sinks.{Aim, AddsFront}
use Rattle.zone_diff.specs.NamesAhead.{Leaves, SaysFirst, entry_laid, first_entry, first_of, name_changes, owner_ahead, passed_if}
use Rattle.zone_diff.proofs.MergeLemmas.{front_joins}

pub laid_is : (octets : List ℕ) (owner : Name) (entry : Entry) → IsItem octets owner entry → entry_laid owner octets ≡ entry
unfolding entry_laid
laid_is octets owner entry is =
    let behind : List ℕ = drop (length (wire owner)) octets in
    sets_view (from_be_bytes w16 (take 2 behind)) (drop 2 behind) entry (item_sets owner octets behind (take 2 behind) (drop 2 behind) (length (wire owner)) entry is refl refl refl refl)

abbrev pub pair : Name → Entry → Name × Entry
pair name entry = (name, entry)

pub laid_pair : (octets : List ℕ) (name owner : Name) (entry : Entry) → IsItem octets owner entry → name ≡ owner → pair name (entry_laid name octets) ≡ pair owner entry
laid_pair octets name owner entry is e = ap (λ (n : Name). pair n (entry_laid n octets)) e ∙ ap (pair owner) (laid_is octets owner entry is)

pub laid_item : (octets : List ℕ) (name owner : Name) (entry : Entry) → IsItem octets owner entry → name ≡ owner → IsItem octets name (entry_laid name octets)
laid_item octets name owner entry is e =
    subst (λ (n : Name). IsItem octets n (entry_laid n octets)) (sym e) (subst (λ (x : Entry). IsItem octets owner x) (sym (laid_is octets owner entry is)) is)

-- ---- the first name

pub found_is : (r found : Option Rrset) → MatchOption r (found ≡ None) (λ s. found ≡ Some s) → r ≡ found
found_is None found h = sym h
found_is (Some s) found h = sym h

pub says_first : (v : Version) (octets : List ℕ) (owner : Name) → SaysFirst v octets → owner_ahead v ≡ Some owner → SaysEntry owner octets (first_entry v)
says_first [] octets owner h e = absurd cc
says_first (p ∷ v) octets owner h e = let same : p.0 ≡ owner = cc in item_says owner octets p.1 (subst (λ (n : Name). IsItem octets n p.1) same h)

-- ---- the name that comes first of two versions

-- where it stands, and what becomes of it
pub record FirstOf (owner : Name) (order : Ordering) (before after : Version) : Type 0 where
  pub old : is_le order ≡ true → owner_ahead before ≡ Some owner
  pub new : is_ge order ≡ true → owner_ahead after ≡ Some owner
  pub gives : (mode : Serial) → name_changes mode owner order before after ++ difference mode (passed_if (is_le order) before) (passed_if (is_ge order) after) ≡ difference mode before after

firsts : (before after : Version) → IfSome {T = Name × Ordering} (first_of before after) (λ first. FirstOf first.0 first.1 before after)
firsts [] [] = tt
firsts (b ∷ before) [] = record { old = λ l. refl; new = λ g. cc; gives = λ mode. refl }
firsts [] (a ∷ after) = record { old = λ l. cc; new = λ g. refl; gives = λ mode. refl }
firsts (b ∷ before) (a ∷ after) = by_order (name_cmp b.0 a.0) refl
  where
    by_order : (o : Ordering) → name_cmp b.0 a.0 ≡ o → IfSome {T = Name × Ordering} (match_ordering o (Some (b.0, Less)) (Some (b.0, Equal)) (Some (a.0, Greater))) (λ first. FirstOf first.0 first.1 (b ∷ before) (a ∷ after))
    by_order Less e = record { old = λ l. refl; new = λ g. cc; gives = λ mode. rw e refl }
    by_order Equal e = record { old = λ l. refl; new = λ g. ap (λ (n : Name). Some n) (sym (name_cmp-IsAntisymmetric b.0 a.0 e)); gives = λ mode. rw e refl }
    by_order Greater e = record { old = λ l. cc; new = λ g. refl; gives = λ mode. rw e refl }

pub first_is : (owner : Name) (order : Ordering) (before after : Version) → first_of before after ≡ Some (owner, order) → FirstOf owner order before after
first_is owner order before after e = subst (λ (x : Option (Name × Ordering)). IfSome {T = Name × Ordering} x (λ first. FirstOf first.0 first.1 before after)) e (firsts before after)

pub old_says : (b a : Version) (owner : Name) (order : Ordering) (octets : List ℕ) → first_of b a ≡ Some (owner, order) → is_le order ≡ true → SaysFirst b octets → SaysEntry owner octets (first_entry b)
old_says b a owner order octets e l h = let f = first_is owner order b a e in says_first b octets owner h (f.old l)

pub new_says : (b a : Version) (owner : Name) (order : Ordering) (octets : List ℕ) → first_of b a ≡ Some (owner, order) → is_ge order ≡ true → SaysFirst a octets → SaysEntry owner octets (first_entry a)
new_says b a owner order octets e g h = let f = first_is owner order b a e in says_first a octets owner h (f.new g)

-- ---- one name more

pub leaves_on : (mode : Serial) (had has next : Aim → List Operation → Type 0) (all : List Operation) (shows shows' more more' : Version → Type 0) → Leaves mode had has all shows shows'
    → ((b a : Version) → shows b → shows' a → Leaves mode has next (difference mode b a) more more') → Leaves mode had next all more more'
leaves_on mode had has next all shows shows' more more' l on =
    let m : Leaves mode has next (difference mode l.before l.after) more more' = on l.before l.after l.shown l.shown' in
    let f = m.front in record {
      before = m.before;
      after = m.after;
      shown = m.shown;
      shown' = m.shown';
      front = front_joins had has next all (difference mode m.before m.after) f.done (subst (AddsFront had has all) (sym f.gives) l.front) f.added;
    }

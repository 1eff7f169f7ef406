-- Several zones that are opened with their items: whether each of them fits.
use Rattle.std.proofs.Common.{◌≡◌, ◌∙◌, inl, inr, ℕ, zero, suc, ◌<◌, ◌≤◌, Bool, true, false, ◌&&◌, List, [], ◌∷◌, ◌++◌, length, map, Some, Ok, refl, sym, ap, subst, arith, codes}
use Rattle.std.proofs.lemmas.List.{length-map}
use Rattle.std.proofs.lemmas.Bool.{and_right, lt-leb}
use Rattle.std.specs.Fmt.{decimal}
use Rattle.std.specs.List.{All, AllByRecursion, AllPairs, Contains, IsDistinct, list_all, slice_get, slice_index_or}
use Rattle.std.specs.declared.cmp.Ordering.TheVariants.{Less}
use Rattle.zone_model.specs.MasterFile.{Zone}
use Rattle.zone_model.specs.Names.{Name, name_cmp, same_name}
use Rattle.zone_model.proofs.NameLemmas.{same_name-true}
use Rattle.trie_model.specs.Keys.{Entry}
use Rattle.trie_model.specs.Shape.{cells}
use Rattle.shared_cells.specs.declared.view.TableSize.{TableSize}
use Rattle.qp_multi.specs.Openings.{room_in}
use Rattle.zone_answer.specs.Standing.{trie_entry}
use Rattle.job_model.specs.Sizes.{cell_count}
use Rattle.job_commands.specs.Histories.{IsZone}
use Rattle.zone_list.specs.Parts.{AreListed}
use Rattle.zones_model.specs.Commands as model
use Rattle.zones_model.specs.Commands.{Command}
use Rattle.zone_table.specs.declared.opening.ZoneItems.{ZoneItems}
use Rattle.zone_table.specs.Openings.{AllFit, IsFirstFull, Place, entries_in, origins_of, places_of}
use Rattle.zone_table.proofs.Lists.{contains_at, place_in, some_is}
use Rattle.zone_table.proofs.RefusalLaws.{place_zone}
use Rattle.zones_threads.specs.Openings.{StandFor}
use Rattle.qp_main.specs.Due.{FirstDoesNotFit, IfAllFit, ZonesAnswers, ZonesReported, all_fit}
use Rattle.qp_main.specs.Fits.{fits}
use Rattle.qp_main.specs.Opens.{AreAllItems, AreItems}
use Rattle.qp_main.specs.Saids.{IsRead}
use Rattle.qp_main.specs.declared.status.Status.{Status}
use Rattle.qp_main.specs.declared.status.Status.TheVariants as status
use Rattle.qp_main.proofs.ReportingLemmas.{it_fits}

-- ---- the items of zones

items_at : (zones : List Zone) (items : List ZoneItems) → AreAllItems zones items → (k : ℕ) (zone : Zone) → slice_get zones k ≡ Some zone → (z : ZoneItems) × (slice_get items k ≡ Some z) × AreItems zone z
items_at [] items are k zone there = absurd cc
items_at (x ∷ zones) [] are k zone there = absurd are
items_at (x ∷ zones) (z ∷ items) are zero zone there = (z, refl, subst (λ (y : Zone). AreItems y z) (some_is x zone there) are.0)
items_at (x ∷ zones) (z ∷ items) are (suc k) zone there = items_at zones items are.1 k zone there

zone_at : (zones : List Zone) (items : List ZoneItems) → AreAllItems zones items → (k : ℕ) (z : ZoneItems) → slice_get items k ≡ Some z → (zone : Zone) × (slice_get zones k ≡ Some zone) × AreItems zone z
zone_at zones [] are k z there = absurd cc
zone_at [] (y ∷ items) are k z there = absurd are
zone_at (zone ∷ zones) (y ∷ items) are zero z there = (zone, refl, subst (AreItems zone) (some_is y z there) are.0)
zone_at (zone ∷ zones) (y ∷ items) are (suc k) z there = zone_at zones items are.1 k z there

pub none_left : (zones : List Zone) → length zones ≡ 0 → zones ≡ []
none_left [] none = refl
none_left (zone ∷ zones) none = absurd (omega arith)

pub items_many : (zones : List Zone) (items : List ZoneItems) → AreAllItems zones items → length items ≡ length zones
items_many [] [] are = refl
items_many [] (z ∷ items) are = absurd are
items_many (zone ∷ zones) [] are = absurd are
items_many (zone ∷ zones) (z ∷ items) are = ap suc (items_many zones items are.1)

-- as many as there are tables
pub sizes_many : {B S : Type 0} (blanks : List B) (size_of : B → S) (zones : List Zone) (items : List ZoneItems) → AreAllItems zones items → length blanks ≡ length zones → length (map size_of blanks) ≡ length items
sizes_many blanks size_of zones items are each = length-map blanks size_of ∙ each ∙ sym (items_many zones items are)

origins_same : (zones : List Zone) (items : List ZoneItems) → AreAllItems zones items → model.origins_of zones ≡ origins_of items
origins_same [] [] are = refl
origins_same [] (z ∷ items) are = absurd are
origins_same (zone ∷ zones) [] are = absurd are
origins_same (zone ∷ zones) (z ∷ items) are = ap (λ (o : Name). o ∷ model.origins_of zones) (sym are.0.origin) ∙ ap (λ (l : List Name). z.origin ∷ l) (origins_same zones items are.1)

pub they_stand : (zones : List Zone) (items : List ZoneItems) → AreAllItems zones items → StandFor items zones
they_stand zones items are = record {
  origins = origins_same zones items are;
  each = λ k z zone there is.
      let y = items_at zones items are k zone is in
      let same : y.0 ≡ z = some_is y.0 z (sym y.1 ∙ there) in
      (subst (AreItems zone) same y.2).stand;
}

pub all_zones : (zones : List Zone) (items : List ZoneItems) → AllByRecursion IsRead zones → AreAllItems zones items → AllByRecursion (λ z. IsZone z.origin (entries_in z)) items
all_zones [] [] read are = tt
all_zones [] (z ∷ items) read are = absurd are
all_zones (zone ∷ zones) [] read are = absurd are
all_zones (zone ∷ zones) (z ∷ items) read are = (
  subst (λ (o : Name). IsZone o (entries_in z)) (sym are.0.origin) (record { version = zone.pairs; stands = are.0.stand; zone = read.0.1 }),
  all_zones zones items read.1 are.1,
)

-- ---- their origins are different

not_same : (a b : Name) → (a ≡ b → ⊥) → same_name a b ≡ false
not_same a b n = by_case (same_name a b) refl
  where
    by_case : (t : Bool) → same_name a b ≡ t → same_name a b ≡ false
    by_case true e = absurd (n (same_name-true a b e))
    by_case false e = e

others_different : (zone : Zone) (zones : List Zone) → ((j : ℕ) (d : Zone) → j < length zones → zone.origin ≡ (slice_index_or zones j d).origin → ⊥) → AllByRecursion (λ y. same_name zone.origin y ≡ false) (model.origins_of zones)
others_different zone [] n = tt
others_different zone (x ∷ zones) n = (not_same zone.origin x.origin (n 0 x (omega arith)), others_different zone zones (λ j d lt. n (suc j) d (omega arith)))

all_different : (zones : List Zone) → AllPairs (λ a b. a.origin ≡ b.origin → ⊥) zones → IsDistinct same_name (model.origins_of zones)
unfolding IsDistinct
all_different [] apart = tt
all_different (zone ∷ zones) apart = (others_different zone zones (λ j d lt. apart 0 (suc j) d (omega arith) (omega arith)), all_different zones (λ i j d before lt. apart (suc i) (suc j) d (omega arith) (omega arith)))

pub different : (zones : List Zone) (items : List ZoneItems) → AreListed zones → AreAllItems zones items → IsDistinct same_name (origins_of items)
different zones items listed are = subst (IsDistinct same_name) (origins_same zones items are) (all_different zones listed.apart)

-- ---- whether they fit

place_at : (chunks : ℕ) (items : List ZoneItems) (sizes : List TableSize) → length sizes ≡ length items → All (λ (s : TableSize). s.chunks ≡ chunks) sizes → (k : ℕ) (z : ZoneItems) → slice_get items k ≡ Some z
    → (s : TableSize) × (slice_get (places_of items sizes) k ≡ Some (record { zone = z; size = s })) × (s.chunks ≡ chunks)
place_at chunks [] sizes many all k z there = absurd cc
place_at chunks (y ∷ items) [] many all k z there = absurd (omega arith)
place_at chunks (y ∷ items) (s ∷ sizes) many all zero z there = (s, ap (λ (x : ZoneItems). Some (record { zone = x; size = s })) (some_is y z there), all 0 s (omega arith))
place_at chunks (y ∷ items) (s ∷ sizes) many all (suc k) z there = place_at chunks items sizes (omega arith) (λ j d lt. all (suc j) d (omega arith)) k z there

all_true : (p : Zone → Bool) (zones : List Zone) → ((k : ℕ) (zone : Zone) → slice_get zones k ≡ Some zone → p zone ≡ true) → list_all p zones ≡ true
all_true p [] h = refl
all_true p (zone ∷ zones) h = ap (λ (b : Bool). b && list_all p zones) (h 0 zone refl) ∙ all_true p zones (λ k z there. h (suc k) z there)

not_all : (p : Zone → Bool) (zones : List Zone) (k : ℕ) (zone : Zone) → slice_get zones k ≡ Some zone → p zone ≡ false → list_all p zones ≡ false
not_all p [] k zone there out = absurd cc
not_all p (x ∷ zones) zero zone there out = ap (λ (b : Bool). b && list_all p zones) (ap p (some_is x zone there) ∙ out)
not_all p (x ∷ zones) (suc k) zone there out = and_right (p x) (list_all p zones) (not_all p zones k zone there out)

it_does_not : (chunks : ℕ) (zone : Zone) → room_in chunks < cell_count zone.pairs → fits chunks zone.pairs ≡ false
it_does_not chunks zone h = lt-leb (cell_count zone.pairs) (room_in chunks) h

more : (a b m n : ℕ) → a ≡ m → b ≡ n → b < a → n < m
more a b m n e f l = omega arith

module _ (chunks : ℕ) (zones : List Zone) (items : List ZoneItems) (sizes : List TableSize) (are : AreAllItems zones items) (many : length sizes ≡ length items) (all : All (λ (s : TableSize). s.chunks ≡ chunks) sizes) where
  -- the place of a zone
  place_of : (k : ℕ) (zone : Zone) → slice_get zones k ≡ Some zone → (p : Place) × Contains (places_of items sizes) p × AreItems zone p.zone × (p.size.chunks ≡ chunks)
  place_of k zone there =
      let z = items_at zones items are k zone there in
      let s = place_at chunks items sizes many all k z.0 z.1 in
      let p : Place = record { zone = z.0; size = s.0 } in
      (p, contains_at (places_of items sizes) k p s.1, z.2, s.2)

  fits_there : (zone : Zone) (p : Place) → AreItems zone p.zone → p.size.chunks ≡ chunks → cells (entries_in p.zone) ≤ room_in p.size.chunks → fits chunks zone.pairs ≡ true
  fits_there zone p is same room =
      it_fits chunks zone.pairs (subst (λ (es : List Entry). cells es ≤ room_in chunks) (sym is.stand.entries) (subst (λ (n : ℕ). cells (entries_in p.zone) ≤ room_in n) same room))

  pub all_fit_there : AllFit (places_of items sizes) → all_fit chunks zones ≡ true
  all_fit_there fit = all_true (λ zone. fits chunks zone.pairs) zones (λ k zone there. let p = place_of k zone there in fits_there zone p.0 p.2 p.3 (fit p.0 p.1))

  module _ (ws : List (List Command)) where
    abbrev job : model.Job
    job = record { zones = zones; workers = ws }

    pub run_answers : AllFit (places_of items sizes) → (s : Status) (text : List ℕ) → ZonesReported chunks job s text → ZonesAnswers chunks (Ok job) s text
    run_answers fit s text h = subst (λ (b : Bool). IfAllFit b chunks zones (ZonesReported chunks job) s text) (sym (all_fit_there fit)) h

    -- the first that doesn't is told
    module _ (number needed limit : ℕ) (text : List ℕ) (f : IsFirstFull (places_of items sizes) number needed limit) (printed : text ≡ codes "zone does not fit: " ++ decimal needed ++ codes " cells over " ++ decimal limit ++ codes "\n") where
      item : slice_get items number ≡ Some f.place.zone
      item = place_zone items sizes number f.place f.there

      full_zone : (zone : Zone) × (slice_get zones number ≡ Some zone) × AreItems zone f.place.zone
      full_zone = zone_at zones items are number f.place.zone item

      full_chunks : f.place.size.chunks ≡ chunks
      full_chunks =
          let s = place_at chunks items sizes many all number f.place.zone item in
          let same = some_is (record { zone = f.place.zone; size = s.0 }) f.place (sym s.1 ∙ f.there) in
          ap (λ (p : Place). p.size.chunks) (sym same) ∙ s.2

      needed_is : needed ≡ cell_count full_zone.0.pairs
      needed_is = f.full.0 ∙ ap cells (sym full_zone.2.stand.entries)

      limit_is : limit ≡ room_in chunks
      limit_is = f.full.1 ∙ ap room_in full_chunks

      others_fit : (other : Zone) → Contains zones other → name_cmp other.origin full_zone.0.origin ≡ Less → fits chunks other.pairs ≡ true
      others_fit other c less =
          let at = place_in zones other c in
          let p = place_of at.0 other at.2 in
          let before : name_cmp p.0.zone.origin f.place.zone.origin ≡ Less = ap (λ (o : Name). name_cmp o f.place.zone.origin) p.2.origin ∙ ap (name_cmp other.origin) full_zone.2.origin ∙ less in
          elim (f.first p.0 p.1 before) [
            | inl room ↦ fits_there other p.0 p.2 p.3 room
            | inr over ↦ absurd (let a = ap (λ (es : List Entry). length es) p.2.stand.entries in let b = length-map other.pairs trie_entry in let c = p.2.few in omega arith)
          ]

      pub first_told : ZonesAnswers chunks (Ok job) status.DoesNotFit text
      first_told =
          let too_many = it_does_not chunks full_zone.0 (more needed limit (cell_count full_zone.0.pairs) (room_in chunks) needed_is limit_is f.full.2) in
          let first : FirstDoesNotFit chunks zones status.DoesNotFit text = record {
            zone = full_zone.0;
            there = contains_at zones number full_zone.0 full_zone.1;
            too_large = too_many;
            first = others_fit;
            told = (
              refl,
              printed ∙ ap (λ (n : ℕ). codes "zone does not fit: " ++ decimal n ++ codes " cells over " ++ decimal limit ++ codes "\n") needed_is
                  ∙ ap (λ (n : ℕ). codes "zone does not fit: " ++ decimal (cell_count full_zone.0.pairs) ++ codes " cells over " ++ decimal n ++ codes "\n") limit_is,
            );
          } in
          subst (λ (b : Bool). IfAllFit b chunks zones (ZonesReported chunks job) status.DoesNotFit text) (sym (not_all (λ zone. fits chunks zone.pairs) zones number full_zone.0 full_zone.1 too_many)) first

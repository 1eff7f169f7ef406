-- Zones that are put together, and opened.
use Rattle.std.proofs.Common.{◌≡◌, ◌∙◌, ℕ, zero, suc, ◌+◌, ◌<◌, ◌≤◌, Bool, true, false, ◌||◌, List, [], ◌∷◌, ◌++◌, length, map, get_or, Some, refl, sym, ap, subst, arith, length-append}
use Rattle.std.proofs.lemmas.List.{map-append}
use Rattle.std.proofs.lemmas.List.Elements.{All-push}
use Rattle.std.specs.List.{All, AllByRecursion, IsDistinct, list_any, slice_get}
use Rattle.zone_model.specs.MasterFile.{Zone}
use Rattle.zone_model.specs.Names.{Name, same_name}
use Rattle.trie_model.specs.Keys.{Rises}
use Rattle.atomic_table.specs.Seated.{TableId}
use Rattle.shared_cells.specs.declared.view.TableSize.{TableSize}
use Rattle.qp_multi.specs.declared.meaning.Named.{Ghosts}
use Rattle.job_commands.specs.Histories.{IsLawful, IsZone, StandsAs}
use Rattle.job_commands.proofs.ZoneLaws.{zone_lawful, zone_rises}
use Rattle.zone_table.specs.declared.opening.ZoneItems.{ZoneItems}
use Rattle.zone_table.specs.declared.pass.ZonesPass.{ZonesPass}
use Rattle.zone_table.specs.declared.zones.Zones.{Zones}
use Rattle.zone_table.specs.Handings.{AreMade}
use Rattle.zone_table.specs.Openings.{entries_in, origins_of}
use Rattle.zone_table.specs.Passes.{IsPassOf}
use Rattle.zone_table.proofs.Lists.{all_at, some_is}
use Rattle.zone_server.specs.Homes.{Served}
use Rattle.zone_server.specs.Builds.{HasOneMore}
use Rattle.zone_server.specs.Openings.{IsOpening, OpeningView, origin_in, served_at, served_of}
use Rattle.zone_server.specs.Servings as serving
use Rattle.zone_server.specs.Servings.{IsServed, IsServing}

pub one_longer : {A : Type 0} (longer shorter : List A) (x : A) → longer ≡ shorter ++ x ∷ [] → length longer ≡ length shorter + 1
one_longer longer shorter x is = ap length is ∙ length-append shorter (x ∷ [])

-- ---- one zone more

both_false : (a b : Bool) → (a || b) ≡ false → (a ≡ false) × (b ≡ false)
both_false true b e = absurd cc
both_false false b e = (refl, e)

apart_more : (x : Name) (xs : List Name) (o : Name) → AllByRecursion (λ y. same_name x y ≡ false) xs → same_name x o ≡ false → AllByRecursion (λ y. same_name x y ≡ false) (xs ++ o ∷ [])
apart_more x [] o all e = (e, tt)
apart_more x (y ∷ ys) o all e = (all.0, apart_more x ys o all.1 e)

pub distinct_more : (zones : List ZoneItems) (z : ZoneItems) → IsDistinct same_name (origins_of zones) → list_any (λ x. same_name (origin_in x) z.origin) zones ≡ false → IsDistinct same_name (origins_of (zones ++ z ∷ []))
unfolding IsDistinct
distinct_more [] z distinct none = (tt, tt)
distinct_more (x ∷ zones) z distinct none =
    let e = both_false (same_name x.origin z.origin) (list_any (λ x. same_name (origin_in x) z.origin) zones) none in
    (subst (AllByRecursion (λ y. same_name x.origin y ≡ false)) (sym (map-append (λ (y : ZoneItems). y.origin) zones (z ∷ []))) (apart_more x.origin (origins_of zones) z.origin distinct.0 e.0), distinct_more zones z distinct.1 e.1)

pub served_more : (zones : List ZoneItems) (sizes : List TableSize) (z : ZoneItems) (s : TableSize) → length sizes ≡ length zones → served_of (zones ++ z ∷ []) (sizes ++ s ∷ []) ≡ served_of zones sizes ++ served_at (record { zone = z; size = s }) ∷ []
served_more [] [] z s many = refl
served_more [] (t ∷ sizes) z s many = absurd (omega arith)
served_more (x ∷ zones) [] z s many = absurd (omega arith)
served_more (x ∷ zones) (t ∷ sizes) z s many = ap (λ (l : List Served). served_at (record { zone = x; size = t }) ∷ l) (served_more zones sizes z s (omega arith))

pub served_many : (zones : List ZoneItems) (sizes : List TableSize) → length sizes ≡ length zones → length (served_of zones sizes) ≡ length zones
served_many [] sizes many = refl
served_many (x ∷ zones) [] many = absurd (omega arith)
served_many (x ∷ zones) (t ∷ sizes) many = ap suc (served_many zones sizes (omega arith))

-- whether one has an origin
pub any_origin : (zones : List ZoneItems) (sizes : List TableSize) (origin : Name) → length sizes ≡ length zones → list_any (λ (s : Served). same_name s.origin origin) (served_of zones sizes) ≡ list_any (λ z. same_name (origin_in z) origin) zones
any_origin [] sizes origin many = refl
any_origin (x ∷ zones) [] origin many = absurd (omega arith)
any_origin (x ∷ zones) (t ∷ sizes) origin many = ap (λ (b : Bool). same_name x.origin origin || b) (any_origin zones sizes origin (omega arith))

pub opening_more : (passes : ℕ) (zones : List ZoneItems) (sizes : List TableSize) (table : TableSize) (z : ZoneItems) (s : TableSize) → IsOpening passes zones sizes table → length zones < 16 → s.passes ≡ passes → list_any (λ x. same_name (origin_in x) z.origin) zones ≡ false → IsZone z.origin (entries_in z)
    → IsOpening passes (zones ++ z ∷ []) (sizes ++ s ∷ []) table
opening_more passes zones sizes table z s o room size none is = record {
  table_chunks = o.table_chunks;
  table_passes = o.table_passes;
  some_passes = o.some_passes;
  few_passes = o.few_passes;
  passes_are = All-push (λ (t : TableSize). t.passes ≡ passes) sizes s o.passes_are size;
  few = (let n = length-append zones (z ∷ []) in omega (arith, n, room));
  each = (let n = length-append zones (z ∷ []) in let m = length-append sizes (s ∷ []) in let e = o.each in omega (arith, n, m, e));
  different = distinct_more zones z o.different none;
  are_zones = All-push (λ x. IsZone x.origin (entries_in x)) zones z o.are_zones is;
}

-- of what an opening has

module _ (zones : List ZoneItems) (sizes : List TableSize) (each : length sizes ≡ length zones) (view : List Served) (is : served_of zones sizes ≡ view) where
  pub many_served : length view ≡ length zones
  many_served = sym (ap length is) ∙ served_many zones sizes each

  pub one_has : (origin : Name) (lent : List ZoneItems) (named : Name) (answer : Bool) → lent ≡ zones → named ≡ origin → answer ≡ list_any (λ z. same_name (origin_in z) named) lent → answer ≡ true → list_any (λ (s : Served). same_name s.origin origin) view ≡ true
  one_has origin lent named answer l n a t =
      sym (ap (list_any (λ (s : Served). same_name s.origin origin)) is) ∙ any_origin zones sizes origin each
      ∙ sym (ap (λ (o : Name). list_any (λ z. same_name (origin_in z) o) zones) n) ∙ sym (ap (list_any (λ z. same_name (origin_in z) named)) l) ∙ sym a ∙ t

pub none_has : (zones : List ZoneItems) (origin : Name) (lent : List ZoneItems) (named : Name) (answer : Bool) → lent ≡ zones → named ≡ origin → answer ≡ list_any (λ z. same_name (origin_in z) named) lent → answer ≡ false → list_any (λ z. same_name (origin_in z) origin) zones ≡ false
none_has zones origin lent named answer l n a t = sym (ap (λ (o : Name). list_any (λ z. same_name (origin_in z) o) zones) n) ∙ sym (ap (list_any (λ z. same_name (origin_in z) named)) l) ∙ sym a ∙ t

module _ {B : Type 0} (key : B → TableSize) (passes : ℕ) (zones : List ZoneItems) (blanks : List B) where
  sizes_more : (b : B) (all : List B) → all ≡ blanks ++ b ∷ [] → map key all ≡ map key blanks ++ key b ∷ []
  sizes_more b all is = ap (map key) is ∙ map-append key blanks (b ∷ [])

  pub more_opening : (table : TableSize) (z : ZoneItems) (b : B) (zones' : List ZoneItems) (blanks' : List B) → IsOpening passes zones (map key blanks) table → length zones < 16 → (key b).passes ≡ passes → {origin : Name} → list_any (λ x. same_name (origin_in x) origin) zones ≡ false → z.origin ≡ origin → IsZone z.origin (entries_in z)
      → zones' ≡ zones ++ z ∷ [] → blanks' ≡ blanks ++ b ∷ [] → IsOpening passes zones' (map key blanks') table
  more_opening table z b zones' blanks' o room size none named is zs bs =
      subst (λ (l : List ZoneItems). IsOpening passes l (map key blanks') table) (sym zs)
      (subst (λ (l : List TableSize). IsOpening passes (zones ++ z ∷ []) l table) (sym (sizes_more b blanks' bs))
      (opening_more passes zones (map key blanks) table z (key b) o room size (ap (λ (n : Name). list_any (λ x. same_name (origin_in x) n) zones) named ∙ none) is))

  pub has_one_more : {names names' : List TableId} (zone : Zone) (chunks : ℕ) (z : ZoneItems) (b : B) (zones' : List ZoneItems) (blanks' : List B) → length (map key blanks) ≡ length zones → (view : OpeningView) → record { passes = passes; zones = served_of zones (map key blanks); tables = names } ≡ view
      → (key b).passes ≡ passes → (key b).chunks ≡ chunks → z.origin ≡ zone.origin → StandsAs (entries_in z) zone.pairs → zones' ≡ zones ++ z ∷ [] → blanks' ≡ blanks ++ b ∷ [] → HasOneMore view zone chunks (record { passes = passes; zones = served_of zones' (map key blanks'); tables = names' })
  has_one_more zone chunks z b zones' blanks' each view is size many named stands zs bs = record {
    passes = ap (λ (v : OpeningView). v.passes) is;
    served = served_at (record { zone = z; size = key b });
    zones = ap (λ (l : List ZoneItems). served_of l (map key blanks')) zs ∙ ap (served_of (zones ++ z ∷ [])) (sizes_more b blanks' bs) ∙ served_more zones (map key blanks) z (key b) each
        ∙ ap (λ (v : OpeningView). v.zones ++ served_at (record { zone = z; size = key b }) ∷ []) is;
    origin = named;
    size = ap (λ (n : ℕ). record { passes = n; chunks = (key b).chunks }) (size ∙ ap (λ (v : OpeningView). v.passes) is) ∙ ap (λ (n : ℕ). record { passes = view.passes; chunks = n }) many;
    opening = stands;
  }

-- as it is handed on
pub opening_as : (passes passes' : ℕ) (zones zones' : List ZoneItems) (sizes : List TableSize) (table : TableSize) → passes' ≡ passes → zones' ≡ zones → IsOpening passes zones sizes table → IsOpening passes' zones' sizes table
opening_as passes passes' zones zones' sizes table p z o = subst (λ (n : ℕ). IsOpening n zones' sizes table) (sym p) (subst (λ (l : List ZoneItems). IsOpening passes l sizes table) (sym z) o)

-- none so far
pub opening_first : (passes : ℕ) (table : TableSize) → table.chunks ≡ 512 → table.passes ≡ passes → 1 ≤ passes → passes ≤ 17 → IsOpening passes [] [] table
unfolding IsDistinct
opening_first passes table chunks are some few = record {
  table_chunks = chunks;
  table_passes = are;
  some_passes = some;
  few_passes = few;
  passes_are = λ k d lt. absurd (omega (arith, lt));
  few = omega arith;
  each = refl;
  different = tt;
  are_zones = λ k d lt. absurd (omega (arith, lt));
}

-- ---- they are opened

module _ (zones : List ZoneItems) (are : All (λ z. IsZone z.origin (entries_in z)) zones) where
  pub all_rise : All (λ z. Rises (entries_in z)) zones
  all_rise = λ k d lt. zone_rises (get_or zones k d).origin (entries_in (get_or zones k d)) (are k d lt)

  pub all_lawful : All (λ z. IsLawful (entries_in z) (entries_in z)) zones
  all_lawful = λ k d lt. zone_lawful (get_or zones k d).origin (entries_in (get_or zones k d)) (are k d lt)

-- the zone that is served at a number
pub served_from : (zones : List ZoneItems) (sizes : List TableSize) (k : ℕ) (s : Served) → slice_get (served_of zones sizes) k ≡ Some s → (z : ZoneItems) × (slice_get zones k ≡ Some z) × (s.origin ≡ z.origin) × (s.opening ≡ entries_in z)
served_from [] sizes k s there = absurd cc
served_from (z ∷ zones) [] k s there = absurd cc
served_from (z ∷ zones) (t ∷ sizes) zero s there = let e = some_is (served_at (record { zone = z; size = t })) s there in (z, refl, sym (ap (λ (x : Served). x.origin) e), sym (ap (λ (x : Served). x.opening) e))
served_from (z ∷ zones) (t ∷ sizes) (suc k) s there = served_from zones sizes k s there

pub origins_served : (zones : List ZoneItems) (sizes : List TableSize) → length sizes ≡ length zones → serving.origins_of (served_of zones sizes) ≡ origins_of zones
origins_served [] sizes many = refl
origins_served (z ∷ zones) [] many = absurd (omega arith)
origins_served (z ∷ zones) (t ∷ sizes) many = ap (λ (l : List Name). z.origin ∷ l) (origins_served zones sizes (omega arith))

pub sizes_served : (zones : List ZoneItems) (sizes : List TableSize) → length sizes ≡ length zones → map (λ (s : Served). s.size) (served_of zones sizes) ≡ sizes
sizes_served [] [] many = refl
sizes_served [] (t ∷ sizes) many = absurd (omega arith)
sizes_served (z ∷ zones) [] many = absurd (omega arith)
sizes_served (z ∷ zones) (t ∷ sizes) many = ap (λ (l : List TableSize). t ∷ l) (sizes_served zones sizes (omega arith))

module _ (served : List Served) (zones : List ZoneItems) (sizes : List TableSize) (is : served ≡ served_of zones sizes) (each : length sizes ≡ length zones) where
  from : (k : ℕ) (s : Served) → slice_get served k ≡ Some s → (z : ZoneItems) × (slice_get zones k ≡ Some z) × (s.origin ≡ z.origin) × (s.opening ≡ entries_in z)
  from k s there = served_from zones sizes k s (subst (λ (l : List Served). slice_get l k ≡ Some s) is there)

  pub is_served : {X Y : Type 0} {N : Ghosts Y} (opened : Zones X Y N) → All (λ z. IsZone z.origin (entries_in z)) zones → opened.origins.items ≡ origins_of zones → map (λ z. z.shared.table.shared.key) opened.zones.items ≡ sizes → IsServed served opened
  is_served opened are origins keys = record {
    origins = origins ∙ sym (ap serving.origins_of is ∙ origins_served zones sizes each);
    sizes = keys ∙ sym (ap (map (λ (s : Served). s.size)) is ∙ sizes_served zones sizes each);
    opened = λ k s there.
        let z = from k s there in
        subst (λ (o : Name). IsZone o s.opening) (sym z.2) (subst (IsZone z.0.origin) (sym z.3) (all_at (λ x. IsZone x.origin (entries_in x)) zones k z.0 are z.1));
  }

  pub are_serving : {Y : Type 0} {N : Ghosts Y} (count : ℕ) (passes : List (ZonesPass Y N)) → AreMade zones count passes → All (IsServing served) passes
  are_serving count passes made = λ k d lt. record {
    pass = subst (λ (os : List Name). IsPassOf os (get_or passes k d)) (sym (ap serving.origins_of is ∙ origins_served zones sizes each)) (made.passes k d lt);
    opened = λ zone s there.
        let z = from zone s there in
        ((made.new k d lt).each zone z.0 z.1).sees.opening ∙ sym z.3;
  }

-- Passes that are handed out, zone by zone.
use Rattle.std.proofs.Common.{◌≡◌, ◌∙◌, inl, inr, ℕ, zero, suc, ◌+◌, ◌<◌, ◌++◌, ◌∷◌, [], List, length, map, get_or, Option, Some, None, arith, refl, sym, ap, subst, length-append}
use Rattle.std.specs.Prelude.{IsSome, unwrap_or}
use Rattle.std.specs.List.{All, Contains, range_with_len, slice_get}
use Rattle.std.proofs.lemmas.List.{length-map}
use Rattle.std.proofs.lemmas.Option.{slice_get_within, slice_get-get_or}
use Rattle.zone_model.specs.Names.{Name}
use Rattle.trie_model.specs.Keys.{Entry}
use Rattle.shared_cells.specs.declared.view.TableSize.{TableSize}
use Rattle.zone_table.proofs.RefusalLaws.{places_count, place_zone}
use Rattle.qp_multi.specs.declared.meaning.Named.{Ghosts}
use Rattle.qp_multi.specs.declared.pass.Pass.{Pass}
use Rattle.qp_multi.specs.Closings.{AreAll}
use Rattle.qp_multi.specs.Openings.{SeesFirst}
use Rattle.qp_multi.specs.Passes.{Known, known_at, commits_in, pinned_in, first_version}
use Rattle.zone_table.specs.declared.opening.Opened.{Opened}
use Rattle.zone_table.specs.declared.opening.ZoneItems.{ZoneItems}
use Rattle.zone_table.specs.declared.pass.ZonesPass.{ZonesPass}
use Rattle.zone_table.specs.Handings.{HasOneMore, AreHandedOut, IsGrid, IsNew, IsNewPass, AreAllPasses, AreMade}
use Rattle.zone_table.specs.Openings.{Place, places_of, origins_of, entries_in, IsBegun, AreBegun}
use Rattle.zone_table.specs.Passes.{IsPassOf, table_known, zone_known}
use Rattle.zone_table.specs.Tables.{IsTable}
use Rattle.zone_table.proofs.Lists.{all_at, get_in, last_or_before, mapped_at, contains_at, place_in, some_is}
use Rattle.zone_table.proofs.RememberLaws.{nothing_remembered}
use Rattle.zone_table.proofs.WalkLaws.{Walk}

-- ---- lists by their places

module _ {A : Type 0} where
  pub all_by_place : (P : A → Type 0) (xs : List A) → ((k : ℕ) (x : A) → slice_get xs k ≡ Some x → P x) → All P xs
  all_by_place P xs h k d l = h k (get_or xs k d) (slice_get-get_or xs k d l)

  pub numbered : (f : A → ℕ) (xs : List A) (from n : ℕ) → length xs ≡ n → ((k : ℕ) (x : A) → slice_get xs k ≡ Some x → f x ≡ from + k) → map f xs ≡ range_with_len from n
  numbered f [] from zero e h = refl
  numbered f [] from (suc n) e h = absurd (omega arith)
  numbered f (x ∷ xs) from zero e h = absurd (omega arith)
  numbered f (x ∷ xs) from (suc n) e h =
      let rest = numbered f xs (from + 1) n (omega arith) (λ k y is. let l = h (suc k) y is in omega arith) in
      let here : f x ≡ from = let l = h 0 x refl in omega arith in
      ap (λ (m : ℕ). m ∷ map f xs) here ∙ ap (λ (ms : List ℕ). from ∷ ms) rest

  pub same_list : {C : Type 0} (f : A → C) (xs : List A) (cs : List C) → length xs ≡ length cs → ((k : ℕ) (x : A) (c : C) → slice_get xs k ≡ Some x → slice_get cs k ≡ Some c → f x ≡ c) → map f xs ≡ cs
  same_list f [] [] e h = refl
  same_list f [] (c ∷ cs) e h = absurd (omega arith)
  same_list f (x ∷ xs) [] e h = absurd (omega arith)
  same_list {C = C} f (x ∷ xs) (c ∷ cs) e h = ap (λ (l : List C). f x ∷ l) (same_list f xs cs (omega arith) (λ k y d iy id. h (suc k) y d iy id)) ∙ ap (λ (d : C). d ∷ cs) (h 0 x c refl refl)

-- ---- zone by zone

module _ {X : Type 0} {N : Ghosts X} where
  pub handed_out : (old new : List (ZonesPass X N)) (passes : List (Pass X N)) → Walk HasOneMore old new passes [] → AreHandedOut old new passes
  handed_out old new passes w = record { count = w.count; each = λ k p q z ip iq iz. w.done k p q z (omega arith) ip iq iz }

  pub one_zone : (tables : List (Pass X N)) (zones : List (List (Pass X N))) (old new : List (ZonesPass X N)) (passes : List (Pass X N)) → length passes ≡ length tables → IsGrid tables zones old → AreHandedOut old new passes → IsGrid tables (zones ++ passes ∷ []) new
  one_zone tables zones old new passes many g d = record {
    count = d.count ∙ g.count;
    table = λ k q iq. let p = before k q iq in let m = more k q iq in g.table k p.0 p.1 ∙ ap (λ (x : Pass X N). Some x) (sym m.table);
    remembered = λ k q iq. let p = before k q iq in let m = more k q iq in ap (λ r. r.version) m.remembered ∙ g.remembered k p.0 p.1;
    width = λ k q iq. let p = before k q iq in let m = more k q iq in
        ap length m.zones ∙ length-append p.0.zones.items ((taken k q iq).0 ∷ []) ∙ ap (λ (n : ℕ). n + 1) (g.width k p.0 p.1) ∙ sym (length-append zones (passes ∷ []));
    zone = λ k j q c z iq ic iz.
        let p = before k q iq in let m = more k q iq in
        let w = g.width k p.0 p.1 in
        elim (last_or_before zones passes c j ic) [
          | inl l ↦ elim (last_or_before p.0.zones.items ((taken k q iq).0) z j (ap (λ (xs : List (Pass X N)). slice_get xs j) (sym m.zones) ∙ iz)) [
            | inl n ↦ g.zone k j p.0 c z p.1 l.1 n.1
            | inr n ↦ absurd (let a = l.0 in let b = n.0 in omega arith)
          ]
          | inr l ↦ elim (last_or_before p.0.zones.items ((taken k q iq).0) z j (ap (λ (xs : List (Pass X N)). slice_get xs j) (sym m.zones) ∙ iz)) [
            | inl n ↦ absurd (let a = l.0 in let b = n.0 in omega arith)
            | inr n ↦ ap (λ (xs : List (Pass X N)). slice_get xs k) (sym l.1) ∙ own_is k q iq ∙ ap (λ (x : Pass X N). Some x) n.1
          ]
        ];
  }
    where
      before : (k : ℕ) (q : ZonesPass X N) → slice_get new k ≡ Some q → (p : ZonesPass X N) × (slice_get old k ≡ Some p)
      before k q iq = get_in old k (let l = slice_get_within new k q iq in let n = d.count in omega arith)

      taken : (k : ℕ) (q : ZonesPass X N) → slice_get new k ≡ Some q → (z : Pass X N) × (slice_get passes k ≡ Some z)
      taken k q iq = get_in passes k (let l = slice_get_within new k q iq in let n = d.count in let m = g.count in omega arith)

      own_is : (k : ℕ) (q : ZonesPass X N) (iq : slice_get new k ≡ Some q) → slice_get passes k ≡ Some (taken k q iq).0
      own_is k q iq = (taken k q iq).1

      more : (k : ℕ) (q : ZonesPass X N) (iq : slice_get new k ≡ Some q) → HasOneMore (before k q iq).0 q (taken k q iq).0
      more k q iq = d.each k (before k q iq).0 q (taken k q iq).0 (before k q iq).1 iq (taken k q iq).1

-- ---- all of them

module _ {X Y : Type 0} {N : Ghosts Y} (origins : List Name) (table : List Entry) (count : ℕ) (tables : List (Pass Y N)) (places : List Place) (opened : List (Opened X Y N)) (all : List (ZonesPass Y N))
    (is_table : IsTable origins table) (sees : All (λ p. (IsSome p.seat) × (p.place ≡ 0) × SeesFirst table (known_at p.seat)) tables)
    (unused : All (λ p. (commits_in (known_at p.seat).pass ≡ []) × (pinned_in (known_at p.seat).pass ≡ [])) tables)
    (many : length tables ≡ count) (every : AreAll count (map (λ p. known_at p.seat) tables)) (each : length places ≡ length origins) (begun : AreBegun places opened)
    (passes : (p : Place) → Contains places p → p.size.passes ≡ count) (grid : IsGrid tables (map (λ o. o.passes.items) opened) all) where
  columns : length (map (λ (o : Opened X Y N). o.passes.items) opened) ≡ length origins
  columns = length-map opened (λ (o : Opened X Y N). o.passes.items) ∙ begun.count ∙ each

  -- a zone's pass, and what was opened for it
  record Cell (k j : ℕ) (z : Pass Y N) : Type 0 where
    at : Place
    one : Opened X Y N
    at_is : slice_get places j ≡ Some at
    is : IsBegun (j + 1) at.size (entries_in at.zone) one
    here : slice_get one.passes.items k ≡ Some z

  cell : (k j : ℕ) (p : ZonesPass Y N) (z : Pass Y N) → slice_get all k ≡ Some p → slice_get p.zones.items j ≡ Some z → Cell k j z
  cell k j p z ip iz =
      let w = grid.width k p ip in
      let l = slice_get_within p.zones.items j z iz in
      let n = columns in
      let m = begun.count in
      let o = get_in opened j (omega arith) in
      let q = get_in places j (omega arith) in
      record {
        at = q.0;
        one = o.0;
        at_is = q.1;
        is = begun.each j q.0 o.0 q.1 o.1;
        here = grid.zone k j p o.0.passes.items z ip (mapped_at (λ (x : Opened X Y N). x.passes.items) opened j o.0 o.1) iz;
      }

  pub is_pass : (k : ℕ) (p : ZonesPass Y N) → slice_get all k ≡ Some p → IsPassOf origins p
  is_pass k p ip =
      let t = all_at (λ q. (IsSome q.seat) × (q.place ≡ 0) × SeesFirst table (known_at q.seat)) tables k p.table sees (grid.table k p ip) in
      record {
        table_here = t.0;
        table_place = t.1;
        opening = subst (IsTable origins) (sym t.2.opening) is_table;
        zones_here = all_by_place (λ z. IsSome z.seat) p.zones.items (λ j z iz.
            let c = cell k j p z ip iz in (all_at (λ q. (IsSome q.seat) × (q.place ≡ j + 1) × SeesFirst (entries_in c.at.zone) (known_at q.seat)) c.one.passes.items k z c.is.passes c.here).0);
        zone_places = numbered (λ z. z.place) p.zones.items 1 (length origins) (grid.width k p ip ∙ columns) (λ j z iz.
            let c = cell k j p z ip iz in let n = (all_at (λ q. (IsSome q.seat) × (q.place ≡ j + 1) × SeesFirst (entries_in c.at.zone) (known_at q.seat)) c.one.passes.items k z c.is.passes c.here).1 in omega arith);
        remembers = nothing_remembered origins (known_at p.table.seat).seen p.remembered.version p.remembered.attached (grid.remembered k p ip);
      }

  pub are_passes : All (IsPassOf origins) all
  are_passes = all_by_place (IsPassOf origins) all is_pass

  zone_is : (p : ZonesPass Y N) (j : ℕ) (z : Pass Y N) → slice_get p.zones.items j ≡ Some z → zone_known p j ≡ known_at z.seat
  zone_is p j z iz = ap (λ (o : Option Known). unwrap_or o (known_at None)) (mapped_at (λ (q : Pass Y N). known_at q.seat) p.zones.items j z iz)

  pub new_pass : (zones : List ZoneItems) → ((j : ℕ) (q : Place) (z : ZoneItems) → slice_get places j ≡ Some q → slice_get zones j ≡ Some z → q.zone ≡ z) → length zones ≡ length origins → All (IsNewPass zones) all
  new_pass zones alike same = all_by_place (IsNewPass zones) all (λ k p ip.
      let t = all_at (λ q. (IsSome q.seat) × (q.place ≡ 0) × SeesFirst table (known_at q.seat)) tables k p.table sees (grid.table k p ip) in
      let u = all_at (λ q. (commits_in (known_at q.seat).pass ≡ []) × (pinned_in (known_at q.seat).pass ≡ [])) tables k p.table unused (grid.table k p ip) in
      record { history = t.2.history; commits = u.0; pinned = u.1; each = λ j z iz. one k p ip j z iz })
    where
      one : (k : ℕ) (p : ZonesPass Y N) → slice_get all k ≡ Some p → (j : ℕ) (z : ZoneItems) → slice_get zones j ≡ Some z → IsNew z (zone_known p j)
      one k p ip j z iz =
          let l = slice_get_within zones j z iz in
          let w = grid.width k p ip in
          let n = columns in
          let q = get_in p.zones.items j (omega arith) in
          let c = cell k j p q.0 ip q.1 in
          let s = all_at (λ x. (IsSome x.seat) × (x.place ≡ j + 1) × SeesFirst (entries_in c.at.zone) (known_at x.seat)) c.one.passes.items k q.0 c.is.passes c.here in
          let u = all_at (λ x. (commits_in (known_at x.seat).pass ≡ []) × (pinned_in (known_at x.seat).pass ≡ [])) c.one.passes.items k q.0 c.is.unused c.here in
          subst (IsNew z) (sym (zone_is p j q.0 q.1))
          (record { sees = subst (λ (y : ZoneItems). SeesFirst (entries_in y) (known_at q.0.seat)) (alike j c.at z c.at_is iz) s.2; commits = u.0; pinned = u.1 })

  -- an element of one list is one of the other
  moved : (f : Pass Y N → Known) (g : ZonesPass Y N → Known) (xs : List (Pass Y N)) → length xs ≡ length all → ((k : ℕ) (x : Pass Y N) (p : ZonesPass Y N) → slice_get xs k ≡ Some x → slice_get all k ≡ Some p → g p ≡ f x)
      → AreAll count (map f xs) → AreAll count (map g all)
  moved f g xs size same a number below =
      let t = a number below in
      let at = place_in (map f xs) t.0 t.1 in
      let n = length-map xs f in
      let x = get_in xs at.0 (let l = at.1 in omega arith) in
      let p = get_in all at.0 (let l = at.1 in omega arith) in
      let is : f x.0 ≡ t.0 = some_one (f x.0) t.0 (sym (mapped_at f xs at.0 x.0 x.1) ∙ at.2) in
      (t.0, contains_at (map g all) at.0 t.0 (mapped_at g all at.0 p.0 p.1 ∙ ap (λ (v : Known). Some v) (same at.0 x.0 p.0 x.1 p.1 ∙ is)), t.2)
    where
      some_one : (v w : Known) → Some v ≡ Some w → v ≡ w
      some_one v w e = cc

  pub all_passes : AreAllPasses count (length origins) all
  all_passes = record {
    table = moved (λ p. known_at p.seat) (λ p. table_known p) tables (sym grid.count) (λ k x p ix ip. table_is k x p ix ip) every;
    each = λ j l. zone_all j l;
  }
    where
      table_is : (k : ℕ) (x : Pass Y N) (p : ZonesPass Y N) → slice_get tables k ≡ Some x → slice_get all k ≡ Some p → table_known p ≡ known_at x.seat
      table_is k x p ix ip = let e : Some p.table ≡ Some x = sym (grid.table k p ip) ∙ ix in let s : p.table ≡ x = cc in ap (λ (y : Pass Y N). known_at y.seat) s

      zone_all : (j : ℕ) → j < length origins → AreAll count (map (λ p. zone_known p j) all)
      zone_all j l =
          let n = columns in
          let m = begun.count in
          let o = get_in opened j (omega arith) in
          let q = get_in places j (omega arith) in
          let b = begun.each j q.0 o.0 q.1 o.1 in
          let c = mapped_at (λ (x : Opened X Y N). x.passes.items) opened j o.0 o.1 in
          let size : q.0.size.passes ≡ count = passes q.0 (contains_at places j q.0 q.1) in
          moved (λ p. known_at p.seat) (λ p. zone_known p j) o.0.passes.items (b.count ∙ size ∙ sym many ∙ sym grid.count)
          (λ k x p ix ip.
          let w = grid.width k p ip in
          let z = get_in p.zones.items j (omega arith) in
          let e : Some x ≡ Some z.0 = sym ix ∙ grid.zone k j p o.0.passes.items z.0 ip c z.1 in
          let s : x ≡ z.0 = cc in zone_is p j z.0 z.1 ∙ ap (λ (y : Pass Y N). known_at y.seat) (sym s))
          (subst (λ (i : ℕ). AreAll i (map (λ p. known_at p.seat) o.0.passes.items)) size b.all)

-- ---- of zones and the sizes of their tables

place_size : (zones : List ZoneItems) (sizes : List TableSize) (k : ℕ) (p : Place) → slice_get (places_of zones sizes) k ≡ Some p → slice_get sizes k ≡ Some p.size
place_size [] sizes k p is = absurd cc
place_size (z ∷ zones) [] k p is = absurd cc
place_size (z ∷ zones) (s ∷ sizes) zero p is = let e : record { zone = z; size = s } ≡ p = some_is (record { zone = z; size = s }) p is in ap (λ (x : Place). Some x.size) e
place_size (z ∷ zones) (s ∷ sizes) (suc k) p is = place_size zones sizes k p is

module _ {X Y : Type 0} {N : Ghosts Y} (zones : List ZoneItems) (sizes : List TableSize) (count : ℕ) (opened : List (Opened X Y N)) (same : length sizes ≡ length zones) (each : All (λ (s : TableSize). s.passes ≡ count) sizes) (begun : AreBegun (places_of zones sizes) opened) where
  pub places_many : length (places_of zones sizes) ≡ length zones
  places_many = places_count zones sizes (omega arith) ∙ same

  passes_are : (p : Place) → Contains (places_of zones sizes) p → p.size.passes ≡ count
  passes_are p c = let at = place_in (places_of zones sizes) p c in all_at (λ (s : TableSize). s.passes ≡ count) sizes at.0 p.size each (place_size zones sizes at.0 p at.2)

  -- what was opened for a zone
  pub begun_at : (k : ℕ) (o : Opened X Y N) → slice_get opened k ≡ Some o → (p : Place) × (slice_get (places_of zones sizes) k ≡ Some p) × IsBegun (k + 1) p.size (entries_in p.zone) o
  begun_at k o io =
      let l = slice_get_within opened k o io in
      let n = begun.count in
      let p = get_in (places_of zones sizes) k (omega arith) in
      (p.0, p.1, begun.each k p.0 o p.1 io)

  pub same_counts : (n : ℕ) → n ≡ count → All (λ o. length o.passes.items ≡ n) opened
  same_counts n is = all_by_place (λ o. length o.passes.items ≡ n) opened (λ k o io. let b = begun_at k o io in b.2.count ∙ passes_are b.0 (contains_at (places_of zones sizes) k b.0 b.1) ∙ sym is)

  pub numbered_indexes : (n : ℕ) → length (map (λ o. o.index) opened) ≡ n → map (λ z. z.place) (map (λ o. o.index) opened) ≡ range_with_len 1 n
  numbered_indexes n size = numbered (λ z. z.place) (map (λ o. o.index) opened) 1 n size (λ k x ix.
      let o = get_in opened k (let l = slice_get_within (map (λ o. o.index) opened) k x ix in let m = length-map opened (λ o. o.index) in omega arith) in
      let e : Some o.0.index ≡ Some x = sym (mapped_at (λ o. o.index) opened k o.0 o.1) ∙ ix in
      let s : o.0.index ≡ x = cc in
      let b = begun_at k o.0 o.1 in
      sym (ap (λ z. z.place) s) ∙ b.2.place ∙ (let c : k + 1 ≡ 1 + k = omega arith in c))

  pub indexes_many : length (map (λ o. o.index) opened) ≡ length zones
  indexes_many = length-map opened (λ o. o.index) ∙ begun.count ∙ places_many

  pub same_sizes : map (λ z. z.shared.table.shared.key) (map (λ o. o.index) opened) ≡ sizes
  same_sizes = same_list (λ z. z.shared.table.shared.key) (map (λ o. o.index) opened) sizes (indexes_many ∙ sym same) (λ k x c ix ic.
      let o = get_in opened k (let l = slice_get_within (map (λ o. o.index) opened) k x ix in let m = length-map opened (λ o. o.index) in omega arith) in
      let e : Some o.0.index ≡ Some x = sym (mapped_at (λ o. o.index) opened k o.0 o.1) ∙ ix in
      let s : o.0.index ≡ x = cc in
      let b = begun_at k o.0 o.1 in
      sym (ap (λ z. z.shared.table.shared.key) s) ∙ b.2.size_is ∙ some_is b.0.size c (sym (place_size zones sizes k b.0 b.1) ∙ ic))

  pub made_of : {T : Type 0} (key : TableSize) (es : List Entry) (t : Opened T Y N) (all : List (ZonesPass Y N)) → key.passes ≡ count → IsTable (origins_of zones) es → IsBegun 0 key es t → IsGrid t.passes.items (map (λ o. o.passes.items) opened) all → AreMade zones count all
  made_of key es t all is table b grid =
      let origins = length-map zones (λ (z : ZoneItems). z.origin) in
      let each_place : length (places_of zones sizes) ≡ length (origins_of zones) = places_many ∙ sym origins in
      let every = subst (λ (i : ℕ). AreAll i (map (λ p. known_at p.seat) t.passes.items)) is b.all in
      record {
        passes = are_passes (origins_of zones) es count t.passes.items (places_of zones sizes) opened all table b.passes b.unused (b.count ∙ is) every each_place begun passes_are grid;
        new = new_pass (origins_of zones) es count t.passes.items (places_of zones sizes) opened all table b.passes b.unused (b.count ∙ is) every each_place begun passes_are grid zones
            (λ j q z iq iz. some_is q.zone z (sym (place_zone zones sizes j q iq) ∙ iz)) (sym origins);
        count_is = grid.count ∙ b.count ∙ is;
        opening = es;
        table = table;
        opened = all_by_place (λ p. first_version (table_known p).seen ≡ es) all (λ k p ip. let x = all_at (λ (q : Pass Y N). (IsSome q.seat) × (q.place ≡ 0) × SeesFirst es (known_at q.seat)) t.passes.items k p.table b.passes (grid.table k p ip) in x.2.opening);
        every = subst (λ (n : ℕ). AreAllPasses count n all) origins
            (all_passes (origins_of zones) es count t.passes.items (places_of zones sizes) opened all table b.passes b.unused (b.count ∙ is) every each_place begun passes_are grid);
      }

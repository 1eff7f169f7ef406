-- How the zones end, each with its passes.
use Rattle.std.proofs.Common.{◌≡◌, ◌∙◌, inl, inr, ℕ, ◌+◌, ◌<◌, ◌++◌, ◌∷◌, [], List, length, map, set, Vec, Global, Some, None, arith, refl, sym, ap, subst, length-append, get_or-set_same, get_or-set_other}
use Rattle.std.specs.Prelude.{IsSome, unwrap_or, slice_index}
use Rattle.std.specs.List.{All, range_with_len, slice_get}
use Rattle.std.proofs.lemmas.List.{length-map}
use Rattle.std.proofs.lemmas.Option.{slice_get_within}
use Rattle.zone_model.specs.Names.{Name}
use Rattle.qp_multi.specs.declared.index.Index.{Index}
use Rattle.qp_multi.specs.declared.meaning.Named.{Ghosts}
use Rattle.qp_multi.specs.declared.pass.Pass.{Pass}
use Rattle.qp_multi.specs.Passes.{Known, known_at}
use Rattle.zone_table.specs.declared.pass.ZonesPass.{ZonesPass}
use Rattle.zone_table.specs.Endings.{AreAdded, AreSplit, AreEnded, Belong, EachEnds, IsEnd}
use Rattle.zone_table.specs.Passes.{IsPassOf, table_known, zone_known}
use Rattle.zone_table.proofs.Lists.{all_at, at_seam, get_front, get_in, last_or_before, mapped_at, numbered_at, some_is}
use Rattle.zone_table.proofs.HandingLaws.{all_by_place, same_list}
use Rattle.zone_table.proofs.PassLaws.{wide}

-- ---- the passes of each zone

module _ {X : Type 0} {N : Ghosts X} where
  -- a list with one pass more
  abbrev pub MorePass : Vec (Pass X N) Global → Vec (Pass X N) Global → Pass X N → Type 0
  MorePass x y z = y.items ≡ x.items ++ z ∷ []

  pub one_more_pass : (count : ℕ) (passes : List (ZonesPass X N)) (last : ZonesPass X N) (old new : List (Vec (Pass X N) Global)) → length last.zones.items ≡ count → AreSplit count passes old → AreAdded old new last.zones.items → AreSplit count (passes ++ last ∷ []) new
  one_more_pass count passes last old new wide s d = record {
    count_is = d.count ∙ s.count_is;
    many = λ j l il. let x = before j l il in
        ap length (more j l il) ∙ length-append x.0.items ((taken j l il).0 ∷ []) ∙ ap (λ (n : ℕ). n + 1) (s.many j x.0 x.1) ∙ sym (length-append passes (last ∷ []));
    each = λ j k l p z il ip iz.
        let x = before j l il in
        let t = taken j l il in
        ap (λ (xs : List (Pass X N)). slice_get xs k) (more j l il) ∙ elim (last_or_before passes last p k ip) [
          | inl a ↦ get_front x.0.items (t.0 ∷ []) k z (s.each j k x.0 p z x.1 a.1 iz)
          | inr a ↦ ap (slice_get (x.0.items ++ t.0 ∷ [])) (a.0 ∙ sym (s.many j x.0 x.1)) ∙ at_seam x.0.items t.0 []
              ∙ sym t.1 ∙ ap (λ (q : ZonesPass X N). slice_get q.zones.items j) a.1 ∙ iz
        ];
  }
    where
      before : (j : ℕ) (l : Vec (Pass X N) Global) → slice_get new j ≡ Some l → (x : Vec (Pass X N) Global) × (slice_get old j ≡ Some x)
      before j l il = get_in old j (let w = slice_get_within new j l il in let n = d.count in omega arith)

      taken : (j : ℕ) (l : Vec (Pass X N) Global) → slice_get new j ≡ Some l → (z : Pass X N) × (slice_get last.zones.items j ≡ Some z)
      taken j l il = get_in last.zones.items j (let w = slice_get_within new j l il in let n = d.count in let m = s.count_is in omega arith)

      more : (j : ℕ) (l : Vec (Pass X N) Global) (il : slice_get new j ≡ Some l) → l.items ≡ (before j l il).0.items ++ (taken j l il).0 ∷ []
      more j l il = d.each j (before j l il).0 l (taken j l il).0 (before j l il).1 il (taken j l il).1

-- ---- what is known of them

module _ {X : Type 0} {N : Ghosts X} (origins : List Name) where
  module _ (count : ℕ) (passes : List (ZonesPass X N)) (lists : List (Vec (Pass X N) Global)) (each : length origins ≡ count) (are : All (IsPassOf origins) passes) (split : AreSplit count passes lists) where
    -- where a pass in a list is from
    record From (j k : ℕ) (x : Pass X N) : Type 0 where
      pass : ZonesPass X N
      here : slice_get passes k ≡ Some pass
      at : slice_get pass.zones.items j ≡ Some x

    from : (j k : ℕ) (l : Vec (Pass X N) Global) (x : Pass X N) → slice_get lists j ≡ Some l → slice_get l.items k ≡ Some x → From j k x
    from j k l x il ix =
        let n = split.many j l il in
        let c = split.count_is in
        let inside = slice_get_within l.items k x ix in
        let zone = slice_get_within lists j l il in
        let p = get_in passes k (omega arith) in
        let w = wide origins p.0 (all_at (IsPassOf origins) passes k p.0 are p.1) in
        let z = get_in p.0.zones.items j (omega arith) in
        let same : z.0 ≡ x = some_is z.0 x (sym (split.each j k l p.0 z.0 il p.1 z.1) ∙ ix) in
        record { pass = p.0; here = p.1; at = z.1 ∙ ap (λ (y : Pass X N). Some y) same }

    pub known_list : (j : ℕ) (l : Vec (Pass X N) Global) → slice_get lists j ≡ Some l → map (λ p. known_at p.seat) l.items ≡ map (λ p. zone_known p j) passes
    known_list j l il = same_list (λ p. known_at p.seat) l.items (map (λ p. zone_known p j) passes) (split.many j l il ∙ sym (length-map passes (λ p. zone_known p j)))
        (λ k x v ix iv.
        let f = from j k l x il ix in
        let known : zone_known f.pass j ≡ known_at x.seat = ap (λ o. unwrap_or o (known_at None)) (mapped_at (λ (q : Pass X N). known_at q.seat) f.pass.zones.items j x f.at) in
        sym known ∙ some_is (zone_known f.pass j) v (sym (mapped_at (λ p. zone_known p j) passes k f.pass f.here) ∙ iv))

    pub belong : {T : Type 0} (zones : List (Index T X N)) → length zones ≡ count → map (λ z. z.place) zones ≡ range_with_len 1 (length zones) → Belong zones lists
    belong zones many places = λ j z l iz il. all_by_place (λ p. (IsSome p.seat) × (p.place ≡ z.place)) l.items (λ k x ix.
        let f = from j k l x il ix in
        let is = all_at (IsPassOf origins) passes k f.pass are f.here in
        let inside = slice_get_within zones j z iz in
        let here : x.place ≡ j + 1 = numbered_at (λ p. p.place) f.pass.zones.items (length origins) j x is.zone_places (omega arith) f.at in
        let there : z.place ≡ j + 1 = numbered_at (λ p. p.place) zones (length zones) j z places inside iz in
        (all_at (λ p. IsSome p.seat) f.pass.zones.items j x is.zones_here f.at, here ∙ sym there))

    pub zones_end : {T : Type 0} (zones : List (Index T X N)) (numbers : List ℕ) → length zones ≡ count → AreEnded zones lists numbers → EachEnds zones passes numbers
    zones_end zones numbers many ended = λ j z iz.
        let inside = slice_get_within zones j z iz in
        let c = split.count_is in
        let l = get_in lists j (omega arith) in
        subst (λ vs. IsEnd z.shared.table.shared.key.passes vs (slice_index numbers (j + 1))) (known_list j l.0 l.1) (ended j z l.0 iz l.1)

-- ---- one zone after another

module _ {T X : Type 0} {N : Ghosts X} where
  fewer_belong : (zones : List (Index T X N)) (zone : Index T X N) (lists : List (Vec (Pass X N) Global)) (l : Vec (Pass X N) Global) → Belong (zones ++ zone ∷ []) (lists ++ l ∷ []) → Belong zones lists
  fewer_belong zones zone lists l b = λ k z m iz im. b k z m (get_front zones (zone ∷ []) k z iz) (get_front lists (l ∷ []) k m im)

  last_belongs : (zones : List (Index T X N)) (zone : Index T X N) (lists : List (Vec (Pass X N) Global)) (l : Vec (Pass X N) Global) → length lists ≡ length zones → Belong (zones ++ zone ∷ []) (lists ++ l ∷ []) → All (λ p. (IsSome p.seat) × (p.place ≡ zone.place)) l.items
  last_belongs zones zone lists l same b = b (length zones) zone l (at_seam zones zone []) (ap (slice_get (lists ++ l ∷ [])) (sym same) ∙ at_seam lists l [])

  -- A zone was taken off the end, and a list.
  pub record Parted (zones front : List (Index T X N)) (zone : Index T X N) (others : List (Vec (Pass X N) Global)) (l : Vec (Pass X N) Global) : Type 0 where
    pub fewer : length front < length zones
    pub same : length others ≡ length front
    pub others_belong : Belong front others
    pub belongs : All (λ p. (IsSome p.seat) × (p.place ≡ zone.place)) l.items

  pub parted : (zones front : List (Index T X N)) (zone : Index T X N) (lists others : List (Vec (Pass X N) Global)) (l : Vec (Pass X N) Global) → zones ≡ front ++ zone ∷ [] → lists ≡ others ++ l ∷ [] → length lists ≡ length zones → Belong zones lists → Parted zones front zone others l
  parted zones front zone lists others l zones_are lists_are count here =
      let more_zones = ap length zones_are ∙ length-append front (zone ∷ []) in
      let more_lists = ap length lists_are ∙ length-append others (l ∷ []) in
      let same : length others ≡ length front = omega arith in
      let b = subst (λ (zs : List (Index T X N)). Belong zs (others ++ l ∷ [])) zones_are (subst (Belong zones) lists_are here) in
      record { fewer = omega arith; same = same; others_belong = fewer_belong front zone others l b; belongs = last_belongs front zone others l same b }

  pub one_more_end : (zones : List (Index T X N)) (zone : Index T X N) (lists : List (Vec (Pass X N) Global)) (l : Vec (Pass X N) Global) (numbers : List ℕ) (number : ℕ) → length lists ≡ length zones → length zones + 1 < length numbers
      → AreEnded zones lists numbers → IsEnd zone.shared.table.shared.key.passes (map (λ p. known_at p.seat) l.items) number → AreEnded (zones ++ zone ∷ []) (lists ++ l ∷ []) (set numbers (length zones + 1) number)
  one_more_end zones zone lists l numbers number same room ended e = λ k z m iz im. elim (last_or_before zones zone z k iz) [
    | inl a ↦ elim (last_or_before lists l m k im) [
      | inl b ↦ subst (IsEnd z.shared.table.shared.key.passes (map (λ p. known_at p.seat) m.items)) (sym (get_or-set_other numbers (length zones + 1) (k + 1) number 0 (λ i. absurd (let n = a.0 in omega arith)))) (ended k z m a.1 b.1)
      | inr b ↦ absurd (let n = a.0 in let o = b.0 in omega arith)
    ]
    | inr a ↦ elim (last_or_before lists l m k im) [
      | inl b ↦ absurd (let n = a.0 in let o = b.0 in omega arith)
      | inr b ↦
          let number_is : number ≡ slice_index (set numbers (length zones + 1) number) (k + 1) =
          sym (get_or-set_same numbers (length zones + 1) number 0 room) ∙ ap (slice_index (set numbers (length zones + 1) number)) (sym (ap (λ (n : ℕ). n + 1) a.0)) in
          subst (λ (y : Index T X N). IsEnd y.shared.table.shared.key.passes (map (λ p. known_at p.seat) m.items) (slice_index (set numbers (length zones + 1) number) (k + 1))) a.1
          (subst (λ (y : Vec (Pass X N) Global). IsEnd zone.shared.table.shared.key.passes (map (λ p. known_at p.seat) y.items) (slice_index (set numbers (length zones + 1) number) (k + 1))) b.1
          (subst (IsEnd zone.shared.table.shared.key.passes (map (λ p. known_at p.seat) l.items)) number_is e))
    ]
  ]

-- ---- the table's passes

module _ {X : Type 0} {N : Ghosts X} where
  pub tables_known : (passes : List (ZonesPass X N)) → map (λ (z : Pass X N). known_at z.seat) (map (λ (p : ZonesPass X N). p.table) passes) ≡ map (λ (p : ZonesPass X N). table_known p) passes
  tables_known [] = refl
  tables_known (p ∷ passes) = ap (λ (vs : List Known). known_at p.table.seat ∷ vs) (tables_known passes)

  pub tables_here : (origins : List Name) (passes : List (ZonesPass X N)) (place : ℕ) → place ≡ 0 → All (IsPassOf origins) passes → All (λ (z : Pass X N). (IsSome z.seat) × (z.place ≡ place)) (map (λ (p : ZonesPass X N). p.table) passes)
  tables_here origins passes place first are = all_by_place (λ (z : Pass X N). (IsSome z.seat) × (z.place ≡ place)) (map (λ (p : ZonesPass X N). p.table) passes) (λ k x ix.
      let n = length-map passes (λ (p : ZonesPass X N). p.table) in
      let inside = slice_get_within (map (λ (p : ZonesPass X N). p.table) passes) k x ix in
      let p = get_in passes k (omega arith) in
      let is = all_at (IsPassOf origins) passes k p.0 are p.1 in
      let same : p.0.table ≡ x = some_is p.0.table x (sym (mapped_at (λ (q : ZonesPass X N). q.table) passes k p.0 p.1) ∙ ix) in
      subst (λ (z : Pass X N). (IsSome z.seat) × (z.place ≡ place)) same (is.table_here, is.table_place ∙ sym first))

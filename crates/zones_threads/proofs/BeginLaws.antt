-- Passes of zones that were opened have done nothing.
use Rattle.std.proofs.Common.{◌≡◌, ◌∙◌, ℕ, suc, ◌<◌, List, [], ◌∷◌, length, map, get_or, Some, sym, ap, subst, arith}
use Rattle.std.specs.List.{All, slice_get}
use Rattle.std.proofs.lemmas.List.{length-map}
use Rattle.std.proofs.lemmas.Option.{slice_get_within}
use Rattle.zone_model.specs.MasterFile.{Zone}
use Rattle.zone_model.specs.Names.{Name}
use Rattle.trie_model.specs.Keys.{Rises}
use Rattle.shared_cells.specs.declared.view.TableSize.{TableSize}
use Rattle.qp_multi.specs.declared.meaning.Named.{Ghosts}
use Rattle.qp_multi.specs.Closings.{AreAll}
use Rattle.qp_multi.specs.Passes.{first_version}
use Rattle.job_commands.specs.Histories.{BeginsAt, IsLawful, IsZone}
use Rattle.job_commands.specs.Works.{AreNew}
use Rattle.job_commands.proofs.OpenLaws.{new_view}
use Rattle.job_commands.proofs.ZoneLaws.{zone_rises, zone_begins, zone_lawful}
use Rattle.job_commands.proofs.ShowLaws.{seat_pass}
use Rattle.zone_table.specs.declared.opening.ZoneItems.{ZoneItems}
use Rattle.zone_table.specs.declared.pass.ZonesPass.{ZonesPass}
use Rattle.zone_table.specs.declared.zones.Zones.{Zones}
use Rattle.zone_table.specs.Handings.{AreMade, IsNewPass}
use Rattle.zone_table.specs.Openings.{entries_in, origins_of}
use Rattle.zone_table.specs.Passes.{IsPassOf, table_known, zone_known}
use Rattle.zone_table.proofs.Lists.{get_in, all_at, mapped_at, some_is}
use Rattle.zones_threads.specs.Closings.{table_views, zone_views}
use Rattle.zones_threads.specs.Openings.{StandFor}
use Rattle.zones_threads.specs.Runs.{TableBegins, ZoneBegins}
use Rattle.zones_threads.specs.Sites.{IsSite, Opens, Site}
use Rattle.zones_threads.proofs.StepLaws.{zone_pass}

module _ (items : List ZoneItems) (are : All (λ z. IsZone z.origin (entries_in z)) items) where
  pub all_rise : All (λ z. Rises (entries_in z)) items
  all_rise = λ k d lt. zone_rises (get_or items k d).origin (entries_in (get_or items k d)) (are k d lt)

  pub all_lawful : All (λ z. IsLawful (entries_in z) (entries_in z)) items
  all_lawful = λ k d lt. zone_lawful (get_or items k d).origin (entries_in (get_or items k d)) (are k d lt)

  module _ {T Y : Type 0} {N : Ghosts Y} (opened : Zones T Y N) (count : ℕ) (passes : List (ZonesPass Y N)) (origins : opened.origins.items ≡ origins_of items) (made : AreMade items count passes) where
    -- the items of a zone
    items_of : (number : ℕ) (origin : Name) → slice_get opened.origins.items number ≡ Some origin → (z : ZoneItems) × (slice_get items number ≡ Some z) × (z.origin ≡ origin)
    items_of number origin there =
        let here = subst (λ (o : List Name). slice_get o number ≡ Some origin) origins there in
        let lt = slice_get_within (origins_of items) number origin here in
        let z = get_in items number (let m = length-map items (λ (x : ZoneItems). x.origin) in omega (arith, m, lt)) in
        (z.0, z.1, some_is z.0.origin origin (sym (mapped_at (λ (x : ZoneItems). x.origin) items number z.0 z.1) ∙ here))

    pub pass_of_all : All (IsPassOf opened.origins.items) passes
    pass_of_all = subst (λ (o : List Name). All (IsPassOf o) passes) (sym origins) made.passes

    pub all_open : All (Opens opened) passes
    all_open = λ k d lt site is.
        let z = items_of site.number site.origin is.origin in
        let new = made.new k d lt in
        let n = new.each site.number z.0 z.1 in
        subst (BeginsAt site.origin) (sym n.sees.opening) (subst (λ (o : Name). BeginsAt o (entries_in z.0)) z.2 (zone_begins z.0.origin (entries_in z.0) (all_at (λ x. IsZone x.origin (entries_in x)) items site.number z.0 are z.1)))

    -- ---- the table

    table_new : (ps : List (ZonesPass Y N)) → All (IsPassOf (origins_of items)) ps → All (IsNewPass items) ps → All (λ p. first_version (table_known p).seen ≡ made.opening) ps → AreNew made.opening (table_views ps)
    table_new [] a b c = tt
    table_new (p ∷ ps) a b c =
        let is = a 0 p (omega arith) in
        let new = b 0 p (omega arith) in (
          new_view made.opening (table_known p) (seat_pass p.table.seat is.table_here) new.commits new.pinned (c 0 p (omega arith)) new.history,
          table_new ps (λ k d lt. a (suc k) d (omega arith)) (λ k d lt. b (suc k) d (omega arith)) (λ k d lt. c (suc k) d (omega arith)),
        )

    pub table_begins : TableBegins opened.origins.items (length passes) (table_views passes)
    table_begins = subst (λ (o : List Name). TableBegins o (length passes) (table_views passes)) (sym origins) (record {
      opening = made.opening;
      table = made.table;
      new = table_new passes made.passes made.new made.opened;
      all = subst (λ (n : ℕ). AreAll n (table_views passes)) (sym made.count_is) made.every.table;
    })

    -- ---- a zone

    zone_new : (number : ℕ) (z : ZoneItems) → slice_get items number ≡ Some z → (ps : List (ZonesPass Y N)) → All (IsPassOf (origins_of items)) ps → All (IsNewPass items) ps → AreNew (entries_in z) (zone_views number ps)
    zone_new number z there [] a b = tt
    zone_new number z there (p ∷ ps) a b =
        let new = (b 0 p (omega arith)) in
        let n = new.each number z there in
        let lt : number < length (origins_of items) = (let l = slice_get_within items number z there in let m = length-map items (λ (x : ZoneItems). x.origin) in omega (arith, l, m)) in (
          new_view (entries_in z) (zone_known p number) (zone_pass (origins_of items) p (a 0 p (omega arith)) number lt) n.commits n.pinned n.sees.opening n.sees.history,
          zone_new number z there ps (λ k d lt. a (suc k) d (omega arith)) (λ k d lt. b (suc k) d (omega arith)),
        )

    pub zone_begins_there : (chunks : ℕ) (sizes : List TableSize) → map (λ x. x.shared.table.shared.key) opened.zones.items ≡ sizes → All (λ (s : TableSize). s.passes ≡ count) sizes → All (λ (s : TableSize). s.chunks ≡ chunks) sizes → (list : List Zone) → StandFor items list
        → (site : Site) (zone : Zone) → IsSite opened site → slice_get list site.number ≡ Some zone → ZoneBegins chunks (length passes) site zone (zone_views site.number passes)
    zone_begins_there chunks sizes are_sizes all_passes all_chunks list stand site zone is there =
        let n = site.number in
        let z = items_of n site.origin is.origin in
        let size : slice_get sizes n ≡ Some site.size = subst (λ (l : List TableSize). slice_get l n ≡ Some site.size) are_sizes (mapped_at (λ x. x.shared.table.shared.key) opened.zones.items n is.index is.there ∙ ap Some (sym is.size)) in
        let named : z.0.origin ≡ zone.origin = some_is z.0.origin zone.origin
        (sym (mapped_at (λ (x : ZoneItems). x.origin) items n z.0 z.1) ∙ ap (λ (l : List Name). slice_get l n) (sym stand.origins) ∙ mapped_at (λ (x : Zone). x.origin) list n zone there) in
        let lt = slice_get_within items n z.0 z.1 in
        record {
          origin = sym z.2 ∙ named;
          opening = entries_in z.0;
          stands = stand.each n z.0 zone z.1 there;
          new = zone_new n z.0 z.1 passes made.passes made.new;
          all = subst (λ (m : ℕ). AreAll m (zone_views n passes)) (sym made.count_is) (made.every.each n lt);
          passes = all_at (λ (s : TableSize). s.passes ≡ count) sizes n site.size all_passes size ∙ sym made.count_is;
          chunks_are = all_at (λ (s : TableSize). s.chunks ≡ chunks) sizes n site.size all_chunks size;
        }

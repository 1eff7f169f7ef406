use Rattle.std.proofs.Common.{◌≡◌, ◌∙◌, ◌+◌, ◌<◌, ℕ, List, ◌++◌, ◌∷◌, [], None, length, map, sym, ap, subst}
use Rattle.std.specs.Prelude.{unwrap_or, slice_index}
use Rattle.std.specs.List.{slice_get}
use Rattle.std.proofs.lemmas.Option.{slice_get_within}
use Rattle.qp_multi.specs.Closings.{AreAll, Ends}
use Rattle.qp_multi.specs.Passes.{Known, Pinned, known_at, version_seen}
use Rattle.job_commands.proofs.EndLaws.{all_handed, with_main}
use Rattle.zone_table.specs.Passes.{IsPassOf, table_known, zone_known}
use Rattle.zone_table.specs.Tables.{IsAmong}
use Rattle.zone_table.proofs.KnownLaws.{seat_told}
use Rattle.zones_threads.specs.Closings.{table_views, zone_views}
use Rattle.zones_threads.specs.Endings.{TableEnd, ZoneEnd}
use Rattle.zones_threads.specs.Visits.{Counted}
use Rattle.zones_threads.proofs.EndLaws.{table_ends, zone_ends}
use Rattle.zone_table.proofs.PassLaws.{zone_told}
use Rattle.zones_threads.proofs.ending.close_zones.Goals as goal

pub close-requires : goal.close-requires
close-requires g c = all_handed c.push.new.self.items c.args.passes.items c.all_names.new.pass (IsPassOf c.args.zones.origins.items) c.in_ok-push.ensures.items c.requires.passes c.in_ok-names.ensures.pass

pub returns-clause-table : goal.returns-clause-table
returns-clause-table g c = λ b before dones same apart table gathers counted all.
    let first = table_known c.args.main in
    let visited = c.attached-attached.ensures.version in
    let number = c.attached-attached.result.version in
    let main = c.all_names.new.pass in
    let size = c.args.zones.table.shared.table.shared.key.passes in
    let views = with_main (λ p. table_known p) c.args.passes.items c.push.new.self.items main c.in_ok-push.ensures.items in
    let kept = c.in_ok-names.ensures.table in
    let ended = c.in_ok-numbers.ensures.table in
    let version = slice_index c.in_ok-numbers.numbers 0 in
    let e = table_ends b before dones (table_views c.args.passes.items) first (table_known main) number size version ended.0 gathers (seat_told c.args.main.table.seat c.requires.main.table_here)
    (subst (λ (v : Known). Pinned IsAmong first v number) (sym kept) visited) apart table counted all (subst (λ (vs : List Known). Ends size vs version ended.0) views ended.1) in
    subst (λ (n : ℕ). TableEnd b.origins dones version n) (sym (c.attached-attached.ensures.zones ∙ ap (λ (v : Known). length (version_seen v.seen)) (sym kept))) e

pub returns-clause-zones : goal.returns-clause-zones
returns-clause-zones g c = λ site version names is at counted_at s zone before ws ds are gathers origin opens counted all.
    let n = site.number in
    let origins = c.args.zones.origins.items in
    let lt : n < length origins = slice_get_within origins n site.origin is.origin in
    let main = c.all_names.new.pass in
    let first : zone_known c.attached-attached.new.self n ≡ zone_known c.args.main n = ap (λ zs. unwrap_or (slice_get (map (λ z. known_at z.seat) zs.items) n) (known_at None)) c.attached-attached.ensures.others in
    let visit = subst (λ (v : Known). Counted v (zone_known main n) names) first (c.in_ok-names.ensures.counted n names counted_at) in
    let views = with_main (λ p. zone_known p n) c.args.passes.items c.push.new.self.items main c.in_ok-push.ensures.items in
    let count = is.index.shared.table.shared.key.passes in
    let ended = c.in_ok-numbers.ensures.zones n is.index is.there in
    let same : version ≡ slice_index c.in_ok-numbers.numbers (n + 1) = c.in_ok-versions.ensures.each n version at in
    subst (λ (m : ℕ). ZoneEnd s.chunks s.passes zone n version m ws ds) visit.2
    (zone_ends s zone n before ws ds (zone_views n c.args.passes.items) (zone_known c.args.main n) (zone_known main n) visit.0 count version ended.0 are gathers
    (zone_told origins c.args.main c.requires.main n lt) visit.1 origin opens (counted ∙ ap (λ z. z.passes) is.size) (subst (λ z. AreAll z.passes before) is.size all)
    (subst (λ (m : ℕ). Ends count (zone_views n c.args.passes.items ++ zone_known main n ∷ []) m ended.0) (sym same)
    (subst (λ (vs : List Known). Ends count vs (slice_index c.in_ok-numbers.numbers (n + 1)) ended.0) views ended.1)))

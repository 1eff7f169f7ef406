use Rattle.std.proofs.Common.{rules, ◌≡◌, ◌∙◌, inl, ◌+◌, ◌<◌, ◌≤◌, ◌++◌, ◌∷◌, [], List, length, map, arith, sym, ap, subst, length-append}
use Rattle.std.specs.List.{slice_get}
use Rattle.trie_model.specs.Shape.{cells}
use Rattle.trie_write.specs.Entries.{entries_of_items}
use Rattle.qp_multi.specs.Openings.{Refuses, room_in}
use Rattle.zone_table.specs.declared.opening.Opened.{Opened}
use Rattle.zone_table.specs.declared.opening.ZoneItems.{ZoneItems}
use Rattle.zone_table.specs.Openings.{Place, places_of, RefusesZones, IsBegun}
use Rattle.zone_table.proofs.Lists.{at_seam, get_front, none_left}
use Rattle.zone_table.proofs.RefusalLaws.{no_places}
use Rattle.zone_table.proofs.OpeningLaws.{none_begun, so_far_is, is_last, opens_last, refuses_still}
use Rattle.zone_table.proofs.opening.+open_each.Goals as goal

pub returns-in_default : goal.returns-in_default
returns-in_default g t c =
    let none = c.in_default.ensures.cases in
    let nothing : c.args.blanks.items ≡ [] = none_left c.args.blanks.items (omega arith) in
    none_begun (places_of c.args.zones.now (map (λ b. b.shared.table.shared.key) c.args.blanks.items)) c.new.result.items
    (ap (λ l. places_of c.args.zones.now (map (λ b. b.shared.table.shared.key) l)) nothing ∙ no_places c.args.zones.now) c.new.ensures.items

pub open-opened-requires-clause-named : goal.open-opened-requires-clause-named
open-opened-requires-clause-named g t c =
    let count = c.len-last.ensures in
    let at : c.len-last.result ≡ length c.pop.new.self.items = omega arith in
    c.requires.named c.len-last.result c.in-Some.blank (ap (λ l. slice_get l c.len-last.result) c.in-Some.ensures.items ∙ ap (slice_get (c.pop.new.self.items ++ c.in-Some.blank ∷ [])) at ∙ at_seam c.pop.new.self.items c.in-Some.blank [])

pub open_each-others-requires : goal.open_each-others-requires
open_each-others-requires g t c κs within =
    let size = ap length c.in-Some.ensures.items ∙ length-append c.pop.new.self.items (c.in-Some.blank ∷ []) in
    let f : length c.pop.new.self.items < length c.args.blanks.items = omega arith in
    let enough : length c.pop.new.self.items ≤ length c.args.zones.now = let e = c.requires.enough in omega arith in (
      search (rules, f),
      (
        within.0,
        (
          within.1,
          (
            c.requires.few,
            (
              enough,
              (
                λ k b there. c.requires.named k b (ap (λ l. slice_get l k) c.in-Some.ensures.items ∙ get_front c.pop.new.self.items (c.in-Some.blank ∷ []) k b there),
                c.requires.begin,
              ),
            ),
          ),
        ),
      ),
    )

pub told-requires-clause-so_far : goal.told-requires-clause-so_far
told-requires-clause-so_far g t c =
    let front = map (λ b. b.shared.table.shared.key) c.pop.new.self.items in
    (front, so_far_is (places_of c.args.zones.now front) c.open_each-others.result c.refusal_of.result c.refusal_of.ensures c.open_each-others.ensures)

pub returns-in-Ok-others : goal.returns-in-Ok-others
returns-in-Ok-others g t c =
    let l = is_last (λ b. b.shared.table.shared.key) c.args.zones.now c.args.blanks.items c.pop.new.self.items c.in-Some.blank c.len-last.result c.index-zones-last.result
    c.in-Some.ensures.items c.requires.enough (let e = c.len-last.ensures in omega arith) c.index-zones-last.is in
    let items = c.deref.ensures.value ∙ ap (λ (x : ZoneItems). x.items.items) (sym c.index-zones-last.is) in
    let o : Opened g.row.L.Denot g.row.N.Denot g.N.Named = record { index = c.in-Ok.index; passes = c.in-Ok.passes } in
    opens_last l c.in-Ok-others.others.items o c.with_last.result c.with_last.ensures c.in-Ok-others.ensures
    (subst (λ xs. IsBegun (c.len-last.result + 1) c.in-Some.blank.shared.table.shared.key (entries_of_items xs) o) items
    (record { place = c.in-Ok.ensures.opens.place; size_is = c.in-Ok.ensures.opens.size; passes = c.in-Ok.ensures.opens.passes.told; unused = c.in-Ok.ensures.opens.passes.unused; count = c.in-Ok.ensures.opens.passes.count; all = c.in-Ok.ensures.opens.passes.all; fits = c.in-Ok.ensures.opens.fits }))

pub returns-in-Err-others : goal.returns-in-Err-others
returns-in-Err-others g t c =
    let l = is_last (λ b. b.shared.table.shared.key) c.args.zones.now c.args.blanks.items c.pop.new.self.items c.in-Some.blank c.len-last.result c.index-zones-last.result
    c.in-Some.ensures.items c.requires.enough (let e = c.len-last.ensures in omega arith) c.index-zones-last.is in
    let items = c.deref.ensures.value ∙ ap (λ (x : ZoneItems). x.items.items) (sym c.index-zones-last.is) in
    refuses_still l c.in-Err-others.refusal c.in-Err-others.ensures (inl (subst (λ xs. cells (entries_of_items xs) ≤ room_in c.in-Some.blank.shared.table.shared.key.chunks) items c.in-Ok.ensures.opens.fits))

pub returns-in-Err : goal.returns-in-Err
returns-in-Err g t c =
    let l = is_last (λ b. b.shared.table.shared.key) c.args.zones.now c.args.blanks.items c.pop.new.self.items c.in-Some.blank c.len-last.result c.index-zones-last.result
    c.in-Some.ensures.items c.requires.enough (let e = c.len-last.ensures in omega arith) c.index-zones-last.is in
    let items = c.deref.ensures.value ∙ ap (λ (x : ZoneItems). x.items.items) (sym c.index-zones-last.is) in
    let p : Place = record { zone = c.index-zones-last.result; size = c.in-Some.blank.shared.table.shared.key } in
    let sizes = map (λ b. b.shared.table.shared.key) c.pop.new.self.items in
    let so_far : RefusesZones (places_of c.args.zones.now sizes) c.refusal_of.result = so_far_is (places_of c.args.zones.now sizes) c.open_each-others.result c.refusal_of.result c.refusal_of.ensures c.open_each-others.ensures in
    subst (λ (places : List Place). RefusesZones places c.told.result) (sym l.all)
    (c.told.ensures sizes p l.count l.there so_far (subst (λ xs. Refuses p.size.chunks (entries_of_items xs) c.in-Err.refusal) items c.in-Err.ensures.full))

-- Notes of a server's passes.
use Rattle.std.proofs.Common.{◌∙◌, List, Result, Ok, Err, IfOk, sym, ap, subst}
use Rattle.std.specs.declared.alloc.AllocError.{AllocError}
use Rattle.zone_model.specs.Names.{Name}
use Rattle.qp_multi.specs.declared.meaning.Named.{Ghosts}
use Rattle.zone_table.specs.declared.note.ZonesNote.{ZonesNote}
use Rattle.zone_table.specs.declared.pass.ZonesPass.{ZonesPass}
use Rattle.zone_table.specs.declared.zones.Zones.{Zones}
use Rattle.zone_table.specs.Notes as table
use Rattle.zone_table.specs.Notes.{IsNoteOf, SeenHistory}
use Rattle.zone_server.specs.Homes.{Served}
use Rattle.zone_server.specs.Notes.{HasLearnt, IsNote, Tells, told_of}
use Rattle.zone_server.specs.Servings.{IsServed, known_of}

module _ {X Y : Type 0} {N : Ghosts Y} (served : List Served) (zones : Zones X Y N) (are : IsServed served zones) where
  pub is_note : (r : Result (ZonesNote Y N) AllocError) → IfOk r (IsNoteOf zones.origins.items) → IfOk r (IsNote served)
  is_note (Ok n) of = subst (λ (os : List Name). IsNoteOf os n) are.origins of
  is_note (Err e) of = of

  pub note_in : (n : ZonesNote Y N) → IsNote served n → IsNoteOf zones.origins.items n
  note_in n of = subst (λ (os : List Name). IsNoteOf os n) (sym are.origins) of

module _ {Y : Type 0} {N : Ghosts Y} where
  pub tells : (p : ZonesPass Y N) (r : Result (ZonesNote Y N) AllocError) → IfOk r (table.Tells p) → IfOk r (λ n. Tells (known_of p) (told_of n))
  tells p (Ok n) told = ap (λ (s : SeenHistory). record { table = s; zones = (told_of n).zones }) told.table ∙ ap (λ (l : List SeenHistory). record { table = (known_of p).table.seen; zones = l }) told.zones
  tells p (Err e) told = told

  pub learns : (old new : ZonesPass Y N) (n : ZonesNote Y N) → table.HasLearnt old new n → HasLearnt (known_of old) (known_of new) (told_of n)
  learns old new n learnt = record { table = learnt.table; zones = learnt.zones }

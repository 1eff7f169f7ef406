use Rattle.std.proofs.Common.{◌≡◌, ◌∙◌, ◌≤◌, length, Ok, Err, arith, ap, subst, refl}
use Rattle.zone_model.specs.Keys.{key_of}
use Rattle.qp_multi.specs.declared.meaning.Operation.TheVariants.{Delete}
use Rattle.qp_multi.specs.declared.refusal.ChangeRefusal.{ChangeRefusal}
use Rattle.qp_multi.specs.declared.refusal.ChangeRefusal.TheVariants.{NotFound}
use Rattle.qp_multi.specs.Passes.{known_at}
use Rattle.qp_multi.proofs.CallLaws.{begun_of, parts_of}
use Rattle.qp_multi.specs.Calls.{LacksEntryOf}
use Rattle.zone_table.specs.declared.change.TableRefusal.TheVariants.{Missing}
use Rattle.zone_table.specs.Changes.{Detaches}
use Rattle.zone_table.specs.Passes.{table_known}
use Rattle.zone_table.specs.Tables.{IsAttached}
use Rattle.zone_table.proofs.ChangeLaws.{may_commit, committed, receipt_told, refused, has_room, out_of_room, delete_puts, one_and}
use Rattle.zone_table.proofs.AttachLaws.{Deletes, deletes_as, detached, if_read, isnt_there, unchanged_as}
use Rattle.zone_table.proofs.zones.Zones.detach.Goals as goal

pub commit-requires-clause-lawful : goal.commit-requires-clause-lawful
commit-requires-clause-lawful g c =
    may_commit NotFound (Delete (key_of c.index-origin.result.now)) (LacksEntryOf (key_of c.index-origin.result.now)) c.args.self.now.origins.items c.args.pass.now c.requires.pass
    c.write-write.result.locked.now.working c.delete.new.self.locked.now.working c.write-write.ensures.begins
    (deletes_as NotFound c.write-write.result.locked.now.working c.delete.new.self.locked.now.working (Ok tt) c.of.result (key_of c.index-origin.result.now) c.of.ensures c.in-Ok.ensures.deletes)
    (delete_puts _ (key_of c.index-origin.result.now))

pub returns-in-Ok : goal.returns-in-Ok
returns-in-Ok g c =
    let old = table_known c.args.pass.now in
    let new = c.commit.new.self.0 in
    let ended = parts_of 8 new.seat c.delete.new.self.locked.now.working c.commit.result c.commit.ensures.ends in
    let done = committed NotFound (Delete (key_of c.index-origin.result.now)) (LacksEntryOf (key_of c.index-origin.result.now)) c.args.self.now.origins.items c.args.pass.now c.requires.pass
    c.write-write.result.locked.now.working c.delete.new.self.locked.now.working c.write-write.ensures.begins new c.commit.result
    (deletes_as NotFound c.write-write.result.locked.now.working c.delete.new.self.locked.now.working (Ok tt) c.of.result (key_of c.index-origin.result.now) c.of.ensures c.in-Ok.ensures.deletes)
    c.commit.ensures.home.here (c.commit.ensures.home.place ∙ c.delete.ensures.of_same.place ∙ c.write-write.ensures.place ∙ c.args.self.now.table_place)
    ended.commits ended.version ended.back ended.spent ended.last in
    record {
      pass = done.pass;
      others = refl {a = c.args.pass.now.zones};
      detaches = if_read (λ x. Detaches x old (known_at new.seat) c.committed.result) c.args.self.now.origins.items c.args.zone c.index-origin.result.now c.requires.within c.index-origin.ensures
          (detached c.index-origin.result.now old (known_at new.seat) c.commit.result c.committed.result c.committed.ensures done.ends);
      receipt = receipt_told NotFound (Delete (key_of c.index-origin.result.now)) (LacksEntryOf (key_of c.index-origin.result.now)) c.args.self.now.origins.items c.args.pass.now c.requires.pass c.write-write.result.locked.now.working c.delete.new.self.locked.now.working c.write-write.ensures.begins (known_at new.seat) c.commit.result c.committed.result
          (deletes_as NotFound c.write-write.result.locked.now.working c.delete.new.self.locked.now.working (Ok tt) c.of.result (key_of c.index-origin.result.now) c.of.ensures c.in-Ok.ensures.deletes) ended.receipt c.committed.ensures;
    }

pub returns-in-Err-NotFound : goal.returns-in-Err-NotFound
returns-in-Err-NotFound g c =
    let old = table_known c.args.pass.now in
    let new = c.drop-write.new.self.0 in
    let number = c.version-version.result in
    let done = refused NotFound (Delete (key_of c.index-origin.result.now)) (LacksEntryOf (key_of c.index-origin.result.now)) c.args.self.now.origins.items c.args.pass.now c.requires.pass
    c.write-write.result.locked.now.working c.delete.new.self.locked.now.working c.write-write.ensures.begins new number c.delete.new.self.locked.now.place
    (deletes_as NotFound c.write-write.result.locked.now.working c.delete.new.self.locked.now.working (Err NotFound) c.of.result (key_of c.index-origin.result.now) c.of.ensures
    (subst (λ (x : ChangeRefusal). Deletes NotFound c.write-write.result.locked.now.working c.delete.new.self.locked.now.working (Err x) c.of.result) c.in-Err-NotFound.field-0-is c.in-Err-NotFound.ensures.deletes))
    c.drop-write.ensures.back c.drop-write.ensures.place (c.delete.ensures.of_same.place ∙ c.write-write.ensures.place ∙ c.args.self.now.table_place) c.version-version.ensures in
    record {
      pass = done.pass;
      others = refl {a = c.args.pass.now.zones};
      detaches = if_read (λ x. Detaches x old (known_at new.seat) (Err (Missing number))) c.args.self.now.origins.items c.args.zone c.index-origin.result.now c.requires.within c.index-origin.ensures
          (unchanged_as (LacksEntryOf (key_of c.index-origin.result.now)) (λ es. IsAttached es c.index-origin.result.now → ⊥) old (known_at new.seat) number (isnt_there (key_of c.index-origin.result.now)) done.unchanged);
      receipt = tt;
    }

pub unreachable-requires : goal.unreachable-requires
unreachable-requires g c =
    let table = c.args.self.now.table.shared.table.shared.key in
    let begun = begun_of _ _ _ c.write-write.result.locked.now.working c.write-write.ensures.kind in
    let each = c.args.self.now.each in
    let most = c.args.self.now.few in
    let few : length c.args.self.now.origins.items ≤ 16 = omega arith in
    has_room NotFound (Delete (key_of c.index-origin.result.now)) (LacksEntryOf (key_of c.index-origin.result.now)) c.args.self.now.origins.items c.args.pass.now c.requires.pass
    c.write-write.result.locked.now.working c.delete.new.self.locked.now.working c.write-write.ensures.begins c.args.self.now.names few begun.few_operations
    (one_and (λ d. d.seat.passes ≡ table.passes) (λ d. d.seat.passes ≤ 17) c.write-write.result.locked.now.working (λ d is. (let p = c.args.self.now.passes in omega arith)) begun.passes)
    (one_and (λ d. length d.usage.given ≡ table.chunks) (λ d. length d.usage.given ≡ 512) c.write-write.result.locked.now.working (λ d is. is ∙ c.args.self.now.chunks) begun.chunks)
    (out_of_room _ _ _ _ c.write-write.result.locked.now.working c.delete.new.self.locked.now.working (c.in-Err-Full.ensures.full c.in-Err-Full.field-0-0 (ap (λ (x : ChangeRefusal). Err x) c.in-Err-Full.field-0-is)))

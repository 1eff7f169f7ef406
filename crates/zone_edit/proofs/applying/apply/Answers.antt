use Rattle.std.proofs.Common.{rules, ◌≡◌, ◌<◌, ◌≤◌, length, take, Ok, Err, refl, sym, subst, arith}
use Rattle.zone_model.specs.Names.{Name}
use Rattle.zone_model.specs.Records.{item, item_limit}
use Rattle.zone_model.specs.Versions.{owned, owner_of, put}
use Rattle.zone_change.specs.Views.{operation_view}
use Rattle.zone_change.specs.Counts.{candidate}
use Rattle.zone_edit.proofs.ApplyLaws.{owned_short, changed_short, made_of, made_by}
use Rattle.job_model.specs.Sizes.{cells_asked}
use Rattle.chunk_usage.specs.Keeping.{kept_versions}
use Rattle.zone_edit.specs.Stores.{IsFullOn, WorksOn, Reads, Stores}
use Rattle.zone_edit.specs.Blocks.{Applies}
use Rattle.zone_edit.specs.declared.refusal.EditRefusal.TheVariants as refusals
use Rattle.zone_edit.proofs.EditLaws.{edits_as, edits_on, read_some}
use Rattle.zone_edit.proofs.applying.apply.Goals as goal

pub store-requires : goal.store-requires
store-requires g c = record {
  key = search rules;
  says = search rules;
  owns = search rules;
  short = λ some.
      let operation = operation_view c.args.operation.now in
      let owner = c.owner-owner.result.now in
      let octets = take c.read_owned-len.result c.read_owned-len.new.item in
      let r = read_some owner c.read_owned-len.new.item c.read_owned-len.result c.args.transaction.now.locked.now.working c.read_owned-len.new.transaction.locked.now.working c.requires.works c.read_owned-len.ensures.read in
      let both = c.in-Ok.ensures (owned owner r.0) r.2.says in
      let mine : c.in-Ok.before ≡ owned (owner_of operation) r.0 = subst (λ (n : Name). c.in-Ok.before ≡ owned n r.0) c.owner-owner.ensures both.0 in
      let made = made_of c.args.origin.now operation owner octets c.in-Ok.before c.in-Ok.entry (owned owner r.0) c.owner-owner.ensures c.in_default.ensures r.2.says both.0 both.1 in
      let short : 0 < length c.in-Ok.before → length (item (owner_of operation) c.in-Ok.before) ≤ item_limit = λ h. owned_short (owner_of operation) r.0 c.in-Ok.before r.1 mine h in
      subst (λ (n : Name). length (item n c.in-Ok.entry) ≤ item_limit) (sym c.owner-owner.ensures) (changed_short c.args.origin.now operation c.in-Ok.before c.in-Ok.entry made short some);
  room = search rules;
}

pub returns-in_default-both_entries-clause-applies : goal.returns-in_default-both_entries-clause-applies
returns-in_default-both_entries-clause-applies g c =
    let operation = operation_view c.args.operation.now in
    let owner = c.owner-owner.result.now in
    let octets = take c.read_owned-len.result c.read_owned-len.new.item in
    edits_as 0 0 (Reads owner c.read_owned-len.new.item c.read_owned-len.result) (Applies c.args.origin.now operation (Err refusals.Memory)) c.args.transaction.now.locked.now.working c.read_owned-len.new.transaction.locked.now.working (omega arith)
    (λ version e r.
    let held = owned owner version in
    (put (owner_of operation) (candidate operation held) version, made_by c.args.origin.now operation owner octets held (candidate operation held) version c.owner-owner.ensures c.in_default.ensures r.read.says refl refl, r.stays)) c.read_owned-len.ensures.read

pub returns-in-Ok-store-clause-applies : goal.returns-in-Ok-store-clause-applies
returns-in-Ok-store-clause-applies g c =
    let operation = operation_view c.args.operation.now in
    let owner = c.owner-owner.result.now in
    let octets = take c.read_owned-len.result c.read_owned-len.new.item in
    edits_on 0 1 1 (Reads owner c.read_owned-len.new.item c.read_owned-len.result) (Stores owner c.in-Ok.before c.in-Ok.entry (Ok tt)) (Applies c.args.origin.now operation (Ok tt))
    c.args.transaction.now.locked.now.working c.read_owned-len.new.transaction.locked.now.working c.store.new.transaction.locked.now.working (omega arith)
    (λ version e f r. let both = c.in-Ok.ensures (owned owner version) r.read.says in
    let made = made_by c.args.origin.now operation owner octets c.in-Ok.before c.in-Ok.entry version c.owner-owner.ensures c.in_default.ensures r.read.says both.0 both.1 in
    (version, r.stays, λ y. (put (owner_of operation) c.in-Ok.entry version, made, subst (λ (n : Name). WorksOn f (put n c.in-Ok.entry version)) c.owner-owner.ensures (y both.0)))) c.read_owned-len.ensures.read c.in-Ok-store.ensures.stores

pub returns-clause-applies : goal.returns-clause-applies
returns-clause-applies g c =
    let operation = operation_view c.args.operation.now in
    let owner = c.owner-owner.result.now in
    let octets = take c.read_owned-len.result c.read_owned-len.new.item in
    edits_on 0 0 0 (Reads owner c.read_owned-len.new.item c.read_owned-len.result) (Stores owner c.in-Ok.before c.in-Ok.entry (Err c.in-Err.shortage)) (Applies c.args.origin.now operation (Err (refusals.Full c.args.number c.in-Err.shortage)))
    c.args.transaction.now.locked.now.working c.read_owned-len.new.transaction.locked.now.working c.store.new.transaction.locked.now.working (omega arith)
    (λ version e f r. let both = c.in-Ok.ensures (owned owner version) r.read.says in
    let made = made_by c.args.origin.now operation owner octets c.in-Ok.before c.in-Ok.entry version c.owner-owner.ensures c.in_default.ensures r.read.says both.0 both.1 in
    (version, r.stays, λ y. (put (owner_of operation) c.in-Ok.entry version, made, subst (λ (n : Name). put n c.in-Ok.entry version ≡ version → ⊥) c.owner-owner.ensures (y both.0).2, subst (λ (n : Name). IsFullOn f version (cells_asked n version (put n c.in-Ok.entry version)) (kept_versions f.usage)) c.owner-owner.ensures (y both.0).1, (y both.0).3))) c.read_owned-len.ensures.read c.in-Err.ensures.stores

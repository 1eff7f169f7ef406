use Rattle.std.proofs.Common.{◌≡◌, ◌∙◌, ◌<◌, ℕ, [], List, length, Err, refl, sym, ap, subst, arith}
use Rattle.std.specs.Prelude.{IsOk}
use Rattle.zone_model.specs.Records.{Entry}
use Rattle.trie_model.specs.Keys as trie
use Rattle.trie_model.specs.Keys.{InList}
use Rattle.qp_multi.specs.declared.meaning.Operation.TheVariants as operation
use Rattle.qp_multi.specs.declared.refusal.ChangeRefusal.TheVariants.{NotFound}
use Rattle.zone_edit.proofs.StoreLaws.{somebody, gone_changes}
use Rattle.zone_edit.proofs.SetLaws.{owner_in}
use Rattle.zone_edit.proofs.EditLaws.{stored, no_room, refused_set, put_out}
use Rattle.zone_edit.proofs.applying.take_out.Goals as goal

abbrev Absent : List ℕ → List trie.Entry → Type 0
Absent key es = (x : trie.Entry) → InList x es → x.key ≡ key → ⊥

pub unreachable-requires : goal.unreachable-requires
unreachable-requires g c =
    let denied = c.in-Err-NotFound.is ∙ ap (λ x. Err x) c.in-Err-NotFound.field-0-is in
    let x = refused_set (operation.Delete c.args.key.now) (Absent c.args.key.now) (IsOk c.delete.result) (c.delete.result ≡ Err NotFound) c.args.name.now c.args.before.now [] c.args.transaction.now.locked.now.working c.delete.new.self.locked.now.working c.requires.owns denied c.delete.ensures.deletes in
    somebody c.args.name.now c.args.key.now x.0 c.args.before.now c.requires.some x.2 c.requires.key x.3

pub returns-in-Ok-clause-stores : goal.returns-in-Ok-clause-stores
returns-in-Ok-clause-stores g c =
    stored (operation.Delete c.args.key.now) (Absent c.args.key.now) (IsOk c.delete.result) (c.delete.result ≡ Err NotFound) c.args.name.now c.args.before.now [] c.args.transaction.now.locked.now.working c.delete.new.self.locked.now.working
    (subst (λ r. IsOk r) (sym c.in-Ok.is) refl)
    (λ version d e op on is. put_out c.args.name.now c.args.key.now (Absent c.args.key.now) d e (IsOk c.delete.result) (c.delete.result ≡ Err NotFound) version c.requires.key c.wire-wire.ensures.name
    (owner_in c.args.name.now version (subst (λ (x : Entry). 0 < length x) is c.requires.some)) op (subst (λ r. IsOk r) (sym c.in-Ok.is) refl) on) c.delete.ensures.deletes

pub returns-in-Err-Full-clause-stores : goal.returns-in-Err-Full-clause-stores
returns-in-Err-Full-clause-stores g c =
    let full_is = c.in-Err-Full.is ∙ ap (λ x. Err x) c.in-Err-Full.field-0-is in
    no_room (operation.Delete c.args.key.now) (Absent c.args.key.now) (IsOk c.delete.result) (c.delete.result ≡ Err NotFound) c.args.name.now c.args.before.now [] c.args.transaction.now.locked.now.working c.delete.new.self.locked.now.working
    c.in-Err-Full.full c.args.key.now 1 _ (λ ok. absurd (let h = subst (λ r. IsOk r) full_is ok in cc))
    (λ version v is. gone_changes c.args.name.now version v (subst (λ (x : Entry). 0 < length x) is c.requires.some))
    (λ version v. omega arith)
    c.delete.ensures.deletes (c.delete.ensures.full c.in-Err-Full.full full_is)

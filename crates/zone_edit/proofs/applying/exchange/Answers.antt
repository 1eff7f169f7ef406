use Rattle.std.proofs.Common.{◌≡◌, ◌∙◌, ◌<◌, ℕ, List, length, Err, refl, sym, ap, subst}
use Rattle.std.specs.Prelude.{IsOk}
use Rattle.zone_model.specs.Records.{Entry}
use Rattle.trie_model.specs.Keys as trie
use Rattle.trie_model.specs.Keys.{InList}
use Rattle.qp_multi.specs.declared.meaning.Operation.TheVariants as operation
use Rattle.qp_multi.specs.declared.refusal.ChangeRefusal.TheVariants.{NotFound}
use Rattle.zone_edit.proofs.StoreLaws.{written_few, somebody, put_changes, record_of}
use Rattle.zone_edit.proofs.SetLaws.{owner_in}
use Rattle.zone_edit.proofs.EditLaws.{stored, no_room, refused_set, put_over}
use Rattle.zone_edit.proofs.applying.exchange.Goals as goal

abbrev Absent : List ℕ → List trie.Entry → Type 0
Absent key es = (x : trie.Entry) → InList x es → x.key ≡ key → ⊥

pub unreachable-requires : goal.unreachable-requires
unreachable-requires g c =
    let denied = c.in-Err-NotFound.is ∙ ap (λ x. Err x) c.in-Err-NotFound.field-0-is in
    let x = refused_set (operation.Replace (record_of c.args.key.now c.args.item.now)) (Absent c.args.key.now) (IsOk c.replace.result) (c.replace.result ≡ Err NotFound) c.args.name.now c.args.before.now c.args.entry.now c.args.transaction.now.locked.now.working c.replace.new.self.locked.now.working c.requires.owns denied c.replace.ensures.replaces in
    somebody c.args.name.now c.args.key.now x.0 c.args.before.now c.requires.some x.2 c.requires.key x.3

pub returns-in-Ok-clause-stores : goal.returns-in-Ok-clause-stores
returns-in-Ok-clause-stores g c =
    stored (operation.Replace (record_of c.args.key.now c.args.item.now)) (Absent c.args.key.now) (IsOk c.replace.result) (c.replace.result ≡ Err NotFound) c.args.name.now c.args.before.now c.args.entry.now c.args.transaction.now.locked.now.working c.replace.new.self.locked.now.working
    (subst (λ r. IsOk r) (sym c.in-Ok.is) refl)
    (λ version d e op on is. put_over c.args.name.now c.args.key.now c.args.item.now c.args.entry.now (Absent c.args.key.now) d e (IsOk c.replace.result) (c.replace.result ≡ Err NotFound) version c.requires.key c.requires.item
    (owner_in c.args.name.now version (subst (λ (x : Entry). 0 < length x) is c.requires.some)) op (subst (λ r. IsOk r) (sym c.in-Ok.is) refl) on) c.replace.ensures.replaces

pub returns-in-Err-Full-clause-stores : goal.returns-in-Err-Full-clause-stores
returns-in-Err-Full-clause-stores g c =
    let full_is = c.in-Err-Full.is ∙ ap (λ x. Err x) c.in-Err-Full.field-0-is in
    no_room (operation.Replace (record_of c.args.key.now c.args.item.now)) (Absent c.args.key.now) (IsOk c.replace.result) (c.replace.result ≡ Err NotFound) c.args.name.now c.args.before.now c.args.entry.now c.args.transaction.now.locked.now.working c.replace.new.self.locked.now.working
    c.in-Err-Full.full c.args.key.now _ _ (λ ok. absurd (let h = subst (λ r. IsOk r) full_is ok in cc))
    (λ version v is. put_changes c.args.name.now c.args.entry.now version c.requires.item.some (λ e. c.requires.other (e ∙ sym is)))
    (λ version v. written_few c.args.name.now c.args.item.now c.args.entry.now version c.requires.item)
    c.replace.ensures.replaces (c.replace.ensures.full c.in-Err-Full.full full_is)

use Rattle.std.proofs.Common.{◌≡◌, ◌∙◌, ℕ, [], List, Err, refl, sym, ap, subst}
use Rattle.std.specs.Prelude.{IsOk}
use Rattle.trie_model.specs.Keys as trie
use Rattle.trie_model.specs.Keys.{InList}
use Rattle.qp_multi.specs.declared.meaning.Operation.TheVariants as operation
use Rattle.qp_multi.specs.declared.refusal.InsertRefusal.TheVariants.{Exists}
use Rattle.zone_edit.proofs.StoreLaws.{written_few, nobody, put_changes, nothing_some, record_of}
use Rattle.zone_edit.proofs.EditLaws.{stored, no_room, refused_set, put_new}
use Rattle.zone_edit.proofs.applying.put_in.Goals as goal

abbrev There : List ℕ → List trie.Entry → Type 0
There key es = (x : trie.Entry) × InList x es × (x.key ≡ key)

pub unreachable-requires : goal.unreachable-requires
unreachable-requires g c =
    let denied = c.in-Err-Exists.is ∙ ap (λ x. Err x) c.in-Err-Exists.field-0-is in
    let x = refused_set (operation.Insert (record_of c.args.key.now c.args.item.now)) (There c.args.key.now) (IsOk c.insert.result) (c.insert.result ≡ Err Exists) c.args.name.now [] c.args.entry.now c.args.transaction.now.locked.now.working c.insert.new.self.locked.now.working c.requires.owns denied c.insert.ensures.inserts in
    nobody c.args.name.now c.args.key.now x.0 c.requires.item.name x.1 x.2 c.requires.key x.3

pub returns-in-Ok-clause-stores : goal.returns-in-Ok-clause-stores
returns-in-Ok-clause-stores g c =
    stored (operation.Insert (record_of c.args.key.now c.args.item.now)) (There c.args.key.now) (IsOk c.insert.result) (c.insert.result ≡ Err Exists) c.args.name.now [] c.args.entry.now c.args.transaction.now.locked.now.working c.insert.new.self.locked.now.working
    (subst (λ r. IsOk r) (sym c.in-Ok.is) refl)
    (λ version d e op on is. put_new c.args.name.now c.args.key.now c.args.item.now c.args.entry.now (There c.args.key.now) d e (IsOk c.insert.result) (c.insert.result ≡ Err Exists) version c.requires.key c.requires.item
    (λ x i k. nobody c.args.name.now c.args.key.now version c.requires.item.name on.valid is c.requires.key (x, i, k ∙ sym c.requires.key)) op (subst (λ r. IsOk r) (sym c.in-Ok.is) refl) on) c.insert.ensures.inserts

pub returns-in-Err-Full-clause-stores : goal.returns-in-Err-Full-clause-stores
returns-in-Err-Full-clause-stores g c =
    let full_is = c.in-Err-Full.is ∙ ap (λ x. Err x) c.in-Err-Full.field-0-is in
    no_room (operation.Insert (record_of c.args.key.now c.args.item.now)) (There c.args.key.now) (IsOk c.insert.result) (c.insert.result ≡ Err Exists) c.args.name.now [] c.args.entry.now c.args.transaction.now.locked.now.working c.insert.new.self.locked.now.working
    c.in-Err-Full.full c.args.key.now _ _ (λ ok. absurd (let h = subst (λ r. IsOk r) full_is ok in cc))
    (λ version v none. put_changes c.args.name.now c.args.entry.now version c.requires.item.some (λ e. nothing_some c.args.entry.now c.requires.item.some (e ∙ sym none)))
    (λ version v. written_few c.args.name.now c.args.item.now c.args.entry.now version c.requires.item)
    c.insert.ensures.inserts (c.insert.ensures.full c.in-Err-Full.full full_is)

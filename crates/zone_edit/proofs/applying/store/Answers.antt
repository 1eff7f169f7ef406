use Rattle.std.proofs.Common.{rules, Ok, ◌≡◌, ◌∙◌, [], take, ap, sym, subst}
use Rattle.zone_model.specs.Records.{Entry, item}
use Rattle.zone_model.specs.Versions.{put}
use Rattle.zone_edit.proofs.StoreLaws.{unchanged_gone, unchanged_put, one_entry, said_item}
use Rattle.zone_edit.specs.Stores.{Owns, WorksOn, Stores}
use Rattle.zone_edit.proofs.EditLaws.{edits_same}
use Rattle.zone_edit.proofs.applying.store.Goals as goal

pub returns-then-is_empty-2-clause-stores : goal.returns-then-is_empty-2-clause-stores
returns-then-is_empty-2-clause-stores g c =
    let none : c.args.entry.now ≡ [] = search (rules, c.if-is_empty.ensures, c.if-is_empty.true) in
    let nothing : c.args.before.now ≡ [] = search (rules, c.if-is_empty-2.ensures, c.if-is_empty-2.true) in
    edits_same 1 (Owns c.args.name.now c.args.before.now) (Stores c.args.name.now c.args.before.now c.args.entry.now (Ok tt)) c.args.transaction.now.locked.now.working c.requires.owns
    (λ d version on is. subst (λ (e : Entry). WorksOn d (put c.args.name.now e version)) (sym none) (subst (WorksOn d) (sym (unchanged_gone c.args.name.now version on.valid (sym is ∙ nothing))) on))

pub returns-then-eq-clause-stores : goal.returns-then-eq-clause-stores
returns-then-eq-clause-stores g c =
    let some : c.args.before.now ≡ [] → ⊥ = search (rules, c.if-is_empty-3.ensures, c.if-is_empty-3.false) in
    let bytes : take c.in-Some.len c.encode.new.out ≡ c.args.octets.now = search (rules, c.if-eq.ensures, c.if-eq.true) in
    let same = one_entry c.args.name.now (take c.in-Some.len c.encode.new.out) c.args.octets.now c.args.entry.now c.args.before.now c.in-Some.ensures.item (said_item c.args.name.now c.args.octets.now c.args.before.now c.requires.says some) bytes in
    edits_same 1 (Owns c.args.name.now c.args.before.now) (Stores c.args.name.now c.args.before.now c.args.entry.now (Ok tt)) c.args.transaction.now.locked.now.working c.requires.owns
    (λ d version on is. subst (WorksOn d) (sym (unchanged_put c.args.name.now c.args.entry.now version on.valid c.in-Some.ensures.item.some (same ∙ is))) on)

pub exchange-requires : goal.exchange-requires
exchange-requires g c = record {
  key = c.requires.key;
  owns = c.requires.owns;
  some = search rules;
  item = search rules;
  other = λ e.
      let some : c.args.before.now ≡ [] → ⊥ = search (rules, c.if-is_empty-3.ensures, c.if-is_empty-3.false) in
      let old = said_item c.args.name.now c.args.octets.now c.args.before.now c.requires.says some in
      let never : take c.in-Some.len c.encode.new.out ≡ c.args.octets.now → ⊥ = search (rules, c.if-eq.ensures, c.if-eq.false) in
      never (c.in-Some.ensures.item.octets ∙ ap (item c.args.name.now) e ∙ sym old.octets);
}

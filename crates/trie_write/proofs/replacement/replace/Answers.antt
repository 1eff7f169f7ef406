use Rattle.std.proofs.Common.{ℕ, List, Contains, sym, ap, subst, arith}
use Rattle.trie_write.specs.Paths.{replace_asks}
use Rattle.trie_write.proofs.RefusalLaws.{changes_none, not_refused, stays_full, stays_refused}
use Rattle.trie_write.proofs.RootLaws.{stands_of}
use Rattle.trie_space.proofs.SpaceLaws.{err_on, fenced_same, ready_put, refused_same}
use Rattle.trie_write.proofs.ReplaceLaws.{has_key, on_path, on_branches, copied_path, beyond_key, trie_later}
use Rattle.trie_write.proofs.replacement.replace.Goals as goal

pub replace_item-requires : goal.replace_item-requires
replace_item-requires g c =
    let version = c.requires.stands.0 in
    let k = has_key c.in-Some.ensures.same c.in-Some.ensures.root version c.requires.stands.1 (c.in-Some.ensures.there version (stands_of _ _ _ version c.args.root c.requires.stands.1) c.requires.stands.2) in
    record {
      leads = c.requires.leads;
      there = record { t = k.0; version = version; asks = k.1 };
      ready = ready_put c.requires.ready (ap g.C.CellWrite.given c.in-Some.ensures.same) (ap g.C.CellWrite.kept c.in-Some.ensures.same);
    }

pub returns-in_ok-replace_item-in-Some-clause-replaced : goal.returns-in_ok-replace_item-in-Some-clause-replaced
returns-in_ok-replace_item-in-Some-clause-replaced g c version h tells =
    let k = has_key c.in-Some.ensures.same c.in-Some.ensures.root version h (c.in-Some.ensures.there version (stands_of _ _ _ version c.args.root h) tells) in
    c.in_ok-replace_item-in-Some.ensures.stands k.0 version k.1

pub returns-in_ok-replace_item-in-Some-clause-absent : goal.returns-in_ok-replace_item-in-Some-clause-absent
returns-in_ok-replace_item-in-Some-clause-absent g c version h tells = let x = c.in-Some.ensures.there version (stands_of _ _ _ version c.args.root h) tells in (λ e. absurd cc, λ never. absurd (never x.0 x.1 x.2))

pub returns-in_err-replace_item-in-Some-clause-absent : goal.returns-in_err-replace_item-in-Some-clause-absent
returns-in_err-replace_item-in-Some-clause-absent g c version h tells = let x = c.in-Some.ensures.there version (stands_of _ _ _ version c.args.root h) tells in (λ e. absurd (not_refused _ _ c.from_residual.ensures.1 e), λ never. absurd (never x.0 x.1 x.2))

pub returns-in_ok-replace_item-in-Some-clause-changes : goal.returns-in_ok-replace_item-in-Some-clause-changes
returns-in_ok-replace_item-in-Some-clause-changes g c = record {
  outside = λ q x b h.
      let o = beyond_key c.in-Some.ensures.same c.in-Some.ensures.root q b c.in-Some.ensures.there in
      c.replace_item.ensures.changes.outside o.0 o.1 o.2 q x b.0 o.3 (subst (λ s. g.C.CellRead.has s q x) (sym c.in-Some.ensures.same) h);
  consumes = λ n on.
      let o = on_path c.in-Some.ensures.same c.in-Some.ensures.root n on c.in-Some.ensures.there in
      let m = c.replace_item.ensures.changes.consumes o.0 o.1 o.2 in let e = o.3 in omega arith;
  copies = λ n on.
      let o = copied_path c.in-Some.ensures.same c.in-Some.ensures.root n on c.in-Some.ensures.there in
      let m = c.replace_item.ensures.changes.copies o.0 o.1 o.2 in let e = o.3 in omega arith;
  frame = fenced_same c.in-Some.ensures.same c.replace_item.ensures.changes.frame;
  ready = c.replace_item.ensures.changes.ready;
}

pub returns-in_err-replace_item-in-Some-clause-changes : goal.returns-in_err-replace_item-in-Some-clause-changes
returns-in_err-replace_item-in-Some-clause-changes g c = record {
  outside = λ q x b h.
      let o = beyond_key c.in-Some.ensures.same c.in-Some.ensures.root q b c.in-Some.ensures.there in
      c.replace_item.ensures.changes.outside o.0 o.1 o.2 q x b.0 o.3 (subst (λ s. g.C.CellRead.has s q x) (sym c.in-Some.ensures.same) h);
  consumes = λ n on.
      let o = on_path c.in-Some.ensures.same c.in-Some.ensures.root n on c.in-Some.ensures.there in
      let m = c.replace_item.ensures.changes.consumes o.0 o.1 o.2 in let e = o.3 in omega arith;
  copies = λ n on.
      let o = copied_path c.in-Some.ensures.same c.in-Some.ensures.root n on c.in-Some.ensures.there in
      let m = c.replace_item.ensures.changes.copies o.0 o.1 o.2 in let e = o.3 in omega arith;
  frame = fenced_same c.in-Some.ensures.same c.replace_item.ensures.changes.frame;
  ready = c.replace_item.ensures.changes.ready;
}

pub returns-in_err-replace_item-in-Some-clause-stays : goal.returns-in_err-replace_item-in-Some-clause-stays
returns-in_err-replace_item-in-Some-clause-stays g c =
    let same = c.in-Some.ensures.same in let lacks = c.in_err-replace_item-in-Some.ensures.lacks in
    err_on _ c.from_residual.result c.from_residual.ensures.1 (stays_full
    (λ version h. trie_later version c.args.root same lacks.refused c.in_err-replace_item-in-Some.ensures.changes.frame h)
    (refused_same same lacks.refused)
    (λ branches on.
    let o = on_branches same c.in-Some.ensures.root branches on c.in-Some.ensures.there in
    subst (λ (ns : List ℕ). Contains (replace_asks c.args.item.now ns) c.in_err-replace_item-in-Some.field-0.0.needed) (sym o.3) (lacks.asked o.0 o.1 o.2)))

pub returns-in-None-clause-stays : goal.returns-in-None-clause-stays
returns-in-None-clause-stays g c = stays_refused c.root_with.ensures.same

pub returns-in-None-clause-changes : goal.returns-in-None-clause-changes
returns-in-None-clause-changes g c = changes_none c.root_with.ensures.same c.requires.ready

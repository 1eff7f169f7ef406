use Rattle.std.proofs.Common.{◌≡◌, w8, ℕ, List, [], ◌∷◌, Contains, Option, Some, None, refl, sym, ◌∙◌, ap, subst, arith}
use Rattle.std.proofs.Math.Facts.{Fits-lt-pow}
use Rattle.trie_write.specs.Paths.{insert_asks}
use Rattle.trie_write.specs.Roots.{BranchesOnPath}
use Rattle.trie_space.specs.Standing.{HasTrie}
use Rattle.trie_write.proofs.AskLaws.{insert_begins}
use Rattle.trie_write.proofs.InsertLaws.{missing_key, missing_path, missing_branches, missing_copied, missing_beyond, never_there}
use Rattle.trie_write.proofs.RefusalLaws.{changes_none, not_refused, stays_full, stays_refused}
use Rattle.trie_write.proofs.ReplaceLaws.{trie_later}
use Rattle.trie_write.proofs.RootLaws.{leads_key, leads_some, leads_entry, entry_with, inserted_first}
use Rattle.trie_space.proofs.SpaceLaws.{err_on, fenced_of, fenced_same, ready_put, refused_same}
use Rattle.trie_write.proofs.insertion.insert.Goals as goal

is_none : (o : Option ℕ) → ((x : ℕ) → o ≡ Some x → ⊥) → o ≡ None
is_none (Some x) never = absurd (never x refl)
is_none None never = refl

pub insert_first-requires-clause-can : goal.insert_first-requires-clause-can
insert_first-requires-clause-can g c = record { some = leads_some c.requires.leads; short = c.requires.leads.short; ready = c.requires.ready }

pub compare-requires-clause-key : goal.compare-requires-clause-key
compare-requires-clause-key g c = leads_key c.requires.leads

pub insert_further-requires : goal.insert_further-requires
insert_further-requires g c =
    let same = c.compare.ensures.same ∙ c.cell-node.ensures.same in
    let k = missing_key g.C.CellRead.has g.U.Space.account c.args.usage.now c.in-Some.is c.cell-node.ensures.value c.cell-node.ensures.same c.compare.ensures.same c.compare.ensures.value c.in-Some-compare.is c.requires.stands.0 c.requires.stands.1 c.requires.stands.2 in
    record {
      leads = c.requires.leads;
      missing = record { t = k.0; version = c.requires.stands.0; asks = k.1 };
      ready = ready_put c.requires.ready (ap g.C.CellWrite.given same) (ap g.C.CellWrite.kept same);
    }

pub returns-in_default-clause-inserted : goal.returns-in_default-clause-inserted
returns-in_default-clause-inserted g c version standing tells =
    let e = entry_with c.args.key.now c.args.item.now in
    let s = subst (λ (o : Option ℕ). HasTrie g.C.CellRead.has g.U.Space.account c.args.cells.now c.args.usage.now o version) (is_none c.args.root c.in_default.not-Some) standing in
    (e ∷ [], inserted_first e version s.0, c.in_ok-insert_first.ensures.stands e (leads_entry c.requires.leads (λ i. Fits-lt-pow {w = w8} (c.type_inv.item i))) refl)

pub returns-in_ok-insert_further-in-Some-compare-clause-inserted : goal.returns-in_ok-insert_further-in-Some-compare-clause-inserted
returns-in_ok-insert_further-in-Some-compare-clause-inserted g c version standing tells =
    let k = missing_key g.C.CellRead.has g.U.Space.account c.args.usage.now c.in-Some.is c.cell-node.ensures.value c.cell-node.ensures.same c.compare.ensures.same c.compare.ensures.value c.in-Some-compare.is version standing tells in
    c.in_ok-insert_further-in-Some-compare.ensures.stands k.0 version k.1

pub returns-in_ok-insert_further-in-Some-compare-clause-exists : goal.returns-in_ok-insert_further-in-Some-compare-clause-exists
returns-in_ok-insert_further-in-Some-compare-clause-exists g c version standing tells =
    (λ e. absurd cc, λ x. absurd (never_there g.C.CellRead.has g.U.Space.account c.args.usage.now c.in-Some.is c.cell-node.ensures.value c.cell-node.ensures.same c.compare.ensures.same c.compare.ensures.value c.in-Some-compare.is version standing tells x.0 x.1 x.2))

pub returns-in_err-insert_further-in-Some-compare-clause-exists : goal.returns-in_err-insert_further-in-Some-compare-clause-exists
returns-in_err-insert_further-in-Some-compare-clause-exists g c version standing tells =
    (λ e. absurd (not_refused _ _ c.from_residual-in_err-insert_further-in-Some-compare.ensures.1 e), λ x. absurd (never_there g.C.CellRead.has g.U.Space.account c.args.usage.now c.in-Some.is c.cell-node.ensures.value c.cell-node.ensures.same c.compare.ensures.same c.compare.ensures.value c.in-Some-compare.is version standing tells x.0 x.1 x.2))

pub returns-in_ok-insert_further-in-Some-compare-clause-changes : goal.returns-in_ok-insert_further-in-Some-compare-clause-changes
returns-in_ok-insert_further-in-Some-compare-clause-changes g c =
    let same = c.compare.ensures.same ∙ c.cell-node.ensures.same in
    record {
      outside = λ q x b h.
          let o = missing_beyond g.C.CellRead.has g.U.Space.account c.args.usage.now c.in-Some.is c.cell-node.ensures.value c.cell-node.ensures.same c.compare.ensures.same c.compare.ensures.value c.in-Some-compare.is q b in
          c.insert_further.ensures.changes.outside o.0 o.1 o.2 q x b.0 o.3 (subst (λ s. g.C.CellRead.has s q x) (sym same) h);
      consumes = λ n on.
          let o = missing_path g.C.CellRead.has g.U.Space.account c.args.usage.now c.in-Some.is c.cell-node.ensures.value c.cell-node.ensures.same c.compare.ensures.same c.compare.ensures.value c.in-Some-compare.is n on in
          let m = c.insert_further.ensures.changes.consumes o.0 o.1 o.2 in let e = o.3 in omega arith;
      copies = λ n on.
          let o = missing_copied g.C.CellRead.has g.U.Space.account c.args.usage.now c.in-Some.is c.cell-node.ensures.value c.cell-node.ensures.same c.compare.ensures.same c.compare.ensures.value c.in-Some-compare.is n on in
          let m = c.insert_further.ensures.changes.copies o.0 o.1 o.2 in let e = o.3 in omega arith;
      frame = fenced_same same c.insert_further.ensures.changes.frame;
      ready = c.insert_further.ensures.changes.ready;
    }

pub returns-in_err-insert_further-in-Some-compare-clause-changes : goal.returns-in_err-insert_further-in-Some-compare-clause-changes
returns-in_err-insert_further-in-Some-compare-clause-changes g c =
    let same = c.compare.ensures.same ∙ c.cell-node.ensures.same in
    record {
      outside = λ q x b h.
          let o = missing_beyond g.C.CellRead.has g.U.Space.account c.args.usage.now c.in-Some.is c.cell-node.ensures.value c.cell-node.ensures.same c.compare.ensures.same c.compare.ensures.value c.in-Some-compare.is q b in
          c.insert_further.ensures.changes.outside o.0 o.1 o.2 q x b.0 o.3 (subst (λ s. g.C.CellRead.has s q x) (sym same) h);
      consumes = λ n on.
          let o = missing_path g.C.CellRead.has g.U.Space.account c.args.usage.now c.in-Some.is c.cell-node.ensures.value c.cell-node.ensures.same c.compare.ensures.same c.compare.ensures.value c.in-Some-compare.is n on in
          let m = c.insert_further.ensures.changes.consumes o.0 o.1 o.2 in let e = o.3 in omega arith;
      copies = λ n on.
          let o = missing_copied g.C.CellRead.has g.U.Space.account c.args.usage.now c.in-Some.is c.cell-node.ensures.value c.cell-node.ensures.same c.compare.ensures.same c.compare.ensures.value c.in-Some-compare.is n on in
          let m = c.insert_further.ensures.changes.copies o.0 o.1 o.2 in let e = o.3 in omega arith;
      frame = fenced_same same c.insert_further.ensures.changes.frame;
      ready = c.insert_further.ensures.changes.ready;
    }

pub returns-in_err-insert_further-in-Some-compare-clause-stays : goal.returns-in_err-insert_further-in-Some-compare-clause-stays
returns-in_err-insert_further-in-Some-compare-clause-stays g c =
    let same = c.compare.ensures.same ∙ c.cell-node.ensures.same in let lacks = c.in_err-insert_further-in-Some-compare.ensures.lacks in
    err_on _ c.from_residual-in_err-insert_further-in-Some-compare.result c.from_residual-in_err-insert_further-in-Some-compare.ensures.1 (stays_full
    (λ version standing. trie_later version c.args.root same lacks.refused c.in_err-insert_further-in-Some-compare.ensures.changes.frame standing)
    (refused_same same lacks.refused)
    (λ branches on.
    let o = missing_branches g.C.CellRead.has g.U.Space.account c.args.usage.now c.in-Some.is c.cell-node.ensures.value c.cell-node.ensures.same c.compare.ensures.same c.compare.ensures.value c.in-Some-compare.is branches on in
    subst (λ (ns : List ℕ). Contains (insert_asks c.args.item.now ns) c.in_err-insert_further-in-Some-compare.field-0.0.needed) (sym o.3) (lacks.asked o.0 o.1 o.2)))

pub returns-in_err-insert_first-clause-stays : goal.returns-in_err-insert_first-clause-stays
returns-in_err-insert_first-clause-stays g c =
    let lacks = c.in_err-insert_first.ensures.lacks in
    err_on _ c.from_residual.result c.from_residual.ensures.1 (stays_full
    (λ version standing. trie_later version c.args.root refl lacks.refused (fenced_of c.in_err-insert_first.ensures.takes.frame) standing)
    lacks.refused
    (λ branches on.
    let none : branches ≡ [] = subst (λ (o : Option ℕ). BranchesOnPath g.C.CellRead.has g.U.Space.account c.args.cells.now c.args.usage.now o c.args.key.now branches) (is_none c.args.root c.in_default.not-Some) on in
    insert_begins c.args.item.now branches _ none lacks.asked))

pub returns-in_err-insert_first-clause-changes : goal.returns-in_err-insert_first-clause-changes
returns-in_err-insert_first-clause-changes g c = let s = c.insert_first.ensures.takes.consumes in record {
  outside = λ q x b h. c.insert_first.ensures.takes.frame.stays q x b.0 h;
  consumes = λ n on. omega arith;
  copies = λ n on. omega arith;
  frame = fenced_of c.insert_first.ensures.takes.frame;
  ready = c.insert_first.ensures.takes.ready;
}

pub returns-in_default-clause-changes : goal.returns-in_default-clause-changes
returns-in_default-clause-changes g c = let s = c.insert_first.ensures.takes.consumes in record {
  outside = λ q x b h. c.insert_first.ensures.takes.frame.stays q x b.0 h;
  consumes = λ n on. omega arith;
  copies = λ n on. omega arith;
  frame = fenced_of c.insert_first.ensures.takes.frame;
  ready = c.insert_first.ensures.takes.ready;
}

pub returns-in-None-clause-stays : goal.returns-in-None-clause-stays
returns-in-None-clause-stays g c = stays_refused (c.compare.ensures.same ∙ c.cell-node.ensures.same)

pub returns-in-None-clause-changes : goal.returns-in-None-clause-changes
returns-in-None-clause-changes g c = changes_none (c.compare.ensures.same ∙ c.cell-node.ensures.same) c.requires.ready

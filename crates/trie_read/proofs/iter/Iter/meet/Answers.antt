use Rattle.std.proofs.Common.{◌++◌, ◌∙◌, [], ℕ, Option, Some, None, refl, sym, subst}
use Rattle.trie_model.specs.Memory.{top_cell, Stands}
use Rattle.trie_read.specs.Reads.{IsLeafOf}
use Rattle.trie_read.specs.Walks.{Guided, Approached, Meets}
use Rattle.trie_read.proofs.PathLaws.{leads_in}
use Rattle.trie_read.proofs.IterLaws.{leads_to_root}
use Rattle.trie_read.proofs.SeekLaws.{sought_of, sought_told, sought_path, meets_of}
use Rattle.trie_read.proofs.iter.Iter.meet.Goals as goal

pub cell-cell-requires : goal.cell-cell-requires
cell-cell-requires g c =
    let h = c.requires.stands in
    let stands = subst (λ (o : Option ℕ). Stands (g.C.CellRead.has c.args.cells.now) o (h.before ++ h.after)) (sym h.standing.root_is ∙ c.requires.root) h.standing.stands in
    record { there = (top_cell stands.0, stands.1.top) }

pub approach-leaf-requires : goal.approach-leaf-requires
approach-leaf-requires g c =
    let h = c.requires.stands in let has = g.C.CellRead.has c.args.cells.now in
    let stands = subst (λ (o : Option ℕ). Stands (g.C.CellRead.has c.args.cells.now) o (h.before ++ h.after)) (sym h.standing.root_is ∙ c.requires.root) h.standing.stands in
    record {
      whole = stands.0;
      tree = stands.0;
      before = [];
      after = [];
      leads = leads_in g.C.CellRead.has c.args.cells.now c.cell-cell.new.self (Guided c.args.key.now) _ stands.0 stands.0 [] [] c.cell-cell.ensures.same (leads_to_root has (Guided c.args.key.now) c.args.root stands.0 (h.before ++ h.after) _ stands.1 refl);
      is = c.cell-cell.ensures.value (top_cell stands.0) stands.1.top;
    }

pub difference_at-difference-requires : goal.difference_at-difference-requires
difference_at-difference-requires g c =
    let h = c.requires.stands in
    let has = g.C.CellRead.has c.args.cells.now in let k = c.args.key.now in
    let found = sought_of has k c.args.root h.root c.args.self.now c.approach-leaf.new.self c.approach-leaf.result h.before h.after h.standing c.requires.root (λ whole version trie. subst (λ s. Approached k (g.C.CellRead.has s) c.approach-leaf.new.self whole c.approach-leaf.result) c.cell-cell.ensures.same
    (c.approach-leaf.ensures.leaf whole whole [] [] (leads_in g.C.CellRead.has c.args.cells.now c.cell-cell.new.self (Guided k) _ whole whole [] [] c.cell-cell.ensures.same (leads_to_root has (Guided k) c.args.root whole version _ trie refl)) (c.cell-cell.ensures.value (top_cell whole) trie.top))) in
    (found.at.entry, (subst (λ t. IsLeafOf (g.C.CellRead.has t) found.at.entry c.approach-leaf.result) (sym (c.approach-leaf.ensures.same ∙ c.cell-cell.ensures.same)) found.at.leaf.leaf_of), sought_told has k c.args.root h.root (h.before ++ h.after) c.approach-leaf.new.self c.approach-leaf.result found h.standing.told)

pub cut-requires : goal.cut-requires
cut-requires g c =
    let h = c.requires.stands in
    let has = g.C.CellRead.has c.args.cells.now in let k = c.args.key.now in
    let found = sought_of has k c.args.root h.root c.args.self.now c.approach-leaf.new.self c.approach-leaf.result h.before h.after h.standing c.requires.root (λ whole version trie. subst (λ s. Approached k (g.C.CellRead.has s) c.approach-leaf.new.self whole c.approach-leaf.result) c.cell-cell.ensures.same
    (c.approach-leaf.ensures.leaf whole whole [] [] (leads_in g.C.CellRead.has c.args.cells.now c.cell-cell.new.self (Guided k) _ whole whole [] [] c.cell-cell.ensures.same (leads_to_root has (Guided k) c.args.root whole version _ trie refl)) (c.cell-cell.ensures.value (top_cell whole) trie.top))) in
    sought_path has k c.args.root h.root (h.before ++ h.after) c.approach-leaf.new.self c.approach-leaf.result found

pub returns-in-Some-clause-meets : goal.returns-in-Some-clause-meets
returns-in-Some-clause-meets g c any before after s =
    let has = g.C.CellRead.has c.args.cells.now in let k = c.args.key.now in
    let found = sought_of has k c.args.root any c.args.self.now c.approach-leaf.new.self c.approach-leaf.result before after s c.requires.root (λ whole version trie. subst (λ s. Approached k (g.C.CellRead.has s) c.approach-leaf.new.self whole c.approach-leaf.result) c.cell-cell.ensures.same
    (c.approach-leaf.ensures.leaf whole whole [] [] (leads_in g.C.CellRead.has c.args.cells.now c.cell-cell.new.self (Guided k) _ whole whole [] [] c.cell-cell.ensures.same (leads_to_root has (Guided k) c.args.root whole version _ trie refl)) (c.cell-cell.ensures.value (top_cell whole) trie.top))) in
    let differs = c.in-Some.ensures.difference found.at.entry (subst (λ t. IsLeafOf (g.C.CellRead.has t) found.at.entry c.approach-leaf.result) (sym (c.approach-leaf.ensures.same ∙ c.cell-cell.ensures.same)) found.at.leaf.leaf_of) (sought_told has k c.args.root any (before ++ after) c.approach-leaf.new.self c.approach-leaf.result found s.told) in
    let cut = c.cut.ensures k found.whole found.at.entry found.at.leaf.extents found.at.before found.at.after found.trie.shape found.at.leaf.leads.hangs in
    meets_of has k c.args.root any (before ++ after) c.approach-leaf.new.self c.cut.new.self c.approach-leaf.result (Some c.in-Some.first) found c.in-Some.ensures.key s.told differs cut

pub returns-in_default-clause-meets : goal.returns-in_default-clause-meets
returns-in_default-clause-meets g c any before after s =
    let has = g.C.CellRead.has c.args.cells.now in let k = c.args.key.now in
    let found = sought_of has k c.args.root any c.args.self.now c.approach-leaf.new.self c.approach-leaf.result before after s c.requires.root (λ whole version trie. subst (λ s. Approached k (g.C.CellRead.has s) c.approach-leaf.new.self whole c.approach-leaf.result) c.cell-cell.ensures.same
    (c.approach-leaf.ensures.leaf whole whole [] [] (leads_in g.C.CellRead.has c.args.cells.now c.cell-cell.new.self (Guided k) _ whole whole [] [] c.cell-cell.ensures.same (leads_to_root has (Guided k) c.args.root whole version _ trie refl)) (c.cell-cell.ensures.value (top_cell whole) trie.top))) in
    let differs = c.in_default.ensures.difference found.at.entry (subst (λ t. IsLeafOf (g.C.CellRead.has t) found.at.entry c.approach-leaf.result) (sym (c.approach-leaf.ensures.same ∙ c.cell-cell.ensures.same)) found.at.leaf.leaf_of) (sought_told has k c.args.root any (before ++ after) c.approach-leaf.new.self c.approach-leaf.result found s.told) in
    subst (λ d. Meets has k c.args.root c.approach-leaf.new.self (record { leaf = c.approach-leaf.result; difference = d }) (before ++ after)) (sym c.in_default.is)
    (meets_of has k c.args.root any (before ++ after) c.approach-leaf.new.self c.approach-leaf.new.self c.approach-leaf.result None found c.in_default.ensures.key s.told differs (found.at.leaf.extents, (found.at.before, (found.at.after, found.at.leaf.leads.hangs))))

use Rattle.std.proofs.Common.{◌≡◌, ◌+◌, ◌-◌, ◌<◌, ◌++◌, List, arith, rules, sym, ap, ◌∙◌, subst}
use Rattle.trie_model.specs.Keys.{Entry}
use Rattle.trie_model.specs.Trees.{entries, entries_of}
use Rattle.trie_model.specs.Memory.{top_cell}
use Rattle.trie_read.specs.Walks.{AnyStep, LeadsToFirst}
use Rattle.trie_read.proofs.TwigLaws.{ith_of}
use Rattle.trie_read.proofs.PathLaws.{node_there, says_there, at_branch, at_leaf, stepped, leads_in, first_leaf, first_before, first_all}
use Rattle.trie_read.proofs.path.Path.+enter_first.Goals as goal

pub of-requires : goal.of-requires
of-requires g t c = says_there AnyStep (g.C.CellRead.has c.args.cells.now) c.args.self.now c.args.cell c.requires

pub push-requires-clause-room : goal.push-requires-clause-room
push-requires-clause-room g t c =
    let h = c.requires in
    (at_branch AnyStep (g.C.CellRead.has c.args.cells.now) c.args.self.now h.whole h.tree h.before h.after c.in-Branch.branch h.leads (sym (node_there AnyStep (g.C.CellRead.has c.args.cells.now) c.args.self.now h.whole h.tree h.before h.after c.args.cell c.of.result h.leads h.is c.of.ensures.back) ∙ c.in-Branch.is)).room

pub cell-twig-requires : goal.cell-twig-requires
cell-twig-requires g t c =
    let has = g.C.CellRead.has c.args.cells.now in let b = c.in-Branch.branch in let h = c.requires in
    let a = at_branch AnyStep has c.args.self.now h.whole h.tree h.before h.after c.in-Branch.branch h.leads (sym (node_there AnyStep has c.args.self.now h.whole h.tree h.before h.after c.args.cell c.of.result h.leads h.is c.of.ensures.back) ∙ c.in-Branch.is) in
    let x = ith_of has b a.below 0 a.of (let n = a.two in omega arith) in
    record { there = (top_cell x.tree, let e : b.twigs + 0 ≡ b.twigs = omega arith in subst (λ n. has n (top_cell x.tree)) e x.there) }

pub enter_first-requires : goal.enter_first-requires
enter_first-requires g t c κs within =
    let has = g.C.CellRead.has c.args.cells.now in let b = c.in-Branch.branch in let h = c.requires in
    let a = at_branch AnyStep has c.args.self.now h.whole h.tree h.before h.after c.in-Branch.branch h.leads (sym (node_there AnyStep has c.args.self.now h.whole h.tree h.before h.after c.args.cell c.of.result h.leads h.is c.of.ensures.back) ∙ c.in-Branch.is) in
    let x = ith_of has b a.below 0 a.of (let n = a.two in omega arith) in
    let next = stepped AnyStep has c.args.self.now c.push.new.self h.whole b a.below h.before h.after 0 x a.leads a.counted c.push.ensures.depth c.push.ensures.step c.push.ensures.before tt in
    let fall : 504 - c.push.new.self.depth < 504 - c.args.self.now.depth = let d = c.push.ensures.depth in let r = a.room in omega arith in (
      search (rules, fall),
      (
        within,
        record {
          whole = h.whole;
          tree = x.tree;
          before = h.before ++ entries x.left;
          after = entries x.right ++ h.after;
          leads = leads_in g.C.CellRead.has c.args.cells.now c.cell-twig.new.self AnyStep c.push.new.self h.whole x.tree (h.before ++ entries x.left) (entries x.right ++ h.after) c.cell-twig.ensures.same next;
          is = c.cell-twig.ensures.value (top_cell x.tree) (let e : b.twigs + 0 ≡ b.twigs = omega arith in subst (λ n. has n (top_cell x.tree)) e x.there);
        },
      ),
    )

pub returns-in-Leaf-clause-first : goal.returns-in-Leaf-clause-first
returns-in-Leaf-clause-first g t c whole tree before after leads is =
    let has = g.C.CellRead.has c.args.cells.now in
    first_leaf has c.args.self.now whole tree before after c.in-Leaf.leaf (at_leaf AnyStep has c.args.self.now whole tree before after c.in-Leaf.leaf leads (sym (node_there AnyStep has c.args.self.now whole tree before after c.args.cell c.of.result leads is c.of.ensures.back) ∙ c.in-Leaf.is)) leads

pub returns-in-Branch-clause-first : goal.returns-in-Branch-clause-first
returns-in-Branch-clause-first g t c whole tree before after leads is =
    let has = g.C.CellRead.has c.args.cells.now in let b = c.in-Branch.branch in
    let a = at_branch AnyStep has c.args.self.now whole tree before after c.in-Branch.branch leads (sym (node_there AnyStep has c.args.self.now whole tree before after c.args.cell c.of.result leads is c.of.ensures.back) ∙ c.in-Branch.is) in
    let x = ith_of has b a.below 0 a.of (let n = a.two in omega arith) in
    let next = stepped AnyStep has c.args.self.now c.push.new.self whole b a.below before after 0 x a.leads a.counted c.push.ensures.depth c.push.ensures.step c.push.ensures.before tt in
    let there = leads_in g.C.CellRead.has c.args.cells.now c.cell-twig.new.self AnyStep c.push.new.self whole x.tree (before ++ entries x.left) (entries x.right ++ after) c.cell-twig.ensures.same next in
    let rest = c.enter_first.ensures.first whole x.tree (before ++ entries x.left) (entries x.right ++ after) there (c.cell-twig.ensures.value (top_cell x.tree) (let e : b.twigs + 0 ≡ b.twigs = omega arith in subst (λ n. has n (top_cell x.tree)) e x.there)) in
    subst (λ (all : List Entry). LeadsToFirst has c.enter_first.new.self whole c.enter_first.result before all) (first_all has b a.below after x ∙ ap (λ (es : List Entry). es ++ after) (sym a.all))
    (subst (λ (front : List Entry). LeadsToFirst has c.enter_first.new.self whole c.enter_first.result front (entries_of x.tree ++ (entries x.right ++ after))) (first_before has b a.below before x)
    (subst (λ s. LeadsToFirst (g.C.CellRead.has s) c.enter_first.new.self whole c.enter_first.result (before ++ entries x.left) (entries_of x.tree ++ (entries x.right ++ after))) c.cell-twig.ensures.same rest))

use Rattle.std.proofs.Common.{◌≡◌, [], sym, subst, true}
use Rattle.std.specs.Prelude.{◌↔◌}
use Rattle.zone_model.specs.Keys.{key_of}
use Rattle.trie_read.specs.Reads.{FindsLeaf}
use Rattle.zone_table.specs.Tables.{IsAttached}
use Rattle.zone_table.proofs.RememberLaws.{is_found}
use Rattle.zone_table.proofs.remembered.Finder.has.Goals as goal

pub lookup-leaf-requires : goal.lookup-leaf-requires
lookup-leaf-requires g c =
    let es = c.requires.0 in
    ([], (es, subst (λ v. g.V.Reading.stands v c.restart.new.iter [] es) (sym c.restart.ensures.same) (c.restart.ensures.start es c.requires.1)))

pub returns-clause-has : goal.returns-clause-has
returns-clause-has g c = λ es held.
    let standing = subst (λ v. g.V.Reading.stands v c.restart.new.iter [] es) (sym c.restart.ensures.same) (c.restart.ensures.start es held) in
    let found = subst (λ key. FindsLeaf (g.V.Reading.lies c.restart.new.self) key es c.lookup-leaf.result) c.set.ensures (c.lookup-leaf.ensures.leaf [] es standing) in
    subst (λ b. (b ≡ true) ↔ IsAttached es c.args.origin.now) (sym c.is_some.ensures) (is_found (g.V.Reading.lies c.restart.new.self) (key_of c.args.origin.now) es c.lookup-leaf.result found)

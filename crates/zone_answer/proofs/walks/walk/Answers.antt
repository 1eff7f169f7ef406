use Rattle.std.proofs.Common.{◌≡◌, [], ℕ, List, IfOk, map, take, sym, subst}
use Rattle.zone_model.specs.Names.{Name}
use Rattle.trie_model.specs.Keys.{Entry}
use Rattle.trie_read.specs.Readings.{AtSplit}
use Rattle.zone_answer.specs.Standing.{trie_entry}
use Rattle.zone_answer.proofs.WalkLaws.{split_at}
use Rattle.zone_answer.proofs.walks.walk.Goals as goal

pub returns-clause-names : goal.returns-clause-names
returns-clause-names g c zone shown =
    let entries : List Entry = map trie_entry zone in
    let began = subst (λ v. g.V.Reading.stands v c.iter-iter.result [] entries) (sym c.iter-iter.ensures.same) (c.iter-iter.ensures.start entries shown.held) in
    let found = subst (λ v. AtSplit (g.V.Reading.stands v c.seek.new.iter) c.of.result entries) (sym c.seek.ensures.same) (c.seek.ensures.split [] entries began) in
    let place = split_at c.args.name.now zone (g.V.Reading.stands c.seek.new.self c.seek.new.iter) c.wire-wire.ensures.name shown.version_is (subst (λ (k : List ℕ). AtSplit (g.V.Reading.stands c.seek.new.self c.seek.new.iter) k entries) c.of.ensures found) in
    subst (λ (l : List Name). IfOk c.next_names.result (λ names. names.items ≡ take c.args.most l)) place.from_is (c.next_names.ensures.names (map trie_entry place.front) place.back place.back_items place.standing)

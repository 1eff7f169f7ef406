use Rattle.std.proofs.Common.{◌∙◌, ℕ, List, ◌++◌, length, map, sym, ap, subst, arith, Option}
use Rattle.zone_model.specs.Keys.{key_of}
use Rattle.zone_model.specs.Versions.{owned}
use Rattle.trie_model.specs.Keys as trie
use Rattle.zone_answer.specs.Parts.{IsNodeOf, held_as, own_node}
use Rattle.zone_answer.specs.Standing.{PartsAt, trie_entry}
use Rattle.zone_answer.proofs.NodeLaws.{no_own, some_own}
use Rattle.zone_answer.proofs.AncestorLaws.{self_under}
use Rattle.zone_answer.proofs.ChainLaws.{there_exists}
use Rattle.zone_answer.proofs.HeldLaws.{read_of}
use Rattle.zone_answer.proofs.ReachLaws.{parts_at, found_at, not_there, none_exists, ends_by, ends_behind}
use Rattle.zone_answer.proofs.node.existing.Goals as goal

pub reach-requires : goal.reach-requires
reach-requires g c = let on = c.requires.stands.1 in (on.before, (on.after, on.standing))

pub read-len-requires-clause-there : goal.read-len-requires-clause-there
read-len-requires-clause-there g c =
    let on = c.requires.stands.1 in
    let near = c.in_ok-met.ensures.nearest on.before on.after on.standing in
    (near.entry, subst (λ s. g.V.Reading.lies s c.in_ok-met.met.leaf near.entry) (sym c.reach.ensures.same) near.leaf)

pub returns-in_err-met-clause-node : goal.returns-in_err-met-clause-node
returns-in_err-met-clause-node g c zone on =
    let none = no_own zone c.args.name.now (none_exists c.args.name.now zone (on.whole ∙ c.in_err-met.ensures.nearest on.before on.after on.standing)) in
    subst (λ (o : Option ℕ). IsNodeOf c.args.item.now (own_node zone c.args.name.now) (held_as c.args.name.now o)) (sym c.from_residual.ensures) (sym none)

pub returns-in_default-clause-node : goal.returns-in_default-clause-node
returns-in_default-clause-node g c zone on =
    let near = c.in_ok-met.ensures.nearest on.before on.after on.standing in
    let there = subst (trie.InList near.entry) (sym on.whole) near.there in
    let key = found_at (g.V.Reading.lies c.args.version.now) c.set.new.self (on.before ++ on.after) c.in_ok-met.met c.in_default.is near ∙ c.set.ensures in
    let read = c.read-len.ensures.item near.entry (subst (λ s. g.V.Reading.lies s c.in_ok-met.met.leaf near.entry) (sym c.reach.ensures.same) near.leaf) in
    let is = read_of c.args.name.now zone near.entry c.read-len.new.out c.read-len.result c.wire-wire.ensures.name on.shows.version_is there key read.0 read.1 in
    (owned c.args.name.now zone, sym (some_own zone c.args.name.now (there_exists c.args.name.now zone c.wire-wire.ensures.name on.shows.version_is.items (near.entry, there, key))), record { within = is.within; says = is.says })

pub returns-then-first-len-clause-node : goal.returns-then-first-len-clause-node
returns-then-first-len-clause-node g c zone on =
    let near = c.in_ok-met.ensures.nearest on.before on.after on.standing in
    let parts = parts_at (g.V.Reading.lies c.args.version.now) c.set.new.self (on.before ++ on.after) c.in_ok-met.met c.in-Some.first c.in-Some.is near in
    let here : PartsAt (key_of c.args.name.now) (map trie_entry zone) c.in-Some.first.place =
    subst (λ (k : List ℕ). PartsAt k (map trie_entry zone) c.in-Some.first.place) c.set.ensures (subst (λ (es : List trie.Entry). PartsAt c.set.new.self es c.in-Some.first.place) (sym on.whole) parts) in
    let size = ap (λ (k : List ℕ). length k) c.set.ensures in
    sym (no_own zone c.args.name.now (ends_behind c.args.name.now c.args.name.now zone c.in-Some.first.place (self_under c.args.name.now) here (let l = c.len.ensures.length in omega arith)))

pub returns-clause-node : goal.returns-clause-node
returns-clause-node g c zone on =
    let near = c.in_ok-met.ensures.nearest on.before on.after on.standing in
    let parts = parts_at (g.V.Reading.lies c.args.version.now) c.set.new.self (on.before ++ on.after) c.in_ok-met.met c.in-Some.first c.in-Some.is near in
    let here : PartsAt (key_of c.args.name.now) (map trie_entry zone) c.in-Some.first.place =
    subst (λ (k : List ℕ). PartsAt k (map trie_entry zone) c.in-Some.first.place) c.set.ensures (subst (λ (es : List trie.Entry). PartsAt c.set.new.self es c.in-Some.first.place) (sym on.whole) parts) in
    let size = ap (λ (k : List ℕ). length k) c.set.ensures in
    let there = ends_by c.args.name.now c.args.name.now zone c.in-Some.first.place c.wire-wire.ensures.name on.shows.version_is.items (self_under c.args.name.now) here (let l = c.len.ensures.length in omega arith) in
    let none = not_there c.args.name.now zone c.in-Some.first.place here in
    (owned c.args.name.now zone, sym (some_own zone c.args.name.now there), record { within = omega arith; says = sym none })

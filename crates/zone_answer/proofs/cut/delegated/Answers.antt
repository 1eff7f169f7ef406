use Rattle.std.proofs.Common.{◌∙◌, ℕ, map, refl, rules, sym, ap, subst, Option}
use Rattle.std.specs.Option.{is_some}
use Rattle.zone_model.specs.Names.{ancestor}
use Rattle.zone_model.specs.Keys.{key_of}
use Rattle.zone_model.specs.Records.{Entry, rrset_of}
use Rattle.zone_model.specs.Versions.{owned}
use Rattle.trie_model.specs.Order.{chain, chain_labels}
use Rattle.zone_answer.specs.Parts.{IsCutOf, IsHeld, delegated, held_as}
use Rattle.zone_answer.specs.declared.records.Held.{Held}
use Rattle.zone_answer.specs.Standing.{trie_entry}
use Rattle.zone_answer.proofs.ChainLaws.{off_chain}
use Rattle.zone_answer.proofs.CutLaws.{found_set, is_delegated, not_delegated}
use Rattle.zone_answer.proofs.HeldLaws.{Sought, sought, read_above, held_of}
use Rattle.zone_answer.proofs.cut.delegated.Goals as goal

pub returns-in_err-leaf-clause-cut : goal.returns-in_err-leaf-clause-cut
returns-in_err-leaf-clause-cut g c zone shows =
    let key = key_of c.args.name.now in
    let es = chain key (map trie_entry zone) in
    let none = subst (Sought (g.V.Reading.lies c.args.version.now) c.args.labels es) (sym c.in_err-leaf.ensures) (sought (g.V.Reading.lies c.args.version.now) c.args.labels es c.args.above.now shows.above_are) in
    let nothing = off_chain c.args.labels c.args.name.now zone (chain_labels key (map trie_entry zone)) shows.shows.version_is c.requires.few refl none in
    subst (λ (o : Option ℕ). IsCutOf zone c.args.item.now (delegated zone (ancestor c.args.labels c.args.name.now)) (held_as (ancestor c.args.labels c.args.name.now) o)) (sym c.from_residual.ensures)
    (not_delegated zone (ancestor c.args.labels c.args.name.now) (ap (λ (x : Entry). is_some (rrset_of 2 x)) nothing))

pub read-len-requires-clause-there : goal.read-len-requires-clause-there
read-len-requires-clause-there g c =
    let shown = c.requires.shown in
    let es = chain (key_of c.args.name.now) (map trie_entry shown.0) in
    let s = subst (Sought (g.V.Reading.lies c.args.version.now) c.args.labels es) (sym c.in_ok-leaf.ensures) (sought (g.V.Reading.lies c.args.version.now) c.args.labels es c.args.above.now shown.1.above_are) in
    (s.0, s.2)

pub view-requires : goal.view-requires
view-requires g c =
    let zone = c.requires.shown.0 in
    let shows = c.requires.shown.1 in
    let top = ancestor c.args.labels c.args.name.now in
    let es = chain (key_of c.args.name.now) (map trie_entry zone) in
    let s = subst (Sought (g.V.Reading.lies c.args.version.now) c.args.labels es) (sym c.in_ok-leaf.ensures) (sought (g.V.Reading.lies c.args.version.now) c.args.labels es c.args.above.now shows.above_are) in
    let read = read_above (g.V.Reading.lies c.args.version.now) c.args.name.now zone c.args.labels c.in_ok-leaf.leaf c.read-len.new.out c.read-len.result c.wire-wire.ensures.name shows.shows.version_is s c.read-len.ensures.item in
    let here = held_of (record { name = top; len = c.read-len.result }) zone c.read-len.new.out read in
    (owned top zone, subst (λ (h : Held). IsHeld c.read-len.new.out h (owned top zone)) (sym c.held-held.ensures) here)

pub returns-then-is_none-clause-cut : goal.returns-then-is_none-clause-cut
returns-then-is_none-clause-cut g c zone shows =
    let top = ancestor c.args.labels c.args.name.now in
    let es = chain (key_of c.args.name.now) (map trie_entry zone) in
    let s = subst (Sought (g.V.Reading.lies c.args.version.now) c.args.labels es) (sym c.in_ok-leaf.ensures) (sought (g.V.Reading.lies c.args.version.now) c.args.labels es c.args.above.now shows.above_are) in
    let read = read_above (g.V.Reading.lies c.args.version.now) c.args.name.now zone c.args.labels c.in_ok-leaf.leaf c.read-len.new.out c.read-len.result c.wire-wire.ensures.name shows.shows.version_is s c.read-len.ensures.item in
    let here = held_of (record { name = top; len = c.read-len.result }) zone c.read-len.new.out read in
    let seen = c.view.ensures (owned top zone) (subst (λ (h : Held). IsHeld c.read-len.new.out h (owned top zone)) (sym c.held-held.ensures) here) in
    not_delegated zone top (found_set c.find_set.result c.view.result (owned top zone) seen c.find_set.ensures ∙ search (rules, c.is_none.ensures, c.if-is_none.true))

pub returns-clause-cut : goal.returns-clause-cut
returns-clause-cut g c zone shows =
    let top = ancestor c.args.labels c.args.name.now in
    let es = chain (key_of c.args.name.now) (map trie_entry zone) in
    let s = subst (Sought (g.V.Reading.lies c.args.version.now) c.args.labels es) (sym c.in_ok-leaf.ensures) (sought (g.V.Reading.lies c.args.version.now) c.args.labels es c.args.above.now shows.above_are) in
    let read = read_above (g.V.Reading.lies c.args.version.now) c.args.name.now zone c.args.labels c.in_ok-leaf.leaf c.read-len.new.out c.read-len.result c.wire-wire.ensures.name shows.shows.version_is s c.read-len.ensures.item in
    let here = held_of (record { name = top; len = c.read-len.result }) zone c.read-len.new.out read in
    let seen = c.view.ensures (owned top zone) (subst (λ (h : Held). IsHeld c.read-len.new.out h (owned top zone)) (sym c.held-held.ensures) here) in
    (is_delegated zone top (found_set c.find_set.result c.view.result (owned top zone) seen c.find_set.ensures ∙ search (rules, c.is_none.ensures, c.if-is_none.false)), here)

use Rattle.std.proofs.Common.{map}
use Rattle.zone_answer.specs.Standing.{trie_entry}
use Rattle.zone_answer.proofs.HeldLaws.{fetched, not_fetched}
use Rattle.zone_answer.proofs.records.read_owned.Goals as goal

pub returns-in-Some-clause-within : goal.returns-in-Some-clause-within
returns-in-Some-clause-within g c =
    let s = c.requires.shown in
    (fetched c.args.name.now s.0 c.args.key.now c.args.item.now c.fetch.new.out c.in-Some.len c.wire-wire.ensures.name s.1.version_is c.requires.key (c.in-Some.ensures.item (map trie_entry s.0) s.1.held)).within

pub returns-in-Some-clause-read : goal.returns-in-Some-clause-read
returns-in-Some-clause-read g c zone shows =
    fetched c.args.name.now zone c.args.key.now c.args.item.now c.fetch.new.out c.in-Some.len c.wire-wire.ensures.name shows.version_is c.requires.key (c.in-Some.ensures.item (map trie_entry zone) shows.held)

pub returns-in-None-clause-read : goal.returns-in-None-clause-read
returns-in-None-clause-read g c zone shows =
    not_fetched c.args.name.now zone c.args.key.now c.args.item.now c.fetch.new.out c.requires.key (c.in-None.ensures.item (map trie_entry zone) shows.held)

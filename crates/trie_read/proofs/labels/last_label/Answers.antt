use Rattle.std.proofs.Common.{length, arith, ap}
use Rattle.trie_read.proofs.LabelLaws.{last_there, wire_some}
use Rattle.trie_read.proofs.labels.last_label.Goals as goal

pub bounds-octets-0 : goal.bounds-octets-0
bounds-octets-0 c = let k = c.wire-octets.ensures.key in let some = wire_some k.0 in let e = ap length (c.wire-octets.ensures.wire k.0 k.1 k.2) in omega arith

pub returns-clause-within : goal.returns-clause-within
returns-clause-within c =
    let k = c.wire-octets.ensures.key in let n = c.len.ensures.length in let s = c.saturating_sub.ensures in
    last_there c.args.key.now c.wire-octets.result.now k.0 k.1.each k.2 (c.wire-octets.ensures.wire k.0 k.1 k.2) c.saturating_sub.result (omega arith)

use Rattle.std.specs.Prelude.{◌≡◌, List, length}
use Rattle.trie_model.specs.Keys.{Entry}
use Rattle.zone_table.proofs.RememberLaws.{AreMarked}
use Rattle.zone_table.proofs.remembered.attached_in.Given as goal

-- it is told of the zones so far
abbrev pub invariant-loop-zone : goal.invariant-loop-zone
invariant-loop-zone g l = record {
  same : l.version ≡ l.fn.version;
  wide : length l.attached ≡ 16;
  marked : (es : List Entry) → g.V.Reading.holds l.fn.version es → AreMarked l.origins es l.zone l.attached;
}

use Rattle.std.proofs.Common.{◌≡◌, ◌-◌, ◌≤◌, List, map, length, reverse}
use Rattle.std.specs.List.{AllByRecursion}
use Rattle.std.specs.Map.{keys_of}
use Rattle.zone_model.specs.Versions.{Version}
use Rattle.trie_model.specs.Keys.{Entry}
use Rattle.trie_read.specs.Readings.{IsStanding}
use Rattle.zone_answer.specs.Standing.{IsStorable, trie_entry}
use Rattle.zone_answer.proofs.WalkLaws.{Backed}
use Rattle.zone_answer.proofs.walks.previous_names.Given as goal

abbrev pub invariant-loop-version : goal.invariant-loop-version
invariant-loop-version g l = record {
  same : l.version ≡ l.fn.version;
  standing : IsStanding (g.V.Reading.stands l.version l.iter);
  few : length l.names.items ≤ l.most;
  backed : (rest : Version) (after : List Entry) → AllByRecursion IsStorable rest → g.V.Reading.stands l.fn.version l.fn.iter (map trie_entry rest) after
      → Backed (g.V.Reading.stands l.version l.iter) l.names.items (reverse (keys_of rest));
}

abbrev pub decreases-loop-version : goal.decreases-loop-version
decreases-loop-version g l = l.most - length l.names.items

use Rattle.zone_text.proofs.SpellingLemmas.{spelled_so, spelled_only}
use Rattle.zone_text.proofs.entry_tokens.tokens.Goals as goal

pub returns-clause-says : goal.returns-clause-says
returns-clause-says c = record {
  spelled = spelled_so _ _ _ _ c.scan_entry.ensures.reads;
  only = λ out h. spelled_only _ _ _ _ out c.scan_entry.ensures.reads h;
  reads = c.scan_entry.ensures.reads;
}

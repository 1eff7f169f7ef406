use Rattle.zone_text.proofs.EntryLemmas.{line_read, line_refused}
use Rattle.zone_text.proofs.entry_tokens.scan_line.Goals as goal

pub returns-in-Ok-clause-reads : goal.returns-in-Ok-clause-reads
returns-in-Ok-clause-reads c = line_read _ _ _ _ _ c.args.scan.now c.scan_tokens.new.scan c.line_at-upto.ensures c.in-Ok.ensures.apart c.in-Ok.ensures.gives

pub returns-in-Err-clause-reads : goal.returns-in-Err-clause-reads
returns-in-Err-clause-reads c = line_refused _ _ _ _ _ c.args.scan.now c.scan_tokens.new.scan _ c.line_at-upto.ensures c.in-Err.ensures.gives

use Rattle.std.proofs.Common.{rules, Ok, Err, drop}
use Rattle.zone_text.specs.Places.{first_line}
use Rattle.zone_text.proofs.SingleLemmas.{single_read, single_refused, single_rest}
use Rattle.zone_text.proofs.SpellingLemmas.{line_says_so}
use Rattle.zone_text.proofs.single_lines.line_tokens.Goals as goal

pub scan_tokens-requires-clause-scanned : goal.scan_tokens-requires-clause-scanned
scan_tokens-requires-clause-scanned c = c.new_scan-scan.ensures.scanned c.args.bytes.now c.args.from

pub returns-in-Ok-clause-says : goal.returns-in-Ok-clause-says
returns-in-Ok-clause-says c = line_says_so c.args.bytes.now c.args.line (first_line (drop c.args.from c.args.bytes.now)) (Ok c.line_of.result)
    (single_read _ _ _ _ _ c.new_scan-scan.result c.scan_tokens.new.scan c.line_of.result c.line_at-upto.ensures (c.new_scan-scan.ensures.fresh c.args.bytes.now c.args.from) c.in-Ok.ensures.gives c.line_of.ensures.tokens c.line_of.ensures.parens)

pub returns-in-Ok-clause-lexed : goal.returns-in-Ok-clause-lexed
returns-in-Ok-clause-lexed c = record {
  placed = search rules;
  on = search rules;
  inside = search rules;
  rest = single_rest _ _ _ _ _ c.line_at-upto.ensures c.line_of.ensures.next;
}

pub returns-in-Err-clause-says : goal.returns-in-Err-clause-says
returns-in-Err-clause-says c = line_says_so c.args.bytes.now c.args.line (first_line (drop c.args.from c.args.bytes.now)) (Err c.in-Err.refusal)
    (single_refused _ _ _ _ _ c.new_scan-scan.result c.scan_tokens.new.scan _ c.line_at-upto.ensures (c.new_scan-scan.ensures.fresh c.args.bytes.now c.args.from) c.in-Err.ensures.gives)

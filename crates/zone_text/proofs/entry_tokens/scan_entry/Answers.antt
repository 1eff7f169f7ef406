use Rattle.std.proofs.Common.{arith, ap, sym, drop}
use Rattle.zone_model.specs.Lines.{lines_of}
use Rattle.zone_model.specs.Tokens as says
use Rattle.zone_model.specs.Tokens.{entry_from}
use Rattle.zone_text.proofs.entry_tokens.scan_entry.Goals as goal

pub loop-at-init : goal.loop-at-init
loop-at-init c = record {
  goes_on = ap (λ (s : says.Scan). entry_from c.args.line (lines_of (drop c.args.from c.args.bytes.now)) s) (sym (c.new_scan-scan.ensures.fresh c.args.bytes.now c.args.from));
  scanned = c.new_scan-scan.ensures.scanned c.args.bytes.now c.args.from;
  inside = c.requires.inside;
  counted = omega arith;
  beyond = omega arith;
}

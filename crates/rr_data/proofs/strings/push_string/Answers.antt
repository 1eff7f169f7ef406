use Rattle.std.proofs.Common.{arith}
use Rattle.rr_data.proofs.StringLemmas.{string_done}
use Rattle.rr_data.proofs.strings.push_string.Goals as goal

pub returns : goal.returns
returns c = string_done c.args.out.now.items c.push.new.self.items c.push_unescaped.new.out.items _ c.args.at _ _ _ c.in_ok-push.ensures.items c.if-not-branch.false c.in_ok-push_unescaped.ensures (omega (arith, c.len-start.ensures, c.args.out.now.ok.0)) (omega (arith, c.len.ensures, c.push_unescaped.new.out.ok.0)) c.if-len-gt-MOST_STRING.false

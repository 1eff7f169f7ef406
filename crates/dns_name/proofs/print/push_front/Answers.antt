use Rattle.std.proofs.Common.{vec_len}
use Rattle.dns_name.proofs.PrintLemmas.{origin_text, relative_front, starts_pushed}
use Rattle.dns_name.proofs.print.push_front.Goals as goal

pub returns-then-bytes-last-clause-ok : goal.returns-then-bytes-last-clause-ok
returns-then-bytes-last-clause-ok c = λ front h. origin_text c.args.bytes.now c.args.last c.args.out.now.items c.push.new.self.items front h c.if-bytes-last.true c.in_ok-push.ensures.items

pub returns-clause-ok : goal.returns-clause-ok
returns-clause-ok c = λ front h.
    relative_front c.args.bytes.now c.args.last (vec_len c.push_labels.new.out) c.args.out.now.items c.push_labels.new.out.items c.pop-dot.new.self.items front h c.if-bytes-last.false (c.in_ok-push_labels.ensures.ok front h)
    c.push_labels.new.out.ok.0 c.pop-dot.ensures.rest

pub returns-clause-kept : goal.returns-clause-kept
returns-clause-kept c = starts_pushed c.pop-dot.new.self.items c.args.out.now.items _ (returns-clause-ok c c.requires.0 c.requires.1)

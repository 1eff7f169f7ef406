use Rattle.std.proofs.lemmas.Result.{on_ok_weaker}
use Rattle.dns_name.proofs.PrintLemmas.{in_front_of_root, absolute_text}
use Rattle.dns_name.proofs.print.push_absolute.Goals as goal

pub returns-clause-ok : goal.returns-clause-ok
returns-clause-ok c =
    on_ok_weaker c.push_labels.result (λ printed labels h.
    absolute_text c.args.bytes.now c.args.out.now.items c.push_labels.new.out.items labels h c.if-bytes-eq1.false (printed labels (in_front_of_root c.args.bytes.now labels h))) c.push_labels.ensures.ok

use Rattle.std.proofs.Common.{◌∙◌, ℕ, List, ◌++◌, ap}
use Rattle.std.proofs.Common.{None}
use Rattle.zone_dump.specs.Files.{file_text}
use Rattle.zone_dump.proofs.LineLaws.{file_is_full}
use Rattle.zone_dump.proofs.dumping.dump_text.Goals as goal

pub returns-in-Ok-clause-ok : goal.returns-in-Ok-clause-ok
returns-in-Ok-clause-ok g c zone shows =
    (c.in-Ok.ensures.written.ok zone shows).told ∙ ap (λ (had : List ℕ). had ++ file_text None zone) (ap (λ text. text.items) c.replace-text.ensures.value)
    ∙ ap (λ (text : List ℕ). c.args.out.now.items ++ text) (file_is_full zone)

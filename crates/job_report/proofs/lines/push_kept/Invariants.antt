use Rattle.std.proofs.Common.{◌≡◌, ◌++◌, take, codes}
use Rattle.std.specs.Fmt.{decimal}
use Rattle.std.specs.List.{flat_map}
use Rattle.job_report.proofs.lines.push_kept.Given as goal

abbrev pub invariant-loop-version : goal.invariant-loop-version
invariant-loop-version l = l.out.items ≡ l.fn.out.items ++ flat_map (λ v. codes " " ++ decimal v) (take l.version-index l.kept)

use Rattle.std.proofs.Common.{rules, ◌≡◌, ◌≤◌, ◌<◌, ◌+◌, ◌++◌, ◌^◌, length, take, arith, length-append}
use Rattle.std.proofs.lemmas.List.{length-take-le}
use Rattle.live_session.proofs.CutLaws.{long_uncut}
use Rattle.live_session.proofs.zone.take_line.Goals as goal

pub returns-then-count-gt-LONGEST-clause-stops : goal.returns-then-count-gt-LONGEST-clause-stops
returns-then-count-gt-LONGEST-clause-stops c = record {
  too_long = λ is.
      let line = take c.args.count c.args.intake.now.bytes in
      let size : length line ≡ c.args.count = length-take-le c.args.count c.args.intake.now.bytes c.requires.inside in
      let all : length (c.args.zone.now.bytes.items ++ line) ≡ length c.args.zone.now.bytes.items + length line = length-append c.args.zone.now.bytes.items line in
      let over : 2 ^ 24 < length line = omega (arith, size) in
      (omega (arith, all, over), long_uncut line c.requires.one.0 c.requires.one.1 over);
  memory = search rules;
  kept = search rules;
  others = search rules;
}

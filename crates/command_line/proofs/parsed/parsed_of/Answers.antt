use Rattle.std.proofs.Common.{◌∙◌, sym, map}
use Rattle.std.specs.String.{string_bytes}
use Rattle.clap.specs.Simple.{app_of}
use Rattle.command_line.proofs.ParsedLemmas.{refused, taken, told}
use Rattle.command_line.proofs.parsed.parsed_of.Goals as goal

pub returns-in-Ok : goal.returns-in-Ok
returns-in-Ok c =
    c.asked_in.ensures
    ∙ sym (taken (app_of c.in_ok-command.command) (map string_bytes c.args.words.now) c.in-Ok.matches c.in_ok-command.ensures c.in-Ok.ensures.kinds c.in-Ok.ensures.matches)

pub returns-in-Err : goal.returns-in-Err
returns-in-Err c =
    told (map string_bytes c.args.words.now) c.in-Err.error c.refused_by.result c.refused_by.ensures.refused c.refused_by.ensures.memory
    (λ other. refused (app_of c.in_ok-command.command) (map string_bytes c.args.words.now) c.in-Err.error c.in_ok-command.ensures other c.in-Err.ensures.kinds)

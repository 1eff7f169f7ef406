use Rattle.std.proofs.Common.{rules, ◌∙◌, ◌<◌, List, length, sym, ap, map, Global}
use Rattle.std.specs.Option.{option_map}
use Rattle.std.specs.String.{string_bytes}
use Rattle.std.specs.Prelude.{String}
use Rattle.command_line.specs.Options.{options_from}
use Rattle.command_line.specs.Views.{options_view}
use Rattle.command_line.proofs.WordLemmas.{option_then, rest_of}
use Rattle.command_line.proofs.options.+options_from.Goals as goal

pub returns-in-Some : goal.returns-in-Some
returns-in-Some t c =
    let long : 1 < length c.args.words.now = search rules in
    c.options_from.ensures
    ∙ ap (λ (ws : List (String Global)). options_from (map string_bytes ws) (options_view c.in-Some.more)) (rest_of 2 c.args.words.now)
    ∙ sym (option_then string_bytes c.args.words.now c.index-words-0.result c.index-words-1.result c.as_bytes.result.now c.as_bytes-2.result.now (options_view c.args.options) (options_view c.in-Some.more) long c.index-words-0.is c.index-words-1.is c.as_bytes.ensures.value c.as_bytes-2.ensures.value
    (sym c.with_option.ensures ∙ ap (option_map options_view) c.in-Some.is))

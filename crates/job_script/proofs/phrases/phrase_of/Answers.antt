use Rattle.std.proofs.Common.{◌≡◌, [], map, None, ap}
use Rattle.std.proofs.lemmas.List.{nil_from_length}
use Rattle.std.specs.Option.{option_map}
use Rattle.job_model.specs.Questions.{asked_of}
use Rattle.zone_text.specs.Tokens.{token_view}
use Rattle.job_script.specs.Phrases.{phrase_view}
use Rattle.job_script.proofs.phrases.phrase_of.Goals as goal
use Rattle.job_script.proofs.PhraseLemmas.{first_placed, rest_placed, lone_says}

pub asked_of-requires-clause-operands : goal.asked_of-requires-clause-operands
asked_of-requires-clause-operands c = rest_placed c.args.bytes.now c.args.tokens.now c.in_ok-word.word.now c.in_ok-word.arguments.now c.in_ok-word.ensures.cases.0 c.requires

pub argued-requires-clause-operands : goal.argued-requires-clause-operands
argued-requires-clause-operands c =
    let bytes = c.args.bytes.now in
    let arguments = c.in_ok-word.arguments.now in
    let first = c.in-Some-split_first.first.now in
    let rest = c.in-Some-split_first.rest.now in
    let parts = c.in-Some-split_first.ensures.cases.0 in
    let placed = rest_placed bytes c.args.tokens.now c.in_ok-word.word.now arguments c.in_ok-word.ensures.cases.0 c.requires in
    (first_placed bytes arguments first rest parts placed, rest_placed bytes arguments first rest parts placed)

pub returns-in-None-clause-said : goal.returns-in-None-clause-said
returns-in-None-clause-said c = λ origin.
    let bytes = c.args.bytes.now in
    let word = c.in_ok-word.word.now in
    let behind = c.in_ok-word.arguments.now in
    let alone : behind ≡ [] = nil_from_length behind c.in-None.ensures.cases in
    let none : None ≡ asked_of origin (token_view bytes word) (map (token_view bytes) behind) = c.in_default.ensures.said origin in
    lone_says origin (map (token_view bytes) c.args.tokens.now) (token_view bytes word) (map (token_view bytes) behind) (option_map (phrase_view origin bytes) c.lone_word.result)
    (ap (map (token_view bytes)) c.in_ok-word.ensures.cases.0) (ap (map (token_view bytes)) alone) none (c.lone_word.ensures.said origin)

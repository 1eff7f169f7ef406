use Rattle.std.proofs.Common.{rules, ◌≡◌, sym, subst, map, true, Some, None, Result}
use Rattle.job_model.specs.Jobs as jobs
use Rattle.job_model.specs.Phrases as phrases
use Rattle.job_model.specs.declared.ScriptKind.{ScriptKind}
use Rattle.zone_model.specs.Refusals.{Refused}
use Rattle.zone_text.specs.Tokens.{token_view}
use Rattle.job_script.specs.Phrases.{phrase_view}
use Rattle.job_script.specs.Scripts.{unfinished_view, script_view, ScriptReads}
use Rattle.job_script.proofs.ScriptLemmas.{tokens_inside, tokens_outside}
use Rattle.job_script.proofs.script.take_tokens.Goals as goal

pub returns : goal.returns
returns c =
    let said : phrases.phrase_of c.args.line.origin.now (map (token_view c.args.line.bytes.now) c.args.tokens.now) ≡ Some (phrase_view c.args.line.origin.now c.args.line.bytes.now c.in-Some.phrase) = sym (c.in-Some.ensures.said c.args.line.origin.now) in
    let may : jobs.may_stand c.args.script.now.listing (phrase_view c.args.line.origin.now c.args.line.bytes.now c.in-Some.phrase) ≡ true = search (rules, c.may_stand.ensures c.args.line.origin.now c.args.line.bytes.now) in
    let here : (script_view c.args.script.now).block ≡ Some (unfinished_view c.in-Some-take.block) = search (rules, c.in-Some-take.is, c.in-Some-take.ensures.value) in
    let inside : ScriptReads c.inside.result (script_view c.inside.new.script) (jobs.inside c.args.line.origin.now c.args.line.number (unfinished_view c.in-Some-take.block) (phrase_view c.args.line.origin.now c.args.line.bytes.now c.in-Some.phrase) (record (script_view c.args.script.now) { block = None })) = search (rules, c.inside.ensures.reads, c.in-Some-take.ensures.after) in
    subst (λ (r : Result jobs.Script (Refused ScriptKind)). ScriptReads c.inside.result (script_view c.inside.new.script) r) (sym (tokens_inside c.args.line.origin.now c.args.line.number (script_view c.args.script.now) (map (token_view c.args.line.bytes.now) c.args.tokens.now) (phrase_view c.args.line.origin.now c.args.line.bytes.now c.in-Some.phrase) (unfinished_view c.in-Some-take.block) said may here)) inside

pub returns-then-is_none : goal.returns-then-is_none
returns-then-is_none c =
    let said : phrases.phrase_of c.args.line.origin.now (map (token_view c.args.line.bytes.now) c.args.tokens.now) ≡ Some (phrase_view c.args.line.origin.now c.args.line.bytes.now c.in-Some.phrase) = sym (c.in-Some.ensures.said c.args.line.origin.now) in
    let may : jobs.may_stand c.args.script.now.listing (phrase_view c.args.line.origin.now c.args.line.bytes.now c.in-Some.phrase) ≡ true = search (rules, c.may_stand.ensures c.args.line.origin.now c.args.line.bytes.now) in
    let none : (script_view c.args.script.now).block ≡ None = search (rules, c.if-is_none.true, c.is_none.ensures) in
    let outside : ScriptReads c.outside.result (script_view c.outside.new.script) (jobs.outside c.args.line.origin.now c.args.line.number (phrase_view c.args.line.origin.now c.args.line.bytes.now c.in-Some.phrase) (record (script_view c.args.script.now) { block = None })) = search (rules, c.outside.ensures, none) in
    subst (λ (r : Result jobs.Script (Refused ScriptKind)). ScriptReads c.outside.result (script_view c.outside.new.script) r) (sym (tokens_outside c.args.line.origin.now c.args.line.number (script_view c.args.script.now) (map (token_view c.args.line.bytes.now) c.args.tokens.now) (phrase_view c.args.line.origin.now c.args.line.bytes.now c.in-Some.phrase) said may none)) outside

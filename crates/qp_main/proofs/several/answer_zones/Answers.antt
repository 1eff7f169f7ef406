use Rattle.std.proofs.Common.{rules, ◌≡◌, ◌∙◌, List, sym, ap, subst}
use Rattle.std.specs.List.{AllByRecursion}
use Rattle.zone_model.specs.Names.{Name}
use Rattle.job_model.specs.Jobs.{script_lines, script_start}
use Rattle.job_report.specs.Pieces.{pieces_text}
use Rattle.zones_model.specs.Commands.{origins_of}
use Rattle.zones_script.specs.Scripts.{script_of}
use Rattle.zones_script.specs.Views.{workers_view}
use Rattle.zones_script.specs.Jobs.{zones_job_of}
use Rattle.zones_threads.specs.Sites.{IsSaid}
use Rattle.qp_main.specs.Due.{ZonesAnswers}
use Rattle.qp_main.specs.Stops.{IsStop, ScriptStops}
use Rattle.qp_main.specs.Heard.{ZonesJobHeard}
use Rattle.qp_main.proofs.HeardLemmas.{script_unrun, zones_unrun}
use Rattle.qp_main.proofs.SeveralLemmas.{as_many, list_stops, names_are, said_over, script_stops, zones_answers, zones_heard}
use Rattle.qp_main.proofs.several.answer_zones.Goals as goal

pub script_over-requires : goal.script_over-requires
script_over-requires g c =
    let zones = c.in_ok-zones.zones.items in
    let are = c.deref-2.ensures.value ∙ c.in_ok-origins.ensures ∙ ap origins_of c.deref.ensures.value in
    record {
      zones = as_many zones c.deref-2.result.now are c.in_ok-zones.ensures.listed.few;
      names = names_are zones c.deref-2.result.now are c.in_ok-zones.ensures.said;
    }

pub report_zones-requires-clause-script : goal.report_zones-requires-clause-script
report_zones-requires-clause-script g c =
    let zones = c.in_ok-zones.zones.items in
    let workers = workers_view c.in_ok-script.script in
    let over : AllByRecursion (AllByRecursion (IsSaid (origins_of zones))) workers = said_over zones c.deref-2.result.now workers (c.deref-2.ensures.value ∙ c.in_ok-origins.ensures ∙ ap origins_of c.deref.ensures.value) c.in_ok-script.ensures.script.said in
    λ κs bounds. record { few_workers = search rules; said = search (rules, over) }

pub returns-clause-told : goal.returns-clause-told
returns-clause-told g c =
    let bytes = c.args.input in
    let zones = c.in_ok-zones.zones.items in
    let origins : c.deref-2.result.now ≡ origins_of zones = c.deref-2.ensures.value ∙ c.in_ok-origins.ensures ∙ ap origins_of c.deref.ensures.value in
    zones_answers c.args.invocation.now.chunks bytes zones (workers_view c.in_ok-script.script) c.in_ok-zones.ensures.zones
    (ap (λ (os : List Name). script_of os (script_start bytes) (script_lines bytes)) (sym origins) ∙ c.in_ok-script.ensures.reads) c.in_ok-answer.answer.0 (pieces_text c.in_ok-answer.answer.1) c.in_ok-answer.ensures.told

pub returns-in_err-zones-clause-stops : goal.returns-in_err-zones-clause-stops
returns-in_err-zones-clause-stops g c =
    let told = list_stops c.args.invocation.now.chunks c.args.input _ c.in_err-zones.ensures.stops in search (rules, told)

pub returns-in_err-script-clause-stops : goal.returns-in_err-script-clause-stops
returns-in_err-script-clause-stops g c =
    let bytes = c.args.input in
    let origins : c.deref-2.result.now ≡ origins_of c.in_ok-zones.zones.items = c.deref-2.ensures.value ∙ c.in_ok-origins.ensures ∙ ap origins_of c.deref.ensures.value in
    let stop = c.in_err-script.field-0.0 in
    let told : IsStop (ZonesAnswers c.args.invocation.now.chunks (zones_job_of bytes)) c.in_err-script.field-0.0 =
    script_stops c.args.invocation.now.chunks bytes c.in_ok-zones.zones.items c.in_ok-zones.ensures.zones stop
    (subst (λ (os : List Name). IsStop (ScriptStops (script_of os (script_start bytes) (script_lines bytes))) stop) origins c.in_err-script.ensures.stops) in
    search (rules, told)

-- ---- what the gate was told of

pub returns-clause-heard : goal.returns-clause-heard
returns-clause-heard g c = λ ran.
    let bytes = c.args.input in
    let zones = c.in_ok-zones.zones.items in
    let origins : c.deref-2.result.now ≡ origins_of zones = c.deref-2.ensures.value ∙ c.in_ok-origins.ensures ∙ ap origins_of c.deref.ensures.value in
    zones_heard (g.G.Gate.hears c.args.gate.now) bytes zones (workers_view c.in_ok-script.script) c.in_ok-zones.ensures.zones
    (ap (λ (os : List Name). script_of os (script_start bytes) (script_lines bytes)) (sym origins) ∙ c.in_ok-script.ensures.reads) (c.in_ok-answer.ensures.heard ran)

pub returns-in_err-zones-clause-unheard : goal.returns-in_err-zones-clause-unheard
returns-in_err-zones-clause-unheard g c =
    let told = zones_unrun (ZonesJobHeard (g.G.Gate.hears c.args.gate.now) (zones_job_of c.args.input)) _ _ c.in_err-zones.ensures.stops in search (rules, told)

pub returns-in_err-script-clause-unheard : goal.returns-in_err-script-clause-unheard
returns-in_err-script-clause-unheard g c =
    let told = script_unrun (ZonesJobHeard (g.G.Gate.hears c.args.gate.now) (zones_job_of c.args.input)) _ _ c.in_err-script.ensures.stops in search (rules, told)

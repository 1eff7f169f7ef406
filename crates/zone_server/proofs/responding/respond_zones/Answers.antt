use Rattle.std.proofs.Common.{subst}
use Rattle.zone_answer.specs.Responses.{respond}
use Rattle.zone_answer.specs.Sections.{IsResponded}
use Rattle.qp_multi.specs.Passes.{version_seen}
use Rattle.zone_table.specs.Locations.{IsZoneOf}
use Rattle.zone_table.specs.Passes.{table_known}
use Rattle.zone_server.proofs.ServingLaws.{asked_reply, asked_serving, looked, nothing_asked, pass_in}
use Rattle.zone_server.proofs.responding.respond_zones.Goals as goal

pub locate-located-requires : goal.locate-located-requires
locate-located-requires g c = record { pass = pass_in g.H.Home.zones c.args.zones.now c.requires.serves.zones c.args.pass.now c.requires.serves.pass.pass }

pub returns-in_default-clause-pass : goal.returns-in_default-clause-pass
returns-in_default-clause-pass g c = looked g.H.Home.zones c.args.zones.now c.requires.serves.zones c.args.pass.now c.locate-located.new.self c.requires.serves.pass c.locate-located.ensures.others c.locate-located.ensures.pass

pub returns-in_default-clause-reply : goal.returns-in_default-clause-reply
returns-in_default-clause-reply g c =
    nothing_asked g.H.Home.zones c.args.zones.now c.requires.serves.zones c.args.pass.now c.locate-located.new.self c.requires.serves.pass c.locate-located.ensures.others c.locate-located.ensures.pass
    c.args.name.now (λ origin zone. IsResponded (g.S.RowSink.has c.args.rows.now.rows) (respond origin zone c.args.name.now c.args.rtype)) c.locate-located.result.version c.locate-located.ensures.version
    (subst (IsZoneOf c.args.zones.now.origins.items (version_seen (table_known c.locate-located.new.self).seen) c.args.name.now) c.in_default.is c.locate-located.ensures.zone)

pub returns-in_err-shown-clause-pass : goal.returns-in_err-shown-clause-pass
returns-in_err-shown-clause-pass g c =
    asked_serving g.H.Home.zones c.args.zones.now c.requires.serves.zones c.args.pass.now c.locate-located.new.self c.requires.serves.pass c.locate-located.ensures.others c.locate-located.ensures.pass
    c.in-Some.zone c.zone-place.result.now c.respond_index.new.pass c.zone-place.ensures.value c.respond_index.ensures.asks.here c.respond_index.ensures.asks.place c.zone-place.ensures.known c.respond_index.ensures.asks.grows

pub returns-clause-pass : goal.returns-clause-pass
returns-clause-pass g c =
    asked_serving g.H.Home.zones c.args.zones.now c.requires.serves.zones c.args.pass.now c.locate-located.new.self c.requires.serves.pass c.locate-located.ensures.others c.locate-located.ensures.pass
    c.in-Some.zone c.zone-place.result.now c.respond_index.new.pass c.zone-place.ensures.value c.respond_index.ensures.asks.here c.respond_index.ensures.asks.place c.zone-place.ensures.known c.respond_index.ensures.asks.grows

pub returns-clause-reply : goal.returns-clause-reply
returns-clause-reply g c =
    asked_reply g.H.Home.zones c.args.zones.now c.requires.serves.zones c.args.pass.now c.locate-located.new.self c.requires.serves.pass c.locate-located.ensures.others c.locate-located.ensures.pass
    c.in-Some.zone c.zone-place.result.now c.respond_index.new.pass c.zone-place.ensures.value c.respond_index.ensures.asks.here c.respond_index.ensures.asks.place c.zone-place.ensures.known
    c.args.name.now (λ origin zone. IsResponded (g.S.RowSink.has c.respond_index.new.rows.rows) (respond origin zone c.args.name.now c.args.rtype)) c.locate-located.result.version c.locate-located.ensures.version
    c.origin-origin.result.now c.origin-origin.ensures
    (subst (IsZoneOf c.args.zones.now.origins.items (version_seen (table_known c.locate-located.new.self).seen) c.args.name.now) c.in-Some.is c.locate-located.ensures.zone)
    c.in_ok-shown.shown.version c.in_ok-shown.shown.told c.in_ok-shown.ensures.shown

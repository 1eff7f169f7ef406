use Rattle.std.proofs.Common.{◌≡◌}
use Rattle.zone_answer.specs.Responses.{respond}
use Rattle.zone_answer.specs.Sections.{IsResponded}
use Rattle.zone_server.proofs.ServingLaws.{mapped_reply}
use Rattle.zone_server.proofs.server.Server.respond.Goals as goal

pub returns : goal.returns
returns g c =
    mapped_reply g.H.Home.zones c.args.name.now (λ origin zone. IsResponded (λ rows. c.respond_into.new.rows.rows ≡ rows) (respond origin zone c.args.name.now c.args.rtype))
    (λ origin zone r. IsResponded (λ rows. r.rows ≡ rows) (respond origin zone c.args.name.now c.args.rtype) r.header) (λ header. record { header = header; rows = c.respond_into.new.rows.rows }) (λ origin zone t h. h)
    c.args.pass.now c.respond_into.new.pass c.in_ok-reply.reply c.with_rows.result c.with_rows.ensures c.in_ok-reply.ensures

use Rattle.std.proofs.Common.{ℕ, List, refl, sym}
use Rattle.zone_model.specs.Names.{Name}
use Rattle.zone_model.specs.Rows.{Row}
use Rattle.zone_model.specs.Versions.{Version}
use Rattle.zone_answer.specs.Agreement.{Agrees}
use Rattle.zone_answer.specs.Answers.{answer}
use Rattle.zone_answer.specs.Responses.{by_kind}
use Rattle.zone_answer.specs.declared.kind.Kind.{Kind}
use Rattle.zone_answer.specs.declared.kind.Kind.TheVariants.{Answered, Nodata, Nxdomain, Referral, Outside}
use Rattle.zone_answer.proofs.ResponseLaws.{EndsAs, answer_ends, servers_whole}
use Rattle.zone_answer.proofs.response_laws.responses_agree_with_answers.Goals as goal

agrees : (origin : Name) (version : Version) (rtype : ℕ) (kind : Kind) (rows : List Row) → EndsAs version rtype kind rows → Agrees (by_kind origin version kind rows) (record { kind = kind; rows = rows })
agrees origin version rtype Answered rows e = record { code_is = refl; rows_are = refl }
agrees origin version rtype Nodata rows e = record { code_is = refl; rows_are = refl }
agrees origin version rtype Nxdomain rows e = record { code_is = refl; rows_are = refl }
agrees origin version rtype Referral rows e = record { code_is = refl; rows_are = servers_whole version rows e }
agrees origin version rtype Outside rows e = record { code_is = refl; rows_are = sym e }

pub returns : goal.returns
returns c = λ origin name version rtype. agrees origin version rtype (answer origin version name rtype).kind (answer origin version name rtype).rows (answer_ends origin version name rtype)

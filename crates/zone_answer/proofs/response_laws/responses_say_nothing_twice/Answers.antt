use Rattle.zone_answer.specs.Answers.{answer}
use Rattle.zone_answer.proofs.OnceLaws.{none_twice}
use Rattle.zone_answer.proofs.ResponseLaws.{answer_ends}
use Rattle.zone_answer.proofs.response_laws.responses_say_nothing_twice.Goals as goal

pub returns : goal.returns
returns c = λ origin name version rtype. none_twice origin version rtype (answer origin version name rtype).kind (answer origin version name rtype).rows (answer_ends origin version name rtype)

use Rattle.std.proofs.Common.{arith}
use Rattle.std.proofs.lemmas.Bool.{eqb-true, eq-eqb}
use Rattle.chunk_cells.proofs.ItemLaws.{words_agree, words_alike}
use Rattle.chunk_cells.proofs.front.says.Goals as goal

pub returns-then-start-octets : goal.returns-then-start-octets
returns-then-start-octets c item low is = (
  λ t i l m n. words_agree item c.args.octets.now c.args.word c.whole_word.result c.args.start low (λ j. let f = c.type_inv.octets j in omega arith) is c.whole_word.ensures (eqb-true c.args.word c.whole_word.result t) i l m,
  λ same. eq-eqb c.args.word c.whole_word.result (words_alike item c.args.octets.now c.args.word c.whole_word.result c.args.start is c.whole_word.ensures (λ i l m. same i l m (let e = c.if-start-octets.true in omega arith))),
)

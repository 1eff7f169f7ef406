use Rattle.std.proofs.Common.{◌/◌, rules, inl, inr, arith, length}
use Rattle.std.proofs.lemmas.Bool.{cases_lt}
use Rattle.std.proofs.lemmas.List.{get_or_past}
use Rattle.chunk_sets.proofs.WordLemmas.{no_bit, found_word}
use Rattle.chunk_sets.proofs.chunk_set.first_bit_of_words.Goals as goal

pub returns-then-words-position-ne0-clause-found : goal.returns-then-words-position-ne0-clause-found
returns-then-words-position-ne0-clause-found c = found_word c.args.words.now c.args.from c.loop-position.position (search rules) c.loop-position.invariant.from c.loop-position.invariant.none (omega arith)

pub returns-clause-none : goal.returns-clause-none
returns-clause-none c k le = no_bit c.args.words.now k (elim (cases_lt (k / 64) (length c.args.words.now)) [
  | inl l ↦ c.loop-position.invariant.none (k / 64) (omega arith) (omega arith)
  | inr past ↦ get_or_past c.args.words.now (k / 64) 0 past
])

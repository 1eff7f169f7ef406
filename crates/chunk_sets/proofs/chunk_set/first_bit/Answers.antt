use Rattle.std.proofs.Common.{◌/◌, refl, rules, arith}
use Rattle.std.proofs.lemmas.Option.{IfSome_then}
use Rattle.std.proofs.lemmas.List.{get_or_past}
use Rattle.chunk_sets.proofs.WordLemmas.{no_bit, none_left, found_left, found_later, none_later, on_none}
use Rattle.chunk_sets.proofs.chunk_set.first_bit.Goals as goal

pub returns-then-position-words-clause-none : goal.returns-then-position-words-clause-none
returns-then-position-words-clause-none c k le = no_bit c.args.words.now k (get_or_past c.args.words.now (k / 64) 0 (omega arith))

pub returns-then-left-ne0-clause-found : goal.returns-then-left-ne0-clause-found
returns-then-left-ne0-clause-found c = found_left c.args.words.now c.args.from _ (search rules) refl (omega arith)

pub returns-clause-found : goal.returns-clause-found
returns-clause-found c =
    let none = none_left c.args.words.now c.args.from _ (search rules) refl c.if-left-ne0.false in
    IfSome_then c.first_bit_of_words.result c.first_bit_of_words.ensures.found (found_later c.args.words.now c.args.from none)

pub returns-clause-none : goal.returns-clause-none
returns-clause-none c =
    let none = none_left c.args.words.now c.args.from _ (search rules) refl c.if-left-ne0.false in
    on_none c.first_bit_of_words.result (none_later c.args.words.now c.args.from none) c.first_bit_of_words.ensures.none

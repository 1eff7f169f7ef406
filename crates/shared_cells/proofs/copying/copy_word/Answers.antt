use Rattle.std.proofs.Common.{◌+◌, ◌<◌, length, arith}
use Rattle.shared_cells.specs.Views.{words_of}
use Rattle.shared_cells.proofs.Copies.{loaded_turn, loaded_blank, copied_one}
use Rattle.shared_cells.proofs.Images.{half_word}
use Rattle.shared_cells.proofs.Turns.{may_recall}
use Rattle.shared_cells.proofs.copying.copy_word.Goals as goal

pub load-word-requires : goal.load-word-requires
load-word-requires g c =
    let may = c.requires.may in
    (c.requires.table, (let l = may.inside 0 (omega arith) in omega arith), may_recall g.L.HistoryLaw.applied g.L.HistoryLaw.lawful g.L.HistoryLaw.permitted g.L.HistoryLaw.stands _ _ _ _ _ may.turn may.past)

pub store_word-requires-clause-turn : goal.store_word-requires-clause-turn
store_word-requires-clause-turn g c = loaded_turn c.load-word.ensures.2.0 c.requires.may.turn

pub store_word-requires-clause-blank : goal.store_word-requires-clause-blank
store_word-requires-clause-blank g c = loaded_blank c.load-word.ensures.2.0 _ c.args.to (c.requires.may.blank 0 (omega arith))

pub returns-clause-copied : goal.returns-clause-copied
returns-clause-copied g c =
    let may = c.requires.may in
    let b = may.blank 0 (omega arith) in
    let wide : c.args.to + 0 < c.args.shared.now.table.shared.table_id.words = half_word _ _ b.0 _ b.1 b.2 c.args.shared.now.wide b.3 in
    let inside : c.args.to < length (words_of c.args.place.now.me.0.turn) = (let l = may.long in omega arith) in
    copied_one c.load-word.ensures.2.0 c.store_word.new.place.me c.args.from c.args.to c.load-word.result may.turn inside c.load-word.ensures.2.1 c.store_word.ensures.stored

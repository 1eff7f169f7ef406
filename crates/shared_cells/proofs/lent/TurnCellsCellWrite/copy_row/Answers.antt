use Rattle.std.proofs.Common.{sym, ap, ◌∙◌, arith}
use Rattle.atomic_table.specs.Seated.{TableId}
use Rattle.shared_cells.proofs.Copies.{may_copy_row, turn_given, turn_kept, turn_copied, turn_others, lent_turn}
use Rattle.shared_cells.proofs.lent.TurnCellsCellWrite.copy_row.Goals as goal

pub copy_words-requires-clause-may : goal.copy_words-requires-clause-may
copy_words-requires-clause-may g c =
    let s = c.self.inside in
    let from = c.requires.inside in
    let to = c.requires.within in
    let source = c.place_of_half-source.ensures in
    let target = c.place_of_half-target.ensures in
    record {
      small = (omega arith, omega arith);
      all = may_copy_row s.shared.now.table.shared.key.chunks s.place.me c.args.self.now c.self.view_is c.args.from c.args.to c.args.n _ _ c.place_of_half-source.ensures c.place_of_half-target.ensures
          _ s.shared.now.wide (lent_turn c.self.invariant.0) (c.self.invariant.0.copied ∙ sym (ap (λ (x : TableId). x.words) c.self.invariant.1)) c.requires.there c.requires.given c.requires.unkept c.requires.apart;
    }

pub returns-clause-copied : goal.returns-clause-copied
returns-clause-copied g c i x l =
    let s = c.self.inside in
    turn_copied s.shared.now.table.shared.key.chunks s.place.me c.args.self.now c.self.view_is c.args.from c.args.to c.args.n _ _ c.place_of_half-source.ensures c.place_of_half-target.ensures
    c.copy_words.new.place.me s.shared.now.few.1 c.copy_words.ensures.copied i x l (c.requires.given i l)

pub returns-clause-others : goal.returns-clause-others
returns-clause-others g c =
    let s = c.self.inside in
    turn_others s.shared.now.table.shared.key.chunks s.place.me c.args.self.now c.self.view_is c.args.from c.args.to c.args.n _ _ c.place_of_half-source.ensures c.place_of_half-target.ensures
    c.copy_words.new.place.me s.shared.now.few.1 c.copy_words.ensures.copied

pub returns-clause-given : goal.returns-clause-given
returns-clause-given g c =
    let s = c.self.inside in
    turn_given s.shared.now.table.shared.key.chunks s.place.me c.args.self.now c.self.view_is c.args.from c.args.to c.args.n _ _ c.place_of_half-source.ensures c.place_of_half-target.ensures
    c.copy_words.new.place.me s.shared.now.few.1 c.copy_words.ensures.copied

pub returns-clause-kept : goal.returns-clause-kept
returns-clause-kept g c =
    let s = c.self.inside in
    turn_kept s.shared.now.table.shared.key.chunks s.place.me c.args.self.now c.self.view_is c.args.from c.args.to c.args.n _ _ c.place_of_half-source.ensures c.place_of_half-target.ensures
    c.copy_words.new.place.me s.shared.now.few.1 c.copy_words.ensures.copied

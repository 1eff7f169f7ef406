use Rattle.std.proofs.Common.{◌≡◌, ◌∙◌, ⊎_elim, inl, inr, ℕ, List, refl, sym, ap, subst}
use Rattle.std.specs.List.{Contains}
use Rattle.shared_cells.specs.Views.{words_of}
use Rattle.shared_cells.specs.Steps.{IsNamed}
use Rattle.qp_multi.specs.WorkingVersions.{working_set}
use Rattle.qp_multi.specs.Passes.{Known}
use Rattle.chunk_usage.specs.Keeping.{kept_versions}
use Rattle.qp_multi.specs.Keepings.{GoesOn}
use Rattle.qp_multi.proofs.GoesLaws.{words_go_on, goes_further}
use Rattle.qp_multi.proofs.WorkLaws.{rounds_of, stands_narrowed, stands_on, named_on, version_on}
use Rattle.qp_multi.proofs.writer.WorkingVersion.make_room.Goals as goal

pub returns-clause-frees : goal.returns-clause-frees
returns-clause-frees g c =
    let w : Known = c.make_round.new.seat.place.me.0 in
    let x : Known = c.free_unreached-seat.result.0.place.me.0 in
    let round = c.make_round.ensures in
    let free = c.free_unreached-seat.ensures in
    record {
      goes_on = goes_further round.seat.goes_on (words_go_on w x (words_of x.turn) free.seat.known);
      round = rounds_of round.keeps.kept round.narrows.usage free.frees.after (ap (λ (k : Known). k.seen.namings) free.seat.known);
    }

pub returns-clause-named : goal.returns-clause-named
returns-clause-named g c n h =
    let d = c.args.self in
    let w : Known = c.make_round.new.seat.place.me.0 in
    let x : Known = c.free_unreached-seat.result.0.place.me.0 in
    let round = c.make_round.ensures in
    let on : GoesOn w x = words_go_on w x (words_of x.turn) c.free_unreached-seat.ensures.seat.known in
    ⊎_elim
    (λ (e : n ≡ d.seat.version). inl (e ∙ sym round.seat.version ∙ sym (version_on c.make_round.new.seat.version c.free_unreached-seat.result.0.version on c.make_round.new.seat.version_is c.free_unreached-seat.result.0.version_is)))
    (λ (named : IsNamed w n). inr (named_on n on named))
    (round.keeps.named n (subst (λ (ns : List ℕ). Contains ns n) (ap kept_versions c.free_unreached-seat.ensures.frees.after) h))

pub returns-clause-same : goal.returns-clause-same
returns-clause-same g c = record {
  table = c.free_unreached-seat.ensures.seat.table ∙ c.make_round.ensures.seat.table;
  works = (let d = c.args.self in
      let v : Known = d.seat.place.me.0 in
      let w : Known = c.make_round.new.seat.place.me.0 in
      let x : Known = c.free_unreached-seat.result.0.place.me.0 in
      let round = c.make_round.ensures in
      let free = c.free_unreached-seat.ensures in
      let on : GoesOn v x = goes_further round.seat.goes_on (words_go_on w x (words_of x.turn) free.seat.known) in
      stands_on v x c.free_unreached-seat.new.usage d.root d.log.operations on
      (free.stands d.root (working_set d) (stands_narrowed v w d.usage c.make_round.new.usage (kept_versions c.make_round.new.usage) d.root (working_set d) round.seat.words round.narrows.usage c.requires.works)));
  log = refl;
  version = (let w : Known = c.make_round.new.seat.place.me.0 in
      let x : Known = c.free_unreached-seat.result.0.place.me.0 in
      let on : GoesOn w x = words_go_on w x (words_of x.turn) c.free_unreached-seat.ensures.seat.known in
      version_on c.make_round.new.seat.version c.free_unreached-seat.result.0.version on c.make_round.new.seat.version_is c.free_unreached-seat.result.0.version_is ∙ c.make_round.ensures.seat.version);
  passes = c.free_unreached-seat.ensures.seat.passes ∙ c.make_round.ensures.seat.passes;
}

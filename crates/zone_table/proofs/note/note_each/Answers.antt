use Rattle.std.proofs.Common.{rules, ◌∙◌, ◌+◌, List, map, take, arith, sym, ap}
use Rattle.qp_multi.specs.Passes.{Known, known_at}
use Rattle.zone_table.proofs.Lists.{read_at, alike_at, alike_length, mapped_at, told_more}
use Rattle.zone_table.proofs.PassLaws.{kept_set, known_set}
use Rattle.zone_table.proofs.note.note_each.Goals as goal

pub note-note-requires : goal.note-note-requires
note-note-requires g c =
    let places = c.loop-place.invariant.kept.places ∙ c.requires.there in
    let n = alike_length (λ z. z.place) (λ z. z.place) c.loop-place.passes.items c.args.passes.now.items c.loop-place.invariant.kept.places in
    let m = alike_length (λ z. z.place) (λ z. z.place) c.args.passes.now.items c.args.zones.now.items c.requires.there in
    let l = c.loop-place-test.true in
    record {
      here = search rules;
      place = alike_at (λ z. z.place) (λ z. z.place) c.loop-place.passes.items c.args.zones.now.items c.loop-place.place c.index_mut.result.now c.index.result.now places
          (read_at c.loop-place.passes.items c.loop-place.place c.index_mut.result.now (omega arith) c.index_mut.ensures.value)
          (read_at c.args.zones.now.items c.loop-place.place c.index.result.now (omega arith) c.index.ensures);
    }

pub returns-in_err-push-clause-stand : goal.returns-in_err-push-clause-stand
returns-in_err-push-clause-stand g c =
    let kept = kept_set c.args.passes.now.items c.loop-place.passes.items c.loop-place.place c.index_mut.result.now c.note-note.new.self c.loop-place.invariant.kept c.index_mut.ensures.value c.note-note.ensures.back.here c.note-note.ensures.back.place in
    record { here = kept.here; there = kept.places }

pub returns-in_err-push-clause-same : goal.returns-in_err-push-clause-same
returns-in_err-push-clause-same g c =
    known_set c.args.passes.now.items c.loop-place.passes.items c.loop-place.place c.index_mut.result.now c.note-note.new.self c.loop-place.invariant.same c.index_mut.ensures.value c.note-note.ensures.same

pub loop-place-preserved : goal.loop-place-preserved
loop-place-preserved g c =
    let n = alike_length (λ z. z.place) (λ z. z.place) c.loop-place.passes.items c.args.passes.now.items c.loop-place.invariant.kept.places in
    let l = c.loop-place-test.true in
    let read = read_at c.loop-place.passes.items c.loop-place.place c.index_mut.result.now (omega arith) c.index_mut.ensures.value in
    record {
      kept = kept_set c.args.passes.now.items c.loop-place.passes.items c.loop-place.place c.index_mut.result.now c.note-note.new.self c.loop-place.invariant.kept c.index_mut.ensures.value c.note-note.ensures.back.here c.note-note.ensures.back.place;
      same = known_set c.args.passes.now.items c.loop-place.passes.items c.loop-place.place c.index_mut.result.now c.note-note.new.self c.loop-place.invariant.same c.index_mut.ensures.value c.note-note.ensures.same;
      of = ap (map (λ z. z.place)) c.in_ok-push.ensures.items
          ∙ told_more (λ z. z.place) (λ z. z.place) c.loop-place.notes.items c.loop-place.passes.items c.loop-place.place c.note-note.result c.index_mut.result.now
          (c.loop-place.invariant.of ∙ ap (take c.loop-place.place) (sym c.loop-place.invariant.kept.places)) read c.note-note.ensures.place
          ∙ ap (take (c.loop-place.place + 1)) c.loop-place.invariant.kept.places;
      told = ap (map (λ z. z.told.place.me.0.seen)) c.in_ok-push.ensures.items
          ∙ told_more (λ z. z.told.place.me.0.seen) (λ (v : Known). v.seen) c.loop-place.notes.items (map (λ z. known_at z.seat) c.loop-place.passes.items) c.loop-place.place c.note-note.result (known_at c.index_mut.result.now.seat)
          (c.loop-place.invariant.told ∙ ap (λ (vs : List Known). take c.loop-place.place (map (λ (v : Known). v.seen) vs)) (sym c.loop-place.invariant.same))
          (mapped_at (λ z. known_at z.seat) c.loop-place.passes.items c.loop-place.place c.index_mut.result.now read) c.note-note.ensures.told
          ∙ ap (λ (vs : List Known). take (c.loop-place.place + 1) (map (λ (v : Known). v.seen) vs)) c.loop-place.invariant.same;
    }

use Rattle.std.proofs.Common.{rules, ◌≡◌, ◌∙◌, ◌<◌, length, Some, arith, sym, ap}
use Rattle.std.specs.List.{slice_get}
use Rattle.std.proofs.lemmas.List.{length-map}
use Rattle.std.proofs.lemmas.Option.{slice_get_within}
use Rattle.qp_multi.specs.Passes.{known_at}
use Rattle.zone_table.proofs.Lists.{read_at, alike_at, alike_length}
use Rattle.zone_table.proofs.PassLaws.{kept_first, kept_set}
use Rattle.zone_table.proofs.LearnLaws.{learn_first, learn_next, last_note}
use Rattle.zone_table.proofs.note.learn_each.Goals as goal

pub loop-note-init : goal.loop-note-init
loop-note-init g c =
    let n = alike_length (λ z. z.place) (λ z. z.place) c.args.passes.now.items c.args.notes.items (c.requires.stand.there ∙ sym c.requires.notes) in
    let m = length-map c.args.passes.now.items (λ z. known_at z.seat) in
    record { kept = kept_first c.args.passes.now.items c.requires.stand.here; learning = learn_first c.args.passes.now.items c.args.notes.items (omega arith) }

pub learn-requires-clause-pass : goal.learn-requires-clause-pass
learn-requires-clause-pass g c =
    let place = c.len-place.ensures in
    let at : c.len-place.result ≡ length c.pop.new.self.items = omega arith in
    let places = c.loop-note.invariant.kept.places ∙ c.requires.stand.there in
    let note : slice_get c.args.notes.items c.len-place.result ≡ Some c.in-Some.note = ap (slice_get c.args.notes.items) at
    ∙ last_note c.args.passes.now.items c.loop-note.passes.items c.args.notes.items c.loop-note.notes.items c.pop.new.self.items c.in-Some.note c.loop-note.invariant.learning c.in-Some.ensures.items in
    let inside = slice_get_within c.args.notes.items c.len-place.result c.in-Some.note note in
    let n = alike_length (λ z. z.place) (λ z. z.place) c.args.notes.items c.args.zones.now.items c.requires.notes in
    let m = alike_length (λ z. z.place) (λ z. z.place) c.loop-note.passes.items c.args.zones.now.items places in
    record {
      here = search rules;
      place = alike_at (λ z. z.place) (λ z. z.place) c.loop-note.passes.items c.args.zones.now.items c.len-place.result c.index_mut.result.now c.index.result.now places
          (read_at c.loop-note.passes.items c.len-place.result c.index_mut.result.now (omega arith) c.index_mut.ensures.value)
          (read_at c.args.zones.now.items c.len-place.result c.index.result.now (omega arith) c.index.ensures);
    }

pub learn-requires-clause-note : goal.learn-requires-clause-note
learn-requires-clause-note g c =
    let place = c.len-place.ensures in
    let at : c.len-place.result ≡ length c.pop.new.self.items = omega arith in
    let note : slice_get c.args.notes.items c.len-place.result ≡ Some c.in-Some.note = ap (slice_get c.args.notes.items) at
    ∙ last_note c.args.passes.now.items c.loop-note.passes.items c.args.notes.items c.loop-note.notes.items c.pop.new.self.items c.in-Some.note c.loop-note.invariant.learning c.in-Some.ensures.items in
    let inside = slice_get_within c.args.notes.items c.len-place.result c.in-Some.note note in
    let n = alike_length (λ z. z.place) (λ z. z.place) c.args.notes.items c.args.zones.now.items c.requires.notes in
    alike_at (λ z. z.place) (λ z. z.place) c.args.notes.items c.args.zones.now.items c.len-place.result c.in-Some.note c.index.result.now c.requires.notes note
    (read_at c.args.zones.now.items c.len-place.result c.index.result.now (omega arith) c.index.ensures)

pub loop-note-preserved : goal.loop-note-preserved
loop-note-preserved g c =
    let place = c.len-place.ensures in
    let at : c.len-place.result ≡ length c.pop.new.self.items = omega arith in
    let places = c.loop-note.invariant.kept.places ∙ c.requires.stand.there in
    let note : slice_get c.args.notes.items c.len-place.result ≡ Some c.in-Some.note = ap (slice_get c.args.notes.items) at
    ∙ last_note c.args.passes.now.items c.loop-note.passes.items c.args.notes.items c.loop-note.notes.items c.pop.new.self.items c.in-Some.note c.loop-note.invariant.learning c.in-Some.ensures.items in
    let within = slice_get_within c.args.notes.items c.len-place.result c.in-Some.note note in
    let n = alike_length (λ z. z.place) (λ z. z.place) c.args.notes.items c.args.zones.now.items c.requires.notes in
    let m = alike_length (λ z. z.place) (λ z. z.place) c.loop-note.passes.items c.args.zones.now.items places in
    let inside : c.len-place.result < length c.loop-note.passes.items = omega arith in
    record {
      kept = kept_set c.args.passes.now.items c.loop-note.passes.items c.len-place.result c.index_mut.result.now c.learn.new.self c.loop-note.invariant.kept c.index_mut.ensures.value c.learn.ensures.back.here c.learn.ensures.back.place;
      learning = learn_next c.args.passes.now.items c.loop-note.passes.items c.args.notes.items c.loop-note.notes.items c.pop.new.self.items c.in-Some.note c.loop-note.invariant.learning c.in-Some.ensures.items
          c.len-place.result c.index_mut.result.now c.learn.new.self at (read_at c.loop-note.passes.items c.len-place.result c.index_mut.result.now inside c.index_mut.ensures.value) inside c.learn.ensures.learnt;
    }

pub returns-clause-learnt : goal.returns-clause-learnt
returns-clause-learnt g c = λ place. c.loop-note.invariant.learning.learnt place (let none = c.in_default.ensures.cases in omega arith)

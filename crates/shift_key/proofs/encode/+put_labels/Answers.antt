use Rattle.std.proofs.Common.{arith, ◌<◌, Bor, List, ℕ, length, sym, subst}
use Rattle.zone_model.specs.Keys.{label_positions, key_of}
use Rattle.dns_name.specs.Spelling.{IsSpelled}
use Rattle.dns_name.proofs.WireLemmas.{stepped, shorter, wire_some}
use Rattle.shift_key.specs.Laid.{IsFront}
use Rattle.shift_key.proofs.EncodeLemmas.{needs, longer, none_put}
use Rattle.shift_key.proofs.encode.+put_labels.Goals.{then-rest-gt0, else-rest-gt0}
use Rattle.shift_key.proofs.encode.+put_labels.Goals as goal

pub bounds-rest-0 : goal.bounds-rest-0
bounds-rest-0 t c =
    let spelled = c.requires.spelled in
    let s = stepped c.args.bytes.now spelled.0 (c.in-Some.label, c.in-Some.rest) spelled.1 (c.in-Some.ensures spelled.0 spelled.1) in
    wire_some c.in-Some.rest.now s.labels s.spells

pub put_labels-at-requires : goal.put_labels-at-requires
put_labels-at-requires t c =
    let spelled = c.requires.spelled in
    let f = c.in-Some.ensures spelled.0 spelled.1 in
    let s = stepped c.args.bytes.now spelled.0 (c.in-Some.label, c.in-Some.rest) spelled.1 f in
    let lt : length c.in-Some.rest.now < length c.args.bytes.now = shorter c.args.bytes.now spelled.0 (c.in-Some.label, c.in-Some.rest) spelled.1 f in
    let n = needs c.args.bytes.now spelled (c.in-Some.label, c.in-Some.rest) c.requires.room f in
    (omega arith, ((s.labels, s.spells), n.rest))

pub returns-after-rest-gt0 : goal.returns-after-rest-gt0
returns-after-rest-gt0 t c all h =
    let x : Bor (List ℕ) × Bor (List ℕ) = (c.in-Some.label, c.in-Some.rest) in
    let spelled : IsSpelled c.args.bytes.now = (all, h) in
    let f = c.in-Some.ensures all h in
    let s = stepped c.args.bytes.now all x h f in
    let is = (needs c.args.bytes.now spelled x c.requires.room f).is all s.labels h s.spells in
    let front : IsFront (key_of s.labels) c.if-rest-gt0.at c.if-rest-gt0.places = elim c.if-rest-gt0.branch [
      | then-rest-gt0 w ↦ subst (λ (n : ℕ). IsFront (key_of s.labels) n c.if-rest-gt0.places) (sym w.at-is)
          (subst (λ (l : List ℕ). IsFront (key_of s.labels) w.put_labels-at.result l) (sym w.places-is) (w.put_labels-at.ensures s.labels s.spells))
      | else-rest-gt0 w ↦ none_put c.in-Some.rest.now c.if-rest-gt0.places s.labels c.if-rest-gt0.at s.spells (let none = w.if-rest-gt0.false in omega arith) w.at-is
    ] in
    subst (λ (k : List ℕ). IsFront k c.put_label.result c.put_label.new.places) (sym is)
    (longer (key_of s.labels) (label_positions c.in-Some.label.now) c.if-rest-gt0.places c.put_label.new.places c.if-rest-gt0.at c.put_label.result front c.put_label.ensures)

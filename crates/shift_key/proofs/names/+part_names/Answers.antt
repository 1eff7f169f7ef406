use Rattle.std.proofs.Common.{◌+◌, ◌-◌, ◌<◌, ℕ, length, ap, sym, subst, ◌∙◌, arith, rules}
use Rattle.zone_model.specs.Keys.{key_of}
use Rattle.zone_model.proofs.KeyLaws.{length-key_of}
use Rattle.shift_key.specs.Partings.{NamesDiffer}
use Rattle.shift_key.proofs.PartingLemmas.{at_place, first_grows, second_grows, both_grow, first_under, second_under, labels_compared, key_room, none_left}
use Rattle.shift_key.proofs.names.+part_names.Goals as goal

pub bounds-label-0 : goal.bounds-label-0
bounds-label-0 t c =
    let more = c.if-labels-others.true in
    let s = c.split_label.ensures c.requires.first.0 c.args.labels c.requires.first.1 (omega arith) in
    let h : 0 < length c.split_label.result.0.now = s.is_label.some in search (rules, h)

pub part_names-requires : goal.part_names-requires
part_names-requires t c =
    let more = c.if-labels-others.true in
    let s = c.split_label.ensures c.requires.first.0 c.args.labels c.requires.first.1 (omega arith) in
    let fewer : c.args.labels - 1 + c.args.others < c.args.labels + c.args.others = omega arith in
    (search (rules, fewer), ((s.others, s.behind), c.requires.second))

pub part_at-requires : goal.part_at-requires
part_at-requires t c =
    let more = c.if-labels-others.true in
    let s = c.split_label.ensures c.requires.first.0 c.args.labels c.requires.first.1 (omega arith) in
    let r = c.in-Ok.ensures s.others c.requires.second.0 s.behind c.requires.second.1 in
    omega (arith, r.1, length-key_of s.others s.behind.is)

pub returns-in-Err : goal.returns-in-Err
returns-in-Err t c a b ha hb =
    let more = c.if-labels-others.true in
    let s = c.split_label.ensures a c.args.labels ha (omega arith) in
    first_grows a b s.others c.split_label.result.0.now c.in-Err.parting s.is (omega (arith, ha.long, hb.long)) (c.in-Err.ensures s.others b s.behind hb)

pub returns-in-Ok : goal.returns-in-Ok
returns-in-Ok t c a b ha hb =
    let more = c.if-labels-others.true in
    let s = c.split_label.ensures a c.args.labels ha (omega arith) in
    let r = c.in-Ok.ensures s.others b s.behind hb in
    subst (NamesDiffer a b) (sym (c.part_at.ensures ∙ ap (λ (x : ℕ). at_place c.in-Ok.end x 0) c.first_position-before.ensures)) (first_under a b s.others c.split_label.result.0.now c.in-Ok.end s.is s.is_label r.0 r.1)

pub bounds-label-0-then-others-labels : goal.bounds-label-0-then-others-labels
bounds-label-0-then-others-labels t c =
    let more = c.if-others-labels.true in
    let s = c.split_label-then-others-labels.ensures c.requires.second.0 c.args.others c.requires.second.1 (omega arith) in
    let h : 0 < length c.split_label-then-others-labels.result.0.now = s.is_label.some in search (rules, h)

pub part_names-requires-then-others-labels : goal.part_names-requires-then-others-labels
part_names-requires-then-others-labels t c =
    let more = c.if-others-labels.true in
    let s = c.split_label-then-others-labels.ensures c.requires.second.0 c.args.others c.requires.second.1 (omega arith) in
    let fewer : c.args.labels + (c.args.others - 1) < c.args.labels + c.args.others = omega arith in
    (search (rules, fewer), (c.requires.first, (s.others, s.behind)))

pub part_at-requires-in-Ok-part_names : goal.part_at-requires-in-Ok-part_names
part_at-requires-in-Ok-part_names t c =
    let more = c.if-others-labels.true in
    let s = c.split_label-then-others-labels.ensures c.requires.second.0 c.args.others c.requires.second.1 (omega arith) in
    let r = c.in-Ok-part_names.ensures c.requires.first.0 s.others c.requires.first.1 s.behind in
    omega (arith, r.1, length-key_of c.requires.first.0 c.requires.first.1.is)

pub returns-in-Err-part_names : goal.returns-in-Err-part_names
returns-in-Err-part_names t c a b ha hb =
    let more = c.if-others-labels.true in
    let s = c.split_label-then-others-labels.ensures b c.args.others hb (omega arith) in
    second_grows a b s.others c.split_label-then-others-labels.result.0.now c.in-Err-part_names.parting s.is (omega (arith, ha.long, hb.long)) (c.in-Err-part_names.ensures a s.others ha s.behind)

pub returns-in-Ok-part_names : goal.returns-in-Ok-part_names
returns-in-Ok-part_names t c a b ha hb =
    let more = c.if-others-labels.true in
    let s = c.split_label-then-others-labels.ensures b c.args.others hb (omega arith) in
    let r = c.in-Ok-part_names.ensures a s.others ha s.behind in
    subst (NamesDiffer a b) (sym (c.part_at-in-Ok-part_names.ensures ∙ ap (at_place c.in-Ok-part_names.end 0) c.first_position-after.ensures))
    (second_under a b s.others c.split_label-then-others-labels.result.0.now c.in-Ok-part_names.end s.is s.is_label r.0 r.1)

pub part_names-requires-2 : goal.part_names-requires-2
part_names-requires-2 t c =
    let some = c.if-labels-eq0.false in let le = c.if-labels-others.false in let ge = c.if-others-labels.false in
    let s = c.split_label-2.ensures c.requires.first.0 c.args.labels c.requires.first.1 (omega arith) in
    let u = c.split_label-3.ensures c.requires.second.0 c.args.others c.requires.second.1 (omega arith) in
    let fewer : c.args.labels - 1 + (c.args.others - 1) < c.args.labels + c.args.others = omega arith in
    (search (rules, fewer), ((s.others, s.behind), (u.others, u.behind)))

pub part_labels-requires-clause-first : goal.part_labels-requires-clause-first
part_labels-requires-clause-first t c = let some = c.if-labels-eq0.false in (c.split_label-2.ensures c.requires.first.0 c.args.labels c.requires.first.1 (omega arith)).is_label

pub part_labels-requires-clause-second : goal.part_labels-requires-clause-second
part_labels-requires-clause-second t c =
    let some = c.if-labels-eq0.false in let le = c.if-labels-others.false in let ge = c.if-others-labels.false in
    (c.split_label-3.ensures c.requires.second.0 c.args.others c.requires.second.1 (omega arith)).is_label

pub part_labels-requires-clause-room : goal.part_labels-requires-clause-room
part_labels-requires-clause-room t c =
    let le = c.if-labels-others.false in let ge = c.if-others-labels.false in let one = c.if-labels-eq1.true in
    let s = c.split_label-2.ensures c.requires.first.0 c.args.labels c.requires.first.1 (omega arith) in
    let u = c.split_label-3.ensures c.requires.second.0 c.args.others c.requires.second.1 (omega arith) in
    let n = none_left s.others u.others (let long = s.behind.long in omega arith) (let long = u.behind.long in omega arith) in
    key_room c.requires.first.0 s.others c.split_label-2.result.0.now 0 c.requires.first.1.is s.is n.1

pub returns-then-labels-eq1 : goal.returns-then-labels-eq1
returns-then-labels-eq1 t c a b ha hb =
    let le = c.if-labels-others.false in let ge = c.if-others-labels.false in let one = c.if-labels-eq1.true in
    let s = c.split_label-2.ensures a c.args.labels ha (omega arith) in
    let u = c.split_label-3.ensures b c.args.others hb (omega arith) in
    let n = none_left s.others u.others (let long = s.behind.long in omega arith) (let long = u.behind.long in omega arith) in
    labels_compared a b s.others u.others c.split_label-2.result.0.now c.split_label-3.result.0.now c.part_labels.result s.is u.is n.0 (c.part_labels.ensures (key_of s.others) n.1)

pub part_labels-requires-in-Ok-part_names-2-clause-first : goal.part_labels-requires-in-Ok-part_names-2-clause-first
part_labels-requires-in-Ok-part_names-2-clause-first t c = let some = c.if-labels-eq0.false in (c.split_label-2.ensures c.requires.first.0 c.args.labels c.requires.first.1 (omega arith)).is_label

pub part_labels-requires-in-Ok-part_names-2-clause-second : goal.part_labels-requires-in-Ok-part_names-2-clause-second
part_labels-requires-in-Ok-part_names-2-clause-second t c =
    let some = c.if-labels-eq0.false in let le = c.if-labels-others.false in let ge = c.if-others-labels.false in
    (c.split_label-3.ensures c.requires.second.0 c.args.others c.requires.second.1 (omega arith)).is_label

pub part_labels-requires-in-Ok-part_names-2-clause-room : goal.part_labels-requires-in-Ok-part_names-2-clause-room
part_labels-requires-in-Ok-part_names-2-clause-room t c =
    let some = c.if-labels-eq0.false in let le = c.if-labels-others.false in let ge = c.if-others-labels.false in
    let s = c.split_label-2.ensures c.requires.first.0 c.args.labels c.requires.first.1 (omega arith) in
    let u = c.split_label-3.ensures c.requires.second.0 c.args.others c.requires.second.1 (omega arith) in
    let r = c.in-Ok-part_names-2.ensures s.others u.others s.behind u.behind in
    key_room c.requires.first.0 s.others c.split_label-2.result.0.now c.in-Ok-part_names-2.end c.requires.first.1.is s.is r.1

pub returns-in-Err-part_names-2 : goal.returns-in-Err-part_names-2
returns-in-Err-part_names-2 t c a b ha hb =
    let some = c.if-labels-eq0.false in let le = c.if-labels-others.false in let ge = c.if-others-labels.false in
    let s = c.split_label-2.ensures a c.args.labels ha (omega arith) in
    let u = c.split_label-3.ensures b c.args.others hb (omega arith) in
    both_grow a b s.others u.others c.split_label-2.result.0.now c.split_label-3.result.0.now c.in-Err-part_names-2.parting s.is u.is (omega (arith, ha.long, hb.long)) (c.in-Err-part_names-2.ensures s.others u.others s.behind u.behind)

pub returns-in-Ok-part_names-2 : goal.returns-in-Ok-part_names-2
returns-in-Ok-part_names-2 t c a b ha hb =
    let some = c.if-labels-eq0.false in let le = c.if-labels-others.false in let ge = c.if-others-labels.false in
    let s = c.split_label-2.ensures a c.args.labels ha (omega arith) in
    let u = c.split_label-3.ensures b c.args.others hb (omega arith) in
    let r = c.in-Ok-part_names-2.ensures s.others u.others s.behind u.behind in
    labels_compared a b s.others u.others c.split_label-2.result.0.now c.split_label-3.result.0.now c.part_labels-in-Ok-part_names-2.result s.is u.is r.0 (c.part_labels-in-Ok-part_names-2.ensures (key_of s.others) r.1)

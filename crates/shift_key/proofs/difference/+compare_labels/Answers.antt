use Rattle.std.proofs.Common.{◌≡◌, ◌+◌, ◌-◌, ◌<◌, ◌≤◌, ℕ, List, ◌++◌, length, take, drop, get_or, sym, ap, subst, ◌∙◌, arith, rules, length-drop}
use Rattle.std.proofs.lemmas.List.{take_all}
use Rattle.zone_model.specs.Keys.{key_of, label_positions}
use Rattle.shift_key.specs.Differences.{DiffersAt, Compares}
use Rattle.shift_key.proofs.DifferenceLemmas.{never_empty, behind, root_agrees, differs_more}
use Rattle.shift_key.proofs.difference.+compare_labels.Goals as goal

some : (n : ℕ) → (n ≡ 0 → ⊥) → 0 < n
some n h = omega arith

pub bounds-bytes-0 : goal.bounds-bytes-0
bounds-bytes-0 t c = some (length c.args.bytes.now) (λ e. never_empty c.args.bytes.now c.requires.0 e c.requires.2)

pub returns-then-len-eq0 : goal.returns-then-len-eq0
returns-then-len-eq0 t c name is begins = root_agrees c.args.key.now c.args.bytes.now name is begins c.if-len-eq0.true

pub slice_bounds-compare_labels-count : goal.slice_bounds-compare_labels-count
slice_bounds-compare_labels-count t c = let b = behind c.args.bytes.now c.requires.0 c.if-len-eq0.false c.requires.1 c.requires.2 in omega (arith, b.a.fits, b.a.long)

pub slice_bounds-compare_labels-start : goal.slice_bounds-compare_labels-start
slice_bounds-compare_labels-start t c = let b = behind c.args.bytes.now c.requires.0 c.if-len-eq0.false c.requires.1 c.requires.2 in let h : get_or c.args.bytes.now 0 0 + 1 ≤ length c.args.bytes.now = omega (arith, b.a.fits, b.a.long) in search (rules, h)

-- the part that is handed on is what lies behind the first label, and the other one is that label
behind_is : (n : ℕ) (bytes : List ℕ) → take (length bytes - n) (drop n bytes) ≡ drop n bytes
behind_is n bytes = take_all (length bytes - n) (drop n bytes) (omega (arith, length-drop n bytes))

label_is : (n : ℕ) (bytes label : List ℕ) → take n (drop 1 bytes) ≡ label → take (n + 1 - 1) (drop 1 bytes) ≡ label
label_is n bytes label e = let m : n + 1 - 1 ≡ n = omega arith in ap (λ (k : ℕ). take k (drop 1 bytes)) m ∙ e

pub compare_labels-requires : goal.compare_labels-requires
compare_labels-requires t c =
    let b = behind c.args.bytes.now c.requires.0 c.if-len-eq0.false c.requires.1 c.requires.2 in
    let shorter : length (take (length c.args.bytes.now - (get_or c.args.bytes.now 0 0 + 1)) (drop (get_or c.args.bytes.now 0 0 + 1) c.args.bytes.now)) < length c.args.bytes.now =
    omega (arith, ap length (behind_is (get_or c.args.bytes.now 0 0 + 1) c.args.bytes.now), length-drop (get_or c.args.bytes.now 0 0 + 1) c.args.bytes.now, b.a.fits, b.a.long) in
    (search (rules, shorter), (b.a.rest, b.is, (b.a.begins.0, behind_is (get_or c.args.bytes.now 0 0 + 1) c.args.bytes.now ∙ b.a.begins.1)))

pub slice_bounds-compare_label-end : goal.slice_bounds-compare_label-end
slice_bounds-compare_label-end t c = let b = behind c.args.bytes.now c.requires.0 c.if-len-eq0.false c.requires.1 c.requires.2 in let h : get_or c.args.bytes.now 0 0 + 1 ≤ length c.args.bytes.now = omega (arith, b.a.fits, b.a.long) in search (rules, h)

pub compare_label-requires : goal.compare_label-requires
compare_label-requires t c =
    let b = behind c.args.bytes.now c.requires.0 c.if-len-eq0.false c.requires.1 c.requires.2 in
    let agrees = c.in-Ok.ensures b.a.rest b.is (b.a.begins.0, behind_is (get_or c.args.bytes.now 0 0 + 1) c.args.bytes.now ∙ b.a.begins.1) in
    omega (arith, b.room, agrees.end_is, ap (λ (l : List ℕ). length (label_positions l)) (label_is (get_or c.args.bytes.now 0 0) c.args.bytes.now b.a.label b.a.label_is))

pub returns-in-Err : goal.returns-in-Err
returns-in-Err t c name is begins =
    let b = behind c.args.bytes.now name c.if-len-eq0.false is begins in
    subst (λ (l : List ℕ). DiffersAt c.args.key.now l c.in-Err.difference) (sym b.key) (differs_more c.args.key.now (key_of b.a.rest) (label_positions b.a.label) c.in-Err.difference (c.in-Err.ensures b.a.rest b.is (b.a.begins.0, behind_is (get_or c.args.bytes.now 0 0 + 1) c.args.bytes.now ∙ b.a.begins.1)))

pub returns-in-Ok : goal.returns-in-Ok
returns-in-Ok t c name is begins =
    let b = behind c.args.bytes.now name c.if-len-eq0.false is begins in
    let agrees = c.in-Ok.ensures b.a.rest b.is (b.a.begins.0, behind_is (get_or c.args.bytes.now 0 0 + 1) c.args.bytes.now ∙ b.a.begins.1) in
    subst (λ (l : List ℕ). Compares c.args.key.now l c.compare_label.result) (ap (λ (l : List ℕ). key_of b.a.rest ++ label_positions l) (label_is (get_or c.args.bytes.now 0 0) c.args.bytes.now b.a.label b.a.label_is) ∙ sym b.key)
    (c.compare_label.ensures (key_of b.a.rest) agrees)

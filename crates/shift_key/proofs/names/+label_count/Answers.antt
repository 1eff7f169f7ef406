use Rattle.std.proofs.Common.{◌+◌, ◌-◌, ◌<◌, ◌≤◌, length, take, drop, get_or, ap, ◌∙◌, arith, rules, Fits-lit, length-drop}
use Rattle.std.proofs.Math.Facts.{Fits-lt}
use Rattle.shift_key.proofs.DifferenceLemmas.{behind}
use Rattle.shift_key.proofs.PartingLemmas.{some_octets, labels_few, root_only, part_behind}
use Rattle.shift_key.proofs.names.+label_count.Goals as goal

pub bounds-octets-0 : goal.bounds-octets-0
bounds-octets-0 t c = some_octets c.args.octets.now c.requires.0 c.requires.2

pub returns-then-len-eq0 : goal.returns-then-len-eq0
returns-then-len-eq0 t c name is begins = root_only c.args.octets.now name is.each begins c.if-len-eq0.true

pub slice_bounds-label_count-count : goal.slice_bounds-label_count-count
slice_bounds-label_count-count t c = let b = behind c.args.octets.now c.requires.0 c.if-len-eq0.false c.requires.1 c.requires.2 in omega (arith, b.a.fits, b.a.long)

pub slice_bounds-label_count-start : goal.slice_bounds-label_count-start
slice_bounds-label_count-start t c =
    let b = behind c.args.octets.now c.requires.0 c.if-len-eq0.false c.requires.1 c.requires.2 in
    let h : get_or c.args.octets.now 0 0 + 1 ≤ length c.args.octets.now = omega (arith, b.a.fits, b.a.long) in search (rules, h)

pub label_count-requires : goal.label_count-requires
label_count-requires t c =
    let b = behind c.args.octets.now c.requires.0 c.if-len-eq0.false c.requires.1 c.requires.2 in
    let all = part_behind (get_or c.args.octets.now 0 0 + 1) c.args.octets.now in
    let shorter : length (take (length c.args.octets.now - (get_or c.args.octets.now 0 0 + 1)) (drop (get_or c.args.octets.now 0 0 + 1) c.args.octets.now)) < length c.args.octets.now =
    omega (arith, ap length all, length-drop (get_or c.args.octets.now 0 0 + 1) c.args.octets.now, b.a.fits, b.a.long) in
    (search (rules, shorter), (b.a.rest, b.is, (b.a.begins.0, all ∙ b.a.begins.1)))

pub overflow_add-result : goal.overflow_add-result
overflow_add-result t c =
    let b = behind c.args.octets.now c.requires.0 c.if-len-eq0.false c.requires.1 c.requires.2 in
    let e = c.label_count.ensures b.a.rest b.is (b.a.begins.0, part_behind (get_or c.args.octets.now 0 0 + 1) c.args.octets.now ∙ b.a.begins.1) in
    let few = labels_few b.a.rest in let short = b.is.short in
    Fits-lt {n = 65536} (omega arith) (Fits-lit tt)

pub returns : goal.returns
returns t c name is begins =
    let b = behind c.args.octets.now name c.if-len-eq0.false is begins in
    let e = c.label_count.ensures b.a.rest b.is (b.a.begins.0, part_behind (get_or c.args.octets.now 0 0 + 1) c.args.octets.now ∙ b.a.begins.1) in
    omega (arith, ap length b.a.is)

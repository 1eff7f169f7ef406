use Rattle.std.proofs.Common.{◌≡◌, ◌∙◌, ◌+◌, List, ap, sym, subst, take, drop, Ok, Err}
use Rattle.std.specs.List.{slice_range}
use Rattle.zone_model.specs.Lines.{lines_of}
use Rattle.zone_model.specs.MasterFile.{Zone}
use Rattle.zone_text.specs.Places.{first_line}
use Rattle.zone_list.specs.Lists.{Part, cut_from, zones_from, part_says}
use Rattle.zone_text.specs.Views.{Reads}
use Rattle.zone_list.proofs.CutLemmas.{head_alone, part_first, zones_more, part_stops}
use Rattle.zone_list.proofs.parts.read_part.Goals as goal

pub part_says-requires-clause-line : goal.part_says-requires-clause-line
part_says-requires-clause-line c = head_alone c.line_at-body.ensures

pub returns-in_ok-push-in-Ok-clause-reads : goal.returns-in_ok-push-in-Ok-clause-reads
returns-in_ok-push-in-Ok-clause-reads c =
    let text = c.args.text.now in
    let earlier = c.args.zones.now.items in
    let body = c.line_at-body.result.1 in
    let front = c.front_of-front.result in
    let n = c.args.number in
    let part : Part = record { number = n; head = first_line (take body text); lines = lines_of (slice_range text body (body + front.upto)) } in
    let rest = (cut_from (n + (front.lines + 1)) (lines_of (drop (body + front.upto) text))).parts in
    let said : part_says earlier part ≡ Ok c.in-Ok.zone = subst (λ (l : List Zone). part_says l part ≡ Ok c.in-Ok.zone) c.deref.ensures.value c.in-Ok.ensures in
    zones_more earlier (cut_from n (lines_of text)).parts rest part c.in-Ok.zone (part_first n c.requires.begins c.line_at-body.ensures c.front_of-front.ensures) said
    ∙ ap (λ (l : List Zone). zones_from l rest) (sym c.in_ok-push-in-Ok.ensures.items)

pub returns-in-Err-clause-reads : goal.returns-in-Err-clause-reads
returns-in-Err-clause-reads c =
    let text = c.args.text.now in
    let body = c.line_at-body.result.1 in
    let part : Part = record { number = c.args.number; head = first_line (take body text); lines = lines_of (slice_range text body (body + c.front_of-front.result.upto)) } in
    part_stops text c.args.number c.args.zones.now.items c.args.zones.now.items _ part c.in-Err.refusal (part_first c.args.number c.requires.begins c.line_at-body.ensures c.front_of-front.ensures)
    (subst (λ (l : List Zone). Reads {A = Zone} (Err c.in-Err.refusal) (λ (z : Zone). z) (part_says l part)) c.deref.ensures.value c.in-Err.ensures)

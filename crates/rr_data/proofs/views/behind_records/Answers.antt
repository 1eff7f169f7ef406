use Rattle.std.proofs.Common.{◌-◌, ◌+◌, ◌++◌, arith}
use Rattle.std.specs.List.{flat_map}
use Rattle.zone_model.specs.Records.{record_bytes}
use Rattle.rr_data.proofs.ItemViewLemmas.{next_record, fewer_left}
use Rattle.rr_data.proofs.views.behind_records.Goals as goal

pub first_record-requires : goal.first_record-requires
first_record-requires c =
    let left = c.loop.invariant c.requires.0 c.requires.1 c.requires.2 in
    let s = next_record (c.args.count - c.loop.counter) c.loop.rest.now left.left c.requires.1 left.are (omega arith) in
    (s.octets, flat_map record_bytes s.left ++ c.requires.1, s.front)

pub loop-preserved : goal.loop-preserved
loop-preserved c records more h =
    fewer_left (c.args.count - c.loop.counter) (c.args.count - (c.loop.counter + 1)) c.loop.rest.now c.first_record.result.1.now more (c.loop.invariant records more h) (omega arith)
    (λ octets rest b. (c.first_record.ensures.split octets rest b).1)

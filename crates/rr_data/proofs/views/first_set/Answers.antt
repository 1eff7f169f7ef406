use Rattle.std.proofs.Common.{◌∙◌}
use Rattle.rr_data.proofs.ItemViewLemmas.{set_head, set_records, before_more, set_view}
use Rattle.rr_data.proofs.views.first_set.Goals as goal

pub behind_records-behind-requires : goal.behind_records-behind-requires
behind_records-behind-requires c =
    let head = set_head c.args.bytes.now c.requires.0 c.requires.1 c.split_at.result.0.now c.split_at.result.1.now c.split_at-2.result.0.now c.split_at-2.result.1.now c.split_at-3.result.0.now c.split_at-3.result.1.now c.requires.2
    (record { a_is = c.split_at.ensures.front; behind_a_is = c.split_at.ensures.back; b_is = c.split_at-2.ensures.front; behind_b_is = c.split_at-2.ensures.back; c_is = c.split_at-3.ensures.front; behind_c_is = c.split_at-3.ensures.back }) in
    (c.requires.0.records, c.requires.1, set_records c.requires.0 c.requires.1 c.split_at.result.0.now c.split_at-2.result.0.now c.split_at-3.result.0.now c.split_at-3.result.1.now c.short_of-count.result head c.short_of-count.ensures)

pub overflow_sub-records : goal.overflow_sub-records
overflow_sub-records c =
    let head = set_head c.args.bytes.now c.requires.0 c.requires.1 c.split_at.result.0.now c.split_at.result.1.now c.split_at-2.result.0.now c.split_at-2.result.1.now c.split_at-3.result.0.now c.split_at-3.result.1.now c.requires.2
    (record { a_is = c.split_at.ensures.front; behind_a_is = c.split_at.ensures.back; b_is = c.split_at-2.ensures.front; behind_b_is = c.split_at-2.ensures.back; c_is = c.split_at-3.ensures.front; behind_c_is = c.split_at-3.ensures.back }) in
    let records = set_records c.requires.0 c.requires.1 c.split_at.result.0.now c.split_at-2.result.0.now c.split_at-3.result.0.now c.split_at-3.result.1.now c.short_of-count.result head c.short_of-count.ensures in
    (before_more c.short_of-count.result c.split_at-3.result.1.now c.requires.0.records c.requires.1 c.behind_records-behind.result.now records (c.behind_records-behind.ensures c.requires.0.records c.requires.1 records)).0

pub invariant_of-set : goal.invariant_of-set
invariant_of-set c =
    let head = set_head c.args.bytes.now c.requires.0 c.requires.1 c.split_at.result.0.now c.split_at.result.1.now c.split_at-2.result.0.now c.split_at-2.result.1.now c.split_at-3.result.0.now c.split_at-3.result.1.now c.requires.2
    (record { a_is = c.split_at.ensures.front; behind_a_is = c.split_at.ensures.back; b_is = c.split_at-2.ensures.front; behind_b_is = c.split_at-2.ensures.back; c_is = c.split_at-3.ensures.front; behind_c_is = c.split_at-3.ensures.back }) in
    let records = set_records c.requires.0 c.requires.1 c.split_at.result.0.now c.split_at-2.result.0.now c.split_at-3.result.0.now c.split_at-3.result.1.now c.short_of-count.result head c.short_of-count.ensures in
    let b = before_more c.short_of-count.result c.split_at-3.result.1.now c.requires.0.records c.requires.1 c.behind_records-behind.result.now records (c.behind_records-behind.ensures c.requires.0.records c.requires.1 records) in
    (c.requires.0.records, record { rising = c.requires.2.proper.rising; counted = records.counted; laid = c.split_at-4.ensures.front ∙ b.1 })

pub returns : goal.returns
returns c s more h =
    let head = set_head c.args.bytes.now s more c.split_at.result.0.now c.split_at.result.1.now c.split_at-2.result.0.now c.split_at-2.result.1.now c.split_at-3.result.0.now c.split_at-3.result.1.now h
    (record { a_is = c.split_at.ensures.front; behind_a_is = c.split_at.ensures.back; b_is = c.split_at-2.ensures.front; behind_b_is = c.split_at-2.ensures.back; c_is = c.split_at-3.ensures.front; behind_c_is = c.split_at-3.ensures.back }) in
    let records = set_records s more c.split_at.result.0.now c.split_at-2.result.0.now c.split_at-3.result.0.now c.split_at-3.result.1.now c.short_of-count.result head c.short_of-count.ensures in
    let behind = c.behind_records-behind.ensures s.records more records in
    let b = before_more c.short_of-count.result c.split_at-3.result.1.now s.records more c.behind_records-behind.result.now records behind in (
      set_view s c.short_of.result c.number_of.result c.short_of-count.result c.split_at-4.result.0.now (c.short_of.ensures ∙ head.rtype) (c.number_of.ensures ∙ head.ttl)
          (record { rising = h.proper.rising; counted = records.counted; laid = c.split_at-4.ensures.front ∙ b.1 }),
      behind,
    )

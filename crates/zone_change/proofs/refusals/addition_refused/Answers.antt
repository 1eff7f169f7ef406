use Rattle.std.proofs.Common.{◌≡◌, ◌∙◌, sym, subst, arith}
use Rattle.zone_model.specs.Records.{Entry}
use Rattle.zone_model.specs.Versions.{with_added}
use Rattle.zone_change.specs.Views.{addition_view}
use Rattle.zone_change.specs.Counts.{count_of}
use Rattle.zone_change.proofs.CountLaws.{says_entry, entry_added, long_refused, added_fits}
use Rattle.zone_change.proofs.refusals.addition_refused.Goals as goal

pub returns-then-count-gt-ITEM_LIMIT : goal.returns-then-count-gt-ITEM_LIMIT
returns-then-count-gt-ITEM_LIMIT c entry says =
    let a = addition_view c.args.added.now in
    let e = says_entry c.args.added.now.owner c.args.octets.now entry says in
    let is = subst (λ (l : Entry). c.with-count.result ≡ count_of a.owner (with_added a l)) (c.of-entry.ensures entry says) c.with-count.ensures in
    long_refused c.args.origin.now a entry (sym c.is_low_soa.ensures ∙ c.if-is_low_soa.false) c.with-count.result is (entry_added a entry (omega arith) (omega arith) c.octets-data.ensures.short e) (sym c.is_lone.ensures ∙ c.if-not-is_lone.false) c.if-count-gt-ITEM_LIMIT.true

pub returns : goal.returns
returns c entry says =
    let a = addition_view c.args.added.now in
    let e = says_entry c.args.added.now.owner c.args.octets.now entry says in
    let is = subst (λ (l : Entry). c.with-count.result ≡ count_of a.owner (with_added a l)) (c.of-entry.ensures entry says) c.with-count.ensures in
    added_fits c.args.origin.now a entry (sym c.is_low_soa.ensures ∙ c.if-is_low_soa.false) c.with-count.result is (entry_added a entry (omega arith) (omega arith) c.octets-data.ensures.short e) (sym c.is_lone.ensures ∙ c.if-not-is_lone.false) c.if-count-gt-ITEM_LIMIT.false

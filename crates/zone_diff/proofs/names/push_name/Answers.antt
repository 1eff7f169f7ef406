use Rattle.std.proofs.Common.{[], ap, refl, subst, sym}
use Rattle.std.proofs.lemmas.Result.{on_ok_weaker}
use Rattle.std.specs.declared.cmp.Ordering.{Ordering}
use Rattle.std.specs.Ordering.{is_ge, is_le}
use Rattle.zone_diff.specs.NamesAhead.{first_entry, name_changes}
use Rattle.zone_diff.specs.Sinks.{Adds}
use Rattle.zone_diff.proofs.NameLemmas.{new_says, old_says}
use Rattle.zone_diff.proofs.names.push_name.Goals as goal

pub push_entry-requires-clause-before : goal.push_entry-requires-clause-before
push_entry-requires-clause-before g c =
    let b = c.requires.some_before in
    let a = c.requires.some_after in
    (first_entry b.0, old_says b.0 a.0 c.args.owner.now c.args.order c.item.result.now (c.requires.first b.0 a.0 b.1 a.1) (ap is_le c.in-Equal.is) (c.item.ensures b.0 b.1))

pub push_entry-requires-clause-after : goal.push_entry-requires-clause-after
push_entry-requires-clause-after g c =
    let b = c.requires.some_before in
    let a = c.requires.some_after in
    (first_entry a.0, new_says b.0 a.0 c.args.owner.now c.args.order c.item-in-Equal.result.now (c.requires.first b.0 a.0 b.1 a.1) (ap is_ge c.in-Equal.is) (c.item-in-Equal.ensures a.0 a.1))

pub push_entry-requires-in-Greater-clause-after : goal.push_entry-requires-in-Greater-clause-after
push_entry-requires-in-Greater-clause-after g c =
    let b = c.requires.some_before in
    let a = c.requires.some_after in
    (first_entry a.0, new_says b.0 a.0 c.args.owner.now c.args.order c.item-in-Greater.result.now (c.requires.first b.0 a.0 b.1 a.1) (ap is_ge c.in-Greater.is) (c.item-in-Greater.ensures a.0 a.1))

pub returns-in-Equal : goal.returns-in-Equal
returns-in-Equal g c =
    let has = g.K.OperationSink.has in
    on_ok_weaker c.push_entry.result (λ adds b a sb sa.
    let e = c.requires.first b a sb sa in
    subst (λ (o : Ordering). Adds (has c.args.sink.now) (has c.push_entry.new.sink) (name_changes c.args.serial c.args.owner.now o b a)) (sym c.in-Equal.is)
    (adds (first_entry b) (first_entry a) (old_says b a c.args.owner.now c.args.order c.item.result.now e (ap is_le c.in-Equal.is) (c.item.ensures b sb))
    (new_says b a c.args.owner.now c.args.order c.item-in-Equal.result.now e (ap is_ge c.in-Equal.is) (c.item-in-Equal.ensures a sa))))
    c.push_entry.ensures

pub returns-in-Greater : goal.returns-in-Greater
returns-in-Greater g c =
    let has = g.K.OperationSink.has in
    on_ok_weaker c.push_entry-in-Greater.result (λ adds b a sb sa.
    subst (λ (o : Ordering). Adds (has c.args.sink.now) (has c.push_entry-in-Greater.new.sink) (name_changes c.args.serial c.args.owner.now o b a)) (sym c.in-Greater.is)
    (adds [] (first_entry a) refl (new_says b a c.args.owner.now c.args.order c.item-in-Greater.result.now (c.requires.first b a sb sa) (ap is_ge c.in-Greater.is) (c.item-in-Greater.ensures a sa))))
    c.push_entry-in-Greater.ensures

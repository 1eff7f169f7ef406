use Rattle.std.proofs.Common.{◌∙◌, sym, subst}
use Rattle.dns_name.specs.SortKeys.{KeyBelow}
use Rattle.zone_text.specs.Views.{Gives}
use Rattle.master_file.specs.Owners.{version_of}
use Rattle.master_file.proofs.OwnerLemmas.{under, low_refused, added_placed, joins}
use Rattle.master_file.proofs.owners.Owners.add.Goals as goal

pub returns-then-is_low_soa-clause-gives : goal.returns-then-is_low_soa-clause-gives
returns-then-is_low_soa-clause-gives c =
    let below : KeyBelow c.args.owner.now c.args.apex.now c.in-Some.key = rw c.in-Some.is at c.in_ok-key.ensures in
    λ told. rw c.refuse-then-is_low_soa.ensures.line (rw c.refuse-then-is_low_soa.ensures.kind (low_refused c.args.apex.now c.args.last c.args.owner.now c.args.rtype c.args.time c.args.rdata.now _ (under _ _ _ below) (sym c.is_low_soa.ensures ∙ c.if-is_low_soa.true)))

pub returns-clause-gives : goal.returns-clause-gives
returns-clause-gives c =
    let below : KeyBelow c.args.owner.now c.args.apex.now c.in-Some.key = rw c.in-Some.is at c.in_ok-key.ensures in
    let joined = joins c.args.apex.now c.args.last c.in-Some.key c.args.owner.now c.args.rtype c.args.time c.args.rdata.now c.args.self.now.owned.entries c.grow.new.owned.entries c.grow.result below c.wire-wire.ensures.name c.requires.held c.grow.ensures in
    subst (λ w. Gives c.grow.result (version_of c.grow.new.owned.entries) w)
    (sym (added_placed c.args.apex.now c.args.last c.args.owner.now c.args.rtype c.args.time c.args.rdata.now (version_of c.args.self.now.owned.entries) (under _ _ _ below) (sym c.is_low_soa.ensures ∙ c.if-is_low_soa.false))) joined.gives

pub returns-clause-held : goal.returns-clause-held
returns-clause-held c =
    let below : KeyBelow c.args.owner.now c.args.apex.now c.in-Some.key = rw c.in-Some.is at c.in_ok-key.ensures in
    (joins c.args.apex.now c.args.last c.in-Some.key c.args.owner.now c.args.rtype c.args.time c.args.rdata.now c.args.self.now.owned.entries c.grow.new.owned.entries c.grow.result below c.wire-wire.ensures.name c.requires.held c.grow.ensures).keeps

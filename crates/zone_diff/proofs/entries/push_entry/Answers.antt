use Rattle.std.proofs.Common.{◌≡◌, ◌∙◌, ◌++◌, ap, subst, Option}
use Rattle.std.proofs.lemmas.Result.{on_ok_weaker}
use Rattle.zone_model.specs.Records.{Rrset, Entry, rrset_of}
use Rattle.zone_diff.specs.declared.sets.Side.TheVariants.{Before, After}
use Rattle.zone_diff.specs.Differences.{entry_changes, soa_additions}
use Rattle.zone_diff.specs.Sinks.{Adds}
use Rattle.zone_diff.proofs.MergeLemmas.{adds_joined}
use Rattle.zone_diff.proofs.NameLemmas.{found_is}
use Rattle.zone_diff.proofs.entries.push_entry.Goals as goal

pub returns : goal.returns
returns g c =
    let has = g.K.OperationSink.has in
    let had = has c.args.sink.now in
    let gone = has c.push_side.new.sink in
    let then = has c.push_soa.new.sink in
    let now = has c.push_side-2.new.sink in
    let owner = c.args.owner.now in
    let mode = c.args.serial in
    on_ok_weaker c.push_side-2.result (λ third b a sb sa.
    let gone_as : entry_changes Before owner c.of-new.result c.of-old.result ≡ entry_changes Before owner a b = ap (λ (x : Entry). entry_changes Before owner x c.of-old.result) (c.of-new.ensures a sa) ∙ ap (entry_changes Before owner a) (c.of-old.ensures b sb) in
    let comes_as : entry_changes After owner c.of-old-2.result c.of-new-2.result ≡ entry_changes After owner b a = ap (λ (x : Entry). entry_changes After owner x c.of-new-2.result) (c.of-old-2.ensures b sb) ∙ ap (entry_changes After owner b) (c.of-new-2.ensures a sa) in
    let old_soa = found_is c.find_set-old_soa.result (rrset_of 6 c.of-old.result) c.find_set-old_soa.ensures ∙ ap (rrset_of 6) (c.of-old.ensures b sb) in
    let new_soa = found_is c.find_set-new_soa.result (rrset_of 6 c.of-new.result) c.find_set-new_soa.ensures ∙ ap (rrset_of 6) (c.of-new.ensures a sa) in
    let exchanged : soa_additions mode owner c.find_set-old_soa.result c.find_set-new_soa.result ≡ soa_additions mode owner (rrset_of 6 b) (rrset_of 6 a) =
    ap (λ (x : Option Rrset). soa_additions mode owner x c.find_set-new_soa.result) old_soa ∙ ap (soa_additions mode owner (rrset_of 6 b)) new_soa in
    adds_joined had gone now (entry_changes Before owner a b) (soa_additions mode owner (rrset_of 6 b) (rrset_of 6 a) ++ entry_changes After owner b a) (subst (Adds had gone) gone_as c.in_ok-push_side.ensures)
    (adds_joined gone then now (soa_additions mode owner (rrset_of 6 b) (rrset_of 6 a)) (entry_changes After owner b a) (subst (Adds gone then) exchanged c.in_ok-push_soa.ensures) (subst (Adds then now) comes_as third)))
    c.push_side-2.ensures

use Rattle.std.proofs.Common.{List, rules, sym, subst}
use Rattle.zone_model.specs.Keys.{Leads}
use Rattle.trie_model.specs.Keys.{Rises}
use Rattle.trie_model.specs.Memory.{Stands}
use Rattle.trie_read.specs.Reads.{EachTells}
use Rattle.trie_write.specs.declared.item.Item.{Item}
use Rattle.trie_write.specs.Entries.{entries_of_items}
use Rattle.trie_write.proofs.ItemLaws.{items_tell}
use Rattle.trie_write.proofs.RootLaws.{stands_of}
use Rattle.job_commands.specs.Histories.{StandsAs}
use Rattle.zone_edit.proofs.SetLaws.{entries_rise}
use Rattle.job_tests.proofs.plain.addresses.Goals as goal

pub build-requires : goal.build-requires
build-requires c =
    let stands = subst (λ (items : List Item). StandsAs (entries_of_items items) c.args.zone.pairs) (sym c.deref.ensures.value) c.in_ok-items.ensures in
    record { rising = subst Rises stands.entries (entries_rise c.args.zone.pairs stands.valid.rising stands.valid.items); uncounted = search rules; ready = search rules }

pub answer-requires : goal.answer-requires
answer-requires c =
    let stands = subst (λ (items : List Item). StandsAs (entries_of_items items) c.args.zone.pairs) (sym c.deref.ensures.value) c.in_ok-items.ensures in
    let same = sym stands.entries in (
      c.args.zone.pairs,
      record {
        version_is = stands.valid;
        held = c.new-version.ensures.holds _
            (subst (Stands _ c.in_ok-root.root) same (stands_of _ _ _ (entries_of_items c.deref.result.now) c.in_ok-root.root c.in_ok-root.ensures.built))
            (subst (EachTells Leads) same (items_tell c.deref.result.now));
      },
    )

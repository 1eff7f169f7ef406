use Rattle.std.proofs.Common.{◌≡◌, ◌∙◌, map, sym, ap, subst}
use Rattle.trie_model.specs.Keys.{Rises}
use Rattle.trie_write.specs.Entries.{entries_of_items}
use Rattle.zone_table.specs.Tables.{IsTable, entry_for}
use Rattle.zone_table.proofs.Lists.{if_ok}
use Rattle.zone_table.proofs.TableLaws.{table_of, table_rises}
use Rattle.zone_table.proofs.table.table_items.Goals as goal

pub returns-clause-table : goal.returns-clause-table
returns-clause-table c =
    let sorted = c.in_ok-sorted.sorted.items in
    if_ok (λ items. entries_of_items items.items ≡ map entry_for c.deref.result.now) (λ items. IsTable c.args.origins.now (entries_of_items items.items)) c.items_for.result
    (λ items is. subst (IsTable c.args.origins.now) (sym (is ∙ ap (map entry_for) c.deref.ensures.value)) (table_of c.args.origins.now sorted c.in_ok-sorted.ensures.items)) c.items_for.ensures

pub returns-clause-rising : goal.returns-clause-rising
returns-clause-rising c =
    let sorted = c.in_ok-sorted.sorted.items in
    if_ok (λ items. entries_of_items items.items ≡ map entry_for c.deref.result.now) (λ items. Rises (entries_of_items items.items)) c.items_for.result
    (λ items is. subst Rises (sym (is ∙ ap (map entry_for) c.deref.ensures.value))
    (table_rises c.args.origins.now sorted c.requires.names c.requires.different c.in_ok-sorted.ensures.items c.in_ok-sorted.ensures.sorted)) c.items_for.ensures

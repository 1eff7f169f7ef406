-- Two zones that are opened.
use Rattle.std.proofs.Common.{◌≡◌, false, List, [], ◌∷◌, sym, subst}
use Rattle.std.specs.List.{All, IsDistinct, slice_index_or}
use Rattle.zone_model.specs.Names.{Name, same_name}
use Rattle.trie_model.specs.Keys.{Rises}
use Rattle.trie_write.specs.Entries.{entries_of_items}
use Rattle.trie_write.specs.declared.item.Item.{Item}
use Rattle.zone_table.specs.Openings.{entries_in}
use Rattle.zone_table.specs.declared.opening.ZoneItems.{ZoneItems}

pub two_apart : (a b : Name) → same_name a b ≡ false → IsDistinct same_name (a ∷ b ∷ [])
unfolding IsDistinct
two_apart a b e = ((e, tt), (tt, tt))

-- each without an item
rises_so : (z : ZoneItems) → z.items.items ≡ [] → Rises (entries_in z)
rises_so z e = subst (λ (is : List Item). Rises (entries_of_items is)) (sym e) tt

pub empty_rise : (zones : List ZoneItems) → All (λ z. z.items.items ≡ []) zones → All (λ z. Rises (entries_in z)) zones
empty_rise zones empty k d inside = rises_so (slice_index_or zones k d) (empty k d inside)

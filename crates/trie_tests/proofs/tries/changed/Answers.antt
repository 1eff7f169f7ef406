use Rattle.std.proofs.Common.{◌≡◌, ℕ, List, sym, subst}
use Rattle.zone_model.specs.Keys.{Leads}
use Rattle.trie_write.specs.declared.item.Item.{Item}
use Rattle.trie_write.specs.Entries.{entry_of}
use Rattle.trie_space.proofs.SpaceLaws.{ok_map}
use Rattle.trie_write.proofs.RootLaws.{entry_with, tells_more, tells_exchanged, tells_fewer}
use Rattle.trie_tests.proofs.tries.changed.Goals as goal

-- a key and octets that are an item's
leads : (item : Item) (key octets : List ℕ) → key ≡ (entry_of item).key → octets ≡ (entry_of item).item → Leads (entry_of item).key (entry_of item).item → Leads key octets
leads item key octets k o l = subst (λ (x : List ℕ). Leads x octets) (sym k) (subst (λ (x : List ℕ). Leads (entry_of item).key x) (sym o) l)

pub insert-requires : goal.insert-requires
insert-requires g c = record { stands = c.requires.stands; leads = leads c.args.item.now c.key-key.result c.octets-octets.result.now c.key-key.ensures c.octets-octets.ensures.octets c.octets-octets.ensures.leads; ready = c.requires.ready }

pub replace-requires : goal.replace-requires
replace-requires g c = record { stands = c.requires.stands; leads = leads c.args.item.now c.key-key.result c.octets-octets.result.now c.key-key.ensures c.octets-octets.ensures.octets c.octets-octets.ensures.leads; ready = c.requires.ready }

pub delete-requires : goal.delete-requires
delete-requires g c = record { stands = c.requires.stands; ready = c.requires.ready }

pub returns-in-Insert : goal.returns-in-Insert
returns-in-Insert g c =
    let s = c.requires.stands in
    let e = entry_with c.key-key.result c.octets-octets.result.now in
    let here = leads c.args.item.now c.key-key.result c.octets-octets.result.now c.key-key.ensures c.octets-octets.ensures.octets c.octets-octets.ensures.leads in
    ok_map c.insert.result (λ new h. let n = h s.0 s.1 s.2 in record { stands = (n.0, n.2, tells_more Leads e s.0 n.0 s.2 here n.1); ready = c.insert.ensures.changes.ready }) c.insert.ensures.inserted

pub returns-in-Replace : goal.returns-in-Replace
returns-in-Replace g c =
    let s = c.requires.stands in
    let e = entry_with c.key-key.result c.octets-octets.result.now in
    let here = leads c.args.item.now c.key-key.result c.octets-octets.result.now c.key-key.ensures c.octets-octets.ensures.octets c.octets-octets.ensures.leads in
    ok_map c.replace.result (λ new h. let n = h s.0 s.1 s.2 in record { stands = (n.0, n.2, tells_exchanged Leads e s.0 n.0 s.2 here n.1); ready = c.replace.ensures.changes.ready }) c.replace.ensures.replaced

pub returns-in-Delete : goal.returns-in-Delete
returns-in-Delete g c =
    let s = c.requires.stands in
    ok_map c.delete.result (λ new h. let n = h s.0 s.1 s.2 in record { stands = (n.0, n.2, tells_fewer Leads c.key-key.result s.0 n.0 s.2 n.1); ready = c.delete.ensures.changes.ready }) c.delete.ensures.deleted

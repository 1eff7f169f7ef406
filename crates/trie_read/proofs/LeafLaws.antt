-- What the front of a leaf's item tells.
use Rattle.std.proofs.Common.{◌≡◌, ◌↔◌, ℕ, ◌≤◌, List, ◌++◌, length, take, Option, Some, None, IsNone, IsSome, length-take, arith, refl, sym, ◌∙◌, ap, subst}
use Rattle.zone_model.specs.Names.{Name, wire, IsName, BeginsWith}
use Rattle.zone_model.specs.Keys.{key_of, IsKey as IsNameKey, Leads}
use Rattle.trie_model.specs.Keys.{IsItem}
use Rattle.trie_model.proofs.NameLaws.{one_key_leads, leads_by_front}

-- the front of an item has a name, which is the key's
pub has_name : (key item front : List ℕ) (r : Option Name) → IsItem item → front ≡ take 256 item → Leads key item → (IsNone r → (name : Name) → IsName name → BeginsWith front name → ⊥) → IsSome r
has_name key item front None is e leads never = let there = subst (Leads key) (sym e) ((leads_by_front key item is).0 leads) in absurd (never refl there.name there.is_name there.front)
has_name key item front (Some name) is e leads never = refl

pub name_is : (key item front : List ℕ) (name : Name) → IsItem item → front ≡ take 256 item → Leads key item → IsName name → BeginsWith front name → key_of name ≡ key
name_is key item front name is e leads is_name begins =
    let here : Leads (key_of name) front = record { short = (let n = ap (λ (xs : List ℕ). length xs) e in let m = length-take 256 item in omega arith); name = name; is_name = is_name; key = refl; front = begins } in
    one_key_leads (key_of name) key front here (subst (Leads key) (sym e) ((leads_by_front key item is).0 leads))

-- the name that the front begins with, and its key
pub record Fronted (key front : List ℕ) : Type 0 where
  pub name : Name
  pub is_name : IsName name
  pub begins : BeginsWith front name
  pub is : key ≡ key_of name

pub fronted : (key item front : List ℕ) → IsItem item → front ≡ take 256 item → Leads key item → Fronted key front
fronted key item front is e leads = let there = subst (Leads key) (sym e) ((leads_by_front key item is).0 leads) in record { name = there.name; is_name = there.is_name; begins = there.front; is = there.key }

-- an item begins with the octets of the key's name exactly where it says the key
pub says_key : (key own item octets : List ℕ) → IsItem item → Leads own item → IsNameKey key → ((name : Name) → IsName name → key ≡ key_of name → octets ≡ wire name) → ((rest : List ℕ) × (item ≡ octets ++ rest)) ↔ (own ≡ key)
says_key key own item octets is leads k spelled = (
  λ b. one_key_leads own key item leads (record { short = leads.short; name = k.0; is_name = k.1; key = k.2; front = (b.0, b.1 ∙ ap (λ (o : List ℕ). o ++ b.0) (spelled k.0 k.1 k.2)) }),
  λ e. (leads.front.0, leads.front.1 ∙ ap (λ (o : List ℕ). o ++ leads.front.0) (sym (spelled leads.name leads.is_name (sym e ∙ leads.key)))),
)

pub wire_few : (key octets : List ℕ) → IsNameKey key → ((name : Name) → IsName name → key ≡ key_of name → octets ≡ wire name) → length octets ≤ 256
wire_few key octets k spelled = let e = ap (λ (o : List ℕ). length o) (spelled k.0 k.1 k.2) in let s = k.1.short in omega arith

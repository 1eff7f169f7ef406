-- An item that a key leads: it begins with the wire form of the key's name.
use Rattle.std.proofs.Common.{◌≡◌, ℕ, ◌+◌, ◌-◌, ◌≤◌, List, ◌++◌, length, take, drop, sym, ap, ◌∙◌, refl, arith, append_assoc, take-append-drop, length-take}
use Rattle.std.proofs.Math.Seq.{take-append-add}
use Rattle.zone_model.specs.Names.{Name, wire, IsName}
use Rattle.zone_model.specs.Keys.{key_of, Leads, most_item_octets}
use Rattle.zone_model.proofs.KeyLaws.{key_once}
use Rattle.dns_name.proofs.ScanLemmas.{begins_once}

-- the item begins with the name's octets
pub leads_by : (name : Name) (octets rest item : List ℕ) → IsName name → octets ≡ wire name → length item ≤ most_item_octets → item ≡ octets ++ rest → Leads (key_of name) item
leads_by name octets rest item is e short front = record { short = short; name = name; is_name = is; key = refl; front = (rest, front ∙ ap (λ (l : List ℕ). l ++ rest) e) }

pub led_by : (name : Name) (octets item : List ℕ) → IsName name → octets ≡ wire name → (l : Leads (key_of name) item) → item ≡ octets ++ l.front.0
led_by name octets item is e l =
    let same : l.name ≡ name = key_once l.name name l.is_name.each is.each (sym l.key) in
    l.front.1 ∙ ap (λ (n : Name). wire n ++ l.front.0) same ∙ ap (λ (o : List ℕ). o ++ l.front.0) (sym e)

-- one key at most leads an item
pub leads_once : (a b item : List ℕ) → Leads a item → Leads b item → a ≡ b
leads_once a b item x y = x.key ∙ ap key_of (begins_once item x.name y.name x.is_name.each y.is_name.each x.front y.front) ∙ sym y.key

-- its first 256 octets tell
pub leads_front : (key item : List ℕ) → Leads key item → Leads key (take 256 item)
leads_front key item l =
    let n : length (wire l.name) + (256 - length (wire l.name)) ≡ 256 = omega (arith, l.is_name.short) in
    record {
      short = omega (arith, length-take 256 item);
      name = l.name;
      is_name = l.is_name;
      key = l.key;
      front = (
        take (256 - length (wire l.name)) l.front.0,
        ap (take 256) l.front.1 ∙ ap (λ (k : ℕ). take k (wire l.name ++ l.front.0)) (sym n) ∙ take-append-add (wire l.name) l.front.0 (256 - length (wire l.name)),
      );
    }

pub front_leads : (key item : List ℕ) → length item ≤ most_item_octets → Leads key (take 256 item) → Leads key item
front_leads key item short l =
    record {
      short = short;
      name = l.name;
      is_name = l.is_name;
      key = l.key;
      front = (l.front.0 ++ drop 256 item, sym (take-append-drop 256 item) ∙ ap (λ (k : List ℕ). k ++ drop 256 item) l.front.1 ∙ append_assoc (wire l.name) l.front.0 (drop 256 item));
    }

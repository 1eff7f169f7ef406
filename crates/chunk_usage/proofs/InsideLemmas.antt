-- What a ledger says of the fields that hold it.
use Rattle.std.proofs.Common.{◌≡◌, ◌+◌, ◌<◌, length, sym, ap, ◌∙◌, subst, arith}
use Rattle.std.proofs.lemmas.List.{length-take}
use Rattle.chunk_usage.specs.declared.usage.State.{State}
use Rattle.chunk_usage.specs.Ledger.{Ledger}
use Rattle.chunk_usage.specs.Inside.{ledger_of, IsWhole}

-- where one more row may be kept, a slot is left for it
pub slot_left : (s : State) → IsWhole s → (l : Ledger) → ledger_of s ≡ l → length l.rows < l.passes + 2 → s.kept < length s.slots.items
slot_left s w l same room =
    let r = subst (λ (m : Ledger). length m.rows < m.passes + 2) (sym same) room in
    let n = length-take s.kept s.slots.items in
    let e = w.slots in
    omega arith

-- a state that is another one of which these are known
pub record Known (s : State) (l : Ledger) : Type 0 where
  pub whole : IsWhole s
  pub view_is : ledger_of s ≡ l

pub known : (s t : State) (l : Ledger) → s ≡ t → IsWhole t → ledger_of t ≡ l → Known s l
known s t l same w v = record { whole = subst IsWhole (sym same) w; view_is = ap ledger_of same ∙ v }

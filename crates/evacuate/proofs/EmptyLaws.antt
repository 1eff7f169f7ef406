-- How an evacuation goes on, once the root's cell was moved.
use Rattle.std.proofs.Common.{◌≡◌, ℕ, true, false, Bool, List, refl, arith}
use Rattle.std.specs.Prelude.{Option, IfSome}
use Rattle.packed_node.specs.declared.Cell.{Cell}
use Rattle.trie_model.specs.Keys.{Entry}
use Rattle.trie_model.specs.Trees.{Tree}
use Rattle.chunk_usage.specs.Counting.{is_unmixed}
use Rattle.chunk_usage.specs.Ledger.{Ledger, IsLedger, is_mutable, is_used}
use Rattle.chunk_usage.specs.Rooms.{Grows, reserve_account_of}
use Rattle.trie_space.specs.Spaces.{IsWritable}
use Rattle.trie_space.proofs.SpaceLaws.{fenced_then, writable_later}
use Rattle.evacuate.specs.Fillings.{Moves, begun, is_old, old_chunks}
use Rattle.evacuate.specs.Places.{IsStood, Stood}
use Rattle.evacuate.specs.Moving.{LeavesRest, Unmoved}
use Rattle.evacuate.specs.Rearranging.{CanRearrange, Emptied, Rearranged, RootCopied}
use Rattle.evacuate.proofs.BeginLaws.{begun_consumed, fenced_begun, fills_count, fills_new, nothing_moved, root_copied, stood_begun}
use Rattle.evacuate.proofs.DescentLaws.{stood_same}
use Rattle.evacuate.proofs.FillingLaws.{moves_then}
use Rattle.evacuate.proofs.RearrangeLaws.{rearranged_same}

pub record Emptying {S : Type 0} (has : S → ℕ → Cell → Type 0) (kept : S → List ℕ) (given : S → List Bool) (r : ℕ) (s : S) (l : Ledger) (filled_on : Option ℕ) (at : ℕ) (s_new : S) (l_new : Ledger) : Type 0 where
  pub stood : (es : List Entry) (t : Tree) → Stood has s l r es t → (u : Tree) × Stood has s_new l_new at es u
  pub moves : Moves (old_chunks l.given filled_on) 0 (begun l filled_on) l_new
  pub elsewhere : is_old (old_chunks l.given filled_on) at ≡ false
  pub writable : IsWritable given reserve_account_of s_new l_new at
  pub rest : LeavesRest has kept given reserve_account_of s l s_new l_new

rest_begun : {S : Type 0} {has : S → ℕ → Cell → Type 0} {kept : S → List ℕ} {given : S → List Bool} {s s2 : S} {l l1 l2 : Ledger} (filled_on : Option ℕ) → l1 ≡ begun l filled_on → Grows (is_used l) (is_used l1) (is_mutable l) (is_mutable l1) →
    LeavesRest has kept given reserve_account_of s l1 s2 l2 → LeavesRest has kept given reserve_account_of s l s2 l2
rest_begun {has = has} {kept} {given} filled_on e grows rest = record { frame = fenced_then (fenced_begun has kept given filled_on e grows) rest.frame; ready = rest.ready }

module _ {S : Type 0} {has : S → ℕ → Cell → Type 0} {kept : S → List ℕ} {given : S → List Bool} {r : ℕ} {s : S} {l : Ledger} where
  emptied_by : {s1 : S} {l1 : Ledger} (filled_on : Option ℕ) {at : ℕ} → ((es : List Entry) (t : Tree) → Stood has s l r es t → (u : Tree) × Stood has s1 l1 at es u) → Moves (old_chunks l.given filled_on) 0 (begun l filled_on) l1 →
      LeavesRest has kept given reserve_account_of s l s1 l1 → Emptied has kept given r s l at s1 l1
  emptied_by {l1 = l1} filled_on stood moves rest = record {
    stood = stood;
    fills = fills_new l l1 filled_on moves.fills;
    count = fills_count l.given l1 filled_on moves.fills;
    paid = let p = moves.paid in let b = begun_consumed l filled_on in omega arith;
    rest = rest;
  }

  -- it began, and the root's cell was moved, or there was no room for it
  module _ {l1 : Ledger} (filled_on : Option ℕ) (e : l1 ≡ begun l filled_on) (grows : Grows (is_used l) (is_used l1) (is_mutable l) (is_mutable l1)) {s2 : S} {l2 : Ledger} (rest : LeavesRest has kept given reserve_account_of s l1 s2 l2) where
    pub emptying : {at : ℕ} → RootCopied has given r filled_on s l1 s2 l2 at → Emptying has kept given r s l filled_on at s2 l2
    emptying {at} root =
        let o = root_copied l l1 l2 filled_on at e root.moves root.elsewhere in
        record { stood = λ es t h. (t, root.stood es t (stood_begun filled_on e grows h)); moves = o.moves; elsewhere = o.elsewhere; writable = root.writable; rest = rest_begun filled_on e grows rest }

    pub nothing_emptied : IsLedger l → IfSome filled_on (λ c. is_unmixed l c ≡ true) → Unmoved s l1 s2 l2 → Emptied has kept given r s l r s2 l2
    nothing_emptied is unmixed stays = emptied_by filled_on (λ es t h. (t, stood_same stays.same stays.unchanged (stood_begun filled_on e grows h))) (nothing_moved l l1 l2 filled_on is unmixed e stays.unchanged) (rest_begun filled_on e grows rest)

  module _ {filled_on : Option ℕ} {at : ℕ} {s1 : S} {l1 : Ledger} (h : Emptying has kept given r s l filled_on at s1 l1) where
    pub emptying_can : IsStood has s l r → CanRearrange has kept given at s1 l1
    emptying_can can = let x = h.stood can.es can.t can.stood in record { stands = record { es = can.es; t = x.0; stood = x.1 }; writable = h.writable; ready = h.rest.ready }

    pub emptying_on : {s2 : S} {l2 : Ledger} → Rearranged has kept given at s1 l1 s2 l2 → Emptying has kept given r s l filled_on at s2 l2
    emptying_on m = record {
      stood = λ es t x. let u = h.stood es t x in m.stood es u.0 u.1;
      moves = moves_then h.moves (m.cells.moves _ h.moves.fills);
      elsewhere = h.elsewhere;
      writable = writable_later h.writable m.cells.frame.grows m.cells.frame.given_stays;
      rest = record { frame = fenced_then h.rest.frame m.cells.frame; ready = m.cells.ready };
    }

    pub emptying_read : {s2 : S} → s2 ≡ s1 → Emptying has kept given r s l filled_on at s2 l1
    emptying_read same = emptying_on (rearranged_same same refl h.rest.ready)

    pub emptied : Emptied has kept given r s l at s1 l1
    emptied = emptied_by filled_on h.stood h.moves h.rest

-- Who may take the reserve knows the same but for the reserve.
use Rattle.std.specs.Prelude.{ℕ, Bool, List}
use Rattle.chunk_usage.specs.Rooms.{Handed, account_of, reserve_account_of}
use Rattle.chunk_usage.specs.Ledger.{Ledger}
use Rattle.trie_space.specs.Spaces.{Ready}

pub reserve_handing : (l new : Ledger) {first n : ℕ} → Handed (account_of l) (account_of new) first n → Handed (reserve_account_of l) (reserve_account_of new) first n
reserve_handing l new h = record { twigs = h.twigs; unused = h.unused; taken = h.taken; writable = h.writable; in_given = h.in_given; counts = h.counts }

module _ {S : Type 0} {kept : S → List ℕ} {given : S → List Bool} {s : S} {l : Ledger} where
  pub ready_for_reserve : Ready kept given account_of s l → Ready kept given reserve_account_of s l
  ready_for_reserve r = record { same = r.same; in_use = r.in_use; settled = r.settled }

  pub ready_after_reserve : Ready kept given reserve_account_of s l → Ready kept given account_of s l
  ready_after_reserve r = record { same = r.same; in_use = r.in_use; settled = r.settled }

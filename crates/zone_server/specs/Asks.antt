-- How an update is put together, and what isn't taken into it.
use Rattle.std.specs.Prelude.{◌≡◌, ◌⊎◌, ◌<◌, ℕ, false, List, [], ◌∷◌, ◌++◌, Some, Result, Ok, Err}
use Rattle.std.specs.declared.alloc.AllocError.{AllocError}
use Rattle.zone_model.specs.DataWords.{data_type, most_time}
use Rattle.zone_model.specs.Names.{Name, is_under}
use Rattle.zone_model.specs.Transactions.{Prerequisite}
use Rattle.zone_model.specs.Versions.{Operation, Add, DeleteName, DeleteSet, DeleteRecord, owner_of}
use Rattle.rr_data.specs.Pushing.{is_data}
use Rattle.zone_server.specs.Updates.{UpdateView}
use Rattle.zone_server.specs.declared.update.UpdateRefusal.{UpdateRefusal}
use Rattle.zone_server.specs.declared.update.UpdateRefusal.TheVariants as refusal

-- a record is put in
abbrev pub adds : Name → ℕ → ℕ → List ℕ → Operation
adds owner rtype ttl octets = Add (record { owner = owner; rtype = rtype; ttl = ttl; octets = octets })

-- it wants one thing more, or is as it was for want of memory
abbrev pub Needs : UpdateView → Prerequisite → Result (Unit {0}) AllocError → UpdateView → Type 0
Needs old need (Ok u) new = new ≡ record old { asked = record old.asked { needs = old.asked.needs ++ need ∷ [] } }
Needs old need (Err e) new = new ≡ old

-- no record has this
abbrev pub IsNoRecord : Operation → Type 0
IsNoRecord (Add a) = (data_type a.rtype ≡ Some a.rtype → ⊥) ⊎ (most_time < a.ttl) ⊎ (is_data a.rtype a.octets ≡ false)
IsNoRecord (DeleteName owner) = ⊥
IsNoRecord (DeleteSet owner rtype) = ⊥
IsNoRecord (DeleteRecord owner rtype octets) = is_data rtype octets ≡ false

-- It does one thing more, behind what it does; or it is as it was, since the owner isn't in the zone, or there is no such record, or for want of
-- memory.
abbrev pub Takes : UpdateView → Operation → Result (Unit {0}) UpdateRefusal → UpdateView → Type 0
Takes old operation (Ok u) new = new ≡ record old { asked = record old.asked { operations = old.asked.operations ++ operation ∷ [] } }
Takes old operation (Err refusal.Outside) new = (new ≡ old) × (is_under (owner_of operation) old.origin ≡ false)
Takes old operation (Err refusal.NoRecord) new = (new ≡ old) × IsNoRecord operation
Takes old operation (Err refusal.Memory) new = new ≡ old

-- Parts of items as their readers see them.
use Rattle.std.specs.Prelude.{ℕ, List, ◌++◌, Result, Ok, Err}
use Rattle.zone_model.specs.Names.{Name}
use Rattle.zone_model.specs.Records.{Rrset, Entry, IsItem}
use Rattle.rr_data.specs.declared.refusal.DecodeRefusal.{DecodeRefusal}
use Rattle.rr_data.specs.declared.refusal.DecodeRefusal.TheVariants.{Malformed, Memory}
use denote.Ref.{Bor}

abbrev pub part_view : Bor (List ℕ) × Bor (List ℕ) → List ℕ × List ℕ
part_view x = (x.0.now, x.1.now)

-- records, and what is left behind them
abbrev pub behind_records : List (List ℕ) → List (List ℕ) × List ℕ → List (List ℕ) × List ℕ
behind_records records y = (records ++ y.0, y.1)

-- RRsets, and what is left behind them
abbrev pub behind_sets : List Rrset → List Rrset × List ℕ → List Rrset × List ℕ
behind_sets sets y = (sets ++ y.0, y.1)

-- The octets are an item of the entry, or they are none, or there was no memory.
abbrev pub Decodes : Result Entry DecodeRefusal → List ℕ → Type 0
Decodes (Ok entry) bytes = (owner : Name) × IsItem bytes owner entry
Decodes (Err Malformed) bytes = (owner : Name) (entry : Entry) → IsItem bytes owner entry → ⊥
Decodes (Err Memory) bytes = Unit {0}

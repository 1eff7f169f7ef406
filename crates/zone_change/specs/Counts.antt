-- What is counted of an entry, and what an operation makes of one before it is asked whether it may.
use Rattle.std.specs.Prelude.{ℕ, Bool, ◌==◌, ◌||◌, ◌&&◌, nat_le, [], length, Option, Some, None, Result, Ok, Err}
use Rattle.zone_model.specs.Names.{Name}
use Rattle.zone_model.specs.Records.{Rrset, Entry, rrset_of, item, without_rr, without_set}
use Rattle.zone_model.specs.Versions.{Operation, Add, DeleteName, DeleteSet, DeleteRecord, cname_type, with_added}
use Rattle.zone_model.specs.declared.Refusal.{Refusal}
use Rattle.zone_change.specs.declared.counting.Count.{Count}

abbrev pub records_in : Option Rrset → ℕ
records_in None = 0
records_in (Some s) = length s.records

abbrev pub count_of : Name → Entry → Count
count_of owner entry = record { sets = length entry; aliases = records_in (rrset_of cname_type entry); octets = length (item owner entry) }

-- an alias stands alone, by what is counted
abbrev pub lone_by : Count → Bool
lone_by c = (c.aliases == 0) || ((c.sets == 1) && nat_le c.aliases 1)

abbrev pub candidate : Operation → Entry → Entry
candidate (Add a) entry = with_added a entry
candidate (DeleteName owner) entry = []
candidate (DeleteSet owner rtype) entry = without_set rtype entry
candidate (DeleteRecord owner rtype octets) entry = without_rr rtype octets entry

-- the refusal, where it is one
abbrev pub refusal_in : Result Entry Refusal → Option Refusal
refusal_in (Ok entry) = None
refusal_in (Err refusal) = Some refusal

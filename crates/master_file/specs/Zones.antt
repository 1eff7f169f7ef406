-- What the readers of entries give.
use Rattle.std.specs.Prelude.{◌≡◌, ℕ, List, map, drop, Some, None, Result, Ok, Err}
use Rattle.zone_model.specs.Refusals.{Refused}
use Rattle.zone_model.specs.Lines.{lines_of}
use Rattle.zone_model.specs.Records.{Rrset}
use Rattle.zone_model.specs.declared.ZoneKind.{ZoneKind}
use Rattle.zone_model.specs.MasterFile as says
use Rattle.zone_text.specs.Tokens.{token_view}
use Rattle.zone_text.specs.Views.{IsRefused}
use Rattle.zone_text.specs.declared.token.Token.{Token}
use Rattle.master_file.specs.Owners.{version_of}
use Rattle.master_file.specs.declared.front.Front.{Front}
use Rattle.zone_text.specs.declared.refusal.ZoneRefusal.{ZoneRefusal}
use Rattle.master_file.specs.declared.records.Reader.{Reader}

abbrev pub front_view : List ℕ → List Token → Front → says.Front
front_view bytes tokens f = record { time = f.time; rtype = f.rtype; rest = map (token_view bytes) (drop f.len tokens) }

abbrev pub reader_view : Reader → says.Reader
reader_view r = record { origin = r.origin; set_time = r.set_time; last_time = r.last_time; minimum = r.minimum; owner = r.owner; version = version_of r.owners.owned.entries }

-- the lines were read, or the refusal wanted was given
abbrev pub ReadsAll : Result ℕ ZoneRefusal → says.Reader → Result says.Reader (Refused ZoneKind) → Type 0
ReadsAll (Ok n) new wanted = wanted ≡ Ok new
ReadsAll (Err e) new wanted = IsRefused e wanted

-- an entry was read, and the zone goes on at the next one
abbrev pub ReadsNext : List ℕ → List (List ℕ) → ℕ → ℕ → says.Reader → says.Reader → Result (ℕ × ℕ) ZoneRefusal → Type 0
ReadsNext bytes apex at n old new (Ok x) = says.zone_from apex n (lines_of (drop at bytes)) None old ≡ says.zone_from apex x.1 (lines_of (drop x.0 bytes)) None new
ReadsNext bytes apex at n old new (Err e) = IsRefused e (says.zone_from apex n (lines_of (drop at bytes)) None old)

-- an entry is taken, or the refusal wanted was given
abbrev pub Checks : Result (Unit {0}) ZoneRefusal → ℕ → List (List ℕ) → List Rrset → Type 0
Checks (Ok u) last owner entry = says.entry_fault owner entry ≡ None
Checks (Err e) last owner entry = (says.entry_fault owner entry ≡ Some e.kind) × (e.line ≡ last)

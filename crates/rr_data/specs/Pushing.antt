-- What the readers of data push, and what they refuse.
use Rattle.std.specs.Prelude.{◌≡◌, ◌&&◌, ℕ, Bool, List, Result, Ok, Err, length, nat_le}
use Rattle.zone_model.specs.declared.DataRefusal.{DataRefusal}
use Rattle.zone_model.specs.declared.DataRefusal.TheVariants as says
use Rattle.zone_model.specs.Data.{ahead}
use Rattle.zone_model.specs.DataForms.{form_fits}
use Rattle.rr_data.specs.declared.refusal.RdataRefusal.{RdataRefusal}
use Rattle.rr_data.specs.declared.refusal.RdataRefusal.TheVariants as refusal

-- The octets wanted were pushed, or the refusal wanted was given, or there was no memory.
abbrev pub Pushes : Result (Unit {0}) RdataRefusal → List ℕ → List ℕ → Result (List ℕ) DataRefusal → Type 0
Pushes (Ok u) old new wanted = ahead old wanted ≡ Ok new
Pushes (Err (refusal.BadRdata at)) old new wanted = wanted ≡ Err (says.BadRdata at)
Pushes (Err (refusal.LongString at)) old new wanted = wanted ≡ Err (says.LongString at)
Pushes (Err refusal.Memory) old new wanted = Unit {0}

-- The data wanted were read, or the refusal wanted was given, or there was no memory.
abbrev pub ReadsData : Result (List ℕ) RdataRefusal → Result (List ℕ) DataRefusal → Type 0
ReadsData (Ok octets) wanted = wanted ≡ Ok octets
ReadsData (Err (refusal.BadRdata at)) wanted = wanted ≡ Err (says.BadRdata at)
ReadsData (Err (refusal.LongString at)) wanted = wanted ≡ Err (says.LongString at)
ReadsData (Err refusal.Memory) wanted = Unit {0}

-- The same where they were read in place of others.
abbrev pub ReadsAgain : Result (Unit {0}) RdataRefusal → List ℕ → Result (List ℕ) DataRefusal → Type 0
ReadsAgain (Ok u) octets wanted = wanted ≡ Ok octets
ReadsAgain (Err (refusal.BadRdata at)) octets wanted = wanted ≡ Err (says.BadRdata at)
ReadsAgain (Err (refusal.LongString at)) octets wanted = wanted ≡ Err (says.LongString at)
ReadsAgain (Err refusal.Memory) octets wanted = Unit {0}

-- Octets are data of a type: so many as a record can have, and of the type's form.
abbrev pub is_data : ℕ → List ℕ → Bool
is_data rtype octets = nat_le (length octets) 65535 && form_fits rtype octets

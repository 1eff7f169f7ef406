-- What the words of prerequisites and operations say. Arguments are read from the left.
use Rattle.std.specs.Prelude.{ℕ, Bool, List, [], ◌∷◌, if◌then◌else◌, Option, Some, None, Result, Ok, Err, option_and_then}
use Rattle.zone_model.specs.Names.{Name, is_under}
use Rattle.zone_model.specs.Versions.{Operation, Add, DeleteName, DeleteSet, DeleteRecord}
use Rattle.zone_model.specs.Transactions.{Prerequisite}
use Rattle.zone_model.specs.Refusals.{Refused, ◌>>=◌}
use Rattle.zone_model.specs.Tokens.{Token}
use Rattle.zone_model.specs.Data.{data_of}
use Rattle.zone_model.specs.MasterFile.{name_word, time_word, type_word}
use Rattle.zone_model.specs.declared.DataRefusal.{DataRefusal}
use Rattle.job_model.specs.declared.ScriptKind.{ScriptKind}
use Rattle.job_model.specs.declared.ScriptKind.TheVariants.{BadName, BadType, BadRdata, BadNumber}

abbrev pub refuse : {A : Type 0} → ℕ → ScriptKind → Result A (Refused ScriptKind)
refuse n kind = Err (record { line = n; kind = kind })

abbrev pub needed : {A : Type 0} → ℕ → ScriptKind → Option A → Result A (Refused ScriptKind)
needed n kind (Some x) = Ok x
needed n kind None = refuse n kind

-- what words of line n say
abbrev pub at_line : {A : Type 0} → ℕ → Result A ScriptKind → Result A (Refused ScriptKind)
at_line n (Ok x) = Ok x
at_line n (Err kind) = refuse n kind

-- a name at or under the origin
abbrev pub inner_name : Name → Token → Option Name
inner_name origin t = option_and_then (λ name. if is_under name origin then Some name else None) (name_word origin t)

abbrev pub octets_needed : ℕ → Result (List ℕ) DataRefusal → Result (List ℕ) (Refused ScriptKind)
octets_needed n (Ok octets) = Ok octets
octets_needed n (Err e) = refuse n BadRdata

-- a prerequisite
unfoldable pub prerequisite_of : Name → ℕ → Bool → Token → Option Token → Result Prerequisite (Refused ScriptKind)
prerequisite_of origin n wanted owner None = do
  name ← needed n BadName (inner_name origin owner)
  Ok (record { owner = name; rtype = None; wanted = wanted })
prerequisite_of origin n wanted owner (Some rtype) = do
  name ← needed n BadName (inner_name origin owner)
  t ← needed n BadType (type_word rtype)
  Ok (record { owner = name; rtype = Some t; wanted = wanted })

-- an addition
unfoldable pub addition_of : Name → ℕ → Token → Token → Token → List Token → Result Operation (Refused ScriptKind)
addition_of origin n owner ttl rtype data_tokens = do
  name ← needed n BadName (inner_name origin owner)
  time ← needed n BadNumber (time_word ttl)
  t ← needed n BadType (type_word rtype)
  octets ← octets_needed n (data_of origin t data_tokens)
  Ok (Add (record { owner = name; rtype = t; ttl = time; octets = octets }))

-- a deletion of a name, of its RRset of a type, or of one record
unfoldable pub deletion_of : Name → ℕ → Token → List Token → Result Operation (Refused ScriptKind)
deletion_of origin n owner [] = do
  name ← needed n BadName (inner_name origin owner)
  Ok (DeleteName name)
deletion_of origin n owner (rtype ∷ []) = do
  name ← needed n BadName (inner_name origin owner)
  t ← needed n BadType (type_word rtype)
  Ok (DeleteSet name t)
deletion_of origin n owner (rtype ∷ first ∷ rest) = do
  name ← needed n BadName (inner_name origin owner)
  t ← needed n BadType (type_word rtype)
  octets ← octets_needed n (data_of origin t (first ∷ rest))
  Ok (DeleteRecord name t octets)

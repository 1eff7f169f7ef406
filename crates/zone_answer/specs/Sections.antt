-- A response as it is handed on: rows that are counted as they come, and how the rows of an answer end.
use Rattle.std.specs.Prelude.{◌≡◌, ℕ, Bool, ◌||◌, ◌⊎◌, List, [], ◌++◌, length, if◌then◌else◌, Option, Some, None}
use Rattle.std.specs.List.{last_or}
use Rattle.std.specs.Option.{option_map}
use Rattle.zone_model.specs.Names.{Name, same_name}
use Rattle.zone_model.specs.Records.{Rrset, Entry, rrset_of}
use Rattle.zone_model.specs.Rows.{Row, rows_of}
use Rattle.zone_model.specs.Versions.{Version, cname_type}
use Rattle.zone_answer.specs.Answers.{node}
use Rattle.zone_answer.specs.Parts.{Adds}
use Rattle.zone_answer.specs.Responses.{OwnedSet, Response, addresses, of_type, owned_rows}
use Rattle.zone_answer.specs.declared.header.Header.{Header}

-- the owner of the last row
abbrev pub last_owner : List Row → Option Name
last_owner rows = option_map (λ (r : Row). r.owner) (last_or None rows)

-- a sink has rows, and it is known how many, how many of them are aliases, and whose the last one is
pub record AreCounted (has : List Row → Type 0) (count aliases : ℕ) (last : Option Name) (rows : List Row) : Type 0 where
  pub handed_on : has rows
  pub counted : count ≡ length rows
  pub aliases_counted : aliases ≡ length (of_type cname_type rows)
  pub last_is : last ≡ last_owner rows

-- ---- how an answer's rows end

abbrev pub AreAliases : List Row → Type 0
AreAliases rows = of_type cname_type rows ≡ rows

-- behind aliases stands the RRset of a type of what answers for its owner
pub record EndsWithSet (version : Version) (rtype : ℕ) (rows : List Row) : Type 0 where
  pub before : List Row
  pub owner : Name
  pub entry : Entry
  pub set : Rrset
  pub aliases : AreAliases before
  pub node_is : node version owner ≡ Some entry
  pub set_is : rrset_of rtype entry ≡ Some set
  pub rows_are : rows ≡ before ++ rows_of owner set

-- aliases alone, or such an RRset behind them
abbrev pub Ends : Version → ℕ → List Row → Type 0
Ends version rtype rows = AreAliases rows ⊎ EndsWithSet version rtype rows

-- ---- the response

-- a sink has the rows of a response, section by section, and its header is told
pub record IsResponded (has : List Row → Type 0) (response : Response) (header : Header) : Type 0 where
  pub code_is : header.code ≡ response.code
  pub authoritative_is : header.authoritative ≡ response.authoritative
  pub answer_counted : header.answer ≡ length response.answer
  pub authority_counted : header.authority ≡ length response.authority
  pub additional_counted : header.additional ≡ length response.additional
  pub rows : has (response.answer ++ response.authority ++ response.additional)

-- ---- addresses

-- those of a name, if there is one
abbrev pub addresses_of : Name → Version → Option Name → List OwnedSet
addresses_of origin version None = []
addresses_of origin version (Some name) = addresses origin version name

-- The addresses of a name, if there is one, are added unless it was gone to; it is gone to then.
abbrev pub GoesTo : (Name → List OwnedSet) → Option Name → (Name → Bool) → (Name → Bool) → (List Row → Type 0) → (List Row → Type 0) → Type 0
GoesTo at None before after had has = ((other : Name) → after other ≡ before other) × Adds had has []
GoesTo at (Some name) before after had has =
    ((other : Name) → after other ≡ (same_name name other || before other)) × Adds had has (owned_rows (if before name then [] else at name))

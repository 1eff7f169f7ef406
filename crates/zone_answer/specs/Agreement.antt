-- What a response has in common with the answer to its question.
use Rattle.std.specs.Prelude.{◌≡◌, Bool, false, ◌&&◌, List, ◌++◌, ◌==◌}
use Rattle.std.specs.List.{AllByRecursion, IsDistinct, list_any}
use Rattle.zone_model.specs.Names.{same_name}
use Rattle.zone_model.specs.Rows.{Row}
use Rattle.zone_answer.specs.Answers.{Answer}
use Rattle.zone_answer.specs.Responses.{OwnedSet, Response, owned_rows}
use Rattle.zone_answer.specs.declared.header.Code.{Code}
use Rattle.zone_answer.specs.declared.header.Code.TheVariants.{NoError, NxDomain, Refused}
use Rattle.zone_answer.specs.declared.kind.Kind.{Kind}
use Rattle.zone_answer.specs.declared.kind.Kind.TheVariants.{Answered, Nodata, Nxdomain, Referral, Outside}

-- the code of a kind of answer; of a chain of aliases it is that of the last name (RFC 6604, section 3)
abbrev pub code_of : Kind → Code
code_of Answered = NoError
code_of Nodata = NoError
code_of Nxdomain = NxDomain
code_of Referral = NoError
code_of Outside = Refused

-- where a response has the rows of an answer of a kind: a referral's servers are its authority
abbrev pub rows_said : Kind → Response → List Row
rows_said Answered r = r.answer
rows_said Nodata r = r.answer
rows_said Nxdomain r = r.answer
rows_said Referral r = r.answer ++ r.authority
rows_said Outside r = r.answer

pub record Agrees (r : Response) (a : Answer) : Type 0 where
  pub code_is : r.code ≡ code_of a.kind
  pub rows_are : rows_said a.kind r ≡ a.rows

-- ---- none twice

abbrev pub same_set : OwnedSet → OwnedSet → Bool
same_set a b = same_name a.owner b.owner && (a.set.rtype == b.set.rtype)

abbrev pub is_row_of : OwnedSet → Row → Bool
is_row_of x row = same_name row.owner x.owner && (row.rtype == x.set.rtype)

-- the additional section is RRsets, of which none is there twice and none is in the answer
pub record HasNoneTwice (r : Response) : Type 0 where
  pub sets : List OwnedSet
  pub rows_are : r.additional ≡ owned_rows sets
  pub distinct : IsDistinct same_set sets
  pub apart : AllByRecursion (λ x. list_any (is_row_of x) r.answer ≡ false) sets

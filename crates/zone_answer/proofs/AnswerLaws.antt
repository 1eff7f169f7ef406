-- The rows that were gathered and the answer from there on are the whole answer.
use Rattle.std.proofs.Common.{◌≡◌, ◌∙◌, ℕ, zero, suc, true, false, cond, List, [], ◌++◌, Option, Some, None, refl, sym, ap, subst, append_assoc, append-nil}
use Rattle.zone_model.specs.Names.{Name, is_under}
use Rattle.zone_model.specs.Versions.{Version}
use Rattle.zone_model.specs.Rows.{Row}
use Rattle.zone_answer.specs.Answers.{Next, Ends, LeadsTo, Answer, answer, step, behind, going_on, followed, no_more, most_aliases}
use Rattle.zone_answer.specs.Parts.{IsGiven}
use Rattle.zone_answer.specs.declared.kind.Kind.{Kind}
use Rattle.zone_answer.specs.declared.kind.Kind.TheVariants.{Answered, Outside}

abbrev told : Kind → List Row → Answer
told kind rows = record { kind = kind; rows = rows }

behind_twice : (a b : List Row) (x : Answer) → behind a (behind b x) ≡ behind (a ++ b) x
behind_twice a b x = ap (told x.kind) (sym (append_assoc a b x.rows))

behind_none : (rows : List Row) (kind : Kind) → behind rows (told kind []) ≡ told kind rows
behind_none rows kind = ap (told kind) (append-nil rows)

goes_on : (left : ℕ) (origin : Name) (version : Version) (rtype : ℕ) (name : Name) → is_under name origin ≡ true → followed (suc left) origin version rtype name ≡ behind (step origin version rtype name).rows (going_on (followed left origin version rtype) (step origin version rtype name).next)
unfolding followed
goes_on left origin version rtype name u = ap (λ b. cond b (behind (step origin version rtype name).rows (going_on (followed left origin version rtype) (step origin version rtype name).next)) no_more) u

-- nothing is gathered yet
pub at_first : (origin : Name) (version : Version) (name : Name) (rtype : ℕ) → is_under name origin ≡ true → answer origin version name rtype ≡ behind [] (followed 16 origin version rtype name)
at_first origin version name rtype u = ap (λ b. cond b (followed most_aliases origin version rtype name) (record { kind = Outside; rows = [] })) u

-- what is gathered, before a name's own rows and behind them
module _ (whole : Answer) (left : ℕ) (origin : Name) (version : Version) (rtype : ℕ) (name : Name) (old new : List Row) (so_far : whole ≡ behind old (followed (suc left) origin version rtype name)) (under : is_under name origin ≡ true) (rows : new ≡ old ++ (step origin version rtype name).rows) where
  on : whole ≡ behind new (going_on (followed left origin version rtype) (step origin version rtype name).next)
  on = so_far ∙ ap (behind old) (goes_on left origin version rtype name under) ∙ behind_twice old (step origin version rtype name).rows (going_on (followed left origin version rtype) (step origin version rtype name).next)
      ∙ ap (λ (r : List Row). behind r (going_on (followed left origin version rtype) (step origin version rtype name).next)) (sym rows)

  pub leads : (target : Option Name) → LeadsTo target ≡ (step origin version rtype name).next → whole ≡ behind new (going_on (followed left origin version rtype) (LeadsTo target))
  leads target e = on ∙ ap (λ (n : Next). behind new (going_on (followed left origin version rtype) n)) (sym e)

  pub ends : (kind : Kind) → Ends kind ≡ (step origin version rtype name).next → told kind new ≡ whole
  ends kind e = sym (on ∙ ap (λ (n : Next). behind new (going_on (followed left origin version rtype) n)) (sym e) ∙ behind_none new kind)

-- an alias leads to no name
pub leads_nowhere : (whole : Answer) (left : ℕ) (origin : Name) (version : Version) (rtype : ℕ) (rows : List Row) → whole ≡ behind rows (going_on (followed left origin version rtype) (LeadsTo None)) → told Answered rows ≡ whole
leads_nowhere whole left origin version rtype rows e = sym (e ∙ behind_none rows Answered)

-- the last alias was gathered, wherever it leads
pub last_alias : (whole : Answer) (origin : Name) (version : Version) (rtype : ℕ) (target : Option Name) (rows : List Row) → whole ≡ behind rows (going_on (followed 0 origin version rtype) (LeadsTo target)) → told Answered rows ≡ whole
unfolding followed
last_alias whole origin version rtype None rows e = sym (e ∙ behind_none rows Answered)
last_alias whole origin version rtype (Some name) rows e = sym (e ∙ behind_none rows Answered)

out : (left : ℕ) (origin : Name) (version : Version) (rtype : ℕ) (name : Name) → is_under name origin ≡ false → followed left origin version rtype name ≡ no_more
unfolding followed
out zero origin version rtype name u = refl
out (suc n) origin version rtype name u = ap (λ b. cond b (behind (step origin version rtype name).rows (going_on (followed n origin version rtype) (step origin version rtype name).next)) no_more) u

pub leads_out : (whole : Answer) (left : ℕ) (origin : Name) (version : Version) (rtype : ℕ) (name : Name) (rows : List Row) → whole ≡ behind rows (followed left origin version rtype name) → is_under name origin ≡ false → told Answered rows ≡ whole
leads_out whole left origin version rtype name rows e u = sym (e ∙ ap (behind rows) (out left origin version rtype name u) ∙ behind_none rows Answered)

-- what a sink has is the whole answer's rows
pub is_given : (has : List Row → Type 0) (whole : Answer) (kind : Kind) (rows : List Row) → has rows → told kind rows ≡ whole → IsGiven has whole kind
is_given has whole kind rows h e = record { kind_is = ap (λ (a : Answer). a.kind) e; rows = subst has (ap (λ (a : Answer). a.rows) e) h }

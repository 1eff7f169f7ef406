-- How a transaction ended is told by what is printed of it, as long as its numbers have 64 bits.
use Rattle.std.proofs.Common.{◌≡◌, ◌∙◌, ℕ, ◌+◌, ◌*◌, ◌<◌, ◌^◌, true, List, [], ◌∷◌, ◌++◌, get_or, drop, refl, sym, ap, ap₂, arith, append_assoc, codes}
use Rattle.std.proofs.lemmas.Fmt.{decimal_injective}
use Rattle.std.proofs.lemmas.List.{append_cancel_left, append_cancel_right}
use Rattle.std.specs.List.{flat_map, AllByRecursion}
use Rattle.std.specs.Fmt.{decimal}
use Rattle.zone_model.specs.declared.Refusal.{Refusal}
use Rattle.zone_model.specs.declared.Refusal.TheVariants.{Prereq, Soa, Cname, Long}
use Rattle.job_model.specs.Outcomes.{Cause, Rule, Full, Spent, Ended, Shown, Committed, RolledBack, Refused}
use Rattle.job_model.specs.Reports.{rule_text, cause_text, ended_text, compacted_text}
use Rattle.report_laws.proofs.CutLemmas.{Free, free_append, free_map, stands, cut}
use Rattle.report_laws.proofs.TextLemmas.{decimal_free, spaced_free}
use Rattle.report_laws.proofs.LineLemmas.{IsLine, line, line_cut}

-- the numbers of a cause, and of an ending, have 64 bits

abbrev pub SmallCause : Cause → Type 0
SmallCause (Rule refusal) = Unit {0}
SmallCause (Full operation kept) = (operation < 2 ^ 64) × AllByRecursion (λ v. v < 2 ^ 64) kept
SmallCause Spent = Unit {0}

abbrev pub SmallEnded : Ended → Type 0
SmallEnded Shown = Unit {0}
SmallEnded Committed = Unit {0}
SmallEnded RolledBack = Unit {0}
SmallEnded (Refused cause) = SmallCause cause

-- ---- kept versions

abbrev kept_text : ℕ → List ℕ
kept_text v = codes " " ++ decimal v

kept_stands : (kept : List ℕ) → stands 32 (flat_map kept_text kept) ≡ true
kept_stands [] = refl
kept_stands (v ∷ kept) = refl

kept_same : (ks js : List ℕ) → AllByRecursion (λ v. v < 2 ^ 64) ks → AllByRecursion (λ v. v < 2 ^ 64) js → flat_map kept_text ks ≡ flat_map kept_text js → ks ≡ js
kept_same [] [] small less e = refl
kept_same [] (j ∷ js) small less e = absurd cc
kept_same (k ∷ ks) [] small less e = absurd cc
kept_same (k ∷ ks) (j ∷ js) small less e =
    let parts = cut 32 (decimal k) (decimal j) (flat_map kept_text ks) (flat_map kept_text js) (decimal_free 32 k (omega arith)) (decimal_free 32 j (omega arith)) (kept_stands ks) (kept_stands js) (ap (drop 1) e) in
    ap₂ (λ (v : ℕ) (l : List ℕ). v ∷ l) (decimal_injective k j small.0 less.0 parts.0) (kept_same ks js small.1 less.1 parts.1)

-- ---- causes

-- the first two octets of what is printed of a cause
abbrev rank : Cause → ℕ
rank (Rule Prereq) = 112 * 256 + 114
rank (Rule Soa) = 115 * 256 + 111
rank (Rule Cname) = 99 * 256 + 110
rank (Rule Long) = 108 * 256 + 111
rank (Full operation kept) = 102 * 256 + 117
rank Spent = 115 * 256 + 112

abbrev first_two : List ℕ → ℕ
first_two text = get_or text 0 0 * 256 + get_or text 1 0

ranked : (a : Cause) → rank a ≡ first_two (cause_text a)
ranked (Rule Prereq) = refl
ranked (Rule Soa) = refl
ranked (Rule Cname) = refl
ranked (Rule Long) = refl
ranked (Full operation kept) = refl
ranked Spent = refl

in_four : (a b c d : List ℕ) → a ++ b ++ c ++ d ≡ a ++ (b ++ (c ++ d))
in_four a b c d = simp append_assoc

full_same : (m n : ℕ) (ks js : List ℕ) → SmallCause (Full m ks) → SmallCause (Full n js) → cause_text (Full m ks) ≡ cause_text (Full n js) → Full m ks ≡ Full n js
full_same m n ks js small less e =
    let parts = cut 32 (decimal m) (decimal n) (codes " kept" ++ flat_map kept_text ks) (codes " kept" ++ flat_map kept_text js) (decimal_free 32 m (omega arith)) (decimal_free 32 n (omega arith)) refl refl
    (append_cancel_left (codes "full at ") (decimal m ++ (codes " kept" ++ flat_map kept_text ks)) (decimal n ++ (codes " kept" ++ flat_map kept_text js))
    (sym (in_four (codes "full at ") (decimal m) (codes " kept") (flat_map kept_text ks)) ∙ e ∙ in_four (codes "full at ") (decimal n) (codes " kept") (flat_map kept_text js))) in
    ap₂ (λ (operation : ℕ) (kept : List ℕ). Full operation kept) (decimal_injective m n small.0 less.0 parts.0)
    (kept_same ks js small.1 less.1 (append_cancel_left (codes " kept") (flat_map kept_text ks) (flat_map kept_text js) parts.1))

cause_by : (a b : Cause) → SmallCause a → SmallCause b → rank a ≡ rank b → cause_text a ≡ cause_text b → a ≡ b
cause_by (Rule Prereq) (Rule Prereq) small less r e = refl
cause_by (Rule Soa) (Rule Soa) small less r e = refl
cause_by (Rule Cname) (Rule Cname) small less r e = refl
cause_by (Rule Long) (Rule Long) small less r e = refl
cause_by (Full m ks) (Full n js) small less r e = full_same m n ks js small less e
cause_by Spent Spent small less r e = refl
cause_by a (Rule Prereq) small less r e = absurd (omega (arith, r))
cause_by a (Rule Soa) small less r e = absurd (omega (arith, r))
cause_by a (Rule Cname) small less r e = absurd (omega (arith, r))
cause_by a (Rule Long) small less r e = absurd (omega (arith, r))
cause_by a b small less r e = absurd (omega (arith, r))

cause_same : (a b : Cause) → SmallCause a → SmallCause b → cause_text a ≡ cause_text b → a ≡ b
cause_same a b small less e = cause_by a b small less (ranked a ∙ ap first_two e ∙ sym (ranked b)) e

rule_free : (refusal : Refusal) → Free 10 (rule_text refusal)
rule_free Prereq = refl
rule_free Soa = refl
rule_free Cname = refl
rule_free Long = refl

cause_free : (a : Cause) → Free 10 (cause_text a)
cause_free (Rule refusal) = rule_free refusal
cause_free (Full operation kept) =
    spaced_free (codes "full at " ++ decimal operation) (codes " kept") (flat_map kept_text kept) (free_append 10 (codes "full at ") (decimal operation) refl (decimal_free 10 operation (omega arith))) refl
    (free_map 10 kept_text (λ (v : ℕ). free_append 10 (codes " ") (decimal v) refl (decimal_free 10 v (omega arith))) kept)
cause_free Spent = refl

-- ---- endings

ended_line : (a : Ended) → (a ≡ Shown → ⊥) → IsLine (ended_text a)
ended_line Shown n = absurd (n refl)
ended_line Committed n = line (codes "COMMITTED") refl
ended_line RolledBack n = line (codes "ROLLED BACK") refl
ended_line (Refused cause) n = line (codes "REFUSED " ++ cause_text cause) (free_append 10 (codes "REFUSED ") (cause_text cause) refl (cause_free cause))

ended_same : (a b : Ended) → (a ≡ Shown → ⊥) → (b ≡ Shown → ⊥) → SmallEnded a → SmallEnded b → first_two (ended_text a) ≡ first_two (ended_text b) → ended_text a ≡ ended_text b → a ≡ b
ended_same Shown b n m small less r e = absurd (n refl)
ended_same a Shown n m small less r e = absurd (m refl)
ended_same Committed Committed n m small less r e = refl
ended_same RolledBack RolledBack n m small less r e = refl
ended_same (Refused a) (Refused b) n m small less r e =
    ap Refused (cause_same a b small less (append_cancel_left (codes "REFUSED ") (cause_text a) (cause_text b) (append_cancel_right (codes "REFUSED " ++ cause_text a) (codes "REFUSED " ++ cause_text b) (10 ∷ []) e)))
ended_same a b n m small less r e = absurd (omega (arith, r))

-- how a transaction ended, and what is behind it, is told
pub ended_cut : (a b : Ended) → (a ≡ Shown → ⊥) → (b ≡ Shown → ⊥) → SmallEnded a → SmallEnded b → (s t : List ℕ) → ended_text a ++ s ≡ ended_text b ++ t → (a ≡ b) × (s ≡ t)
ended_cut a b n m small less s t e =
    let parts = line_cut (ended_text a) (ended_text b) s t (ended_line a n) (ended_line b m) e in
    (ended_same a b n m small less (ap first_two parts.0) parts.0, parts.1)

-- ---- endings of compactions

abbrev pub EndsCompaction : Ended → Type 0
EndsCompaction Shown = ⊥
EndsCompaction Committed = Unit {0}
EndsCompaction RolledBack = ⊥
EndsCompaction (Refused cause) = Unit {0}

compacted_line : (a : Ended) → EndsCompaction a → IsLine (compacted_text a)
compacted_line Shown n = absurd n
compacted_line Committed n = line (codes "COMPACTED") refl
compacted_line RolledBack n = absurd n
compacted_line (Refused cause) n = ended_line (Refused cause) (λ e. cc)

compacted_same : (a b : Ended) → EndsCompaction a → EndsCompaction b → SmallEnded a → SmallEnded b → first_two (compacted_text a) ≡ first_two (compacted_text b) → compacted_text a ≡ compacted_text b → a ≡ b
compacted_same Shown b n m small less r e = absurd n
compacted_same RolledBack b n m small less r e = absurd n
compacted_same Committed Shown n m small less r e = absurd m
compacted_same Committed RolledBack n m small less r e = absurd m
compacted_same Committed Committed n m small less r e = refl
compacted_same Committed (Refused b) n m small less r e = absurd (omega (arith, r))
compacted_same (Refused a) Shown n m small less r e = absurd m
compacted_same (Refused a) RolledBack n m small less r e = absurd m
compacted_same (Refused a) Committed n m small less r e = absurd (omega (arith, r))
compacted_same (Refused a) (Refused b) n m small less r e = ended_same (Refused a) (Refused b) (λ x. cc) (λ x. cc) small less r e

-- how a compaction ended, and what is behind it, is told
pub compacted_cut : (a b : Ended) → EndsCompaction a → EndsCompaction b → SmallEnded a → SmallEnded b → (s t : List ℕ) → compacted_text a ++ s ≡ compacted_text b ++ t → (a ≡ b) × (s ≡ t)
compacted_cut a b n m small less s t e =
    let parts = line_cut (compacted_text a) (compacted_text b) s t (compacted_line a n) (compacted_line b m) e in
    (compacted_same a b n m small less (ap first_two parts.0) parts.0, parts.1)

-- What makes of a zone another one is due.
use Rattle.std.proofs.Common.{◌≡◌, ◌∙◌, ℕ, ◌+◌, ◌^◌, ◌≤◌, Bool, true, false, cond, eqb, List, [], ◌∷◌, length, sym, ap, subst, arith, Result, Ok}
use Rattle.std.specs.List.{position_or_len, slice_split}
use Rattle.std.specs.Str.Lines.{lines_of_parts}
use Rattle.std.proofs.lemmas.List.{length-drop, length-take}
use Rattle.std.proofs.lemmas.List.Splits.{length-slice_split}
use Rattle.std.proofs.lemmas.List.Sums.{count_by-le-length}
use Rattle.zone_model.specs.Names.{Name}
use Rattle.zone_model.specs.Lines.{lines_of}
use Rattle.zone_model.specs.Refusals.{Refused}
use Rattle.zone_model.specs.Versions.{Version}
use Rattle.zone_model.specs.declared.ZoneKind.{ZoneKind}
use Rattle.zone_model.specs.MasterFile.{zone_of}
use Rattle.job_model.specs.Jobs.{is_cut, list_of, script_lines, script_start, zone_lines}
use Rattle.master_file.specs.Rows.{CanBeDumped}
use Rattle.zone_diff.specs.Blocks.{blocks}
use Rattle.zone_diff.specs.Differences.{difference, made}
use Rattle.zone_diff.specs.Texts.{text_in}
use Rattle.zone_diff.specs.declared.DiffStyle.{DiffStyle}
use Rattle.zone_diff.specs.declared.Serial.{Serial}
use Rattle.zone_diff.proofs.BlockLaws.{all_taken}
use Rattle.zone_diff.proofs.CountLemmas.{blocks_few, difference_few, in_version}
use Rattle.zone_diff.proofs.ReadCounts.{zone_few}
use Rattle.zone_diff.proofs.DifferenceLaws.{made_keep}
use Rattle.zone_diff.proofs.ScriptLemmas.{read_back}
use Rattle.qp_main.specs.Due.{Different, Differs}
use Rattle.qp_main.specs.Saids.{second_said, zone_said}
use Rattle.qp_main.specs.declared.status.Status.{Status}
use Rattle.qp_main.specs.declared.status.Status.TheVariants as status

-- ---- the transactions are no more than a list of commands may have

lines_few : (bytes : List ℕ) → length (lines_of bytes) ≤ length bytes + 1
lines_few bytes = omega (arith, parts_few (slice_split (λ (b : ℕ). eqb b 10) bytes), length-slice_split (λ (b : ℕ). eqb b 10) bytes, count_by-le-length (λ (b : ℕ). eqb b 10) bytes)
  where
    parts_few : (parts : List (List ℕ)) → length (lines_of_parts parts) ≤ length parts
    parts_few [] = omega arith
    parts_few (x ∷ []) = by_test (eqb (length x) 0)
      where
        by_test : (b : Bool) → length (cond b [] (x ∷ [])) ≤ 1
        by_test true = omega arith
        by_test false = omega arith
    parts_few (x ∷ y ∷ more) = omega (arith, parts_few (y ∷ more))

first_few : (origin : Name) (bytes : List ℕ) (before : Version) → zone_said origin bytes ≡ Ok before → in_version before ≤ length bytes + 1
unfolding zone_of
first_few origin bytes before e =
    omega (arith, zone_few 1 origin (zone_lines bytes) before e, length-take (position_or_len is_cut (lines_of bytes)) (lines_of bytes), lines_few bytes)

second_few : (origin : Name) (bytes : List ℕ) (after : Version) → second_said origin bytes ≡ Ok after → in_version after ≤ length bytes + 1
second_few origin bytes after e =
    omega (arith, zone_few (script_start bytes) origin (script_lines bytes) after e, length-drop (position_or_len is_cut (lines_of bytes) + 1) (lines_of bytes), lines_few bytes)

-- ---- what makes of a zone another one

module _ (style : DiffStyle) (serial : Serial) (origin : Name) (bytes : List ℕ) (before after : Version) (h : CanBeDumped origin before) (k : CanBeDumped origin after)
    (short : length bytes ≤ 2 ^ 24) (e : zone_said origin bytes ≡ Ok before) (f : second_said origin bytes ≡ Ok after) where
  transactions_few : length (blocks (difference serial before after)) ≤ 10000
  transactions_few = omega (arith, short, first_few origin bytes before e, second_few origin bytes after f, difference_few serial origin before after h, blocks_few (difference serial before after))

  different : (s : Status) (text : List ℕ) → text ≡ text_in style origin (difference serial before after) → s ≡ cond (eqb (length (difference serial before after)) 0) status.Done status.Differ → Different style serial origin before after s text
  different s text is ended = record {
    is = is;
    taken = all_taken serial origin before after h k;
    the_other = λ keep. ap (λ (x : Serial). made x origin before after) keep ∙ made_keep origin before after h k;
    read_back = λ script.
        ap (λ (t : List ℕ). list_of origin 1 (lines_of t)) (is ∙ ap (λ (x : DiffStyle). text_in x origin (difference serial before after)) script) ∙ read_back serial origin before after h k 1 transactions_few;
    ended = ended;
  }

  pub told : (s : Status) (text : List ℕ) → text ≡ text_in style origin (difference serial before after) → s ≡ cond (eqb (length (difference serial before after)) 0) status.Done status.Differ
      → Differs style serial origin (zone_said origin bytes) (second_said origin bytes) s text
  told s text is ended =
      subst (λ (r : Result Version (Refused ZoneKind)). Differs style serial origin r (second_said origin bytes) s text) (sym e)
      (subst (λ (r : Result Version (Refused ZoneKind)). Differs style serial origin (Ok before) r s text) (sym f) (different s text is ended))

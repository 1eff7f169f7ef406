-- A report tells the outcomes that it is of.
use Rattle.std.proofs.Common.{◌≡◌, ◌∙◌, ℕ, ◌<◌, ◌^◌, List, length, Ok, sym, ap, subst, arith, length-append}
use Rattle.zone_model.specs.Names.{Name}
use Rattle.zone_model.specs.Versions.{Version}
use Rattle.job_model.specs.Commands.{Job}
use Rattle.job_model.specs.Jobs.{job_of}
use Rattle.job_model.specs.Outcomes.{Pair, all_pairs, passes_for, version_at}
use Rattle.job_model.specs.Reports.{workers_text, end_text}
use Rattle.report_laws.specs.Reports.{IsReportOf}
use Rattle.report_laws.proofs.RunLemmas.{told_same}
use Rattle.report_laws.proofs.ShortLemmas.{AllShort, blocks_short}
use Rattle.report_laws.proofs.LawfulLemmas.{last_small, lawful_plain}

-- the last version of a report is less than it is long
last_short : (chunks : ℕ) (job : Job) (text : List ℕ) (ws : List (List Pair)) (last : ℕ) → length text < 2 ^ 64 → IsReportOf chunks job text ws last → last < 2 ^ 64
last_short chunks job text ws last small is =
    let set = version_at job.origin job.zone (all_pairs ws) in
    let few = last_small chunks (passes_for (length job.workers)) job.origin job.zone ws last set is.lawful in
    let all = ap (λ (l : List ℕ). length l) is.is in
    omega (arith, small, few, all, length-append (workers_text job.origin set 1 ws) (end_text last (length (set last))))

pub one_report : (origin : Name) (bytes : List ℕ) (job : Job) → job_of origin bytes ≡ Ok job → (text : List ℕ) → length text < 2 ^ 64
    → (chunks : ℕ) (xs ys : List (List Pair)) (m n : ℕ) → IsReportOf chunks job text xs m → IsReportOf chunks job text ys n → (xs ≡ ys) × (m ≡ n)
one_report origin bytes job says text small chunks xs ys m n is also =
    let before : ℕ → Version = version_at job.origin job.zone (all_pairs xs) in
    let after : ℕ → Version = version_at job.origin job.zone (all_pairs ys) in
    let short = blocks_short origin bytes job says in
    let m_small = last_short chunks job text xs m small is in
    let n_small = last_short chunks job text ys n small also in
    let long = ap (λ (l : List ℕ). length l) is.is in
    told_same job.origin before after xs ys m n (length (before m)) (length (after n)) (is.same ∙ sym also.same)
    (lawful_plain chunks (passes_for (length job.workers)) job.origin job.zone xs m m_small (subst AllShort (sym is.same) short) is.lawful)
    (lawful_plain chunks (passes_for (length job.workers)) job.origin job.zone ys n n_small (subst AllShort (sym also.same) short) also.lawful)
    m_small n_small (omega (arith, small, long)) (sym is.is ∙ also.is)

-- What is printed of one list's outcomes that tell what is so is its report.
use Rattle.std.proofs.Common.{◌≡◌, ◌∙◌, ℕ, ◌+◌, List, [], ◌∷◌, ◌++◌, length, refl, sym, ap, Bool, ◌||◌}
use Rattle.std.specs.List.{list_any}
use Rattle.zone_model.specs.Names.{Name}
use Rattle.zone_model.specs.Versions.{Version}
use Rattle.job_model.specs.Commands.{Command}
use Rattle.job_model.specs.Outcomes.{all_pairs, is_refused, version_at}
use Rattle.job_model.specs.Reports.{head_text, end_text}
use Rattle.job_model.specs.Feeds.{by_worker, fed_commands, fed_text, fed_report, some_fed_refused}
use Rattle.job_report.specs.Outcomes.{ended_view, told_text}
use Rattle.job_report.specs.Feeds.{fed_pairs, FedTell, fed_outcomes_text}
use Rattle.job_report.specs.declared.outcomes.FedOutcome.{FedOutcome}
use Rattle.job_report.proofs.ReportLemmas.{command_told}

fed_told : (origin : Name) (set : ℕ → Version) (n : ℕ) (cs : List Command) (os : List FedOutcome) → FedTell origin set cs os → fed_text origin set n (fed_pairs cs os) ≡ fed_outcomes_text n os
fed_told origin set n [] [] t = refl
fed_told origin set n [] (o ∷ os) t = absurd t
fed_told origin set n (c ∷ cs) [] t = absurd t
fed_told origin set n (c ∷ cs) (o ∷ os) t =
    ap (λ (text : List ℕ). head_text o.worker n o.outcome.version ++ text ++ fed_text origin set (n + 1) (fed_pairs cs os)) (command_told origin set c o.outcome t.0)
    ∙ ap (λ (text : List ℕ). head_text o.worker n o.outcome.version ++ told_text o.outcome.told ++ text) (fed_told origin set (n + 1) cs os t.1)

-- the report of a list whose outcomes tell what is so
pub fed_reported : (origin : Name) (zone : Version) (workers : ℕ) (cs : List Command) (os : List FedOutcome) (last names : ℕ) → FedTell origin (version_at origin zone (all_pairs (by_worker workers (fed_pairs cs os)))) cs os
    → names ≡ length (version_at origin zone (all_pairs (by_worker workers (fed_pairs cs os))) last) → fed_outcomes_text 1 os ++ end_text last names ≡ fed_report origin zone workers (fed_pairs cs os) last
fed_reported origin zone workers cs os last names t n =
    let set : ℕ → Version = version_at origin zone (all_pairs (by_worker workers (fed_pairs cs os))) in
    ap (λ (text : List ℕ). text ++ end_text last names) (sym (fed_told origin set 1 cs os t)) ∙ ap (λ (k : ℕ). fed_text origin set 1 (fed_pairs cs os) ++ end_text last k) n

-- whether a transaction was refused
pub fed_refused : (origin : Name) (set : ℕ → Version) (cs : List Command) (os : List FedOutcome) → FedTell origin set cs os → list_any (λ (f : FedOutcome). is_refused (ended_view f.outcome.told)) os ≡ some_fed_refused (fed_pairs cs os)
fed_refused origin set [] [] t = refl
fed_refused origin set [] (o ∷ os) t = absurd t
fed_refused origin set (c ∷ cs) [] t = absurd t
fed_refused origin set (c ∷ cs) (o ∷ os) t = ap (λ (b : Bool). is_refused (ended_view o.outcome.told) || b) (fed_refused origin set cs os t.1)

-- an outcome for each command
pub fed_same : (origin : Name) (set : ℕ → Version) (cs : List Command) (os : List FedOutcome) → FedTell origin set cs os → fed_commands (fed_pairs cs os) ≡ cs
fed_same origin set [] [] t = refl
fed_same origin set [] (o ∷ os) t = absurd t
fed_same origin set (c ∷ cs) [] t = absurd t
fed_same origin set (c ∷ cs) (o ∷ os) t = ap (λ (l : List Command). c ∷ l) (fed_same origin set cs os t.1)

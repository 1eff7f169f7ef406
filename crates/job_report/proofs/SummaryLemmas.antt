-- What is printed of outcomes that tell what is so is the summary.
use Rattle.std.proofs.Common.{◌≡◌, ◌∙◌, ℕ, ◌+◌, Bool, cond, List, [], ◌∷◌, ◌++◌, length, refl, sym, ap, arith, append_assoc, length-append, if◌then◌else◌}
use Rattle.zone_model.specs.Names.{Name}
use Rattle.zone_model.specs.Versions.{Version}
use Rattle.job_model.specs.Commands.{Command}
use Rattle.job_model.specs.Outcomes.{Ended, Pair, all_pairs, is_committed, is_refused}
use Rattle.job_model.specs.Reports.{head_text, ended_text}
use Rattle.job_model.specs.Sizes.{node_count}
use Rattle.job_model.specs.Summaries.{ended_count, refused_text, all_refused_text, counts_text, sized_end_text, summary}
use Rattle.job_report.specs.Outcomes.{ended_view, pairs_of, job_pairs, versions_made, EachTells, AllTell, told_text, outcome_text}
use Rattle.job_report.specs.Summaries.{told_count, all_count, commands_in, refused_lines, all_refused_lines, summary_text}
use Rattle.job_report.specs.declared.outcomes.Told.{Told}
use Rattle.job_report.specs.declared.outcomes.Told.TheVariants as told
use Rattle.job_report.specs.declared.outcomes.Outcome.{Outcome}
use Rattle.job_report.specs.declared.outcomes.Outcomes.{Outcomes}

-- seven pieces pushed one after another
pub counts_pieces : (o o1 o2 o3 o4 o5 o6 o7 a da b db c dc d : List ℕ) → o1 ≡ o ++ a → o2 ≡ o1 ++ da → o3 ≡ o2 ++ b → o4 ≡ o3 ++ db → o5 ≡ o4 ++ c → o6 ≡ o5 ++ dc → o7 ≡ o6 ++ d
    → o7 ≡ o ++ (a ++ da ++ b ++ db ++ c ++ dc ++ d)
counts_pieces o o1 o2 o3 o4 o5 o6 o7 a da b db c dc d e1 e2 e3 e4 e5 e6 e7 =
    e7
    ∙ ap (λ (l : List ℕ). l ++ d) (e6 ∙ ap (λ (l : List ℕ). l ++ dc) (e5 ∙ ap (λ (l : List ℕ). l ++ c) (e4 ∙ ap (λ (l : List ℕ). l ++ db) (e3 ∙ ap (λ (l : List ℕ). l ++ b) (e2 ∙ ap (λ (l : List ℕ). l ++ da) e1)))))
    ∙ simp append_assoc

-- ---- the counts

count-append : (so : Ended → Bool) (xs ys : List Pair) → ended_count so (xs ++ ys) ≡ ended_count so xs + ended_count so ys
count-append so [] ys = omega arith
count-append so (x ∷ xs) ys = let k = count-append so xs ys in omega (arith, k)

worker_count : (so : Ended → Bool) (origin : Name) (set : ℕ → Version) (cs : List Command) (os : List Outcome) → EachTells origin set cs os → ended_count so (pairs_of cs os) ≡ told_count so os
worker_count so origin set [] [] t = refl
worker_count so origin set [] (o ∷ os) t = absurd t
worker_count so origin set (c ∷ cs) [] t = absurd t
worker_count so origin set (c ∷ cs) (o ∷ os) t = ap (λ (n : ℕ). cond (so (ended_view o.told)) 1 0 + n) (worker_count so origin set cs os t.1)

jobs_count : (so : Ended → Bool) (origin : Name) (set : ℕ → Version) (ws : List (List Command)) (os : List Outcomes) → AllTell origin set ws os → ended_count so (all_pairs (job_pairs ws os)) ≡ all_count so os
jobs_count so origin set [] [] t = refl
jobs_count so origin set [] (o ∷ os) t = absurd t
jobs_count so origin set (w ∷ ws) [] t = absurd t
jobs_count so origin set (w ∷ ws) (o ∷ os) t =
    count-append so (pairs_of w o.list.items) (all_pairs (job_pairs ws os))
    ∙ ap (λ (n : ℕ). n + ended_count so (all_pairs (job_pairs ws os))) (worker_count so origin set w o.list.items t.0)
    ∙ ap (λ (n : ℕ). told_count so o.list.items + n) (jobs_count so origin set ws os t.1)

worker_length : (origin : Name) (set : ℕ → Version) (cs : List Command) (os : List Outcome) → EachTells origin set cs os → length (pairs_of cs os) ≡ length os
worker_length origin set [] [] t = refl
worker_length origin set [] (o ∷ os) t = absurd t
worker_length origin set (c ∷ cs) [] t = absurd t
worker_length origin set (c ∷ cs) (o ∷ os) t = let k = worker_length origin set cs os t.1 in omega (arith, k)

jobs_length : (origin : Name) (set : ℕ → Version) (ws : List (List Command)) (os : List Outcomes) → AllTell origin set ws os → length (all_pairs (job_pairs ws os)) ≡ commands_in os
jobs_length origin set [] [] t = refl
jobs_length origin set [] (o ∷ os) t = absurd t
jobs_length origin set (w ∷ ws) [] t = absurd t
jobs_length origin set (w ∷ ws) (o ∷ os) t =
    let a = length-append (pairs_of w o.list.items) (all_pairs (job_pairs ws os)) in
    let b = worker_length origin set w o.list.items t.0 in
    let c = jobs_length origin set ws os t.1 in
    omega (arith, a, b, c)

-- ---- the lines of refused transactions

line_told : (w c v : ℕ) (t : Told) → (if is_refused (ended_view t) then head_text w c v ++ ended_text (ended_view t) else []) ≡ (if is_refused (ended_view t) then head_text w c v ++ told_text t else [])
line_told w c v (told.Reply text) = refl
line_told w c v told.Held = refl
line_told w c v told.Released = refl
line_told w c v told.Committed = refl
line_told w c v told.Compacted = refl
line_told w c v told.RolledBack = refl
line_told w c v (told.Refused refused) = refl

worker_lines : (origin : Name) (set : ℕ → Version) (w c : ℕ) (cs : List Command) (os : List Outcome) → EachTells origin set cs os → refused_text w c (pairs_of cs os) ≡ refused_lines w c os
worker_lines origin set w c [] [] t = refl
worker_lines origin set w c [] (o ∷ os) t = absurd t
worker_lines origin set w c (x ∷ cs) [] t = absurd t
worker_lines origin set w c (x ∷ cs) (o ∷ os) t =
    ap (λ (l : List ℕ). l ++ refused_text w (c + 1) (pairs_of cs os)) (line_told w c o.version o.told)
    ∙ ap (λ (l : List ℕ). (if is_refused (ended_view o.told) then outcome_text w c o else []) ++ l) (worker_lines origin set w (c + 1) cs os t.1)

jobs_lines : (origin : Name) (set : ℕ → Version) (w : ℕ) (ws : List (List Command)) (os : List Outcomes) → AllTell origin set ws os → all_refused_text w (job_pairs ws os) ≡ all_refused_lines w os
jobs_lines origin set w [] [] t = refl
jobs_lines origin set w [] (o ∷ os) t = absurd t
jobs_lines origin set w (x ∷ ws) [] t = absurd t
jobs_lines origin set w (x ∷ ws) (o ∷ os) t =
    ap (λ (l : List ℕ). l ++ all_refused_text (w + 1) (job_pairs ws os)) (worker_lines origin set w 1 x o.list.items t.0)
    ∙ ap (λ (l : List ℕ). refused_lines w 1 o.list.items ++ l) (jobs_lines origin set (w + 1) ws os t.1)

-- the summary of a job whose outcomes tell what is so
pub summed_up : (origin : Name) (zone : Version) (ws : List (List Command)) (os : List Outcomes) (last names nodes : ℕ) → AllTell origin (versions_made origin zone ws os) ws os
    → names ≡ length (versions_made origin zone ws os last) → nodes ≡ node_count (versions_made origin zone ws os last) → summary_text os last names nodes ≡ summary origin zone (job_pairs ws os) last
summed_up origin zone ws os last names nodes t n k =
    ap (λ (l : List ℕ). counts_text (commands_in os) (all_count is_committed os) (all_count is_refused os) ++ l ++ sized_end_text last names nodes) (sym (jobs_lines origin (versions_made origin zone ws os) 1 ws os t))
    ∙ ap (λ (m : ℕ). counts_text m (all_count is_committed os) (all_count is_refused os) ++ all_refused_text 1 (job_pairs ws os) ++ sized_end_text last names nodes) (sym (jobs_length origin (versions_made origin zone ws os) ws os t))
    ∙ ap (λ (m : ℕ). counts_text (length (all_pairs (job_pairs ws os))) m (all_count is_refused os) ++ all_refused_text 1 (job_pairs ws os) ++ sized_end_text last names nodes) (sym (jobs_count is_committed origin (versions_made origin zone ws os) ws os t))
    ∙ ap (λ (m : ℕ). counts_text (length (all_pairs (job_pairs ws os))) (ended_count is_committed (all_pairs (job_pairs ws os))) m ++ all_refused_text 1 (job_pairs ws os) ++ sized_end_text last names nodes) (sym (jobs_count is_refused origin (versions_made origin zone ws os) ws os t))
    ∙ ap (λ (m : ℕ). counts_text (length (all_pairs (job_pairs ws os))) (ended_count is_committed (all_pairs (job_pairs ws os))) (ended_count is_refused (all_pairs (job_pairs ws os))) ++ all_refused_text 1 (job_pairs ws os) ++ sized_end_text last m nodes) n
    ∙ ap (λ (m : ℕ). counts_text (length (all_pairs (job_pairs ws os))) (ended_count is_committed (all_pairs (job_pairs ws os))) (ended_count is_refused (all_pairs (job_pairs ws os))) ++ all_refused_text 1 (job_pairs ws os) ++ sized_end_text last (length (versions_made origin zone ws os last)) m) k

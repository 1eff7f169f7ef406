-- What is printed of outcomes that tell what is so is the report.
use Rattle.std.proofs.Common.{◌≡◌, ◌∙◌, ℕ, ◌+◌, List, [], ◌∷◌, ◌++◌, length, refl, sym, ap, append_assoc, Result, Ok, Err, IfOk, Bool, true, false, ◌||◌, map}
use Rattle.std.specs.List.{list_any}
use Rattle.zone_model.specs.Names.{Name}
use Rattle.zone_model.specs.Versions.{Version}
use Rattle.job_model.specs.Commands.{Command, Ask, Hold, AskHeld, Release, Block, Compact}
use Rattle.job_model.specs.Outcomes.{Pair, all_pairs, is_refused, some_refused}
use Rattle.job_model.specs.Replies as replies
use Rattle.job_model.specs.Replies.{reply_of, reply_text}
use Rattle.job_model.specs.Reports.{head_text, ended_text, compacted_text, end_text, command_text, worker_text, workers_text, report}
use Rattle.job_report.specs.Outcomes.{ended_view, outcome_view, pairs_of, job_pairs, versions_made, Replies, EndsBlock, EndsCompaction, Tells, EachTells, AllTell, told_text, outcome_text, outcomes_text, all_text}
use Rattle.job_report.specs.declared.outcomes.Told.{Told}
use Rattle.job_report.specs.declared.outcomes.Told.TheVariants as told
use Rattle.job_report.specs.declared.outcomes.Outcome.{Outcome}
use Rattle.job_report.specs.declared.outcomes.Outcomes.{Outcomes}

replied : (wanted : replies.Reply) (t : Told) → Replies wanted t → reply_text wanted ≡ told_text t
replied wanted (told.Reply text) r = sym r
replied wanted told.Held r = absurd r
replied wanted told.Released r = absurd r
replied wanted told.Committed r = absurd r
replied wanted told.Compacted r = absurd r
replied wanted told.RolledBack r = absurd r
replied wanted (told.Refused refused) r = absurd r

block_ended : (t : Told) → EndsBlock t → ended_text (ended_view t) ≡ told_text t
block_ended (told.Reply text) e = absurd e
block_ended told.Held e = absurd e
block_ended told.Released e = absurd e
block_ended told.Committed e = refl
block_ended told.Compacted e = absurd e
block_ended told.RolledBack e = refl
block_ended (told.Refused refused) e = refl

compaction_ended : (t : Told) → EndsCompaction t → compacted_text (ended_view t) ≡ told_text t
compaction_ended (told.Reply text) e = absurd e
compaction_ended told.Held e = absurd e
compaction_ended told.Released e = absurd e
compaction_ended told.Committed e = absurd e
compaction_ended told.Compacted e = refl
compaction_ended told.RolledBack e = absurd e
compaction_ended (told.Refused refused) e = refl

pub command_told : (origin : Name) (set : ℕ → Version) (c : Command) (o : Outcome) → Tells origin set c o → command_text origin set c (outcome_view o) ≡ told_text o.told
command_told origin set (Ask question) o t = replied (reply_of origin (set o.version) question) o.told t
command_told origin set Hold o t = sym (ap told_text t)
command_told origin set (AskHeld question) o t = replied (reply_of origin (set o.version) question) o.told t
command_told origin set Release o t = sym (ap told_text t)
command_told origin set (Block _ asked ending) o t = block_ended o.told t
command_told origin set Compact o t = compaction_ended o.told t

worker_told : (origin : Name) (set : ℕ → Version) (w c : ℕ) (cs : List Command) (os : List Outcome) → EachTells origin set cs os → worker_text origin set w c (pairs_of cs os) ≡ outcomes_text w c os
worker_told origin set w c [] [] t = refl
worker_told origin set w c [] (o ∷ os) t = absurd t
worker_told origin set w c (x ∷ cs) [] t = absurd t
worker_told origin set w c (x ∷ cs) (o ∷ os) t =
    ap (λ (text : List ℕ). head_text w c o.version ++ text ++ worker_text origin set w (c + 1) (pairs_of cs os)) (command_told origin set x o t.0)
    ∙ ap (λ (text : List ℕ). head_text w c o.version ++ told_text o.told ++ text) (worker_told origin set w (c + 1) cs os t.1)

workers_told : (origin : Name) (set : ℕ → Version) (w : ℕ) (ws : List (List Command)) (os : List Outcomes) → AllTell origin set ws os → workers_text origin set w (job_pairs ws os) ≡ all_text w os
workers_told origin set w [] [] t = refl
workers_told origin set w [] (o ∷ os) t = absurd t
workers_told origin set w (x ∷ ws) [] t = absurd t
workers_told origin set w (x ∷ ws) (o ∷ os) t =
    ap (λ (text : List ℕ). text ++ workers_text origin set (w + 1) (job_pairs ws os)) (worker_told origin set w 1 x o.list.items t.0)
    ∙ ap (λ (text : List ℕ). outcomes_text w 1 o.list.items ++ text) (workers_told origin set (w + 1) ws os t.1)

-- the report of a job whose outcomes tell what is so
pub reported : (origin : Name) (zone : Version) (ws : List (List Command)) (os : List Outcomes) (last names : ℕ) → AllTell origin (versions_made origin zone ws os) ws os → names ≡ length (versions_made origin zone ws os last)
    → all_text 1 os ++ end_text last names ≡ report origin zone (job_pairs ws os) last
reported origin zone ws os last names t n =
    ap (λ (text : List ℕ). text ++ end_text last names) (sym (workers_told origin (versions_made origin zone ws os) 1 ws os t))
    ∙ ap (λ (k : ℕ). workers_text origin (versions_made origin zone ws os) 1 (job_pairs ws os) ++ end_text last k) n

-- one outcome more is printed
pub printed_one : (before out : List ℕ) (w c : ℕ) (list rest : List Outcome) (o : Outcome) (wanted : List ℕ) → list ≡ o ∷ rest → before ++ outcomes_text w c list ≡ wanted → out ≡ before ++ outcome_text w c o → out ++ outcomes_text w (c + 1) rest ≡ wanted
printed_one before out w c list rest o wanted e so_far more =
    ap (λ (text : List ℕ). text ++ outcomes_text w (c + 1) rest) more ∙ append_assoc before (outcome_text w c o) (outcomes_text w (c + 1) rest)
    ∙ ap (λ (l : List Outcome). before ++ outcomes_text w c l) (sym e) ∙ so_far

pub printed_worker : (before out : List ℕ) (w : ℕ) (list rest : List Outcomes) (o : Outcomes) (wanted : List ℕ) → list ≡ o ∷ rest → before ++ all_text w list ≡ wanted → out ≡ before ++ outcomes_text w 1 o.list.items → out ++ all_text (w + 1) rest ≡ wanted
printed_worker before out w list rest o wanted e so_far more =
    ap (λ (text : List ℕ). text ++ all_text (w + 1) rest) more ∙ append_assoc before (outcomes_text w 1 o.list.items) (all_text (w + 1) rest)
    ∙ ap (λ (l : List Outcomes). before ++ all_text w l) (sym e) ∙ so_far

pub if_ok : {A E : Type 0} {P Q : A → Type 0} (r : Result A E) → ((x : A) → P x → Q x) → IfOk r P → IfOk r Q
if_ok (Ok x) f h = f x h
if_ok (Err e) f h = tt

-- ---- whether a transaction was refused

abbrev outcome_refused : Outcome → Bool
outcome_refused o = is_refused (ended_view o.told)

abbrev pair_refused : Pair → Bool
pair_refused pair = is_refused pair.1.ended

or-assoc : (a b c : Bool) → (a || (b || c)) ≡ ((a || b) || c)
or-assoc true b c = refl
or-assoc false b c = refl

any-append : (xs ys : List Pair) → list_any pair_refused (xs ++ ys) ≡ (list_any pair_refused xs || list_any pair_refused ys)
any-append [] ys = refl
any-append (x ∷ xs) ys = ap (λ (b : Bool). pair_refused x || b) (any-append xs ys) ∙ or-assoc (pair_refused x) (list_any pair_refused xs) (list_any pair_refused ys)

worker_refused : (origin : Name) (set : ℕ → Version) (cs : List Command) (os : List Outcome) → EachTells origin set cs os → list_any outcome_refused os ≡ list_any pair_refused (pairs_of cs os)
worker_refused origin set [] [] t = refl
worker_refused origin set [] (o ∷ os) t = absurd t
worker_refused origin set (x ∷ cs) [] t = absurd t
worker_refused origin set (x ∷ cs) (o ∷ os) t = ap (λ (b : Bool). outcome_refused o || b) (worker_refused origin set cs os t.1)

pub refused_told : (origin : Name) (set : ℕ → Version) (ws : List (List Command)) (os : List Outcomes) → AllTell origin set ws os → list_any (λ (w : Outcomes). list_any (λ (o : Outcome). is_refused (ended_view o.told)) w.list.items) os ≡ some_refused (job_pairs ws os)
refused_told origin set [] [] t = refl
refused_told origin set [] (o ∷ os) t = absurd t
refused_told origin set (x ∷ ws) [] t = absurd t
refused_told origin set (x ∷ ws) (o ∷ os) t =
    ap (λ (b : Bool). b || list_any (λ (w : Outcomes). list_any outcome_refused w.list.items) os) (worker_refused origin set x o.list.items t.0)
    ∙ ap (λ (b : Bool). list_any pair_refused (pairs_of x o.list.items) || b) (refused_told origin set ws os t.1)
    ∙ sym (any-append (pairs_of x o.list.items) (all_pairs (job_pairs ws os)))

-- ---- a list for each worker, and an outcome for each command

worker_same : (origin : Name) (set : ℕ → Version) (cs : List Command) (os : List Outcome) → EachTells origin set cs os → map (λ (p : Pair). p.0) (pairs_of cs os) ≡ cs
worker_same origin set [] [] t = refl
worker_same origin set [] (o ∷ os) t = absurd t
worker_same origin set (x ∷ cs) [] t = absurd t
worker_same origin set (x ∷ cs) (o ∷ os) t = ap (λ (l : List Command). x ∷ l) (worker_same origin set cs os t.1)

pub workers_same : (origin : Name) (set : ℕ → Version) (ws : List (List Command)) (os : List Outcomes) → AllTell origin set ws os → map (map (λ (p : Pair). p.0)) (job_pairs ws os) ≡ ws
workers_same origin set [] [] t = refl
workers_same origin set [] (o ∷ os) t = absurd t
workers_same origin set (x ∷ ws) [] t = absurd t
workers_same origin set (x ∷ ws) (o ∷ os) t =
    ap (λ (l : List Command). l ∷ map (map (λ (p : Pair). p.0)) (job_pairs ws os)) (worker_same origin set x o.list.items t.0)
    ∙ ap (λ (l : List (List Command)). x ∷ l) (workers_same origin set ws os t.1)

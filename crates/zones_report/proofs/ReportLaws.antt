-- What is printed of commands over several zones, where what they came to tells what is so, is the report.
use Rattle.std.proofs.Common.{◌≡◌, ◌∙◌, ℕ, zero, suc, ◌+◌, Bool, true, false, ◌||◌, List, [], ◌∷◌, ◌++◌, length, map, get_or, Option, Some, None, is_some, refl, sym, ap, subst, arith, codes}
use Rattle.std.specs.Prelude.{slice_get}
use Rattle.std.specs.Fmt.{decimal}
use Rattle.std.specs.List.{list_any}
use Rattle.std.specs.BTreeMap.{insert_entry}
use Rattle.zone_model.specs.Names.{Name, name_cmp}
use Rattle.zone_model.specs.NameText.{text_of}
use Rattle.zone_model.specs.MasterFile.{Zone}
use Rattle.zone_model.specs.Transactions.{Transaction}
use Rattle.zone_model.specs.Versions.{Version}
use Rattle.zone_answer.specs.Answers.{answer}
use Rattle.job_model.specs.Commands as jobs
use Rattle.job_model.specs.declared.Ending.{Ending}
use Rattle.job_model.specs.declared.Question.TheVariants as question
use Rattle.job_model.specs.declared.Weight.{Weight}
use Rattle.job_model.specs.Replies as replies
use Rattle.job_model.specs.Reports.{ended_text}
use Rattle.job_report.specs.Outcomes.{ended_view, told_text}
use Rattle.job_report.specs.declared.outcomes.Outcome.{Outcome}
use Rattle.job_report.proofs.ReportLemmas.{command_told}
use Rattle.zones_model.specs.Commands.{Command, Get, Block, Attach, Detach, origins_of}
use Rattle.zones_model.specs.Outcomes as outcomes
use Rattle.zones_model.specs.Outcomes.{all_done, attached_at, command_of}
use Rattle.zones_model.specs.Reports as report
use Rattle.zones_model.specs.Reports.{no_zone, set_of, table_end, table_head, is_some_cause}
use Rattle.zones_model.specs.Tables.{attached_count}
use Rattle.zones_model.specs.declared.TableCause.{TableCause}
use Rattle.zones_report.specs.declared.outcomes.Answer.{Answer}
use Rattle.zones_report.specs.declared.outcomes.CommandEnd.{CommandEnd}
use Rattle.zones_report.specs.declared.outcomes.CommandEnd.TheVariants.{Got, Ran, Attached, Detached}
use Rattle.zones_report.specs.declared.outcomes.CommandEnds.{CommandEnds}
use Rattle.zones_report.specs.declared.outcomes.ZonesFinished.{ZonesFinished}
use Rattle.zones_report.specs.Outcomes.{all_dones_view, all_refused, done_view, dones_view, was_refused}
use Rattle.zones_report.specs.Telling.{AllTell, EachTells, IsTold, Tells, last_of}
use Rattle.zones_report.specs.Texts.{all_text, done_text, dones_text, ends_of, finished_text, zone_version}

-- ---- commands

origin-at : (zones : List Zone) (n : ℕ) → get_or (origins_of zones) n [] ≡ (get_or zones n no_zone).origin
origin-at [] n = refl
origin-at (zone ∷ zones) zero = refl
origin-at (zone ∷ zones) (suc n) = origin-at zones n

version-at : (zones : List Zone) (n v : ℕ) → report.zone_version zones n v ≡ zone_version (origins_of zones) n v
version-at zones n v = ap (λ (name : Name). text_of name ++ codes " v" ++ decimal v ++ codes " ") (sym (origin-at zones n))

-- what holds of each command that came to something of its kind holds of all that is told
by_kind : (zones : List Zone) (set : ℕ → ℕ → Version) (P : Command → CommandEnd → Type 0)
    → ((name : Name) (rtype table : ℕ) (answer : Option Answer) → Tells zones set (Get name rtype) (Got table answer) → P (Get name rtype) (Got table answer))
    → ((zone ran : ℕ) (how : Weight) (asked : Transaction) (ending : Ending) (o : Outcome) → Tells zones set (Block zone how asked ending) (Ran ran o) → P (Block zone how asked ending) (Ran ran o))
    → ((zone table : ℕ) (refused : Option TableCause) → P (Attach zone) (Attached table refused)) → ((zone table : ℕ) (refused : Option TableCause) → P (Detach zone) (Detached table refused))
    → (x : Command) (d : CommandEnd) → Tells zones set x d → P x d
by_kind zones set P got ran attached detached (Get name rtype) (Got table answer) t = got name rtype table answer t
by_kind zones set P got ran attached detached (Get name rtype) (Ran zone o) t = absurd t
by_kind zones set P got ran attached detached (Get name rtype) (Attached table refused) t = absurd t
by_kind zones set P got ran attached detached (Get name rtype) (Detached table refused) t = absurd t
by_kind zones set P got ran attached detached (Block zone _ asked ending) (Got table answer) t = absurd t
by_kind zones set P got ran attached detached (Block zone how asked ending) (Ran of o) t = ran zone of how asked ending o t
by_kind zones set P got ran attached detached (Block zone _ asked ending) (Attached table refused) t = absurd t
by_kind zones set P got ran attached detached (Block zone _ asked ending) (Detached table refused) t = absurd t
by_kind zones set P got ran attached detached (Attach zone) (Got table answer) t = absurd t
by_kind zones set P got ran attached detached (Attach zone) (Ran of o) t = absurd t
by_kind zones set P got ran attached detached (Attach zone) (Attached table refused) t = attached zone table refused
by_kind zones set P got ran attached detached (Attach zone) (Detached table refused) t = absurd t
by_kind zones set P got ran attached detached (Detach zone) (Got table answer) t = absurd t
by_kind zones set P got ran attached detached (Detach zone) (Ran of o) t = absurd t
by_kind zones set P got ran attached detached (Detach zone) (Attached table refused) t = absurd t
by_kind zones set P got ran attached detached (Detach zone) (Detached table refused) t = detached zone table refused

answer_told : (zones : List Zone) (set : ℕ → ℕ → Version) (w c : ℕ) (name : Name) (rtype table : ℕ) (answer : Option Answer) → Tells zones set (Get name rtype) (Got table answer)
    → report.done_text zones set w c (done_view (Get name rtype) (Got table answer)) ≡ done_text (origins_of zones) w c (Got table answer)
answer_told zones set w c name rtype table None t = refl
answer_told zones set w c name rtype table (Some a) t =
    let o = a.outcome in
    let origin = (get_or zones a.zone no_zone).origin in
    ap (λ (text : List ℕ). table_head w c table ++ (text ++ replies.answer_text (answer origin (set a.zone o.version) name rtype))) (version-at zones a.zone o.version)
    ∙ ap (λ (text : List ℕ). table_head w c table ++ (zone_version (origins_of zones) a.zone o.version ++ text)) (command_told origin (set a.zone) (jobs.Ask (question.Get name rtype)) o t)

block_told : (zones : List Zone) (set : ℕ → ℕ → Version) (w c zone ran : ℕ) (how : Weight) (asked : Transaction) (ending : Ending) (o : Outcome) → Tells zones set (Block zone how asked ending) (Ran ran o)
    → report.done_text zones set w c (done_view (Block zone how asked ending) (Ran ran o)) ≡ done_text (origins_of zones) w c (Ran ran o)
block_told zones set w c zone ran how asked ending o t =
    let head = decimal w ++ codes "." ++ decimal c ++ codes " " in
    ap (λ (text : List ℕ). head ++ text ++ ended_text (ended_view o.told)) (version-at zones zone o.version)
    ∙ ap (λ (text : List ℕ). head ++ zone_version (origins_of zones) zone o.version ++ text) (command_told [] (set zone) (jobs.Block how asked ending) o t.1)
    ∙ ap (λ (n : ℕ). head ++ zone_version (origins_of zones) n o.version ++ told_text o.told) (sym t.0)

done_told : (zones : List Zone) (set : ℕ → ℕ → Version) (w c : ℕ) (x : Command) (d : CommandEnd) → Tells zones set x d → report.done_text zones set w c (done_view x d) ≡ done_text (origins_of zones) w c d
done_told zones set w c =
    by_kind zones set (λ x d. report.done_text zones set w c (done_view x d) ≡ done_text (origins_of zones) w c d) (answer_told zones set w c) (block_told zones set w c) (λ zone table refused. refl) (λ zone table refused. refl)

worker_told : (zones : List Zone) (set : ℕ → ℕ → Version) (w c : ℕ) (cs : List Command) (ds : List CommandEnd) → EachTells zones set cs ds → report.worker_text zones set w c (dones_view cs ds) ≡ dones_text (origins_of zones) w c ds
worker_told zones set w c [] [] t = refl
worker_told zones set w c [] (d ∷ ds) t = absurd t
worker_told zones set w c (x ∷ cs) [] t = absurd t
worker_told zones set w c (x ∷ cs) (d ∷ ds) t =
    ap (λ (text : List ℕ). text ++ report.worker_text zones set w (c + 1) (dones_view cs ds)) (done_told zones set w c x d t.0)
    ∙ ap (λ (text : List ℕ). done_text (origins_of zones) w c d ++ text) (worker_told zones set w (c + 1) cs ds t.1)

workers_told : (zones : List Zone) (set : ℕ → ℕ → Version) (w : ℕ) (ws : List (List Command)) (ds : List CommandEnds) → AllTell zones set ws ds → report.workers_text zones set w (all_dones_view ws ds) ≡ all_text (origins_of zones) w ds
workers_told zones set w [] [] t = refl
workers_told zones set w [] (d ∷ ds) t = absurd t
workers_told zones set w (x ∷ ws) [] t = absurd t
workers_told zones set w (x ∷ ws) (d ∷ ds) t =
    ap (λ (text : List ℕ). text ++ report.workers_text zones set (w + 1) (all_dones_view ws ds)) (worker_told zones set w 1 x d.list.items t.0)
    ∙ ap (λ (text : List ℕ). dones_text (origins_of zones) w 1 d.list.items ++ text) (workers_told zones set (w + 1) ws ds t.1)

-- ---- the last lines

-- each version has so many names, where the first zone has number n
abbrev AreCounted : (ℕ → ℕ → Version) → ℕ → List Zone → List ℕ → List ℕ → Type 0
AreCounted set n zones vs counts = (m : ℕ) (zone : Zone) → slice_get zones m ≡ Some zone → (v count : ℕ) → slice_get vs m ≡ Some v → slice_get counts m ≡ Some count → count ≡ length (set (n + m) v)

ends_by : (set : ℕ → ℕ → Version) (n : ℕ) (zones : List Zone) (vs counts : List ℕ) → length counts ≡ length zones → AreCounted set n zones vs counts → ends_of (origins_of zones) vs counts ≡ report.ends_by_origin set n zones vs
ends_by set n [] vs counts many h = refl
ends_by set n (zone ∷ zones) [] counts many h = refl
ends_by set n (zone ∷ zones) (v ∷ vs) [] many h = absurd (omega arith)
ends_by set n (zone ∷ zones) (v ∷ vs) (count ∷ counts) many h =
    let first : count ≡ length (set n v) = subst (λ (k : ℕ). count ≡ length (set k v)) (omega arith) (h 0 zone refl v count refl refl) in
    let rest : AreCounted set (n + 1) zones vs counts = λ m z at w c has is. subst (λ (k : ℕ). c ≡ length (set k w)) (omega arith) (h (suc m) z at w c has is) in
    ap (λ (l : List (Name × (ℕ × ℕ))). insert_entry name_cmp l zone.origin (v, count)) (ends_by set (n + 1) zones vs counts (omega arith) rest)
    ∙ ap (λ (k : ℕ). insert_entry name_cmp (report.ends_by_origin set (n + 1) zones vs) zone.origin (v, k)) first

-- the report of a run of which all that is told is so
pub reported : (zones : List Zone) (ws : List (List Command)) (f : ZonesFinished) → IsTold zones ws f → finished_text (origins_of zones) f ≡ report.report zones (all_dones_view ws f.done.items) (last_of f)
reported zones ws f t =
    let set = set_of zones (all_dones_view ws f.done.items) in
    let counted : AreCounted set 0 zones f.versions.items f.names.items = λ m z at v count has is. subst (λ (k : ℕ). count ≡ length (set k v)) (omega arith) (t.names m z at v count has is) in
    let ends : report.ends_text (ends_of (origins_of zones) f.versions.items f.names.items) ≡ report.ends_text (report.ends_by_origin set 0 zones f.versions.items) = ap report.ends_text (ends_by set 0 zones f.versions.items f.names.items t.many counted) in
    ap (λ (text : List ℕ). text ++ table_end f.table f.attached ++ report.ends_text (ends_of (origins_of zones) f.versions.items f.names.items)) (sym (workers_told zones set 1 ws f.done.items t.tell))
    ∙ ap (λ (k : ℕ). report.workers_text zones set 1 (all_dones_view ws f.done.items) ++ table_end f.table k ++ report.ends_text (ends_of (origins_of zones) f.versions.items f.names.items)) t.attached
    ∙ ap (λ (text : List ℕ). report.workers_text zones set 1 (all_dones_view ws f.done.items) ++ table_end f.table (attached_count (attached_at (all_done (all_dones_view ws f.done.items)) f.table) 0 (origins_of zones)) ++ text) ends

-- ---- whether something was refused

some_cause : (refused : Option TableCause) → is_some refused ≡ is_some_cause refused
some_cause None = refl
some_cause (Some cause) = refl

one_refused : (zones : List Zone) (set : ℕ → ℕ → Version) (x : Command) (d : CommandEnd) → Tells zones set x d → was_refused d ≡ report.was_refused (done_view x d)
one_refused zones set =
    by_kind zones set (λ x d. was_refused d ≡ report.was_refused (done_view x d)) (λ name rtype table answer t. refl) (λ zone ran how asked ending o t. refl)
    (λ zone table refused. some_cause refused) (λ zone table refused. some_cause refused)

or-assoc : (a b c : Bool) → (a || (b || c)) ≡ ((a || b) || c)
or-assoc true b c = refl
or-assoc false b c = refl

any-append : (xs ys : List outcomes.CommandEnd) → list_any report.was_refused (xs ++ ys) ≡ (list_any report.was_refused xs || list_any report.was_refused ys)
any-append [] ys = refl
any-append (x ∷ xs) ys = ap (λ (b : Bool). report.was_refused x || b) (any-append xs ys) ∙ or-assoc (report.was_refused x) (list_any report.was_refused xs) (list_any report.was_refused ys)

worker_refused : (zones : List Zone) (set : ℕ → ℕ → Version) (cs : List Command) (ds : List CommandEnd) → EachTells zones set cs ds → list_any was_refused ds ≡ list_any report.was_refused (dones_view cs ds)
worker_refused zones set [] [] t = refl
worker_refused zones set [] (d ∷ ds) t = absurd t
worker_refused zones set (x ∷ cs) [] t = absurd t
worker_refused zones set (x ∷ cs) (d ∷ ds) t =
    ap (λ (b : Bool). b || list_any was_refused ds) (one_refused zones set x d t.0) ∙ ap (λ (b : Bool). report.was_refused (done_view x d) || b) (worker_refused zones set cs ds t.1)

pub refused_told : (zones : List Zone) (set : ℕ → ℕ → Version) (ws : List (List Command)) (ds : List CommandEnds) → AllTell zones set ws ds → all_refused ds ≡ report.some_refused (all_dones_view ws ds)
refused_told zones set [] [] t = refl
refused_told zones set [] (d ∷ ds) t = absurd t
refused_told zones set (x ∷ ws) [] t = absurd t
refused_told zones set (x ∷ ws) (d ∷ ds) t =
    ap (λ (b : Bool). b || all_refused ds) (worker_refused zones set x d.list.items t.0)
    ∙ ap (λ (b : Bool). list_any report.was_refused (dones_view x d.list.items) || b) (refused_told zones set ws ds t.1)
    ∙ sym (any-append (dones_view x d.list.items) (all_done (all_dones_view ws ds)))

-- ---- a list for each worker, and an outcome for each command

one_same : (zones : List Zone) (set : ℕ → ℕ → Version) (x : Command) (d : CommandEnd) → Tells zones set x d → command_of (done_view x d) ≡ x
one_same zones set =
    by_kind zones set (λ x d. command_of (done_view x d) ≡ x) (λ name rtype table answer t. refl) (λ zone ran how asked ending o t. refl) (λ zone table refused. refl) (λ zone table refused. refl)

worker_same : (zones : List Zone) (set : ℕ → ℕ → Version) (cs : List Command) (ds : List CommandEnd) → EachTells zones set cs ds → map command_of (dones_view cs ds) ≡ cs
worker_same zones set [] [] t = refl
worker_same zones set [] (d ∷ ds) t = absurd t
worker_same zones set (x ∷ cs) [] t = absurd t
worker_same zones set (x ∷ cs) (d ∷ ds) t = ap (λ (y : Command). y ∷ map command_of (dones_view cs ds)) (one_same zones set x d t.0) ∙ ap (λ (l : List Command). x ∷ l) (worker_same zones set cs ds t.1)

pub workers_same : (zones : List Zone) (set : ℕ → ℕ → Version) (ws : List (List Command)) (ds : List CommandEnds) → AllTell zones set ws ds → map (map command_of) (all_dones_view ws ds) ≡ ws
workers_same zones set [] [] t = refl
workers_same zones set [] (d ∷ ds) t = absurd t
workers_same zones set (x ∷ ws) [] t = absurd t
workers_same zones set (x ∷ ws) (d ∷ ds) t =
    ap (λ (l : List Command). l ∷ map (map command_of) (all_dones_view ws ds)) (worker_same zones set x d.list.items t.0) ∙ ap (λ (l : List (List Command)). x ∷ l) (workers_same zones set ws ds t.1)

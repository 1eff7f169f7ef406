-- A session none of whose lines is refused, and a feed of one worker.
use Rattle.std.proofs.Common.{◌≡◌, ◌∙◌, ℕ, suc, ◌+◌, Bool, true, false, cond, ◌||◌, List, [], ◌∷◌, ◌++◌, length, map, refl, sym, ap, subst, arith, append_assoc}
use Rattle.std.specs.List.{AllByRecursion}
use Rattle.zone_model.specs.Names.{Name}
use Rattle.zone_model.specs.Versions.{Version}
use Rattle.job_model.specs.Commands.{Command, FedJob}
use Rattle.job_model.specs.Outcomes.{Lawful, Pair, WorkerProgress, all_pairs, at_first, is_refused, progress_after, version_at}
use Rattle.job_model.specs.Feeds.{Fed, FedPair, all_numbers, by_worker, fed_commands, fed_report, fed_text, pairs_by, passes_fed, some_fed_refused}
use Rattle.job_model.specs.Reports.{command_text, end_text, head_text}
use Rattle.job_model.specs.Sessions.{Ended, Reply, Ran, RefusedLine, GivenUp, Said, Runs, pairs_in, ready_text, refuses_some, replies_text, said_of}
use Rattle.job_model.proofs.FeedLaws.{IsAmong, fed_among, workers_fed}
use Rattle.session_laws.specs.Feeds.{IsFeedOf}

-- the only worker ran it
abbrev by_one : Pair → FedPair
by_one pair = record { worker = 1; pair = pair }

abbrev fed_of : List Pair → List FedPair
fed_of pairs = map by_one pairs

abbrev commands_of : List Pair → List Command
commands_of pairs = map (λ pair. pair.0) pairs

-- ---- replies to commands alone

record AllRan (replies : List Reply) (commands : List Command) : Type 0 where
  pairs : List Pair
  replies_are : replies ≡ map Ran pairs
  commands_are : commands_of pairs ≡ commands

all_ran : (replies : List Reply) (commands : List Command) → map said_of replies ≡ map Runs commands → AllRan replies commands
all_ran [] [] e = record { pairs = []; replies_are = refl; commands_are = refl }
all_ran [] (command ∷ commands) e = absurd cc
all_ran (reply ∷ replies) [] e = absurd cc
all_ran (Ran pair ∷ replies) (command ∷ commands) e =
    let first : pair.0 ≡ command = cc in
    let others : map said_of replies ≡ map Runs commands = cc in
    let more = all_ran replies commands others in
    record { pairs = pair ∷ more.pairs; replies_are = ap (λ (l : List Reply). Ran pair ∷ l) more.replies_are; commands_are = ap (λ (l : List Command). pair.0 ∷ l) more.commands_are ∙ ap (λ (c : Command). c ∷ commands) first }
all_ran (RefusedLine line kind ∷ replies) (command ∷ commands) e = absurd cc
all_ran (GivenUp ∷ replies) (command ∷ commands) e = absurd cc

said-ran : (pairs : List Pair) → map said_of (map Ran pairs) ≡ map Runs (commands_of pairs)
said-ran [] = refl
said-ran (pair ∷ pairs) = ap (λ (l : List Said). Runs pair.0 ∷ l) (said-ran pairs)

pairs-ran : (pairs : List Pair) → pairs_in (map Ran pairs) ≡ pairs
pairs-ran [] = refl
pairs-ran (pair ∷ pairs) = ap (λ (l : List Pair). pair ∷ l) (pairs-ran pairs)

-- ---- the same of the feed

commands-fed : (pairs : List Pair) → fed_commands (fed_of pairs) ≡ commands_of pairs
commands-fed [] = refl
commands-fed (pair ∷ pairs) = ap (λ (l : List Command). pair.0 ∷ l) (commands-fed pairs)

length-fed : (pairs : List Pair) → length (fed_of pairs) ≡ length (commands_of pairs)
length-fed [] = refl
length-fed (pair ∷ pairs) = ap suc (length-fed pairs)

one-by : (pairs : List Pair) → pairs_by 1 (fed_of pairs) ≡ pairs
one-by [] = refl
one-by (pair ∷ pairs) = ap (λ (l : List Pair). pair ∷ l) (one-by pairs)

one_worker : (pairs : List Pair) → by_worker 1 (fed_of pairs) ≡ pairs ∷ []
one_worker pairs = ap (λ (l : List Pair). l ∷ []) (one-by pairs)

refused-fed : (pairs : List Pair) → refuses_some (map Ran pairs) ≡ some_fed_refused (fed_of pairs)
refused-fed [] = refl
refused-fed (pair ∷ pairs) = first (is_refused pair.1.ended) _ _ (refused-fed pairs)
  where
    first : (b x y : Bool) → x ≡ y → cond b true x ≡ (b || y)
    first true x y e = refl
    first false x y e = e

text-fed : (origin : Name) (set : ℕ → Version) (n : ℕ) (progress : WorkerProgress) (pairs : List Pair) → replies_text origin set n progress (map Ran pairs) ≡ fed_text origin set n (fed_of pairs)
text-fed origin set n progress [] = refl
text-fed origin set n progress (pair ∷ pairs) =
    ap (λ (l : List ℕ). head_text 1 n pair.1.version ++ command_text origin set pair.0 pair.1 ++ l) (text-fed origin set (n + 1) (progress_after progress pair.0 pair.1.version) pairs)

all_among : (pairs : List Pair) → AllByRecursion (IsAmong 1) (fed_of pairs)
all_among [] = tt
all_among (pair ∷ pairs) = ((omega arith, omega arith), all_among pairs)

-- what was run by one of one workers was run by that one
of_one : (fed : List FedPair) → AllByRecursion (IsAmong 1) fed → fed ≡ fed_of (map (λ f. f.pair) fed)
of_one [] among = refl
of_one (f ∷ fed) among =
    let w : f.worker ≡ 1 = omega (arith, among.0.0, among.0.1) in
    ap (λ (l : List FedPair). f ∷ l) (of_one fed among.1) ∙ ap (λ (v : ℕ). (record { worker = v; pair = f.pair }) ∷ fed_of (map (λ g. g.pair) fed)) w

-- ---- both texts

-- the sets of versions are the same
same_set : (origin : Name) (zone : Version) (pairs : List Pair) → version_at origin zone (all_pairs (pairs_in (map Ran pairs) ∷ [])) ≡ version_at origin zone (all_pairs (by_worker 1 (fed_of pairs)))
same_set origin zone pairs = ap (λ (l : List Pair). version_at origin zone (all_pairs (l ∷ []))) (pairs-ran pairs) ∙ ap (λ (ws : List (List Pair)). version_at origin zone (all_pairs ws)) (sym (one_worker pairs))

-- the text of a session's replies, by the versions
abbrev text_by : FedJob → List Pair → ℕ → (ℕ → Version) → List ℕ
text_by job pairs last set = (ready_text (length job.zone) ++ replies_text job.origin set 1 at_first (map Ran pairs)) ++ end_text last (length (set last))

same_text : (job : FedJob) (pairs : List Pair) (last : ℕ) → text_by job pairs last (version_at job.origin job.zone (all_pairs (pairs_in (map Ran pairs) ∷ []))) ≡ ready_text (length job.zone) ++ fed_report job.origin job.zone 1 (fed_of pairs) last
same_text job pairs last =
    let set : ℕ → Version = version_at job.origin job.zone (all_pairs (by_worker 1 (fed_of pairs))) in
    ap (text_by job pairs last) (same_set job.origin job.zone pairs)
    ∙ append_assoc (ready_text (length job.zone)) (replies_text job.origin set 1 at_first (map Ran pairs)) (end_text last (length (set last)))
    ∙ ap (λ (l : List ℕ). ready_text (length job.zone) ++ (l ++ end_text last (length (set last)))) (text-fed job.origin set 1 at_first pairs)

feed_of : (chunks : ℕ) (job : FedJob) (refused : Bool) (pairs : List Pair) (last : ℕ) → commands_of pairs ≡ job.commands → Lawful chunks (passes_fed 1) job.origin job.zone (pairs_in (map Ran pairs) ∷ []) last
    → refused ≡ refuses_some (map Ran pairs) → IsFeedOf 1 chunks job refused (fed_report job.origin job.zone 1 (fed_of pairs) last)
feed_of chunks job refused pairs last same lawful some = record {
  fed = fed_of pairs;
  last = last;
  same = commands-fed pairs ∙ same;
  handed_out = subst (λ (n : ℕ). Fed n (all_numbers 1 (fed_of pairs))) (length-fed pairs ∙ ap (λ (l : List Command). length l) same) (workers_fed 1 (fed_of pairs) (all_among pairs));
  lawful = subst (λ (ws : List (List Pair)). Lawful chunks (passes_fed 1) job.origin job.zone ws last) (ap (λ (l : List Pair). l ∷ []) (pairs-ran pairs) ∙ sym (one_worker pairs)) lawful;
  is = refl;
  some_refused = some ∙ refused-fed pairs;
}

abbrev FeedBehind : ℕ → FedJob → Bool → List ℕ → Type 0
FeedBehind chunks job refused text = (report : List ℕ) × (text ≡ ready_text (length job.zone) ++ report) × IsFeedOf 1 chunks job refused report

ended_ran : (chunks : ℕ) (job : FedJob) (refused : Bool) (text : List ℕ) (replies : List Reply) (pairs : List Pair) (last : ℕ) → replies ≡ map Ran pairs → commands_of pairs ≡ job.commands
    → Lawful chunks (passes_fed 1) job.origin job.zone (pairs_in replies ∷ []) last → refused ≡ refuses_some replies
    → text ≡ (ready_text (length job.zone) ++ replies_text job.origin (version_at job.origin job.zone (all_pairs (pairs_in replies ∷ []))) 1 at_first replies)
    ++ end_text last (length (version_at job.origin job.zone (all_pairs (pairs_in replies ∷ [])) last))
    → FeedBehind chunks job refused text
ended_ran chunks job refused text replies pairs last are same lawful some is =
    let lawful' : Lawful chunks (passes_fed 1) job.origin job.zone (pairs_in (map Ran pairs) ∷ []) last = subst (λ (rs : List Reply). Lawful chunks (passes_fed 1) job.origin job.zone (pairs_in rs ∷ []) last) are lawful in
    let some' : refused ≡ refuses_some (map Ran pairs) = some ∙ ap refuses_some are in
    let is' : text ≡ text_by job pairs last (version_at job.origin job.zone (all_pairs (pairs_in (map Ran pairs) ∷ []))) =
    is ∙ ap (λ (rs : List Reply). (ready_text (length job.zone) ++ replies_text job.origin (version_at job.origin job.zone (all_pairs (pairs_in rs ∷ []))) 1 at_first rs)
    ++ end_text last (length (version_at job.origin job.zone (all_pairs (pairs_in rs ∷ [])) last))) are in
    (fed_report job.origin job.zone 1 (fed_of pairs) last, is' ∙ same_text job pairs last, feed_of chunks job refused pairs last same lawful' some')

pub session_feed : (chunks : ℕ) (job : FedJob) (refused : Bool) (text : List ℕ) → Ended chunks job.origin job.zone (map Runs job.commands) refused text → FeedBehind chunks job refused text
session_feed chunks job refused text h =
    let ran = all_ran h.replies job.commands h.replied.same in
    ended_ran chunks job refused text h.replies ran.pairs h.last ran.replies_are ran.commands_are h.replied.lawful h.some_refused h.is

-- ---- from a feed to a session

fed_session : (chunks : ℕ) (job : FedJob) (refused : Bool) (report : List ℕ) (fed : List FedPair) (pairs : List Pair) (last : ℕ) → fed ≡ fed_of pairs → fed_commands fed ≡ job.commands
    → Lawful chunks (passes_fed 1) job.origin job.zone (by_worker 1 fed) last → report ≡ fed_report job.origin job.zone 1 fed last → refused ≡ some_fed_refused fed
    → Ended chunks job.origin job.zone (map Runs job.commands) refused (ready_text (length job.zone) ++ report)
fed_session chunks job refused report fed pairs last are same lawful is some =
    let lawful' : Lawful chunks (passes_fed 1) job.origin job.zone (by_worker 1 (fed_of pairs)) last = subst (λ (f : List FedPair). Lawful chunks (passes_fed 1) job.origin job.zone (by_worker 1 f) last) are lawful in
    let same' : commands_of pairs ≡ job.commands = sym (commands-fed pairs) ∙ ap fed_commands (sym are) ∙ same in
    record {
      replies = map Ran pairs;
      last = last;
      replied = record {
        same = said-ran pairs ∙ ap (λ (l : List Command). map Runs l) same';
        lawful = subst (λ (ws : List (List Pair)). Lawful chunks (passes_fed 1) job.origin job.zone ws last) (one_worker pairs ∙ ap (λ (l : List Pair). l ∷ []) (sym (pairs-ran pairs))) lawful';
      };
      some_refused = some ∙ ap some_fed_refused are ∙ sym (refused-fed pairs);
      is = ap (λ (l : List ℕ). ready_text (length job.zone) ++ l) (is ∙ ap (λ (f : List FedPair). fed_report job.origin job.zone 1 f last) are) ∙ sym (same_text job pairs last);
    }

length-commands : (fed : List FedPair) → length fed ≡ length (fed_commands fed)
length-commands [] = refl
length-commands (f ∷ fed) = ap suc (length-commands fed)

pub feed_session : (chunks : ℕ) (job : FedJob) (refused : Bool) (report : List ℕ) → IsFeedOf 1 chunks job refused report
    → Ended chunks job.origin job.zone (map Runs job.commands) refused (ready_text (length job.zone) ++ report)
feed_session chunks job refused report h =
    let count : length job.commands ≡ length h.fed = sym (length-commands h.fed ∙ ap (λ (l : List Command). length l) h.same) in
    let among = fed_among 1 h.fed (subst (λ (n : ℕ). Fed n (all_numbers 1 h.fed)) count h.handed_out) in
    fed_session chunks job refused report h.fed (map (λ f. f.pair) h.fed) h.last (of_one h.fed among) h.same h.lawful h.is h.some_refused

-- Where no name is changed by two workers and no block is refused, the last version hangs on the commands alone.
use Rattle.std.proofs.Common.{◌≡◌, ◌∙◌, ℕ, zero, suc, ◌+◌, ◌-◌, ◌<◌, ◌≤◌, leb, Bool, true, false, cond, ◌&&◌, ◌||◌, eqb, List, [], ◌∷◌, ◌++◌, length, map, Ok, refl, sym, ap, subst, arith, eqb-true}
use Rattle.std.specs.Prelude.{IsOk}
use Rattle.std.specs.List.{AllByRecursion, list_any}
use Rattle.std.proofs.lemmas.Bool.Decides.{nat_tests}
use Rattle.std.proofs.lemmas.List.{length-map, map-append}
use Rattle.std.proofs.lemmas.Bool.{and_parts, and_right, or_parts}
use Rattle.zone_model.specs.Names.{Name, IsName, same_name}
use Rattle.zone_model.specs.Records.{Entry, IsItem, item}
use Rattle.zone_model.specs.Versions.{Version, Operation, owned, owner_of, changed}
use Rattle.zone_model.specs.Transactions.{Transaction, no_changes, whole}
use Rattle.dns_name.proofs.BodyLemmas.{all_append}
use Rattle.job_model.specs.declared.Ending.{Ending}
use Rattle.job_model.specs.declared.Ending.TheVariants.{Commit, Rollback}
use Rattle.job_model.specs.Sizes.{node_count}
use Rattle.job_model.specs.Commands.{Command, Job, Ask, Hold, AskHeld, Release, Block, Compact}
use Rattle.job_model.specs.Jobs.{job_of}
use Rattle.job_model.specs.Outcomes.{Ended, Shown, Committed, RolledBack, Refused, Pair, is_committed, is_refused, made, asked_by, asked_at, times_made, version_at, JudgedBy, judged_by, BlockEnds, WorkerProgress, at_first, progress_after, Shows, EndsLawfully, Along, all_pairs, AllAlong, Lawful, passes_for}
use Rattle.job_model.specs.Reports.{head_text, ended_text}
use Rattle.job_model.specs.Summaries.{ended_count, refused_text, all_refused_text, counts_text, sized_end_text, summary}
use Rattle.report_laws.specs.Octets.{AllOctets}
use Rattle.report_laws.specs.Apart.{changes, changed_by, AreApart, AreDone}
use Rattle.report_laws.proofs.LawfulLemmas.{made_to, once_to, made_first, nothing_made, all_made, at_most_one}
use Rattle.report_laws.proofs.OwnedLemmas.{Sorted, AllSome, kept_or, entry_behind, after_owned, same_versions}
use Rattle.report_laws.proofs.VersionLemmas.{versions_dumped}
use Rattle.report_laws.proofs.RunLemmas.{command_in}

-- ---- how commands end that aren't refused

-- it makes a version then
abbrev is_commit : Ending → Bool
is_commit Commit = true
is_commit Rollback = false

abbrev makes : Command → Bool
makes (Ask question) = false
makes Hold = false
makes (AskHeld question) = false
makes Release = false
makes (Block _ asked ending) = is_commit ending
makes Compact = true

-- what is so of each outcome by itself
record IsMade (s : JudgedBy) (pair : Pair) : Type 0 where
  above : is_committed pair.1.ended ≡ true → 0 < pair.1.version
  accepted : is_committed pair.1.ended ≡ true → IsOk (whole s.origin (asked_by pair.0) (s.set (pair.1.version - 1)))
  as_asked : is_refused pair.1.ended ≡ false → is_committed pair.1.ended ≡ makes pair.0

-- and of what its worker has come to
record GoesOn (s : JudgedBy) (progress : WorkerProgress) (command : Command) (v : ℕ) (ended : Ended) : Type 0 where
  later : progress.seen ≤ (progress_after progress command v).seen
  above : is_committed ended ≡ true → progress.seen < v
  there : is_committed ended ≡ true → v ≤ (progress_after progress command v).seen
  accepted : is_committed ended ≡ true → IsOk (whole s.origin (asked_by command) (s.set (v - 1)))
  as_asked : is_refused ended ≡ false → is_committed ended ≡ makes command

question_goes : (s : JudgedBy) (progress : WorkerProgress) (command : Command) (v : ℕ) (May : Type 0) (ended : Ended) → makes command ≡ false → (May → progress.seen ≤ (progress_after progress command v).seen) → Shows May ended → GoesOn s progress command v ended
question_goes s progress command v May Shown quiet le h = record { later = le h; above = λ c. absurd cc; there = λ c. absurd cc; accepted = λ c. absurd cc; as_asked = λ r. sym quiet }
question_goes s progress command v May Committed quiet le h = absurd h
question_goes s progress command v May RolledBack quiet le h = absurd h
question_goes s progress command v May (Refused cause) quiet le h = absurd h

block_goes : (s : JudgedBy) (progress : WorkerProgress) (command : Command) (asked : Transaction) (ending : Ending) (v : ℕ) (ended : Ended) → asked_by command ≡ asked → makes command ≡ is_commit ending → (progress_after progress command v).seen ≡ v → BlockEnds s progress.seen asked ending v ended
    → GoesOn s progress command v ended
block_goes s progress command asked ending v Shown is how there h = absurd h
block_goes s progress command asked ending v Committed is how there h =
    record {
      later = (let l = h.1 in omega (arith, l, there));
      above = λ c. h.1;
      there = λ c. omega (arith, there);
      accepted = λ c. subst (λ (t : Transaction). IsOk (whole s.origin t (s.set (v - 1)))) (sym is) h.2;
      as_asked = λ r. sym (how ∙ ap is_commit h.0);
    }
block_goes s progress command asked ending v RolledBack is how there h =
    record { later = (let l = h.1 in omega (arith, l, there)); above = λ c. absurd cc; there = λ c. absurd cc; accepted = λ c. absurd cc; as_asked = λ r. sym (how ∙ ap is_commit h.0) }
block_goes s progress command asked ending v (Refused cause) is how there h =
    record { later = (let l = h.0 in omega (arith, l, there)); above = λ c. absurd cc; there = λ c. absurd cc; accepted = λ c. absurd cc; as_asked = λ r. absurd cc }

goes : (s : JudgedBy) (progress : WorkerProgress) (command : Command) (v : ℕ) (ended : Ended) → EndsLawfully s progress command v ended → GoesOn s progress command v ended
goes s progress (Ask question) v ended h = question_goes s progress (Ask question) v (progress.seen ≤ v) ended refl (λ l. l) h
goes s progress Hold v ended h = question_goes s progress Hold v (progress.seen ≤ v) ended refl (λ l. l) h
goes s progress (AskHeld question) v ended h = question_goes s progress (AskHeld question) v _ ended refl (λ l. omega arith) h
goes s progress Release v ended h = question_goes s progress Release v _ ended refl (λ l. omega arith) h
goes s progress (Block weight asked ending) v ended h = block_goes s progress (Block weight asked ending) asked ending v ended refl refl refl h
goes s progress Compact v ended h = block_goes s progress Compact no_changes Commit v ended refl refl refl h

along_made : (s : JudgedBy) (progress : WorkerProgress) (pairs : List Pair) → Along s progress pairs → AllByRecursion (IsMade s) pairs
along_made s progress [] a = tt
along_made s progress (pair ∷ rest) a =
    let g = goes s progress pair.0 pair.1.version pair.1.ended a.0 in
    (record { above = λ c. (let l = g.above c in omega (arith, l)); accepted = g.accepted; as_asked = g.as_asked }, along_made s (progress_after progress pair.0 pair.1.version) rest a.1)

all_made_so : (s : JudgedBy) (ws : List (List Pair)) → AllAlong s ws → AllByRecursion (IsMade s) (all_pairs ws)
all_made_so s [] a = tt
all_made_so s (w ∷ ws) a = all_append (IsMade s) w (all_pairs ws) (along_made s at_first w a.0) (all_made_so s ws a.1)

-- ---- which transactions change a name

-- a transaction that was made, and changes the name
abbrev changing : Name → Pair → Bool
changing name pair = is_committed pair.1.ended && changes name pair.0

-- each made a version above those of the ones before it
abbrev Rises : Name → ℕ → List Pair → Type 0
Rises name low [] = Unit {0}
Rises name low (pair ∷ rest) = (changing name pair ≡ true → low < pair.1.version) × Rises name (cond (changing name pair) pair.1.version low) rest

abbrev Quiet : Name → List Pair → Type 0
Quiet name pairs = AllByRecursion (λ (pair : Pair). changes name pair.0 ≡ false) pairs

quiet_from : (name : Name) (pairs : List Pair) → changed_by name (map command_in pairs) ≡ false → Quiet name pairs
quiet_from name [] h = tt
quiet_from name (pair ∷ rest) h = let p = or_parts (changes name pair.0) (changed_by name (map command_in rest)) h in (p.0, quiet_from name rest p.1)

quiet_pair : (name : Name) (pair : Pair) → changes name pair.0 ≡ false → changing name pair ≡ false
quiet_pair name pair h = and_right (is_committed pair.1.ended) (changes name pair.0) h

along_rises : (name : Name) (s : JudgedBy) (progress : WorkerProgress) (low : ℕ) (pairs : List Pair) → low ≤ progress.seen → Along s progress pairs → Rises name low pairs
along_rises name s progress low [] le a = tt
along_rises name s progress low (pair ∷ rest) le a =
    by_test (goes s progress pair.0 pair.1.version pair.1.ended a.0) (λ low below. along_rises name s (progress_after progress pair.0 pair.1.version) low rest below a.1) (changing name pair) refl
  where
    by_test : GoesOn s progress pair.0 pair.1.version pair.1.ended → ((low : ℕ) → low ≤ (progress_after progress pair.0 pair.1.version).seen → Rises name low rest) → (b : Bool) → changing name pair ≡ b → (b ≡ true → low < pair.1.version) × Rises name (cond b pair.1.version low) rest
    by_test g more true e =
        let c = and_parts (is_committed pair.1.ended) (changes name pair.0) e in
        (λ t. (let l = g.above c.0 in omega (arith, l, le)), more pair.1.version (g.there c.0))
    by_test g more false e = (λ t. absurd cc, more low (let l = g.later in omega (arith, l, le)))

quiet_rises : (name : Name) (low : ℕ) (pairs : List Pair) → Quiet name pairs → Rises name low pairs
quiet_rises name low [] q = tt
quiet_rises name low (pair ∷ rest) q = by_test (quiet_rises name low rest q.1) (changing name pair) (quiet_pair name pair q.0)
  where
    by_test : Rises name low rest → (b : Bool) → b ≡ false → (b ≡ true → low < pair.1.version) × Rises name (cond b pair.1.version low) rest
    by_test more true e = absurd cc
    by_test more false e = (λ t. absurd cc, more)

rises_front : (name : Name) (low : ℕ) (pairs rest : List Pair) → Rises name low pairs → Quiet name rest → Rises name low (pairs ++ rest)
rises_front name low [] rest r q = quiet_rises name low rest q
rises_front name low (pair ∷ pairs) rest r q = (r.0, rises_front name (cond (changing name pair) pair.1.version low) pairs rest r.1 q)

rises_back : (name : Name) (low : ℕ) (pairs rest : List Pair) → Quiet name pairs → Rises name low rest → Rises name low (pairs ++ rest)
rises_back name low [] rest q r = r
rises_back name low (pair ∷ pairs) rest q r = by_test (rises_back name low pairs rest q.1 r) (changing name pair) (quiet_pair name pair q.0)
  where
    by_test : Rises name low (pairs ++ rest) → (b : Bool) → b ≡ false → (b ≡ true → low < pair.1.version) × Rises name (cond b pair.1.version low) (pairs ++ rest)
    by_test more true e = absurd cc
    by_test more false e = (λ t. absurd cc, more)

others_quiet : (name : Name) (commands : List Command) (ws : List (List Pair)) → changed_by name commands ≡ true → AllByRecursion (λ other. (n : Name) → changed_by n commands ≡ true → changed_by n other ≡ false) (map (map command_in) ws) → Quiet name (all_pairs ws)
others_quiet name commands [] h apart = tt
others_quiet name commands (w ∷ ws) h apart = all_append (λ (pair : Pair). changes name pair.0 ≡ false) w (all_pairs ws) (quiet_from name w (apart.0 name h)) (others_quiet name commands ws h apart.1)

all_rise : (name : Name) (s : JudgedBy) (ws : List (List Pair)) → AllAlong s ws → AreApart (map (map command_in) ws) → Rises name 0 (all_pairs ws)
all_rise name s [] a apart = tt
all_rise name s (w ∷ ws) a apart = by_test (all_rise name s ws a.1 apart.1) (changed_by name (map command_in w)) refl
  where
    by_test : Rises name 0 (all_pairs ws) → (b : Bool) → changed_by name (map command_in w) ≡ b → Rises name 0 (w ++ all_pairs ws)
    by_test more true e = rises_front name 0 w (all_pairs ws) (along_rises name s at_first 0 w (omega arith) a.0) (others_quiet name (map command_in w) ws e apart.0)
    by_test more false e = rises_back name 0 w (all_pairs ws) (quiet_from name w e) more

-- ---- what a name owns, version by version

module _ (origin name : Name) where
  -- operations on other names leave it
  unchanged : (operations : List Operation) (entry : Entry) → list_any (λ operation. same_name name (owner_of operation)) operations ≡ false → entry_behind origin name operations entry ≡ entry
  unchanged [] entry n = refl
  unchanged (first ∷ rest) entry n =
      let p = or_parts (same_name name (owner_of first)) (list_any (λ operation. same_name name (owner_of operation)) rest) n in
      ap (λ (b : Bool). entry_behind origin name rest (cond b (kept_or entry (changed origin first entry)) entry)) p.0 ∙ unchanged rest entry p.1

  abbrev by_pair : Bool → Pair → Entry → Entry
  by_pair b pair entry = cond b (entry_behind origin name (asked_by pair.0).operations entry) entry

  -- what is made of an entry by the transactions that made versions up to one
  abbrev up_to : ℕ → List Pair → Entry → Entry
  up_to j [] entry = entry
  up_to j (pair ∷ rest) entry = up_to j rest (by_pair (is_committed pair.1.ended && leb pair.1.version j) pair entry)

  quiet_step : (pair : Pair) (b : Bool) (entry : Entry) → changing name pair ≡ false → by_pair (is_committed pair.1.ended && b) pair entry ≡ entry
  quiet_step pair b entry h = by_test (is_committed pair.1.ended) b h
    where
      by_test : (c b : Bool) → (c && changes name pair.0) ≡ false → by_pair (c && b) pair entry ≡ entry
      by_test true true n = unchanged (asked_by pair.0).operations entry n
      by_test true false n = refl
      by_test false b n = refl

  -- versions up to one below all that change it
  up_to_none : (j low : ℕ) (pairs : List Pair) (entry : Entry) → Rises name low pairs → j ≤ low → up_to j pairs entry ≡ entry
  up_to_none j low [] entry r le = refl
  up_to_none j low (pair ∷ rest) entry r le = by_test (λ low. up_to_none j low rest entry) (changing name pair) refl r.0 r.1
    where
      later : (c : Bool) → j < pair.1.version → (c && leb pair.1.version j) ≡ false
      later c lt = (let n : leb pair.1.version j ≡ false = grind (arith, nat_tests) in and_right c (leb pair.1.version j) n)

      by_test : ((low : ℕ) → Rises name low rest → j ≤ low → up_to j rest entry ≡ entry) → (b : Bool) → changing name pair ≡ b → (b ≡ true → low < pair.1.version) → Rises name (cond b pair.1.version low) rest → up_to j (pair ∷ rest) entry ≡ entry
      by_test more true e above r =
          let lt : j < pair.1.version = (let l = above refl in omega (arith, l, le)) in
          ap (λ (b : Bool). up_to j rest (by_pair b pair entry)) (later (is_committed pair.1.ended) lt) ∙ more pair.1.version r (omega (arith, lt))
      by_test more false e above r = ap (up_to j rest) (quiet_step pair (leb pair.1.version j) entry e) ∙ more low r le

  -- where none made a version, it makes no difference
  not_made : (c : Bool) (v j : ℕ) → (c && eqb v (suc j)) ≡ false → (c && leb v (suc j)) ≡ (c && leb v j)
  not_made false v j h = refl
  not_made true v j h = (let f : eqb v (suc j) ≡ false = h in let e : leb v (suc j) ≡ leb v j = by_le f (leb v j) refl in e)
    where
      by_le : eqb v (suc j) ≡ false → (b : Bool) → leb v j ≡ b → leb v (suc j) ≡ b
      by_le f true e = grind (arith, nat_tests)
      by_le f false e = grind (arith, nat_tests)

  up_to_same : (j : ℕ) (pairs : List Pair) (entry : Entry) → times_made (suc j) pairs ≡ 0 → up_to (suc j) pairs entry ≡ up_to j pairs entry
  up_to_same j [] entry none = refl
  up_to_same j (pair ∷ rest) entry none = by_test (λ e. up_to_same j rest e) (made (suc j) pair) refl none
    where
      by_test : ((e : Entry) → times_made (suc j) rest ≡ 0 → up_to (suc j) rest e ≡ up_to j rest e) → (b : Bool) → made (suc j) pair ≡ b → cond b 1 0 + times_made (suc j) rest ≡ 0 → up_to (suc j) (pair ∷ rest) entry ≡ up_to j (pair ∷ rest) entry
      by_test more true e n = absurd (omega (arith, n))
      by_test more false e n =
          ap (λ (b : Bool). up_to (suc j) rest (by_pair b pair entry)) (not_made (is_committed pair.1.ended) pair.1.version j e)
          ∙ more (by_pair (is_committed pair.1.ended && leb pair.1.version j) pair entry) (omega (arith, n))

  -- one version more is what its transaction makes of it
  one_more : (j low : ℕ) (pairs : List Pair) (entry : Entry) → Rises name low pairs → times_made (suc j) pairs ≤ 1 → up_to (suc j) pairs entry ≡ entry_behind origin name (asked_at (suc j) pairs).operations (up_to j pairs entry)
  one_more j low [] entry r few = refl
  one_more j low (pair ∷ rest) entry r few = by_made (λ low e. one_more j low rest e) (made (suc j) pair) refl few
    where
      operations : List Operation
      operations = (asked_by pair.0).operations

      -- its own version
      reached : (c : Bool) (v : ℕ) → c ≡ true → v ≡ suc j → (c && leb v (suc j)) ≡ true
      reached c v is at = (let l : leb v (suc j) ≡ true = grind (arith, nat_tests) in ap (λ (b : Bool). b && leb v (suc j)) is ∙ l)

      before : (c : Bool) (v : ℕ) → v ≡ suc j → (c && leb v j) ≡ false
      before c v at = (let l : leb v j ≡ false = grind (arith, nat_tests) in and_right c (leb v j) l)

      by_change : times_made (suc j) rest ≡ 0 → is_committed pair.1.ended ≡ true → pair.1.version ≡ suc j → (b : Bool) → changing name pair ≡ b → Rises name (cond b pair.1.version low) rest
          → up_to (suc j) rest (entry_behind origin name (asked_by pair.0).operations entry) ≡ entry_behind origin name (asked_by pair.0).operations (up_to j rest entry)
      by_change none c at true e r =
          up_to_none (suc j) pair.1.version rest (entry_behind origin name (asked_by pair.0).operations entry) r (omega (arith, at))
          ∙ ap (entry_behind origin name (asked_by pair.0).operations) (sym (up_to_none j pair.1.version rest entry r (omega (arith, at))))
      by_change none c at false e r =
          let quiet : changes name pair.0 ≡ false = sym (ap (λ (b : Bool). b && changes name pair.0) c) ∙ e in
          ap (up_to (suc j) rest) (unchanged (asked_by pair.0).operations entry quiet) ∙ up_to_same j rest entry none ∙ sym (unchanged (asked_by pair.0).operations (up_to j rest entry) quiet)

      by_made : ((low : ℕ) (e : Entry) → Rises name low rest → times_made (suc j) rest ≤ 1 → up_to (suc j) rest e ≡ entry_behind origin name (asked_at (suc j) rest).operations (up_to j rest e)) → (b : Bool) → made (suc j) pair ≡ b → cond b 1 0 + times_made (suc j) rest ≤ 1
          → up_to (suc j) (pair ∷ rest) entry ≡ entry_behind origin name (cond b (asked_by pair.0) (asked_at (suc j) rest)).operations (up_to j (pair ∷ rest) entry)
      by_made more true e few =
          let both = and_parts (is_committed pair.1.ended) (eqb pair.1.version (suc j)) e in
          let at : pair.1.version ≡ suc j = eqb-true pair.1.version (suc j) both.1 in
          let none : times_made (suc j) rest ≡ 0 = omega (arith, few) in
          ap (λ (b : Bool). up_to (suc j) rest (by_pair b pair entry)) (reached (is_committed pair.1.ended) pair.1.version both.0 at)
          ∙ by_change none both.0 at (changing name pair) refl r.1
          ∙ ap (λ (b : Bool). entry_behind origin name (asked_by pair.0).operations (up_to j rest (by_pair b pair entry))) (sym (before (is_committed pair.1.ended) pair.1.version at))
      by_made more false e few =
          ap (λ (b : Bool). up_to (suc j) rest (by_pair b pair entry)) (not_made (is_committed pair.1.ended) pair.1.version j e)
          ∙ more (cond (changing name pair) pair.1.version low) (by_pair (is_committed pair.1.ended && leb pair.1.version j) pair entry) r.1 (omega (arith, few))

  -- all of them, by the commands alone
  abbrev by_commands : List Command → Entry → Entry
  by_commands [] entry = entry
  by_commands (command ∷ rest) entry = by_commands rest (cond (makes command) (entry_behind origin name (asked_by command).operations entry) entry)

  up_to_all : (last : ℕ) (pairs : List Pair) (entry : Entry) → AllByRecursion (λ (pair : Pair). pair.1.version ≤ last) pairs → AllByRecursion (λ (pair : Pair). is_committed pair.1.ended ≡ makes pair.0) pairs → up_to last pairs entry ≡ by_commands (map command_in pairs) entry
  up_to_all last [] entry low kinds = refl
  up_to_all last (pair ∷ rest) entry low kinds =
      let l = low.0 in
      let within : leb pair.1.version last ≡ true = grind (arith, nat_tests) in
      let same : (is_committed pair.1.ended && leb pair.1.version last) ≡ makes pair.0 = ap (λ (b : Bool). is_committed pair.1.ended && b) within ∙ and-true (is_committed pair.1.ended) ∙ kinds.0 in
      ap (λ (b : Bool). up_to last rest (by_pair b pair entry)) same ∙ up_to_all last rest (by_pair (makes pair.0) pair entry) low.1 kinds.1
    where
      and-true : (a : Bool) → (a && true) ≡ a
      and-true true = refl
      and-true false = refl

-- ---- the versions of lawful outcomes

asked_ok : (s : JudgedBy) (j : ℕ) (pairs : List Pair) → AllByRecursion (IsMade s) pairs → IsOk (whole s.origin (asked_at (suc j) pairs) (s.set j))
asked_ok s j [] h = refl
asked_ok s j (pair ∷ rest) h = by_made (asked_ok s j rest h.1) (made (suc j) pair) refl
  where
    by_made : IsOk (whole s.origin (asked_at (suc j) rest) (s.set j)) → (b : Bool) → made (suc j) pair ≡ b → IsOk (whole s.origin (cond b (asked_by pair.0) (asked_at (suc j) rest)) (s.set j))
    by_made more true e =
        let both = and_parts (is_committed pair.1.ended) (eqb pair.1.version (suc j)) e in
        let at : pair.1.version ≡ suc j = eqb-true pair.1.version (suc j) both.1 in
        let base : pair.1.version - 1 ≡ j = omega (arith, at) in
        subst (λ (k : ℕ). IsOk (whole s.origin (asked_by pair.0) (s.set k))) base (h.0.accepted both.0)
    by_made more false e = more

record IsUpTo (origin name : Name) (zone : Version) (pairs : List Pair) (j : ℕ) : Type 0 where
  owns : owned name (version_at origin zone pairs j) ≡ up_to origin name j pairs (owned name zone)
  sorted : Sorted (version_at origin zone pairs j)

module _ (chunks passes : ℕ) (origin : Name) (zone : Version) (ws : List (List Pair)) (last : ℕ) (lawful : Lawful chunks passes origin zone ws last) (apart : AreApart (map (map command_in) ws)) where
  judged : JudgedBy
  judged = judged_by chunks passes origin zone ws

  each : AllByRecursion (IsMade (judged_by chunks passes origin zone ws)) (all_pairs ws)
  each = all_made_so (judged_by chunks passes origin zone ws) ws lawful.along

  reached : (name : Name) → Sorted zone → (j : ℕ) → j ≤ last → IsUpTo origin name zone (all_pairs ws) j
  reached name h zero le = record { owns = sym (up_to_none origin name 0 0 (all_pairs ws) (owned name zone) (all_rise name (judged_by chunks passes origin zone ws) ws lawful.along apart) (omega arith)); sorted = h }
  reached name h (suc j) le =
      let i = reached name h j (omega (arith, le)) in
      let once = lawful.once (suc j) (omega arith) le in
      let a = after_owned origin name (asked_at (suc j) (all_pairs ws)) (version_at origin zone (all_pairs ws) j) i.sorted (asked_ok (judged_by chunks passes origin zone ws) j (all_pairs ws) each) in
      record {
        owns = a.owns ∙ ap (entry_behind origin name (asked_at (suc j) (all_pairs ws)).operations) i.owns
            ∙ sym (one_more origin name j 0 (all_pairs ws) (owned name zone) (all_rise name (judged_by chunks passes origin zone ws) ws lawful.along apart) (omega (arith, once)));
        sorted = a.sorted;
      }

  all_as : (pairs : List Pair) → AllByRecursion (IsMade (judged_by chunks passes origin zone ws)) pairs → list_any (λ (pair : Pair). is_refused pair.1.ended) pairs ≡ false → AllByRecursion (λ (pair : Pair). is_committed pair.1.ended ≡ makes pair.0) pairs
  all_as [] h none = tt
  all_as (pair ∷ rest) h none = let n = or_parts (is_refused pair.1.ended) (list_any (λ (pair : Pair). is_refused pair.1.ended) rest) none in (h.0.as_asked n.0, all_as rest h.1 n.1)

  -- what a name owns in the end
  pub owned_last : (name : Name) → Sorted zone → list_any (λ (pair : Pair). is_refused pair.1.ended) (all_pairs ws) ≡ false → owned name (version_at origin zone (all_pairs ws) last) ≡ by_commands origin name (map command_in (all_pairs ws)) (owned name zone)
  owned_last name h none = (reached name h last (omega arith)).owns ∙ up_to_all origin name last (all_pairs ws) (owned name zone) lawful.none_above (all_as (all_pairs ws) each none)

-- ---- how many versions there are

-- a command that made no version
never_once : (n : ℕ) (pair : Pair) → is_committed pair.1.ended ≡ false → once_to n pair ≡ 0
unfolding once_to
never_once zero pair is = refl
never_once (suc n) pair is =
    let none = never_once n pair is in
    let sum : 0 + once_to n pair ≡ 0 = omega (arith, none) in
    ap (λ (c : Bool). cond (c && eqb pair.1.version (suc n)) 1 0 + once_to n pair) is ∙ sum

once_full : (last : ℕ) (pair : Pair) → pair.1.version ≤ last → (is_committed pair.1.ended ≡ true → 0 < pair.1.version) → once_to last pair ≡ cond (is_committed pair.1.ended) 1 0
unfolding once_to
once_full zero pair le above = by_test (is_committed pair.1.ended) above
  where
    by_test : (c : Bool) → (c ≡ true → 0 < pair.1.version) → ◌≡◌ {A = ℕ} 0 (cond c 1 0)
    by_test true f = absurd (let l = f refl in omega (arith, l, le))
    by_test false f = refl
once_full (suc n) pair le above = by_made (once_full n pair) (made (suc n) pair) refl
  where
    by_made : (pair.1.version ≤ n → (is_committed pair.1.ended ≡ true → 0 < pair.1.version) → once_to n pair ≡ cond (is_committed pair.1.ended) 1 0) → (b : Bool) → made (suc n) pair ≡ b → cond b 1 0 + once_to n pair ≡ cond (is_committed pair.1.ended) 1 0
    by_made more true e =
        let both = and_parts (is_committed pair.1.ended) (eqb pair.1.version (suc n)) e in
        let at : pair.1.version ≡ suc n = eqb-true pair.1.version (suc n) both.1 in
        let none : once_to n pair ≡ 0 = (at_most_one n pair).none (omega (arith, at)) in
        let sum : 1 + once_to n pair ≡ 1 = omega (arith, none) in
        sum ∙ ap (λ (c : Bool). cond c 1 0) (sym both.0)
    by_made more false e = by_committed (is_committed pair.1.ended) refl e
      where
        by_committed : (c : Bool) → is_committed pair.1.ended ≡ c → (c && eqb pair.1.version (suc n)) ≡ false → 0 + once_to n pair ≡ cond (is_committed pair.1.ended) 1 0
        by_committed true is n_made =
            let f : eqb pair.1.version (suc n) ≡ false = n_made in
            let lt : pair.1.version ≤ n = grind (arith, nat_tests) in
            let is_one = more lt above in
            omega (arith, is_one)
        by_committed false is n_made = (let none = never_once n pair is in let zero_is : 0 + once_to n pair ≡ 0 = omega (arith, none) in zero_is ∙ sym (ap (λ (c : Bool). cond c 1 0) is))

counted : (s : JudgedBy) (last : ℕ) (pairs : List Pair) → AllByRecursion (IsMade s) pairs → AllByRecursion (λ (pair : Pair). pair.1.version ≤ last) pairs → made_to last pairs ≡ ended_count is_committed pairs
counted s last [] h low = nothing_made last
counted s last (pair ∷ rest) h low =
    let first = made_first last pair rest in
    let one = once_full last pair low.0 h.0.above in
    let more = counted s last rest h.1 low.1 in
    first ∙ ap (λ (n : ℕ). n + made_to last rest) one ∙ ap (λ (n : ℕ). cond (is_committed pair.1.ended) 1 0 + n) more

-- ---- one summary

abbrev all_in : List (List Command) → List Command
all_in [] = []
all_in (commands ∷ others) = commands ++ all_in others

commands_are : (ws : List (List Pair)) → map command_in (all_pairs ws) ≡ all_in (map (map command_in) ws)
commands_are [] = refl
commands_are (w ∷ ws) = map-append command_in w (all_pairs ws) ∙ ap (λ (cs : List Command). map command_in w ++ cs) (commands_are ws)

-- how many of them make a version
abbrev made_by : List Command → ℕ
made_by [] = 0
made_by (command ∷ rest) = cond (makes command) 1 0 + made_by rest

count_by : (pairs : List Pair) → AllByRecursion (λ (pair : Pair). is_committed pair.1.ended ≡ makes pair.0) pairs → ended_count is_committed pairs ≡ made_by (map command_in pairs)
count_by [] kinds = refl
count_by (pair ∷ rest) kinds = ap (λ (b : Bool). cond b 1 0 + ended_count is_committed rest) kinds.0 ∙ ap (λ (n : ℕ). cond (makes pair.0) 1 0 + n) (count_by rest kinds.1)

none_counted : (pairs : List Pair) → list_any (λ (pair : Pair). is_refused pair.1.ended) pairs ≡ false → ended_count is_refused pairs ≡ 0
none_counted [] none = refl
none_counted (pair ∷ rest) none =
    let n = or_parts (is_refused pair.1.ended) (list_any (λ (pair : Pair). is_refused pair.1.ended) rest) none in
    let more = none_counted rest n.1 in
    let sum : 0 + ended_count is_refused rest ≡ 0 = omega (arith, more) in
    ap (λ (b : Bool). cond b 1 0 + ended_count is_refused rest) n.0 ∙ sum

none_told : (w c : ℕ) (pairs : List Pair) → list_any (λ (pair : Pair). is_refused pair.1.ended) pairs ≡ false → refused_text w c pairs ≡ []
none_told w c [] none = refl
none_told w c (pair ∷ rest) none =
    let n = or_parts (is_refused pair.1.ended) (list_any (λ (pair : Pair). is_refused pair.1.ended) rest) none in
    ap (λ (b : Bool). cond b (head_text w c pair.1.version ++ ended_text pair.1.ended) [] ++ refused_text w (c + 1) rest) n.0 ∙ none_told w (c + 1) rest n.1

any_parts : (xs ys : List Pair) → list_any (λ (pair : Pair). is_refused pair.1.ended) (xs ++ ys) ≡ false → (list_any (λ (pair : Pair). is_refused pair.1.ended) xs ≡ false) × (list_any (λ (pair : Pair). is_refused pair.1.ended) ys ≡ false)
any_parts [] ys none = (refl, none)
any_parts (pair ∷ xs) ys none =
    let n = or_parts (is_refused pair.1.ended) (list_any (λ (pair : Pair). is_refused pair.1.ended) (xs ++ ys)) none in
    let more = any_parts xs ys n.1 in
    (ap (λ (b : Bool). b || list_any (λ (pair : Pair). is_refused pair.1.ended) xs) n.0 ∙ more.0, more.1)

all_none_told : (w : ℕ) (ws : List (List Pair)) → list_any (λ (pair : Pair). is_refused pair.1.ended) (all_pairs ws) ≡ false → all_refused_text w ws ≡ []
all_none_told w [] none = refl
all_none_told w (pairs ∷ ws) none =
    let n = any_parts pairs (all_pairs ws) none in
    ap (λ (t : List ℕ). t ++ all_refused_text (w + 1) ws) (none_told w 1 pairs n.0) ∙ all_none_told (w + 1) ws n.1

-- what is told of a last version, and of the commands that led to it
abbrev told : List Command → Version → List ℕ
told commands version = counts_text (length commands) (made_by commands) 0 ++ [] ++ sized_end_text (made_by commands) (length version) (node_count version)

some_owned : (version : Version) → AllByRecursion (λ (pair : Name × Entry). IsItem (item pair.0 pair.1) pair.0 pair.1) version → AllSome version
some_owned [] items = tt
some_owned (pair ∷ rest) items = (items.0.some, some_owned rest items.1)

module _ (job : Job) (chunks : ℕ) (ws : List (List Pair)) (last : ℕ) (done : AreDone chunks job ws last) (apart : AreApart job.workers) where
  abbrev final : Version
  final = version_at job.origin job.zone (all_pairs ws) last

  here : AreApart (map (map command_in) ws)
  here = subst AreApart (sym done.same) apart

  named : map command_in (all_pairs ws) ≡ all_in job.workers
  named = commands_are ws ∙ ap all_in done.same

  made_each : AllByRecursion (IsMade (judged_by chunks (passes_for (length job.workers)) job.origin job.zone ws)) (all_pairs ws)
  made_each = each chunks (passes_for (length job.workers)) job.origin job.zone ws last done.lawful here

  count_is : ended_count is_committed (all_pairs ws) ≡ made_by (all_in job.workers)
  count_is = count_by (all_pairs ws) (all_as chunks (passes_for (length job.workers)) job.origin job.zone ws last done.lawful here (all_pairs ws) made_each done.none_refused) ∙ ap made_by named

  last_is : last ≡ made_by (all_in job.workers)
  last_is = sym (all_made last (all_pairs ws) done.lawful.once) ∙ counted (judged_by chunks (passes_for (length job.workers)) job.origin job.zone ws) last (all_pairs ws) made_each done.lawful.none_above ∙ count_is

  owned_is : (name : Name) → Sorted job.zone → owned name (version_at job.origin job.zone (all_pairs ws) last) ≡ by_commands job.origin name (all_in job.workers) (owned name job.zone)
  owned_is name h = owned_last chunks (passes_for (length job.workers)) job.origin job.zone ws last done.lawful here name h done.none_refused ∙ ap (λ (cs : List Command). by_commands job.origin name cs (owned name job.zone)) named

  told_is : summary job.origin job.zone ws last ≡ told (all_in job.workers) (version_at job.origin job.zone (all_pairs ws) last)
  told_is =
      let v : Version = version_at job.origin job.zone (all_pairs ws) last in
      let long : length (all_pairs ws) ≡ length (all_in job.workers) = sym (length-map (all_pairs ws) command_in) ∙ ap (λ (cs : List Command). length cs) named in
      ap (λ (k : ℕ). counts_text k (ended_count is_committed (all_pairs ws)) (ended_count is_refused (all_pairs ws)) ++ all_refused_text 1 ws ++ sized_end_text last (length v) (node_count v)) long
      ∙ ap (λ (k : ℕ). counts_text (length (all_in job.workers)) k (ended_count is_refused (all_pairs ws)) ++ all_refused_text 1 ws ++ sized_end_text last (length v) (node_count v)) count_is
      ∙ ap (λ (k : ℕ). counts_text (length (all_in job.workers)) (made_by (all_in job.workers)) k ++ all_refused_text 1 ws ++ sized_end_text last (length v) (node_count v)) (none_counted (all_pairs ws) done.none_refused)
      ∙ ap (λ (t : List ℕ). counts_text (length (all_in job.workers)) (made_by (all_in job.workers)) 0 ++ t ++ sized_end_text last (length v) (node_count v)) (all_none_told 1 ws done.none_refused)
      ∙ ap (λ (k : ℕ). counts_text (length (all_in job.workers)) (made_by (all_in job.workers)) 0 ++ [] ++ sized_end_text k (length v) (node_count v)) last_is

pub one_summary : (origin : Name) (bytes : List ℕ) (job : Job) → IsName origin → AllOctets bytes → job_of origin bytes ≡ Ok job → AreApart job.workers → (chunks : ℕ) (a b : List (List Pair)) (m n : ℕ) → AreDone chunks job a m → AreDone chunks job b n
    → summary job.origin job.zone a m ≡ summary job.origin job.zone b n
one_summary origin bytes job name small e apart chunks a b m n da db =
    let zone = (versions_dumped origin bytes job name small e a da.same 0).0 in
    let u = (versions_dumped origin bytes job name small e a da.same m).0 in
    let v = (versions_dumped origin bytes job name small e b db.same n).0 in
    let same = same_versions (version_at job.origin job.zone (all_pairs a) m) (version_at job.origin job.zone (all_pairs b) n) u.rising v.rising (some_owned (version_at job.origin job.zone (all_pairs a) m) u.items) (some_owned (version_at job.origin job.zone (all_pairs b) n) v.items)
    (λ (x : Name). owned_is job chunks a m da apart x zone.rising ∙ sym (owned_is job chunks b n db apart x zone.rising)) in
    told_is job chunks a m da apart ∙ ap (told (all_in job.workers)) same ∙ sym (told_is job chunks b n db apart)

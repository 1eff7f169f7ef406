-- One list of commands finds room in as many chunks as it needs.
use Rattle.std.proofs.Common.{◌≡◌, ◌∙◌, inl, inr, ℕ, zero, suc, ◌+◌, ◌<◌, ◌≤◌, Bool, true, false, cond, eqb, eq-eqb, List, [], ◌∷◌, ◌++◌, length, map, refl, sym, ap, subst, arith}
use Rattle.std.proofs.lemmas.Bool.{cases_eq}
use Rattle.std.proofs.lemmas.List.{length-map}
use Rattle.std.specs.List.{AllByRecursion, range_with_len}
use Rattle.job_model.specs.Commands.{Command, FedJob}
use Rattle.job_model.specs.Sizes.{cell_count}
use Rattle.job_model.specs.Needs.{cells_of_operations, cells_of_commands, cells_of_workers, longest}
use Rattle.job_model.specs.Outcomes.{Pair, asked_by, asked_at, made, all_pairs, judged_by, version_at, Lawful}
use Rattle.job_model.specs.Feeds.{Fed, FedPair, fed_commands, all_numbers, by_worker, pairs_by, passes_fed}
use Rattle.job_model.proofs.FeedLaws.{IsAmong, fed_among}
use Rattle.report_laws.specs.Changes.{AllAsked}
use Rattle.report_laws.specs.Versions.{AreFedOutcomesOf}
use Rattle.report_laws.proofs.ListLemmas.{all_append}
use Rattle.need_laws.specs.Bounds.{AllFedFindRoom, IsSaidList, IsSizedList, FindsRoom}
use Rattle.need_laws.proofs.RunLaws.{IsShort, cells_together, commands_few}
use Rattle.need_laws.proofs.RoomLaws.{all_room}

-- ---- what is so of all commands is so of those that some workers ran

abbrev AllFed : (Pair → Type 0) → List FedPair → Type 0
AllFed P fed = AllByRecursion (λ (f : FedPair). P f.pair) fed

mine : (P : Pair → Type 0) (w : ℕ) (fed : List FedPair) → AllFed P fed → AllByRecursion P (pairs_by w fed)
mine P w [] h = tt
mine P w (f ∷ fed) h = by_test (eqb f.worker w) (mine P w fed h.1)
  where
    by_test : (b : Bool) → AllByRecursion P (pairs_by w fed) → AllByRecursion P (cond b (f.pair ∷ pairs_by w fed) (pairs_by w fed))
    by_test true rest = (h.0, rest)
    by_test false rest = rest

all_mine : (P : Pair → Type 0) (fed : List FedPair) → AllFed P fed → (workers : List ℕ) → AllByRecursion P (all_pairs (map (λ w. pairs_by w fed) workers))
all_mine P fed h [] = tt
all_mine P fed h (w ∷ workers) = all_append P (pairs_by w fed) (all_pairs (map (λ v. pairs_by v fed) workers)) (mine P w fed h) (all_mine P fed h workers)

-- and the other way round, where each was run by one of them

mine_of : (P : Pair → Type 0) (w first many : ℕ) (fed : List FedPair) → first ≤ w → w < first + many → AllByRecursion P (all_pairs (map (λ v. pairs_by v fed) (range_with_len first many))) → AllByRecursion P (pairs_by w fed)
mine_of P w first zero fed above below h = absurd (omega arith)
mine_of P w first (suc many) fed above below h =
    let parts = both_of P (pairs_by first fed) (all_pairs (map (λ v. pairs_by v fed) (range_with_len (first + 1) many))) h in
    elim (cases_eq first w) [
      | inl same ↦ subst (λ (v : ℕ). AllByRecursion P (pairs_by v fed)) same parts.0
      | inr other ↦ mine_of P w (first + 1) many fed (omega (arith, other)) (omega arith) parts.1
    ]
  where
    both_of : (P : Pair → Type 0) (xs ys : List Pair) → AllByRecursion P (xs ++ ys) → AllByRecursion P xs × AllByRecursion P ys
    both_of P [] ys all = (tt, all)
    both_of P (x ∷ xs) ys all = let parts = both_of P xs ys all.1 in ((all.0, parts.0), parts.1)

all_of_mine : (P : Pair → Type 0) (workers : ℕ) (fed : List FedPair) → AllByRecursion (IsAmong workers) fed → ((w : ℕ) → 0 < w → w ≤ workers → AllByRecursion P (pairs_by w fed)) → AllFed P fed
all_of_mine P workers [] among h = tt
all_of_mine P workers (f ∷ fed) among h = (
  first (eqb f.worker f.worker) (eq-eqb f.worker f.worker refl) (h f.worker among.0.0 among.0.1),
  all_of_mine P workers fed among.1 (λ w some few. rest (eqb f.worker w) w (h w some few)),
)
  where
    first : (b : Bool) → b ≡ true → AllByRecursion P (cond b (f.pair ∷ pairs_by f.worker fed) (pairs_by f.worker fed)) → P f.pair
    first true is all = all.0
    first false is all = absurd cc

    rest : (b : Bool) (w : ℕ) → AllByRecursion P (cond b (f.pair ∷ pairs_by w fed) (pairs_by w fed)) → AllByRecursion P (pairs_by w fed)
    rest true w all = all.1
    rest false w all = all

-- ---- what they are reckoned at

abbrev cells_by : ℕ → ℕ → List FedPair → ℕ
cells_by first many fed = cells_of_workers (map (map (λ (pair : Pair). pair.0)) (map (λ w. pairs_by w fed) (range_with_len first many)))

abbrev cost : FedPair → ℕ
cost f = cells_of_operations (asked_by f.pair.0).operations

-- of no worker before the first
not_theirs : (f : FedPair) (first many : ℕ) (fed : List FedPair) → f.worker < first → cells_by first many (f ∷ fed) ≡ cells_by first many fed
not_theirs f first zero fed below = refl
not_theirs f first (suc many) fed below =
    let no : eqb f.worker first ≡ false = other f.worker first (omega arith) in
    let rest = not_theirs f (first + 1) many fed (omega arith) in
    let here = ap (λ (b : Bool). cells_of_commands (map (λ (pair : Pair). pair.0) (cond b (f.pair ∷ pairs_by first fed) (pairs_by first fed)))) no in
    omega (arith, here, rest)
  where
    other : (v w : ℕ) → (v ≡ w → ⊥) → eqb v w ≡ false
    other v w differs = grind arith

one_more : (f : FedPair) (first many : ℕ) (fed : List FedPair) → cells_by first many (f ∷ fed) ≤ cost f + cells_by first many fed
one_more f first zero fed = omega arith
one_more f first (suc many) fed = elim (cases_eq f.worker first) [
  | inl same ↦
      let yes : eqb f.worker first ≡ true = eq-eqb f.worker first same in
      let rest = not_theirs f (first + 1) many fed (omega arith) in
      let here = ap (λ (b : Bool). cells_of_commands (map (λ (pair : Pair). pair.0) (cond b (f.pair ∷ pairs_by first fed) (pairs_by first fed)))) yes in
      omega (arith, here, rest)
  | inr other ↦
      let no : eqb f.worker first ≡ false = grind arith in
      let rest = one_more f (first + 1) many fed in
      let here = ap (λ (b : Bool). cells_of_commands (map (λ (pair : Pair). pair.0) (cond b (f.pair ∷ pairs_by first fed) (pairs_by first fed)))) no in
      omega (arith, here, rest)
]

none_by : (first many : ℕ) → cells_by first many [] ≡ 0
none_by first zero = refl
none_by first (suc many) = let rest = none_by (first + 1) many in omega (arith, rest)

few_by : (first many : ℕ) (fed : List FedPair) → cells_by first many fed ≤ cells_of_commands (fed_commands fed)
few_by first many [] = let none = none_by first many in omega (arith, none)
few_by first many (f ∷ fed) =
    let one = one_more f first many fed in
    let rest = few_by first many fed in
    omega (arith, one, rest)

-- ---- operations

short_commands : (commands : List Command) (most : ℕ) → longest commands ≤ most → AllByRecursion (λ (c : Command). length (asked_by c).operations ≤ most) commands
short_commands [] most le = tt
short_commands (c ∷ commands) most le = (omega arith, short_commands commands most (omega arith))

fed_of : (P : Command → Type 0) (fed : List FedPair) → AllByRecursion P (fed_commands fed) → AllFed (λ (pair : Pair). P pair.0) fed
fed_of P [] h = tt
fed_of P (f ∷ fed) h = (h.0, fed_of P fed h.1)

made_short : (v most : ℕ) (pairs : List Pair) → AllByRecursion (IsShort most) pairs → length (asked_at v pairs).operations ≤ most
made_short v most [] h = omega arith
made_short v most (pair ∷ pairs) h = by_test (made v pair) (made_short v most pairs h.1)
  where
    by_test : (b : Bool) → length (asked_at v pairs).operations ≤ most → length (cond b (asked_by pair.0) (asked_at v pairs)).operations ≤ most
    by_test true rest = h.0
    by_test false rest = rest

-- ---- all of it

module _ (job : FedJob) (said : IsSaidList job) (fed : List FedPair) (same : AreFedOutcomesOf job fed) (workers : ℕ) where
  short : AllByRecursion (IsShort (longest job.commands)) (all_pairs (by_worker workers fed))
  short =
      all_mine (IsShort (longest job.commands)) fed
      (fed_of (λ (c : Command). length (asked_by c).operations ≤ longest job.commands) fed (subst (AllByRecursion (λ (c : Command). length (asked_by c).operations ≤ longest job.commands)) (sym same) (short_commands job.commands (longest job.commands) (omega arith))))
      (range_with_len 1 workers)

  few : (v : ℕ) → cell_count (version_at job.origin job.zone (all_pairs (by_worker workers fed)) v) ≤ cell_count job.zone + cells_of_commands job.commands
  few v =
      let asked = all_mine (λ (pair : Pair). AllAsked job.origin pair.0) fed (fed_of (AllAsked job.origin) fed (subst (AllByRecursion (AllAsked job.origin)) (sym same) said.commands)) (range_with_len 1 workers) in
      let cells = (commands_few job.origin job.zone (all_pairs (by_worker workers fed)) said.zone asked).versions v in
      let together = cells_together (by_worker workers fed) in
      let fewer = few_by 1 workers fed in
      let all = ap cells_of_commands same in
      omega (arith, cells, together, fewer, all)

  pub list_room : (chunks last : ℕ) → IsSizedList job workers chunks → Fed (length job.commands) (all_numbers workers fed)
      → Lawful chunks (passes_fed workers) job.origin job.zone (by_worker workers fed) last → AllFedFindRoom fed
  list_room chunks last sized handed lawful =
      let long : length job.commands ≡ length fed = sym (ap (λ (l : List Command). length l) same) ∙ length-map fed (λ (f : FedPair). f.pair.0) in
      let among = fed_among workers fed (subst (λ (n : ℕ). Fed n (all_numbers workers fed)) long handed) in
      let room = all_room (judged_by chunks (passes_fed workers) job.origin job.zone (by_worker workers fed)) (cell_count job.zone + cells_of_commands job.commands) (longest job.commands)
      sized few
      (λ v. made_short v (longest job.commands) (all_pairs (by_worker workers fed)) short) (by_worker workers fed) short lawful.along in
      all_of_mine (λ (pair : Pair). FindsRoom pair.1.ended) workers fed among (λ w some within. mine_of (λ (pair : Pair). FindsRoom pair.1.ended) w 1 workers fed some (omega (arith, within)) room)

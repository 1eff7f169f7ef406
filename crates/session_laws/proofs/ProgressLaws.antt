-- What one worker sees along its commands: nothing older than before, and nothing that isn't made yet.
use Rattle.std.proofs.Common.{◌≡◌, ◌∙◌, ◌⊎◌, inl, inr, ⊎_elim, ℕ, ◌+◌, ◌<◌, ◌≤◌, Bool, true, false, cond, eqb, List, [], ◌∷◌, ◌++◌, Option, Some, None, refl, sym, ap, subst, arith, eqb-true, Contains, append_assoc}
use Rattle.std.specs.List.{AllByRecursion}
use Rattle.std.proofs.lemmas.List.Elements.{Contains-append_cases, Contains-append_left, Contains-append_right, Contains-push, Contains-push_cases}
use Rattle.std.proofs.lemmas.Bool.{and_parts}
use Rattle.zone_model.specs.Transactions.{Transaction, no_changes}
use Rattle.job_model.specs.declared.Ending.{Ending}
use Rattle.job_model.specs.declared.Ending.TheVariants.{Commit}
use Rattle.job_model.specs.Commands.{Command, Ask, Hold, AskHeld, Release, Block, Compact}
use Rattle.job_model.specs.Outcomes.{Along, BlockEnds, Ended, Shown, Committed, RolledBack, Refused, EndsLawfully, Pair, JudgedBy, Shows, WorkerProgress, is_committed, made, shown_by, shown_in, progress_after, times_made}

-- where these commands lead
abbrev pub end_progress : WorkerProgress → List Pair → WorkerProgress
end_progress progress [] = progress
end_progress progress (pair ∷ pairs) = end_progress (progress_after progress pair.0 pair.1.version) pairs

-- a snapshot that is held is of no later version
abbrev pub HeldBelow : WorkerProgress → Type 0
HeldBelow progress = (w : ℕ) → progress.held ≡ Some w → w ≤ progress.seen

abbrev pub NoneAbove : ℕ → List Pair → Type 0
NoneAbove last pairs = AllByRecursion (λ pair. pair.1.version ≤ last) pairs

-- one command
pub record Steps (progress after : WorkerProgress) (v : ℕ) (ended : Ended) : Type 0 where
  pub up : progress.seen ≤ after.seen
  pub at : v ≤ after.seen
  pub held : HeldBelow after
  pub new : is_committed ended ≡ true → progress.seen < v

shown_then : (May : Type 0) (ended : Ended) → Shows May ended → May × (is_committed ended ≡ true → ⊥)
shown_then May Shown h = (h, λ (e : false ≡ true). cc)
shown_then May Committed h = absurd h
shown_then May RolledBack h = absurd h
shown_then May (Refused cause) h = absurd h

block_then : (s : JudgedBy) (seen : ℕ) (asked : Transaction) (ending : Ending) (v : ℕ) (ended : Ended) → BlockEnds s seen asked ending v ended → (seen ≤ v) × (is_committed ended ≡ true → seen < v)
block_then s seen asked ending v Shown h = absurd h
block_then s seen asked ending v Committed h = let l = h.1 in (omega (arith, l), λ _. l)
block_then s seen asked ending v RolledBack h = (h.1, λ (e : false ≡ true). absurd cc)
block_then s seen asked ending v (Refused cause) h = (h.0, λ (e : false ≡ true). absurd cc)

-- the version is shown of the current one
seen_step : (progress : WorkerProgress) (held : Option ℕ) (v : ℕ) (ended : Ended) → progress.seen ≤ v → ((w : ℕ) → held ≡ Some w → w ≤ v) → (is_committed ended ≡ true → progress.seen < v)
    → Steps progress (record { seen = v; held = held }) v ended
seen_step progress held v ended up below new = record { up = up; at = omega arith; held = below; new = new }

pub step_of : (s : JudgedBy) (progress : WorkerProgress) (command : Command) (v : ℕ) (ended : Ended) → HeldBelow progress → EndsLawfully s progress command v ended → Steps progress (progress_after progress command v) v ended
step_of s progress (Ask question) v ended below h =
    let t = shown_then (progress.seen ≤ v) ended h in
    seen_step progress progress.held v ended t.0 (λ w e. let l = below w e in let m = t.0 in omega (arith, l, m)) (λ c. absurd (t.1 c))
step_of s progress Hold v ended below h =
    let t = shown_then (progress.seen ≤ v) ended h in
    seen_step progress (Some v) v ended t.0 (λ w e. let same : v ≡ w = cc in omega (arith, same)) (λ c. absurd (t.1 c))
step_of s progress (AskHeld question) v ended below h =
    let t = shown_then (progress.held ≡ Some v) ended h in
    record { up = omega arith; at = below v t.0; held = below; new = λ c. absurd (t.1 c) }
step_of s progress Release v ended below h =
    let t = shown_then (progress.held ≡ Some v) ended h in
    record { up = omega arith; at = below v t.0; held = λ w e. absurd (let no : None ≡ Some w = e in cc); new = λ c. absurd (t.1 c) }
step_of s progress (Block _ asked ending) v ended below h =
    let t = block_then s progress.seen asked ending v ended h in
    seen_step progress progress.held v ended t.0 (λ w e. let l = below w e in let m = t.0 in omega (arith, l, m)) t.1
step_of s progress Compact v ended below h =
    let t = block_then s progress.seen no_changes Commit v ended h in
    seen_step progress progress.held v ended t.0 (λ w e. let l = below w e in let m = t.0 in omega (arith, l, m)) t.1

-- ---- all commands

-- the first ones, and those behind them
pub split : (s : JudgedBy) (progress : WorkerProgress) (pairs more : List Pair) → Along s progress (pairs ++ more) → Along s progress pairs × Along s (end_progress progress pairs) more
split s progress [] more along = (tt, along)
split s progress (pair ∷ pairs) more along =
    let rest = split s (progress_after progress pair.0 pair.1.version) pairs more along.1 in
    ((along.0, rest.0), rest.1)

pub record Rises (progress : WorkerProgress) (pairs : List Pair) : Type 0 where
  pub up : progress.seen ≤ (end_progress progress pairs).seen
  pub held : HeldBelow (end_progress progress pairs)
  pub below : NoneAbove (end_progress progress pairs).seen pairs

pub rises : (s : JudgedBy) (progress : WorkerProgress) (pairs : List Pair) → HeldBelow progress → Along s progress pairs → Rises progress pairs
rises s progress [] below along = record { up = omega arith; held = below; below = tt }
rises s progress (pair ∷ pairs) below along =
    let step = step_of s progress pair.0 pair.1.version pair.1.ended below along.0 in
    let rest = rises s (progress_after progress pair.0 pair.1.version) pairs step.held along.1 in
    let a = step.up in
    let b = step.at in
    let c = rest.up in
    record { up = omega (arith, a, c); held = rest.held; below = (omega (arith, b, c), rest.below) }

after_few : (last : ℕ) (progress : WorkerProgress) (command : Command) (v : ℕ) → progress.seen ≤ last → v ≤ last → (progress_after progress command v).seen ≤ last
after_few last progress (Ask question) v a b = b
after_few last progress Hold v a b = b
after_few last progress (AskHeld question) v a b = a
after_few last progress Release v a b = a
after_few last progress (Block _ asked ending) v a b = b
after_few last progress Compact v a b = b

pub end_few : (last : ℕ) (progress : WorkerProgress) (pairs : List Pair) → progress.seen ≤ last → NoneAbove last pairs → (end_progress progress pairs).seen ≤ last
end_few last progress [] few below = few
end_few last progress (pair ∷ pairs) few below = end_few last (progress_after progress pair.0 pair.1.version) pairs (after_few last progress pair.0 pair.1.version few below.0) below.1

-- no command makes a version again that was seen
pub none_made : (s : JudgedBy) (progress : WorkerProgress) (pairs : List Pair) (j : ℕ) → HeldBelow progress → Along s progress pairs → j ≤ progress.seen → times_made j pairs ≡ 0
none_made s progress [] j below along few = refl
none_made s progress (pair ∷ pairs) j below along few =
    let step = step_of s progress pair.0 pair.1.version pair.1.ended below along.0 in
    let u = step.up in
    by_test (made j pair) refl (none_made s (progress_after progress pair.0 pair.1.version) pairs j step.held along.1 (omega (arith, u, few))) step.new
  where
    by_test : (b : Bool) → made j pair ≡ b → times_made j pairs ≡ 0 → (is_committed pair.1.ended ≡ true → progress.seen < pair.1.version) → cond b 1 0 + times_made j pairs ≡ 0
    by_test true is none new =
        let parts = and_parts (is_committed pair.1.ended) (eqb pair.1.version j) is in
        let later = new parts.0 in
        let same = eqb-true pair.1.version j parts.1 in
        absurd (omega (arith, later, same, few))
    by_test false is none new = omega (arith, none)

pub times-append : (j : ℕ) (pairs more : List Pair) → times_made j (pairs ++ more) ≡ times_made j pairs + times_made j more
times-append j [] more = let e : times_made j more ≡ 0 + times_made j more = omega arith in e
times-append j (pair ∷ pairs) more = let rest = times-append j pairs more in omega (arith, rest)

-- ---- the versions that are shown

pub shown-append : (pairs more : List Pair) → shown_in (pairs ++ more) ≡ shown_in pairs ++ shown_in more
shown-append [] more = refl
shown-append (pair ∷ pairs) more = ap (λ (l : List ℕ). shown_by pair.0 pair.1.version ++ l) (shown-append pairs more) ∙ sym (append_assoc (shown_by pair.0 pair.1.version) (shown_in pairs) (shown_in more))

nothing_in : (w : ℕ) → Contains [] w → ⊥
nothing_in w h = let l = h.1 in omega (arith, l)

one_in : (v w : ℕ) → Contains (v ∷ []) w → v ≡ w
one_in v w h = ⊎_elim (λ none. absurd (nothing_in w none)) (λ e. e) (Contains-push_cases [] v w h)

-- it is no older than what was seen, or held
abbrev pub Sees : WorkerProgress → ℕ → Type 0
Sees progress w = (progress.seen ≤ w) ⊎ (progress.held ≡ Some w)

first_shown : (s : JudgedBy) (progress : WorkerProgress) (command : Command) (v : ℕ) (ended : Ended) (w : ℕ) → EndsLawfully s progress command v ended → Contains (shown_by command v) w → Sees progress w
first_shown s progress (Ask question) v ended w h there = inl (let t = (shown_then (progress.seen ≤ v) ended h).0 in let e = one_in v w there in omega (arith, t, e))
first_shown s progress Hold v ended w h there = inl (let t = (shown_then (progress.seen ≤ v) ended h).0 in let e = one_in v w there in omega (arith, t, e))
first_shown s progress (AskHeld question) v ended w h there = inr ((shown_then (progress.held ≡ Some v) ended h).0 ∙ ap (λ (x : ℕ). Some x) (one_in v w there))
first_shown s progress Release v ended w h there = absurd (nothing_in w there)
first_shown s progress (Block _ asked ending) v ended w h there = absurd (nothing_in w there)
first_shown s progress Compact v ended w h there = absurd (nothing_in w there)

held_later : (progress : WorkerProgress) (command : Command) (v w : ℕ) → progress.seen ≤ (progress_after progress command v).seen → (progress_after progress command v).held ≡ Some w → Sees progress w
held_later progress (Ask question) v w up e = inr e
held_later progress Hold v w up e = inl (let same : v ≡ w = cc in omega (arith, up, same))
held_later progress (AskHeld question) v w up e = inr e
held_later progress Release v w up e = absurd (let no : None ≡ Some w = e in cc)
held_later progress (Block _ asked ending) v w up e = inr e
held_later progress Compact v w up e = inr e

sees_later : (progress : WorkerProgress) (command : Command) (v w : ℕ) → progress.seen ≤ (progress_after progress command v).seen → Sees (progress_after progress command v) w → Sees progress w
sees_later progress command v w up (inl l) = inl (omega (arith, up, l))
sees_later progress command v w up (inr e) = held_later progress command v w up e

pub later_shown : (s : JudgedBy) (progress : WorkerProgress) (pairs : List Pair) (w : ℕ) → HeldBelow progress → Along s progress pairs → Contains (shown_in pairs) w → Sees progress w
later_shown s progress [] w below along there = absurd (nothing_in w there)
later_shown s progress (pair ∷ pairs) w below along there =
    let step = step_of s progress pair.0 pair.1.version pair.1.ended below along.0 in
    ⊎_elim (λ first. first_shown s progress pair.0 pair.1.version pair.1.ended w along.0 first)
    (λ rest. sees_later progress pair.0 pair.1.version w step.up (later_shown s (progress_after progress pair.0 pair.1.version) pairs w step.held along.1 rest))
    (Contains-append_cases (shown_by pair.0 pair.1.version) (shown_in pairs) w there)

-- what is held was held before, or was shown
held_from : (progress : WorkerProgress) (command : Command) (v w : ℕ) → (progress_after progress command v).held ≡ Some w → (progress.held ≡ Some w) ⊎ Contains (shown_by command v) w
held_from progress (Ask question) v w e = inl e
held_from progress Hold v w e = inr (let same : v ≡ w = cc in subst (λ (x : ℕ). Contains (v ∷ []) x) same (Contains-push [] v))
held_from progress (AskHeld question) v w e = inl e
held_from progress Release v w e = absurd (let no : None ≡ Some w = e in cc)
held_from progress (Block _ asked ending) v w e = inl e
held_from progress Compact v w e = inl e

pub held_shown : (progress : WorkerProgress) (pairs : List Pair) (w : ℕ) → (end_progress progress pairs).held ≡ Some w → (progress.held ≡ Some w) ⊎ Contains (shown_in pairs) w
held_shown progress [] w e = inl e
held_shown progress (pair ∷ pairs) w e =
    ⊎_elim (λ held. ⊎_elim (λ before. inl before) (λ now. inr (Contains-append_left (shown_by pair.0 pair.1.version) (shown_in pairs) w now)) (held_from progress pair.0 pair.1.version w held))
    (λ later. inr (Contains-append_right (shown_by pair.0 pair.1.version) (shown_in pairs) w later))
    (held_shown (progress_after progress pair.0 pair.1.version) pairs w e)

-- Replies behind others.
use Rattle.std.proofs.Common.{◌≡◌, ◌∙◌, ℕ, zero, suc, ◌+◌, ◌<◌, ◌≤◌, Bool, true, false, cond, List, [], ◌∷◌, ◌++◌, length, refl, sym, ap, subst, arith, append_assoc, append-nil}
use Rattle.zone_model.specs.Names.{Name}
use Rattle.zone_model.specs.Versions.{Version}
use Rattle.zone_model.specs.Transactions.{Transaction}
use Rattle.job_model.specs.Commands.{Command, Ask, Hold, AskHeld, Release, Block, Compact}
use Rattle.job_model.specs.Outcomes.{Outcome, Pair, WorkerProgress, after, all_pairs, asked_at, asked_by, at_first, made, progress_after, times_made, version_at}
use Rattle.job_model.specs.Reports.{command_text, head_text}
use Rattle.job_model.specs.Sessions.{Reply, Ran, RefusedLine, GivenUp, Replied, Said, given_up_text, pairs_in, ready_text, refused_line_text, replies_text, session_text, versions_in}
use Rattle.session_laws.proofs.ProgressLaws.{NoneAbove}

-- ---- the versions that first replies made

pub pairs-append : (replies more : List Reply) → pairs_in (replies ++ more) ≡ pairs_in replies ++ pairs_in more
pairs-append [] more = refl
pairs-append (Ran pair ∷ replies) more = ap (λ (l : List Pair). pair ∷ l) (pairs-append replies more)
pairs-append (RefusedLine line kind ∷ replies) more = pairs-append replies more
pairs-append (GivenUp ∷ replies) more = pairs-append replies more

pub asked-same : (j : ℕ) (pairs more : List Pair) → times_made j pairs ≡ 1 → asked_at j (pairs ++ more) ≡ asked_at j pairs
asked-same j [] more once = absurd (omega (arith, once))
asked-same j (pair ∷ pairs) more once = by_test (made j pair) once (λ (rest : times_made j pairs ≡ 1). asked-same j pairs more rest)
  where
    by_test : (b : Bool) → cond b 1 0 + times_made j pairs ≡ 1 → (times_made j pairs ≡ 1 → asked_at j (pairs ++ more) ≡ asked_at j pairs)
        → cond b (asked_by pair.0) (asked_at j (pairs ++ more)) ≡ cond b (asked_by pair.0) (asked_at j pairs)
    by_test true h k = refl
    by_test false h k = k (omega (arith, h))

abbrev Once : ℕ → List Pair → Type 0
Once last pairs = (j : ℕ) → 0 < j → j ≤ last → times_made j pairs ≡ 1

pub version-same : (origin : Name) (zone : Version) (pairs more : List Pair) (last v : ℕ) → Once last pairs → v ≤ last → version_at origin zone (pairs ++ more) v ≡ version_at origin zone pairs v
version-same origin zone pairs more last zero once few = refl
version-same origin zone pairs more last (suc v) once few =
    ap (λ (t : Transaction). after origin t (version_at origin zone (pairs ++ more) v)) (asked-same (suc v) pairs more (once (suc v) (omega arith) few))
    ∙ ap (after origin (asked_at (suc v) pairs)) (version-same origin zone pairs more last v once (omega (arith, few)))

-- ---- texts by versions that are the same up to the last

abbrev Agree : ℕ → (ℕ → Version) → (ℕ → Version) → Type 0
Agree last set other = (v : ℕ) → v ≤ last → other v ≡ set v

command-same : (origin : Name) (set other : ℕ → Version) (last : ℕ) (command : Command) (o : Outcome) → Agree last set other → o.version ≤ last → command_text origin other command o ≡ command_text origin set command o
command-same origin set other last (Ask question) o agree few = ap (λ (v : Version). command_text origin (λ _. v) (Ask question) o) (agree o.version few)
command-same origin set other last Hold o agree few = refl
command-same origin set other last (AskHeld question) o agree few = ap (λ (v : Version). command_text origin (λ _. v) (AskHeld question) o) (agree o.version few)
command-same origin set other last Release o agree few = refl
command-same origin set other last (Block _ asked ending) o agree few = refl
command-same origin set other last Compact o agree few = refl

-- the text begins with this one
abbrev pub Begins : List ℕ → List ℕ → Type 0
Begins all front = (rest : List ℕ) × (all ≡ front ++ rest)

behind : (before all front : List ℕ) → Begins all front → Begins (before ++ all) (before ++ front)
behind before all front h = (h.0, ap (λ (l : List ℕ). before ++ l) h.1 ∙ sym (append_assoc before front h.0))

reply-begins : (head command other all front : List ℕ) → other ≡ command → Begins all front → Begins (head ++ other ++ all) (head ++ command ++ front)
reply-begins head command other all front e h = subst (λ (text : List ℕ). Begins (head ++ text ++ all) (head ++ command ++ front)) (sym e) (behind (head ++ command) all front h)

text-begins : (origin : Name) (set other : ℕ → Version) (last c : ℕ) (progress : WorkerProgress) (replies more : List Reply) → Agree last set other → NoneAbove last (pairs_in replies)
    → Begins (replies_text origin other c progress (replies ++ more)) (replies_text origin set c progress replies)
text-begins origin set other last c progress [] more agree below = (replies_text origin other c progress more, refl)
text-begins origin set other last c progress (Ran pair ∷ replies) more agree below =
    reply-begins (head_text 1 c pair.1.version) _ _ _ _ (command-same origin set other last pair.0 pair.1 agree below.0)
    (text-begins origin set other last (c + 1) (progress_after progress pair.0 pair.1.version) replies more agree below.1)
text-begins origin set other last c progress (RefusedLine line kind ∷ replies) more agree below =
    behind (refused_line_text line kind) _ _ (text-begins origin set other last c progress replies more agree below)
text-begins origin set other last c progress (GivenUp ∷ replies) more agree below =
    behind (given_up_text c progress.seen) _ _ (text-begins origin set other last (c + 1) progress replies more agree below)

-- ---- sessions

sets-agree : (origin : Name) (zone : Version) (replies more : List Reply) (last : ℕ) → Once last (all_pairs (pairs_in replies ∷ [])) → Agree last (versions_in origin zone replies) (versions_in origin zone (replies ++ more))
sets-agree origin zone replies more last once v few =
    let all : all_pairs (pairs_in (replies ++ more) ∷ []) ≡ all_pairs (pairs_in replies ∷ []) ++ pairs_in more =
    append-nil (pairs_in (replies ++ more)) ∙ pairs-append replies more ∙ ap (λ (l : List Pair). l ++ pairs_in more) (sym (append-nil (pairs_in replies))) in
    ap (λ (l : List Pair). version_at origin zone l v) all ∙ version-same origin zone (all_pairs (pairs_in replies ∷ [])) (pairs_in more) last v once few

pub begins_with : (chunks : ℕ) (origin : Name) (zone : Version) (said : List Said) (replies more : List Reply) (last : ℕ) → Replied chunks origin zone said replies last
    → Begins (session_text origin zone (replies ++ more)) (session_text origin zone replies)
begins_with chunks origin zone said replies more last h =
    behind (ready_text (length zone)) _ _
    (text-begins origin (versions_in origin zone replies) (versions_in origin zone (replies ++ more)) last 1 at_first replies more
    (sets-agree origin zone replies more last h.lawful.once) (subst (NoneAbove last) (append-nil (pairs_in replies)) h.lawful.none_above))

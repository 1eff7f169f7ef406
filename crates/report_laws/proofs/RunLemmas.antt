-- Outcomes are told by what is printed of them, worker by worker and command by command.
use Rattle.std.proofs.Common.{◌≡◌, ◌∙◌, ℕ, ◌+◌, ◌<◌, ◌≤◌, ◌^◌, List, [], ◌∷◌, ◌++◌, map, length, drop, refl, sym, ap, ap₂, subst, arith, append_assoc, length-append, codes}
use Rattle.std.proofs.lemmas.Fmt.{decimal_injective}
use Rattle.std.proofs.lemmas.List.{append_cancel_left}
use Rattle.std.specs.List.{AllByRecursion}
use Rattle.std.specs.Fmt.{decimal}
use Rattle.zone_model.specs.Names.{Name}
use Rattle.zone_model.specs.Versions.{Version}
use Rattle.job_model.specs.Commands.{Command, Ask, Hold, AskHeld, Release, Block, Compact}
use Rattle.job_model.specs.Outcomes.{Ended, Shown, Outcome, Pair}
use Rattle.job_model.specs.Reports.{head_text, command_text, worker_text, workers_text, end_text}
use Rattle.report_laws.proofs.CutLemmas.{cut}
use Rattle.report_laws.proofs.TextLemmas.{decimal_free}
use Rattle.report_laws.proofs.ReplyLemmas.{reply_cut}
use Rattle.report_laws.proofs.EndLemmas.{SmallEnded, EndsCompaction, ended_cut, compacted_cut}

-- ---- a command

-- questions and snapshots show a version, and transactions end
abbrev pub OfKind : Command → Ended → Type 0
OfKind (Ask question) ended = ended ≡ Shown
OfKind Hold ended = ended ≡ Shown
OfKind (AskHeld question) ended = ended ≡ Shown
OfKind Release ended = ended ≡ Shown
OfKind (Block _ asked ending) ended = ended ≡ Shown → ⊥
OfKind Compact ended = EndsCompaction ended

-- an outcome of the command's kind, whose numbers have 64 bits
pub record IsPlain (command : Command) (o : Outcome) : Type 0 where
  pub version : o.version < 2 ^ 64
  pub kind : OfKind command o.ended
  pub small : SmallEnded o.ended

-- the number between two texts
numbered_cut : (m n : ℕ) (s t : List ℕ) → m < 2 ^ 64 → n < 2 ^ 64 → decimal m ++ (32 ∷ s) ≡ decimal n ++ (32 ∷ t) → (m ≡ n) × (s ≡ t)
numbered_cut m n s t small less e =
    let parts = cut 32 (decimal m) (decimal n) (32 ∷ s) (32 ∷ t) (decimal_free 32 m (omega arith)) (decimal_free 32 n (omega arith)) refl refl e in
    (decimal_injective m n small less parts.0, ap (drop 1) parts.1)

in_three : (a b c s : List ℕ) → (a ++ b ++ c) ++ s ≡ a ++ (b ++ (c ++ s))
in_three a b c s = append_assoc (a ++ b) c s ∙ append_assoc a b (c ++ s)

head_cut : (w c m n : ℕ) (s t : List ℕ) → m < 2 ^ 64 → n < 2 ^ 64 → head_text w c m ++ s ≡ head_text w c n ++ t → (m ≡ n) × (s ≡ t)
head_cut w c m n s t small less e =
    let front = decimal w ++ codes "." ++ decimal c ++ codes " v" in
    numbered_cut m n s t small less
    (append_cancel_left front (decimal m ++ (32 ∷ s)) (decimal n ++ (32 ∷ t)) (sym (in_three front (decimal m) (codes " ") s) ∙ e ∙ in_three front (decimal n) (codes " ") t))

told_cut : (origin : Name) (before after : ℕ → Version) (c : Command) (o p : Outcome) (s t : List ℕ) → OfKind c o.ended → OfKind c p.ended → SmallEnded o.ended → SmallEnded p.ended
    → length (command_text origin before c o ++ s) < 2 ^ 64 → command_text origin before c o ++ s ≡ command_text origin after c p ++ t → (o.ended ≡ p.ended) × (s ≡ t)
told_cut origin before after (Ask question) o p s t k l small less few e = (k ∙ sym l, reply_cut origin (before o.version) (after p.version) question s t few e)
told_cut origin before after Hold o p s t k l small less few e = (k ∙ sym l, append_cancel_left (codes "HELD\n") s t e)
told_cut origin before after (AskHeld question) o p s t k l small less few e = (k ∙ sym l, reply_cut origin (before o.version) (after p.version) question s t few e)
told_cut origin before after Release o p s t k l small less few e = (k ∙ sym l, append_cancel_left (codes "RELEASED\n") s t e)
told_cut origin before after (Block _ asked ending) o p s t k l small less few e = ended_cut o.ended p.ended k l small less s t e
told_cut origin before after Compact o p s t k l small less few e = compacted_cut o.ended p.ended k l small less s t e

outcome_of : ℕ → Ended → Outcome
outcome_of version ended = record { version = version; ended = ended }

-- a command's text stands inside of what is printed
inside : (head text rest s : List ℕ) → length (text ++ (rest ++ s)) ≤ length ((head ++ text ++ rest) ++ s)
inside head text rest s = let same = ap (λ (l : List ℕ). length l) (in_three head text rest s) in omega (arith, same, length-append head (text ++ (rest ++ s)))

outcome_cut : (origin : Name) (before after : ℕ → Version) (w n : ℕ) (c : Command) (o p : Outcome) → IsPlain c o → IsPlain c p → (x y s t : List ℕ)
    → length ((head_text w n o.version ++ command_text origin before c o ++ x) ++ s) < 2 ^ 64
    → (head_text w n o.version ++ command_text origin before c o ++ x) ++ s ≡ (head_text w n p.version ++ command_text origin after c p ++ y) ++ t → (o ≡ p) × (x ++ s ≡ y ++ t)
unfolding outcome_of
outcome_cut origin before after w n c o p is_o is_p x y s t few e =
    let first = head_cut w n o.version p.version (command_text origin before c o ++ (x ++ s)) (command_text origin after c p ++ (y ++ t)) is_o.version is_p.version
    (sym (in_three (head_text w n o.version) (command_text origin before c o) x s) ∙ e ∙ in_three (head_text w n p.version) (command_text origin after c p) y t) in
    let next = told_cut origin before after c o p (x ++ s) (y ++ t) is_o.kind is_p.kind is_o.small is_p.small
    (omega (arith, few, inside (head_text w n o.version) (command_text origin before c o) x s)) first.1 in
    (ap₂ outcome_of first.0 next.0, next.1)

-- ---- a worker

pair_of : Command → Outcome → Pair
pair_of c o = (c, o)

abbrev pub command_in : Pair → Command
command_in pair = pair.0

abbrev pub AllPlain : List Pair → Type 0
AllPlain pairs = AllByRecursion (λ pair. IsPlain pair.0 pair.1) pairs

behind_few : (a b : List ℕ) → length b ≤ length (a ++ b)
behind_few a b = omega (arith, length-append a b)

rest_few : (head text rest s : List ℕ) → length (rest ++ s) ≤ length ((head ++ text ++ rest) ++ s)
rest_few head text rest s = omega (arith, inside head text rest s, behind_few text (rest ++ s))

worker_cut : (origin : Name) (before after : ℕ → Version) (w n : ℕ) (xs ys : List Pair) → map command_in xs ≡ map command_in ys → AllPlain xs → AllPlain ys → (s t : List ℕ)
    → length (worker_text origin before w n xs ++ s) < 2 ^ 64 → worker_text origin before w n xs ++ s ≡ worker_text origin after w n ys ++ t → (xs ≡ ys) × (s ≡ t)
unfolding pair_of
worker_cut origin before after w n [] [] same plain also s t few e = (refl, e)
worker_cut origin before after w n [] (y ∷ ys) same plain also s t few e = absurd cc
worker_cut origin before after w n (x ∷ xs) [] same plain also s t few e = absurd cc
worker_cut origin before after w n (x ∷ xs) (y ∷ ys) same plain also s t few e =
    let first : x.0 ≡ y.0 = cc in
    let others : map command_in xs ≡ map command_in ys = cc in
    let now = outcome_cut origin before after w n x.0 x.1 y.1 plain.0 (subst (λ (c : Command). IsPlain c y.1) (sym first) also.0) (worker_text origin before w (n + 1) xs) (worker_text origin after w (n + 1) ys) s t few
    (e ∙ ap (λ (c : Command). (head_text w n y.1.version ++ command_text origin after c y.1 ++ worker_text origin after w (n + 1) ys) ++ t) (sym first)) in
    let more = worker_cut origin before after w (n + 1) xs ys others plain.1 also.1 s t
    (omega (arith, few, rest_few (head_text w n x.1.version) (command_text origin before x.0 x.1) (worker_text origin before w (n + 1) xs) s)) now.1 in
    (ap₂ (λ (pair : Pair) (l : List Pair). pair ∷ l) (ap₂ pair_of first now.0) more.0, more.1)

-- ---- all workers

workers_cut : (origin : Name) (before after : ℕ → Version) (w : ℕ) (xs ys : List (List Pair)) → map (map command_in) xs ≡ map (map command_in) ys
    → AllByRecursion AllPlain xs → AllByRecursion AllPlain ys → (s t : List ℕ)
    → length (workers_text origin before w xs ++ s) < 2 ^ 64 → workers_text origin before w xs ++ s ≡ workers_text origin after w ys ++ t → (xs ≡ ys) × (s ≡ t)
workers_cut origin before after w [] [] same plain also s t few e = (refl, e)
workers_cut origin before after w [] (y ∷ ys) same plain also s t few e = absurd cc
workers_cut origin before after w (x ∷ xs) [] same plain also s t few e = absurd cc
workers_cut origin before after w (x ∷ xs) (y ∷ ys) same plain also s t few e =
    let first : map command_in x ≡ map command_in y = cc in
    let others : map (map command_in) xs ≡ map (map command_in) ys = cc in
    let here = append_assoc (worker_text origin before w 1 x) (workers_text origin before (w + 1) xs) s in
    let long = ap (λ (l : List ℕ). length l) here in
    let now = worker_cut origin before after w 1 x y first plain.0 also.0 (workers_text origin before (w + 1) xs ++ s) (workers_text origin after (w + 1) ys ++ t) (omega (arith, few, long))
    (sym here ∙ e ∙ append_assoc (worker_text origin after w 1 y) (workers_text origin after (w + 1) ys) t) in
    let more = workers_cut origin before after (w + 1) xs ys others plain.1 also.1 s t
    (omega (arith, few, long, behind_few (worker_text origin before w 1 x) (workers_text origin before (w + 1) xs ++ s))) now.1 in
    (ap₂ (λ (pairs : List Pair) (l : List (List Pair)). pairs ∷ l) now.0 more.0, more.1)

in_five : (a b c d e : List ℕ) → a ++ b ++ c ++ d ++ e ≡ a ++ (b ++ (c ++ (d ++ e)))
in_five a b c d e = simp append_assoc

-- the last line tells the last version
end_same : (m n names also : ℕ) → m < 2 ^ 64 → n < 2 ^ 64 → end_text m names ≡ end_text n also → m ≡ n
end_same m n names also small less e =
    (numbered_cut m n (codes "names " ++ (decimal names ++ codes "\n")) (codes "names " ++ (decimal also ++ codes "\n")) small less
    (append_cancel_left (codes "end v") (decimal m ++ (codes " names " ++ (decimal names ++ codes "\n"))) (decimal n ++ (codes " names " ++ (decimal also ++ codes "\n")))
    (sym (in_five (codes "end v") (decimal m) (codes " names ") (decimal names) (codes "\n")) ∙ e ∙ in_five (codes "end v") (decimal n) (codes " names ") (decimal also) (codes "\n")))).0

pub told_same : (origin : Name) (before after : ℕ → Version) (xs ys : List (List Pair)) (m n names also : ℕ) → map (map command_in) xs ≡ map (map command_in) ys
    → AllByRecursion AllPlain xs → AllByRecursion AllPlain ys → m < 2 ^ 64 → n < 2 ^ 64 → length (workers_text origin before 1 xs ++ end_text m names) < 2 ^ 64
    → workers_text origin before 1 xs ++ end_text m names ≡ workers_text origin after 1 ys ++ end_text n also → (xs ≡ ys) × (m ≡ n)
told_same origin before after xs ys m n names also same plain too small less few e =
    let parts = workers_cut origin before after 1 xs ys same plain too (end_text m names) (end_text n also) few e in
    (parts.0, end_same m n names also small less parts.1)

-- How long the text of a load may be.
use Rattle.std.proofs.Common.{◌≡◌, ◌∙◌, ◌<◌, ◌≤◌, ◌+◌, ◌*◌, ◌/◌, ◌%◌, ℕ, zero, suc, Bool, true, false, cond, eqb, List, [], ◌∷◌, ◌++◌, length, ap, arith, codes, length-append, inl, inr}
use Rattle.std.proofs.lemmas.Bool.{cases_eq}
use Rattle.std.proofs.Math.Nat.{mul-le-mul}
use Rattle.std.proofs.lemmas.Fmt.{length-decimal-le}
use Rattle.std.proofs.lemmas.List.Concat.{flat_map-append}
use Rattle.std.specs.List.{flat_map}
use Rattle.std.specs.Fmt.{decimal}
use Rattle.job_model.specs.Loads.{Load, Part, Turn, Gets, Moves, Removes, Finds, drawn, first_lines, line_text, made_text, name_text, names_lines, next_state, part_of, share, state_behind, turn_from, turn_lines, turn_of, turns_from, turns_of, worker_lines, worker_state, workers_from}

abbrev size : List (List ℕ) → ℕ
size lines = length (flat_map line_text lines)

size-append : (xs ys : List (List ℕ)) → size (xs ++ ys) ≡ size xs + size ys
size-append xs ys = ap (λ (l : List ℕ). length l) (flat_map-append line_text xs ys) ∙ length-append (flat_map line_text xs) (flat_map line_text ys)

short_name : (i : ℕ) → i < 1000000 → length (decimal i) ≤ 6
short_name i h = length-decimal-le 6 i (omega arith) (omega arith) (omega arith)

short_octet : (n : ℕ) → length (decimal (n % 256)) ≤ 3
short_octet n = length-decimal-le 3 (n % 256) (omega arith) (omega arith) (omega arith)

get_size : (i : ℕ) → length (decimal i) ≤ 6 → size (turn_lines (Gets i)) ≤ 70
get_size i h = simp length-append (omega arith)

move_size : (i c : ℕ) → length (decimal i) ≤ 6 → size (turn_lines (Moves i c)) ≤ 70
move_size i c h =
    let p = short_octet (c / 65536) in
    let q = short_octet (c / 256) in
    let r = short_octet c in
    simp length-append (omega arith)

removal_size : (i : ℕ) → length (decimal i) ≤ 6 → size (turn_lines (Removes i)) ≤ 70
removal_size i h = simp length-append (omega arith)

find_size : (i : ℕ) → length (decimal i) ≤ 6 → size (turn_lines (Finds i)) ≤ 70
find_size i h = simp length-append (omega arith)

either_size : (b : Bool) (t u : Turn) → size (turn_lines t) ≤ 70 → size (turn_lines u) ≤ 70 → size (turn_lines (cond b t u)) ≤ 70
either_size true t u h k = h
either_size false t u h k = k

turn_size : (a i c : ℕ) → length (decimal i) ≤ 6 → size (turn_lines (turn_of a i c)) ≤ 70
turn_size a i c h =
    either_size (eqb (a % 4) 0) (Gets i) _ (get_size i h)
    (either_size (eqb (a % 4) 1) (Moves i c) _ (move_size i c h)
    (either_size (eqb (a % 4) 2) (Removes i) (Finds i) (removal_size i h) (find_size i h)))

-- a worker's names have numbers of six digits at most
pub record IsSmall (part : Part) : Type 0 where
  pub some : 0 < part.count
  pub few : part.count ≤ 20000
  pub remainder : part.remainder < 16
  pub workers : part.workers ≤ 16

pub small_name : (part : Part) (d : ℕ) → IsSmall part → part.remainder + part.workers * (d % part.count) < 1000000
small_name part d s =
    let some = s.some in
    let few = s.few in
    let first = s.remainder in
    let below : d % part.count ≤ 20000 = omega arith in
    let product : part.workers * (d % part.count) ≤ 16 * 20000 = mul-le-mul s.workers below in
    omega arith

turns_size : (part : Part) (turns x : ℕ) → IsSmall part → size (turns_from part turns x) ≤ turns * 70
unfolding turns_from
turns_size part zero x s = omega arith
turns_size part (suc turns) x s =
    let name = short_name (part.remainder + part.workers * (drawn (next_state (next_state x)) % part.count)) (small_name part (drawn (next_state (next_state x))) s) in
    let here : size (turn_lines (turn_from part x)) ≤ 70 = turn_size (drawn (next_state x)) (part.remainder + part.workers * (drawn (next_state (next_state x)) % part.count)) (drawn (next_state (next_state (next_state x)))) name in
    let rest : size (turns_from part turns (state_behind x)) ≤ turns * 70 = turns_size part turns (state_behind x) s in
    let whole = size-append (turn_lines (turn_from part x)) (turns_from part turns (state_behind x)) in
    omega arith

share_one : (n m : ℕ) (b : Bool) → n ≤ m → n + cond b 1 0 ≤ suc m
share_one n m true h = omega arith
share_one n m false h = omega arith

pub share_le : (workers remainder names : ℕ) → share workers remainder names ≤ names
unfolding share
share_le workers remainder zero = omega arith
share_le workers remainder (suc name) = share_one (share workers remainder name) name (eqb (name % workers) remainder) (share_le workers remainder name)

-- the numbers of a load are within their limits
pub record IsWithin (load : Load) : Type 0 where
  pub names : load.names ≤ 20000
  pub turns : load.turns ≤ 10000
  pub workers : load.workers ≤ 16

part_size : (part : Part) (turns x : ℕ) → part.count ≤ 20000 → part.remainder < 16 → part.workers ≤ 16 → turns ≤ 10000 → size (turns_from part (turns_of part turns) x) ≤ 700000
unfolding turns_from
part_size part turns x few first workers within =
    elim (cases_eq part.count 0) [
      | inl none ↦
          let e : size (turns_from part (cond (eqb part.count 0) 0 turns) x) ≡ 0 = ap (λ (n : ℕ). size (turns_from part (cond (eqb n 0) 0 turns) x)) none in
          omega arith
      | inr some ↦
          let f : eqb part.count 0 ≡ false = grind arith in
          let positive : 0 < part.count = omega arith in
          let e : size (turns_from part (cond (eqb part.count 0) 0 turns) x) ≡ size (turns_from part turns x) = ap (λ (b : Bool). size (turns_from part (cond b 0 turns) x)) f in
          let s = turns_size part turns x (record { some = positive; few = few; remainder = first; workers = workers }) in
          omega arith
    ]

worker_size : (load : Load) (remainder x : ℕ) → IsWithin load → remainder < 16 → size (worker_lines load remainder x) ≤ 700007
worker_size load remainder x w h =
    let few = share_le load.workers remainder load.names in
    let names = w.names in
    let count : share load.workers remainder load.names ≤ 20000 = omega arith in
    let turns = part_size (part_of load remainder) load.turns x count h w.workers w.turns in
    omega arith

workers_size : (load : Load) (workers remainder x : ℕ) → IsWithin load → remainder + workers ≤ 16 → size (workers_from load workers remainder x) ≤ workers * 700007
unfolding workers_from
workers_size load zero remainder x w h = omega arith
workers_size load (suc workers) remainder x w h =
    let here = worker_size load remainder x w (omega arith) in
    let rest = workers_size load workers (remainder + 1) (worker_state load remainder x) w (omega arith) in
    let whole = size-append (worker_lines load remainder x) (workers_from load workers (remainder + 1) (worker_state load remainder x)) in
    omega arith

name_size : (name : ℕ) → length (decimal name) ≤ 6 → size ((name_text name ++ codes " A 10.0.0.1") ∷ []) ≤ 20
name_size name h = simp length-append (omega arith)

names_size : (names : ℕ) → names ≤ 20000 → size (names_lines names) ≤ names * 20
unfolding names_lines
names_size zero h = omega arith
names_size (suc name) h =
    let here = name_size name (short_name name (omega arith)) in
    let rest = names_size name (omega arith) in
    let whole = size-append (names_lines name) ((name_text name ++ codes " A 10.0.0.1") ∷ []) in
    omega arith

-- so the text is an input of the program
pub made_size : (load : Load) → IsWithin load → length (made_text load) ≤ 16777216
made_size load w =
    let few = w.names in
    let workers = w.workers in
    let names : size (names_lines load.names) ≤ load.names * 20 = names_size load.names w.names in
    let script : size (workers_from load load.workers 0 load.seed) ≤ load.workers * 700007 = workers_size load load.workers 0 load.seed w (omega arith) in
    let front = size-append first_lines (names_lines load.names) in
    let whole = size-append (first_lines ++ names_lines load.names) (codes "%%" ∷ workers_from load load.workers 0 load.seed) in
    omega arith

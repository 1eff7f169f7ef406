-- The positions of octets stand in the order of the octets.
use Rattle.std.proofs.Common.{◌≡◌, ℕ, zero, suc, ◌+◌, ◌-◌, ◌*◌, ◌<◌, Bool, true, false, not, ◌&&◌, sym, ap, ◌∙◌, refl, arith, eqb, ltb, if◌then◌else◌}
use Rattle.std.proofs.lemmas.Bool.{and_parts, ltb-true}
use Rattle.std.proofs.lemmas.Bool.Decides.{nat_tests}
use Rattle.zone_model.specs.Names.{IsFolded}
use Rattle.zone_model.specs.Keys.{first_position, second_position, is_shared}
use Rattle.zone_model.proofs.Below.{all_below, below_at}

-- ---- what is computed at each octet

in_bounds : ℕ → Bool
in_bounds c = ltb 0 (first_position c) && ltb (first_position c) 47 && ltb (second_position c) 47

bounds_computed : all_below in_bounds 256 ≡ true
unfolding in_bounds first_position second_position
bounds_computed = refl

shares : ℕ → Bool
shares c = if eqb (second_position c) 0 then not (is_shared (first_position c)) else is_shared (first_position c)

shares_computed : all_below shares 256 ≡ true
unfolding shares first_position second_position
shares_computed = refl

-- both positions as one number
abbrev pub code : ℕ → ℕ
code c = 64 * first_position c + second_position c

-- the octets without letters in upper case, by their places
abbrev nth_folded : ℕ → ℕ
nth_folded n = if ltb n 65 then n else n + 26

rises : ℕ → Bool
rises n = ltb (code (nth_folded n)) (code (nth_folded (n + 1)))

rises_computed : all_below rises 229 ≡ true
unfolding rises first_position second_position
rises_computed = refl

-- ---- and what that says

pub record Bounds (c : ℕ) : Type 0 where
  pub some : 0 < first_position c
  pub first : first_position c < 47
  pub second : second_position c < 47

pub bounds : (c : ℕ) → c < 256 → Bounds c
unfolding in_bounds
bounds c h =
    let all = below_at in_bounds 256 c bounds_computed h in
    let outer = and_parts (ltb 0 (first_position c) && ltb (first_position c) 47) (ltb (second_position c) 47) all in
    let inner = and_parts (ltb 0 (first_position c)) (ltb (first_position c) 47) outer.0 in
    record { some = ltb-true 0 (first_position c) inner.0; first = ltb-true (first_position c) 47 inner.1; second = ltb-true (second_position c) 47 outer.1 }

-- an octet has a second position where its first one is shared
pub second_shared : (c : ℕ) → c < 256 → (second_position c ≡ 0 → ⊥) → is_shared (first_position c) ≡ true
unfolding shares
second_shared c h n =
    let all : shares c ≡ true = below_at shares 256 c shares_computed h in
    let e : eqb (second_position c) 0 ≡ false = grind arith in
    rw e at all

pub shared_second : (c : ℕ) → c < 256 → is_shared (first_position c) ≡ true → second_position c ≡ 0 → ⊥
unfolding shares
shared_second c h s z =
    let all : shares c ≡ true = below_at shares 256 c shares_computed h in
    let e : eqb (second_position c) 0 ≡ true = grind arith in
    let k : not (is_shared (first_position c)) ≡ true = rw e at all in
    let f : not true ≡ true = ap not (sym s) ∙ k in
    cc

rise : (n : ℕ) → n < 229 → code (nth_folded n) < code (nth_folded (n + 1))
unfolding rises
rise n h = ltb-true (code (nth_folded n)) (code (nth_folded (n + 1))) (below_at rises 229 n rises_computed h)

rise_by : (d n : ℕ) → n + d < 229 → code (nth_folded n) < code (nth_folded (n + d + 1))
rise_by zero n h = let e : n + zero ≡ n = omega arith in rw e (rise n (omega arith))
rise_by (suc d) n h =
    let e : n + suc d ≡ n + d + 1 = omega arith in
    let last : code (nth_folded (n + d + 1)) < code (nth_folded (n + d + 1 + 1)) = rise (n + d + 1) (omega arith) in
    let before = rise_by d n (omega arith) in
    rw e (omega arith)

-- its place among the octets without letters in upper case
abbrev place_of : ℕ → ℕ
place_of c = if ltb c 65 then c else c - 26

place_back : (c : ℕ) → IsFolded c → nth_folded (place_of c) ≡ c
place_back c h = grind (arith, nat_tests)

place_rises : (c d : ℕ) → IsFolded c → IsFolded d → c < d → d < 256 → (place_of c < place_of d) × (place_of d < 230)
place_rises c d h k lt top = (grind (arith, nat_tests), grind (arith, nat_tests))

pub code_rises : (c d : ℕ) → IsFolded c → IsFolded d → c < d → d < 256 → code c < code d
code_rises c d h k lt top =
    let p = place_rises c d h k lt top in
    let e : place_of c + (place_of d - place_of c - 1) + 1 ≡ place_of d = omega arith in
    let risen = rise_by (place_of d - place_of c - 1) (place_of c) (omega arith) in
    let ends : code (nth_folded (place_of c + (place_of d - place_of c - 1) + 1)) ≡ code d = ap (λ (n : ℕ). code (nth_folded n)) e ∙ ap code (place_back d k) in
    let starts : code (nth_folded (place_of c)) ≡ code c = ap code (place_back c h) in
    omega arith

-- Operations in transactions do what they do one by one.
use Rattle.std.proofs.Common.{◌≡◌, ◌∙◌, ℕ, zero, suc, ◌-◌, ◌<◌, ◌≤◌, List, [], ◌∷◌, ◌++◌, length, refl, sym, ap, arith, Result, Ok, Err}
use Rattle.std.proofs.lemmas.Grind.{flat_map-append}
use Rattle.std.specs.List.{AllByRecursion}
use Rattle.zone_model.specs.Names.{Name}
use Rattle.zone_model.specs.Versions.{Version, Operation, all_applied, and_then}
use Rattle.zone_model.specs.declared.Refusal.{Refusal}
use Rattle.master_file.specs.Rows.{CanBeDumped}
use Rattle.zone_diff.specs.declared.Serial.{Serial}
use Rattle.zone_diff.specs.Differences.{difference, made}
use Rattle.zone_diff.specs.Blocks.{Parted, parted, blocks_of, block_limit, blocks, in_turn, StopsAt}
use Rattle.zone_diff.specs.Held.{joined}
use Rattle.zone_diff.proofs.DifferenceLaws.{difference_makes}
use Rattle.zone_diff.proofs.SaidLemmas.{cut}
use Rattle.zone_diff.proofs.VersionLemmas.{both_applied}

-- no operation is lost
parted_all : (most room : ℕ) (operations : List Operation) → (parted most room operations).here ++ joined (parted most room operations).behind ≡ operations
parted_all most room [] = refl
parted_all most zero (x ∷ operations) = ap (λ (l : List Operation). x ∷ l) (parted_all most (most - 1) operations)
parted_all most (suc room) (x ∷ operations) = ap (λ (l : List Operation). x ∷ l) (parted_all most room operations)

pub blocks_all : (most : ℕ) (operations : List Operation) → joined (blocks_of most operations) ≡ operations
blocks_all most [] = refl
blocks_all most (x ∷ operations) = ap (λ (l : List Operation). x ∷ l) (parted_all most (most - 1) operations)

-- ---- no block is empty or too long

abbrev HasSize : ℕ → List Operation → Type 0
HasSize most block = (0 < length block) × (length block ≤ most)

record HaveSizes (most room : ℕ) (p : Parted) : Type 0 where
  here : length p.here ≤ room
  behind : AllByRecursion (HasSize most) p.behind

parted_sizes : (most room : ℕ) (operations : List Operation) → 0 < most → HaveSizes most room (parted most room operations)
parted_sizes most room [] some = record { here = omega arith; behind = tt }
parted_sizes most zero (x ∷ operations) some =
    let p = parted_sizes most (most - 1) operations some in
    let size = p.here in
    record { here = omega arith; behind = ((omega arith, omega (arith, size, some)), p.behind) }
parted_sizes most (suc room) (x ∷ operations) some =
    let p = parted_sizes most room operations some in
    let size = p.here in
    record { here = omega (arith, size); behind = p.behind }

sizes_of : (most : ℕ) (operations : List Operation) → 0 < most → AllByRecursion (HasSize most) (blocks_of most operations)
sizes_of most [] some = tt
sizes_of most (x ∷ operations) some =
    let p = parted_sizes most (most - 1) operations some in
    let size = p.here in
    ((omega arith, omega (arith, size, some)), p.behind)

pub sizes : (operations : List Operation) → AllByRecursion (λ (block : List Operation). (0 < length block) × (length block ≤ block_limit)) (blocks operations)
sizes operations = sizes_of block_limit operations (omega arith)

-- ---- one transaction after another

in_turn_is : (origin : Name) (bs : List (List Operation)) (version : Version) → in_turn origin bs version ≡ all_applied origin (joined bs) version
in_turn_is origin [] version = refl
in_turn_is origin (b ∷ bs) version = by_first (λ v. in_turn_is origin bs v) (all_applied origin b version) ∙ sym (both_applied origin b (joined bs) version)
  where
    by_first : ((v : Version) → in_turn origin bs v ≡ all_applied origin (joined bs) v) → (r : Result Version Refusal) → and_then r (in_turn origin bs) ≡ and_then r (all_applied origin (joined bs))
    by_first more (Ok v) = more v
    by_first more (Err refusal) = refl

pub all_taken : (mode : Serial) (origin : Name) (before after : Version) → CanBeDumped origin before → CanBeDumped origin after → in_turn origin (blocks (difference mode before after)) before ≡ Ok (made mode origin before after)
all_taken mode origin before after h k =
    in_turn_is origin (blocks (difference mode before after)) before
    ∙ ap (λ (l : List Operation). all_applied origin l before) (blocks_all block_limit (difference mode before after))
    ∙ difference_makes mode origin before after h k

pub stops : (mode : Serial) (origin : Name) (before after : Version) (front back : List (List Operation)) → CanBeDumped origin before → CanBeDumped origin after → blocks (difference mode before after) ≡ front ++ back
    → (middle : Version) × StopsAt origin front back before (made mode origin before after) middle
stops mode origin before after front back h k e =
    let whole : difference mode before after ≡ joined front ++ joined back = sym (blocks_all block_limit (difference mode before after)) ∙ ap joined e ∙ flat_map-append (λ (block : List Operation). block) front back in
    let c = cut mode origin before after (joined front) (joined back) h k whole in
    (c.0, record { taken = in_turn_is origin front before ∙ c.1.taken; zone = c.1.zone; on = in_turn_is origin back c.0 ∙ c.1.on })

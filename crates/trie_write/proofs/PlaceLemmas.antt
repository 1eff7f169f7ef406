-- What isn't fresh stays where it is, for the tests of changes in place.
use Rattle.std.proofs.Common.{◌≡◌, ℕ, Bool, true, false, not, ◌&&◌, List, Option, refl, sym, ◌∙◌, ap}
use Rattle.packed_node.specs.declared.Cell.{Cell}
use Rattle.trie_model.specs.Keys.{Entry}
use Rattle.trie_model.proofs.ExtentLaws.{both_true, first_true, second_true}
use Rattle.chunk_usage.specs.Rooms.{Grows}
use Rattle.trie_space.specs.Standing.{Standing}
use Rattle.trie_write.proofs.RootLaws.{standing_later}

not_true : (b : Bool) → not b ≡ true → b ≡ false
not_true true h = sym h
not_true false h = refl

-- what stands in cells in use that aren't fresh stands on
pub settled_stands : {has new : ℕ → Cell → Type 0} {used used_new fresh fresh_new : ℕ → Bool} → ((q : ℕ) (c : Cell) → fresh_new q ≡ false → has q c → new q c) → Grows used used_new fresh fresh_new → (live : ℕ → ℕ) (root : Option ℕ) (version : List Entry) →
    Standing has (λ q. used q && not (fresh q)) live root version → Standing new (λ q. used_new q && not (fresh_new q)) live root version
settled_stands {used = used} {used_new} {fresh} {fresh_new} keep grows live root version s =
    standing_later version root s (λ q c h there. keep q c (old q h) there) (λ q h. both_true (used_new q) (not (fresh_new q)) (grows.stays q (first_true (used q) (not (fresh q)) h)) (ap not (old q h))) (λ k. refl)
  where
    old : (q : ℕ) → (used q && not (fresh q)) ≡ true → fresh_new q ≡ false
    old q h = grows.settled q (first_true (used q) (not (fresh q)) h) ∙ not_true (fresh q) (second_true (used q) (not (fresh q)) h)

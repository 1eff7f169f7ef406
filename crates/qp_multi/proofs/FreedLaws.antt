-- What stands while chunks that nothing needs are freed.
use Rattle.std.proofs.Common.{◌≡◌, ℕ, ◌/◌, ◌<◌, nat_lt, Bool, true, false, not, ◌&&◌, slice_index, Option, List, refl, ap, inl, inr, arith, ◌∙◌}
use Rattle.std.proofs.lemmas.Bool.Decides.{nat_tests}
use Rattle.packed_node.specs.declared.Cell.{Cell}
use Rattle.trie_model.specs.Keys.{Entry}
use Rattle.chunk_usage.specs.Ledger.{Ledger, is_given, is_bump, is_used}
use Rattle.chunk_usage.specs.Keeping.{is_needed, is_unreached, freed}
use Rattle.qp_multi.specs.Bases.{IsRooted}
use Rattle.qp_multi.proofs.CountedLaws.{counts_some, counts_used, standing_on}
use Rattle.qp_multi.proofs.KeepLaws.{freed_used}
use Rattle.qp_multi.proofs.Lists.{either_true}

-- a chunk with cells that count is needed
live_needed : (l : Ledger) (k : ℕ) → 0 < slice_index l.live k → is_needed l k ≡ true
live_needed l k some =
    let here : nat_lt 0 (slice_index l.live k) ≡ true = grind (arith, nat_tests) in
    either_true (is_bump l.bump k) _ (inr (either_true (is_bump l.fender k) _ (inr (either_true (nat_lt 0 (slice_index l.live k)) _ (inl here)))))

needed_reached : (l : Ledger) (k : ℕ) → is_needed l k ≡ true → is_unreached l k ≡ false
needed_reached l k h = ap (λ b. is_given l k && not b) h ∙ none (is_given l k)
  where
    none : (a : Bool) → (a && false) ≡ false
    none true = refl
    none false = refl

pub rooted_freed : (has new : ℕ → Cell → Type 0) (l : Ledger) (root : Option ℕ) (es : List Entry) → ((q : ℕ) (c : Cell) → is_unreached l (q / 1024) ≡ false → has q c → new q c) → IsRooted has l root es → IsRooted new (freed l) root es
rooted_freed has new l root es others s = record {
  stands = standing_on (is_used l) (λ k. slice_index l.live k) es root s.stands
      (λ q c h there. others q c (needed_reached l (q / 1024) (live_needed l (q / 1024) (counts_some (is_used l) (λ k. slice_index l.live k) q h))) there)
      (λ q h. freed_used l q (counts_used (is_used l) (λ k. slice_index l.live k) q h) (live_needed l (q / 1024) (counts_some (is_used l) (λ k. slice_index l.live k) q h)))
      (λ k. refl);
  tells = s.tells;
}

-- A view whose words have changed, and nothing else.
use Rattle.std.proofs.Common.{◌≡◌, ◌∙◌, ℕ, ◌+◌, ◌*◌, ◌&&◌, Bool, List, length, replicate, Option, Some, None, refl, sym, ap, subst, arith}
use Rattle.std.proofs.lemmas.List.{length-replicate}
use Rattle.std.proofs.lemmas.List.FromFn.{length-map-range_with_len}
use Rattle.atomic_table.specs.Seated.{TableId}
use Rattle.pin_core.specs.declared.kept.Kept.{Kept}
use Rattle.pin_core.specs.declared.kept.Mark.{Mark}
use Rattle.pin_core.specs.declared.kept.Mark.TheVariants as mark
use Rattle.chunk_usage.specs.Ledger.{Ledger, is_given}
use Rattle.chunk_usage.specs.Keeping.{freed, is_needed}
use Rattle.shared_cells.specs.declared.view.TurnView.{TurnView}
use Rattle.shared_cells.specs.Views.{kept_in, marks_of}
use Rattle.shared_cells.specs.Cells.{Cells, cells_of, given_chunks, with_words, words_in}
use Rattle.shared_cells.proofs.Chunks.{given_by_words}
use Rattle.qp_multi.specs.Passes.{Known}

pub words_kept : (t : Option TurnView) (words : List ℕ) → kept_in (words_in t words) ≡ kept_in t
words_kept None words = refl
words_kept (Some turn) words = refl

words_marks : (t : Option TurnView) (words : List ℕ) → marks_of (words_in t words) ≡ marks_of t
words_marks None words = refl
words_marks (Some turn) words = refl

pub same_words : (a b : TableId) → a ≡ b → a.words ≡ b.words
same_words a b e = ap (λ (t : TableId). t.words) e

pub same_chunks : (a b x y : ℕ) → 4161 + 2048 * a ≡ x → 4161 + 2048 * b ≡ y → x ≡ y → a ≡ b
same_chunks a b x y e f same = omega arith

-- as many passes
pub same_passes : (v w : Known) (words : List ℕ) (p q : ℕ) → w ≡ with_words v words → marks_of v.turn ≡ replicate p mark.Blank → marks_of w.turn ≡ replicate q mark.Blank → q ≡ p
same_passes v w words p q e old new =
    let marks : replicate q mark.Blank ≡ replicate p mark.Blank = sym new ∙ ap (λ (x : Known). marks_of x.turn) e ∙ words_marks v.turn words ∙ old in
    sym (length-replicate {A = Mark} q mark.Blank) ∙ ap (λ (ms : List Mark). length ms) marks ∙ length-replicate {A = Mark} p mark.Blank

pub freed_chunks : (u : Ledger) → length (freed u).given ≡ length u.given
freed_chunks u = length-map-range_with_len (λ chunk. is_given u chunk && is_needed u chunk) 0 (length u.given)

-- the chunks that lent cells say are given are so in the seat that they came from
pub given_after : (n : ℕ) (t : Option TurnView) (cells : Cells) (kept : List Kept) (given : List Bool) → cells.chunks ≡ n → cells_of cells.chunks t ≡ record cells { kept = kept } → given_chunks cells ≡ given → given_chunks (cells_of n t) ≡ given
given_after n t cells kept given count same is = ap (λ (k : ℕ). given_chunks (cells_of k t)) (sym count) ∙ given_by_words (cells_of cells.chunks t) cells kept same ∙ is

-- cells that were lent by a seat of this view, and the seat that they come back as

pub lent_begins : (cells : Cells) (v lender : Known) (n k x y : ℕ) → cells ≡ cells_of k lender.turn → v ≡ lender → 4161 + 2048 * n ≡ x → 4161 + 2048 * k ≡ y → x ≡ y → cells ≡ cells_of n v.turn
lent_begins cells v lender n k x y is same e f words =
    subst (λ (w : Known). cells ≡ cells_of n w.turn) (sym same) (subst (λ (m : ℕ). cells ≡ cells_of m lender.turn) (sym (same_chunks n k x y e f words)) is)

pub lent_seat : (w v lender : Known) (words : List ℕ) → w ≡ with_words lender words → v ≡ lender → w ≡ with_words v words
lent_seat w v lender words is same = subst (λ (x : Known). w ≡ with_words x words) (sym same) is

pub lent_back : (now cells : Cells) (v lender : Known) → now ≡ record cells { kept = kept_in lender.turn } → v ≡ lender → now ≡ record cells { kept = kept_in v.turn }
lent_back now cells v lender is same = subst (λ (x : Known). now ≡ record cells { kept = kept_in x.turn }) (sym same) is

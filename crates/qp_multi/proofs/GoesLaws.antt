-- What a transaction's calls leave known.
use Rattle.std.proofs.Common.{◌≡◌, ◌∙◌, ℕ, ◌≤◌, List, [], ◌∷◌, ◌++◌, Option, sym, ap, arith, append-nil, append_assoc}
use Rattle.std.proofs.lemmas.List.Sums.{fold-append}
use Rattle.trie_model.specs.Keys.{Entry}
use Rattle.chunk_usage.specs.Ledger.{Ledger}
use Rattle.shared_cells.specs.declared.view.Naming.{Naming}
use Rattle.shared_cells.specs.Cells.{Cells, with_words}
use Rattle.qp_multi.specs.declared.meaning.Operation.{Operation}
use Rattle.qp_multi.specs.Operations.{operated, applied}
use Rattle.qp_multi.specs.Passes.{Known, first_version, version_seen}
use Rattle.shared_cells.specs.History.{version_after}
use Rattle.std.specs.Prelude.{unwrap_or}
use Rattle.qp_multi.specs.Turns.{AgreesWithin}
use Rattle.qp_multi.specs.Keepings.{GoesOn}

pub words_go_on : (v w : Known) (words : List ℕ) → w ≡ with_words v words → GoesOn v w
words_go_on v w words e = record {
  pass = ap (λ (x : Known). x.pass) e;
  opening = ap (λ (x : Known). x.seen.opening) e;
  history = ap (λ (x : Known). x.seen.history) e;
  namings = ([], ap (λ (x : Known). x.seen.namings) e ∙ sym (append-nil v.seen.namings));
}

pub goes_further : {u v w : Known} → GoesOn u v → GoesOn v w → GoesOn u w
goes_further {u} {v} {w} a b = record {
  pass = b.pass ∙ a.pass;
  opening = b.opening ∙ a.opening;
  history = b.history ∙ a.history;
  namings = (a.namings.0 ++ b.namings.0, b.namings.1 ∙ ap (λ (ns : List Naming). ns ++ b.namings.0) a.namings.1 ∙ append_assoc u.seen.namings a.namings.0 b.namings.0);
}

-- the base is the same
pub base_goes_on : {v w : Known} → GoesOn v w → version_seen w.seen ≡ version_seen v.seen
base_goes_on {v} {w} g = ap (λ (o : Option (List Entry)). version_after applied (unwrap_or o []) w.seen.history) g.opening ∙ ap (version_after applied (unwrap_or v.seen.opening [])) g.history

pub first_goes_on : {v w : Known} → GoesOn v w → first_version w.seen ≡ first_version v.seen
first_goes_on g = ap (λ (o : Option (List Entry)). unwrap_or o []) g.opening

-- one operation more
pub applied_more : (es : List Entry) (operations : List Operation) (o : Operation) → applied es (operations ++ o ∷ []) ≡ operated (applied es operations) o
applied_more es operations o = fold-append operated es operations (o ∷ [])

pub agrees_wider : (least most : ℕ) (cells : Cells) (u : Ledger) (count : ℕ) → least ≤ most → AgreesWithin least cells u count → AgreesWithin most cells u count
agrees_wider least most cells u count le a = record { given = a.given; rows = a.rows; few_rows = (let l = a.few_rows in omega arith); last_live = a.last_live; immutable = a.immutable; passes = a.passes }

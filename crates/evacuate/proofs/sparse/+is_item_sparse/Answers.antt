use Rattle.std.proofs.Common.{inr, sym, ap, subst, ◌∙◌}
use Rattle.std.proofs.lemmas.Bool.{true≢false}
use Rattle.chunk_usage.specs.Counting.{is_sparse}
use Rattle.evacuate.specs.Sparse.{SparseExtents}
use Rattle.evacuate.proofs.SparseLaws.{lone_clear, sparse_behind, sparse_here}
use Rattle.evacuate.proofs.sparse.+is_item_sparse.Goals as goal

pub returns-then-is_chunk_sparse-clause-tells : goal.returns-then-is_chunk_sparse-clause-tells
returns-then-is_chunk_sparse-clause-tells g t c = record {
  some = λ e item x lies. sparse_here c.args.usage.now c.args.at x lies.from (ap (is_sparse c.args.usage.now) (sym c.chunk_of.ensures) ∙ sym c.is_chunk_sparse.ensures ∙ c.if-is_chunk_sparse.true);
  none = λ e item x lies sparse. true≢false e;
}

pub returns-in-None-clause-tells : goal.returns-in-None-clause-tells
returns-in-None-clause-tells g t c = record {
  some = λ e item x lies. absurd (true≢false (sym e));
  none = λ e item x lies.
      let clear = ap (is_sparse c.args.usage.now) (sym c.chunk_of.ensures) ∙ sym c.is_chunk_sparse.ensures ∙ c.if-is_chunk_sparse.false in
      lone_clear c.args.usage.now x lies (c.extent_behind.ensures.last c.in-None.is) clear;
}

pub returns-in-Some-clause-tells : goal.returns-in-Some-clause-tells
returns-in-Some-clause-tells g t c = record {
  some = λ e item x lies.
      let b = c.in-Some.ensures.behind.behind item x lies in
      subst (SparseExtents c.args.usage.now) (sym b.is) (inr (c.is_item_sparse.ensures.tells.some e b.item b.rest b.lies));
  none = λ e item x lies sparse.
      let b = c.in-Some.ensures.behind.behind item x lies in
      let clear = ap (is_sparse c.args.usage.now) (sym c.chunk_of.ensures) ∙ sym c.is_chunk_sparse.ensures ∙ c.if-is_chunk_sparse.false in
      c.is_item_sparse.ensures.tells.none e b.item b.rest b.lies (sparse_behind c.args.usage.now c.args.at b.rest clear (subst (SparseExtents c.args.usage.now) b.is sparse));
}

use Rattle.std.proofs.Common.{◌∙◌, [], length, sym, ap, arith}
use Rattle.std.proofs.lemmas.List.Sums.{position_or_len_is}
use Rattle.chunk_usage.specs.Ledger.{Row}
use Rattle.chunk_usage.specs.Keeping.{is_row_of}
use Rattle.chunk_usage.proofs.KeptLemmas.{kept_within}
use Rattle.chunk_usage.proofs.usage.versions.place_of.Goals as goal

pub returns-then-is_of-clause-first : goal.returns-then-is_of-clause-first
returns-then-is_of-clause-first c =
    sym (position_or_len_is (is_row_of c.args.version) c.args.rows.now c.loop-place.place c.index-rows-place.result (omega arith) (λ k l. c.loop-place.invariant k c.index-rows-place.result l)
    (λ l. ap (is_row_of c.args.version) (sym c.index-rows-place.is) ∙ sym c.is_of.ensures ∙ c.if-is_of.true))

-- the loop doesn't end by itself: some row is of the version
pub returns-clause-within : goal.returns-clause-within
returns-clause-within c =
    let d : Row = record { version = 0; chunks = [] } in
    let e = position_or_len_is (is_row_of c.args.version) c.args.rows.now (length c.args.rows.now) d (omega arith) (λ k l. c.loop-place.invariant k d (omega arith)) (λ l. absurd (omega arith)) in
    let w = kept_within c.args.rows.now c.args.version c.requires in
    absurd (omega arith)

pub returns-clause-first : goal.returns-clause-first
returns-clause-first c =
    let d : Row = record { version = 0; chunks = [] } in
    sym (position_or_len_is (is_row_of c.args.version) c.args.rows.now (length c.args.rows.now) d (omega arith) (λ k l. c.loop-place.invariant k d (omega arith)) (λ l. absurd (omega arith)))

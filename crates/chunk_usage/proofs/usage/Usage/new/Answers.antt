use Rattle.std.proofs.Common.{◌≡◌, false, not, length, sym, ap, subst, ◌∙◌, arith}
use Rattle.std.specs.Prelude.{count_by}
use Rattle.std.proofs.lemmas.List.{length-replicate}
use Rattle.chunk_usage.specs.Inside.{IsWhole}
use Rattle.chunk_sets.proofs.FlagLemmas.{all_clear}
use Rattle.chunk_usage.proofs.KeepingLaws.{unused_alike}
use Rattle.chunk_usage.proofs.usage.Usage.new.Goals as goal

pub invariant_of-result : goal.invariant_of-result
invariant_of-result c =
    let sets = c.in_ok-given.ensures in
    let n : length c.in_ok-given.given ≡ c.args.chunks = ap length sets.0 ∙ length-replicate c.args.chunks false in
    subst IsWhole (sym c.in_ok-new.ensures.ok) (record {
      ledger = unused_alike c.args.chunks c.args.passes c.requires.some_chunks c.requires.few_chunks c.requires.some_passes c.requires.few_passes c.in_ok-counts.counts c.in_ok-given.given c.in_ok-given.since
          c.in_ok-counts.ensures sets.0 sets.1;
      free = sym (ap (count_by not) sets.0 ∙ all_clear c.args.chunks);
      slots = c.in_ok-slots.ensures.count;
      within = omega arith;
      wide = λ k d l. c.in_ok-slots.ensures.wide k d l ∙ sym n;
      unreached = ap length sets.2 ∙ length-replicate c.args.chunks false ∙ sym n;
    })

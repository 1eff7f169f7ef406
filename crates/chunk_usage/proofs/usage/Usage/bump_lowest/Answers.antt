use Rattle.std.proofs.Common.{◌≡◌, ◌<◌, true, not, length, sym, ap, ◌∙◌, subst, arith}
use Rattle.std.specs.Prelude.{count_by}
use Rattle.std.proofs.lemmas.List.{length-set}
use Rattle.chunk_usage.specs.Ledger.{Ledger, free_count}
use Rattle.chunk_usage.specs.Inside.{ledger_of}
use Rattle.chunk_sets.proofs.FlagLemmas.{First, first_is, one_fewer_clear}
use Rattle.chunk_usage.proofs.HandingLaws.{with_bump_alike}
use Rattle.chunk_usage.proofs.InsideLemmas.{known}
use Rattle.chunk_usage.proofs.usage.Usage.bump_lowest.Goals as goal

first : (c : goal.After-insert-arg-1) → First c.first_absent-chunk.result c.deref_mut-state.result.now.given
first c =
    let known = known c.deref_mut-state.result.now c.self.inside.state.value c.args.self.now c.deref_mut-state.ensures.value c.self.invariant c.self.view_is in
    first_is c.deref_mut-state.result.now.given c.first_absent-chunk.result c.first_absent-chunk.ensures (subst (λ (l : Ledger). 0 < free_count l) (sym known.view_is) c.requires)

pub insert-requires : goal.insert-requires
insert-requires c = (first c).within

pub insert-requires-2 : goal.insert-requires-2
insert-requires-2 c =
    let known = known c.deref_mut-state.result.now c.self.inside.state.value c.args.self.now c.deref_mut-state.ensures.value c.self.invariant c.self.view_is in
    let f = first_is c.deref_mut-state.result.now.given c.first_absent-chunk.result c.first_absent-chunk.ensures (subst (λ (l : Ledger). 0 < free_count l) (sym known.view_is) c.requires) in
    let w = f.within in
    let n = known.whole.ledger.known_since in
    omega arith

pub invariant_of-self : goal.invariant_of-self
invariant_of-self c =
    let known = known c.deref_mut-state.result.now c.self.inside.state.value c.args.self.now c.deref_mut-state.ensures.value c.self.invariant c.self.view_is in
    let s = c.deref_mut-state.result.now in
    let chunk = c.first_absent-chunk.result in
    let f = first_is s.given chunk c.first_absent-chunk.ensures (subst (λ (l : Ledger). 0 < free_count l) (sym known.view_is) c.requires) in
    let n : length c.insert.new.self ≡ length s.given = ap length c.insert.ensures ∙ length-set s.given chunk true in
    record {
      ledger = with_bump_alike (ledger_of s) known.whole.ledger chunk f.within f.clear c.insert.new.self c.insert-2.new.self c.insert.ensures c.insert-2.ensures;
      free = let e = known.whole.free in let fewer = one_fewer_clear s.given chunk f.within f.clear in let m = ap (count_by not) c.insert.ensures in omega arith;
      slots = known.whole.slots;
      within = known.whole.within;
      wide = λ k d l. known.whole.wide k d l ∙ sym n;
      unreached = known.whole.unreached ∙ sym n;
    }

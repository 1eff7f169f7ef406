use Rattle.std.proofs.Common.{◌≡◌, ℕ, ◌+◌, Some, slice_get, inl, inr, refl, sym, subst, arith}
use Rattle.std.proofs.lemmas.Bool.{cases_lt}
use Rattle.std.proofs.lemmas.Option.{get_or_from_slice_get, slice_get_within}
use Rattle.trie_space.proofs.SpaceLaws.{open_later, wrote_refl, wrote_one, wrote_then}
use Rattle.trie_write.proofs.alloc.put_row.Goals as goal

pub put-requires : goal.put-requires
put-requires g c = let b = open_later c.requires.blank c.loop-i.invariant.wrote.same_given c.loop-i.invariant.wrote.same_kept in record { given = b.in_given c.loop-i.i c.loop-i-test.true; unkept = b.unkept c.loop-i.i c.loop-i-test.true }

pub loop-i-init : goal.loop-i-init
loop-i-init g c = record { written = λ k x l. absurd (omega arith); wrote = wrote_refl _ _ _ }

pub loop-i-preserved : goal.loop-i-preserved
loop-i-preserved g c = record {
  written = λ k x l e. elim (cases_lt k c.loop-i.i) [
    | inl lt ↦ c.put.ensures.others (c.args.at + k) x (λ f. omega arith) (c.loop-i.invariant.written k x lt e)
    | inr ge ↦ (let is : k ≡ c.loop-i.i = omega arith in let there : slice_get c.args.row.now c.loop-i.i ≡ Some x = subst (λ (n : ℕ). slice_get c.args.row.now n ≡ Some x) is e in
        subst (λ (n : ℕ). g.C.CellRead.has c.put.new.self (c.args.at + n) x) (sym is)
        (subst (g.C.CellRead.has c.put.new.self (c.args.at + c.loop-i.i)) (get_or_from_slice_get c.args.row.now c.loop-i.i x _ there) c.put.ensures.written))
  ];
  wrote = wrote_then c.loop-i.invariant.wrote (wrote_one (c.args.at + c.loop-i.i) c.loop-i.i c.loop-i-test.true refl c.put.ensures.others c.put.ensures.given c.put.ensures.kept);
}

pub returns-clause-written : goal.returns-clause-written
returns-clause-written g c i x e = c.loop-i.invariant.written i x (let f = c.loop-i-test.false in let l = slice_get_within c.args.row.now i x e in omega arith) e

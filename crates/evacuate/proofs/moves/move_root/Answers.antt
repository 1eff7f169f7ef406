use Rattle.std.proofs.Common.{◌≡◌, ◌+◌, ◌/◌, ◌≤◌, ℕ, true, arith, rules, subst}
use Rattle.trie_model.specs.Memory.{top_cell}
use Rattle.chunk_usage.specs.Rooms.{reserve_account_of}
use Rattle.trie_space.specs.Spaces.{IsWritable}
use Rattle.trie_space.specs.Weights.{mark}
use Rattle.trie_space.proofs.SpaceLaws.{fenced_of, fenced_counts, ready_counts}
use Rattle.trie_space.proofs.WeightLaws.{at_itself, mark_tells}
use Rattle.evacuate.proofs.FillingLaws.{moves_paid}
use Rattle.evacuate.proofs.TreeLaws.{root_counted, root_moved, later_counted, handed_writable, released_fewer, released_rest}
use Rattle.evacuate.proofs.moves.move_root.Goals as goal

pub copy_out-requires : goal.copy_out-requires
copy_out-requires g c =
    let h = c.requires.stood in
    let used = (reserve_account_of c.args.usage.now).used in
    record {
      length = record { some = omega arith; few = omega arith };
      row = search rules;
      there = λ i lt. let e : c.args.root ≡ c.args.root + i = omega arith in (top_cell h.t, subst (λ (q : ℕ). g.C.CellRead.has c.args.cells.now q (top_cell h.t)) e h.stood.rooted.top);
      in_use = λ i lt.
          let e : c.args.root ≡ c.args.root + i = omega arith in
          let met : 1 ≤ mark used c.args.root = (let a = h.stood.rooted.once c.args.root in let b = at_itself c.args.root in omega arith) in subst (λ (q : ℕ). used q ≡ true) e (mark_tells used c.args.root met);
      ready = c.requires.ready;
    }

pub release-requires-clause-counted : goal.release-requires-clause-counted
release-requires-clause-counted g c = later_counted c.args.usage.now c.copy_out.new.usage (c.args.root / 1024) c.in_ok-to.ensures.copied.handed (root_counted c.requires.stood.stood)

pub returns-clause-moved : goal.returns-clause-moved
returns-clause-moved g c = record {
  stood = λ es t h. root_moved h c.in_ok-to.ensures.copied.handed c.in_ok-to.ensures.takes.frame c.in_ok-to.ensures.copied.copied c.release.ensures;
  writable =
      let e : c.in_ok-to.to + 0 ≡ c.in_ok-to.to = omega arith in
      subst (IsWritable g.C.CellWrite.given reserve_account_of c.copy_out.new.cells c.release.new.self) e (handed_writable c.args.usage.now c.copy_out.new.usage c.args.root 1 c.in_ok-to.ensures.copied.handed c.in_ok-to.ensures.takes.ready.same c.release.ensures 0 (omega arith));
  elsewhere = c.in_ok-to.ensures.copied.elsewhere;
  paid = λ given fills old. moves_paid c.args.root (c.in_ok-to.ensures.takes.moves given fills) old (later_counted c.args.usage.now c.copy_out.new.usage (c.args.root / 1024) c.in_ok-to.ensures.copied.handed (root_counted c.requires.stood.stood)) c.release.ensures;
}

pub returns-clause-rest : goal.returns-clause-rest
returns-clause-rest g c =
    let rest = released_rest c.copy_out.new.usage c.args.root 1 c.release.ensures in
    record {
      frame = fenced_counts (fenced_of c.in_ok-to.ensures.takes.frame) rest (released_fewer c.copy_out.new.usage c.args.root 1 c.release.ensures);
      ready = ready_counts rest c.in_ok-to.ensures.takes.ready;
    }

pub returns-in_err-to-clause-rest : goal.returns-in_err-to-clause-rest
returns-in_err-to-clause-rest g c = let t = c.in_err-to.ensures.takes in record { frame = fenced_of t.frame; ready = t.ready }

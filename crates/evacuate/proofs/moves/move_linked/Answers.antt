use Rattle.std.proofs.Common.{◌≡◌, true, ◌/◌, ◌+◌, ◌<◌, ℕ, arith, refl, sym, ◌∙◌, ap, subst}
use Rattle.trie_model.proofs.ExtentLaws.{linked_is}
use Rattle.chunk_usage.specs.Rooms.{reserve_account_of}
use Rattle.trie_space.specs.Spaces.{IsWritable}
use Rattle.trie_space.proofs.SpaceLaws.{fenced_of, fenced_put, fenced_counts, fenced_same, ready_put, ready_counts, writable_later, slot_open}
use Rattle.evacuate.specs.Fillings.{Paid, is_old}
use Rattle.evacuate.proofs.BehindLaws.{goes_same}
use Rattle.evacuate.proofs.ChainLaws.{goes_behind, goes_moved}
use Rattle.evacuate.proofs.DescentLaws.{by_err}
use Rattle.evacuate.proofs.FillingLaws.{moves_paid}
use Rattle.evacuate.proofs.TreeLaws.{later_counted, handed_writable, released_fewer, released_rest}
use Rattle.evacuate.proofs.moves.move_linked.Goals as goal

pub next_extent-from-requires-clause-inside : goal.next_extent-from-requires-clause-inside
next_extent-from-requires-clause-inside g c = let b = goes_behind c.requires.goes.goes refl refl in let i = b.here.inside in let k = linked_is in omega arith

pub next_extent-from-requires-clause-there : goal.next_extent-from-requires-clause-there
next_extent-from-requires-clause-there g c = let b = goes_behind c.requires.goes.goes refl refl in (_, b.link, b.inside)

pub copy_out-requires : goal.copy_out-requires
copy_out-requires g c =
    let first = goes_behind c.requires.goes.goes refl refl in
    let e = c.next_extent-from.ensures.next _ first.link first.inside in
    let b = goes_behind (goes_same c.next_extent-from.ensures.same c.requires.goes.goes) e c.first_extent_for-n.ensures in
    record { length = record { some = b.row.some; few = b.row.few }; row = b.row.row; there = b.there; in_use = b.in_use; ready = ready_put c.requires.ready (ap g.C.CellWrite.given c.next_extent-from.ensures.same) (ap g.C.CellWrite.kept c.next_extent-from.ensures.same) }

pub link_of-requires : goal.link_of-requires
link_of-requires g c = let b = goes_behind c.requires.goes.goes refl refl in let i = b.here.inside in let k = linked_is in omega arith

pub put-requires : goal.put-requires
put-requires g c =
    let f = c.in_ok-to.ensures.takes.frame in
    let w = subst (IsWritable g.C.CellWrite.given reserve_account_of c.next_extent-from.new.cells c.args.usage.now) (sym c.link_of.ensures)
    (subst (λ s. IsWritable g.C.CellWrite.given reserve_account_of s c.args.usage.now (c.args.at + 255)) (sym c.next_extent-from.ensures.same) c.requires.writable) in
    record { given = f.given_stays (c.link_of.result / 1024) w.in_given; unkept = slot_open (writable_later w f.grows f.given_stays) c.in_ok-to.ensures.takes.ready }

pub release-requires : goal.release-requires
release-requires g c =
    let first = goes_behind c.requires.goes.goes refl refl in
    let e = c.next_extent-from.ensures.next _ first.link first.inside in
    let b = goes_behind c.requires.goes.goes e c.first_extent_for-n.ensures in
    record { counted = later_counted c.args.usage.now c.copy_out.new.usage (c.next_extent-from.result / 1024) c.in_ok-to.ensures.copied.handed b.counted; together = b.row.row.together }

pub returns-clause-moved : goal.returns-clause-moved
returns-clause-moved g c = record {
  goes = λ r es way e front rest goes.
      let first = goes_behind goes refl refl in
      let from = c.next_extent-from.ensures.next _ first.link first.inside in
      goes_moved (goes_same c.next_extent-from.ensures.same goes) from c.first_extent_for-n.ensures c.in_ok-to.ensures.copied.handed c.in_ok-to.ensures.takes.frame c.in_ok-to.ensures.copied.copied c.link_to.ensures c.link_of.ensures c.put.ensures.written c.put.ensures.others c.release.ensures;
  writable = λ i lt.
      handed_writable c.args.usage.now c.copy_out.new.usage c.next_extent-from.result c.first_extent_for-n.result c.in_ok-to.ensures.copied.handed (c.put.ensures.given ∙ c.in_ok-to.ensures.takes.ready.same) c.release.ensures i (subst (λ (n : ℕ). i < n) (sym c.first_extent_for-n.ensures) lt);
  paid = λ r es way e front rest goes given fills old.
      let first = goes_behind goes refl refl in
      let from = c.next_extent-from.ensures.next _ first.link first.inside in
      let b = goes_behind goes from c.first_extent_for-n.ensures in
      subst (λ n. Paid given n c.args.usage.now c.release.new.self) c.first_extent_for-n.ensures
      (moves_paid c.next_extent-from.result (c.in_ok-to.ensures.takes.moves given fills) (ap (is_old given) from ∙ old) (later_counted c.args.usage.now c.copy_out.new.usage (c.next_extent-from.result / 1024) c.in_ok-to.ensures.copied.handed b.counted) c.release.ensures);
}

pub returns-clause-rest : goal.returns-clause-rest
returns-clause-rest g c =
    let f = c.in_ok-to.ensures.takes.frame in
    let m = subst (λ (q : ℕ). (reserve_account_of c.copy_out.new.usage).mutable q ≡ true) (sym c.link_of.ensures) (f.grows.fresher (c.args.at + 255) c.requires.writable.mutable) in
    let rest = released_rest c.copy_out.new.usage c.next_extent-from.result c.first_extent_for-n.result c.release.ensures in
    record {
      frame = fenced_same c.next_extent-from.ensures.same
          (fenced_counts (fenced_put (fenced_of f) m c.put.ensures.others c.put.ensures.given c.put.ensures.kept) rest (released_fewer c.copy_out.new.usage c.next_extent-from.result c.first_extent_for-n.result c.release.ensures));
      ready = ready_counts rest (ready_put c.in_ok-to.ensures.takes.ready c.put.ensures.given c.put.ensures.kept);
    }

pub returns-in_err-to-clause-rest : goal.returns-in_err-to-clause-rest
returns-in_err-to-clause-rest g c = let t = c.in_err-to.ensures.takes in record { frame = fenced_same c.next_extent-from.ensures.same (fenced_of t.frame); ready = t.ready }

pub overflow_sub-len : goal.overflow_sub-len
overflow_sub-len g c = let long = (goes_behind c.requires.goes.goes refl refl).long in omega arith

pub returns-in_err-to-clause-unmoved : goal.returns-in_err-to-clause-unmoved
returns-in_err-to-clause-unmoved g c =
    let no = c.in_err-to.ensures.unmoved in by_err c.from_residual.result (record { full = no.full; same = no.same ∙ c.next_extent-from.ensures.same; unchanged = no.unchanged })

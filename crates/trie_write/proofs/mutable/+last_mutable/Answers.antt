use Rattle.std.proofs.Common.{◌+◌, ◌-◌, ◌/◌, ◌<◌, Bool, List, Fits-lit, arith, sym, ◌∙◌, ap, subst, rules}
use Rattle.std.proofs.Math.Facts.{Fits-lt}
use Rattle.chunk_cells.specs.Chunks.{IsGiven}
use Rattle.trie_space.specs.Spaces.{IsWritable, Ready}
use Rattle.trie_write.specs.Mutable.{IsParted}
use Rattle.trie_write.proofs.DescentLaws.{known}
use Rattle.trie_write.proofs.CopyLaws.{n_here, cell_used, old_lies, asks_on}
use Rattle.trie_write.proofs.SlotLaws.{parted_end, parted_here, parted_on}
use Rattle.trie_write.proofs.mutable.+last_mutable.Goals as goal

pub next_descent-requires : goal.next_descent-requires
next_descent-requires g t c = let a = c.requires.asks.asks in record { way = (c.args.low, record { way = c.requires.asks.way; end = c.requires.asks.end; top = a.hangs.top; is_way = a.is_way }) }

pub overflow_add-at : goal.overflow_add-at
overflow_add-at g t c =
    let a = c.requires.asks.asks in
    let told = c.in-Some.ensures.on c.args.low _ c.requires.asks.end a.hangs.top a.is_way in
    let n = n_here a told.through in let i = told.index_is in let r = (old_lies a told.through).inside in
    Fits-lt {n = 4194304} (omega arith) (Fits-lit tt)

pub last_mutable-requires : goal.last_mutable-requires
last_mutable-requires g t c κs within =
    let a = c.requires.asks.asks in
    let told = c.in-Some.ensures.on c.args.low _ c.requires.asks.end a.hangs.top a.is_way in
    let k = known a.hangs.top a.is_way told.through in
    let f : 504 - (c.in-Some.descent.branch.offset + 1) < 504 - c.args.low = let late = k.late in let early = k.early in omega arith in
    let next = asks_on a told.through {a1 = c.args.usage.now} {next = c.in-Some.descent.next} (λ z. omega arith) (λ q x u h. subst (λ s. g.C.CellRead.has s q x) (sym c.next_descent.ensures.same) h) (λ q u. u) told.next_is in
    let used = cell_used a told.through c.in-Some.descent.index (let n = n_here a told.through in let i = told.index_is in omega arith) in (
      search (rules, f),
      (
        within.0,
        (
          within.1,
          (
            record { way = told.through.rest; end = c.requires.asks.end; asks = next },
            (
              record { in_use = used; mutable = sym c.is_mutable.ensures.value ∙ c.if-is_mutable.true; in_given = subst (λ (x : List Bool). IsGiven x ((c.in-Some.descent.branch.twigs + c.in-Some.descent.index) / 1024)) (sym (ap g.C.CellWrite.given c.next_descent.ensures.same ∙ c.requires.ready.same)) (c.is_mutable.ensures.given used) },
              subst (λ s. Ready g.C.CellWrite.kept g.C.CellWrite.given g.U.Space.account s c.args.usage.now) (sym c.next_descent.ensures.same) c.requires.ready,
            ),
          ),
        ),
      ),
    )

pub returns-in-None-clause-last : goal.returns-in-None-clause-last
returns-in-None-clause-last g t c = record {
  parted = λ way end a. parted_end (c.next_descent.ensures.none c.in-None.is c.args.low way end a.hangs.top a.is_way) c.requires.writable.mutable a.hangs.top.is;
  writable = subst (λ s. IsWritable g.C.CellWrite.given g.U.Space.account s c.args.usage.now c.args.from.at) (sym c.next_descent.ensures.same) c.requires.writable;
}

pub returns-else-is_mutable-clause-last : goal.returns-else-is_mutable-clause-last
returns-else-is_mutable-clause-last g t c = record {
  parted = λ way end a.
      let told = c.in-Some.ensures.on c.args.low way end a.hangs.top a.is_way in
      parted_here _ told.through.is c.requires.writable.mutable (ap (λ i. (g.U.Space.account c.args.usage.now).mutable (c.in-Some.descent.branch.twigs + i)) (sym told.index_is) ∙ sym c.is_mutable.ensures.value ∙ c.if-is_mutable.false) a.hangs.top.is;
  writable = subst (λ s. IsWritable g.C.CellWrite.given g.U.Space.account s c.args.usage.now c.args.from.at) (sym c.next_descent.ensures.same) c.requires.writable;
}

pub returns-then-is_mutable-clause-last : goal.returns-then-is_mutable-clause-last
returns-then-is_mutable-clause-last g t c = record {
  parted = λ way end a.
      let told = c.in-Some.ensures.on c.args.low way end a.hangs.top a.is_way in
      let next = asks_on a told.through {a1 = c.args.usage.now} {next = c.in-Some.descent.next} (λ z. omega arith) (λ q x u h. subst (λ s. g.C.CellRead.has s q x) (sym c.next_descent.ensures.same) h) (λ q u. u) told.next_is in
      parted_on _ told.through.is c.requires.writable.mutable (subst (λ i. IsParted (g.U.Space.account c.args.usage.now).mutable (c.in-Some.descent.branch.twigs + i) told.through.rest end c.last_mutable.result.at c.last_mutable.result.node) told.index_is (c.last_mutable.ensures.last.parted told.through.rest end next));
  writable = c.last_mutable.ensures.last.writable;
}

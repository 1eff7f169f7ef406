use Rattle.std.proofs.Common.{◌≡◌, ℕ, ◌+◌, arith, refl, subst}
use Rattle.trie_model.specs.Extents.{row}
use Rattle.trie_model.specs.Reach.{in_chunk}
use Rattle.trie_space.specs.Spaces.{Wrote}
use Rattle.trie_space.proofs.SpaceLaws.{open_later, wrote_then, wrote_one}
use Rattle.trie_write.proofs.mutable.move_twigs.Goals as goal

pub copy_twigs-requires-clause-there : goal.copy_twigs-requires-clause-there
copy_twigs-requires-clause-there g c i l = c.requires.there i (let n = c.twig_count-n.ensures in omega arith)

pub copy_twigs-requires-clause-apart : goal.copy_twigs-requires-clause-apart
copy_twigs-requires-clause-apart g c i j l m = let n = c.twig_count-n.ensures in c.requires.apart i j (omega arith) (omega arith)

pub put-requires-clause-unkept : goal.put-requires-clause-unkept
put-requires-clause-unkept g c = (open_later c.requires.blank c.copy_twigs.ensures.wrote.same_given c.copy_twigs.ensures.wrote.same_kept).unkept c.args.descent.index c.requires.index

pub returns-clause-moves : goal.returns-clause-moves
returns-clause-moves g c =
    let n = c.twig_count-n.ensures in
    record {
      twig = c.put.ensures.written;
      copied = λ i x l ne h. c.put.ensures.others (c.args.to + i) x (λ e. ne (omega arith)) (c.copy_twigs.ensures.copied i x (omega arith) h);
      wrote = subst (Wrote g.C.CellRead.has g.C.CellWrite.kept g.C.CellWrite.given c.args.cells.now c.put.new.self c.args.to) n
          (wrote_then c.copy_twigs.ensures.wrote (wrote_one (c.args.to + c.args.descent.index) c.args.descent.index (let i = c.requires.index in omega arith) refl c.put.ensures.others c.put.ensures.given c.put.ensures.kept));
      counts = λ k. subst (λ (m : ℕ). (g.U.Space.account c.release.new.self).live k + row (in_chunk k) c.args.descent.branch.twigs m ≡ (g.U.Space.account c.args.usage.now).live k) n (c.release.ensures.counts k);
      rest = c.release.ensures.rest;
    }

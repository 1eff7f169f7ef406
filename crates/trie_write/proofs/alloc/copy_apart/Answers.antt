use Rattle.std.proofs.Common.{◌≡◌, ℕ, ◌+◌, ◌-◌, arith, ◌∙◌, subst}
use Rattle.trie_space.proofs.SpaceLaws.{apart_from, blank_part, open_later, frame_wrote, frame_refl, wrote_more, wrote_then, ready_wrote}
use Rattle.trie_write.proofs.alloc.copy_apart.Goals as goal

pub room_for-requires : goal.room_for-requires
room_for-requires g c = record { some = c.requires.some; few = c.requires.few; ready = c.requires.ready }

pub copy_twigs-requires : goal.copy_twigs-requires
copy_twigs-requires g c =
    let h = c.in_ok-to.ensures.room.handed in let x = c.requires.index in let r = h.twigs.inside in let d = c.requires.inside in
    record {
      inside = omega arith;
      within = omega arith;
      there = λ i l. let t = c.requires.there i (omega arith) in (t.0, c.in_ok-to.ensures.all _ t.0 t.1);
      apart = λ i j l m. apart_from h _ (c.requires.in_use i (omega arith)) j (omega arith);
      blank = blank_part c.in_ok-to.to c.args.index 0 c.in_ok-to.ensures.room.blank (omega arith) (omega arith);
    }

pub copy_twigs-requires-2 : goal.copy_twigs-requires-2
copy_twigs-requires-2 g c =
    let h = c.in_ok-to.ensures.room.handed in let x = c.requires.index in let r = h.twigs.inside in let d = c.requires.inside in let w = c.copy_twigs.ensures.wrote in
    record {
      inside = omega arith;
      within = omega arith;
      there = λ i l.
          let t = c.requires.there (c.args.index + c.args.skip + i) (omega arith) in
          let u = c.requires.in_use (c.args.index + c.args.skip + i) (omega arith) in
          let e : c.args.from.at + (c.args.index + c.args.skip + i) ≡ c.args.from.at + (c.args.index + c.args.skip) + i = omega arith in
          (t.0, subst (λ (q : ℕ). g.C.CellRead.has c.copy_twigs.new.cells q t.0) e (w.others _ t.0 (λ j l. apart_from h _ u j (omega arith)) (c.in_ok-to.ensures.all _ t.0 t.1)));
      apart = λ i j l m e. apart_from h _ (c.requires.in_use (c.args.index + c.args.skip + i) (omega arith)) (c.args.index + c.args.gap + j) (omega arith) (omega arith);
      blank = open_later (blank_part (c.in_ok-to.to + c.args.index + c.args.gap) (c.args.from.n - (c.args.index + c.args.skip)) (c.args.index + c.args.gap) c.in_ok-to.ensures.room.blank (omega arith) (omega arith)) w.same_given w.same_kept;
    }

pub returns-clause-copied : goal.returns-clause-copied
returns-clause-copied g c =
    let n = c.requires.index in let w = c.copy_twigs.ensures.wrote in let v = c.copy_twigs-2.ensures.wrote in
    record {
      handed = c.in_ok-to.ensures.room.handed;
      blank = open_later c.in_ok-to.ensures.room.blank (v.same_given ∙ w.same_given) (v.same_kept ∙ w.same_kept);
      before = λ i x l h. v.others (c.in_ok-to.to + i) x (λ j m e. omega arith) (c.copy_twigs.ensures.copied i x l (c.in_ok-to.ensures.all _ x h));
      after = λ i x l h.
          let u = c.requires.in_use (c.args.index + c.args.skip + i) l in
          let e : c.args.from.at + (c.args.index + c.args.skip + i) ≡ c.args.from.at + (c.args.index + c.args.skip) + i = omega arith in
          let f : c.in_ok-to.to + c.args.index + c.args.gap + i ≡ c.in_ok-to.to + (c.args.index + c.args.gap + i) = omega arith in
          let here = w.others _ x (λ j m. apart_from c.in_ok-to.ensures.room.handed _ u j (omega arith)) (c.in_ok-to.ensures.all _ x h) in
          subst (λ (q : ℕ). g.C.CellRead.has c.copy_twigs-2.new.cells q x) f (c.copy_twigs-2.ensures.copied i x (omega arith) (subst (λ (q : ℕ). g.C.CellRead.has c.copy_twigs.new.cells q x) e here));
    }

pub returns-clause-takes : goal.returns-clause-takes
returns-clause-takes g c =
    let n = c.requires.index in
    record {
      consumes = c.in_ok-to.ensures.takes.consumes;
      frame = frame_wrote c.in_ok-to.ensures.room.handed c.in_ok-to.ensures.takes.frame (frame_refl _ _)
          (wrote_then (wrote_more c.in_ok-to.to (c.args.from.n - c.args.skip + c.args.gap) 0 (omega arith) (omega arith) c.copy_twigs.ensures.wrote) (wrote_more c.in_ok-to.to (c.args.from.n - c.args.skip + c.args.gap) (c.args.index + c.args.gap) (omega arith) (omega arith) c.copy_twigs-2.ensures.wrote));
      ready = ready_wrote c.copy_twigs-2.ensures.wrote (ready_wrote c.copy_twigs.ensures.wrote c.in_ok-to.ensures.takes.ready);
    }

use Rattle.std.proofs.Common.{◌≡◌, ◌⊎◌, ℕ, ◌<◌, List, Bool, true, slice_set, Some, refl, ◌∙◌, sym, ap, subst, rules}
use Rattle.chunk_cells.specs.Chunks.{IsFree, IsGiven}
use Rattle.packed_node.specs.declared.Cell.{Cell}
use Rattle.chunk_usage.specs.Rooms.{Account, GivesChunk, Grows, Meets, OpensFree}
use Rattle.trie_space.specs.Spaces.{Frame, Ready}
use Rattle.trie_space.proofs.SpaceLaws.{handed_open, frame_given, ready_grows}
use Rattle.trie_write.proofs.alloc.room_for.Goals as goal

-- no chunk was given
frame_alloc : {S A : Type 0} {has : S → ℕ → Cell → Type 0} {kept : S → List ℕ} {given : S → List Bool} {account : A → Account} {s : S} {a a1 : A} → Ready kept given account s a → OpensFree (account a).given (account a).opened (account a1).opened → Grows (account a).used (account a1).used (account a).mutable (account a1).mutable →
    (account a1).reserved ≡ (account a).reserved → (account a1).frozen ≡ (account a).frozen → Meets (account a) (account a1) → Frame has kept given account s a s a1
frame_alloc {account = account} {a = a} {a1} ready opens grows spares frozen meets = record {
  stays = λ q x u h. h;
  frozen = λ q x m h. h;
  keeps = refl;
  given_stays = λ k h. h;
  opens = subst (λ (flags : List Bool). OpensFree flags (account a).opened (account a1).opened) (sym ready.same) opens;
  grows = grows;
  spares = spares;
  last = frozen;
  meets = subst (λ (flags : List Bool). (k : ℕ) → 0 < (account a1).live k → (0 < (account a).live k) ⊎ (((account a).opened k ≡ true) ⊎ (IsGiven flags k → ⊥))) (sym ready.same) meets;
}

free : (g : _) (c : goal.After-give g) → IsFree (g.C.CellWrite.given c.args.cells.now) c.in-Some.chunk
free g c =
    let gives = subst (GivesChunk (g.U.Space.account c.args.usage.now).given (g.U.Space.account c.alloc.new.self).given) c.in-Some.is c.in_ok-grant.ensures.grants.gives in
    subst (λ (flags : List Bool). IsFree flags c.in-Some.chunk) (sym c.requires.ready.same) gives.0

given_now : (g : _) (c : goal.After-give g) → g.C.CellWrite.given c.give.new.self ≡ (g.U.Space.account c.alloc.new.self).given
given_now g c =
    let gives = subst (GivesChunk (g.U.Space.account c.args.usage.now).given (g.U.Space.account c.alloc.new.self).given) c.in-Some.is c.in_ok-grant.ensures.grants.gives in
    c.give.ensures.given ∙ ap (λ (flags : List Bool). slice_set flags c.in-Some.chunk true) c.requires.ready.same ∙ sym gives.1

pub returns-in-Some-clause-room : goal.returns-in-Some-clause-room
returns-in-Some-clause-room g c = record {
  handed = c.in_ok-grant.ensures.grants.handed;
  blank = handed_open c.in_ok-grant.ensures.grants.handed c.requires.ready (ready_grows c.requires.ready (given_now g c) c.give.ensures.kept c.in_ok-grant.ensures.leaves.grows) c.give.ensures.kept;
}

pub returns-in-Some-clause-takes : goal.returns-in-Some-clause-takes
returns-in-Some-clause-takes g c = record {
  consumes = c.in_ok-grant.ensures.leaves.consumes;
  frame = frame_given (Some c.in-Some.chunk) (free g c, c.give.ensures.given) c.give.ensures.cells c.give.ensures.kept
      (subst (λ (flags : List Bool). OpensFree flags (g.U.Space.account c.args.usage.now).opened (g.U.Space.account c.alloc.new.self).opened) (sym c.requires.ready.same) c.in_ok-grant.ensures.leaves.opens) c.in_ok-grant.ensures.leaves.grows c.in_ok-grant.ensures.leaves.spares c.in_ok-grant.ensures.leaves.frozen
      (subst (λ (flags : List Bool). (k : ℕ) → 0 < (g.U.Space.account c.alloc.new.self).live k → (0 < (g.U.Space.account c.args.usage.now).live k) ⊎ (((g.U.Space.account c.args.usage.now).opened k ≡ true) ⊎ (IsGiven flags k → ⊥))) (sym c.requires.ready.same) c.in_ok-grant.ensures.leaves.meets);
  ready = ready_grows c.requires.ready (given_now g c) c.give.ensures.kept c.in_ok-grant.ensures.leaves.grows;
}

pub returns-clause-room : goal.returns-clause-room
returns-clause-room g c =
    let gives = subst (GivesChunk (g.U.Space.account c.args.usage.now).given (g.U.Space.account c.alloc.new.self).given) c.in_default.is c.in_ok-grant.ensures.grants.gives in
    record {
      handed = c.in_ok-grant.ensures.grants.handed;
      blank = handed_open c.in_ok-grant.ensures.grants.handed c.requires.ready (ready_grows c.requires.ready (c.requires.ready.same ∙ sym gives) refl c.in_ok-grant.ensures.leaves.grows) refl;
    }

pub returns-clause-takes : goal.returns-clause-takes
returns-clause-takes g c =
    let gives = subst (GivesChunk (g.U.Space.account c.args.usage.now).given (g.U.Space.account c.alloc.new.self).given) c.in_default.is c.in_ok-grant.ensures.grants.gives in
    record {
      consumes = c.alloc.ensures.leaves.consumes;
      frame = frame_alloc c.requires.ready c.alloc.ensures.leaves.opens c.alloc.ensures.leaves.grows c.alloc.ensures.leaves.spares c.alloc.ensures.leaves.frozen c.alloc.ensures.leaves.meets;
      ready = ready_grows c.requires.ready (c.requires.ready.same ∙ sym gives) refl c.alloc.ensures.leaves.grows;
    }

pub returns-in_err-grant-clause-takes : goal.returns-in_err-grant-clause-takes
returns-in_err-grant-clause-takes g c = record {
  consumes = c.alloc.ensures.leaves.consumes;
  frame = frame_alloc c.requires.ready c.alloc.ensures.leaves.opens c.alloc.ensures.leaves.grows c.alloc.ensures.leaves.spares c.alloc.ensures.leaves.frozen c.alloc.ensures.leaves.meets;
  ready = search rules;
}

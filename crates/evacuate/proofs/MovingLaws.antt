-- One move: room for the cells, and what it leaves. Moves one after the other.
use Rattle.std.proofs.Common.{◌≡◌, ◌⊎◌, ℕ, ◌<◌, slice_index, slice_set, Bool, true, List, Option, None, Some, Result, Ok, Err, refl, ◌∙◌, sym, ap, subst, arith}
use Rattle.std.specs.Prelude.{IfOk, IfErr}
use Rattle.packed_node.specs.declared.Cell.{Cell}
use Rattle.chunk_cells.specs.Chunks.{IsGiven}
use Rattle.chunk_usage.specs.declared.space.Grant.{Grant}
use Rattle.chunk_usage.specs.Handing.{allocated}
use Rattle.chunk_usage.specs.Ledger.{Ledger, is_bump}
use Rattle.chunk_usage.specs.Rooms.{GivesChunk, OpensFree, reserve_account_of}
use Rattle.trie_space.specs.Spaces.{Frame, Ready}
use Rattle.trie_space.proofs.SpaceLaws.{fenced_of, fenced_then, frame_given, frame_refl, handed_open, ready_grows}
use Rattle.evacuate.specs.Fillings.{Fills, Moves}
use Rattle.evacuate.specs.Moving.{AsksRoom, IsRoom, LeavesRest, MovesCells, Unmoved}
use Rattle.evacuate.proofs.FillingLaws.{Granted, moves_handed, moves_none, moves_then}
use Rattle.evacuate.proofs.ReserveLaws.{reserve_handing}

-- cells and counts agree on which chunks are given: a chunk was given by both, or none was
given_again : {flags flags1 cells cells1 : List Bool} (chunk : Option ℕ) → GivesChunk flags flags1 chunk → GivesChunk cells cells1 chunk → cells ≡ flags → cells1 ≡ flags1
given_again None a b same = b ∙ same ∙ sym a
given_again (Some k) a b same = b.1 ∙ ap (λ (x : List Bool). slice_set x k true) same ∙ sym a.1

-- cells were handed out, and the chunk that they lie in was given, if it wasn't
module _ {S : Type 0} {kept : S → List ℕ} {given : S → List Bool} {s s1 : S} {l l1 : Ledger} {n : ℕ} {g : Grant} (h : Granted l l1 n g) (ready : Ready kept given reserve_account_of s l) (chunk : Option ℕ) (is : g.given ≡ chunk) (gives : GivesChunk (given s) (given s1) chunk) (keeps : kept s1 ≡ kept s) where
  ready_there : Ready kept given reserve_account_of s1 l1
  ready_there = ready_grows ready (given_again chunk (subst (GivesChunk l.given l1.given) is h.hands.gives) gives ready.same) keeps h.hands.grows

  pub room_there : IsRoom kept given l s1 l1 g.at n
  room_there = record {
    handed = reserve_handing l l1 h.hands.handed;
    blank = handed_open (reserve_handing l l1 h.hands.handed) ready ready_there keeps;
    elsewhere = λ old fills. (h.fills old fills).elsewhere;
  }

  pub room_asked : {has : S → ℕ → Cell → Type 0} → ((q : ℕ) (c : Cell) → has s q c → has s1 q c) → l1 ≡ allocated 0 l n → AsksRoom has kept given n s l s1 l1
  room_asked all after = record {
    all = all;
    after = after;
    moves = λ old fills. moves_handed (h.fills old fills) h.hands;
    frame = frame_given chunk gives all keeps (subst (λ (flags : List Bool). OpensFree flags (is_bump l.bump) (is_bump l1.bump)) (sym ready.same) h.hands.opens) h.hands.grows refl h.hands.frozen
        (subst (λ (flags : List Bool). (k : ℕ) → 0 < slice_index l1.live k → (0 < slice_index l.live k) ⊎ ((is_bump l.bump k ≡ true) ⊎ (IsGiven flags k → ⊥))) (sym ready.same) h.hands.meets);
    ready = ready_there;
  }

module _ {S : Type 0} {has : S → ℕ → Cell → Type 0} {kept : S → List ℕ} {given : S → List Bool} where
  -- there was no room
  pub room_missing : {s : S} {l l1 : Ledger} {n : ℕ} → Ready kept given reserve_account_of s l → l1 ≡ l → l1 ≡ allocated 0 l n → AsksRoom has kept given n s l s l1
  room_missing {s} {l} {l1} {n} ready same after = record {
    all = λ q c h. h;
    after = after;
    moves = λ old fills. subst (Moves old n l) (sym same) (record { fills = fills; sparse = λ k z. z; fewer = omega arith; paid = omega arith });
    frame = subst (λ (u : Ledger). Frame has kept given reserve_account_of s l s u) (sym same) (frame_refl s l);
    ready = subst (λ (u : Ledger). Ready kept given reserve_account_of s u) (sym same) ready;
  }

  -- nothing was moved
  pub cells_same : {s s1 : S} {l l1 : Ledger} → s1 ≡ s → l1 ≡ l → Ready kept given reserve_account_of s l → MovesCells has kept given s l s1 l1
  cells_same {s} {s1} {l} {l1} e f ready =
      subst (λ z. MovesCells has kept given s l z l1) (sym e)
      (subst (MovesCells has kept given s l s) (sym f) (record { moves = λ old fills. moves_none old l fills; frame = fenced_of (frame_refl s l); ready = ready }))

  pub cells_then : {s s1 s2 : S} {l l1 l2 : Ledger} → MovesCells has kept given s l s1 l1 → MovesCells has kept given s1 l1 s2 l2 → MovesCells has kept given s l s2 l2
  cells_then a b = record {
    moves = λ old fills. let m = a.moves old fills in moves_then m (b.moves old m.fills);
    frame = fenced_then a.frame b.frame;
    ready = b.ready;
  }

  -- cells were read first
  pub cells_from : {s s1 s2 : S} {l l2 : Ledger} → s1 ≡ s → MovesCells has kept given s1 l s2 l2 → MovesCells has kept given s l s2 l2
  cells_from {s2 = s2} {l} {l2} e m = subst (λ z. MovesCells has kept given z l s2 l2) e m

  -- a move from an old chunk, or none
  pub cells_by : {s s1 : S} {l l1 : Ledger} {T E : Type 0} (r : Result T E) → IfOk r (λ to. (old : List Bool) → Fills old l → Moves old 0 l l1) → IfErr r (λ e. Unmoved s l s1 l1) → LeavesRest has kept given reserve_account_of s l s1 l1 → MovesCells has kept given s l s1 l1
  cells_by (Ok to) moves stays rest = record { moves = moves; frame = rest.frame; ready = rest.ready }
  cells_by {l = l} {l1} (Err e) moves stays rest = record { moves = λ old fills. subst (Moves old 0 l) (sym stays.unchanged) (moves_none old l fills); frame = rest.frame; ready = rest.ready }

-- Passes that learn what notes tell, from the last one on.
use Rattle.std.proofs.Common.{◌≡◌, ◌∙◌, inl, inr, ℕ, ◌+◌, ◌<◌, ◌≤◌, ◌++◌, ◌∷◌, [], List, length, map, take, set, Some, arith, refl, sym, ap, subst, length-append}
use Rattle.std.proofs.Math.Seq.{take-length}
use Rattle.std.proofs.lemmas.Option.{slice_get-map, slice_get_within}
use Rattle.std.specs.Option.{option_map}
use Rattle.std.proofs.lemmas.Bool.{cases_lt}
use Rattle.std.proofs.lemmas.List.{take_at}
use Rattle.std.specs.List.{slice_get}
use Rattle.qp_multi.specs.declared.meaning.Named.{Ghosts}
use Rattle.qp_multi.specs.declared.note.Note.{Note}
use Rattle.qp_multi.specs.declared.pass.Pass.{Pass}
use Rattle.qp_multi.specs.Passes.{Known, known_at, Learnt}
use Rattle.zone_table.specs.Notes.{SeenHistory, LearntAt}
use Rattle.zone_table.proofs.Lists.{cut_behind, at_seam, get_set, get_set_other, mapped_at, some_is}

module _ {X : Type 0} {N : Ghosts X} where
  abbrev pub known : List (Pass X N) → List Known
  known passes = map (λ z. known_at z.seat) passes

  abbrev pub told : List (Note X N) → List SeenHistory
  told notes = map (λ z. z.told.place.me.0.seen) notes

  -- the notes that are left, and those passes that have learnt
  pub record Learning (first now : List (Pass X N)) (notes left : List (Note X N)) : Type 0 where
    pub rest : left ≡ take (length left) notes
    pub before : (k : ℕ) → k < length left → slice_get now k ≡ slice_get first k
    pub learnt : (k : ℕ) → length left ≤ k → LearntAt (known first) (known now) (told notes) k

  module _ (first now : List (Pass X N)) (notes left front : List (Note X N)) (note : Note X N) (l : Learning first now notes left) (is : left ≡ front ++ note ∷ []) where
    count : length left ≡ length front + 1
    count = ap length is ∙ length-append front (note ∷ [])

    cut : (rest : List (Note X N)) × (notes ≡ front ++ (note ∷ rest))
    cut = cut_behind notes front note (length left) (sym is ∙ l.rest)

    pub last_note : slice_get notes (length front) ≡ Some note
    last_note = ap (λ (ns : List (Note X N)). slice_get ns (length front)) cut.1 ∙ at_seam front note cut.0

    pub learn_next : (k : ℕ) (p q : Pass X N) → k ≡ length front → slice_get now k ≡ Some p → k < length now → Learnt (known_at p.seat) (known_at q.seat) note.told.place.me.0.seen → Learning first (set now k q) notes front
    learn_next k p q place there inside learnt = record {
      rest = sym (ap (take (length front)) cut.1 ∙ take_at front (note ∷ cut.0) (length front) refl);
      before = λ j m. get_set_other now k j q (λ e. absurd (omega arith)) ∙ l.before j (let n = count in omega arith);
      learnt = λ j m. elim (cases_lt k j) [
        | inl g ↦ (λ v w t iv iw it. l.learnt j (let n = count in omega arith) v w t iv (sym (other j (λ e. absurd (omega arith))) ∙ iw) it)
        | inr g ↦ here j (omega arith)
      ];
    }
      where
        other : (j : ℕ) → (j ≡ k → ⊥) → slice_get (known (set now k q)) j ≡ slice_get (known now) j
        other j e = slice_get-map (λ z. known_at z.seat) (set now k q) j ∙ ap (option_map (λ z. known_at z.seat)) (get_set_other now k j q e) ∙ sym (slice_get-map (λ z. known_at z.seat) now j)

        here : (j : ℕ) → j ≡ k → LearntAt (known first) (known (set now k q)) (told notes) j
        here j e v w t iv iw it =
            let first_p : slice_get first j ≡ Some p = sym (l.before j (let n = count in omega arith)) ∙ ap (slice_get now) e ∙ there in
            let now_q : slice_get (set now k q) j ≡ Some q = ap (slice_get (set now k q)) e ∙ get_set now k q inside in
            let note_j : slice_get notes j ≡ Some note = ap (slice_get notes) (e ∙ place) ∙ last_note in
            let v_is : known_at p.seat ≡ v = some_is (known_at p.seat) v (sym (mapped_at (λ z. known_at z.seat) first j p first_p) ∙ iv) in
            let w_is : known_at q.seat ≡ w = some_is (known_at q.seat) w (sym (mapped_at (λ z. known_at z.seat) (set now k q) j q now_q) ∙ iw) in
            let t_is : note.told.place.me.0.seen ≡ t = some_is note.told.place.me.0.seen t (sym (mapped_at (λ z. z.told.place.me.0.seen) notes j note note_j) ∙ it) in
            subst (λ (x : Known). Learnt x w t) v_is (subst (λ (x : Known). Learnt (known_at p.seat) x t) w_is (subst (Learnt (known_at p.seat) (known_at q.seat)) t_is learnt))

  pub learn_first : (all : List (Pass X N)) (notes : List (Note X N)) → length (known all) ≤ length notes → Learning all all notes notes
  learn_first all notes few = record {
    rest = sym (take-length notes);
    before = λ k l. refl;
    learnt = λ k m v w t iv iw it. absurd (let l = slice_get_within (known all) k v iv in omega arith);
  }

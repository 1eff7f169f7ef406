use Rattle.std.proofs.Common.{◌≡◌, ℕ, List, length, get_or, arith, ap, sym, ◌∙◌, inl, inr, get_or-take}
use Rattle.std.proofs.lemmas.Bool.{cases_lt}
use Rattle.std.proofs.lemmas.List.{get_or_past}
use Rattle.zone_model.proofs.KeyLaws.{length-key_of}
use Rattle.shift_key.proofs.Key.position.Goals as goal

pub bounds-self-inside-place : goal.bounds-self-inside-place
bounds-self-inside-place c = omega (arith, length-key_of c.self.inside.name c.self.invariant.name, c.requires, ap (λ (l : List ℕ). length l) c.self.view_is)

pub returns : goal.returns
returns c =
    let laid = c.self.invariant.laid in
    let same = ap (λ (l : List ℕ). length l) c.self.view_is in
    elim (cases_lt c.args.place c.self.inside.len) [
      | inl lt ↦ sym (get_or-take c.self.inside.len c.self.inside.places c.args.place 0 lt) ∙ ap (λ (l : List ℕ). get_or l c.args.place 0) (laid.front ∙ c.self.view_is)
      | inr past ↦
          let end : c.args.place ≡ c.self.inside.len = omega (arith, laid.len_is, same, c.requires) in
          ap (λ (i : ℕ). get_or c.self.inside.places i 0) end ∙ c.self.invariant.ended ∙ sym (get_or_past c.args.self.now c.args.place 0 (omega (arith, laid.len_is, same, c.requires)))
    ]

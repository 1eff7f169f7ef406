use Rattle.std.proofs.Common.{◌≡◌, ◌∙◌, ◌+◌, inl, inr, ℕ, List, [], ◌∷◌, Some, length, length-append, get_or, sym, ap, subst}
use Rattle.std.specs.List.{slice_get}
use Rattle.zone_table.proofs.Lists.{last_or_before}
use Rattle.zones_threads.proofs.ending.versions_in.Goals as goal

pub loop-zone-preserved : goal.loop-zone-preserved
loop-zone-preserved c =
    let i = c.loop-zone.invariant in
    let place = c.loop-zone.zone in
    let numbers = c.args.numbers.now in
    let versions = c.loop-zone.versions.items in
    let pushed = c.in_ok-push.ensures.items in
    let here = get_or numbers (place + 1) 0 in
    record {
      many = ap length pushed ∙ length-append versions (here ∷ []) ∙ ap (λ (n : ℕ). n + 1) i.many;
      each = λ zone version there. elim (last_or_before versions here version zone (subst (λ (l : List ℕ). slice_get l zone ≡ Some version) pushed there)) [
        | inl l ↦ i.each zone version l.1
        | inr r ↦ sym r.1 ∙ ap (λ (n : ℕ). get_or numbers (n + 1) 0) (sym (r.0 ∙ i.many))
      ];
    }

use Rattle.std.proofs.Common.{◌≡◌, ◌∙◌, ℕ, ◌+◌, ◌-◌, ◌≤◌, List, length, take, drop, refl, sym, ap, arith, Some, None, length-drop}
use Rattle.std.proofs.lemmas.List.{take_all}
use Rattle.std.proofs.lemmas.Grind.{common_steps}
use Rattle.session_lines.specs.Taking.{IsUnbroken}
use Rattle.session_lines.proofs.SearchLaws.{line_found, line_missed, searched_rest, unbroken_all}
use Rattle.session_lines.proofs.intake.Intake.next_line.Goals as goal

pub invariant_of-self : goal.invariant_of-self
invariant_of-self c =
    let f = c.self.invariant in
    let i = c.self.inside in
    let len = c.len-self-inside.ensures in
    (omega arith, omega arith, unbroken_all i.from i.searched _ i.bytes.items _ c.deref.ensures.value f.0 f.1 f.2 (omega arith) c.in-None.ensures, f.3)

pub returns-in-Some-clause-found : goal.returns-in-Some-clause-found
returns-in-Some-clause-found c =
    let f = c.self.invariant in
    let i = c.self.inside in
    let len = length-drop i.from i.bytes.items in
    line_found (i.searched - i.from) c.in-Some.n (drop i.from i.bytes.items) _ _ (sym (ap (λ v. v.bytes) c.self.view_is)) (searched_rest i.from i.searched i.bytes.items _ c.deref.ensures.value f.0 f.1) (omega arith) f.2 c.in-Some.ensures

pub returns-in-None-clause-found : goal.returns-in-None-clause-found
returns-in-None-clause-found c =
    let f = c.self.invariant in
    let i = c.self.inside in
    let len = length-drop i.from i.bytes.items in
    line_missed (i.searched - i.from) (drop i.from i.bytes.items) _ _ (sym (ap (λ v. v.bytes) c.self.view_is)) (searched_rest i.from i.searched i.bytes.items _ c.deref.ensures.value f.0 f.1) (omega arith) f.2 c.in-None.ensures

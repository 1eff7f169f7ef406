use Rattle.std.proofs.Common.{◌++◌, ℕ, List, drop, sym, ap, subst, ◌∙◌, take-append-drop}
use Rattle.zone_model.specs.Names.{wire, IsName}
use Rattle.dns_name.proofs.Name.from_wire.Goals as goal

pub returns-clause-found : goal.returns-clause-found
returns-clause-found c =
    let bytes = c.args.bytes.now in
    let n = c.in_ok-len.len in
    let name = c.in_ok-len.ensures.found in
    let same = c.of_wire.ensures name.0 name.1 name.2 in
    (drop n bytes, sym (take-append-drop n bytes) ∙ ap (λ (l : List ℕ). l ++ drop n bytes) name.2 ∙ ap (λ (l : List (List ℕ)). wire l ++ drop n bytes) (sym same))

pub returns-clause-name : goal.returns-clause-name
returns-clause-name c =
    let name = c.in_ok-len.ensures.found in
    subst IsName (sym (c.of_wire.ensures name.0 name.1 name.2)) name.1

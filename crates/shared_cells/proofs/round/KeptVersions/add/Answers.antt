use Rattle.std.proofs.Common.{◌≡◌, ℕ, List, length, sym, ap, subst, ◌⊎◌, arith}
use Rattle.std.specs.List.{Contains}
use Rattle.std.proofs.lemmas.List.Edits.{length-insert}
use Rattle.shared_cells.proofs.KeptLaws.{Rises, search_place, insert_rises, insert_has, insert_keeps, insert_only}
use Rattle.shared_cells.proofs.round.KeptVersions.add.Goals as goal

pub invariant_of-self : goal.invariant_of-self
invariant_of-self c =
    let xs = c.self.inside.versions.items in
    let at = search_place xs c.deref.result.now c.args.version c.in-Err.place c.binary_search.result c.deref.ensures.0 c.self.invariant c.binary_search.ensures.position c.in-Err.is in
    subst Rises (sym c.insert.ensures.items) (insert_rises xs c.in-Err.place c.args.version at.0 at.1 at.2 c.self.invariant)

pub returns-in-Err-clause-rising : goal.returns-in-Err-clause-rising
returns-in-Err-clause-rising c =
    let xs = c.self.inside.versions.items in
    let at = search_place xs c.deref.result.now c.args.version c.in-Err.place c.binary_search.result c.deref.ensures.0 c.self.invariant c.binary_search.ensures.position c.in-Err.is in
    subst Rises (sym c.insert.ensures.items) (insert_rises xs c.in-Err.place c.args.version at.0 at.1 at.2 c.self.invariant)

pub returns-in-Err-clause-adds : goal.returns-in-Err-clause-adds
returns-in-Err-clause-adds c =
    let xs = c.self.inside.versions.items in
    let at = search_place xs c.deref.result.now c.args.version c.in-Err.place c.binary_search.result c.deref.ensures.0 c.self.invariant c.binary_search.ensures.position c.in-Err.is in
    record {
      has = subst (λ (ys : List ℕ). Contains ys c.args.version) (sym c.insert.ensures.items) (insert_has xs c.in-Err.place c.args.version at.0 at.1 at.2);
      keeps = λ v has. subst (λ (ys : List ℕ). Contains ys v) (sym c.insert.ensures.items) (insert_keeps xs c.in-Err.place c.args.version at.0 at.1 at.2 v (subst (λ (ys : List ℕ). Contains ys v) (sym c.self.view_is) has));
      only = λ v has. subst (λ (ys : List ℕ). (v ≡ c.args.version) ⊎ Contains ys v) c.self.view_is (insert_only xs c.in-Err.place c.args.version at.0 at.1 at.2 v (subst (λ (ys : List ℕ). Contains ys v) c.insert.ensures.items has));
      few = (let e = ap length c.insert.ensures.items in let l = length-insert xs c.in-Err.place c.args.version at.0 in let v = ap length c.self.view_is in omega arith);
    }

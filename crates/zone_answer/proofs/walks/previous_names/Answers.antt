use Rattle.std.proofs.Common.{◌≡◌, ◌∙◌, ◌++◌, ◌∷◌, [], List, reverse, Some, None, sym, subst, arith}
use Rattle.std.specs.Map.{keys_of}
use Rattle.zone_model.specs.Names.{Name}
use Rattle.trie_model.specs.Keys.{Entry}
use Rattle.zone_answer.proofs.WalkLaws.{Backed, passed_leaf, backed_on, backed_out, standing_back, wanted}
use Rattle.zone_answer.proofs.walks.previous_names.Goals as goal

pub name-requires : goal.name-requires
name-requires g c =
    let f = passed_leaf (g.V.Reading.stands c.loop-version.version c.loop-version.iter) (g.V.Reading.lies c.loop-version.version) c.in-Some.leaf c.loop-version.invariant.standing c.in-Some.ensures.step.prev (λ b x. let none : Some c.in-Some.leaf ≡ None = c.in-Some.ensures.step.beginning b x in cc) in
    (f.0, subst (λ v. g.V.Reading.lies v c.in-Some.leaf f.0) (sym c.prev_leaf.ensures.same) f.1)

pub returns-in_default-clause-names : goal.returns-in_default-clause-names
returns-in_default-clause-names g c rest after items s =
    let w = c.loop-version.invariant.backed rest after items s in
    wanted c.loop-version.names.items (reverse (keys_of rest)) c.args.most (backed_out (g.V.Reading.stands c.loop-version.version c.loop-version.iter) c.loop-version.names.items (reverse (keys_of rest)) w c.in_default.ensures.step.prev) c.loop-version.invariant.few

pub loop-version-preserved : goal.loop-version-preserved
loop-version-preserved g c =
    let old : List Entry → List Entry → Type 0 = g.V.Reading.stands c.loop-version.version c.loop-version.iter in
    let new : List Entry → List Entry → Type 0 = g.V.Reading.stands c.name.new.self c.prev_leaf.new.iter in
    let same = c.name.ensures.same ∙ c.prev_leaf.ensures.same in
    let passed : (before after : List Entry) (e : Entry) → old (before ++ e ∷ []) after → new before (e ∷ after) = λ b a e x. subst (λ v. g.V.Reading.stands v c.prev_leaf.new.iter b (e ∷ a)) (sym same) (c.in-Some.ensures.step.passed b a e x) in
    let never : (after : List Entry) → old [] after → ⊥ = λ b x. (let none : Some c.in-Some.leaf ≡ None = c.in-Some.ensures.step.beginning b x in cc) in
    record {
      same = same ∙ c.loop-version.invariant.same;
      standing = standing_back old new c.loop-version.invariant.standing never passed;
      few = omega (arith, c.in_ok-push.ensures.len, c.loop-version-test.true);
      backed = λ rest after items s.
          let w = c.loop-version.invariant.backed rest after items s in
          subst (λ (l : List Name). Backed new l (reverse (keys_of rest))) (sym c.in_ok-push.ensures.items)
          (backed_on old new c.loop-version.names.items (reverse (keys_of rest)) c.name.result c.name.ensures.name w
          (λ b a e x. c.name.ensures.key e (subst (λ v. g.V.Reading.lies v c.in-Some.leaf e) (sym c.prev_leaf.ensures.same) (c.in-Some.ensures.step.prev b a e x))) never passed);
    }

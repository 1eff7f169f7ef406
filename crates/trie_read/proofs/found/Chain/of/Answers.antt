use Rattle.std.proofs.Common.{ℕ, List, ◌≡◌, ◌≤◌, ◌++◌, ◌∷◌, [], ◌∙◌, length, take, map, get_or, length-set, arith, sym, ap}
use Rattle.std.proofs.lemmas.List.{take_more, take_more_set, map-append}
use Rattle.std.proofs.Math.Seq.{take-length}
use Rattle.trie_read.specs.declared.ancestors.Ancestor.{Ancestor}
use Rattle.trie_read.proofs.found.Chain.of.Goals as goal

pub bounds-labels-i : goal.bounds-labels-i
bounds-labels-i c = let few = c.as_slice-names.ensures.few in let n = ap (λ (xs : List Ancestor). length xs) c.as_slice-names.ensures.names in let l = c.loop-i-test.true in omega arith

pub overflow_cast-len : goal.overflow_cast-len
overflow_cast-len c = let few = c.as_slice-names.ensures.few in let n = ap (λ (xs : List Ancestor). length xs) c.as_slice-names.ensures.names in omega arith

pub loop-i-preserved : goal.loop-i-preserved
loop-i-preserved c =
    let few = c.as_slice-names.ensures.few in let n = ap (λ (xs : List Ancestor). length xs) c.as_slice-names.ensures.names in let l = c.loop-i-test.true in
    let long = c.loop-i.invariant.long in
    let labels : Ancestor → ℕ = λ a. a.labels in
    let none : Ancestor = record { leaf = record { len = 0; at = 0 }; labels = 0 } in
    record {
      long = length-set c.loop-i.labels c.loop-i.i _ ∙ long;
      front = take_more_set c.loop-i.labels c.loop-i.i _ (omega arith) ∙ ap (λ (ls : List ℕ). ls ++ (labels (get_or c.as_slice-names.result.now c.loop-i.i none) ∷ [])) c.loop-i.invariant.front
          ∙ sym (ap (map labels) (take_more c.as_slice-names.result.now c.loop-i.i none l) ∙ map-append labels (take c.loop-i.i c.as_slice-names.result.now) (get_or c.as_slice-names.result.now c.loop-i.i none ∷ []));
    }

pub invariant_of-result : goal.invariant_of-result
invariant_of-result c = let few = c.as_slice-names.ensures.few in let n = ap (λ (xs : List Ancestor). length xs) c.as_slice-names.ensures.names in record { fits = (let m : length c.as_slice-names.result.now ≤ 128 = omega arith in m) }

pub returns : goal.returns
returns c =
    let labels : Ancestor → ℕ = λ a. a.labels in
    let end : length c.as_slice-names.result.now ≡ c.loop-i.i = let l = c.loop-i-test.false in let m = c.loop-i.auto.i-end in omega arith in
    ap (λ (n : ℕ). take n c.loop-i.labels) end ∙ c.loop-i.invariant.front ∙ ap (λ (n : ℕ). map labels (take n c.as_slice-names.result.now)) (sym end) ∙ ap (map labels) (take-length c.as_slice-names.result.now ∙ c.as_slice-names.ensures.names)

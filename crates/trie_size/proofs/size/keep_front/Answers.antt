use Rattle.std.proofs.Common.{◌≡◌, ℕ, List, length, min, take, drop, arith, ◌∙◌, ap}
use Rattle.std.proofs.lemmas.List.{length-take, take_at, take_min}
use Rattle.trie_size.proofs.size.keep_front.Goals as goal

pub returns-clause-front : goal.returns-clause-front
returns-clause-front c =
    let n = c.min-len.result in
    let item = c.args.item.now in
    let few : n ≡ min 255 (length item) = omega arith in
    let copied = c.copy_from_slice.ensures.after in
    let front = ap (λ (k : ℕ). take k item) few ∙ take_min 255 item in
    let long : length c.copy_from_slice.new.self ≡ n = let l = ap (λ (xs : List ℕ). length xs) copied in let k = length-take n item in omega arith in
    take_at c.copy_from_slice.new.self (drop n c.args.last.now) n long ∙ copied ∙ front

use Rattle.std.proofs.Common.{◌≡◌, ◌++◌, ◌∷◌, [], ℕ, List, length, ap, ◌∙◌, arith}
use Rattle.zone_model.specs.Names.{star_under}
use Rattle.dns_name.proofs.WireLemmas.{name_star}
use Rattle.dns_name.proofs.Name.star.Goals as goal

-- the octets in their order
laid : (none one two all slice bytes octets : List ℕ) → none ≡ [] → one ≡ none ++ 1 ∷ [] → two ≡ one ++ 42 ∷ [] → all ≡ two ++ bytes → slice ≡ all → bytes ≡ octets → slice ≡ 1 ∷ 42 ∷ octets
laid none one two all slice bytes octets a b c d e f =
    let start : two ≡ 1 ∷ 42 ∷ [] = c ∙ ap (λ (l : List ℕ). l ++ 42 ∷ []) (b ∙ ap (λ (l : List ℕ). l ++ 1 ∷ []) a) in
    e ∙ d ∙ ap (λ (l : List ℕ). l ++ bytes) start ∙ ap (λ (l : List ℕ). 1 ∷ 42 ∷ l) f

pub of_wire-requires : goal.of_wire-requires
of_wire-requires c = (
  star_under c.args.self.now,
  name_star c.args.self.now c.wire-bytes.ensures.name (omega (arith, c.if-bytes-gt253.false, ap length c.wire-bytes.ensures.wire)),
  laid _ _ _ _ _ _ _ c.new-octets.ensures c.push.ensures c.push-2.ensures c.append.ensures c.as_slice.ensures c.wire-bytes.ensures.wire,
)

pub returns : goal.returns
returns c =
    c.of_wire.ensures (star_under c.args.self.now) (name_star c.args.self.now c.wire-bytes.ensures.name (omega (arith, c.if-bytes-gt253.false, ap length c.wire-bytes.ensures.wire))) (laid _ _ _ _ _ _ _ c.new-octets.ensures c.push.ensures c.push-2.ensures c.append.ensures c.as_slice.ensures c.wire-bytes.ensures.wire)

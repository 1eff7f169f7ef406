use Rattle.std.proofs.Common.{◌≡◌, ◌∙◌, ℕ, ◌<◌, List, get_or, IfSome, IsNone, Option, Some, None, refl, sym, ap, arith}
use Rattle.std.specs.Option.{option_map}
use Rattle.zone_model.specs.Names.{Name, IsName, BeginsWith}
use Rattle.zone_model.specs.Splits.{split_name}
use Rattle.zone_model.proofs.SplitLemmas.{name_back, name_sound, SplitsName}
use Rattle.zone_answer.proofs.step.name_in.Goals as goal

none_splits : (bytes : List ℕ) (o : Option (Name × List ℕ)) → split_name bytes ≡ o → ((i : ℕ) → get_or bytes i 0 < 256) → ((name : Name) → IsName name → BeginsWith bytes name → ⊥) → None ≡ option_map (λ x. x.0) o
none_splits bytes None e b never = refl
none_splits bytes (Some x) e b never = let s : SplitsName bytes x = name_sound bytes x b e in absurd (never x.0 s.name (x.1, s.octets))

named : (bytes : List ℕ) (o : Option Name) → ((i : ℕ) → get_or bytes i 0 < 256) → IfSome o IsName → IfSome o (BeginsWith bytes) → (IsNone o → (name : Name) → IsName name → BeginsWith bytes name → ⊥) → o ≡ option_map (λ x. x.0) (split_name bytes)
named bytes None b is begins never = none_splits bytes (split_name bytes) refl b (never refl)
named bytes (Some name) b is begins never = sym (ap (λ (l : List ℕ). option_map (λ x. x.0) (split_name l)) begins.1 ∙ ap (option_map (λ x. x.0)) (name_back name begins.0 is))

pub returns : goal.returns
returns c = named c.args.octets.now c.from_wire.result (λ i. let k : get_or c.args.octets.now i 0 < 256 = omega (arith, c.type_inv.octets i) in k) c.from_wire.ensures.name c.from_wire.ensures.found c.from_wire.ensures.none

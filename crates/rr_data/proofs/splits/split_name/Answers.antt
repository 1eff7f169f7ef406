use Rattle.std.proofs.Common.{◌≡◌, ◌∙◌, ℕ, List, ◌++◌, ◌-◌, length, take, drop, get_or, ◌<◌, sym, ap, refl, arith, Option, Some, None, length-append}
use Rattle.std.proofs.lemmas.List.{drop_at}
use Rattle.std.proofs.Math.Seq.{take-length}
use Rattle.zone_model.specs.Names.{Name, wire, IsName, BeginsWith}
use Rattle.zone_model.specs.Splits.{split_name}
use Rattle.zone_model.proofs.SplitLemmas.{name_back, name_sound, SplitsName}
use Rattle.rr_data.proofs.splits.split_name.Goals as goal

nothing_splits : (bytes : List ℕ) (o : Option (Name × List ℕ)) → split_name bytes ≡ o → ((i : ℕ) → get_or bytes i 0 < 256) → ((name : Name) → IsName name → BeginsWith bytes name → ⊥) → None ≡ split_name bytes
nothing_splits bytes None e b n = sym e
nothing_splits bytes (Some x) e b n = let s : SplitsName bytes x = name_sound bytes x b e in absurd (n x.0 s.name (x.1, s.octets))

splits : (bytes w behind : List ℕ) (name : Name) → IsName name → w ≡ wire name → bytes ≡ wire name ++ behind → Some (name, take (length bytes - length w) (drop (length w) bytes)) ≡ split_name bytes
splits bytes w behind name n e b =
    let front : drop (length w) bytes ≡ behind = ap (drop (length w)) b ∙ drop_at (wire name) behind (length w) (ap (λ (l : List ℕ). length l) (sym e)) in
    let size : length bytes - length w ≡ length behind = omega (arith, ap (λ (l : List ℕ). length l) b, ap (λ (l : List ℕ). length l) e, length-append (wire name) behind) in
    ap (λ (l : List ℕ). Some (name, take (length bytes - length w) l)) front ∙ ap (λ (k : ℕ). Some (name, take k behind)) size ∙ ap (λ (l : List ℕ). Some (name, l)) (take-length behind) ∙ sym (ap split_name b ∙ name_back name behind n)

pub returns-in_err-name : goal.returns-in_err-name
returns-in_err-name c = rw c.from_residual.ensures (nothing_splits c.args.octets.now (split_name c.args.octets.now) refl (λ i. let k : get_or c.args.octets.now i 0 < 256 = omega (arith, c.type_inv.octets i) in k) (c.in_err-name.ensures.none refl))

pub returns : goal.returns
returns c = splits c.args.octets.now c.wire-len.result.now c.in_ok-name.ensures.found.0 c.in_ok-name.name c.wire-len.ensures.name c.wire-len.ensures.wire c.in_ok-name.ensures.found.1

use Rattle.std.proofs.Common.{ℕ, ◌≡◌, ◌+◌, ◌-◌, take, drop, subst, arith}
use Rattle.std.specs.List.{AllByRecursion}
use Rattle.zone_model.specs.Names.{IsFolded}
use Rattle.dns_name.proofs.ScanLemmas.{found_label}
use Rattle.dns_name.proofs.scan.label_len.Goals as goal

pub returns-clause-found : goal.returns-clause-found
returns-clause-found c =
    let cut : c.in_ok-len.field-0.now + 1 - 1 ≡ c.in_ok-len.field-0.now = omega arith in
    let folded = subst (λ (n : ℕ). AllByRecursion IsFolded (take n (drop 1 c.args.bytes.now))) cut (c.is_folded.ensures.0 c.if-not-is_folded.false) in
    found_label c.args.bytes.now c.in_ok-len.field-0.now c.in_ok-len.ensures.value c.if-len-eq0.false c.if-len-gt63.false c.if-len-bytes.false (λ i. omega (arith, c.type_inv.bytes i)) folded

-- A wire form says its labels.
use Rattle.std.proofs.Common.{◌≡◌, ◌∙◌, ℕ, ◌≤◌, List, [], length, sym, ap, arith, append-nil}
use Rattle.zone_model.specs.Names.{wire, labels_in, IsName}
use Rattle.dns_name.specs.Inside.{length_le-wire, labels_in-wire}

pub labels_said : (octets : List ℕ) (labels : List (List ℕ)) → IsName labels → octets ≡ wire labels → labels_in (length octets) octets ≡ labels
labels_said octets labels name e =
    let le : length labels ≤ length octets = omega (arith, length_le-wire labels, ap (λ (l : List ℕ). length l) e) in
    ap (labels_in (length octets)) (e ∙ sym (append-nil (wire labels))) ∙ labels_in-wire (length octets) labels [] le name.each

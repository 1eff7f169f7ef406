use Rattle.std.proofs.Common.{◌+◌, ◌≤◌, ℕ, List, length, subst, sym, ap, ◌∙◌}
use Rattle.zone_model.specs.Escapes.{escaped_octet, escape_len}
use Rattle.dns_name.proofs.PieceLemmas.{piece_dot, piece_plain, piece_escape, piece_bad, rest_is}
use Rattle.dns_name.proofs.pieces.piece_at.Goals as goal

pub returns-then-octet-eq46 : goal.returns-then-octet-eq46
returns-then-octet-eq46 c = piece_dot c.args.text.now c.args.at c.requires c.if-octet-eq46.true

pub returns-then-octet-ne92 : goal.returns-then-octet-ne92
returns-then-octet-ne92 c = piece_plain c.args.text.now c.args.at c.to_ascii_lowercase.result c.requires c.if-octet-eq46.false c.if-octet-ne92.true c.to_ascii_lowercase.type_inv c.to_ascii_lowercase.ensures.value

pub returns-in-Some : goal.returns-in-Some
returns-in-Some c =
    let rest = rest_is c.args.text.now (c.args.at + 1) in
    let len = c.in-Some.ensures.len in
    piece_escape c.args.text.now c.args.at c.in-Some.octet c.in-Some.len c.to_ascii_lowercase-in-Some.result c.requires c.if-octet-ne92.false
    (ap escaped_octet (sym rest) ∙ c.in-Some.ensures.octet) (len.0 ∙ ap escape_len rest) (subst (λ (l : List ℕ). c.in-Some.len ≤ length l) rest len.1)
    c.to_ascii_lowercase-in-Some.type_inv c.to_ascii_lowercase-in-Some.ensures.value

pub returns-in-None : goal.returns-in-None
returns-in-None c = piece_bad c.args.text.now c.args.at c.requires c.if-octet-ne92.false (ap escaped_octet (sym (rest_is c.args.text.now (c.args.at + 1))) ∙ c.in-None.ensures.octet)

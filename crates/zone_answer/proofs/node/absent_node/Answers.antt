use Rattle.std.proofs.Common.{◌≡◌, ◌∙◌, ◌<◌, ℕ, List, [], true, take, length, map, refl, sym, ap, subst, arith, Option, Some}
use Rattle.std.specs.List.{AllByRecursion}
use Rattle.zone_model.specs.Names.{Name, IsName, ancestor, star_under}
use Rattle.zone_model.specs.Keys.{key_of}
use Rattle.zone_model.specs.Records.{Entry}
use Rattle.zone_model.specs.Versions.{Version, exists}
use Rattle.trie_model.specs.Order.{labels_in}
use Rattle.zone_answer.specs.Answers.{wildcard_under, encloser, node}
use Rattle.zone_answer.specs.Parts.{IsNodeOf, held_as, own_node}
use Rattle.zone_answer.specs.Standing.{IsStorable, PartsAt, trie_entry}
use Rattle.zone_answer.proofs.AncestorLaws.{self_under, none_too_long}
use Rattle.zone_answer.proofs.NodeLaws.{no_own, there_node, other_node}
use Rattle.zone_answer.proofs.ReachLaws.{not_there, ends_by, ends_behind, labels_within, encloser_by}
use Rattle.zone_answer.proofs.node.absent_node.Goals as goal

pub cut-encloser-requires : goal.cut-encloser-requires
cut-encloser-requires g c =
    let labels = c.labels_to.ensures ∙ ap (λ (k : List ℕ). labels_in (take c.args.place k)) c.requires.key in
    let within = labels_within c.args.name.now c.args.place c.wire-wire.ensures.name in omega arith

pub returns-then-len-place-clause-node : goal.returns-then-len-place-clause-node
returns-then-len-place-clause-node g c zone apart =
    let size = ap (λ (k : List ℕ). length k) c.requires.key in
    let there : exists c.args.name.now zone ≡ true = ends_by c.args.name.now c.args.name.now zone c.args.place c.wire-wire.ensures.name apart.on.shows.version_is.items (self_under c.args.name.now) apart.parts (let l = c.len.ensures.length in omega arith) in
    ([], sym (ap (λ (e : Entry). Some e) (not_there c.args.name.now zone c.args.place apart.parts) ∙ there_node zone c.args.name.now there), record { within = omega arith; says = refl })

-- the wildcard under the encloser answers, which has the labels that end before the place
by_encloser : (name top : Name) (zone : Version) (key : List ℕ) (place labels : ℕ) → IsName name → AllByRecursion IsStorable zone → PartsAt (key_of name) (map trie_entry zone) place → key ≡ key_of name → place < length key
    → labels ≡ labels_in (take place key) → top ≡ ancestor labels name → own_node zone (star_under top) ≡ node zone name
by_encloser name top zone key place labels is items parts e short l cut =
    let behind : place < length (key_of name) = subst (λ (k : List ℕ). place < length k) e short in
    let by : labels ≡ labels_in (take place (key_of name)) = l ∙ ap (λ (k : List ℕ). labels_in (take place k)) e in
    let above : Some top ≡ encloser zone name = ap (λ (x : Name). Some x) (cut ∙ ap (λ (n : ℕ). ancestor n name) by) ∙ sym (encloser_by name zone place is items parts) in
    ap (wildcard_under zone) above ∙ other_node zone name (ends_behind name name zone place (self_under name) parts behind)

-- the same of a wildcard's name
by_star : (name top star : Name) (zone : Version) (key : List ℕ) (place labels : ℕ) → IsName name → AllByRecursion IsStorable zone → PartsAt (key_of name) (map trie_entry zone) place → key ≡ key_of name → place < length key
    → labels ≡ labels_in (take place key) → top ≡ ancestor labels name → star ≡ star_under top → own_node zone star ≡ node zone name
by_star name top star zone key place labels is items parts e short l cut under =
    ap (own_node zone) under ∙ by_encloser name top zone key place labels is items parts e short l cut

pub returns-in_err-star-clause-node : goal.returns-in_err-star-clause-node
returns-in_err-star-clause-node g c zone apart =
    let answers = by_encloser c.args.name.now c.cut-encloser.result zone c.args.walker.now.key c.args.place c.labels_to.result c.wire-wire.ensures.name apart.on.shows.version_is.items apart.parts c.requires.key (let l = c.len.ensures.length in omega arith) c.labels_to.ensures c.cut-encloser.ensures in
    subst (IsNodeOf c.args.item.now (node zone c.args.name.now)) (sym c.from_residual.ensures)
    (sym (no_own zone (star_under c.cut-encloser.result) (none_too_long (star_under c.cut-encloser.result) zone c.in_err-star.ensures apart.on.shows.version_is.items) ∙ answers))

pub returns-in_err-len-clause-node : goal.returns-in_err-len-clause-node
returns-in_err-len-clause-node g c zone apart =
    let answers = by_star c.args.name.now c.cut-encloser.result c.in_ok-star.star zone c.args.walker.now.key c.args.place c.labels_to.result c.wire-wire.ensures.name apart.on.shows.version_is.items apart.parts c.requires.key (let l = c.len.ensures.length in omega arith) c.labels_to.ensures c.cut-encloser.ensures c.in_ok-star.ensures in
    subst (IsNodeOf _ (node zone c.args.name.now)) (sym c.from_residual-in_err-len.ensures) (sym answers ∙ c.in_err-len.ensures.node zone apart.on)

pub returns-clause-node : goal.returns-clause-node
returns-clause-node g c zone apart =
    let answers = by_star c.args.name.now c.cut-encloser.result c.in_ok-star.star zone c.args.walker.now.key c.args.place c.labels_to.result c.wire-wire.ensures.name apart.on.shows.version_is.items apart.parts c.requires.key (let l = c.len.ensures.length in omega arith) c.labels_to.ensures c.cut-encloser.ensures c.in_ok-star.ensures in
    subst (λ (o : Option Entry). IsNodeOf c.existing.new.item o (held_as c.in_ok-star.star (Some c.in_ok-len.len))) answers (c.in_ok-len.ensures.node zone apart.on)

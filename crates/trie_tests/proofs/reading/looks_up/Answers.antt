use Rattle.std.proofs.Common.{◌≡◌, [], Some, slice_get, sym, subst}
use Rattle.trie_tests.specs.Example.{two_names}
use Rattle.trie_read.specs.Walks.{StandsBetween}
use Rattle.trie_read.proofs.FoundLaws.{stands_at_start}
use Rattle.trie_tests.proofs.reading.looks_up.Goals as goal

pub loop-wire-init : goal.loop-wire-init
loop-wire-init c = record { root = Some 0; before = []; after = two_names; standing = stands_at_start _ (Some 0) c.start-place.result two_names c.start-place.ensures c.requires.stands c.requires.told }

pub lookup-leaf-requires : goal.lookup-leaf-requires
lookup-leaf-requires c = c.loop-wire.invariant

pub behind-before-requires : goal.behind-before-requires
behind-before-requires c =
    let h = c.loop-wire.invariant in
    let x = c.lookup-leaf.ensures.split h.root h.before h.after h.standing in
    record { root = h.root; before = x.before; after = x.after; standing = subst (λ t. StandsBetween (λ q d. slice_get t.cells.items q ≡ Some d) h.root c.lookup-leaf.new.self x.before x.after) (sym c.lookup-leaf.ensures.same) x.standing }

pub ahead-after-requires : goal.ahead-after-requires
ahead-after-requires c =
    let h = c.loop-wire.invariant in
    let x = c.lookup-leaf.ensures.split h.root h.before h.after h.standing in
    let y = c.behind-before.ensures.stays h.root x.before x.after (subst (λ t. StandsBetween (λ q d. slice_get t.cells.items q ≡ Some d) h.root c.lookup-leaf.new.self x.before x.after) (sym c.lookup-leaf.ensures.same) x.standing) in
    record { root = h.root; before = x.before; after = x.after; standing = subst (λ t. StandsBetween (λ q d. slice_get t.cells.items q ≡ Some d) h.root c.behind-before.new.self x.before x.after) (sym c.behind-before.ensures.same) y }

pub loop-wire-preserved : goal.loop-wire-preserved
loop-wire-preserved c =
    let h = c.loop-wire.invariant in
    let x = c.lookup-leaf.ensures.split h.root h.before h.after h.standing in
    let y = c.behind-before.ensures.stays h.root x.before x.after (subst (λ t. StandsBetween (λ q d. slice_get t.cells.items q ≡ Some d) h.root c.lookup-leaf.new.self x.before x.after) (sym c.lookup-leaf.ensures.same) x.standing) in
    let z = c.ahead-after.ensures.stays h.root x.before x.after (subst (λ t. StandsBetween (λ q d. slice_get t.cells.items q ≡ Some d) h.root c.behind-before.new.self x.before x.after) (sym c.behind-before.ensures.same) y) in
    record { root = h.root; before = x.before; after = x.after; standing = subst (λ t. StandsBetween (λ q d. slice_get t.cells.items q ≡ Some d) h.root c.ahead-after.new.self x.before x.after) (sym c.ahead-after.ensures.same) z }

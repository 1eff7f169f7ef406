-- What a pass remembers of the table holds whatever it sees later.
use Rattle.std.proofs.Common.{◌≡◌, ◌∙◌, inl, inr, ℕ, ◌+◌, ◌<◌, Bool, true, false, List, length, set, Option, Some, None, arith, refl, sym, ap, subst, get_or-set_same, get_or-set_other}
use Rattle.std.specs.Prelude.{◌↔◌, IfSome, is_some}
use Rattle.std.specs.List.{slice_get}
use Rattle.std.proofs.lemmas.Bool.{cases_lt}
use Rattle.std.proofs.lemmas.Option.{slice_get_within}
use Rattle.packed_node.specs.declared.Leaf.{Leaf}
use Rattle.zone_model.specs.Names.{Name}
use Rattle.trie_model.specs.Keys.{Entry}
use Rattle.trie_model.specs.Order.{IsThere}
use Rattle.trie_read.specs.Reads.{FindsLeaf}
use Rattle.shared_cells.specs.History.{IsPartOf}
use Rattle.shared_cells.specs.Views.{is_told}
use Rattle.qp_multi.specs.Passes.{version_seen}
use Rattle.zone_table.specs.Remembered.{AreAttached, Remembers, is_marked}
use Rattle.zone_table.specs.Tables.{IsAttached}
use Rattle.zone_table.proofs.KnownLaws.{part_itself, part_more, version_same}
use Rattle.zone_table.proofs.Lists.{some_is}
use Rattle.zone_table.specs.Notes.{SeenHistory}

module _ (origins : List Name) where
  pub nothing_remembered : (now : SeenHistory) (kept : Option ℕ) (attached : List Bool) → kept ≡ None → IfSome kept (λ n. Remembers origins now n attached)
  nothing_remembered now kept attached none = subst (λ (o : Option ℕ). IfSome o (λ n. Remembers origins now n attached)) (sym none) tt

  pub remembers_later : (later now : SeenHistory) (kept : Option ℕ) (attached : List Bool) → IsPartOf later now → IfSome kept (λ n. Remembers origins now n attached) → IfSome kept (λ n. Remembers origins later n attached)
  remembers_later later now None attached grows r = r
  remembers_later later now (Some n) attached grows r = record { before = r.before; grows = part_more later now r.before r.told grows r.grows; told = r.told; number_is = r.number_is; attached_are = r.attached_are }

  -- of the version that was seen last
  pub remembers_now : (now : SeenHistory) (number : ℕ) (attached : List Bool) → is_told now.opening ≡ true → number ≡ length now.history → AreAttached origins (version_seen now) attached → Remembers origins now number attached
  remembers_now now number attached told is are = record { before = now; grows = part_itself now told; told = told; number_is = is; attached_are = are }

  -- a version that is still the last has what is remembered of it
  pub still_attached : (now old : SeenHistory) (kept : Option ℕ) (number : ℕ) (attached : List Bool) → IfSome kept (λ n. Remembers origins old n attached) → IsPartOf now old → number ≡ length now.history → kept ≡ Some number → AreAttached origins (version_seen now) attached
  still_attached now old kept number attached remembers grows last same =
      let r = subst (λ (o : Option ℕ). IfSome o (λ n. Remembers origins now n attached)) same (remembers_later now old kept attached grows remembers) in
      subst (λ (es : List Entry). AreAttached origins es attached) (sym (version_same now r.before r.told r.grows (sym last ∙ r.number_is))) r.attached_are

-- ---- looking at a version, zone by zone

pub is_found : (lies : Leaf → Entry → Type 0) (key : List ℕ) (es : List Entry) (found : Option Leaf) → FindsLeaf lies key es found → (is_some found ≡ true) ↔ IsThere key es
is_found lies key es None f = (λ h. absurd cc, λ t. absurd (f t.0 t.1 t.2))
is_found lies key es (Some l) f = (λ h. (f.0, f.1, f.2), λ t. refl)

module _ (origins : List Name) (es : List Entry) where
  -- it is told of the zones before this one
  abbrev pub AreMarked : ℕ → List Bool → Type 0
  AreMarked zone attached = (k : ℕ) (origin : Name) → k < zone → slice_get origins k ≡ Some origin → (is_marked attached k ≡ true) ↔ IsAttached es origin

  pub marked_more : (zone : ℕ) (attached : List Bool) (b : Bool) (origin : Name) → zone < length attached → slice_get origins zone ≡ Some origin → ((b ≡ true) ↔ IsAttached es origin) → AreMarked zone attached → AreMarked (zone + 1) (set attached zone b)
  marked_more zone attached b origin inside is has before k o l there = elim (cases_lt k zone) [
    | inl n ↦ subst (λ (x : Bool). (x ≡ true) ↔ IsAttached es o) (sym (get_or-set_other attached zone k b false (λ e. absurd (omega arith)))) (before k o n there)
    | inr n ↦ (
        let e : k ≡ zone = omega arith in
        let same : origin ≡ o = some_is origin o (sym is ∙ ap (slice_get origins) (sym e) ∙ there) in
        let here : is_marked (set attached zone b) k ≡ b = ap (is_marked (set attached zone b)) e ∙ get_or-set_same attached zone b false inside in
        subst (λ (n : Name). (is_marked (set attached zone b) k ≡ true) ↔ IsAttached es n) same (subst (λ (x : Bool). (x ≡ true) ↔ IsAttached es origin) (sym here) has)
        )
  ]

  pub all_marked : (attached : List Bool) → AreMarked (length origins) attached → AreAttached origins es attached
  all_marked attached m zone origin is = m zone origin (slice_get_within origins zone origin is) is

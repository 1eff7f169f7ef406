-- A zone that is looked for by its origin.
use Rattle.std.proofs.Common.{◌≡◌, ◌∙◌, ◌<◌, ◌+◌, inl, inr, ℕ, true, false, List, map, Vec, Global, Option, Some, Result, Ok, Err, arith, sym, ap, subst}
use Rattle.std.specs.Prelude.{IfSome}
use Rattle.std.specs.List.{slice_get}
use Rattle.std.proofs.lemmas.Bool.{cases_eq}
use Rattle.zone_model.specs.Names.{Name, same_name}
use Rattle.zone_model.specs.NameOrder.{same_name_equiv}
use Rattle.qp_multi.specs.declared.meaning.Named.{Ghosts}
use Rattle.qp_multi.specs.declared.pass.Pass.{Pass}
use Rattle.qp_multi.specs.Passes.{Known, known_at}
use Rattle.qp_multi.specs.declared.commit.Receipt.{Receipt}
use Rattle.zone_table.specs.declared.change.TableRefusal.{TableRefusal}
use Rattle.zone_table.specs.declared.pass.ZonesPass.{ZonesPass}
use Rattle.zone_table.specs.Passes.{table_known}
use Rattle.zone_table.proofs.Lists.{some_is}
use Rattle.zone_server.specs.Attachings.{ChangesTable, attach_told}
use Rattle.zone_server.specs.Homes.{Served}
use Rattle.zone_server.specs.Servings.{ServerKnown, known_of}
use Rattle.zone_server.specs.declared.attaching.AttachRefusal.{AttachRefusal}

pub differs : (a b : Name) → same_name a b ≡ false → a ≡ b → ⊥
differs a b apart e = let same = subst (λ (x : Name). same_name a x ≡ true) e (same_name_equiv.refl a) in cc

-- nor has the next one
pub none_further : (origins : List Name) (origin : Name) (zone : ℕ) (here : Name) → ((k : ℕ) (other : Name) → k < zone → slice_get origins k ≡ Some other → other ≡ origin → ⊥) → slice_get origins zone ≡ Some here → (here ≡ origin → ⊥)
    → (k : ℕ) (other : Name) → k < zone + 1 → slice_get origins k ≡ Some other → other ≡ origin → ⊥
none_further origins origin zone here before at not_here k other lt there same = elim (cases_eq k zone) [
  | inl e ↦ not_here (some_is here other (sym at ∙ ap (slice_get origins) (sym e) ∙ there) ∙ same)
  | inr n ↦ before k other (omega (arith, lt, n)) there same
]

told_table : (changes : Known → Known → Result Receipt TableRefusal → Type 0) (served : List Served) (origin : Name) (old new : ServerKnown) (r : Result Receipt TableRefusal) → changes old.table new.table r → new.zones ≡ old.zones → ChangesTable changes served origin old new (attach_told r)
told_table changes served origin old new (Ok receipt) h same = (h, same)
told_table changes served origin old new (Err e) h same = (h, same)

-- what is told of the table is told of the server's
pub table_changed : {Y : Type 0} {N : Ghosts Y} (changes : Name → Known → Known → Result Receipt TableRefusal → Type 0) (served : List Served) (origin : Name) (old new : ZonesPass Y N) (r : Result Receipt TableRefusal) (told : Result Receipt AttachRefusal) (named : Option Name) → told ≡ attach_told r → named ≡ Some origin
    → IfSome named (λ o. changes o (table_known old) (table_known new) r) → new.zones ≡ old.zones → ChangesTable (changes origin) served origin (known_of old) (known_of new) told
table_changed {Y = Y} {N = N} changes served origin old new r told named is found h same =
    subst (ChangesTable (changes origin) served origin (known_of old) (known_of new)) (sym is)
    (told_table (changes origin) served origin (known_of old) (known_of new) r (subst (λ (n : Option Name). IfSome n (λ o. changes o (table_known old) (table_known new) r)) found h) (ap (λ (zs : Vec (Pass Y N) Global). map (λ z. known_at z.seat) zs.items) same))

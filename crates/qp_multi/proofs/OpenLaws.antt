-- There is room where the cells are few enough.
use Rattle.std.proofs.Common.{◌≡◌, ◌∙◌, ℕ, ◌+◌, ◌-◌, ◌*◌, ◌/◌, ◌<◌, ◌≤◌, Bool, false, cond, not, [], ◌∷◌, ◌++◌, zero, suc, refl, List, replicate, Option, Some, None, length, arith, sym, ap, subst, inl, inr}
use Rattle.std.proofs.lemmas.List.{length-replicate}
use Rattle.std.proofs.lemmas.List.Recursion.{is_count_by}
use Rattle.std.specs.List.{count_by}
use Rattle.trie_model.specs.Keys.{Entry}
use Rattle.zone_model.specs.Keys.{Leads}
use Rattle.trie_read.specs.Reads.{EachTells}
use Rattle.chunk_usage.specs.declared.bump.Bump.{Bump}
use Rattle.chunk_usage.specs.declared.space.Shortage.{Shortage}
use Rattle.chunk_usage.specs.Ledger.{Ledger, Frozen, Row, row_of, IsLedger, unused, frozen_part, free_count, left}
use Rattle.chunk_usage.specs.Handing.{Lacks, consumed, unconsumed}
use Rattle.chunk_usage.specs.Keeping.{frozen}
use Rattle.trie_write.specs.declared.item.Item.{Item}
use Rattle.trie_write.specs.Entries.{entries_of_items}
use Rattle.trie_write.proofs.ItemLaws.{leads_of}

abbrev pub clear : List Bool → ℕ
clear [] = 0
clear (flag ∷ flags) = cond (not flag) (1 + clear flags) (clear flags)

all_clear : (n : ℕ) → clear (replicate n false) ≡ n
all_clear zero = refl
all_clear (suc n) = let e = all_clear n in omega arith

pub clear_is : (flags : List Bool) → clear flags ≡ count_by not flags
clear_is flags = is_count_by clear not refl (λ flag flags. refl) flags

all_free : (n : ℕ) → count_by not (replicate n false) ≡ n
all_free n = sym (clear_is (replicate n false)) ∙ all_clear n

-- an open chunk with fewer than 256 cells left has nothing to consume
pub none_unconsumed : (o : Option Bump) (n : ℕ) → left o < n → n ≤ 256 → unconsumed o ≡ 0
none_unconsumed None n a b = refl
none_unconsumed (Some o) n a b = omega arith

pub no_shortage : (l : Ledger) (f : Shortage) (chunks cells : ℕ) → length l.given ≡ chunks → 16 ≤ chunks → consumed l ≤ cells → cells ≤ 769 * (chunks - chunks / 4 - 1) → free_count l ≤ length l.given → Lacks l f → ⊥
no_shortage l f chunks cells n many s c free lacks =
    let all = none_unconsumed l.bump f.needed lacks.0.few_left lacks.2 in
    let none = lacks.0.none_free in omega arith

pub none_consumed : (chunks passes : ℕ) → consumed (unused chunks passes) ≡ 0
none_consumed chunks passes = let n = length-replicate {A = Bool} chunks false in let k = all_free chunks in omega arith

pub as_many : (old new : Ledger) → IsLedger new → frozen_part new ≡ frozen_part old → (chunks passes : ℕ) → old ≡ unused chunks passes → length new.given ≡ chunks
as_many old new is same chunks passes e =
    sym is.counted_last ∙ ap (λ (f : Frozen). length f.live) same ∙ ap (λ (l : Ledger). length l.last_live) e ∙ length-replicate {A = ℕ} chunks 0

-- each item tells its key
pub items_tell : (items : List Item) → EachTells Leads (entries_of_items items)
items_tell [] e i = absurd i
items_tell (x ∷ items) e (inl same) = subst (λ (z : Entry). Leads z.key z.item) (sym same) (leads_of x.octets.items (record { short = x.short; named = x.named; small = x.small }))
items_tell (x ∷ items) e (inr there) = items_tell items e there

-- the first freeze keeps one row
pub first_kept : (l new : Ledger) (chunks passes version : ℕ) → l ≡ unused chunks passes → (m : Ledger) → frozen_part m ≡ frozen_part l → new ≡ frozen m version → new.rows ≡ record { version = version; chunks = row_of new.last_live } ∷ []
first_kept l new chunks passes version begins m same after =
    let none : m.rows ≡ [] = ap (λ (f : Frozen). f.rows) same ∙ ap (λ (k : Ledger). k.rows) begins in
    let rows : new.rows ≡ m.rows ++ record { version = version; chunks = row_of m.live } ∷ [] = ap (λ (k : Ledger). k.rows) after in
    let last : m.live ≡ new.last_live = sym (ap (λ (k : Ledger). k.last_live) after) in
    rows ∙ ap (λ (rs : List Row). rs ++ record { version = version; chunks = row_of m.live } ∷ []) none ∙ ap (λ (live : List ℕ). record { version = version; chunks = row_of live } ∷ []) last

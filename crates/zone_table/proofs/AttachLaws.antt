-- An origin is put in, or taken out.
use Rattle.std.proofs.Common.{◌≡◌, ◌⊎◌, ◌∙◌, inl, inr, ℕ, ◌<◌, Bool, true, false, List, [], ◌∷◌, length, get_or, Option, Result, Ok, Err, arith, refl, sym, ap, subst}
use Rattle.std.specs.Prelude.{IfSome, IsOk, MatchResult, slice_get, unwrap_or}
use Rattle.std.proofs.Math.Seq.{take-length}
use Rattle.zone_model.specs.Names.{Name}
use Rattle.zone_model.specs.Keys.{key_of}
use Rattle.trie_model.specs.Keys.{Entry, InList}
use Rattle.trie_model.specs.Order.{begins, IsThere}
use Rattle.trie_model.proofs.ChainLaws.{begins_same, begins_short, begins_take}
use Rattle.pin_core.specs.declared.version.Spent.{Spent as NoNumber}
use Rattle.shared_cells.specs.History.{IsPartOf}
use Rattle.shared_cells.specs.Views.{is_told}
use Rattle.qp_multi.specs.declared.commit.Receipt.{Receipt}
use Rattle.qp_multi.specs.declared.writer.WorkingVersion.{WorkingVersion}
use Rattle.qp_multi.specs.declared.meaning.Operation.{Operation}
use Rattle.qp_multi.specs.declared.meaning.Operation.TheVariants.{Insert, Delete}
use Rattle.qp_multi.specs.Attempts.{Does}
use Rattle.qp_multi.specs.WorkingVersions.{Between}
use Rattle.qp_multi.specs.Passes.{Known, first_version}
use Rattle.qp_multi.specs.Calls.{LacksEntryOf}
use Rattle.zone_table.specs.declared.change.TableRefusal.{TableRefusal}
use Rattle.zone_table.specs.declared.change.TableRefusal.TheVariants.{Spent}
use Rattle.zone_table.specs.Changes.{IsChanged, IsUnchanged, Attaches, Detaches, last_number}
use Rattle.zone_table.specs.Tables.{IsTable, IsAttached, entry_for}
use Rattle.zone_table.proofs.KnownLaws.{opened_same, opening_fits, part_more, told_later}
use Rattle.zone_table.proofs.Lists.{read_at}

-- ---- whether a key is there

same_keys : (a b : List ℕ) → begins a b ≡ true → length a ≡ length b → a ≡ b
same_keys a b e n = begins_take a b e (length b) n ∙ take-length b

begins_self : (k : List ℕ) → begins k k ≡ true
begins_self k = begins_same k k (omega arith) (λ i l. refl)

one_or_not : (a b : List ℕ) → (a ≡ b) ⊎ (a ≡ b → ⊥)
one_or_not a b = go (begins a b) refl (begins b a) refl
  where
    shorter : (x y : List ℕ) → begins x y ≡ true → begins y x ≡ true → length x ≡ length y
    shorter x y e f = let l = begins_short x y e in let m = begins_short y x f in omega arith

    go : (c : Bool) → begins a b ≡ c → (d : Bool) → begins b a ≡ d → (a ≡ b) ⊎ (a ≡ b → ⊥)
    go true e true f = inl (same_keys a b e (shorter a b e f))
    go true e false f = inr (λ s. let bad : true ≡ false = sym (subst (λ (k : List ℕ). begins k a ≡ true) s (begins_self a)) ∙ f in absurd cc)
    go false e d f = inr (λ s. let bad : true ≡ false = sym (subst (λ (k : List ℕ). begins a k ≡ true) s (begins_self a)) ∙ e in absurd cc)

there_or_not : (key : List ℕ) (es : List Entry) → IsThere key es ⊎ LacksEntryOf key es
there_or_not key [] = inr (λ x i s. i)
there_or_not key (e ∷ es) = elim (one_or_not e.key key) [
  | inl s ↦ inl (e, inl refl, s)
  | inr n ↦ elim (there_or_not key es) [
    | inl t ↦ inl (t.0, inr t.1, t.2)
    | inr m ↦ inr (λ x i s. elim i [ inl h ↦ n (sym (ap (λ (y : Entry). y.key) h) ∙ s) | inr r ↦ m x r s ])
  ]
]

pub is_there : (key : List ℕ) (es : List Entry) → (((x : Entry) → InList x es → x.key ≡ key → ⊥) → ⊥) → IsThere key es
is_there key es never = elim (there_or_not key es) [ inl t ↦ t | inr m ↦ absurd (never m) ]

pub isnt_there : (key : List ℕ) (es : List Entry) → ((x : Entry) → InList x es → x.key ≡ key → ⊥) → IsThere key es → ⊥
isnt_there key es never t = never t.0 t.1 t.2

-- ---- what was found of the base, in other words

pub changed_as : (m n : List Entry → Type 0) (old new : Known) (o : Operation) (number : ℕ) → ((es : List Entry) → m es → n es) → IsChanged m old new o number → IsChanged n old new o number
changed_as m n old new o number f c = record {
  base = c.base;
  grows = c.grows;
  met = f _ c.met;
  next = c.next;
  own = c.own;
  by = c.by;
  mine = c.mine;
  opening = c.opening;
  history = c.history;
  namings = c.namings;
  pass = c.pass;
  number_is = c.number_is;
  version_is = c.version_is;
}

pub unchanged_as : (m n : List Entry → Type 0) (old new : Known) (number : ℕ) → ((es : List Entry) → m es → n es) → IsUnchanged m old new number → IsUnchanged n old new number
unchanged_as m n old new number f u = record { grows = u.grows; pass = u.pass; number_is = u.number_is; met = f _ u.met }

abbrev pub Ends : (List Entry → Type 0) → Known → Known → Operation → Result Receipt NoNumber → Type 0
Ends met old new o r = MatchResult r (λ t. IsChanged met old new o t.version) (λ s. IsUnchanged met old new s.version × (s.version ≡ last_number))

abbrev pub Tells : Result Receipt NoNumber → Result Receipt TableRefusal → Type 0
Tells r told = MatchResult r (λ t. told ≡ Ok t) (λ s. told ≡ Err (Spent s.version))

pub attached : (origin : Name) (old new : Known) (r : Result Receipt NoNumber) (told : Result Receipt TableRefusal) → Tells r told → Ends (λ es. IsAttached es origin → ⊥) old new (Insert (entry_for origin)) r → Attaches origin old new told
attached origin old new (Ok t) told is e = subst (Attaches origin old new) (sym is) e
attached origin old new (Err s) told is e = subst (Attaches origin old new) (sym is) e

pub detached : (origin : Name) (old new : Known) (r : Result Receipt NoNumber) (told : Result Receipt TableRefusal) → Tells r told → Ends (λ es. LacksEntryOf (key_of origin) es → ⊥) old new (Delete (key_of origin)) r → Detaches origin old new told
detached origin old new (Ok t) told is e =
    subst (Detaches origin old new) (sym is) (changed_as (λ es. LacksEntryOf (key_of origin) es → ⊥) (λ es. IsAttached es origin) old new (Delete (key_of origin)) t.version (is_there (key_of origin)) e)
detached origin old new (Err s) told is e =
    subst (Detaches origin old new) (sym is) (unchanged_as (λ es. LacksEntryOf (key_of origin) es → ⊥) (λ es. IsAttached es origin) old new s.version (is_there (key_of origin)) e.0, e.1)

-- ---- its pass has seen no less, and knows of the same opening

pub ends_grow : (met : List Entry → Type 0) (old new : Known) (o : Operation) (r : Result Receipt NoNumber) → is_told old.seen.opening ≡ true → Ends met old new o r → IsPartOf new.seen old.seen
ends_grow met old new o (Ok t) told e =
    let base = told_later e.base old.seen told e.grows in
    part_more new.seen e.base old.seen told (record { opening = opening_fits new.seen e.base base e.opening; history = (_, e.history); namings = e.namings }) e.grows
ends_grow met old new o (Err s) told e = e.0.grows

pub opening_after : (met : List Entry → Type 0) (origins : List Name) (old new : Known) (o : Operation) (r : Result Receipt NoNumber) → is_told old.seen.opening ≡ true → IsTable origins (first_version old.seen) → Ends met old new o r → IsTable origins (first_version new.seen)
opening_after met origins old new o (Ok t) told table e = subst (IsTable origins) (sym (ap (λ (x : Option (List Entry)). unwrap_or x []) e.opening ∙ opened_same e.base old.seen told e.grows)) table
opening_after met origins old new o (Err s) told table e = subst (IsTable origins) (sym (opened_same new.seen old.seen told e.0.grows)) table

pub opening_unchanged : (met : List Entry → Type 0) (origins : List Name) (old new : Known) (number : ℕ) → is_told old.seen.opening ≡ true → IsTable origins (first_version old.seen) → IsUnchanged met old new number → IsTable origins (first_version new.seen)
opening_unchanged met origins old new number told table u = subst (IsTable origins) (sym (opened_same new.seen old.seen told u.grows)) table

-- ---- the calls, of an origin's key and item

module _ {E : Type 0} (refusal : E) (first second : Option WorkingVersion) (r : Result (Unit {0}) E) where
  abbrev pub Inserts : List ℕ → List ℕ → Type 0
  Inserts key item = Between (λ d e. Does (Insert (record { key = key; item = item })) (λ es. (x : Entry) × InList x es × (x.key ≡ key)) d e (IsOk r) (r ≡ Err refusal)) first second

  pub inserts_as : (key key' item item' : List ℕ) → key ≡ key' → item ≡ item' → Inserts key item → Inserts key' item'
  inserts_as key key' item item' k i b = subst (λ (x : List ℕ). Inserts x item') k (subst (Inserts key) i b)

  abbrev pub Deletes : List ℕ → Type 0
  Deletes key = Between (λ d e. Does (Delete key) (λ es. (x : Entry) → InList x es → x.key ≡ key → ⊥) d e (IsOk r) (r ≡ Err refusal)) first second

  pub deletes_as : (key key' : List ℕ) → key ≡ key' → Deletes key → Deletes key'
  deletes_as key key' k b = subst Deletes k b

-- what is so of the origin that was read
pub if_read : (P : Name → Type 0) (origins : List Name) (zone : ℕ) (origin : Name) → zone < length origins → origin ≡ get_or origins zone origin → P origin → IfSome (slice_get origins zone) P
if_read P origins zone origin inside is h = subst (λ (o : Option Name). IfSome o P) (sym (read_at origins zone origin inside is)) h

-- What a compaction makes.
use Rattle.std.proofs.Common.{◌≡◌, ℕ, ◌∙◌, Bool, List, Option, Some, None, Result, Ok, Err, arith, refl, sym, ap}
use Rattle.std.specs.Prelude.{IfOk, IfErr, IfSome, IsSomeAnd, slice_get}
use Rattle.std.specs.Option.{ForSome}
use Rattle.pin_core.specs.declared.version.Spent.{Spent}
use Rattle.atomic_table.specs.Seated.{TableId}
use Rattle.trie_model.specs.Keys.{Entry}
use Rattle.shared_cells.specs.declared.pass.PassSeat.{PassSeat}
use Rattle.shared_cells.specs.declared.view.TableSize.{TableSize}
use Rattle.qp_multi.specs.declared.commit.Receipt.{Receipt}
use Rattle.qp_multi.specs.declared.writer.WorkingVersion.{WorkingVersion}
use Rattle.qp_multi.specs.declared.meaning.Operation.{Operation}
use Rattle.qp_multi.specs.Compactions.{Compacts, IsLast}
use Rattle.qp_multi.specs.Calls.{BeginsAs, CommitsOrStays}
use Rattle.qp_multi.specs.WorkingVersions.{Begins}
use Rattle.qp_multi.specs.Passes.{Known, known_at}

-- tables that are named by one place are one
pub same_table : (names : List TableId) (place other : ℕ) (a b : TableId) → slice_get names place ≡ Some a → place ≡ other → slice_get names other ≡ Some b → a ≡ b
same_table names place other a b there same here = let both : ◌≡◌ {A = Option TableId} (Some a) (Some b) = sym there ∙ ap (slice_get names) same ∙ here in cc

-- a transaction that began with no operation done was committed, or its base has the last number
module _ (lawful : List Entry → List Entry → Type 0) (before : Known) where
  pub compacts_of : (table : TableId) (own_chunk : Bool) (size : TableSize) (most : Option ℕ) (o : Option WorkingVersion) (r : Result Receipt Spent) (seat : Option (PassSeat (List Entry) (List Operation))) → IsSomeAnd o (Begins lawful before) → ForSome o (λ d. d.seat.place.table_id ≡ table)
      → IsSomeAnd o (BeginsAs own_chunk size most) → IfSome o (CommitsOrStays 0 seat r) → IfOk r (Compacts lawful table size.passes before (known_at seat))
  compacts_of table own_chunk size most (Some d) (Ok x) seat begins here kind made = record {
    working = d;
    here = here d refl;
    passes_are = kind.passes;
    begins = begins;
    commits = made.commits;
    version = made.version;
    next = λ e. made.next (let version = made.version in omega (arith, e));
    recycles = made.receipt;
  }
  compacts_of table own_chunk size most None (Ok x) seat begins here kind made = absurd begins
  compacts_of table own_chunk size most o (Err s) seat begins here kind made = tt

  pub last_of : (o : Option WorkingVersion) (r : Result Receipt Spent) (seat : Option (PassSeat (List Entry) (List Operation))) → IsSomeAnd o (Begins lawful before) → IfSome o (CommitsOrStays 0 seat r)
      → IfErr r (IsLast lawful before (known_at seat))
  last_of (Some d) (Err s) seat begins stays = record { working = d; begins = begins; back = stays.back.1; version = stays.version; last = stays.version ∙ stays.last }
  last_of None (Err s) seat begins stays = absurd begins
  last_of o (Ok x) seat begins stays = tt

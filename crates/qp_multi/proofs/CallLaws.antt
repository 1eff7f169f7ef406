-- What the beginning and the end of a transaction tell, part by part.
use Rattle.std.proofs.Common.{◌≡◌, ◌↔◌, ◌∙◌, ◌+◌, ℕ, Bool, List, length, Option, Some, None, Result, Ok, Err, refl, sym, subst}
use Rattle.std.specs.Prelude.{IfOk, IfErr, IfSome, IsErr, IsSome, IsSomeAnd}
use Rattle.pin_core.specs.declared.version.TheConstants.{LAST_VERSION}
use Rattle.pin_core.specs.declared.version.Spent.{Spent}
use Rattle.trie_model.specs.Keys.{Entry}
use Rattle.shared_cells.specs.declared.pass.PassSeat.{PassSeat}
use Rattle.shared_cells.specs.declared.view.TableSize.{TableSize}
use Rattle.qp_multi.specs.declared.commit.Receipt.{Receipt}
use Rattle.qp_multi.specs.declared.writer.WorkingVersion.{WorkingVersion}
use Rattle.qp_multi.specs.declared.meaning.Operation.{Operation}
use Rattle.qp_multi.specs.Bases.{CommitsAreWithin}
use Rattle.qp_multi.specs.Calls.{BeginsAs, CommitsOrStays}
use Rattle.qp_multi.specs.Commits.{IsCommitted, IsSpent}
use Rattle.qp_multi.specs.WorkingVersions.{Commits, IsBack}
use Rattle.qp_multi.specs.Kinds.{StartsAs}
use Rattle.qp_multi.specs.Passes.{Known, known_at}
use Rattle.qp_multi.specs.Receipts.{Recycles}

pub record Begun (own_chunk : Bool) (size : TableSize) (most : Option ℕ) (o : Option WorkingVersion) : Type 0 where
  pub passes : IsSomeAnd o (λ d. d.seat.passes ≡ size.passes)
  pub chunks : IsSomeAnd o (λ d. length d.usage.given ≡ size.chunks)
  pub few_operations : IsSomeAnd o (λ d. CommitsAreWithin most d.seat.place.me.0)
  pub starts : IsSomeAnd o (λ d. StartsAs own_chunk d.usage)

pub begun_of : (own_chunk : Bool) (size : TableSize) (most : Option ℕ) (o : Option WorkingVersion) → IsSomeAnd o (BeginsAs own_chunk size most) → Begun own_chunk size most o
begun_of own_chunk size most (Some d) b = record { passes = b.passes; chunks = b.chunks; few_operations = b.few_operations; starts = b.starts }
begun_of own_chunk size most None b = absurd b

pub record Parts (most : ℕ) (seat : Option (PassSeat (List Entry) (List Operation))) (o : Option WorkingVersion) (r : Result Receipt Spent) : Type 0 where
  pub commits : IfOk r (λ _. IfSome o (λ d. Commits d.seat.place.me.0 d.log.operations (known_at seat)))
  pub version : IfOk r (λ x. IfSome o (λ d. x.version ≡ d.seat.version + 1))
  pub receipt : IfOk r (λ x. IfSome o (λ d. Recycles most d (known_at seat) x))
  pub back : IfErr r (λ _. IfSome o (λ d. IsBack d.seat.place.me.0 seat))
  pub spent : IfSome o (λ d. IsErr r ↔ (d.seat.version ≡ LAST_VERSION))
  pub last : IfErr r (λ s. IfSome o (λ d. s.version ≡ d.seat.version))

pub parts_of : (most : ℕ) (seat : Option (PassSeat (List Entry) (List Operation))) (o : Option WorkingVersion) (r : Result Receipt Spent) → IfSome o (CommitsOrStays most seat r) → Parts most seat o r
parts_of most seat (Some d) (Ok x) m = record { commits = m.commits; version = m.version; receipt = m.receipt; back = tt; spent = (λ h. absurd cc, λ e. absurd (m.next e)); last = tt }
parts_of most seat (Some d) (Err s) m = record { commits = tt; version = tt; receipt = tt; back = m.back; spent = (λ h. m.last, λ e. refl); last = m.version }
parts_of most seat None (Ok x) m = record { commits = tt; version = tt; receipt = tt; back = tt; spent = tt; last = tt }
parts_of most seat None (Err s) m = record { commits = tt; version = tt; receipt = tt; back = tt; spent = tt; last = tt }

-- they are together what is told of it
pub ends_of : (most : ℕ) (seat : Option (PassSeat (List Entry) (List Operation))) (d : WorkingVersion) (r : Result Receipt Spent) (w : Known) → IsSome seat → known_at seat ≡ w → IfOk r (IsCommitted most d w) → IfErr r (IsSpent d w)
    → IsErr r ↔ (d.seat.version ≡ LAST_VERSION) → CommitsOrStays most seat r d
ends_of most seat d (Ok x) w here same done undone spent = record {
  commits = subst (Commits d.seat.place.me.0 d.log.operations) (sym same) done.commits;
  version = done.version;
  next = λ e. (let bad = spent.1 e in absurd cc);
  receipt = subst (λ (v : Known). Recycles most d v x) (sym same) done.receipt;
}
ends_of most seat d (Err s) w here same done undone spent = record { back = (here, same ∙ undone.back); version = undone.last; last = spent.0 refl }

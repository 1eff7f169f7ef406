-- What a transaction begins with, by its kind.
use Rattle.std.proofs.Common.{◌≡◌, ◌∙◌, ℕ, Bool, true, false, List, [], length, Option, Some, None, refl, sym, ap, subst}
use Rattle.trie_model.specs.Keys.{Entry}
use Rattle.chunk_usage.specs.declared.bump.Bump.{Bump}
use Rattle.chunk_usage.specs.Keeping.{closed, full}
use Rattle.chunk_usage.specs.Ledger.{Ledger, is_bump}
use Rattle.shared_cells.specs.declared.view.Seen.{Seen}
use Rattle.qp_multi.specs.declared.writer.WorkingVersion.{WorkingVersion}
use Rattle.qp_multi.specs.declared.meaning.Operation.{Operation}
use Rattle.qp_multi.specs.Bases.{Joined, StandsFor}
use Rattle.qp_multi.specs.Capacity.{RestsRoomy, WorksRoomy}
use Rattle.qp_multi.specs.WorkingVersions.{Begins, working_set}
use Rattle.qp_multi.specs.Kinds.{StartsAs, started}
use Rattle.qp_multi.specs.Operations.{applied}
use Rattle.qp_multi.specs.Passes.{Known, version_seen}
use Rattle.qp_multi.proofs.CapacityLaws.{begins_roomy, closed_roomy}

same_chunk : (b : Option Bump) (k : ℕ) → is_bump (full b) k ≡ is_bump b k
same_chunk None k = refl
same_chunk (Some o) k = refl

pub starts_as : (own : Bool) (u n : Ledger) → n ≡ started own u → u.bump ≡ u.fender → StartsAs own n
starts_as true u n after bump = subst (StartsAs true) (sym after) (ap full bump)
starts_as false u n after bump = subst (StartsAs false) (sym after) bump

pub started_chunks : (own : Bool) (u n : Ledger) → n ≡ started own u → length n.given ≡ length u.given
started_chunks true u n after = ap (λ (l : Ledger). length l.given) after
started_chunks false u n after = ap (λ (l : Ledger). length l.given) after

pub started_roomy : (own : Bool) (u n : Ledger) (s : Seen (List Entry) (List Operation)) (operations : List Operation) → n ≡ started own u → operations ≡ [] → u.live ≡ u.last_live → u.bump ≡ u.fender → RestsRoomy u s → WorksRoomy n s operations
started_roomy true u n s operations after none live bump r =
    subst (WorksRoomy n s) (sym none)
    (subst (λ (l : Ledger). WorksRoomy l s []) (sym after) (begins_roomy (closed u) s live (λ k. same_chunk u.bump k ∙ ap (λ (b : Option Bump). is_bump b k) bump) (closed_roomy u (closed u) s refl r)))
started_roomy false u n s operations after none live bump r =
    subst (WorksRoomy n s) (sym none) (subst (λ (l : Ledger). WorksRoomy l s []) (sym after) (begins_roomy u s live (λ k. ap (λ (b : Option Bump). is_bump b k) bump) r))

-- its working set is the base still
pub started_begins : (lawful : List Entry → List Entry → Type 0) (before : Known) (d e : WorkingVersion) → Begins lawful before d → e.seat ≡ d.seat → e.log.operations ≡ d.log.operations
    → ((es : List Entry) → StandsFor d.seat.place.me.0 d.usage d.root es → StandsFor e.seat.place.me.0 e.usage e.root es) → Begins lawful before e
started_begins lawful before d e b seat log stands = record {
  joined = subst (λ s. Joined lawful before s.place.me.0) (sym seat) b.joined;
  none_done = log ∙ b.none_done;
  works = subst (StandsFor e.seat.place.me.0 e.usage e.root) (sym set) (stands (working_set d) b.works);
}
  where
    set : working_set e ≡ working_set d
    set = ap (λ s. applied (version_seen s.place.me.0.seen) e.log.operations) seat ∙ ap (applied (version_seen d.seat.place.me.0.seen)) log

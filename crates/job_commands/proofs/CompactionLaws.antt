-- A compaction ends as a block without operations does.
use Rattle.std.proofs.Common.{◌≡◌, ◌∙◌, ℕ, ◌+◌, true, List, [], Option, Some, Result, Ok, Err, refl, sym, arith, append-nil}
use Rattle.std.specs.Prelude.{IsOk, IsSome, IfOk, IfErr}
use Rattle.atomic_table.specs.Seated.{TableId}
use Rattle.pin_core.specs.declared.version.Spent.{Spent as NoNumber}
use Rattle.zone_model.specs.Transactions.{no_changes}
use Rattle.job_model.specs.declared.Ending.TheVariants as ending
use Rattle.job_model.specs.Outcomes.{Committed, Refused, Spent}
use Rattle.job_report.specs.declared.outcomes.Outcome.{Outcome}
use Rattle.job_report.specs.Outcomes.{ended_view}
use Rattle.shared_cells.specs.declared.pass.PassSeat.{PassSeat}
use Rattle.shared_cells.specs.Views.{is_told}
use Rattle.trie_model.specs.Keys.{Entry}
use Rattle.qp_multi.specs.declared.commit.Receipt.{Receipt}
use Rattle.qp_multi.specs.declared.writer.WorkingVersion.{WorkingVersion}
use Rattle.qp_multi.specs.declared.meaning.Operation.{Operation}
use Rattle.qp_multi.specs.Compactions.{Compacts, IsLast}
use Rattle.qp_multi.specs.Keepings.{GoesOn}
use Rattle.qp_multi.specs.Passes.{Known, known_at, first_version}
use Rattle.zone_edit.specs.Blocks.{Edited}
use Rattle.zone_edit.proofs.WayLaws.{at_end}
use Rattle.job_commands.specs.Histories.{IsLawful, OpenedWith}
use Rattle.job_commands.specs.Commands.{BlockRan}
use Rattle.job_commands.proofs.BlockLaws.{commit_ran, spent_ran}

-- a receipt is there where one was told
pub receipt_of : (r : Result Receipt NoNumber) (P : Receipt → Type 0) → IsOk r → IfOk r P → (receipt : Receipt) × P receipt
receipt_of (Ok t) P ok p = (t, p)
receipt_of (Err s) P ok p = absurd cc

stays_so : (v : Known) → GoesOn v v
stays_so v = record { pass = refl; opening = refl; history = refl; namings = ([], sym (append-nil v.seen.namings)) }

-- nothing was done
edits_none : (s : OpenedWith) (d : WorkingVersion) → Edited s.origin no_changes (Ok tt) (Some d) (Some d)
edits_none s d = record {
  edits = record { known = stays_so d.seat.place.me.0; passes = refl; log = ([], sym (append-nil d.log.operations)); few = omega arith; becomes = λ version on. (version, refl, on) };
  ways = λ version on n le. at_end s.origin [] version version d n refl on le;
}

pub compaction_ran : (s : OpenedWith) (old : Known) (o : Outcome) → is_told old.seen.opening ≡ true → first_version old.seen ≡ s.opening → (seat : Option (PassSeat (List Entry) (List Operation))) → IsSome seat → (table : TableId) (passes : ℕ) (r : Result Receipt NoNumber)
    → IfOk r (Compacts IsLawful table passes old (known_at seat)) → IfErr r (IsLast IsLawful old (known_at seat))
    → IfOk r (λ t. (o.version ≡ t.version) × (ended_view o.told ≡ Committed)) → IfErr r (λ t. (o.version ≡ t.version) × (ended_view o.told ≡ Refused Spent)) → BlockRan s no_changes ending.Commit old (known_at seat) o
compaction_ran s old o told opening seat some table passes (Ok t) c back made lost =
    commit_ran s no_changes ending.Commit old o (Some c.working) (Some c.working) told opening c.begins (known_at seat) t.version (edits_none s c.working) refl c.commits c.version made.0 made.1
compaction_ran s old o told opening seat some table passes (Err t) c back made lost =
    spent_ran s no_changes ending.Commit old o (Some back.working) (Some back.working) told opening back.begins seat t.version (some, back.back) (back.version ∙ back.working.seat.version_is) lost.0 (edits_none s back.working) refl (sym back.version ∙ back.last) lost.1

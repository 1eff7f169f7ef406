-- What a commit tells of the working set that was made ready for it, told of the working set before.
use Rattle.std.proofs.Common.{◌≡◌, ◌∙◌, ℕ, ◌<◌, ◌≤◌, [], Bool, true, false, List, refl, sym, ap, subst, arith, append-nil}
use Rattle.trie_model.specs.Keys.{Entry}
use Rattle.chunk_usage.specs.Counting.{sparse_count}
use Rattle.chunk_usage.specs.Ledger.{Ledger, free_count}
use Rattle.qp_multi.specs.declared.commit.Receipt.{Receipt}
use Rattle.qp_multi.specs.declared.writer.WorkingVersion.{WorkingVersion}
use Rattle.qp_multi.specs.declared.meaning.Operation.{Operation}
use Rattle.qp_multi.specs.Bounds.{WhereRoomy}
use Rattle.qp_multi.specs.WorkingVersions.{Works, Commits, working_set}
use Rattle.qp_multi.specs.Keepings.{GoesOn}
use Rattle.qp_multi.specs.Movings.{Evacuates, FewThin}
use Rattle.qp_multi.specs.Operations.{applied}
use Rattle.qp_multi.specs.Passes.{Known, first_version, version_seen}
use Rattle.qp_multi.specs.Receipts.{Publishes, Recycles, Settles, ended}
use Rattle.qp_multi.proofs.GoesLaws.{first_goes_on}
use Rattle.qp_multi.proofs.WorkLaws.{commits_from, set_stays}

-- where few chunks are sparse, and where what lay in them was moved

pub settles_few : {most : ℕ} (d : WorkingVersion) → Works d → sparse_count d.usage ≤ most → Settles most d d true
settles_few d works few = record {
  goes_on = record { pass = refl; opening = refl; history = refl; namings = ([], sym (append-nil d.seat.place.me.0.seen.namings)) };
  seen = refl;
  works = works;
  log = refl;
  few = λ _. (refl, refl);
  many = λ many. absurd (omega arith);
}

pub settles_many : {most : ℕ} {first d : WorkingVersion} (whole : Bool) → most < sparse_count first.usage → GoesOn first.seat.place.me.0 d.seat.place.me.0 → d.seat.place.me.0.seen ≡ first.seat.place.me.0.seen → Works d → d.log.operations ≡ first.log.operations
    → Evacuates first.usage d.usage (ended whole) → Settles most first d whole
settles_many whole many on seen works log moved = record {
  goes_on = on;
  seen = seen;
  works = works;
  log = log;
  few = λ few. absurd (omega arith);
  many = λ _. moved;
}

-- the same view, usage and log
pub record IsAlike (first d : WorkingVersion) : Type 0 where
  pub known : d.seat.place.me.0 ≡ first.seat.place.me.0
  pub usage : d.usage ≡ first.usage
  pub log : d.log.operations ≡ first.log.operations

pub alike_set : {first d : WorkingVersion} → IsAlike first d → working_set d ≡ working_set first
alike_set {first} {d} e = ap (applied (version_seen d.seat.place.me.0.seen)) e.log ∙ ap (λ (v : Known). applied (version_seen v.seen) first.log.operations) e.known

module _ {most : ℕ} {first m d : WorkingVersion} {whole : Bool} (e : IsAlike first m) (s : Settles most m d whole) where
  pub settled_set : working_set d ≡ working_set first
  settled_set = set_stays m d s.goes_on s.log ∙ alike_set e

  pub settled_lawful : (lawful : List Entry → List Entry → Type 0) → lawful (first_version first.seat.place.me.0.seen) (working_set first) → lawful (first_version d.seat.place.me.0.seen) (working_set d)
  settled_lawful lawful good = subst (λ (es : List Entry). lawful es (working_set d)) (sym (first_goes_on s.goes_on ∙ ap (λ (v : Known). first_version v.seen) e.known)) (subst (lawful (first_version first.seat.place.me.0.seen)) (sym settled_set) good)

  pub settled_commits : (after : Known) → Commits d.seat.place.me.0 d.log.operations after → Commits first.seat.place.me.0 first.log.operations after
  settled_commits after c = subst (λ (v : Known). Commits v first.log.operations after) e.known (subst (λ (os : List Operation). Commits m.seat.place.me.0 os after) (s.log ∙ e.log) (commits_from d.log.operations after s.goes_on c))

  settles_first : Settles most first d whole
  settles_first = record {
    goes_on = subst (λ (v : Known). GoesOn v d.seat.place.me.0) e.known s.goes_on;
    seen = s.seen ∙ ap (λ (v : Known). v.seen) e.known;
    works = s.works;
    log = s.log ∙ e.log;
    few = λ few. let same = s.few (subst (λ (u : Ledger). sparse_count u ≤ most) (sym e.usage) few) in (same.0 ∙ e.usage, same.1);
    many = λ many. subst (λ (u : Ledger). Evacuates u d.usage (ended whole)) e.usage (s.many (subst (λ (u : Ledger). most < sparse_count u) (sym e.usage) many));
  }

  pub settled_recycles : (after : Known) (r : Receipt) → r.whole ≡ whole → Publishes d after r → (whole ≡ true → FewThin most d.usage) → (whole ≡ false → free_count d.usage ≡ 0) → WhereRoomy first (r.whole ≡ true) → Recycles most first after r
  settled_recycles after r is publishes few none roomy = record {
    settled = d;
    settles = subst (Settles most first d) (sym is) settles_first;
    publishes = publishes;
    whole = λ h. few (sym is ∙ h);
    stopped = λ h. none (sym is ∙ h);
    roomy = roomy;
  }

-- What a worker does with a snapshot is a step of it.
use Rattle.std.proofs.Common.{◌≡◌, ◌∙◌, ℕ, ◌≤◌, Bool, true, false, List, length, Option, Some, None, refl, sym, ap, subst, arith}
use Rattle.trie_model.specs.Keys as trie
use Rattle.job_model.specs.declared.Question.{Question}
use Rattle.job_model.specs.Commands.{Hold, AskHeld, Release}
use Rattle.job_model.specs.Outcomes.{Shown, is_committed, WorkerProgress}
use Rattle.job_report.specs.Outcomes.{ended_view}
use Rattle.job_report.specs.declared.outcomes.Outcome.{Outcome}
use Rattle.shared_cells.specs.declared.pinned.PinnedSeat.{PinnedSeat}
use Rattle.shared_cells.specs.History.{StartsWith, IsPartOf}
use Rattle.shared_cells.specs.Views.{is_told, pinned_image, pinned_version, pinned_root}
use Rattle.qp_multi.specs.declared.meaning.Operation.{Operation}
use Rattle.qp_multi.specs.Passes.{Known, first_version, version_seen, Pinned}
use Rattle.job_commands.specs.Histories.{OpenedWith, StandsAs, IsLawful}
use Rattle.job_threads.specs.Snapshots.{Held, AskedHeld, Released}
use Rattle.job_commands.specs.Steps.{WorkerPasses, HoldsLast, IsProgress, IsUnder, Step}
use Rattle.job_commands.proofs.HistoryLaws.{begins_length, opened_same, part_same}
use Rattle.job_commands.proofs.ShowLaws.{shown_some}
use Rattle.job_commands.proofs.StepLaws.{shows_at, shown_alone, stays_same, stays_pinned, writes_nothing, shown_plain, seen_stands}
use Rattle.zone_answer.specs.Standing.{ShowsSome}
use Rattle.qp_multi.specs.Meanings.{Holds}
use Rattle.job_commands.specs.WorkerPasses.{IsHeld, Pinned as PinnedSeat'}

-- ---- a pinned seat

-- a pass has taken one
pub held_first : (old : Known) (seat : PinnedSeat') → Pinned IsLawful old seat.place.me.0 seat.version → Holds (pinned_image seat.place.me.0.progress) seat.root (version_seen seat.place.me.0.seen) → IsHeld seat
held_first old seat p holds = record { version = p.version; holds = holds; lawful = p.good }

-- it is the same for as long as its place knows the same
pub held_same : (old new : PinnedSeat') → new.place.me.0 ≡ old.place.me.0 → IsHeld old → IsHeld new
held_same old new same h =
    let version : new.version ≡ old.version = new.version_is ∙ ap (λ (v : Known). pinned_version v.progress) same ∙ sym old.version_is in
    let root : new.root ≡ old.root = new.root_is ∙ ap (λ (v : Known). pinned_root v.progress) same ∙ sym old.root_is in
    record {
      version = version ∙ h.version ∙ sym (ap (λ (v : Known). length v.seen.history) same);
      holds = subst (λ (r : Option ℕ). Holds (pinned_image new.place.me.0.progress) r (version_seen new.place.me.0.seen)) (sym root)
          (subst (λ (v : Known). Holds (pinned_image v.progress) old.root (version_seen v.seen)) (sym same) h.holds);
      lawful = subst (λ (v : Known). IsLawful (first_version v.seen) (version_seen v.seen)) (sym same) h.lawful;
    }

-- it shows each version that stands as what its pass has seen
pub held_shows : (seat : PinnedSeat') → IsHeld seat → ShowsSome (Holds (pinned_image seat.place.me.0.progress) seat.root)
held_shows seat h = shown_some (pinned_image seat.place.me.0.progress) seat.root (first_version seat.place.me.0.seen) (version_seen seat.place.me.0.seen) h.holds h.lawful

-- ---- steps

module _ (s : OpenedWith) (o : Outcome) (old new : WorkerPasses) (opened : first_version old.asks.seen ≡ s.opening) (told_asks : is_told old.asks.seen.opening ≡ true) (told_holds : is_told old.holds.seen.opening ≡ true) (under : IsUnder old.asks old.holds) where
  -- the second pass took a snapshot
  pub hold_step : (seat : PinnedSeat (List trie.Entry) (List Operation)) → new.holds ≡ seat.place.me.0 → new.held ≡ true → IsHeld seat → Held old.asks old.holds new.asks seat o → Step s Hold o old new
  hold_step seat now taken h t =
      let grows = begins_length seat.place.me.0.seen.history old.asks.seen.history t.learns.history in
      let long = begins_length new.asks.seen.history seat.place.me.0.seen.history t.tells.history in
      let last : o.version ≡ length seat.place.me.0.seen.history = t.version ∙ h.version in
      let shown : ended_view o.told ≡ Shown = ap ended_view t.is_told in
      record {
        asks = t.first;
        holds = subst (λ (v : Known). IsPartOf v.seen old.holds.seen) (sym now) t.grows;
        under = subst (IsUnder new.asks) (sym now) (record { opening = sym (opened_same new.asks.seen seat.place.me.0.seen seat.told t.tells); history = t.tells.history });
        held = taken;
        tells = λ set are. t.is_told;
        ends = λ progress is set deeds are explains.
            let seen = is.seen in
            let le : progress.seen ≤ o.version = omega (arith, seen, grows, last) in
            shows_at (progress.seen ≤ o.version) (ended_view o.told) shown le;
        below = omega (arith, long, last);
        holding = λ progress is. record {
          seen = omega (arith, long, last);
          held = subst (λ (b : Bool). HoldsLast new b (Some o.version)) (sym taken) (ap (λ (n : ℕ). Some n) (last ∙ sym (ap (λ (v : Known). length v.seen.history) now)));
        };
        writes = λ own is. writes_nothing s own Hold o.version (is_committed (ended_view o.told)) old.asks new.asks (shown_plain (ended_view o.told) shown) (stays_same Hold o.version own new.asks (t.same ∙ is));
        kept = λ own is. stays_pinned Hold o.version own old.holds new.holds refl is (ap (λ (v : Known). v.pass) now ∙ t.pass);
        moves = λ is. absurd (shown_alone o.told shown is);
      }

-- nothing more was seen
module _ (s : OpenedWith) (o : Outcome) (old : WorkerPasses) (opened : first_version old.asks.seen ≡ s.opening) (told_asks : is_told old.asks.seen.opening ≡ true) (told_holds : is_told old.holds.seen.opening ≡ true) (under : IsUnder old.asks old.holds) (seat : PinnedSeat (List trie.Entry) (List Operation)) (now : old.holds ≡ seat.place.me.0) (taken : old.held ≡ true) (h : IsHeld seat) where
  below_asks : o.version ≡ seat.version → o.version ≤ length old.asks.seen.history
  below_asks e =
      let long = begins_length old.asks.seen.history old.holds.seen.history under.history in
      let same = ap (λ (v : Known). length v.seen.history) now in
      omega (arith, e, h.version, long, same)

  held_version : (progress : WorkerProgress) → IsProgress old progress → o.version ≡ seat.version → progress.held ≡ Some o.version
  held_version progress is e =
      subst (λ (b : Bool). HoldsLast old b progress.held) taken is.held ∙ ap (λ (n : ℕ). Some n) (ap (λ (v : Known). length v.seen.history) now ∙ sym h.version ∙ sym e)

  pub held_step : (question : Question) → AskedHeld s.origin question seat o → Step s (AskHeld question) o old old
  held_step question a = record {
    asks = part_same old.asks.seen told_asks;
    holds = part_same old.holds.seen told_holds;
    under = under;
    held = refl;
    tells = λ set are. a.replies (set o.version)
        (subst (λ (v : Known). StandsAs (version_seen v.seen) (set o.version)) now (seen_stands s set old.asks old.holds o.version (under.opening ∙ opened) under.history (a.version ∙ h.version ∙ sym (ap (λ (v : Known). length v.seen.history) now)) are));
    ends = λ progress is set deeds are explains. shows_at (progress.held ≡ Some o.version) (ended_view o.told) a.shown (held_version progress is a.version);
    below = below_asks a.version;
    holding = λ progress is. is;
    writes = λ own is. writes_nothing s own (AskHeld question) o.version (is_committed (ended_view o.told)) old.asks old.asks (shown_plain (ended_view o.told) a.shown) (stays_same (AskHeld question) o.version own old.asks is);
    kept = λ own is. stays_same (AskHeld question) o.version own old.holds is;
    moves = λ is. absurd (shown_alone o.told a.shown is);
  }

  pub release_step : (new : WorkerPasses) → new.asks ≡ old.asks → new.held ≡ false → Released seat new.holds o → Step s Release o old new
  release_step new same free r =
      let shown : ended_view o.told ≡ Shown = ap ended_view r.is_told in
      let seen : new.holds.seen ≡ old.holds.seen = ap (λ (v : Known). v.seen) r.left ∙ sym (ap (λ (v : Known). v.seen) now) in
      let pass : new.holds.pass ≡ old.holds.pass = ap (λ (v : Known). v.pass) r.left ∙ sym (ap (λ (v : Known). v.pass) now) in
      record {
        asks = subst (λ (v : Known). IsPartOf v.seen old.asks.seen) (sym same) (part_same old.asks.seen told_asks);
        holds = subst (λ x. IsPartOf x old.holds.seen) (sym seen) (part_same old.holds.seen told_holds);
        under = subst (λ (v : Known). IsUnder v new.holds) (sym same) (record {
          opening = ap first_version seen ∙ under.opening;
          history = subst (λ x. StartsWith old.asks.seen.history x.history) (sym seen) under.history;
        });
        held = free;
        tells = λ set are. r.is_told;
        ends = λ progress is set deeds are explains. shows_at (progress.held ≡ Some o.version) (ended_view o.told) shown (held_version progress is r.version);
        below = (let b = below_asks r.version in let e = ap (λ (v : Known). length v.seen.history) same in omega arith);
        holding = λ progress is. record {
          seen = (let l = is.seen in let e = ap (λ (v : Known). length v.seen.history) same in omega arith);
          held = subst (λ (b : Bool). HoldsLast new b None) (sym free) refl;
        };
        writes = λ own is. writes_nothing s own Release o.version (is_committed (ended_view o.told)) old.asks new.asks (shown_plain (ended_view o.told) shown) (stays_same Release o.version own new.asks (ap (λ (v : Known). v.pass) same ∙ is));
        kept = λ own is. stays_same Release o.version own new.holds (pass ∙ is);
        moves = λ is. absurd (shown_alone o.told shown is);
      }

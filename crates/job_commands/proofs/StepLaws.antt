-- What each kind of command does is a step of its worker.
use Rattle.std.proofs.Common.{◌≡◌, ◌∙◌, inl, inr, ℕ, ◌+◌, ◌-◌, ◌<◌, ◌≤◌, Bool, true, false, List, [], ◌∷◌, ◌++◌, length, Option, Some, Result, Ok, Err, refl, sym, ap, subst, arith, length-append}
use Rattle.std.specs.Prelude.{Contains, IsOk}
use Rattle.std.proofs.lemmas.List.Elements.{Contains-push, Contains-push_cases}
use Rattle.zone_model.specs.Versions.{Version}
use Rattle.zone_model.specs.Transactions.{Transaction, whole, no_changes}
use Rattle.zone_model.specs.declared.Refusal.{Refusal}
use Rattle.job_model.specs.declared.Ending.{Ending}
use Rattle.job_model.specs.declared.Ending.TheVariants.{Commit}
use Rattle.job_model.specs.declared.Weight.{Weight}
use Rattle.job_model.specs.declared.Weight.TheVariants.{Heavy}
use Rattle.job_model.specs.declared.Question.{Question}
use Rattle.job_model.specs.Commands.{Command, Ask, Block, Compact, held_after}
use Rattle.job_model.specs.Replies.{reply_of}
use Rattle.job_model.specs.Outcomes.{Ended, Shown, Committed, RolledBack, Refused, is_committed, WorkerProgress, Shows, Causes, BlockEnds, EndsLawfully, shown_by, progress_after}
use Rattle.job_report.specs.Outcomes.{ended_view, Replies, Tells, EndsBlock, EndsCompaction}
use Rattle.job_report.specs.declared.outcomes.Told.{Told}
use Rattle.job_report.specs.declared.outcomes.Told.TheVariants.{Compacted}
use Rattle.job_report.specs.declared.outcomes.Outcome.{Outcome}
use Rattle.shared_cells.specs.History.{StartsWith, IsPartOf, version_after}
use Rattle.shared_cells.specs.Views.{is_told, with_pinned}
use Rattle.qp_multi.specs.Operations.{applied}
use Rattle.qp_multi.specs.Passes.{Known, first_version, version_seen}
use Rattle.job_commands.specs.Histories.{OpenedWith, Entries, StandsAs, AreVersions, Deeds, Explains, judged_by}
use Rattle.job_commands.specs.Commands.{Asked, Transacts, BlockRan}
use Rattle.job_commands.specs.Steps.{WorkerPasses, HoldsLast, IsProgress, IsUnder, Stays, Writes, Moved, Step}
use Rattle.job_commands.proofs.HistoryLaws.{begins_same, begins_more, begins_length, last_stands, opened_same, part_same}
use Rattle.job_commands.proofs.WorkLaws.{Own}

-- ---- outcomes

pub shows_at : (May : Type 0) (e : Ended) → e ≡ Shown → May → Shows May e
shows_at May e is may = subst (Shows May) (sym is) may

ok_from : (r : Result Version Refusal) (v : Version) → r ≡ Ok v → IsOk r
ok_from (Ok w) v e = refl
ok_from (Err x) v e = cc

-- what is shown, and what a block comes to, is told as no compaction
pub shown_alone : (t : Told) → ended_view t ≡ Shown → t ≡ Compacted → ⊥
shown_alone t shown is = let e : Committed ≡ Shown = sym (ap ended_view is) ∙ shown in cc

block_alone : (t : Told) → EndsBlock t → t ≡ Compacted → ⊥
block_alone t ends is = subst EndsBlock is ends

-- ---- what a pass has done

pub stays_same : (c : Command) (version : ℕ) (own : Own) (v : Known) → v.pass ≡ Some own → Stays c version own v
stays_same c version own v is = record { now = own; pass = is; number = refl; entries = refl; pinned = λ n here. inl here }

-- it has pinned the version that the outcome shows
pub stays_pinned : (c : Command) (version : ℕ) (own : Own) (old new : Known) → shown_by c version ≡ version ∷ [] → old.pass ≡ Some own → new.pass ≡ with_pinned old.pass version → Stays c version own new
stays_pinned c version own old new shown is pass = record {
  now = record own { pinned = own.pinned ++ version ∷ [] };
  pass = pass ∙ ap (λ (p : Option Own). with_pinned p version) is;
  number = refl;
  entries = refl;
  pinned = λ n here. elim (Contains-push_cases own.pinned version n here) [
    | inl was ↦ inl was
    | inr e ↦ inr (subst (λ (l : List ℕ). Contains l n) (sym shown) (subst (Contains (version ∷ [])) e (Contains-push [] version)))
  ];
}

pub writes_nothing : (s : OpenedWith) (own : Own) (c : Command) (version : ℕ) (b : Bool) (old new : Known) → b ≡ false → Stays c version own new → Writes s own c version b old new
writes_nothing s own c version b old new e y = subst (λ (x : Bool). Writes s own c version x old new) (sym e) y

pub shown_plain : (e : Ended) → e ≡ Shown → is_committed e ≡ false
shown_plain e is = ap is_committed is

-- a version that was seen stands as the set has it
pub seen_stands : (s : OpenedWith) (set : ℕ → Version) (asks part : Known) (v : ℕ) → first_version part.seen ≡ s.opening → StartsWith asks.seen.history part.seen.history → v ≡ length part.seen.history → AreVersions s asks.seen.history set → StandsAs (version_seen part.seen) (set v)
seen_stands s set asks part v opening front e are =
    subst (λ (o : Entries). StandsAs (version_after applied o part.seen.history) (set v)) (sym opening) (last_stands s asks.seen.history part.seen.history set v front e are)

module _ (s : OpenedWith) (o : Outcome) (old new : WorkerPasses) (opened : first_version old.asks.seen ≡ s.opening) (told_asks : is_told old.asks.seen.opening ≡ true) (told_holds : is_told old.holds.seen.opening ≡ true) (under : IsUnder old.asks old.holds) where
  module _ (same : new.holds ≡ old.holds) (held : new.held ≡ old.held) (grows : IsPartOf new.asks.seen old.asks.seen) where
    -- the first pass alone went on
    still_under : IsUnder new.asks new.holds
    still_under = subst (IsUnder new.asks) (sym same) (record {
      opening = under.opening ∙ sym (opened_same new.asks.seen old.asks.seen told_asks grows);
      history = begins_more new.asks.seen.history old.asks.seen.history old.holds.seen.history grows.history under.history;
    })

    still_part : IsPartOf new.holds.seen old.holds.seen
    still_part = subst (λ (v : Known). IsPartOf v.seen old.holds.seen) (sym same) (part_same old.holds.seen told_holds)

    still_holds : (v : Option ℕ) → HoldsLast old old.held v → HoldsLast new new.held v
    still_holds v h = subst (λ (b : Bool). HoldsLast new b v) (sym held) (by_held old.held h)
      where
        by_held : (b : Bool) → HoldsLast old b v → HoldsLast new b v
        by_held false h = h
        by_held true h = h ∙ ap (λ (k : Known). Some (length k.seen.history)) (sym same)

    still_kept : (c : Command) (own : Own) → old.holds.pass ≡ Some own → Stays c o.version own new.holds
    still_kept c own is = stays_same c o.version own new.holds (ap (λ (k : Known). k.pass) same ∙ is)

    opened_now : first_version new.asks.seen ≡ s.opening
    opened_now = opened_same new.asks.seen old.asks.seen told_asks grows ∙ opened

    -- what a step is that leaves the second pass alone, whatever is told of it
    record Rest (c : Command) : Type 0 where
      asks : IsPartOf new.asks.seen old.asks.seen
      ends : (progress : WorkerProgress) → IsProgress old progress → (set : ℕ → Version) (deeds : Deeds) → AreVersions s new.asks.seen.history set → Explains s deeds new.asks.seen
          → EndsLawfully (judged_by s set deeds) progress c o.version (ended_view o.told)
      below : o.version ≤ length new.asks.seen.history
      holding : (progress : WorkerProgress) → IsProgress old progress → IsProgress new (progress_after progress c o.version)
      writes : (own : Own) → old.asks.pass ≡ Some own → Writes s own c o.version (is_committed (ended_view o.told)) old.asks new.asks

    rest_step : (c : Command) → Rest c → held_after old.held c ≡ old.held → ((set : ℕ → Version) → AreVersions s new.asks.seen.history set → Tells s.origin set c o) → (o.told ≡ Compacted → Moved s old.asks new.asks) → Step s c o old new
    rest_step c rest stays tells moves = record {
      asks = rest.asks;
      holds = still_part;
      under = still_under;
      held = held ∙ sym stays;
      tells = tells;
      ends = rest.ends;
      below = rest.below;
      holding = rest.holding;
      writes = rest.writes;
      kept = still_kept c;
      moves = moves;
    }

    pub ask_step : (question : Question) → Asked s.origin question old.asks new.asks o → Step s (Ask question) o old new
    ask_step question a =
        let replies : (set : ℕ → Version) → AreVersions s new.asks.seen.history set → Replies (reply_of s.origin (set o.version) question) o.told =
        λ set are. a.replies (set o.version) (seen_stands s set new.asks new.asks o.version opened_now (begins_same new.asks.seen.history) a.version are) in
        let long = begins_length new.asks.seen.history old.asks.seen.history grows.history in
        rest_step (Ask question) (record {
          asks = a.grows;
          ends = λ progress is set deeds are explains.
              let seen = is.seen in
              let le : progress.seen ≤ o.version = omega (arith, seen, long, a.version) in
              shows_at (progress.seen ≤ o.version) (ended_view o.told) a.shown le;
          below = omega (arith, a.version);
          holding = λ progress is. record { seen = omega (arith, a.version); held = still_holds progress.held is.held };
          writes = λ own is. writes_nothing s own (Ask question) o.version (is_committed (ended_view o.told)) old.asks new.asks (shown_plain (ended_view o.told) a.shown) (stays_pinned (Ask question) o.version own old.asks new.asks refl is a.pass);
        }) refl replies (λ is. absurd (shown_alone o.told a.shown is))

    block_rest : (weight : Weight) (asked : Transaction) (ending : Ending) (own : Own) → old.asks.pass ≡ Some own → BlockRan s asked ending old.asks new.asks o → Rest (Block weight asked ending)
    block_rest weight asked ending own is b = record {
      asks = b.grows;
      ends = λ progress is' set deeds are explains. by_end progress is' set deeds are explains (ended_view o.told) b.transacts;
      below = omega (arith, b.version);
      holding = λ progress is'. record { seen = omega (arith, b.version); held = still_holds progress.held is'.held };
      writes = λ own' is'. by_write own' is' (ended_view o.told) b.transacts;
    }
      where
        long : length old.asks.seen.history ≤ length new.asks.seen.history
        long = begins_length new.asks.seen.history old.asks.seen.history grows.history

        stands_at : (set : ℕ → Version) → AreVersions s new.asks.seen.history set → StandsAs (version_seen new.asks.seen) (set o.version)
        stands_at set are = seen_stands s set new.asks new.asks o.version opened_now (begins_same new.asks.seen.history) b.version are

        by_end : (progress : WorkerProgress) → IsProgress old progress → (set : ℕ → Version) (deeds : Deeds) → AreVersions s new.asks.seen.history set → Explains s deeds new.asks.seen → (e : Ended) → Transacts s asked ending old.asks new.asks e → BlockEnds (judged_by s set deeds) progress.seen asked ending o.version e
        by_end progress is' set deeds are explains Shown t = t
        by_end progress is' set deeds are explains Committed t =
            let c = t.1 own is in
            let seen = is'.seen in
            let base_long = begins_length c.base old.asks.seen.history c.before in
            let longer : length new.asks.seen.history ≡ length c.base + 1 = ap length c.history ∙ length-append c.base _ in
            let before_it : progress.seen < o.version = (let v = b.version in omega arith) in
            let last : o.version - 1 ≡ length c.base = (let v = b.version in omega arith) in
            let base = last_stands s new.asks.seen.history c.base set (o.version - 1) (_, c.history) last are in
            let made = c.makes (set (o.version - 1)) base in
            (t.0, before_it, ok_from (whole s.origin asked (set (o.version - 1))) made.0 made.1)
        by_end progress is' set deeds are explains RolledBack t =
            let seen = is'.seen in
            let l = long in
            let le : progress.seen ≤ o.version = (let v = b.version in omega arith) in
            (t.0, le, t.2 (set o.version) (stands_at set are))
        by_end progress is' set deeds are explains (Refused cause) t =
            let seen = is'.seen in
            let l = long in
            let le : progress.seen ≤ o.version = (let v = b.version in omega arith) in
            (le, subst (λ (n : ℕ). Causes (judged_by s set deeds) asked ending n cause) (sym b.version) (t.1 set deeds are explains))

        by_write : (own' : Own) → old.asks.pass ≡ Some own' → (e : Ended) → Transacts s asked ending old.asks new.asks e → Writes s own' (Block weight asked ending) o.version (is_committed e) old.asks new.asks
        by_write own' is' Shown t = absurd t
        by_write own' is' Committed t =
            let c = t.1 own' is' in
            let longer : length new.asks.seen.history ≡ length c.base + 1 = ap length c.history ∙ length-append c.base _ in
            record {
              base = c.base;
              operations = c.changes;
              before = c.before;
              mine = c.mine;
              does = c.does;
              history = c.history;
              pass = c.pass;
              numbered = b.version ∙ longer;
              makes = c.makes;
            }
        by_write own' is' RolledBack t = stays_same (Block weight asked ending) o.version own' new.asks (t.1 ∙ is')
        by_write own' is' (Refused cause) t = stays_same (Block weight asked ending) o.version own' new.asks (t.0 ∙ is')

    pub block_step : (weight : Weight) (asked : Transaction) (ending : Ending) (own : Own) → old.asks.pass ≡ Some own → EndsBlock o.told → BlockRan s asked ending old.asks new.asks o → Step s (Block weight asked ending) o old new
    block_step weight asked ending own is ends b = rest_step (Block weight asked ending) (block_rest weight asked ending own is b) refl (λ set are. ends) (λ is. absurd (block_alone o.told ends is))

    -- a compaction ends as a block without asked does
    pub compact_step : (own : Own) → old.asks.pass ≡ Some own → EndsCompaction o.told → (o.told ≡ Compacted → Moved s old.asks new.asks) → BlockRan s no_changes Commit old.asks new.asks o → Step s Compact o old new
    compact_step own is ends moves b =
        let rest = block_rest Heavy no_changes Commit own is b in
        rest_step Compact (record {
          asks = rest.asks;
          ends = rest.ends;
          below = rest.below;
          holding = rest.holding;
          writes = λ own' is'. writes_as own' (is_committed (ended_view o.told)) (rest.writes own' is');
        }) refl (λ set are. ends) moves
      where
        stays_as : (own' : Own) (v : Known) → Stays (Block Heavy no_changes Commit) o.version own' v → Stays Compact o.version own' v
        stays_as own' v y = record { now = y.now; pass = y.pass; number = y.number; entries = y.entries; pinned = y.pinned }

        writes_as : (own' : Own) (c : Bool) → Writes s own' (Block Heavy no_changes Commit) o.version c old.asks new.asks → Writes s own' Compact o.version c old.asks new.asks
        writes_as own' false y = stays_as own' new.asks y
        writes_as own' true y = record { base = y.base; operations = y.operations; before = y.before; mine = y.mine; does = y.does; history = y.history; pass = y.pass; numbered = y.numbered; makes = y.makes }

-- a pass has seen what it has seen
pub under_itself : (v : Known) → IsUnder v v
under_itself v = record { opening = refl; history = begins_same v.seen.history }

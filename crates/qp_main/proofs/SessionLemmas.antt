-- What is so of a session, by why it ended early and what was written then.
use Rattle.std.proofs.Common.{◌≡◌, ℕ, Bool, true, false, cond, List, [], ◌++◌, append-nil, Option, Some, None, refl, sym, inl, inr, subst}
use Rattle.zone_model.specs.Names.{Name}
use Rattle.outer_io.specs.Bytes.{Grows, GrowsByFront, Held}
use Rattle.outer_io.proofs.GrowsLemmas.{Grows-nil, Grows-trans}
use Rattle.live_session.specs.Dues.{HasEnded, HoldsFront}
use Rattle.live_session.specs.Ends.{EndedEarly}
use Rattle.live_session.specs.declared.early.EarlyEnd.{EarlyEnd}
use Rattle.live_session.specs.declared.early.EarlyEnd.TheVariants as early
use Rattle.live_session.proofs.EndLaws.{nothing_yet}
use Rattle.job_commands.specs.Calls.{Call}
use Rattle.command_line.specs.Invocations.{Invocation, Verb, Run, Feed, Check, Make, Dump, Size, Zones, Diff, Live}
use Rattle.qp_main.specs.Due.{AnswersLines, CutShort, Due, DueGiven, GaveFor, IsUnwritten, IsWritten, MakesInput, MayBeShort, Written, input_of, is_streamed}
use Rattle.qp_main.specs.Heard.{Heard, HeardGiven}
use Rattle.qp_main.specs.Faults.{TellsSink}
use Rattle.qp_main.specs.Faults.{TellsSource}
use Rattle.outer_io.specs.Bytes.{GivesBytes}
use Rattle.qp_main.specs.Serving.{CutsShort, EndsRun}
use Rattle.qp_main.specs.Sessions.{EndsBy, HasLast, IsWhole, LastLine, SaysOf, SaysSession, SessionHolds, SessionRan, WroteLine}
use Rattle.qp_main.specs.declared.status.Status.{Status}
use Rattle.qp_main.specs.declared.status.Status.TheVariants as status
use Rattle.qp_main.proofs.WritingLemmas.{front_behind}

module _ (asked : Option ℕ) (origin : Name) (bytes : List ℕ) (ended : Bool) (before mid held : Held) where
  Holds : Status → Type 0
  Holds s = SessionHolds asked origin bytes ended before held s

  -- a last line was written, or a front of it
  wrote : (under s : Status) (text : List ℕ) → LastLine asked origin bytes ended before under mid text → (HasLast asked origin bytes ended before held under → SessionHolds asked origin bytes ended before held under) → WroteLine under text mid held s → SessionHolds asked origin bytes ended before held s
  wrote under s text last f (inl w) = subst (SessionHolds asked origin bytes ended before held) (sym w.0) (f (record { mid = mid; text = text; last = last; grew = w.1 }))
  wrote under s text last f (inr w) = subst (SessionHolds asked origin bytes ended before held) (sym w.0) (inr (record { status = under; mid = mid; text = text; last = last; grew = w.1 }))

  front_kept : held ≡ mid → HoldsFront asked origin bytes ended before mid → HoldsFront asked origin bytes ended before held
  front_kept same h = subst (λ (x : Held). HoldsFront asked origin bytes ended before x) (sym same) h

  pub early_holds : (end : EarlyEnd) (s : Status) → EndedEarly asked origin bytes ended before mid end → EndsBy end mid held s → SessionHolds asked origin bytes ended before held s
  early_holds (early.ZoneRefused refusal) s e w = wrote status.ZoneRefused s _ (e.2, e.1, record { line = refusal.line; kind = refusal.kind }, e.0, refl) (λ h. h) w
  early_holds (early.DoesNotFit cells limit) s e (inl w) = wrote status.DoesNotFit s _ (e.2, e.1, cells, limit, e.0, refl) (λ h. h) w
  early_holds (early.DoesNotFit cells limit) s e (inr w) = subst (SessionHolds asked origin bytes ended before held) (sym w.0) (front_kept w.1 (nothing_yet asked origin bytes ended before mid e.2))
  early_holds early.ZoneTooLong s e w = wrote status.TooLong s _ (inl (e.1, e.0, refl)) (λ h. h) w
  early_holds early.LineTooLong s e w = wrote status.TooLong s _ (inr (e, refl)) (λ h. h) w
  early_holds early.TalkFault s e w = subst (SessionHolds asked origin bytes ended before held) (sym w.0) (subst (λ (x : Held). SessionHolds asked origin bytes ended before x status.SourceFault) (sym w.1) e)
  early_holds early.SinkFault s e w = subst (SessionHolds asked origin bytes ended before held) (sym w.0) (inl (front_kept w.1 e))
  early_holds early.Memory s e w = subst (SessionHolds asked origin bytes ended before held) (sym w.0) (front_kept w.1 e)

-- all lines were answered
pub done_holds : (asked : Option ℕ) (origin : Name) (bytes : List ℕ) (ended : Bool) (before held : Held) (refused : Bool) (s : Status) → s ≡ cond refused status.SomeRefused status.Done → HasEnded asked origin bytes ended refused before held → SessionHolds asked origin bytes ended before held s
done_holds asked origin bytes ended before held true s e h = subst (SessionHolds asked origin bytes ended before held) (sym e) h
done_holds asked origin bytes ended before held false s e h = subst (SessionHolds asked origin bytes ended before held) (sym e) h

-- a session that ended early isn't whole
pub not_whole : (end : EarlyEnd) (mid held : Held) (s : Status) → EndsBy end mid held s → IsWhole s → ⊥
not_whole (early.ZoneRefused refusal) mid held s (inl w) h = subst IsWhole w.0 h
not_whole (early.ZoneRefused refusal) mid held s (inr w) h = subst IsWhole w.0 h
not_whole (early.DoesNotFit cells limit) mid held s (inl (inl w)) h = subst IsWhole w.0 h
not_whole (early.DoesNotFit cells limit) mid held s (inl (inr w)) h = subst IsWhole w.0 h
not_whole (early.DoesNotFit cells limit) mid held s (inr w) h = subst IsWhole w.0 h
not_whole early.ZoneTooLong mid held s (inl w) h = subst IsWhole w.0 h
not_whole early.ZoneTooLong mid held s (inr w) h = subst IsWhole w.0 h
not_whole early.LineTooLong mid held s (inl w) h = subst IsWhole w.0 h
not_whole early.LineTooLong mid held s (inr w) h = subst IsWhole w.0 h
not_whole early.TalkFault mid held s w h = subst IsWhole w.0 h
not_whole early.SinkFault mid held s w h = subst IsWhole w.0 h
not_whole early.Memory mid held s w h = subst IsWhole w.0 h

-- a line was written, or a front of it
pub wrote_by : (under s : Status) (text : List ℕ) (mid held : Held) → (IsWritten s → (s ≡ under) × Grows mid held text) → (s ≡ status.SinkFault → GrowsByFront mid held text) → (s ≡ status.SourceFault → ⊥) × (s ≡ status.NoMemory → ⊥) → WroteLine under text mid held s
wrote_by under status.SinkFault text mid held w f n = inr (refl, f refl)
wrote_by under status.SourceFault text mid held w f n = absurd (n.0 refl)
wrote_by under status.NoMemory text mid held w f n = absurd (n.1 refl)
wrote_by under status.Done text mid held w f n = inl (w tt)
wrote_by under status.SomeRefused text mid held w f n = inl (w tt)
wrote_by under status.WordsRefused text mid held w f n = inl (w tt)
wrote_by under status.ZoneRefused text mid held w f n = inl (w tt)
wrote_by under status.ScriptRefused text mid held w f n = inl (w tt)
wrote_by under status.TooLong text mid held w f n = inl (w tt)
wrote_by under status.DoesNotFit text mid held w f n = inl (w tt)
wrote_by under status.Differ text mid held w f n = inl (w tt)

-- ---- as of other verbs, nothing of whose input is said

module _ (asked : Option ℕ) (origin : Name) (bytes : List ℕ) (ended : Bool) (before : Held) where
  -- what was written before a last line
  before_last : (s : Status) (mid : Held) (text : List ℕ) → LastLine asked origin bytes ended before s mid text → (front : List ℕ) × Grows before mid front
  before_last status.TooLong mid text (inl l) = ([], subst (λ (x : Held). Grows before x []) (sym l.0) (Grows-nil before))
  before_last status.TooLong mid text (inr l) = (l.0.text, l.0.grew)
  before_last status.Done mid text l = absurd l
  before_last status.SomeRefused mid text l = absurd l
  before_last status.WordsRefused mid text l = absurd l
  before_last status.ZoneRefused mid text l = ([], subst (λ (x : Held). Grows before x []) (sym l.0) (Grows-nil before))
  before_last status.ScriptRefused mid text l = absurd l
  before_last status.SourceFault mid text l = absurd l
  before_last status.SinkFault mid text l = absurd l
  before_last status.NoMemory mid text l = absurd l
  before_last status.DoesNotFit mid text l = ([], subst (λ (x : Held). Grows before x []) (sym l.0) (Grows-nil before))
  before_last status.Differ mid text l = absurd l

  last_written : (held : Held) (s : Status) (due : Status → List ℕ → Type 0) → ((text : List ℕ) → due s text) → HasLast asked origin bytes ended before held s → Written due before held s
  last_written held s due d h =
      let front = before_last s h.mid h.text h.last in
      record { text = front.0 ++ h.text; is_due = d (front.0 ++ h.text); grew = Grows-trans before h.mid held front.0 h.text front.1 h.grew }

  holds_written : (held : Held) (s : Status) (due : Status → List ℕ → Type 0) → ((text : List ℕ) → due s text) → SessionHolds asked origin bytes ended before held s → IsWritten s → Written due before held s
  holds_written held status.Done due d h w = record { text = h.text; is_due = d h.text; grew = h.grew }
  holds_written held status.SomeRefused due d h w = record { text = h.text; is_due = d h.text; grew = h.grew }
  holds_written held status.WordsRefused due d h w = absurd h
  holds_written held status.ZoneRefused due d h w = last_written held status.ZoneRefused due d h
  holds_written held status.ScriptRefused due d h w = absurd h
  holds_written held status.SourceFault due d h w = absurd w
  holds_written held status.SinkFault due d h w = absurd w
  holds_written held status.NoMemory due d h w = absurd w
  holds_written held status.TooLong due d h w = last_written held status.TooLong due d h
  holds_written held status.DoesNotFit due d h w = last_written held status.DoesNotFit due d h
  holds_written held status.Differ due d h w = absurd h

  holds_short : (held : Held) (due : Status → List ℕ → Type 0) → ((s : Status) (text : List ℕ) → due s text) → SessionHolds asked origin bytes ended before held status.SinkFault → CutShort due before held
  holds_short held due d (inl f) = record { status = status.Done; text = f.text; is_due = d status.Done f.text; grew = f.grew }
  holds_short held due d (inr b) =
      let front = before_last b.status b.mid b.text b.last in
      record { status = status.Done; text = front.0 ++ b.text; is_due = d status.Done (front.0 ++ b.text); grew = front_behind before b.mid held front.0 b.text front.1 b.grew }

module _ (asked : Option ℕ) (origin : Name) (given now : List ℕ) (ended : Bool) (before held : Held) (s : Status) (ran : SessionRan asked origin given now ended before held s) where
  -- it is written whole
  pub ran_written : (due : Status → List ℕ → Type 0) → ((text : List ℕ) → due s text) → IsWritten s → Written due before held s
  ran_written due d w = holds_written asked origin ran.bytes ended before held s due d ran.holds w

  -- up to some place
  pub ran_short : (due : Status → List ℕ → Type 0) → ((s : Status) (text : List ℕ) → due s text) → s ≡ status.SinkFault → CutShort due before held
  ran_short due d e = holds_short asked origin ran.bytes ended before held due d (subst (SessionHolds asked origin ran.bytes ended before held) e ran.holds)

  -- of the bytes that the source gave
  pub ran_given : (i : Invocation) → AnswersLines i.verb → (so : Option (List ℕ) → Type 0) → ((left : Option (List ℕ)) → so left) → GaveFor (Some i) given now ended so
  ran_given i a so h = record { bytes = ran.bytes; gave = ran.gave; whole = λ reads within. absurd (reads.1 a); holds = h (Some ran.bytes) }

-- no input is read before the answers, so that nothing is due for one
unsaid_of : (v : Verb) (i : Invocation) (left : Option (List ℕ)) (s : Status) (text : List ℕ) → AnswersLines v → DueGiven i (input_of v left) s text
unsaid_of (Live asked) i left s text a = tt
unsaid_of Run i left s text a = absurd a
unsaid_of (Feed workers) i left s text a = absurd a
unsaid_of Check i left s text a = absurd a
unsaid_of (Make load) i left s text a = absurd a
unsaid_of (Dump style) i left s text a = absurd a
unsaid_of Size i left s text a = absurd a
unsaid_of Zones i left s text a = absurd a
unsaid_of (Diff style serial) i left s text a = absurd a

pub unsaid : (i : Invocation) → AnswersLines i.verb → (left : Option (List ℕ)) (s : Status) (text : List ℕ) → Due (Some i) left s text
unsaid i a left s text = unsaid_of i.verb i left s text a

unheard_of : (hears : Call → Type 0) (v : Verb) (i : Invocation) (left : Option (List ℕ)) → AnswersLines v → HeardGiven hears i (input_of v left)
unheard_of hears (Live asked) i left a = tt
unheard_of hears Run i left a = absurd a
unheard_of hears (Feed workers) i left a = absurd a
unheard_of hears Check i left a = absurd a
unheard_of hears (Make load) i left a = absurd a
unheard_of hears (Dump style) i left a = absurd a
unheard_of hears Size i left a = absurd a
unheard_of hears Zones i left a = absurd a
unheard_of hears (Diff style serial) i left a = absurd a

pub unheard : (hears : Call → Type 0) (i : Invocation) → AnswersLines i.verb → (left : Option (List ℕ)) → Heard hears (Some i) left
unheard hears i a left = unheard_of hears i.verb i left a

sink_failed : (s : Status) → MayBeShort false s → s ≡ status.SinkFault
sink_failed status.SinkFault short = refl
sink_failed status.NoMemory short = absurd cc
sink_failed status.Done short = absurd short
sink_failed status.SomeRefused short = absurd short
sink_failed status.WordsRefused short = absurd short
sink_failed status.ZoneRefused short = absurd short
sink_failed status.ScriptRefused short = absurd short
sink_failed status.SourceFault short = absurd short
sink_failed status.TooLong short = absurd short
sink_failed status.DoesNotFit short = absurd short
sink_failed status.Differ short = absurd short

-- it is cut short by the sink alone
pub by_sink : (v : Verb) (s : Status) → AnswersLines v → MayBeShort (is_streamed v) s → s ≡ status.SinkFault
by_sink (Live asked) s a short = sink_failed s short
by_sink Run s a short = absurd a
by_sink (Feed workers) s a short = absurd a
by_sink Check s a short = absurd a
by_sink (Make load) s a short = absurd a
by_sink (Dump style) s a short = absurd a
by_sink Size s a short = absurd a
by_sink Zones s a short = absurd a
by_sink (Diff style serial) s a short = absurd a

-- ---- no memory is left before anything is read

pub unbegun : (asked : Option ℕ) (origin : Name) (given : List ℕ) (ended : Bool) (before : Held) → SessionRan asked origin given given ended before before status.NoMemory
unbegun asked origin given ended before = record { bytes = []; gave = sym (append-nil given); holds = nothing_yet asked origin [] ended before before refl; whole = λ w. absurd w }

says_always_of : (v : Verb) (origin : Name) (so : Option ℕ → Name → Type 0) → ((asked : Option ℕ) (origin : Name) → so asked origin) → SaysOf v origin so
says_always_of (Live asked) origin so h = h asked origin
says_always_of Run origin so h = tt
says_always_of (Feed workers) origin so h = tt
says_always_of Check origin so h = tt
says_always_of (Make load) origin so h = tt
says_always_of (Dump style) origin so h = tt
says_always_of Size origin so h = tt
says_always_of Zones origin so h = tt
says_always_of (Diff style serial) origin so h = tt

pub says_always : (o : Option Invocation) (so : Option ℕ → Name → Type 0) → ((asked : Option ℕ) (origin : Name) → so asked origin) → SaysSession o so
says_always None so h = tt
says_always (Some i) so h = says_always_of i.verb i.origin so h

-- ---- verbs that have an input

abbrev IsNoInput : Option (List ℕ) → Type 0
IsNoInput None = Unit {0}
IsNoInput (Some bytes) = ⊥

-- an invocation isn't none
pub some_not_none : (i : Invocation) → Some i ≡ None → ⊥
some_not_none i e = let h : Some i ≡ None = e in cc

-- what is left is read to its end, before anything is answered
pub reads_input : (v : Verb) → ((left : Option (List ℕ)) → input_of v left ≡ left) → (MakesInput v → ⊥) × (AnswersLines v → ⊥)
reads_input (Make load) same = (λ m. subst IsNoInput (sym (same None)) tt, λ a. a)
reads_input (Live asked) same = (λ m. m, λ a. subst IsNoInput (same (Some [])) tt)
reads_input Run same = (λ m. m, λ a. a)
reads_input (Feed workers) same = (λ m. m, λ a. a)
reads_input Check same = (λ m. m, λ a. a)
reads_input (Dump style) same = (λ m. m, λ a. a)
reads_input Size same = (λ m. m, λ a. a)
reads_input Zones same = (λ m. m, λ a. a)
reads_input (Diff style serial) same = (λ m. m, λ a. a)

-- what a status says of a run that reads its input
pub reading_ends : {S K : Type 0} {i : Invocation} {left : S → Option (List ℕ)} {gave : S → List ℕ} {ended : S → Bool} {trouble : S → ℕ} {held : K → Held} {faults : K → ℕ} {before after : S} {old new : K} {s : Status}
    → ((bytes : Option (List ℕ)) → input_of i.verb bytes ≡ bytes) → CutsShort (Some i) left gave ended held before after old new s → TellsSink faults old new s → TellsSource trouble before after s
    → (IsUnwritten (is_streamed i.verb) s → held new ≡ held old) → (s ≡ status.TooLong → GivesBytes left gave before after 16777217) → (s ≡ status.WordsRefused → ⊥) → EndsRun (Some i) left gave ended trouble held faults before after old new s
reading_ends {S} {K} {i} same short sink source unwritten taken words = record {
  short = short;
  sink = sink;
  source = source;
  unwritten = λ other. unwritten;
  unread = λ none. absurd (some_not_none i none);
  words = λ e. absurd (words e);
  made = λ m. absurd ((reads_input i.verb same).0 m);
  load = λ m. absurd ((reads_input i.verb same).0 m);
  taken = λ other. taken;
}

-- What a session has read and written, step by step.
use Rattle.std.proofs.Common.{◌≡◌, ◌∙◌, ◌⊎◌, ℕ, ◌+◌, ◌<◌, ◌≤◌, ◌^◌, Bool, true, false, List, [], ◌∷◌, ◌++◌, length, take, drop, Option, Some, None, refl, sym, ap, arith, subst, inl, inr, append_assoc, append-nil, length-append}
use Rattle.std.proofs.lemmas.Grind.{common_steps}
use Rattle.std.proofs.Common.{cond, eqb, ltb}
use Rattle.std.specs.List.{position_or_len}
use Rattle.std.proofs.lemmas.Bool.Decides.{nat_tests}
use Rattle.std.proofs.lemmas.List.{get_or-take, length-take-le, take_all}
use Rattle.std.proofs.lemmas.List.Sums.{fails_before_first, position_or_len_is}
use Rattle.zone_text.proofs.LineLemmas.{found, missed}
use Rattle.session_talk.proofs.FedLaws.{feed_at}
use Rattle.zone_model.specs.Lines.{lines_of}
use Rattle.zone_model.specs.Names.{Name}
use Rattle.job_model.specs.Commands.{Command}
use Rattle.job_model.specs.Reports.{end_text}
use Rattle.job_model.specs.Sessions.{Said, Session, all_said, first_session, left_open, session_lines}
use Rattle.job_report.specs.declared.outcomes.Outcome.{Outcome}
use Rattle.outer_io.specs.Bytes.{Grows, GrowsByFront, Held}
use Rattle.outer_io.proofs.GrowsLemmas.{Grows-trans}
use Rattle.std.proofs.Common.{Result, Ok, Err}
use Rattle.std.specs.Prelude.{OnErr, OnOk}
use Rattle.std.specs.Result.{IsErrAnd, IsErrOf}
use Rattle.session_talk.specs.declared.serving.Stop.{Stop}
use Rattle.session_talk.specs.declared.serving.Stop.TheVariants as stop
use Rattle.session_talk.specs.Stops.{stop_of}
use Rattle.session_lines.specs.declared.intake.NoMore.{NoMore}
use Rattle.session_lines.specs.declared.intake.NoMore.TheVariants as no_more
use Rattle.job_model.specs.declared.ScriptKind.TheVariants.{OpenBlock}
use Rattle.session_lines.specs.Views.{open_view}
use Rattle.session_lines.specs.Printing.{Printing, with_refused, with_text}
use Rattle.session_lines.specs.Taking.{IsUnbroken, NextIsShort, line_end}
use Rattle.session_talk.specs.Answering.{AnswersLines, EndsLines, IsFed, SoFar, Way}
use Rattle.session_talk.specs.Entries.{Entry, Refused, at_ready, commands_in, outcomes_in, said_in, with_entries}
use Rattle.session_talk.specs.Serving.{AtWork, BeginsAt, Finished, IsTooLong, LeftOpen, LinesDone, Settled, Stands}
use Rattle.session_talk.specs.Workers.{EndsAt}
use Rattle.session_talk.specs.declared.worker.LastVersion.{LastVersion}
use Rattle.session_talk.proofs.EntryLaws.{commands-append, outcomes-append, said-append, with-append, with-written}
use Rattle.session_talk.proofs.TextLaws.{ends}
use lib.Seq.{take-append-add}

-- ---- fronts

pub grows_front : (before now : Held) (text : List ℕ) → Grows before now text → GrowsByFront before now text
grows_front before now text g = (length text, (let le : length text ≤ length text = omega arith in le), subst (Grows before now) (sym (take_all (length text) text (omega arith))) g)

-- a front behind what had been written
front_behind : (before mid now : Held) (a b : List ℕ) → Grows before mid a → GrowsByFront mid now b → GrowsByFront before now (a ++ b)
front_behind before mid now a b g f =
    (length a + f.0, omega (arith, length-append a b, f.1), subst (Grows before now) (sym (take-append-add a b f.0)) (Grows-trans before mid now a (take f.0 b) g f.2))

module _ (way : Way) (given : List ℕ) (held now : Held) (ran : List Command → List Outcome → Type 0) (s : Session) (p : Printing) (lines : ℕ) (pending : List ℕ) (w : AtWork ran way given held s p lines pending) where
  -- ---- what is to be written was written

  pub settled_by : IsUnbroken pending → AnswersLines way.opened way.first w.done (w.written ++ p.text) → Grows held now p.text → Settled way given now
  settled_by unbroken answers g = record {
    done = w.done;
    rest = pending;
    fed = w.fed;
    unbroken = unbroken;
    gave = w.gave;
    text = w.written ++ p.text;
    answers = answers;
    grew = Grows-trans way.held held now w.written p.text w.grew g;
  }

  pub put_work : (ran' : List Command → List Outcome → Type 0) (s' : Session) (p' : Printing) (lines' : ℕ) → Grows held now p.text → SoFar ran' way.opened way.first w.done (w.written ++ p.text) s' p' lines' → AtWork ran' way given now s' p' lines' pending
  put_work ran' s' p' lines' g h = record { done = w.done; written = w.written ++ p.text; fed = w.fed; gave = w.gave; grew = Grows-trans way.held held now w.written p.text w.grew g; so_far = h }

  pub put_stands : AnswersLines way.opened way.first w.done (w.written ++ p.text) → GrowsByFront held now p.text → Stands way given now
  put_stands answers g = record { lines = w.done; rest = pending; gave = w.gave; text = w.written ++ p.text; due = inl answers; grew = front_behind way.held held now w.written p.text w.grew g }

  pub too_long_by : IsUnbroken (take (2 ^ 24) pending) → 2 ^ 24 < length pending → AnswersLines way.opened way.first w.done (w.written ++ p.text) → Grows held now p.text → IsTooLong way given now
  too_long_by unbroken over answers g = record {
    done = w.done;
    rest = pending;
    fed = w.fed;
    long = unbroken;
    over = over;
    gave = w.gave;
    text = w.written ++ p.text;
    answers = answers;
    grew = Grows-trans way.held held now w.written p.text w.grew g;
  }

  -- ---- a line more was answered

  pub line_work : (ran' : List Command → List Outcome → Type 0) (s' : Session) (p' : Printing) (lines' count : ℕ) → IsFed (w.done ++ take count pending)
      → SoFar ran' way.opened way.first (w.done ++ take count pending) w.written s' p' lines' → AtWork ran' way given held s' p' lines' (drop count pending)
  line_work ran' s' p' lines' count fed h = record {
    done = w.done ++ take count pending;
    written = w.written;
    fed = fed;
    gave = w.gave ∙ ap (λ (l : List ℕ). (way.given ++ w.done) ++ l) (let e : pending ≡ take count pending ++ drop count pending = grind (arith, common_steps) in e)
        ∙ sym (append_assoc (way.given ++ w.done) (take count pending) (drop count pending)) ∙ ap (λ (l : List ℕ). l ++ drop count pending) (append_assoc way.given w.done (take count pending));
    grew = w.grew;
    so_far = h;
  }

  -- ---- more was taken

  pub more_work : (more : List ℕ) → AtWork ran way (given ++ more) held s p lines (pending ++ more)
  more_work more = record {
    done = w.done;
    written = w.written;
    fed = w.fed;
    gave = ap (λ (l : List ℕ). l ++ more) w.gave ∙ append_assoc (way.given ++ w.done) pending more;
    grew = w.grew;
    so_far = w.so_far;
  }

pub more_stands : (way : Way) (given more : List ℕ) (held : Held) → Stands way given held → Stands way (given ++ more) held
more_stands way given more held h = record {
  lines = h.lines;
  rest = h.rest ++ more;
  gave = ap (λ (l : List ℕ). l ++ more) h.gave ∙ append_assoc (way.given ++ h.lines) h.rest more;
  text = h.text;
  due = h.due;
  grew = h.grew;
}

-- ---- the end

pub left_refused : {A E : Type 0} (r : Result A E) (s : Session) (line : ℕ) (found : Option ℕ) (before now : Printing) → left_open s.opened s.block ≡ open_view found → found ≡ Some line → OnOk r (now ≡ with_refused before line OpenBlock) → OnOk r (LeftOpen s before now)
left_refused (Ok x) s line found before now e f p = record { more = Refused line OpenBlock ∷ []; same = sym (e ∙ ap open_view f); no_commands = refl; no_outcomes = refl; printed = p }
left_refused (Err x) s line found before now e f p = tt

module _ (way : Way) (done written : List ℕ) (ran : List Command → List Outcome → Type 0) (s : Session) (p open' all' : Printing) (lines : ℕ) (last : LastVersion)
    (h : SoFar ran way.opened way.first done written s p lines) (left : LeftOpen s p open') (at : EndsAt way.opened (commands_in h.entries) (outcomes_in h.entries) last)
    (shown : all' ≡ with_text open' (end_text last.version last.names)) where
  all_entries : List Entry
  all_entries = h.entries ++ left.more

  ends_at : EndsAt way.opened (commands_in (h.entries ++ left.more)) (outcomes_in (h.entries ++ left.more)) last
  ends_at = rw (commands-append h.entries left.more, outcomes-append h.entries left.more, left.no_commands, left.no_outcomes, append-nil (commands_in h.entries), append-nil (outcomes_in h.entries)) at

  said_is : all_said (session_lines way.opened.origin way.first (lines_of done) first_session) ≡ said_in (h.entries ++ left.more)
  said_is =
      ap (λ (l : List Said). l ++ left_open (session_lines way.opened.origin way.first (lines_of done) first_session).session.opened (session_lines way.opened.origin way.first (lines_of done) first_session).session.block) h.said
      ∙ ap (λ (x : Session). said_in h.entries ++ left_open x.opened x.block) h.session ∙ ap (λ (l : List Said). said_in h.entries ++ l) (sym left.same) ∙ sym (said-append h.entries left.more)

  printed_is : record open' { text = written ++ open'.text } ≡ with_entries (at_ready way.opened.zone) (h.entries ++ left.more)
  printed_is = ap (λ (x : Printing). record x { text = written ++ x.text }) left.printed ∙ sym (with-written written p left.more) ∙ ap (λ (x : Printing). with_entries x left.more) h.printed ∙ sym (with-append (at_ready way.opened.zone) h.entries left.more)

  pub ends_lines : EndsLines way.opened way.first done all'.refused (written ++ all'.text)
  ends_lines =
      ends way.opened (h.entries ++ left.more) _ all'.refused (written ++ all'.text) last said_is ends_at
      (ap (λ (x : Printing). x.refused) shown ∙ ap (λ (x : Printing). x.refused) printed_is)
      (ap (λ (x : Printing). written ++ x.text) shown ∙ sym (append_assoc written open'.text (end_text last.version last.names)) ∙ ap (λ (x : Printing). x.text ++ end_text last.version last.names) printed_is)

  pub finished : (given : List ℕ) (held now : Held) → given ≡ way.given ++ done → Grows way.held held written → Grows held now all'.text → Finished way all'.refused given now
  finished given held now gave grew g = record { all = done; gave = gave; text = written ++ all'.text; ends = ends_lines; grew = Grows-trans way.held held now written all'.text grew g }

  pub ended_stands : (given : List ℕ) (held now : Held) → given ≡ way.given ++ done → Grows way.held held written → GrowsByFront held now all'.text → Stands way given now
  ended_stands given held now gave grew g = record {
    lines = done;
    rest = [];
    gave = gave ∙ sym (append-nil (way.given ++ done));
    text = written ++ all'.text;
    due = inr (all'.refused, ends_lines);
    grew = front_behind way.held held now written all'.text grew g;
  }

pub on_err : {A E P : Type 0} (r : Result A E) → P → OnErr r P
on_err (Ok x) p = tt
on_err (Err e) p = p

-- no bytes are left
pub none_left : (way : Way) (given : List ℕ) (held : Held) (ran : List Command → List Outcome → Type 0) (s : Session) (p : Printing) (lines : ℕ) (pending : List ℕ) → AtWork ran way given held s p lines pending → length pending ≡ 0 → LinesDone ran way given held s p lines
none_left way given held ran s p lines [] w e = record { done = w.done; written = w.written; gave = w.gave ∙ append-nil (way.given ++ w.done); grew = w.grew; so_far = w.so_far }
none_left way given held ran s p lines (x ∷ pending) w e = absurd (omega arith)

-- the last line was answered
pub last_done : (way : Way) (given : List ℕ) (held : Held) (ran ran' : List Command → List Outcome → Type 0) (s s' : Session) (p p' : Printing) (lines lines' : ℕ) (pending : List ℕ) (w : AtWork ran way given held s p lines pending)
    → SoFar ran' way.opened way.first (w.done ++ pending) w.written s' p' lines' → LinesDone ran' way given held s' p' lines'
last_done way given held ran ran' s s' p p' lines lines' pending w h = record { done = w.done ++ pending; written = w.written; gave = w.gave ∙ append_assoc way.given w.done pending; grew = w.grew; so_far = h }

-- ---- more is asked for

not_below : (n : ℕ) → ltb n n ≡ false
not_below n = grind (arith, nat_tests)

-- a line that is too long
pub long_line : (bytes : List ℕ) (count : ℕ) → line_end bytes ≡ Some count → 2 ^ 24 < count → IsUnbroken (take (2 ^ 24) bytes) × (2 ^ 24 < length bytes)
long_line bytes count e over =
    let f = feed_at bytes count e in
    let p = found bytes f.0 f.2 in
    let short : length (take (2 ^ 24) bytes) ≡ 2 ^ 24 = length-take-le (2 ^ 24) bytes (omega (arith, f.1, p.1)) in
    let none : position_or_len (λ b. eqb b 10) (take (2 ^ 24) bytes) ≡ length (take (2 ^ 24) bytes) =
    position_or_len_is (λ b. eqb b 10) (take (2 ^ 24) bytes) (length (take (2 ^ 24) bytes)) 0 (omega arith)
    (λ k lt. ap (λ (c : ℕ). eqb c 10) (get_or-take (2 ^ 24) bytes k 0 (omega (arith, short))) ∙ fails_before_first (λ b. eqb b 10) bytes k 0 (omega (arith, p.0, f.1, short)))
    (λ lt. absurd (omega arith)) in
    let outside = not_below (length (take (2 ^ 24) bytes)) in
    (ap (λ (x : ℕ). cond (ltb x (length (take (2 ^ 24) bytes))) (Some x) None) none ∙ ap (λ (t : Bool). cond t (Some (length (take (2 ^ 24) bytes))) None) outside, omega (arith, f.1, p.1))

-- the error that is passed on
pub same_error : {A : Type 0} (r : Result A Stop) (e x : Stop) → IsErrAnd r (λ y. y ≡ e) → r ≡ Err x → x ≡ e
same_error (Ok a) e x f is = absurd cc
same_error (Err y) e x f is = let s : y ≡ x = cc in sym s ∙ f

-- where an error is passed on nothing is said of another end
pub not_ok : {A : Type 0} (r : Result A Stop) (e : Stop) (P : Type 0) → IsErrAnd r (λ y. y ≡ e) → OnOk r P
not_ok (Ok a) e P f = absurd f
not_ok (Err y) e P f = tt

-- the first of bytes without a line feed have none
pub front_unbroken : (n : ℕ) (bytes : List ℕ) → n ≤ length bytes → IsUnbroken bytes → IsUnbroken (take n bytes)
front_unbroken n bytes le whole =
    let far = missed (λ b. eqb b 10) bytes whole in
    let short : length (take n bytes) ≡ n = length-take-le n bytes le in
    let none : position_or_len (λ b. eqb b 10) (take n bytes) ≡ length (take n bytes) =
    position_or_len_is (λ b. eqb b 10) (take n bytes) (length (take n bytes)) 0 (omega arith)
    (λ k lt. ap (λ (c : ℕ). eqb c 10) (get_or-take n bytes k 0 (omega (arith, short))) ∙ fails_before_first (λ b. eqb b 10) bytes k 0 (omega (arith, far, short)))
    (λ lt. absurd (omega arith)) in
    let outside = not_below (length (take n bytes)) in
    ap (λ (x : ℕ). cond (ltb x (length (take n bytes))) (Some x) None) none ∙ ap (λ (t : Bool). cond t (Some (length (take n bytes))) None) outside

-- why no more was taken
pub fault_of : (e : NoMore) → stop.Fault ≡ stop_of e → e ≡ no_more.Fault
fault_of no_more.Fault is = refl
fault_of no_more.TooLong is = cc
fault_of no_more.Memory is = cc

pub too_long_of : (e : NoMore) → stop.TooLong ≡ stop_of e → e ≡ no_more.TooLong
too_long_of no_more.Fault is = cc
too_long_of no_more.TooLong is = refl
too_long_of no_more.Memory is = cc

pub memory_of : (e : NoMore) → stop.Memory ≡ stop_of e → e ≡ no_more.Memory
memory_of no_more.Fault is = cc
memory_of no_more.TooLong is = cc
memory_of no_more.Memory is = refl

pub passed_as : {A B : Type 0} (r : Result A Stop) (e x : Stop) → IsErrAnd r (λ y. y ≡ e) → IsErrOf {T = B} (Err e) x → r ≡ Err x
passed_as (Ok a) e x f k = absurd f
passed_as (Err y) e x f k = let s : e ≡ x = cc in ap Err (f ∙ s)

-- the end of input was told, or so many reads were made
pub either_end : (b : Bool) (P : Type 0) (n counter many : ℕ) → (b ≡ true → P) → (b ≡ false → counter ≤ many) → n ≤ counter → P ⊎ (n ≤ many)
either_end true P n counter many t f le = inl (t refl)
either_end false P n counter many t f le = inr (let m : counter ≤ many = f refl in omega arith)

-- ---- the beginning

module _ {ran : List Command → List Outcome → Type 0} {way : Way} {origin : Name} {first names : ℕ} {given : List ℕ} {held : Held} {pending : List ℕ} (b : BeginsAt ran way origin first names given held pending) where
  -- the first line is to be written
  pub begun_so_far : {ran' : List Command → List Outcome → Type 0} {s : Session} {p : Printing} {lines : ℕ} → SoFar ran' way.opened first [] [] s p lines → SoFar ran' way.opened way.first [] [] s p lines
  begun_so_far {ran'} {s} {p} {lines} h = subst (λ (n : ℕ). SoFar ran' way.opened n [] [] s p lines) (sym b.first_is) h

  -- it was written
  pub begun_work : (ran' : List Command → List Outcome → Type 0) (now : Held) (s : Session) (p : Printing) (lines : ℕ) (text : List ℕ) → Grows held now text → SoFar ran' way.opened way.first [] text s p lines → AtWork ran' way given now s p lines pending
  begun_work ran' now s p lines text g h = record {
    done = [];
    written = text;
    fed = inl refl;
    gave = b.gave ∙ ap (λ (l : List ℕ). l ++ pending) (sym (append-nil way.given));
    grew = subst (λ (x : Held). Grows x now text) (sym b.held_is) g;
    so_far = h;
  }

  -- or a front of it
  pub begun_stands : (now : Held) (text : List ℕ) → GrowsByFront held now text → AnswersLines way.opened way.first [] text → Stands way given now
  begun_stands now text g a = record {
    lines = [];
    rest = pending;
    gave = b.gave ∙ ap (λ (l : List ℕ). l ++ pending) (sym (append-nil way.given));
    text = text;
    due = inl a;
    grew = subst (λ (x : Held). GrowsByFront x now text) (sym b.held_is) g;
  }

pub err_left : {A E : Type 0} (P Q : Type 0) (r : Result A E) → OnErr r P → OnErr r (P ⊎ Q)
err_left P Q (Ok x) p = tt
err_left P Q (Err e) p = inl p

-- so few bytes are there
pub few_bytes : (bytes now : List ℕ) → now ≡ bytes → length bytes ≤ 2 ^ 24 → NextIsShort now
few_bytes bytes now same le = inr (let n = ap {B = ℕ} (λ l. length l) same in omega (arith, n, le))

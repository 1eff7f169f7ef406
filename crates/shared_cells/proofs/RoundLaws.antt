-- A round, one pass after another.
use Rattle.std.proofs.Common.{◌≡◌, ℕ, zero, suc, ◌+◌, ◌-◌, ◌<◌, eqb, List, [], ◌∷◌, ◌++◌, length, set, replicate, Bool, true, false, cond, refl, sym, ap, ◌∙◌, subst, arith, append_assoc, append-nil, Option, Some, None, length-set, length-append}
use Rattle.std.specs.Prelude.{◌&&◌}
use Rattle.std.specs.List.{All, Contains, list_all}
use Rattle.std.proofs.lemmas.List.{length-replicate, set-set}
use Rattle.std.proofs.lemmas.List.Elements.{All-append, All-cons, All-nil}
use mathlib.Core.Option.{none}
use prog.Atomic.{either}
use Rattle.atomic_table.specs.Table.{Me, Step, Allows, step}
use Rattle.pin_core.specs.declared.kept.CellAt.{CellAt}
use Rattle.pin_core.specs.declared.kept.Mark.{Mark}
use Rattle.pin_core.specs.declared.kept.Mark.TheVariants as mark
use Rattle.pin_core.specs.Words.{pin_at}
use Rattle.pin_core.specs.Sound.{Turn, turn_of}
use Rattle.pin_core.specs.Machine.{is_settled, mark_of, kept_by_round, round_checked}
use Rattle.shared_cells.specs.declared.view.TableSize.{TableSize}
use Rattle.shared_cells.specs.declared.view.Naming.{Naming}
use Rattle.shared_cells.specs.declared.view.Seen.{Seen}
use Rattle.shared_cells.specs.declared.view.TurnView.{TurnView}
use Rattle.shared_cells.specs.declared.view.View.{View}
use Rattle.shared_cells.specs.Views.{is_told, kept_in, marks_of, with_round, marked_turn, naming_by, namings_by, with_namings, marked_view, rounded_view}
use Rattle.shared_cells.specs.Rule.{IsSoundTable}
use Rattle.shared_cells.specs.Steps.{exchanged_by, IsOfKept, IsCurrent, Marks, scanned, assigned}
use Rattle.shared_cells.proofs.Marks.{may_scan, may_assign}
use Rattle.shared_cells.proofs.Turns.{nothing_more}
use Rattle.pin_core.proofs.Lists.{and_left, and_right}

-- whether all marks are settled

and_false : (a b : Bool) → b ≡ false → (a && b) ≡ false
and_false true b e = e
and_false false b e = refl

both_true : (a b : Bool) → a ≡ true → b ≡ true → (a && b) ≡ true
both_true true b e f = f
both_true false b e f = e

-- one that isn't keeps the round open
open_marks : (xs ys : List Mark) → list_all is_settled (xs ++ mark.Blank ∷ ys) ≡ false
open_marks [] ys = refl
open_marks (x ∷ xs) ys = and_false (is_settled x) (list_all is_settled (xs ++ mark.Blank ∷ ys)) (open_marks xs ys)

entering_marks : (ms : List Mark) (p : ℕ) → p < length ms → list_all is_settled (set ms p mark.Entering) ≡ false
entering_marks [] p l = absurd (omega arith)
entering_marks (m ∷ ms) zero l = refl
entering_marks (m ∷ ms) (suc p) l = and_false (is_settled m) (list_all is_settled (set ms p mark.Entering)) (entering_marks ms p (omega arith))

one_more_settled : (xs : List Mark) (m : Mark) → list_all is_settled xs ≡ true → is_settled m ≡ true → list_all is_settled (xs ++ m ∷ []) ≡ true
one_more_settled [] m e f = ap (λ (b : Bool). b && true) f
one_more_settled (x ∷ xs) m e f = both_true (is_settled x) (list_all is_settled (xs ++ m ∷ [])) (and_left (is_settled x) (list_all is_settled xs) e) (one_more_settled xs m (and_right (is_settled x) (list_all is_settled xs) e) f)

still_open : (n : ℕ) (t : Turn) → list_all is_settled t.marks ≡ false → round_checked n t ≡ t
still_open n t e = ap (λ (b : Bool). cond b (record t { kept = kept_by_round t; marks = replicate n mark.Blank }) t) e

has_ended : (n : ℕ) (t : Turn) → list_all is_settled t.marks ≡ true → round_checked n t ≡ record t { kept = kept_by_round t; marks = replicate n mark.Blank }
has_ended n t e = ap (λ (b : Bool). cond b (record t { kept = kept_by_round t; marks = replicate n mark.Blank }) t) e

-- marks that were found, and those to come

abbrev rest : ℕ → List Mark
rest n = replicate n mark.Blank

set_next : (found : List Mark) (m : Mark) (later : List Mark) → set (found ++ mark.Blank ∷ later) (length found) m ≡ (found ++ m ∷ []) ++ later
set_next [] m later = refl
set_next (f ∷ fs) m later = ap (λ (ms : List Mark). f ∷ ms) (set_next fs m later)

namings_more : (p : ℕ) (found : List Mark) (m : Mark) (q : ℕ) → q ≡ p + length found → namings_by p (found ++ m ∷ []) ≡ namings_by p found ++ naming_by q m
namings_more p [] m q e = append-nil (naming_by p m) ∙ ap (λ (r : ℕ). naming_by r m) (let same : p ≡ q = omega arith in same)
namings_more p (f ∷ fs) m q e = ap (λ (ns : List Naming). naming_by p f ++ ns) (namings_more (p + 1) fs m q (omega arith)) ∙ sym (append_assoc (naming_by p f) (namings_by (p + 1) fs) (naming_by q m))

module _ {O E : Type 0} where
  -- these marks were found, and so many passes are left
  abbrev marking_view : View O E → TurnView → List Mark → ℕ → View O E
  marking_view v turn found left = record v { seen = with_namings v.seen (namings_by 0 found); turn = Some (record turn { marks = found ++ rest left }) }

  -- The round of n passes, begun at the view v, has found these marks.
  pub record InRound (n : ℕ) (v w : View O E) (found : List Mark) : Type 0 where
    pub turn : TurnView
    pub is_turn : v.turn ≡ Some turn
    pub each : length turn.marks ≡ n
    pub left : ℕ
    pub total : length found + left ≡ n
    pub settled : list_all is_settled found ≡ true
    pub named : All (IsOfKept turn.kept) found
    pub going : 0 < left → w ≡ marking_view v turn found left
    pub ended : left ≡ 0 → w ≡ rounded_view v turn found

  pub begins : (n : ℕ) (v : View O E) (turn : TurnView) → v.turn ≡ Some turn → marks_of v.turn ≡ replicate n mark.Blank → 0 < n → InRound n v v []
  begins n v turn is blank some =
      let marks : turn.marks ≡ replicate n mark.Blank = sym (ap marks_of is) ∙ blank in record {
        turn = turn;
        is_turn = is;
        each = ap length marks ∙ length-replicate n mark.Blank;
        left = n;
        total = (let e : 0 + n ≡ n = omega arith in e);
        settled = refl;
        named = All-nil (IsOfKept turn.kept);
        going = λ l. ap (λ (x : Seen O E × Option TurnView). record v { seen = x.0; turn = x.1 }) (λ i. (sym (nothing_more v.seen) i, (is ∙ ap (λ (ms : List Mark). Some (record turn { marks = ms })) marks) i));
        ended = λ e. absurd (omega arith);
      }

  -- what a pass is marked as, if it was about to look and was helped

  module _ (v v1 : View O E) (p : ℕ) (first : Marks v p 1 v1) (small : p < length (marks_of v.turn)) where
    within : p < length first.0.marks
    within = let e = ap (λ (o : Option TurnView). length (marks_of o)) first.1 in omega arith

    -- it was still open
    abbrev entering : TurnView
    entering = record first.0 { marks = set first.0.marks p mark.Entering }

    open_turn : marked_turn (length v.seen.history) first.0 p mark.Entering ≡ entering
    open_turn = ap (with_round first.0) (still_open (length first.0.marks) (turn_of (length v.seen.history) first.0.kept (set first.0.marks p mark.Entering)) (entering_marks first.0.marks p within))

    at_first : v1 ≡ record v { turn = Some entering }
    at_first = first.2 ∙ ap (λ (x : Seen O E × TurnView). record v { seen = x.0; turn = Some x.1 }) (λ i. (nothing_more v.seen i, open_turn i))

    still_told : is_told v.seen.opening ≡ true → is_told v1.seen.opening ≡ true
    still_told told = ap (λ (x : View O E). is_told x.seen.opening) at_first ∙ told

    still_small : p < length (marks_of v1.turn)
    still_small = let e : length (marks_of v1.turn) ≡ length (set first.0.marks p mark.Entering) = ap (λ (x : View O E). length (marks_of x.turn)) at_first in let n = length-set first.0.marks p mark.Entering in let l = within in omega arith

    still_current : (word : ℕ) → IsCurrent v word → IsCurrent v1 word
    still_current word c = subst (λ (x : View O E). IsCurrent x word) (sym at_first) (c.0, subst (λ (o : Option TurnView). Contains (kept_in o) c.0) first.1 c.1, c.2, c.3)

    module _ (v2 : View O E) (pin : ℕ) (second : Marks v1 p pin v2) where
      same_turn : second.0 ≡ entering
      same_turn = let e : Some second.0 ≡ Some entering = sym second.1 ∙ ap (λ (x : View O E). x.turn) at_first in cc

      marked_again : marked_turn (length v.seen.history) entering p (mark_of pin) ≡ marked_turn (length v.seen.history) first.0 p (mark_of pin)
      marked_again = ap (λ (x : ℕ × List Mark). with_round first.0 (round_checked x.0 (turn_of (length v.seen.history) first.0.kept x.1))) (λ i. (length-set first.0.marks p mark.Entering i, set-set first.0.marks p mark.Entering (mark_of pin) i))

      helped : Marks v p pin v2
      helped = (
        first.0,
        first.1,
        second.2 ∙ ap (λ (x : View O E × TurnView). marked_view x.0 x.1 p (mark_of pin)) (λ i. (at_first i, same_turn i)) ∙ ap (λ (t : TurnView). record v { seen = with_namings v.seen (naming_by p (mark_of pin)); turn = Some t }) marked_again,
        subst (λ (t : TurnView). IsOfKept t.kept (mark_of pin)) same_turn second.3,
      )

  -- a mark told of a step on the pass's pin
  at_pass : (v w : View O E) (p pin : ℕ) → Marks v (pin_at p - 1) pin w → Marks v p pin w
  at_pass v w p pin = subst (λ (q : ℕ). Marks v q pin w) (let e : pin_at p - 1 ≡ p = omega arith in e)

  pub scanned_pass : (st : Step (Unit {0})) (m m1 : Me (Unit {0}) (View O E)) (p found : ℕ) → st.word ≡ pin_at p → scanned st m found m1 → Marks m.0 p found m1.0
  scanned_pass st m m1 p found is t = at_pass m.0 m1.0 p found (subst (λ (q : ℕ). Marks m.0 (q - 1) found m1.0) is t.0)

  pub helped_pass : (st : Step (Unit {0})) (m m1 m2 : Me (Unit {0}) (View O E)) (p found : ℕ) → st.word ≡ pin_at p → Marks m.0 p 1 m1.0 → p < length (marks_of m.0.turn) → assigned st m1 found m2 → Marks m.0 p (exchanged_by st found) m2.0
  helped_pass st m m1 m2 p found is first small t = helped m.0 m1.0 p first small m2.0 (exchanged_by st found) (at_pass m1.0 m2.0 p (exchanged_by st found) (subst (λ (q : ℕ). Marks m1.0 (q - 1) (exchanged_by st found) m2.0) is t.0))

  -- the next pass is marked

  module _ (n : ℕ) (v w w' : View O E) (found : List Mark) (r : InRound n v w found) (pin : ℕ) (marks : Marks w (length found) pin w') (settled : is_settled (mark_of pin) ≡ true) (small : length found < n) where
    abbrev m : Mark
    m = mark_of pin

    some_left : 0 < r.left
    some_left = let t = r.total in omega arith

    -- the turn before the step
    abbrev now : TurnView
    now = record r.turn { marks = found ++ rest r.left }

    same_now : marks.0 ≡ now
    same_now = let e : Some marks.0 ≡ Some now = sym marks.1 ∙ ap (λ (x : View O E). x.turn) (r.going some_left) in cc

    -- the turn's part after it, by the marks
    abbrev part : List Mark → Turn
    part ms = turn_of (length v.seen.history) r.turn.kept ms

    more_seen : with_namings (with_namings v.seen (namings_by 0 found)) (naming_by (length found) (mark_of pin)) ≡ with_namings v.seen (namings_by 0 (found ++ mark_of pin ∷ []))
    more_seen = ap (λ (ns : List Naming). record v.seen { namings = ns }) (append_assoc v.seen.namings (namings_by 0 found) (naming_by (length found) (mark_of pin))
        ∙ ap (λ (ns : List Naming). v.seen.namings ++ ns) (sym (namings_more 0 found (mark_of pin) (length found) (let e : length found ≡ 0 + length found = omega arith in e))))

    after_step : w' ≡ record v { seen = with_namings v.seen (namings_by 0 (found ++ mark_of pin ∷ [])); turn = Some (with_round r.turn (round_checked (length (found ++ rest r.left)) (part (set (found ++ rest r.left) (length found) (mark_of pin))))) }
    after_step = marks.2 ∙ ap (λ (x : View O E × TurnView). marked_view x.0 x.1 (length found) (mark_of pin)) (λ i. (r.going some_left i, same_now i))
        ∙ ap (λ (x : Seen O E). record v { seen = x; turn = Some (with_round r.turn (round_checked (length (found ++ rest r.left)) (part (set (found ++ rest r.left) (length found) (mark_of pin))))) }) more_seen

    long : length (found ++ mark_of pin ∷ []) ≡ length found + 1
    long = length-append found (mark_of pin ∷ [])

    all_named : All (IsOfKept r.turn.kept) (found ++ mark_of pin ∷ [])
    all_named = All-append (IsOfKept r.turn.kept) found (mark_of pin ∷ []) r.named
        (All-cons (IsOfKept r.turn.kept) (mark_of pin) [] (subst (λ (t : TurnView). IsOfKept t.kept (mark_of pin)) same_now marks.3) (All-nil (IsOfKept r.turn.kept)))

    -- the marks, if so many passes are left behind this one
    marked_next : (k : ℕ) → r.left ≡ suc k → set (found ++ rest r.left) (length found) (mark_of pin) ≡ (found ++ mark_of pin ∷ []) ++ rest k
    marked_next k e = ap (λ (l : ℕ). set (found ++ rest l) (length found) (mark_of pin)) e ∙ set_next found (mark_of pin) (rest k)

    same_count : length (found ++ rest r.left) ≡ length r.turn.marks
    same_count = let e = r.each in let t = r.total in omega (arith, length-append found (rest r.left), length-replicate {A = Mark} r.left mark.Blank)

    goes_on : (k : ℕ) → r.left ≡ suc (suc k) → w' ≡ marking_view v r.turn (found ++ mark_of pin ∷ []) (suc k)
    goes_on k e = after_step ∙ ap (λ (t : Turn). record v { seen = with_namings v.seen (namings_by 0 (found ++ mark_of pin ∷ [])); turn = Some (with_round r.turn t) })
        (ap (λ (ms : List Mark). round_checked (length (found ++ rest r.left)) (part ms)) (marked_next (suc k) e)
        ∙ still_open (length (found ++ rest r.left)) (part ((found ++ mark_of pin ∷ []) ++ rest (suc k))) (open_marks (found ++ mark_of pin ∷ []) (rest k)))

    is_over : r.left ≡ suc zero → w' ≡ rounded_view v r.turn (found ++ mark_of pin ∷ [])
    is_over e = after_step ∙ ap (λ (t : Turn). record v { seen = with_namings v.seen (namings_by 0 (found ++ mark_of pin ∷ [])); turn = Some (with_round r.turn t) })
        (ap (λ (ms : List Mark). round_checked (length (found ++ rest r.left)) (part ms)) (marked_next zero e ∙ append-nil (found ++ mark_of pin ∷ []))
        ∙ has_ended (length (found ++ rest r.left)) (part (found ++ mark_of pin ∷ [])) (one_more_settled found (mark_of pin) r.settled settled)
        ∙ ap (λ (k : ℕ). record (part (found ++ mark_of pin ∷ [])) { kept = kept_by_round (part (found ++ mark_of pin ∷ [])); marks = rest k }) same_count)

    pub next_marked : InRound n v w' (found ++ mark_of pin ∷ [])
    next_marked = by_left r.left refl
      where
        by_left : (l : ℕ) → r.left ≡ l → InRound n v w' (found ++ mark_of pin ∷ [])
        by_left zero e = absurd (let l = some_left in omega arith)
        by_left (suc zero) e = record {
          turn = r.turn;
          is_turn = r.is_turn;
          each = r.each;
          left = zero;
          total = (let t = r.total in let k = long in omega arith);
          settled = one_more_settled found (mark_of pin) r.settled settled;
          named = all_named;
          going = λ l. absurd (omega arith);
          ended = λ z. is_over e;
        }
        by_left (suc (suc k)) e = record {
          turn = r.turn;
          is_turn = r.is_turn;
          each = r.each;
          left = suc k;
          total = (let t = r.total in let k = long in omega arith);
          settled = one_more_settled found (mark_of pin) r.settled settled;
          named = all_named;
          going = λ l. goes_on k e;
          ended = λ z. absurd (omega arith);
        }

  -- while some are left the turn knows what it knew of the kept versions, and of its history
  pub still_kept : (n : ℕ) (v w : View O E) (found : List Mark) → InRound n v w found → length found < n → (kept_in w.turn ≡ kept_in v.turn) × (w.seen.history ≡ v.seen.history) × (w.seen.opening ≡ v.seen.opening) × (length (marks_of w.turn) ≡ n)
  still_kept n v w found r l = let e = r.going (let t = r.total in omega arith) in (
    ap (λ (x : View O E). kept_in x.turn) e ∙ sym (ap kept_in r.is_turn),
    ap (λ (x : View O E). x.seen.history) e,
    ap (λ (x : View O E). x.seen.opening) e,
    ap (λ (x : View O E). length (marks_of x.turn)) e ∙ (let t = r.total in let k : length (found ++ rest r.left) ≡ n = omega (arith, length-append found (rest r.left), length-replicate {A = Mark} r.left mark.Blank) in k),
  )

marked_turn_there : (o : Option TurnView) (p : ℕ) → p < length (marks_of o) → (turn : TurnView) × (o ≡ Some turn)
marked_turn_there None p l = absurd (omega arith)
marked_turn_there (Some turn) p l = (turn, refl)

module _ {O E : Type 0} (applied : O → E → O) (lawful : O → O → Type 0) (permitted : E → Type 0) (stands : List CellAt → Option ℕ → O → Type 0) (size : TableSize) where
  pub may_scan_pass : (slots id : ℕ) (m : Me (Unit {0}) (View O E)) (p : ℕ) → is_told m.0.seen.opening ≡ true → p < length (marks_of m.0.turn) → Allows (IsSoundTable applied lawful permitted stands size) slots id m (pin_at p) (λ n. n) (scanned (step slots (pin_at p) 0 0 none) m)
  may_scan_pass slots id m p told small = let t = marked_turn_there m.0.turn p small in may_scan applied lawful permitted stands size slots id m t.0 t.1 told p (let e = ap (λ (o : Option TurnView). length (marks_of o)) t.1 in omega arith)

  pub may_help_pass : (slots id : ℕ) (m m1 : Me (Unit {0}) (View O E)) (p word : ℕ) → Marks m.0 p 1 m1.0 → is_told m.0.seen.opening ≡ true → p < length (marks_of m.0.turn) → IsCurrent m.0 word
      → Allows (IsSoundTable applied lawful permitted stands size) slots id m1 (pin_at p) (λ n. either (eqb n 1) (word + 2) n) (assigned (step slots (pin_at p) 1 (word + 2) none) m1)
  may_help_pass slots id m m1 p word first told small current =
      let l = still_small m.0 m1.0 p first small in
      let t = marked_turn_there m1.0.turn p l in
      let c = still_current m.0 m1.0 p first small word current in
      subst (λ (w : ℕ). Allows (IsSoundTable applied lawful permitted stands size) slots id m1 (pin_at p) (λ n. either (eqb n 1) (w + 2) n) (assigned (step slots (pin_at p) 1 (w + 2) none) m1)) (sym c.3)
      (may_assign applied lawful permitted stands size slots id m1 t.0 t.1 (still_told m.0 m1.0 p first small told) p (let e = ap (λ (o : Option TurnView). length (marks_of o)) t.1 in omega arith) c.0 (subst (λ (o : Option TurnView). Contains (kept_in o) c.0) t.1 c.1) c.2)

-- Words that the turn copies, and what that makes of its cells.
use Rattle.std.proofs.Common.{◌≡◌, ◌≢◌, ℕ, ◌+◌, ◌-◌, ◌*◌, ◌/◌, ◌<◌, ◌≤◌, List, length, get_or, set, Bool, true, false, inl, inr, refl, sym, ap, ◌∙◌, subst, arith, Option, Some, None, length-set, get_or-set_same, get_or-set_other}
use Rattle.std.specs.Prelude.{◌==◌, Contains}
use Rattle.std.proofs.lemmas.Bool.{cases_lt}
use Rattle.std.proofs.lemmas.List.{same_lists}
use Rattle.packed_node.specs.declared.Cell.{Cell}
use Rattle.atomic_table.specs.Seated.{TableId}
use Rattle.pin_core.specs.declared.event.Half.TheVariants.{Big, Small}
use Rattle.pin_core.specs.declared.kept.Kept.{Kept}
use Rattle.pin_core.specs.Machine.{is_kept_cell}
use Rattle.pin_core.specs.Words.{status_at, cell_at}
use Rattle.chunk_cells.specs.Chunks as chunk
use Rattle.shared_cells.specs.declared.view.TurnView.{TurnView}
use Rattle.shared_cells.specs.declared.view.View.{View}
use Rattle.shared_cells.specs.Views.{has_turn, words_of, kept_in, stored_in, stored_view}
use Rattle.shared_cells.specs.Cells.{Cells, cells_of, given_chunks, kept_references, HasCell, words_in, with_words, IsLent, IsBlankWord, IsCopy, MayCopy, HasCopied}
use Rattle.shared_cells.specs.Steps.{Knower}
use Rattle.shared_cells.proofs.Chunks.{given_long, given_there, chunk_within, unkept_cell, same_chunks, same_kept, few_chunks}

-- lists of words

copy_one : (words : List ℕ) (from to x : ℕ) → to < length words → x ≡ get_or words from 0 → IsCopy words (set words to x) from to 1
copy_one words from to x l is = record {
  long = length-set words to x;
  copied = λ k m.
      let e : k ≡ 0 = omega arith in
      subst (λ (i : ℕ). get_or (set words to x) (to + i) 0 ≡ get_or words (from + i) 0) (sym e) (
      let a : to + 0 ≡ to = omega arith in
      let b : from + 0 ≡ from = omega arith in
      ap (λ (i : ℕ). get_or (set words to x) i 0) a ∙ get_or-set_same words to x 0 l ∙ is ∙ ap (λ (i : ℕ). get_or words i 0) (sym b));
  others = λ j apart. get_or-set_other words to j x 0 (λ e. apart 0 (omega arith) (omega arith));
}

pub copy_none : (words : List ℕ) (from to : ℕ) → IsCopy words words from to 0
copy_none words from to = record { long = refl; copied = λ k l. absurd (omega arith); others = λ j apart. refl }

-- some words, and those behind them
copy_then : {first second third : List ℕ} {from to a b n from2 to2 : ℕ} → n ≡ a + b → from2 ≡ from + a → to2 ≡ to + a → ((i j : ℕ) → i < n → j < n → from + i ≢ to + j)
    → IsCopy first second from to a → IsCopy second third from2 to2 b → IsCopy first third from to n
copy_then {first} {second} {third} {from} {to} {a} {b} {n} {from2} {to2} whole f t apart u v = record {
  long = v.long ∙ u.long;
  copied = λ k l. elim (cases_lt k a) [
    | inl x ↦ v.others (to + k) (λ j m e. omega arith) ∙ u.copied k x
    | inr x ↦ (
        let p : to2 + (k - a) ≡ to + k = omega arith in
        let q : from2 + (k - a) ≡ from + k = omega arith in
        ap (λ (i : ℕ). get_or third i 0) (sym p) ∙ v.copied (k - a) (omega arith) ∙ ap (λ (i : ℕ). get_or second i 0) q ∙ u.others (from + k) (λ j m e. apart k j l (omega arith) e)
        )
  ];
  others = λ j away. v.others j (λ k l e. away (a + k) (omega arith) (omega arith)) ∙ u.others j (λ k l e. away k (omega arith) e);
}

-- the turn's words alone are changed

turn_stays : (t : Option TurnView) (words : List ℕ) → has_turn (words_in t words) ≡ has_turn t
turn_stays None words = refl
turn_stays (Some turn) words = refl

kept_stays : (t : Option TurnView) (words : List ℕ) → kept_in (words_in t words) ≡ kept_in t
kept_stays None words = refl
kept_stays (Some turn) words = refl

words_same : (t : Option TurnView) → words_in t (words_of t) ≡ t
words_same None = refl
words_same (Some turn) = refl

words_again : (t : Option TurnView) (a b : List ℕ) → words_in (words_in t a) b ≡ words_in t b
words_again None a b = refl
words_again (Some turn) a b = refl

stored_words : (t : Option TurnView) (i x : ℕ) → has_turn t ≡ true → words_of (stored_in t i x) ≡ set (words_of t) i x
stored_words None i x has = cc
stored_words (Some turn) i x has = refl

stored_frame : (t : Option TurnView) (i x : ℕ) → stored_in t i x ≡ words_in t (words_of (stored_in t i x))
stored_frame None i x = refl
stored_frame (Some turn) i x = refl

module _ {O E : Type 0} where
  pub copied_none : (m : Knower O E) (from to : ℕ) → HasCopied m m from to 0
  copied_none m from to = record {
    frame = ap (λ (t : Option TurnView). let me : Knower O E = (record m.0 { turn = t }, m.1) in me) (sym (words_same m.0.turn));
    copy = copy_none (words_of m.0.turn) from to;
  }

  stored_one : (m now : Knower O E) (from to x : ℕ) → has_turn m.0.turn ≡ true → to < length (words_of m.0.turn) → x ≡ get_or (words_of m.0.turn) from 0 → now ≡ (stored_view m.0 to x, m.1) → HasCopied m now from to 1
  stored_one m now from to x has l is stored =
      let words : words_of now.0.turn ≡ set (words_of m.0.turn) to x = ap (λ (y : Knower O E). words_of y.0.turn) stored ∙ stored_words m.0.turn to x has in record {
        frame = stored ∙ ap (λ (t : Option TurnView). let me : Knower O E = (record m.0 { turn = t }, m.1) in me)
            (stored_frame m.0.turn to x ∙ ap (words_in m.0.turn) (sym (ap (λ (y : Knower O E). words_of y.0.turn) stored)));
        copy = subst (λ (ws : List ℕ). IsCopy (words_of m.0.turn) ws from to 1) (sym words) (copy_one (words_of m.0.turn) from to x l is);
      }

  -- a word is loaded, which changes nothing, and stored
  module _ {m loaded : Knower O E} (same : loaded ≡ m) where
    pub loaded_turn : has_turn m.0.turn ≡ true → has_turn loaded.0.turn ≡ true
    loaded_turn has = ap (λ (y : Knower O E). has_turn y.0.turn) same ∙ has

    pub loaded_blank : (chunks to : ℕ) → IsBlankWord chunks (kept_in m.0.turn) (to + 0) → IsBlankWord chunks (kept_in loaded.0.turn) to
    loaded_blank chunks to blank =
        let here : to + 0 ≡ to = omega arith in
        subst (λ (y : Knower O E). IsBlankWord chunks (kept_in y.0.turn) to) (sym same) (subst (IsBlankWord chunks (kept_in m.0.turn)) here blank)

    pub copied_one : (now : Knower O E) (from to x : ℕ) → has_turn m.0.turn ≡ true → to < length (words_of m.0.turn) → x ≡ get_or (words_of m.0.turn) from 0 → now ≡ (stored_view loaded.0 to x, loaded.1) → HasCopied m now from to 1
    copied_one now from to x has l is stored = stored_one m now from to x has l is (stored ∙ ap (λ (y : Knower O E). let me : Knower O E = (stored_view y.0 to x, y.1) in me) same)

  pub copied_then : {m now later : Knower O E} {from to a b n from2 to2 : ℕ} → n ≡ a + b → from2 ≡ from + a → to2 ≡ to + a → ((i j : ℕ) → i < n → j < n → from + i ≢ to + j)
      → HasCopied m now from to a → HasCopied now later from2 to2 b → HasCopied m later from to n
  copied_then {m} {now} {later} whole f t apart u v = record {
    frame = v.frame ∙ ap (λ (y : Knower O E). let me : Knower O E = (with_words y.0 (words_of later.0.turn), y.1) in me) u.frame
        ∙ ap (λ (t : Option TurnView). let me : Knower O E = (record m.0 { turn = t }, m.1) in me) (words_again m.0.turn (words_of now.0.turn) (words_of later.0.turn));
    copy = copy_then whole f t apart u.copy v.copy;
  }

  turn_on : {m now : Knower O E} {from to n : ℕ} → HasCopied m now from to n → has_turn m.0.turn ≡ true → has_turn now.0.turn ≡ true
  turn_on {m} {now} h has = ap (λ (y : Knower O E). has_turn y.0.turn) h.frame ∙ turn_stays m.0.turn (words_of now.0.turn) ∙ has

  kept_on : {m now : Knower O E} {from to n : ℕ} → HasCopied m now from to n → kept_in now.0.turn ≡ kept_in m.0.turn
  kept_on {m} {now} h = ap (λ (y : Knower O E). kept_in y.0.turn) h.frame ∙ kept_stays m.0.turn (words_of now.0.turn)

  -- the first of them
  pub may_first : {chunks words : ℕ} {m : Knower O E} {from to n : ℕ} (a : ℕ) → a ≤ n → MayCopy chunks words m from to n → MayCopy chunks words m from to a
  may_first a few may = record {
    turn = may.turn;
    long = may.long;
    past = may.past;
    inside = λ k l. may.inside k (omega arith);
    apart = λ i j k l. may.apart i j (omega arith) (omega arith);
    blank = λ k l. may.blank k (omega arith);
  }

  -- and then b of the others
  pub may_then : {chunks words : ℕ} {m now : Knower O E} {from to n a from2 to2 : ℕ} (b : ℕ) → a + b ≤ n → from2 ≡ from + a → to2 ≡ to + a → MayCopy chunks words m from to n → HasCopied m now from to a
      → MayCopy chunks words now from2 to2 b
  may_then {chunks} {words} {m} {now} {from} {to} {n} {a} {from2} {to2} b few f t may done = record {
    turn = turn_on done may.turn;
    long = done.copy.long ∙ may.long;
    past = (let l = may.past in omega arith);
    inside = λ k l. (let i = may.inside (a + k) (omega arith) in omega arith);
    apart = λ i j k l e. may.apart (a + i) (a + j) (omega arith) (omega arith) (omega arith);
    blank = λ k l.
        let same : to + (a + k) ≡ to2 + k = omega arith in
        subst (λ (ks : List Kept). IsBlankWord chunks ks (to2 + k)) (sym (kept_on done)) (subst (IsBlankWord chunks (kept_in m.0.turn)) same (may.blank (a + k) (omega arith)));
  }

-- the cells whose words these are

module _ (cells : Cells) (after : List ℕ) (from to n : ℕ) (few : cells.chunks ≤ 4096) (copy : IsCopy cells.words after (cell_at from) (cell_at to) (2 * n)) where
  abbrev now : Cells
  now = record cells { words = after }

  row_given : given_chunks (record cells { words = after }) ≡ given_chunks cells
  row_given = same_lists (given_chunks now) (given_chunks cells) (given_long now ∙ sym (given_long cells)) (λ k d l. let m = given_long now in
      given_there now k d (omega arith) ∙ ap (λ (w : ℕ). w == 1) (copy.others (status_at k) (λ i s e. omega arith)) ∙ sym (given_there cells k d (omega arith)))

  row_copied : (i : ℕ) (c : Cell) → i < n → chunk.IsGiven (given_chunks cells) ((to + i) / 1024) → HasCell cells (from + i) c → HasCell (record cells { words = after }) (to + i) c
  row_copied i c l given has =
      let big_to : cell_at (to + i) ≡ cell_at to + 2 * i = omega arith in
      let small_to : cell_at (to + i) + 1 ≡ cell_at to + (2 * i + 1) = omega arith in
      let from_big : cell_at from + 2 * i ≡ cell_at (from + i) = omega arith in
      let from_small : cell_at from + (2 * i + 1) ≡ cell_at (from + i) + 1 = omega arith in
      record {
        given = subst (λ (bs : List Bool). chunk.IsGiven bs ((to + i) / 1024)) (sym row_given) given;
        big = ap (λ (j : ℕ). get_or after j 0) big_to ∙ copy.copied (2 * i) (omega arith) ∙ ap (λ (j : ℕ). get_or cells.words j 0) from_big ∙ has.big;
        small = ap (λ (j : ℕ). get_or after j 0) small_to ∙ copy.copied (2 * i + 1) (omega arith) ∙ ap (λ (j : ℕ). get_or cells.words j 0) from_small ∙ has.small;
      }

  row_others : (q : ℕ) (d : Cell) → ((i : ℕ) → i < n → q ≢ to + i) → HasCell cells q d → HasCell (record cells { words = after }) q d
  row_others q d apart has = record {
    given = subst (λ (bs : List Bool). chunk.IsGiven bs (q / 1024)) (sym row_given) has.given;
    big = copy.others (cell_at q) (λ k l e. apart (k / 2) (omega arith) (omega arith)) ∙ has.big;
    small = copy.others (cell_at q + 1) (λ k l e. apart (k / 2) (omega arith) (omega arith)) ∙ has.small;
  }

-- the turn's cells

module _ {O E : Type 0} (chunks : ℕ) (m : Knower O E) (cells : Cells) (is : cells_of chunks m.0.turn ≡ cells) (from to n source target : ℕ) (at_source : source ≡ cell_at from) (at_target : target ≡ cell_at to) where
  blank_word : (k : ℕ) → k < 2 * n → (to + k / 2) / 1024 < chunks → (Contains (kept_references cells) (to + k / 2) → ⊥) → IsBlankWord chunks (kept_in m.0.turn) (target + k)
  blank_word k l within unkept =
      let free : is_kept_cell (kept_in m.0.turn) (to + k / 2) ≡ false = ap (λ (ks : List Kept). is_kept_cell ks (to + k / 2)) (same_kept chunks m.0.turn cells is) ∙ unkept_cell cells (to + k / 2) unkept in
      elim (cases_lt (2 * (k / 2)) k) [
        | inl odd ↦ (to + k / 2, Small, omega arith, within, free)
        | inr even ↦ (to + k / 2, Big, omega arith, within, free)
      ]

  pub may_copy_row : (words : ℕ) → 4161 + 2048 * chunks ≡ words → has_turn m.0.turn ≡ true → length (words_of m.0.turn) ≡ words
      → ((i : ℕ) → i < n → (c : Cell) × HasCell cells (from + i) c) → ((i : ℕ) → i < n → chunk.IsGiven (given_chunks cells) ((to + i) / 1024))
      → ((i : ℕ) → i < n → Contains (kept_references cells) (to + i) → ⊥) → ((i j : ℕ) → i < n → j < n → from + i ≢ to + j) → MayCopy chunks words m source target (2 * n)
  may_copy_row words wide has copied there given unkept apart = record {
    turn = has;
    long = copied;
    past = omega arith;
    inside = λ k l. (let t = chunk_within cells ((from + k / 2) / 1024) true (there (k / 2) (omega arith)).1.given in let e = same_chunks chunks m.0.turn cells is in omega arith);
    apart = λ i j k l e. apart (i / 2) (j / 2) (omega arith) (omega arith) (omega arith);
    blank = λ k l. blank_word k l (let t = chunk_within cells ((to + k / 2) / 1024) true (given (k / 2) (omega arith)) in let e = same_chunks chunks m.0.turn cells is in omega arith) (unkept (k / 2) (omega arith));
  }

  module _ (later : Knower O E) (few : chunks ≤ 4096) (done : HasCopied m later source target (2 * n)) where
    few_cells : cells.chunks ≤ 4096
    few_cells = few_chunks chunks m.0.turn cells is few

    same_cells : cells_of chunks later.0.turn ≡ record cells { words = words_of later.0.turn }
    same_cells = λ i. record { chunks = same_chunks chunks m.0.turn cells is i; words = words_of later.0.turn; kept = (kept_on done ∙ same_kept chunks m.0.turn cells is) i }

    copy_here : IsCopy cells.words (words_of later.0.turn) (cell_at from) (cell_at to) (2 * n)
    copy_here = subst (λ (x : Cells). IsCopy x.words (words_of later.0.turn) (cell_at from) (cell_at to) (2 * n)) is
        (subst (λ (i : ℕ). IsCopy (words_of m.0.turn) (words_of later.0.turn) i (cell_at to) (2 * n)) at_source
        (subst (λ (i : ℕ). IsCopy (words_of m.0.turn) (words_of later.0.turn) source i (2 * n)) at_target done.copy))

    pub turn_given : given_chunks (cells_of chunks later.0.turn) ≡ given_chunks cells
    turn_given = ap given_chunks same_cells ∙ row_given cells (words_of later.0.turn) from to n few_cells copy_here

    pub turn_kept : kept_references (cells_of chunks later.0.turn) ≡ kept_references cells
    turn_kept = ap kept_references same_cells

    pub turn_copied : (i : ℕ) (c : Cell) → i < n → chunk.IsGiven (given_chunks cells) ((to + i) / 1024) → HasCell cells (from + i) c → HasCell (cells_of chunks later.0.turn) (to + i) c
    turn_copied i c l given has = subst (λ (x : Cells). HasCell x (to + i) c) (sym same_cells) (row_copied cells (words_of later.0.turn) from to n few_cells copy_here i c l given has)

    pub turn_others : (q : ℕ) (d : Cell) → ((i : ℕ) → i < n → q ≢ to + i) → HasCell cells q d → HasCell (cells_of chunks later.0.turn) q d
    turn_others q d apart has = subst (λ (x : Cells). HasCell x q d) (sym same_cells) (row_others cells (words_of later.0.turn) from to n few_cells copy_here q d apart has)

-- what was lent

pub lent_turn : {O E : Type 0} {table at_table : TableId} {view : View O E} {m : Knower O E} {current joined passes : ℕ} → IsLent table view at_table m current joined passes → has_turn m.0.turn ≡ true
lent_turn {O} {E} {view = view} {m = m} lent = ap (λ (v : View O E). has_turn v.turn) lent.frame ∙ turn_stays view.turn (words_of m.0.turn) ∙ lent.turn

stored_stays : (t : Option TurnView) (i x : ℕ) → has_turn (stored_in t i x) ≡ has_turn t
stored_stays None i x = refl
stored_stays (Some turn) i x = refl

-- a seat has the turn still when it has stored a word
pub turn_stored : {O E : Type 0} (m now : Knower O E) (i x : ℕ) → now ≡ (stored_view m.0 i x, m.1) → has_turn m.0.turn ≡ true → has_turn now.0.turn ≡ true
turn_stored {O} {E} m now i x e has = ap (λ (y : Knower O E). has_turn y.0.turn) e ∙ stored_stays m.0.turn i x ∙ has

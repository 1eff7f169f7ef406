-- Each opening is sound: its image's cells are laid into words that are otherwise 0.
use Rattle.std.proofs.Common.{◌≡◌, ◌≢◌, ℕ, ◌+◌, ◌*◌, ◌<◌, ◌≤◌, List, [], ◌∷◌, length, get_or, set, replicate, true, refl, sym, ◌∙◌, subst, arith, length-set, get_or-set_same, get_or-set_other}
use Rattle.std.specs.Prelude.{◌&&◌, nat_lt, map, Option}
use Rattle.std.specs.List.{All, AllPairs, list_all, fold}
use Rattle.std.proofs.lemmas.List.{length-replicate, get_or-replicate}
use Rattle.std.proofs.lemmas.List.Elements.{All-head, All-tail, All-cons, All-nil}
use Rattle.std.proofs.lemmas.List.Sums.{AllPass-from_list_all}
use Rattle.std.proofs.lemmas.Bool.Decides.{nat_tests}
use mathlib.Core.Logic.{dite}
use native.Mathlib.Decide.{ℕ_discrete}
use Rattle.pin_core.specs.declared.kept.CellAt.{CellAt}
use Rattle.pin_core.specs.declared.kept.Kept.{Kept}
use Rattle.pin_core.specs.declared.kept.Stage.{Stage}
use Rattle.pin_core.specs.declared.kept.Stage.TheVariants as stage
use Rattle.pin_core.specs.declared.kept.Mark.{Mark}
use Rattle.pin_core.specs.declared.kept.Mark.TheVariants as mark
use Rattle.pin_core.specs.Words.{Size, pin_at, status_at, cell_at, chunk_of, word_count, root_number, current_word}
use Rattle.pin_core.specs.Sound.{Sound, turn_of, stage_at, HasRoot, AgreesWith, IsGiven, PinFits, MarkFits}
use Rattle.pin_core.specs.Machine.{IsSound, is_distinct, is_rooted, with_cell, can_open, opened}
use Rattle.pin_core.proofs.Lists.{and_left, and_right, pairs_head, pairs_tail}
use Rattle.pin_core.proofs.Pins.{kept_root_fits}
use Rattle.pin_core.proofs.Cells.{distinct_cells, has_root}

length_with_cell : (words : List ℕ) (c : CellAt) → length (with_cell words c) ≡ length words
length_with_cell words c =
    let given = set words (status_at (chunk_of c.at)) 1 in
    length-set (set given (cell_at c.at) c.big) (cell_at c.at + 1) c.small ∙ length-set given (cell_at c.at) c.big ∙ length-set words (status_at (chunk_of c.at)) 1

-- a place that is none of the three stays
with_cell_other : (words : List ℕ) (c : CellAt) (i : ℕ) → i ≢ status_at (chunk_of c.at) → i ≢ cell_at c.at → i ≢ cell_at c.at + 1 → get_or (with_cell words c) i 0 ≡ get_or words i 0
with_cell_other words c i a b d =
    let given = set words (status_at (chunk_of c.at)) 1 in
    get_or-set_other (set given (cell_at c.at) c.big) (cell_at c.at + 1) i c.small 0 d ∙ get_or-set_other given (cell_at c.at) i c.big 0 b ∙ get_or-set_other words (status_at (chunk_of c.at)) i 1 0 a

module _ (z : Size) (small : z.chunks ≤ 4096) where
  abbrev Within : CellAt → Type 0
  Within c = c.at < 1024 * z.chunks

  chunk_small : (at : ℕ) → at < 1024 * z.chunks → chunk_of at < 4096
  chunk_small at l = omega arith

  status_before : (c : CellAt) (r : ℕ) → Within c → status_at (chunk_of c.at) < cell_at r
  status_before c r l = let s = chunk_small c.at l in omega arith

  -- the cell itself
  with_cell_status : (words : List ℕ) (c : CellAt) → length words ≡ word_count z → Within c → get_or (with_cell words c) (status_at (chunk_of c.at)) 0 ≡ 1
  with_cell_status words c wide l =
      let given = set words (status_at (chunk_of c.at)) 1 in
      let s = status_before c c.at l in
      get_or-set_other (set given (cell_at c.at) c.big) (cell_at c.at + 1) (status_at (chunk_of c.at)) c.small 0 (λ e. omega arith)
      ∙ get_or-set_other given (cell_at c.at) (status_at (chunk_of c.at)) c.big 0 (λ e. omega arith)
      ∙ get_or-set_same words (status_at (chunk_of c.at)) 1 0 (omega arith)

  with_cell_agrees : (words : List ℕ) (c : CellAt) → length words ≡ word_count z → Within c → AgreesWith (with_cell words c) c
  with_cell_agrees words c wide l =
      let given = set words (status_at (chunk_of c.at)) 1 in
      let n : length given ≡ length words = length-set words (status_at (chunk_of c.at)) 1 in
      let m : length (set given (cell_at c.at) c.big) ≡ length given = length-set given (cell_at c.at) c.big in (
        get_or-set_other (set given (cell_at c.at) c.big) (cell_at c.at + 1) (cell_at c.at) c.small 0 (λ e. omega arith) ∙ get_or-set_same given (cell_at c.at) c.big 0 (omega arith),
        get_or-set_same (set given (cell_at c.at) c.big) (cell_at c.at + 1) c.small 0 (omega arith),
      )

  -- a chunk that is given stays so
  with_cell_keeps_status : (words : List ℕ) (c : CellAt) (chunk : ℕ) → length words ≡ word_count z → Within c → chunk < 4096 → get_or words (status_at chunk) 0 ≡ 1 → get_or (with_cell words c) (status_at chunk) 0 ≡ 1
  with_cell_keeps_status words c chunk wide l s is = dite (ℕ_discrete chunk (chunk_of c.at))
      (λ e. subst (λ (y : ℕ). get_or (with_cell words c) (status_at y) 0 ≡ 1) (sym e) (with_cell_status words c wide l))
      (λ ne. with_cell_other words c (status_at chunk) (λ e. ne (omega arith)) (λ e. omega arith) (λ e. omega arith) ∙ is)

  -- after all cells are laid

  laid_length : (cs : List CellAt) (words : List ℕ) → length (fold with_cell words cs) ≡ length words
  laid_length [] words = refl
  laid_length (c ∷ cs) words = laid_length cs (with_cell words c) ∙ length_with_cell words c

  laid_front : (cs : List CellAt) (words : List ℕ) (i : ℕ) → i ≤ 64 → get_or (fold with_cell words cs) i 0 ≡ get_or words i 0
  laid_front [] words i l = refl
  laid_front (c ∷ cs) words i l = laid_front cs (with_cell words c) i l ∙ with_cell_other words c i (λ e. omega arith) (λ e. omega arith) (λ e. omega arith)

  laid_status : (cs : List CellAt) (words : List ℕ) (chunk : ℕ) → length words ≡ word_count z → All Within cs → chunk < 4096 → get_or words (status_at chunk) 0 ≡ 1 → get_or (fold with_cell words cs) (status_at chunk) 0 ≡ 1
  laid_status [] words chunk wide within s is = is
  laid_status (c ∷ cs) words chunk wide within s is = laid_status cs (with_cell words c) chunk (length_with_cell words c ∙ wide) (All-tail Within c cs within) s
      (with_cell_keeps_status words c chunk wide (All-head Within c cs within) s is)

  laid_cell : (cs : List CellAt) (words : List ℕ) (d : CellAt) → All Within cs → All (λ c. d.at ≢ c.at) cs → AgreesWith words d → AgreesWith (fold with_cell words cs) d
  laid_cell [] words d within apart a = a
  laid_cell (c ∷ cs) words d within apart a = laid_cell cs (with_cell words c) d (All-tail Within c cs within) (All-tail (λ c. d.at ≢ c.at) c cs apart) (at_head (All-head Within c cs within) (All-head (λ c. d.at ≢ c.at) c cs apart))
    where
      at_head : Within c → d.at ≢ c.at → AgreesWith (with_cell words c) d
      at_head l ne = let s = status_before c d.at l in (
        with_cell_other words c (cell_at d.at) (λ e. omega arith) (λ e. ne (omega arith)) (λ e. omega arith) ∙ a.0,
        with_cell_other words c (cell_at d.at + 1) (λ e. omega arith) (λ e. omega arith) (λ e. ne (omega arith)) ∙ a.1,
      )

  laid_agrees : (cs : List CellAt) (words : List ℕ) → length words ≡ word_count z → All Within cs → AllPairs (λ c d. c.at ≢ d.at) cs → All (AgreesWith (fold with_cell words cs)) cs
  laid_agrees [] words wide within once = All-nil (AgreesWith words)
  laid_agrees (c ∷ cs) words wide within once = All-cons (AgreesWith (fold with_cell (with_cell words c) cs)) c cs
      (laid_cell cs (with_cell words c) c (All-tail Within c cs within) (pairs_head (λ c d. c.at ≢ d.at) c cs once) (with_cell_agrees words c wide (All-head Within c cs within)))
      (laid_agrees cs (with_cell words c) (length_with_cell words c ∙ wide) (All-tail Within c cs within) (pairs_tail (λ c d. c.at ≢ d.at) c cs once))

  laid_given : (cs : List CellAt) (words : List ℕ) → length words ≡ word_count z → All Within cs → All (IsGiven z (fold with_cell words cs)) cs
  laid_given [] words wide within = All-nil (IsGiven z words)
  laid_given (c ∷ cs) words wide within = let l = All-head Within c cs within in All-cons (IsGiven z (fold with_cell (with_cell words c) cs)) c cs
      (l, laid_status cs (with_cell words c) (chunk_of c.at) (length_with_cell words c ∙ wide) (All-tail Within c cs within) (chunk_small c.at l) (with_cell_status words c wide l))
      (laid_given cs (with_cell words c) (length_with_cell words c ∙ wide) (All-tail Within c cs within))

pub within_chunks : (z : Size) (image : List CellAt) → list_all (λ c. nat_lt c.at (1024 * z.chunks)) image ≡ true → All (λ c. c.at < 1024 * z.chunks) image
within_chunks z image e i d l = let t = AllPass-from_list_all (λ c. nat_lt c.at (1024 * z.chunks)) image e i d l in grind (arith, nat_tests)

pub opening_sound : (z : Size) (root : Option ℕ) (image : List CellAt) → z.passes ≤ 64 → z.chunks ≤ 4096 → can_open z root image ≡ true → IsSound (opened z root image)
opening_sound z root image few small can = record {
  small = (few, small);
  wide = laid_length z small image first ∙ wide;
  staged = length-replicate z.passes stage.Idle;
  watched = length-replicate z.passes 0;
  marked = length-replicate z.passes mark.Blank;
  few = omega arith;
  current = (start, (0, omega arith, refl), refl, laid_front z small image first 0 (omega arith) ∙ get_or-set_same zeros 0 (current_word 0 root) 0 some);
  newest = one (λ k. k.version ≤ 0) (omega arith);
  rising = λ i j d l within. absurd (omega arith);
  rooted = one (λ k. HasRoot k.root k.image) (has_root root image (and_right (list_all (λ c. nat_lt c.at (1024 * z.chunks)) image) (is_rooted root (map (λ c. c.at) image)) rest));
  once = one (λ k. AllPairs (λ c d. c.at ≢ d.at) k.image) once;
  unchanged = one (λ k. All (AgreesWith (fold with_cell first image)) k.image) (laid_agrees z small image first wide within once);
  given = one (λ k. All (IsGiven z (fold with_cell first image)) k.image) (laid_given z small image first wide within);
  not_ahead = λ p l. subst (λ (n : ℕ). n ≤ 0) (sym (get_or-replicate z.passes p 0 0 l)) (omega arith);
  pins = λ p l. subst (λ (s : Stage). PinFits (start ∷ []) (get_or (replicate z.passes 0) p 0) (get_or (fold with_cell first image) (pin_at p) 0) s) (sym (get_or-replicate z.passes p stage.Idle stage.Idle l)) (zero_pin p l);
  marks = λ p l. subst (MarkFits (start ∷ []) (get_or (fold with_cell first image) 0 0) (get_or (fold with_cell first image) (pin_at p) 0) (stage_at (replicate z.passes stage.Idle) p)) (sym (get_or-replicate z.passes p mark.Blank mark.Blank l)) tt;
}
  where
    zeros : List ℕ
    zeros = replicate (word_count z) 0

    first : List ℕ
    first = set (replicate (word_count z) 0) 0 (current_word 0 root)

    start : Kept
    start = record { version = 0; root = root; image = image }

    some : 0 < length (replicate {A = ℕ} (word_count z) 0)
    some = let n : length (replicate {A = ℕ} (word_count z) 0) ≡ word_count z = length-replicate (word_count z) 0 in omega arith

    one : (P : Kept → Type 0) → P (record { version = 0; root = root; image = image }) → All P (record { version = 0; root = root; image = image } ∷ [])
    one P h = All-cons P (record { version = 0; root = root; image = image }) [] h (All-nil P)

    rest : (list_all (λ c. nat_lt c.at (1024 * z.chunks)) image && is_rooted root (map (λ c. c.at) image)) ≡ true
    rest = and_right (is_distinct (map (λ c. c.at) image)) (list_all (λ c. nat_lt c.at (1024 * z.chunks)) image && is_rooted root (map (λ c. c.at) image)) can

    within : All (λ c. c.at < 1024 * z.chunks) image
    within = within_chunks z image (and_left (list_all (λ c. nat_lt c.at (1024 * z.chunks)) image) (is_rooted root (map (λ c. c.at) image)) rest)

    once : AllPairs (λ c d. c.at ≢ d.at) image
    once = distinct_cells image (and_left (is_distinct (map (λ c. c.at) image)) (list_all (λ c. nat_lt c.at (1024 * z.chunks)) image && is_rooted root (map (λ c. c.at) image)) can)

    wide : length (set (replicate (word_count z) 0) 0 (current_word 0 root)) ≡ word_count z
    wide = length-set (replicate (word_count z) 0) 0 (current_word 0 root) ∙ length-replicate (word_count z) 0

    zero_pin : (p : ℕ) → p < z.passes → get_or (fold with_cell (set (replicate (word_count z) 0) 0 (current_word 0 root)) image) (pin_at p) 0 ≡ 0
    zero_pin p l = laid_front z small image (set (replicate (word_count z) 0) 0 (current_word 0 root)) (pin_at p) (omega arith)
        ∙ get_or-set_other (replicate (word_count z) 0) 0 (pin_at p) (current_word 0 root) 0 (λ e. omega arith) ∙ get_or-replicate (word_count z) (pin_at p) 0 0 (omega arith)

-- an opening's parts, each as it was made
pub opening_at : (z : Size) (root : Option ℕ) (image : List CellAt) → z.passes ≤ 64 → z.chunks ≤ 4096 → can_open z root image ≡ true
    → (words : List ℕ) → words ≡ (opened z root image).words → (stages : List Stage) → stages ≡ (opened z root image).stages → (seens : List ℕ) → seens ≡ (opened z root image).seen
    → (kept : List Kept) → kept ≡ (opened z root image).turn.kept → (marks : List Mark) → marks ≡ (opened z root image).turn.marks → Sound z words stages seens (turn_of 0 kept marks)
opening_at z root image few small can words ew stages es seens en kept ek marks em =
    subst (λ (ws : List ℕ). Sound z ws stages seens (turn_of 0 kept marks)) (sym ew)
    (subst (λ (ss : List Stage). Sound z (opened z root image).words ss seens (turn_of 0 kept marks)) (sym es)
    (subst (λ (ns : List ℕ). Sound z (opened z root image).words (opened z root image).stages ns (turn_of 0 kept marks)) (sym en)
    (subst (λ (ks : List Kept). Sound z (opened z root image).words (opened z root image).stages (opened z root image).seen (turn_of 0 ks marks)) (sym ek)
    (subst (λ (ms : List Mark). Sound z (opened z root image).words (opened z root image).stages (opened z root image).seen (turn_of 0 (opened z root image).turn.kept ms)) (sym em)
    (opening_sound z root image few small can)))))

pub opening_root_fits : (z : Size) (root : Option ℕ) (image : List CellAt) → z.passes ≤ 64 → z.chunks ≤ 4096 → can_open z root image ≡ true → root_number root < 16777216
opening_root_fits z root image few small can =
    let o = opened z root image in
    let f = kept_root_fits z o.words o.stages o.seen o.turn (opening_sound z root image few small can) (record { version = 0; root = root; image = image }) (0, omega arith, refl) in
    omega arith

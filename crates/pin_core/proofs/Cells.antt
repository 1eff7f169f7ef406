-- The writer's stores: chunks that are given and freed, cells that are written, versions that are published.
use Rattle.std.proofs.Common.{◌≡◌, ◌≢◌, inl, inr, ⊎_elim, ℕ, ◌+◌, ◌*◌, ◌/◌, ◌<◌, ◌≤◌, ltb, List, [], ◌∷◌, ◌++◌, get_or, set, replicate, Bool, true, false, true≢false, refl, sym, ap, ◌∙◌, subst, arith, length-set, get_or-set_same, get_or-set_other, eq-eqb}
use Rattle.std.specs.Prelude.{◌||◌, ◌==◌, not, map, Option, Some, None}
use Rattle.std.specs.List.{All, AllPairs, list_any, list_all}
use Rattle.std.proofs.lemmas.List.{length-replicate}
use Rattle.std.proofs.lemmas.List.Elements.{All-push, All-map, Contains-push, Contains-append_left}
use Rattle.std.proofs.lemmas.List.Kept.{AllPairs-cons}
use Rattle.std.proofs.lemmas.List.Sums.{AllPass-from_list_all}
use Rattle.std.proofs.lemmas.List.Folds.{Any-from_list_any}
use Rattle.std.proofs.lemmas.Bool.Decides.{eqb_tells, nat_tests}
use mathlib.Core.Logic.{dite}
use native.Mathlib.Decide.{ℕ_discrete}
use Rattle.pin_core.specs.declared.kept.CellAt.{CellAt}
use Rattle.pin_core.specs.declared.kept.Kept.{Kept}
use Rattle.pin_core.specs.declared.kept.Stage.{Stage}
use Rattle.pin_core.specs.declared.kept.Stage.TheVariants as stage
use Rattle.pin_core.specs.declared.kept.Mark.TheVariants as mark
use Rattle.pin_core.specs.declared.event.Half.{Half}
use Rattle.pin_core.specs.declared.event.Half.TheVariants.{Big, Small}
use Rattle.pin_core.specs.Words.{Size, pin_at, status_at, cell_at, half_at, chunk_of, word_of}
use Rattle.pin_core.specs.Sound.{Turn, Sound, stage_at, mark_at, HasRoot, AgreesWith, IsGiven, Names, PinFits, MarkFits}
use Rattle.pin_core.specs.Machine.{has_cell, meets, is_kept_cell, is_kept_chunk, is_given, is_distinct, is_rooted, image_of}
use Rattle.pin_core.proofs.Lists.{AllPairs-push, none_passes, and_left, and_right, not_true}
use Rattle.pin_core.proofs.Pins.{images_stay, chunks_stay}
use Rattle.pin_core.proofs.Rounds.{blank_fits}

-- no kept image has a cell in the chunk; none has the cell
pub away_from_chunk : (kept : List Kept) (chunk : ℕ) → is_kept_chunk kept chunk ≡ false → All (λ k. All (λ c. chunk_of c.at ≢ chunk) k.image) kept
away_from_chunk kept chunk none i d l j e m same =
    let k = get_or kept i d in
    let f = none_passes (λ c. chunk_of c.at == chunk) k.image (none_passes (λ k. meets k.image chunk) kept none i d l) j e m in
    true≢false (sym (eq-eqb (chunk_of (get_or k.image j e).at) chunk same) ∙ f)

pub away_from_cell : (kept : List Kept) (at : ℕ) → is_kept_cell kept at ≡ false → All (λ k. All (λ c. c.at ≢ at) k.image) kept
away_from_cell kept at none i d l j e m same =
    let k = get_or kept i d in
    let f = none_passes (λ c. c.at == at) k.image (none_passes (λ k. has_cell k.image at) kept none i d l) j e m in
    true≢false (sym (eq-eqb (get_or k.image j e).at at same) ∙ f)

module _ (z : Size) (words : List ℕ) (stages : List Stage) (seens : List ℕ) (t : Turn) (h : Sound z words stages seens t) where
  -- a word past the pins changes, and no kept cell nor its chunk's status does
  stores : (i x : ℕ) → 64 < i → All (λ k. All (AgreesWith (set words i x)) k.image) t.kept → All (λ k. All (IsGiven z (set words i x)) k.image) t.kept → Sound z (set words i x) stages seens t
  stores i x far unchanged given = record {
    small = h.small;
    wide = length-set words i x ∙ h.wide;
    staged = h.staged;
    watched = h.watched;
    marked = h.marked;
    few = h.few;
    current = let c = h.current in (c.0, c.1, c.2, front 0 (omega arith) ∙ c.3);
    newest = h.newest;
    rising = h.rising;
    rooted = h.rooted;
    once = h.once;
    unchanged = unchanged;
    given = given;
    not_ahead = h.not_ahead;
    pins = λ p l. subst (λ (y : ℕ). PinFits t.kept (get_or seens p 0) y (stage_at stages p)) (sym (pin_stays p l)) (h.pins p l);
    marks = λ p l. subst (λ (y : ℕ). MarkFits t.kept y (get_or (set words i x) (pin_at p) 0) (stage_at stages p) (mark_at t.marks p)) (sym (front 0 (omega arith)))
        (subst (λ (y : ℕ). MarkFits t.kept (get_or words 0 0) y (stage_at stages p) (mark_at t.marks p)) (sym (pin_stays p l)) (h.marks p l));
  }
    where
      front : (j : ℕ) → j ≤ 64 → get_or (set words i x) j 0 ≡ get_or words j 0
      front j l = get_or-set_other words i j x 0 (λ e. omega arith)

      pin_stays : (p : ℕ) → p < z.passes → get_or (set words i x) (pin_at p) 0 ≡ get_or words (pin_at p) 0
      pin_stays p l = get_or-set_other words i (pin_at p) x 0 (λ e. let m = h.small in omega arith)

  -- a status is none of the cells' words
  cells_stay : (c x : ℕ) → c < z.chunks → All (λ k. All (AgreesWith (set words (status_at c) x)) k.image) t.kept
  cells_stay c x small i d l j e m = let a = h.unchanged i d l j e m in let s = h.small in (
    get_or-set_other words (status_at c) _ x 0 (λ same. omega arith) ∙ a.0,
    get_or-set_other words (status_at c) _ x 0 (λ same. omega arith) ∙ a.1,
  )

  pub gives : (c : ℕ) → c < z.chunks → Sound z (set words (status_at c) 1) stages seens t
  gives c small = stores (status_at c) 1 (omega arith) (cells_stay c 1 small) (λ i d l j e m. let g = h.given i d l j e m in let at = (get_or (get_or t.kept i d).image j e).at in (
    g.0,
    dite (ℕ_discrete (chunk_of at) c) (λ same. subst (λ (y : ℕ). get_or (set words (status_at c) 1) (status_at y) 0 ≡ 1) (sym same) (get_or-set_same words (status_at c) 1 0 (let w = h.wide in omega arith)))
        (λ other. get_or-set_other words (status_at c) (status_at (chunk_of at)) 1 0 (λ same. other (omega arith)) ∙ g.1),
  ))

  pub frees : (c : ℕ) → c < z.chunks → is_kept_chunk t.kept c ≡ false → Sound z (set words (status_at c) 0) stages seens t
  frees c small none = stores (status_at c) 0 (omega arith) (cells_stay c 0 small) (λ i d l j e m. let g = h.given i d l j e m in let at = (get_or (get_or t.kept i d).image j e).at in (
    g.0,
    get_or-set_other words (status_at c) (status_at (chunk_of at)) 0 0 (λ same. away_from_chunk t.kept c none i d l j e m (omega arith)) ∙ g.1,
  ))

  writes_at : (r offset x : ℕ) → r < 1024 * z.chunks → offset < 2 → is_kept_cell t.kept r ≡ false → Sound z (set words (cell_at r + offset) x) stages seens t
  writes_at r offset x small half none = stores (cell_at r + offset) x (omega arith)
      (λ i d l j e m. let a = h.unchanged i d l j e m in let apart = away_from_cell t.kept r none i d l j e m in let at = (get_or (get_or t.kept i d).image j e).at in (
        get_or-set_other words (cell_at r + offset) (cell_at at) x 0 (λ same. apart (omega arith)) ∙ a.0,
        get_or-set_other words (cell_at r + offset) (cell_at at + 1) x 0 (λ same. apart (omega arith)) ∙ a.1,
      ))
      (λ i d l j e m. let g = h.given i d l j e m in let at = (get_or (get_or t.kept i d).image j e).at in let s = h.small in let within : chunk_of at < z.chunks = chunk_small at g.0 in (
        g.0,
        get_or-set_other words (cell_at r + offset) (status_at (chunk_of at)) x 0 (λ same. omega arith) ∙ g.1,
      ))
    where
      chunk_small : (at : ℕ) → at < 1024 * z.chunks → at / 1024 < z.chunks
      chunk_small at l = omega arith

  pub writes : (r : ℕ) (half : Half) (x : ℕ) → chunk_of r < z.chunks → is_kept_cell t.kept r ≡ false → Sound z (set words (half_at r half) x) stages seens t
  writes r Big x small none = subst (λ (i : ℕ). Sound z (set words i x) stages seens t) (let e : cell_at r + 0 ≡ cell_at r = omega arith in e) (writes_at r 0 x (omega arith) (omega arith) none)
  writes r Small x small none = writes_at r 1 x (omega arith) (omega arith) none

  names_grow : (new : Kept) (n x : ℕ) → Names t.kept n x → Names (t.kept ++ new ∷ []) n x
  names_grow new n x k = (k.0, Contains-append_left t.kept (new ∷ []) k.0 k.1, k.2, k.3)

  pin_grows : (new : Kept) (n x : ℕ) (s : Stage) → PinFits t.kept n x s → PinFits (t.kept ++ new ∷ []) n x s
  pin_grows new n x stage.Idle po = po
  pin_grows new n x stage.Entered po = ⊎_elim inl (λ k. inr (names_grow new n x k)) po
  pin_grows new n x (stage.Looked w) po = ⊎_elim (λ (a : (x ≡ 1) × Names t.kept n (w + 2)). inl (a.0, names_grow new n (w + 2) a.1)) (λ k. inr (names_grow new n x k)) po
  pin_grows new n x (stage.Pinned v) po = (po.0, Contains-append_left t.kept (new ∷ []) po.0 po.1, po.2, po.3, po.4)

  -- the next version, whose image stands in the words
  pub publishes : (new : Kept) → new.version ≡ t.version + 1 → new.version < 1099511627776 → HasRoot new.root new.image → AllPairs (λ c d. c.at ≢ d.at) new.image → All (AgreesWith words) new.image → All (IsGiven z words) new.image
      → Sound z (set words 0 (word_of new)) stages seens (record { version = new.version; kept = t.kept ++ new ∷ []; marks = replicate z.passes mark.Blank })
  publishes new next room root_ok once agrees given = record {
    small = h.small;
    wide = length-set words 0 (word_of new) ∙ h.wide;
    staged = h.staged;
    watched = h.watched;
    marked = length-replicate z.passes mark.Blank;
    few = room;
    current = (new, Contains-push t.kept new, refl, get_or-set_same words 0 (word_of new) 0 (let w = h.wide in omega arith));
    newest = All-push (λ k. k.version ≤ new.version) t.kept new (λ i d l. let o = h.newest i d l in omega arith) (omega arith);
    rising = AllPairs-push (λ k j. k.version < j.version) t.kept new h.rising (λ i d l. let o = h.newest i d l in omega arith);
    rooted = All-push (λ k. HasRoot k.root k.image) t.kept new h.rooted root_ok;
    once = All-push (λ k. AllPairs (λ c d. c.at ≢ d.at) k.image) t.kept new h.once once;
    unchanged = images_stay words (set words 0 (word_of new)) (t.kept ++ new ∷ []) (λ j l. away j (omega arith)) (All-push (λ k. All (AgreesWith words) k.image) t.kept new h.unchanged agrees);
    given = chunks_stay z words (set words 0 (word_of new)) (t.kept ++ new ∷ []) (λ j l. away j (omega arith)) (All-push (λ k. All (IsGiven z words) k.image) t.kept new h.given given);
    not_ahead = λ p l. let o = h.not_ahead p l in omega arith;
    pins = λ p l. subst (λ (y : ℕ). PinFits (t.kept ++ new ∷ []) (get_or seens p 0) y (stage_at stages p)) (sym (away (pin_at p) (omega arith))) (pin_grows new (get_or seens p 0) (get_or words (pin_at p) 0) (stage_at stages p) (h.pins p l));
    marks = λ p l. blank_fits z words stages seens t h (t.kept ++ new ∷ []) (get_or (set words 0 (word_of new)) 0 0) (get_or (set words 0 (word_of new)) (pin_at p) 0) (stage_at stages p) p l;
  }
    where
      away : (j : ℕ) → 0 < j → get_or (set words 0 (word_of new)) j 0 ≡ get_or words j 0
      away j l = get_or-set_other words 0 j (word_of new) 0 (λ e. omega arith)

-- what the tests on an image's cells say

any_at : (p : ℕ → Bool) (image : List CellAt) → list_any p (map (λ c. c.at) image) ≡ list_any (λ c. p c.at) image
any_at p [] = refl
any_at p (c ∷ cs) = ap (λ (b : Bool). p c.at || b) (any_at p cs)

apart_from : (at : ℕ) (image : List CellAt) → list_any (λ r. r == at) (map (λ c. c.at) image) ≡ false → All (λ c. at ≢ c.at) image
apart_from at image none i d l same = true≢false (sym (eq-eqb (get_or image i d).at at (sym same)) ∙ none_passes (λ c. c.at == at) image (sym (any_at (λ r. r == at) image) ∙ none) i d l)

pub distinct_cells : (image : List CellAt) → is_distinct (map (λ c. c.at) image) ≡ true → AllPairs (λ c d. c.at ≢ d.at) image
distinct_cells [] e = λ i j d l within. absurd (omega arith)
distinct_cells (c ∷ cs) e =
    let first = not (list_any (λ r. r == c.at) (map (λ d. d.at) cs)) in
    AllPairs-cons (λ c d. c.at ≢ d.at) c cs (apart_from c.at cs (not_true (list_any (λ r. r == c.at) (map (λ d. d.at) cs)) (and_left first (is_distinct (map (λ d. d.at) cs)) e)))
    (distinct_cells cs (and_right first (is_distinct (map (λ d. d.at) cs)) e))

pub has_root : (root : Option ℕ) (image : List CellAt) → is_rooted root (map (λ c. c.at) image) ≡ true → HasRoot root image
has_root None [] e = refl
has_root None (c ∷ cs) e = absurd (true≢false (sym e))
has_root (Some r) image e =
    let a = Any-from_list_any (λ c. c.at == r) image (sym (any_at (λ q. q == r) image) ∙ e) in
    (a.1, (a.0, a.2, a.3), (let t : (a.1.at == r) ≡ true = a.4 in grind (arith, eqb_tells a.1.at r)))

-- the image that is made of the words, at these references

pub references_of_image : (words cells : List ℕ) → map (λ c. c.at) (image_of words cells) ≡ cells
references_of_image words [] = refl
references_of_image words (r ∷ rs) = ap (λ (qs : List ℕ). r ∷ qs) (references_of_image words rs)

pub image_agrees : (words cells : List ℕ) → All (AgreesWith words) (image_of words cells)
image_agrees words cells = All-map (AgreesWith words) _ cells (λ i d l. (refl, refl))

-- what the test of a given chunk says
pub given_test : (z : Size) (words : List ℕ) (chunk : ℕ) → is_given z words chunk ≡ true → (chunk < z.chunks) × (get_or words (status_at chunk) 0 ≡ 1)
given_test z words chunk e = (
  (let l = and_left (ltb chunk z.chunks) (get_or words (status_at chunk) 0 == 1) e in grind (arith, nat_tests)),
  (let s = and_right (ltb chunk z.chunks) (get_or words (status_at chunk) 0 == 1) e in grind (arith, eqb_tells (get_or words (status_at chunk) 0) 1)),
)

pub image_given : (z : Size) (words cells : List ℕ) → list_all (λ r. is_given z words (chunk_of r)) cells ≡ true → All (IsGiven z words) (image_of words cells)
image_given z words cells e = All-map (IsGiven z words) _ cells (λ i d l.
    let g = given_test z words (chunk_of (get_or cells i d)) (AllPass-from_list_all (λ r. is_given z words (chunk_of r)) cells e i d l) in
    ((let s : chunk_of (get_or cells i d) < z.chunks = g.0 in omega arith), g.1))

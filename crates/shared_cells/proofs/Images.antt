-- Images, and the numbers of their roots.
use Rattle.std.proofs.Common.{◌≡◌, ℕ, ◌+◌, ◌-◌, ◌*◌, ◌/◌, ◌%◌, ◌<◌, ◌≤◌, List, [], ◌∷◌, get_or, Bool, cond, refl, ap, ◌∙◌, arith, Option, Some, None, eq-eqb, ne_eqb}
use Rattle.std.specs.List.{All}
use Rattle.std.proofs.lemmas.List.Elements.{All-cons, All-nil, All-head, All-contains}
use Rattle.std.proofs.lemmas.Nat.{mod-mul-add}
use Rattle.pin_core.specs.declared.kept.CellAt.{CellAt}
use Rattle.pin_core.specs.declared.kept.Kept.{Kept}
use Rattle.pin_core.specs.Words.{Size, pin_at, status_at, half_at, root_number, current_word, pin_of}
use Rattle.pin_core.specs.declared.event.Half.{Half}
use Rattle.pin_core.specs.declared.event.Half.TheVariants.{Big, Small}
use Rattle.pin_core.specs.Sound.{HasRoot, AgreesWith, IsGiven}
use Rattle.pin_core.proofs.Pins.{images_stay, chunks_stay, root_fits}
use Rattle.shared_cells.specs.Views.{root_of, kept_of}
use Rattle.shared_cells.specs.Steps.{IsImage}

pub one : (P : Kept → Type 0) (k : Kept) → P k → All P (k ∷ [])
one P k h = All-cons P k [] h (All-nil P)

-- an image is one in other words, if these are the same past the pins
pub image_stays : (z : Size) (words words' : List ℕ) (root : Option ℕ) (image : List CellAt) → ((i : ℕ) → 64 < i → get_or words' i 0 ≡ get_or words i 0) → IsImage z words root image → IsImage z words' root image
image_stays z words words' root image same fits = let k = kept_of 0 root image in record {
  rooted = fits.rooted;
  once = fits.once;
  unchanged = All-head (λ (k : Kept). All (AgreesWith words') k.image) k [] (images_stay words words' (k ∷ []) same (one (λ k. All (AgreesWith words) k.image) k fits.unchanged));
  given = All-head (λ (k : Kept). All (IsGiven z words') k.image) k [] (chunks_stay z words words' (k ∷ []) same (one (λ k. All (IsGiven z words) k.image) k fits.given));
}

pub root_small : (z : Size) (words : List ℕ) (root : Option ℕ) (image : List CellAt) → z.chunks ≤ 4096 → IsImage z words root image → root_number root < 16777216
root_small z words root image small fits = let l = root_fits z words root image small fits.rooted fits.given in omega arith

-- a root is told from its number
root_back : (z : Size) (words : List ℕ) (root : Option ℕ) (image : List CellAt) → z.chunks ≤ 4096 → HasRoot root image → All (IsGiven z words) image → root_of (root_number root) ≡ root
root_back z words None image small has given = ap (λ (b : Bool). cond b None (Some 16777213)) (eq-eqb 16777213 16777213 refl)
root_back z words (Some r) image small has given =
    let c = has in
    let g : IsGiven z words c.0 = All-contains (IsGiven z words) image c.0 given c.1 in
    let e : c.0.at ≡ r = c.2 in
    let l : c.0.at < 1024 * z.chunks = g.0 in
    ap (λ (b : Bool). cond b None (Some r)) (ne_eqb r 16777213 (λ same. omega arith))

-- and so from a word of CUR
pub root_of_word : (z : Size) (words : List ℕ) (version : ℕ) (root : Option ℕ) (image : List CellAt) → z.chunks ≤ 4096 → IsImage z words root image → root_of (current_word version root % 16777216) ≡ root
root_of_word z words version root image small fits =
    ap root_of (mod-mul-add version 16777216 (root_number root) (root_small z words root image small fits)) ∙ root_back z words root image small fits.rooted fits.given

-- and so from a pin
pub root_of_kept : (z : Size) (words : List ℕ) (k : Kept) → z.chunks ≤ 4096 → HasRoot k.root k.image → All (IsGiven z words) k.image → (pin : ℕ) → pin ≡ pin_of k → root_of ((pin - 2) % 16777216) ≡ k.root
root_of_kept z words k small has given pin is =
    let l = root_fits z words k.root k.image small has given in
    let word : pin - 2 ≡ k.version * 16777216 + root_number k.root = omega arith in
    ap (λ (n : ℕ). root_of (n % 16777216)) word ∙ ap root_of (mod-mul-add k.version 16777216 (root_number k.root) (omega arith)) ∙ root_back z words k.root k.image small has given

-- a table that is as wide as its chunks say has a word
pub some_word : (words chunks : ℕ) → 4161 + 2048 * chunks ≡ words → 0 < words
some_word words chunks wide = omega arith

-- and one for each pin
pub pin_word : (words chunks pass : ℕ) → 4161 + 2048 * chunks ≡ words → pass < 64 → pin_at pass < words
pin_word words chunks pass wide few = omega arith

-- and for each status and cell
pub status_word : (words chunks chunk : ℕ) → 4161 + 2048 * chunks ≡ words → chunks ≤ 4096 → chunk < chunks → status_at chunk < words
status_word words chunks chunk wide few small = omega arith

pub half_word : (words chunks at i : ℕ) (half : Half) → i ≡ half_at at half → 4161 + 2048 * chunks ≡ words → at / 1024 < chunks → i < words
half_word words chunks at i Big is wide small = omega arith
half_word words chunks at i Small is wide small = omega arith

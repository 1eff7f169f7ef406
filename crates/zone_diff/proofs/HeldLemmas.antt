-- Operations in blocks that are full but for the last, and their text.
use Rattle.std.proofs.Common.{◌≡◌, ◌∙◌, ℕ, zero, suc, ◌-◌, ◌<◌, ◌≤◌, eqb, List, [], ◌∷◌, ◌++◌, length, refl, sym, ap, arith, append_assoc, append-nil}
use Rattle.std.proofs.lemmas.Bool.Decides.{nat_tests}
use Rattle.std.proofs.lemmas.Grind.{flat_map-append}
use Rattle.std.specs.List.{AllByRecursion, flat_map}
use Rattle.zone_model.specs.Names.{Name}
use Rattle.zone_model.specs.Versions.{Operation}
use Rattle.dns_name.proofs.BodyLemmas.{all_append}
use Rattle.zone_diff.specs.declared.DiffStyle.{DiffStyle}
use Rattle.zone_diff.specs.declared.DiffStyle.TheVariants.{Script, Nsupdate}
use Rattle.zone_diff.specs.Blocks.{Parted, parted, blocks_of, block_limit, blocks}
use Rattle.zone_diff.specs.Texts.{block_text, closing, line, opening, text_in}
use Rattle.zone_diff.specs.Sinks.{Aim}
use Rattle.zone_diff.specs.Held.{Begun, Closed, Holds, HoldsFor, Opened, joined}

abbrev parts : List Operation → List (List Operation) → Parted
parts here behind = record { here = here; behind = behind }

-- operations that fill the block at hand
fills : (most room : ℕ) (front back : List Operation) → length front ≡ room → parted most room (front ++ back) ≡ parts front (blocks_of most back)
fills most zero [] [] e = refl
fills most zero [] (x ∷ back) e = refl
fills most zero (x ∷ front) back e = absurd (omega arith)
fills most (suc room) [] back e = absurd (omega arith)
fills most (suc room) (x ∷ front) back e =
    let less : length front ≡ room = omega arith in
    ap (λ (p : Parted). parts (x ∷ p.here) p.behind) (fills most room front back less)

fits_in : (most room : ℕ) (begun : List Operation) → length begun ≤ room → parted most room begun ≡ parts begun []
fits_in most zero [] e = refl
fits_in most (suc room) [] e = refl
fits_in most zero (x ∷ begun) e = absurd (omega arith)
fits_in most (suc room) (x ∷ begun) e =
    let less : length begun ≤ room = omega arith in
    ap (λ (p : Parted). parts (x ∷ p.here) p.behind) (fits_in most room begun less)

-- a full block in front
block_in_front : (most : ℕ) (block back : List Operation) → 0 < most → length block ≡ most → blocks_of most (block ++ back) ≡ block ∷ blocks_of most back
block_in_front most [] back some e = absurd (omega arith)
block_in_front most (x ∷ block) back some e =
    let less : length block ≡ most - 1 = omega arith in
    ap (λ (p : Parted). (x ∷ p.here) ∷ p.behind) (fills most (most - 1) block back less)

abbrev AllLong : ℕ → List (List Operation) → Type 0
AllLong most whole = AllByRecursion (λ (block : List Operation). length block ≡ most) whole

whole_blocks : (most : ℕ) (whole : List (List Operation)) (back : List Operation) → 0 < most → AllLong most whole → blocks_of most (joined whole ++ back) ≡ whole ++ blocks_of most back
whole_blocks most [] back some h = refl
whole_blocks most (block ∷ whole) back some h =
    ap (blocks_of most) (append_assoc block (joined whole) back) ∙ block_in_front most block (joined whole ++ back) some h.0 ∙ ap (λ (l : List (List Operation)). block ∷ l) (whole_blocks most whole back some h.1)

-- a block that isn't full is the last one
last_block : (most : ℕ) (begun : List Operation) → 0 < length begun → length begun ≤ most → blocks_of most begun ≡ begun ∷ []
last_block most [] some few = absurd (omega arith)
last_block most (x ∷ begun) some few =
    let less : length begun ≤ most - 1 = omega arith in
    ap (λ (p : Parted). (x ∷ p.here) ∷ p.behind) (fits_in most (most - 1) begun less)

closed_text : (style : DiffStyle) (origin : Name) (text : List ℕ) (operations : List Operation) → Closed style origin text operations → text ≡ text_in style origin operations
closed_text style origin text operations h =
    let are : blocks operations ≡ h.whole ++ [] =
    ap blocks h.all ∙ ap blocks (sym (append-nil (joined h.whole))) ∙ whole_blocks block_limit h.whole [] (omega arith) h.full in
    h.is ∙ ap (flat_map (block_text style origin)) (sym (are ∙ append-nil h.whole))

-- ---- a block is ended

ended_text : (style : DiffStyle) (origin : Name) (whole : List (List Operation)) (begun : List Operation) → (flat_map (block_text style origin) whole ++ (opening style origin ++ flat_map (line style) begun)) ++ closing style ≡ flat_map (block_text style origin) (whole ++ begun ∷ [])
ended_text style origin whole begun =
    append_assoc (flat_map (block_text style origin) whole) (opening style origin ++ flat_map (line style) begun) (closing style)
    ∙ ap (λ (l : List ℕ). flat_map (block_text style origin) whole ++ l) (sym (append-nil (block_text style origin begun)))
    ∙ sym (flat_map-append (block_text style origin) whole (begun ∷ []))

pub ends : (style : DiffStyle) (origin : Name) (text : List ℕ) (room : ℕ) (operations : List Operation) → room ≡ 0 → Begun style origin text room operations → Holds style origin (text ++ closing style) room operations
ends style origin text zero operations e b = let h = b.opened in record {
  whole = h.whole ++ h.begun ∷ [];
  full = all_append (λ (block : List Operation). length block ≡ block_limit) h.whole (h.begun ∷ []) h.full (let n = h.count in let long : length h.begun ≡ block_limit = omega (arith, n) in long, tt);
  all = h.all ∙ ap (λ (l : List Operation). joined h.whole ++ l) (sym (append-nil h.begun)) ∙ sym (flat_map-append (λ (block : List Operation). block) h.whole (h.begun ∷ []));
  is = ap (λ (l : List ℕ). l ++ closing style) h.is ∙ ended_text style origin h.whole h.begun;
}
ends style origin text (suc room) operations e b = absurd (omega arith)

-- ---- all of the text

finished_whole : (style : DiffStyle) (origin : Name) (text : List ℕ) (room : ℕ) (operations : List Operation) → room ≡ 0 → Holds style origin text room operations → text ≡ text_in style origin operations
finished_whole style origin text zero operations e h = closed_text style origin text operations h
finished_whole style origin text (suc room) operations e h = absurd (omega arith)

finished_begun : (style : DiffStyle) (origin : Name) (text : List ℕ) (room : ℕ) (operations : List Operation) → 0 < room → Holds style origin text room operations → text ++ closing style ≡ text_in style origin operations
finished_begun style origin text zero operations some h = absurd (omega arith)
finished_begun style origin text (suc room) operations some h =
    let o : Opened style origin text (suc room) operations = h.opened in
    let n = o.count in
    let less = h.some in
    let has : 0 < length o.begun = omega (arith, n, less) in
    let are : blocks operations ≡ o.whole ++ o.begun ∷ [] =
    ap blocks o.all ∙ whole_blocks block_limit o.whole o.begun (omega arith) o.full ∙ ap (λ (l : List (List Operation)). o.whole ++ l) (last_block block_limit o.begun has (omega (arith, n))) in
    ap (λ (l : List ℕ). l ++ closing style) o.is ∙ ended_text style origin o.whole o.begun ∙ ap (flat_map (block_text style origin)) (sym are)

-- ---- the text of a sink

aimed : (style : DiffStyle) (origin : Name) (aim : Aim) (operations : List Operation) → style ≡ aim.style → origin ≡ aim.origin → text_in style origin operations ≡ text_in aim.style aim.origin operations
aimed style origin aim operations e f = ap (λ (s : DiffStyle). text_in s origin operations) e ∙ ap (λ (n : Name). text_in aim.style n operations) f

pub aimed_whole : (style : DiffStyle) (origin : Name) (text : List ℕ) (room : ℕ) (aim : Aim) (operations : List Operation) → room ≡ 0 → HoldsFor style origin text room aim operations → text ≡ text_in aim.style aim.origin operations
aimed_whole style origin text room aim operations e h = finished_whole style origin text room operations e h.holds ∙ aimed style origin aim operations h.in_style h.of_origin

pub aimed_begun : (style : DiffStyle) (origin : Name) (text : List ℕ) (room : ℕ) (aim : Aim) (operations : List Operation) → 0 < room → HoldsFor style origin text room aim operations → text ++ closing style ≡ text_in aim.style aim.origin operations
aimed_begun style origin text room aim operations some h = finished_begun style origin text room operations some h.holds ∙ aimed style origin aim operations h.in_style h.of_origin

-- ---- a text of nothing

some_alike : (a b : ℕ) → 0 < a → 0 < b → eqb a 0 ≡ eqb b 0
some_alike a b h k = grind (arith, nat_tests)

pub nothing_written : (style : DiffStyle) (origin : Name) (operations : List Operation) → eqb (length (text_in style origin operations)) 0 ≡ eqb (length operations) 0
nothing_written style origin [] = refl
nothing_written Script origin (x ∷ operations) = some_alike (length (text_in Script origin (x ∷ operations))) (length (x ∷ operations)) (omega arith) (omega arith)
nothing_written Nsupdate origin (x ∷ operations) = some_alike (length (text_in Nsupdate origin (x ∷ operations))) (length (x ∷ operations)) (omega arith) (omega arith)

-- What is read is a name.
use Rattle.std.proofs.Common.{◌≡◌, ℕ, ◌+◌, ◌<◌, ◌≤◌, Bool, true, false, List, [], ◌∷◌, ◌++◌, length, get_or, ◌-◌, append-nil, sym, ap, ◌∙◌, subst, refl, arith, length-append, Result, Ok, Err, cond, ltb, eqb}
use Rattle.std.proofs.lemmas.Bool.Decides.{nat_tests}
use Rattle.zone_model.specs.Names.{wire, IsLabel, IsName}
use Rattle.zone_model.specs.NameText.{labels_of, fitting, completed, name_of}
use Rattle.zone_model.specs.declared.NameRefusal.{NameRefusal}
use Rattle.zone_model.specs.declared.NameRefusal.TheVariants.{EmptyLabel, LongName}
use borrow.Rule.Slice.PartMut.{put_mid}
use Rattle.dns_name.specs.Blank.{over_zeros}
use Rattle.dns_name.specs.Inside.{HasName}
use Rattle.dns_name.specs.Reading.{Measures, IsLaid, IsMeasured}
use Rattle.dns_name.proofs.BodyLemmas.{body, wire-append, wire_positive, length-wire, all_append}
use Rattle.dns_name.proofs.FillLemmas.{joined_laid}

-- ---- what is read is a name, unless it is too long

pub measured : (text : List ℕ) (octets : ℕ) (b : Bool) → Measures (Ok (octets, b)) (labels_of text) → IsMeasured text octets b
measured text octets b h = go (labels_of text) refl h
  where
    go : (r : Result (List (List ℕ) × Bool) NameRefusal) → labels_of text ≡ r → Measures (Ok (octets, b)) r → IsMeasured text octets b
    go (Err e) is m = absurd m
    go (Ok y) is m = record {
      labels = y.0;
      read = is ∙ ap (λ (c : Bool). Ok (y.0, c)) (sym m.1);
      counted = m.0;
      each = m.2;
    }

pub fitting-long : (labels : List (List ℕ)) (total : ℕ) → total ≡ length (wire labels) → 255 < total → Err (LongName total) ≡ fitting labels
unfolding fitting
fitting-long labels total e h = let t : ltb 255 (length (wire labels)) ≡ true = grind (arith, nat_tests) in rw t (ap (λ (n : ℕ). Err (LongName n)) e)

pub fitting-fits : (labels : List (List ℕ)) → length (wire labels) ≤ 255 → fitting labels ≡ Ok labels
unfolding fitting
fitting-fits labels h = let t : ltb 255 (length (wire labels)) ≡ false = grind (arith, nat_tests) in rw t refl

pub length-whole : (text : List ℕ) (octets : ℕ) (b : Bool) (m : IsMeasured text octets b) (back : List (List ℕ)) → length (wire (m.labels ++ back)) ≡ octets + length (wire back)
length-whole text octets b m back = omega (arith, ap length (wire-append m.labels back), length-append (body m.labels) (wire back), m.counted, length-wire m.labels)

-- the labels with those behind them, as they were laid down
pub whole_name : (text : List ℕ) (octets total : ℕ) (b : Bool) (m : IsMeasured text octets b) (laid behind : List ℕ) (back : List (List ℕ)) → (octets < 255 → IsLaid laid (labels_of text)) → IsName back → behind ≡ wire back
    → total ≡ octets + length behind → total ≤ 255 → HasName (put_mid octets (total - octets) laid behind) total (m.labels ++ back)
whole_name text octets total b m laid behind back is name e n le =
    let len : total ≡ length (wire (m.labels ++ back)) = omega (arith, length-whole text octets b m back, ap length e) in
    let fits : octets < 255 = omega (arith, ap length e, wire_positive back) in
    let front : laid ≡ over_zeros (body m.labels) = subst (IsLaid laid) m.read (is fits) in
    record {
      laid = ap (λ (l : List ℕ). put_mid octets (total - octets) laid l) e
          ∙ joined_laid m.labels back laid octets (total - octets) front (omega (arith, m.counted, length-wire m.labels)) (omega (arith, ap length e));
      counted = len;
      name = record { each = all_append IsLabel m.labels back m.each name.each; short = omega arith };
    }

pub completed_by : (origin : List (List ℕ)) (r : Result (List (List ℕ) × Bool) NameRefusal) (e : NameRefusal) → Measures (Err e) r → Err e ≡ completed origin r
unfolding completed
completed_by origin (Ok y) e h = absurd h
completed_by origin (Err f) e h = ap (λ (x : NameRefusal). Err x) h

pub completed-Ok : (origin : List (List ℕ)) (y : List (List ℕ)) (b : Bool) → completed origin (Ok (y, b)) ≡ fitting (cond b y (y ++ origin))
unfolding completed
completed-Ok origin y b = refl

pub name_of-empty : (text : List ℕ) (origin : List (List ℕ)) → length text ≡ 0 → Err (EmptyLabel 0) ≡ name_of text origin
unfolding name_of
name_of-empty [] origin h = refl
name_of-empty (c ∷ text) origin h = absurd (omega arith)

pub name_of-at : (text : List ℕ) (origin : List (List ℕ)) → length text ≡ 1 → get_or text 0 0 ≡ 64 → Ok origin ≡ name_of text origin
unfolding name_of
name_of-at [] origin h k = absurd (omega arith)
name_of-at (c ∷ d ∷ text) origin h k = absurd (omega arith)
name_of-at (c ∷ []) origin h k = let p : eqb c 64 ≡ true = grind arith in rw p refl

pub name_of-dot : (text : List ℕ) (origin : List (List ℕ)) → length text ≡ 1 → get_or text 0 0 ≡ 46 → Ok [] ≡ name_of text origin
unfolding name_of
name_of-dot [] origin h k = absurd (omega arith)
name_of-dot (c ∷ d ∷ text) origin h k = absurd (omega arith)
name_of-dot (c ∷ []) origin h k =
    let p : eqb c 64 ≡ false = grind arith in
    let q : eqb c 46 ≡ true = grind arith in
    rw (p, q) refl

pub name_of-other : (text : List ℕ) (origin : List (List ℕ)) → (length text ≡ 0 → ⊥) → (length text ≡ 1 → get_or text 0 0 ≡ 64 → ⊥) → (length text ≡ 1 → get_or text 0 0 ≡ 46 → ⊥)
    → completed origin (labels_of text) ≡ name_of text origin
unfolding name_of
name_of-other [] origin h k m = absurd (h refl)
name_of-other (c ∷ d ∷ text) origin h k m = refl
name_of-other (c ∷ []) origin h k m =
    let at : c ≡ 64 → ⊥ = k refl in
    let dot : c ≡ 46 → ⊥ = m refl in
    let p : eqb c 64 ≡ false = grind arith in
    let q : eqb c 46 ≡ false = grind arith in
    rw (p, q) refl

pub completed_as : (text : List ℕ) (octets : ℕ) (b : Bool) (m : IsMeasured text octets b) (origin : List (List ℕ)) → fitting (m.labels ++ cond b [] origin) ≡ completed origin (labels_of text)
completed_as text octets b m origin = ap fitting (joined b m.labels) ∙ sym (completed-Ok origin m.labels b) ∙ ap (completed origin) (sym m.read)
  where
    joined : (b : Bool) (labels : List (List ℕ)) → labels ++ cond b [] origin ≡ cond b labels (labels ++ origin)
    joined true labels = append-nil labels
    joined false labels = refl

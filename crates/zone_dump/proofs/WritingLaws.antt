-- Text that comes in parts.
use Rattle.std.proofs.Common.{◌≡◌, ◌∙◌, ℕ, ◌+◌, ◌≤◌, List, [], ◌++◌, length, take, refl, sym, ap, subst, arith, append_assoc, append-nil, length-append, Result, Ok, Err}
use Rattle.std.proofs.Math.Seq.{take-append-add}
use Rattle.std.proofs.lemmas.List.{take-append-le, take_at}
use Rattle.std.specs.Prelude.{OnErr, OnOk}
use Rattle.outer_io.specs.Bytes.{Held, Grows, GrowsByFront}
use Rattle.outer_io.proofs.GrowsLemmas.{Grows-nil, Grows-trans}
use Rattle.zone_dump.specs.Writing.{Passes, PassesPart}

pub passes_none : (a : Held) (had : List ℕ) → Passes a a had had []
passes_none a had = record { written = []; grown = Grows-nil a; whole = append-nil had }

pub passes_more : (a b c : Held) (x y z s t : List ℕ) → Passes a b x y s → Passes b c y z t → Passes a c x z (s ++ t)
passes_more a b c x y z s t p q = record {
  written = p.written ++ q.written;
  grown = Grows-trans a b c p.written q.written p.grown q.grown;
  whole =
      sym (append_assoc x s t) ∙ ap (λ (l : List ℕ). l ++ t) p.whole ∙ append_assoc p.written y t ∙ ap (λ (l : List ℕ). p.written ++ l) q.whole
      ∙ sym (append_assoc p.written q.written z);
}

-- ---- fronts

pub front_longer : (a b : Held) (s t : List ℕ) → GrowsByFront a b s → GrowsByFront a b (s ++ t)
front_longer a b s t f = (f.0, omega (arith, f.1, length-append s t), subst (Grows a b) (sym (take-append-le f.0 s t f.1)) f.2)

-- a front of what comes later, behind all that came before
pub front_later : (a b c : Held) (x y s t : List ℕ) → Passes a b x y s → GrowsByFront b c (y ++ t) → GrowsByFront a c (x ++ (s ++ t))
front_later a b c x y s t p f =
    let whole : x ++ (s ++ t) ≡ p.written ++ (y ++ t) = sym (append_assoc x s t) ∙ ap (λ (l : List ℕ). l ++ t) p.whole ∙ append_assoc p.written y t in
    let front : take (length p.written + f.0) (p.written ++ (y ++ t)) ≡ p.written ++ take f.0 (y ++ t) = take-append-add p.written (y ++ t) f.0 in
    let le : length p.written + f.0 ≤ length (p.written ++ (y ++ t)) = omega (arith, f.1, length-append p.written (y ++ t)) in
    subst (GrowsByFront a c) (sym whole) (length p.written + f.0, le, subst (Grows a c) (sym front) (Grows-trans a b c p.written (take f.0 (y ++ t)) p.grown f.2))

-- what was written is a front of all that came
pub front_written : (a b : Held) (x y s : List ℕ) → Passes a b x y s → GrowsByFront a b (x ++ s)
front_written a b x y s p =
    let front : take (length p.written) (x ++ s) ≡ p.written = ap (take (length p.written)) p.whole ∙ take_at p.written y (length p.written) refl in
    let le : length p.written ≤ length (x ++ s) = omega (arith, ap (λ (l : List ℕ). length l) p.whole, length-append p.written y) in
    (length p.written, le, subst (Grows a b) (sym front) p.grown)

-- what is left at the end is written in part
pub front_end : (a b c : Held) (x y s : List ℕ) → Passes a b x y s → GrowsByFront b c y → GrowsByFront a c (x ++ s)
front_end a b c x y s p f =
    subst (λ (l : List ℕ). GrowsByFront a c (x ++ l)) (append-nil s) (front_later a b c x y s [] p (subst (GrowsByFront b c) (sym (append-nil y)) f))

-- whichever refusal it is
pub on_any_err : {A E P : Type 0} (r : Result A E) → P → OnErr r P
on_any_err (Ok x) p = tt
on_any_err (Err e) p = p

pub on_err_more : {A E P Q : Type 0} (r : Result A E) → (P → Q) → OnErr r P → OnErr r Q
on_err_more (Ok x) more p = tt
on_err_more (Err e) more p = more p

pub on_ok_more : {A E P Q : Type 0} (r : Result A E) → (P → Q) → OnOk r P → OnOk r Q
on_ok_more (Ok x) more p = more p
on_ok_more (Err e) more p = tt

-- ---- parts of a whole

pub part_start : (a : Held) (had whole : List ℕ) → PassesPart a a had had whole whole
part_start a had whole = record { text = []; passed = passes_none a had; rest = refl }

pub part_more : (a b c : Held) (had mid has whole left line next : List ℕ) → PassesPart a b had mid whole left → left ≡ line ++ next → Passes b c mid has line → PassesPart a c had has whole next
part_more a b c had mid has whole left line next p e q = record {
  text = p.text ++ line;
  passed = passes_more a b c had mid has p.text line p.passed q;
  rest = append_assoc p.text line next ∙ ap (λ (l : List ℕ). p.text ++ l) (sym e) ∙ p.rest;
}

pub part_end : (a b : Held) (had has whole left : List ℕ) → PassesPart a b had has whole left → left ≡ [] → Passes a b had has whole
part_end a b had has whole left p e = subst (Passes a b had has) (sym (append-nil p.text) ∙ ap (λ (l : List ℕ). p.text ++ l) (sym e) ∙ p.rest) p.passed

-- a line of those that are left came in part
pub part_stops : (a b c : Held) (had mid whole left line next : List ℕ) → PassesPart a b had mid whole left → left ≡ line ++ next → GrowsByFront b c (mid ++ line) → GrowsByFront a c (had ++ whole)
part_stops a b c had mid whole left line next p e f =
    let all : (had ++ (p.text ++ line)) ++ next ≡ had ++ whole =
    append_assoc had (p.text ++ line) next ∙ ap (λ (l : List ℕ). had ++ l) (append_assoc p.text line next ∙ ap (λ (l : List ℕ). p.text ++ l) (sym e) ∙ p.rest) in
    subst (GrowsByFront a c) all (front_longer a c (had ++ (p.text ++ line)) next (front_later a b c had mid p.text line p.passed f))

-- what came so far was written in part
pub part_front : (a b : Held) (had has whole left : List ℕ) → PassesPart a b had has whole left → GrowsByFront a b (had ++ whole)
part_front a b had has whole left p =
    subst (GrowsByFront a b) (append_assoc had p.text left ∙ ap (λ (l : List ℕ). had ++ l) p.rest) (front_longer a b (had ++ p.text) left (front_written a b had has p.text p.passed))

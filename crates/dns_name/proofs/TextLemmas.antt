-- The labels that pieces make, one piece after another.
use Rattle.std.proofs.Common.{◌≡◌, ℕ, ◌+◌, ◌<◌, ◌≤◌, Bool, true, false, List, [], ◌∷◌, ◌++◌, length, set, sym, ap, ◌∙◌, subst, refl, arith, append_assoc, append-nil, length-append, Result, Ok, Err, eqb}
use Rattle.std.proofs.lemmas.List.{nil_from_length}
use Rattle.std.specs.List.{AllByRecursion}
use Rattle.zone_model.specs.Names.{IsLabel, IsFolded}
use Rattle.zone_model.specs.NameText.{Piece, Dot, Octet, Bad, labels_from, labels_of, onto}
use Rattle.zone_model.specs.declared.NameRefusal.{NameRefusal}
use Rattle.zone_model.specs.declared.NameRefusal.TheVariants.{EmptyLabel, LongLabel, BadEscape}
use Rattle.dns_name.specs.Pieces.{pieces_at, IsOctetAt}
use Rattle.dns_name.specs.Blank.{no_octets, over_zeros}
use Rattle.dns_name.specs.Reading.{Measures, IsLaid}
use Rattle.dns_name.proofs.PieceLemmas.{pieces_end}
use Rattle.dns_name.proofs.BodyLemmas.{body, length-wire, length-body-push, all_push}
use Rattle.dns_name.proofs.FillLemmas.{zero_more, put_more, label_ends}

pub onto-onto : (a b : List (List ℕ)) (r : Result (List (List ℕ) × Bool) NameRefusal) → onto a (onto b r) ≡ onto (a ++ b) r
unfolding onto
onto-onto a b (Ok x) = ap (λ (l : List (List ℕ)). Ok (l, x.1)) (sym (append_assoc a b x.0))
onto-onto a b (Err e) = refl

pub onto-nil : (r : Result (List (List ℕ) × Bool) NameRefusal) → onto [] r ≡ r
unfolding onto
onto-nil (Ok x) = refl
onto-nil (Err e) = refl

pub onto-Err : (a : List (List ℕ)) (e : NameRefusal) → onto a (Err e) ≡ Err e
unfolding onto
onto-Err a e = refl

-- ---- one step

pub from-dot : (at : ℕ) (label : List ℕ) (ps : List Piece) → 0 < length label → labels_from label (Dot at ∷ ps) ≡ onto (label ∷ []) (labels_from [] ps)
unfolding labels_from
from-dot at label ps h = let n : eqb (length label) 0 ≡ false = grind arith in rw n refl

pub from-empty : (at : ℕ) (ps : List Piece) → labels_from [] (Dot at ∷ ps) ≡ Err (EmptyLabel at)
unfolding labels_from
from-empty at ps = refl

pub from-bad : (at : ℕ) (label : List ℕ) (ps : List Piece) → labels_from label (Bad at ∷ ps) ≡ Err (BadEscape at)
unfolding labels_from
from-bad at label ps = refl

pub from-long : (at c : ℕ) (label : List ℕ) (ps : List Piece) → length label ≡ 63 → labels_from label (Octet at c ∷ ps) ≡ Err (LongLabel at)
unfolding labels_from
from-long at c label ps n = let r : eqb (length label) 63 ≡ true = grind arith in rw r refl

pub from-octet : (at c : ℕ) (label : List ℕ) (ps : List Piece) → (length label ≡ 63 → ⊥) → labels_from label (Octet at c ∷ ps) ≡ labels_from (label ++ c ∷ []) ps
unfolding labels_from
from-octet at c label ps n = let r : eqb (length label) 63 ≡ false = grind arith in rw r refl

pub from-end_dot : labels_from [] [] ≡ Ok ([], true)
unfolding labels_from
from-end_dot = refl

pub from-end : (label : List ℕ) → 0 < length label → labels_from label [] ≡ Ok (label ∷ [], false)
unfolding labels_from
from-end label h = let n : eqb (length label) 0 ≡ false = grind arith in rw n refl

-- ---- the walk: `done` are the labels so far, `label` is the open one

-- the octets of a label so far
pub record IsPart (label : List ℕ) : Type 0 where
  pub short : length label ≤ 63
  pub octets : AllByRecursion (λ c. c < 256) label
  pub folded : AllByRecursion IsFolded label

pub as_label : (label : List ℕ) → IsPart label → 0 < length label → IsLabel label
as_label label p h = record { some = h; short = p.short; octets = p.octets; folded = p.folded }

pub record Walked (text : List ℕ) (at start pending : ℕ) (laid : List ℕ) : Type 0 where
  pub done : List (List ℕ)
  pub label : List ℕ
  pub goes_on : labels_of text ≡ onto done (labels_from label (pieces_at text at))
  pub start_is : start ≡ length (body done)
  pub open_is : pending ≡ length label
  pub each : AllByRecursion IsLabel done
  pub part : IsPart label
  pub small : start + pending ≤ at
  pub within : at ≤ length text
  pub laid_is : start + pending < 255 → laid ≡ over_zeros (body done ++ 0 ∷ label)

empty_part : IsPart []
empty_part = record { short = omega arith; octets = tt; folded = tt }

pub walked_start : (text laid : List ℕ) → laid ≡ no_octets → Walked text 0 0 0 laid
walked_start text laid e = record {
  done = [];
  label = [];
  goes_on = sym (onto-nil (labels_of text));
  start_is = refl;
  open_is = refl;
  each = tt;
  part = empty_part;
  small = omega arith;
  within = omega arith;
  laid_is = λ h. e ∙ zero_more [] (omega arith);
}

pub pending_small : (text : List ℕ) (at start n : ℕ) (laid : List ℕ) → Walked text at start n laid → n < 256
pending_small text at start n laid w = omega (arith, w.open_is, w.part.short)

-- the walk ends with a refusal
refused : (text : List ℕ) (at start n : ℕ) (laid : List ℕ) (w : Walked text at start n laid) (e : NameRefusal) → labels_from w.label (pieces_at text at) ≡ Err e → Measures (Err e) (labels_of text)
refused text at start n laid w e r =
    let all : labels_of text ≡ Err e = w.goes_on ∙ ap (onto w.done) r ∙ onto-Err w.done e in
    subst (Measures (Err e)) (sym all) refl

pub refused_empty : (text : List ℕ) (at start n : ℕ) (laid : List ℕ) (w : Walked text at start n laid) → pieces_at text at ≡ Dot at ∷ pieces_at text (at + 1) → n ≡ 0 → Measures (Err (EmptyLabel at)) (labels_of text)
refused_empty text at start n laid w is z =
    let none : w.label ≡ [] = nil_from_length w.label (sym w.open_is ∙ z) in
    refused text at start n laid w (EmptyLabel at) (ap (labels_from w.label) is ∙ ap (λ (l : List ℕ). labels_from l (Dot at ∷ pieces_at text (at + 1))) none ∙ from-empty at (pieces_at text (at + 1)))

pub refused_bad : (text : List ℕ) (at start n : ℕ) (laid : List ℕ) (w : Walked text at start n laid) → (rest : List Piece) × (pieces_at text at ≡ Bad at ∷ rest) → Measures (Err (BadEscape at)) (labels_of text)
refused_bad text at start n laid w is = refused text at start n laid w (BadEscape at) (ap (labels_from w.label) is.1 ∙ from-bad at w.label is.0)

pub refused_long : (text : List ℕ) (at start n c next : ℕ) (laid : List ℕ) (w : Walked text at start n laid) → IsOctetAt text at c next → n ≡ 63 → Measures (Err (LongLabel at)) (labels_of text)
refused_long text at start n c next laid w o full =
    refused text at start n laid w (LongLabel at) (ap (labels_from w.label) o.is ∙ from-long at c w.label (pieces_at text next) (sym w.open_is ∙ full))

pub walked_dot : (text : List ℕ) (at start n : ℕ) (laid next : List ℕ) (w : Walked text at start n laid) → at < length text → pieces_at text at ≡ Dot at ∷ pieces_at text (at + 1) → (n ≡ 0 → ⊥)
    → next ≡ set laid start n → Walked text (at + 1) (start + (n + 1)) 0 next
walked_dot text at start n laid next w lt is z e =
    let some : 0 < length w.label = omega (arith, w.open_is) in
    let starts : start + (n + 1) ≡ length (body (w.done ++ w.label ∷ [])) = omega (arith, length-body-push w.done w.label, w.start_is, w.open_is) in
    record {
      done = w.done ++ w.label ∷ [];
      label = [];
      goes_on = w.goes_on ∙ ap (λ (ps : List Piece). onto w.done (labels_from w.label ps)) is ∙ ap (onto w.done) (from-dot at w.label (pieces_at text (at + 1)) some) ∙ onto-onto w.done (w.label ∷ []) (labels_from [] (pieces_at text (at + 1)));
      start_is = starts;
      open_is = refl;
      each = all_push IsLabel w.done w.label w.each (as_label w.label w.part some);
      part = empty_part;
      small = omega (arith, w.small);
      within = omega arith;
      laid_is = λ h. e ∙ label_ends w.done w.label laid start n (w.laid_is (omega arith)) w.start_is w.open_is ∙ zero_more (body (w.done ++ w.label ∷ [])) (omega (arith, starts));
    }

-- an octet more of the open label
pub part_more : (label : List ℕ) (c : ℕ) → IsPart label → (length label ≡ 63 → ⊥) → c < 256 → IsFolded c → IsPart (label ++ c ∷ [])
part_more label c p n small folded = record {
  short = omega (arith, p.short, length-append label (c ∷ []));
  octets = all_push (λ d. d < 256) label c p.octets small;
  folded = all_push IsFolded label c p.folded folded;
}

pub walked_octet : (text : List ℕ) (at start n c next : ℕ) (laid after : List ℕ) (w : Walked text at start n laid) → IsOctetAt text at c next → (n ≡ 63 → ⊥)
    → after ≡ set laid (start + (n + 1)) c → Walked text next start (n + 1) after
walked_octet text at start n c next laid after w o full e =
    let space : length w.label ≡ 63 → ⊥ = λ e. full (w.open_is ∙ e) in
    let front = body w.done ++ 0 ∷ w.label in
    let len : start + (n + 1) ≡ length front = omega (arith, length-append (body w.done) (0 ∷ w.label), w.start_is, w.open_is) in
    record {
      done = w.done;
      label = w.label ++ c ∷ [];
      goes_on = w.goes_on ∙ ap (λ (ps : List Piece). onto w.done (labels_from w.label ps)) o.is ∙ ap (onto w.done) (from-octet at c w.label (pieces_at text next) space);
      start_is = w.start_is;
      open_is = omega (arith, w.open_is, length-append w.label (c ∷ []));
      each = w.each;
      part = part_more w.label c w.part space o.small o.folded;
      small = omega (arith, w.small, o.later);
      within = o.within;
      laid_is = λ h.
          e ∙ ap (λ (l : List ℕ). set l (start + (n + 1)) c) (w.laid_is (omega arith)) ∙ ap (λ (i : ℕ). set (over_zeros front) i c) len ∙ put_more front c (omega (arith, len))
          ∙ ap (λ (l : List ℕ). over_zeros l) (append_assoc (body w.done) (0 ∷ w.label) (c ∷ []));
    }

ended_by : (text : List ℕ) (at start n : ℕ) (laid : List ℕ) (w : Walked text at start n laid) → length text ≤ at → labels_of text ≡ onto w.done (labels_from w.label [])
ended_by text at start n laid w h = w.goes_on ∙ ap (λ (ps : List Piece). onto w.done (labels_from w.label ps)) (pieces_end text at h)

-- ---- the end: all labels stand behind a dot, or one is open

none_open : (text : List ℕ) (at start n : ℕ) (laid : List ℕ) (w : Walked text at start n laid) → n ≡ 0 → w.label ≡ []
none_open text at start n laid w z = nil_from_length w.label (sym w.open_is ∙ z)

whole_dot : (text : List ℕ) (at start n : ℕ) (laid : List ℕ) (w : Walked text at start n laid) → length text ≤ at → n ≡ 0 → labels_of text ≡ Ok (w.done, true)
unfolding onto
whole_dot text at start n laid w h z =
    ended_by text at start n laid w h ∙ ap (λ (l : List ℕ). onto w.done (labels_from l [])) (none_open text at start n laid w z) ∙ ap (onto w.done) from-end_dot
    ∙ ap (λ (l : List (List ℕ)). Ok (l, true)) (append-nil w.done)

pub ended_dot : (text : List ℕ) (at start n : ℕ) (laid : List ℕ) (w : Walked text at start n laid) → length text ≤ at → n ≡ 0 → Measures (Ok (start, true)) (labels_of text)
ended_dot text at start n laid w h z =
    subst (Measures (Ok (start, true))) (sym (whole_dot text at start n laid w h z)) (omega (arith, w.start_is, length-wire w.done), refl, w.each)

pub laid_dot : (text : List ℕ) (at start n : ℕ) (laid : List ℕ) (w : Walked text at start n laid) → length text ≤ at → n ≡ 0 → start < 255 → IsLaid laid (labels_of text)
laid_dot text at start n laid w h z lt =
    let room : length (body w.done) < 255 = omega (arith, w.start_is) in
    subst (IsLaid laid) (sym (whole_dot text at start n laid w h z))
    (w.laid_is (omega arith) ∙ ap (λ (l : List ℕ). over_zeros (body w.done ++ 0 ∷ l)) (none_open text at start n laid w z) ∙ sym (zero_more (body w.done) room))

whole_open : (text : List ℕ) (at start n : ℕ) (laid : List ℕ) (w : Walked text at start n laid) → length text ≤ at → 0 < length w.label → labels_of text ≡ Ok (w.done ++ w.label ∷ [], false)
unfolding onto
whole_open text at start n laid w h some = ended_by text at start n laid w h ∙ ap (onto w.done) (from-end w.label some)

pub ended_open : (text : List ℕ) (at start n : ℕ) (laid : List ℕ) (w : Walked text at start n laid) → length text ≤ at → (n ≡ 0 → ⊥) → Measures (Ok (start + n + 1, false)) (labels_of text)
ended_open text at start n laid w h z =
    let some : 0 < length w.label = omega (arith, w.open_is) in
    subst (Measures (Ok (start + n + 1, false))) (sym (whole_open text at start n laid w h some))
    (omega (arith, length-wire (w.done ++ w.label ∷ []), length-body-push w.done w.label, w.start_is, w.open_is), refl, all_push IsLabel w.done w.label w.each (as_label w.label w.part some))

pub laid_open : (text : List ℕ) (at start n : ℕ) (laid after : List ℕ) (w : Walked text at start n laid) → length text ≤ at → (n ≡ 0 → ⊥) → after ≡ set laid start n → start + n + 1 < 255
    → IsLaid after (labels_of text)
laid_open text at start n laid after w h z e lt =
    let some : 0 < length w.label = omega (arith, w.open_is) in
    subst (IsLaid after) (sym (whole_open text at start n laid w h some)) (e ∙ label_ends w.done w.label laid start n (w.laid_is (omega arith)) w.start_is w.open_is)

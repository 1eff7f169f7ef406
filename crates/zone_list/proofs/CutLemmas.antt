-- Texts that are cut where parts begin.
use Rattle.std.proofs.Common.{◌≡◌, ◌∙◌, ℕ, ◌+◌, ◌-◌, ◌<◌, ◌≤◌, Bool, true, false, cond, List, [], ◌∷◌, ◌++◌, length, take, drop, slice_index_or, Result, Ok, Err, refl, sym, ap, subst, arith, append-nil, append_assoc}
use Rattle.std.specs.List.{slice_range}
use Rattle.std.proofs.lemmas.List.{drop_all, drop-drop}
use Rattle.std.proofs.lemmas.Slice.{between_to_end}
use Rattle.zone_model.specs.Lines.{lines_of}
use Rattle.zone_model.specs.Refusals.{Refused, ◌>>=◌}
use Rattle.zone_model.specs.MasterFile.{Zone}
use Rattle.zone_model.specs.declared.ZoneKind.{ZoneKind}
use Rattle.zone_model.specs.declared.ZoneKind.TheVariants.{BadToken}
use Rattle.zone_model.specs.Tokens.{refused}
use Rattle.zone_text.specs.Places.{FirstLine, first_line}
use Rattle.zone_list.specs.Lists.{is_head, Part, Cut, cut_from, begins_part, part_says, zones_from, zones_of}
use Rattle.zone_list.specs.Views.{IsFront, IsAtPart, ReadsPart}
use Rattle.zone_text.specs.Views.{Reads}
use Rattle.zone_text.specs.declared.refusal.ZoneRefusal.{ZoneRefusal}
use Rattle.zone_list.specs.declared.parts.Front.{Front}
use Rattle.zone_text.proofs.CutLemmas.{Begins, at_start, behind_line, line_more}

-- lines that stand in front of what is cut
abbrev pub behind : List (List ℕ) → Cut → Cut
behind lines cut = record { front = lines ++ cut.front; parts = cut.parts }

-- how far the search for the first part has come
pub record Searched (text : List ℕ) (at lines : ℕ) : Type 0 where
  pub begins : Begins text at
  pub left : (n : ℕ) → cut_from n (lines_of text) ≡ behind (lines_of (take at text)) (cut_from (n + lines) (lines_of (drop at text)))
  pub inside : at ≤ length text
  pub few : lines ≤ at

pub searched_none : (text : List ℕ) → Searched text 0 0
searched_none text = record {
  begins = at_start refl;
  left = λ n. let e : n ≡ n + 0 = omega arith in ap (λ (k : ℕ). cut_from k (lines_of text)) e;
  inside = omega arith;
  few = omega arith;
}

-- a line that begins no part, and one that does
pub line_skipped : (n : ℕ) (line : List ℕ) (lines : List (List ℕ)) → is_head line ≡ false → cut_from n (line ∷ lines) ≡ behind (line ∷ []) (cut_from (n + 1) lines)
unfolding cut_from
line_skipped n line lines e =
    let c = cut_from (n + 1) lines in
    ap (λ (b : Bool). cond b (record { front = []; parts = (record { number = n; head = line; lines = c.front }) ∷ c.parts }) (record { front = line ∷ c.front; parts = c.parts })) e

pub line_begins : (n : ℕ) (line : List ℕ) (lines : List (List ℕ)) → is_head line ≡ true
    → cut_from n (line ∷ lines) ≡ record { front = []; parts = (record { number = n; head = line; lines = (cut_from (n + 1) lines).front }) ∷ (cut_from (n + 1) lines).parts }
unfolding cut_from
line_begins n line lines e =
    let c = cut_from (n + 1) lines in
    ap (λ (b : Bool). cond b (record { front = []; parts = (record { number = n; head = line; lines = c.front }) ∷ c.parts }) (record { front = line ∷ c.front; parts = c.parts })) e

pub searched_more : {text : List ℕ} {at upto next lines : ℕ} → Searched text at lines → FirstLine text at upto next → is_head (slice_range text at upto) ≡ false → Searched text next (lines + 1)
searched_more {text} {at} {upto} {next} {lines} s f other =
    let line = slice_range text at upto in
    let front = lines_of (take at text) in
    record {
      begins = behind_line f;
      left = λ n.
          let step : cut_from (n + lines) (lines_of (drop at text)) ≡ behind (line ∷ []) (cut_from (n + lines + 1) (lines_of (drop next text))) =
          ap (cut_from (n + lines)) f.lines ∙ line_skipped (n + lines) line (lines_of (drop next text)) other in
          let count : n + lines + 1 ≡ n + (lines + 1) = omega arith in
          let c = cut_from (n + (lines + 1)) (lines_of (drop next text)) in
          s.left n ∙ ap (behind front) (step ∙ ap (λ (k : ℕ). behind (line ∷ []) (cut_from k (lines_of (drop next text)))) count)
          ∙ ap (λ (l : List (List ℕ)). record { front = l; parts = c.parts }) (sym (append_assoc front (line ∷ []) c.front) ∙ ap (λ (l : List (List ℕ)). l ++ c.front) (sym (line_more s.begins f)));
      inside = f.inside;
      few = (let on : at < next = f.on in let few : lines ≤ at = s.few in omega arith);
    }

-- The search ends at a part, or where there is none.
pub none_in_front : (n : ℕ) (lines : List (List ℕ)) → begins_part lines ≡ true → (cut_from n lines).front ≡ []
none_in_front n [] e = absurd cc
none_in_front n (line ∷ lines) e = ap (λ (c : Cut). c.front) (line_begins n line lines e)

found : {text : List ℕ} {at lines : ℕ} → Searched text at lines → ((n : ℕ) → (cut_from n (lines_of (drop at text))).front ≡ []) → IsAtPart text at → IsFront text (record { upto = at; lines = lines })
found {text} {at} {lines} s none part = record {
  cut = λ n. let c = cut_from (n + lines) (lines_of (drop at text)) in
      s.left n ∙ ap (λ (l : List (List ℕ)). record { front = lines_of (take at text) ++ l; parts = c.parts }) (none (n + lines)) ∙ ap (λ (l : List (List ℕ)). record { front = l; parts = c.parts }) (append-nil (lines_of (take at text)));
  at_part = part;
  inside = s.inside;
  few = s.few;
}

pub found_part : {text : List ℕ} {at upto next lines : ℕ} → Searched text at lines → FirstLine text at upto next → is_head (slice_range text at upto) ≡ true → IsFront text (record { upto = at; lines = lines })
found_part {text} {at} {upto} {next} {lines} s f head =
    let part : begins_part (lines_of (drop at text)) ≡ true = ap begins_part f.lines ∙ head in
    found s (λ n. none_in_front n (lines_of (drop at text)) part) (λ _. part)

pub found_none : {text : List ℕ} {at lines : ℕ} → Searched text at lines → length text ≤ at → IsFront text (record { upto = at; lines = lines })
unfolding cut_from
found_none {text} {at} {lines} s past =
    found s (λ n. ap (λ (l : List ℕ). (cut_from n (lines_of l)).front) (drop_all at text past)) (λ lt. absurd (omega arith))

-- ---- the part that a text begins with

-- its first line alone
pub head_alone : {text : List ℕ} {upto body : ℕ} → FirstLine text 0 upto body → lines_of (take body text) ≡ first_line (take body text) ∷ []
head_alone {text} {upto} {body} f =
    let one : lines_of (take body text) ≡ slice_range text 0 upto ∷ [] = line_more (at_start refl) f in
    one ∙ ap (λ (l : List ℕ). l ∷ []) (sym (ap (λ (l : List (List ℕ)). slice_index_or l 0 []) one))

-- that part, and those behind it
pub part_first : {text : List ℕ} {upto body : ℕ} {f : Front} (n : ℕ) → begins_part (lines_of text) ≡ true → FirstLine text 0 upto body → IsFront (slice_range text body (length text)) f
    → (cut_from n (lines_of text)).parts ≡ (record { number = n; head = first_line (take body text); lines = lines_of (slice_range text body (body + f.upto)) }) ∷ (cut_from (n + (f.lines + 1)) (lines_of (drop (body + f.upto) text))).parts
part_first {text} {upto} {body} {f} n begins first searched =
    let line = slice_range text 0 upto in
    let rest = lines_of (drop body text) in
    let last = lines_of (drop f.upto (drop body text)) in
    let head : is_head line ≡ true = ap begins_part (sym first.lines) ∙ begins in
    let one : lines_of (take body text) ≡ line ∷ [] = line_more (at_start refl) first in
    let named : line ≡ first_line (take body text) = sym (ap (λ (l : List (List ℕ)). slice_index_or l 0 []) one) in
    let size : f.upto ≡ body + f.upto - body = omega arith in
    let slice : take f.upto (drop body text) ≡ slice_range text body (body + f.upto) = ap (λ (k : ℕ). take k (drop body text)) size in
    let count : n + 1 + f.lines ≡ n + (f.lines + 1) = omega arith in
    let tail : drop f.upto (drop body text) ≡ drop (body + f.upto) text = drop-drop f.upto body text in
    let front : IsFront (drop body text) f = subst (λ (t : List ℕ). IsFront t f) (between_to_end text body (length text) (omega arith)) searched in
    ap (λ (l : List (List ℕ)). (cut_from n l).parts) first.lines
    ∙ ap (λ (c : Cut). c.parts) (line_begins n line rest head)
    ∙ ap (λ (c : Cut). (record { number = n; head = line; lines = c.front }) ∷ c.parts) (front.cut (n + 1))
    ∙ ap (λ (h : List ℕ). (record { number = n; head = h; lines = lines_of (take f.upto (drop body text)) }) ∷ (cut_from (n + 1 + f.lines) last).parts) named
    ∙ ap (λ (l : List ℕ). (record { number = n; head = first_line (take body text); lines = lines_of l }) ∷ (cut_from (n + 1 + f.lines) last).parts) slice
    ∙ ap (λ (k : ℕ). (record { number = n; head = first_line (take body text); lines = lines_of (slice_range text body (body + f.upto)) }) ∷ (cut_from k last).parts) count
    ∙ ap (λ (l : List ℕ). (record { number = n; head = first_line (take body text); lines = lines_of (slice_range text body (body + f.upto)) }) ∷ (cut_from (n + (f.lines + 1)) (lines_of l)).parts) tail

-- The part is read, or refused, and so are all zones from it on.
pub zones_more : (earlier : List Zone) (parts rest : List Part) (part : Part) (z : Zone) → parts ≡ part ∷ rest → part_says earlier part ≡ Ok z → zones_from earlier parts ≡ zones_from (earlier ++ z ∷ []) rest
unfolding zones_from
zones_more earlier parts rest part z e said = ap (zones_from earlier) e ∙ ap (λ (r : Result Zone (Refused ZoneKind)). r >>= (λ (x : Zone). zones_from (earlier ++ x ∷ []) rest)) said

pub zones_refused : (earlier : List Zone) (parts rest : List Part) (part : Part) (e : Refused ZoneKind) → parts ≡ part ∷ rest → part_says earlier part ≡ Err e → zones_from earlier parts ≡ Err e
unfolding zones_from
zones_refused earlier parts rest part e is said = ap (zones_from earlier) is ∙ ap (λ (r : Result Zone (Refused ZoneKind)). r >>= (λ (x : Zone). zones_from (earlier ++ x ∷ []) rest)) said

-- a refusal of the part is one of the text
pub part_stops : (text : List ℕ) (n : ℕ) (earlier new : List Zone) (rest : List Part) (part : Part) (e : ZoneRefusal) → (cut_from n (lines_of text)).parts ≡ part ∷ rest → Reads {A = Zone} (Err e) (λ (z : Zone). z) (part_says earlier part) → ReadsPart text n earlier new (Err e)
part_stops text n earlier new rest part e is said = λ told. zones_refused earlier (cut_from n (lines_of text)).parts rest part (record { line = e.line; kind = e.kind }) is (said told)

-- ---- all parts

pub zones_end : (text : List ℕ) (at n : ℕ) (zones : List Zone) → length text ≤ at → zones_from zones (cut_from n (lines_of (drop at text))).parts ≡ Ok zones
unfolding zones_from cut_from
zones_end text at n zones past = ap (λ (l : List ℕ). zones_from zones (cut_from n (lines_of l)).parts) (drop_all at text past)

pub zones_begin : (text : List ℕ) → begins_part (lines_of text) ≡ true → zones_of (lines_of text) ≡ zones_from [] (cut_from 1 (lines_of text)).parts
unfolding zones_of
zones_begin text e = ap (λ (b : Bool). cond b (zones_from [] (cut_from 1 (lines_of text)).parts) (refused 1 BadToken)) e

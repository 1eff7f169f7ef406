-- The lines of a zone, one by one.
use Rattle.std.proofs.Common.{◌≡◌, ◌∙◌, ◌⊎◌, ℕ, ◌+◌, ◌<◌, ◌≤◌, ◌^◌, Bool, true, false, List, [], ◌∷◌, ◌++◌, length, take, drop, Some, sym, ap, arith, append-nil, append_assoc, length-append, subst, take-append-drop}
use Rattle.std.proofs.lemmas.List.{drop_all, length-take-le, take_all}
use Rattle.std.specs.List.{list_any}
use Rattle.job_model.specs.Jobs.{is_cut, script_lines, script_start, zone_lines}
use Rattle.zone_model.specs.Lines.{lines_of}
use Rattle.session_lines.specs.Taking.{line_end}
use Rattle.session_talk.specs.Answering.{IsFed}
use Rattle.session_talk.proofs.FedLaws.{count_inside, fed_line, front-of, lines_behind, one_line, rest-of}
use Rattle.live_session.specs.Zones.{CutOff, EndsZone, HasTaken, IsCutFront, IsLongZone, IsWholeFront, IsZoneSoFar, WantsLine, has_cut}
use Rattle.live_session.specs.declared.zone.ZoneBytes.{ZoneBytes}
use Rattle.live_session.proofs.CutLaws.{any_here, cut_of, cut_parts, some_line, uncut_more, uncut_parts}

-- a front of a line more
behind : (zone bytes : List ℕ) (count : ℕ) → zone ++ bytes ≡ (zone ++ take count bytes) ++ drop count bytes
behind zone bytes count = ap (λ (l : List ℕ). zone ++ l) (sym (take-append-drop count bytes)) ∙ sym (append_assoc zone (take count bytes) (drop count bytes))

-- a line of the zone was taken
pub one_more : (z new : ZoneBytes) (bytes : List ℕ) (count : ℕ) → IsZoneSoFar z → line_end bytes ≡ Some count → HasTaken z new (take count bytes) false → IsZoneSoFar new
one_more z new bytes count s e h =
    let inside = count_inside bytes count e in
    let one = one_line bytes count e in
    let same : new.bytes.items ≡ z.bytes.items ++ take count bytes = h.1 in
    let lines : lines_of new.bytes.items ≡ lines_of z.bytes.items ++ (one.0 ∷ []) = ap lines_of same ∙ lines_behind z.bytes.items (take count bytes) s.fed ∙ ap (λ (l : List (List ℕ)). lines_of z.bytes.items ++ l) one.1 in
    let more : length (lines_of new.bytes.items) ≡ length (lines_of z.bytes.items) + 1 = ap (λ (l : List (List ℕ)). length l) lines ∙ length-append (lines_of z.bytes.items) (one.0 ∷ []) in
    let size : length new.bytes.items ≡ length z.bytes.items + length (take count bytes) = ap (λ (l : List ℕ). length l) same ∙ length-append z.bytes.items (take count bytes) in
    let short : length (take count bytes) ≡ count = length-take-le count bytes inside.1 in
    record {
      fed = subst IsFed (sym same) (fed_line z.bytes.items bytes count e);
      uncut = ap has_cut same ∙ uncut_more z.bytes.items (take count bytes) s.fed s.uncut h.0;
      counted = omega (arith, s.counted, more, h.2);
      few = omega (arith, s.few, size, short, inside.0, h.2);
      short = h.3;
    }

pub one_more_same : (z new : ZoneBytes) (bytes all : List ℕ) (count : ℕ) → HasTaken z new (take count bytes) false → z.bytes.items ++ bytes ≡ all → new.bytes.items ++ drop count bytes ≡ all
one_more_same z new bytes all count h e = ap (λ (l : List ℕ). l ++ drop count bytes) h.1 ∙ sym (behind z.bytes.items bytes count) ∙ e

-- the line behind the zone was taken
pub cut_taken : (z new : ZoneBytes) (bytes all : List ℕ) (count : ℕ) → IsZoneSoFar z → line_end bytes ≡ Some count → HasTaken z new (take count bytes) true → z.bytes.items ++ bytes ≡ all → CutOff new all (drop count bytes)
cut_taken z new bytes all count s e h same =
    let one = one_line bytes count e in
    let items : new.bytes.items ≡ z.bytes.items = h.1 in
    record {
      line = take count bytes;
      is = sym same ∙ behind z.bytes.items bytes count ∙ ap (λ (l : List ℕ). (l ++ take count bytes) ++ drop count bytes) (sym items);
      one = (one.0, one.1, sym (cut_of (take count bytes) one.0 one.1) ∙ h.0);
      line_fed = fed_line [] bytes count e;
      whole = fed_line new.bytes.items bytes count e;
      fed = subst IsFed (sym items) s.fed;
      uncut = ap has_cut items ∙ s.uncut;
      counted = h.2 ∙ ap (λ (n : ℕ). n + 1) s.counted ∙ ap (λ (l : List ℕ). length (lines_of l) + 1) (sym items);
      few = (let n = ap (λ (l : List ℕ). length l) items in omega (arith, s.few, h.2, n));
      short = (let n = ap (λ (l : List ℕ). length l) items in omega (arith, s.short, n));
    }

-- a zone that is too long
pub long_by : (z : ZoneBytes) (bytes all : List ℕ) (count : ℕ) → IsZoneSoFar z → z.bytes.items ++ bytes ≡ all → (2 ^ 24 < length (z.bytes.items ++ take count bytes)) × (has_cut (take count bytes) ≡ false) → IsLongZone all
long_by z bytes all count s same h = record {
  front = z.bytes.items ++ take count bytes;
  rest = drop count bytes;
  is = sym same ∙ behind z.bytes.items bytes count;
  over = h.0;
  uncut = uncut_more z.bytes.items (take count bytes) s.fed s.uncut h.1;
}

-- memory was wanted for a line of the zone, which is left where it lies
pub wants_line : (old new bytes left all : List ℕ) (count : ℕ) → new ≡ old → left ≡ bytes → has_cut old ≡ false → all ≡ old ++ bytes → ((line_end bytes ≡ Some count) ⊎ (length bytes ≡ count))
    → (length old + count ≤ 2 ^ 24) × (has_cut (take count bytes) ≡ false) → WantsLine new left all
wants_line old new bytes left all count z b uncut is next h =
    let w : WantsLine old bytes all = record { is = is; uncut = uncut; count = count; next = next; line_uncut = h.1; short = h.0 } in
    subst (λ (l : List ℕ). WantsLine l left all) (sym z) (subst (λ (l : List ℕ). WantsLine old l all) (sym b) w)

-- ---- the whole zone

pub cut_front : (z : ZoneBytes) (bytes rest : List ℕ) (c : CutOff z bytes rest) → IsCutFront (z.bytes.items ++ c.line) z
cut_front z bytes rest c =
    let text = c.one.0 in
    let at = λ (more : List ℕ). cut_parts z.bytes.items c.line more text z.lines c.fed (lines_behind c.line more c.line_fed ∙ ap (λ (l : List (List ℕ)). l ++ lines_of more) c.one.1) c.one.2 c.uncut (some_line c.line text c.one.1) c.counted c.few in
    let lines : lines_of (z.bytes.items ++ c.line) ≡ lines_of z.bytes.items ++ text ∷ [] = lines_behind z.bytes.items c.line c.fed ∙ ap (λ (l : List (List ℕ)). lines_of z.bytes.items ++ l) c.one.1 in
    record {
      fed = c.whole;
      there = λ more. ap (λ (l : List (List ℕ)). list_any is_cut l) (lines_behind (z.bytes.items ++ c.line) more c.whole ∙ ap (λ (l : List (List ℕ)). l ++ lines_of more) lines ∙ append_assoc (lines_of z.bytes.items) (text ∷ []) (lines_of more))
          ∙ any_here (lines_of z.bytes.items) text (lines_of more) c.one.2;
      zone = λ more. sym (at more).zone ∙ ap lines_of (ap (take (length z.bytes.items)) (append_assoc z.bytes.items c.line more) ∙ front-of z.bytes.items (c.line ++ more));
      lines = λ more. sym (at more).script ∙ ap lines_of (rest-of (z.bytes.items ++ c.line) more);
      start = λ more. sym (at more).first;
    }

-- ---- no more comes

whole_front : (z : ZoneBytes) → has_cut z.bytes.items ≡ false → z.lines ≡ length (lines_of z.bytes.items) → z.lines ≤ length z.bytes.items → IsWholeFront z.bytes.items z
whole_front z uncut counted few =
    let at = uncut_parts z.bytes.items z.lines uncut counted few in
    record {
      zone = sym at.zone ∙ ap lines_of (take_all (length z.bytes.items) z.bytes.items (omega arith));
      lines = sym at.script ∙ ap lines_of (drop_all (length z.bytes.items) z.bytes.items (omega arith));
      start = sym at.first;
    }

-- the zone's lines alone
pub ends_alone : (z : ZoneBytes) (bytes : List ℕ) → bytes ≡ [] → IsZoneSoFar z → EndsZone z (z.bytes.items ++ bytes)
ends_alone z bytes none s = record {
  front = subst (λ (l : List ℕ). IsWholeFront l z) (sym (ap (λ (l : List ℕ). z.bytes.items ++ l) none ∙ append-nil z.bytes.items)) (whole_front z s.uncut s.counted s.few);
  short = s.short;
  few = omega (arith, s.few, s.short);
}

-- a last line more, of the zone or behind it
pub ends_line : (z new : ZoneBytes) (line text : List ℕ) (cuts : Bool) → IsZoneSoFar z → lines_of line ≡ text ∷ [] → HasTaken z new line cuts → EndsZone new (z.bytes.items ++ line)
ends_line z new line text false s one h =
    let lines : lines_of (z.bytes.items ++ line) ≡ lines_of z.bytes.items ++ text ∷ [] = lines_behind z.bytes.items line s.fed ∙ ap (λ (l : List (List ℕ)). lines_of z.bytes.items ++ l) one in
    let more : length (lines_of (z.bytes.items ++ line)) ≡ length (lines_of z.bytes.items) + 1 = ap (λ (l : List (List ℕ)). length l) lines ∙ length-append (lines_of z.bytes.items) (text ∷ []) in
    let same = ap (λ (l : List ℕ). length (lines_of l)) h.1 in
    let size : length new.bytes.items ≡ length z.bytes.items + length line = ap (λ (l : List ℕ). length l) h.1 ∙ length-append z.bytes.items line in
    let some = some_line line text one in
    let few : new.lines ≤ length new.bytes.items = omega (arith, s.few, h.2, size, some) in
    record {
      front = subst (λ (l : List ℕ). IsWholeFront l new) h.1 (whole_front new (ap has_cut h.1 ∙ uncut_more z.bytes.items line s.fed s.uncut h.0) (omega (arith, h.2, s.counted, more, same)) few);
      short = h.3;
      few = omega (arith, few, h.3);
    }
ends_line z new line text true s one h =
    let whole : (z.bytes.items ++ line) ++ [] ≡ z.bytes.items ++ line = append-nil (z.bytes.items ++ line) in
    let c : is_cut text ≡ true = sym (cut_of line text one) ∙ h.0 in
    let at = cut_parts z.bytes.items line [] text (z.lines + 1) s.fed (ap lines_of (append-nil line) ∙ one) c s.uncut (some_line line text one) (ap (λ (n : ℕ). n + 1) s.counted) (omega (arith, s.few)) in
    let items = ap (λ (l : List ℕ). length l) h.1 in
    record {
      front = record {
        zone = ap zone_lines (sym whole) ∙ sym at.zone ∙ ap lines_of (ap (take (length z.bytes.items)) (append_assoc z.bytes.items line []) ∙ front-of z.bytes.items (line ++ [])) ∙ ap lines_of (sym h.1);
        lines = ap script_lines (sym whole) ∙ sym at.script ∙ ap lines_of (rest-of (z.bytes.items ++ line) []);
        start = ap script_start (sym whole) ∙ sym at.first ∙ ap (λ (n : ℕ). n + 1) (sym h.2);
      };
      short = omega (arith, items, s.short);
      few = omega (arith, s.few, s.short, h.2);
    }

-- ---- by whether the line was the one behind the zone

pub one_more_by : (z new : ZoneBytes) (bytes : List ℕ) (count : ℕ) (cuts : Bool) → IsZoneSoFar z → line_end bytes ≡ Some count → cuts ≡ false → HasTaken z new (take count bytes) cuts → IsZoneSoFar new
one_more_by z new bytes count cuts s e c h = one_more z new bytes count s e (subst (HasTaken z new (take count bytes)) c h)

pub same_by : (z new : ZoneBytes) (bytes rest all : List ℕ) (count : ℕ) (cuts : Bool) → cuts ≡ false → HasTaken z new (take count bytes) cuts → rest ≡ drop count bytes → z.bytes.items ++ bytes ≡ all → new.bytes.items ++ rest ≡ all
same_by z new bytes rest all count cuts c h r e = ap (λ (l : List ℕ). new.bytes.items ++ l) r ∙ one_more_same z new bytes all count (subst (HasTaken z new (take count bytes)) c h) e

pub cut_by : (z new : ZoneBytes) (bytes rest all : List ℕ) (count : ℕ) (cuts : Bool) → IsZoneSoFar z → line_end bytes ≡ Some count → cuts ≡ true → HasTaken z new (take count bytes) cuts → rest ≡ drop count bytes → z.bytes.items ++ bytes ≡ all → CutOff new all rest
cut_by z new bytes rest all count cuts s e c h r same = subst (CutOff new all) (sym r) (cut_taken z new bytes all count s e (subst (HasTaken z new (take count bytes)) c h) same)

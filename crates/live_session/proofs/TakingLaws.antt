-- The zone, read by read.
use Rattle.std.proofs.Common.{◌≡◌, ◌∙◌, ℕ, ◌+◌, ◌<◌, ◌≤◌, ◌^◌, Bool, true, List, [], ◌++◌, length, refl, sym, ap, arith, inl, inr, append-nil, append_assoc, length-append}
use Rattle.std.specs.Prelude.{IsTrue}
use Rattle.session_lines.specs.Taking.{IsUnbroken, Pending}
use Rattle.session_talk.proofs.FedLaws.{last_one}
use Rattle.live_session.specs.Zones.{CutOff, IsLongZone, IsWithinZone, IsZoneSoFar, TookZone, WantsLine, WantsMemory}
use Rattle.live_session.specs.declared.zone.ZoneBytes.{ZoneBytes}
use Rattle.live_session.proofs.CutLaws.{long_uncut, uncut_more}
use Rattle.live_session.proofs.ZoneLaws.{cut_front}

pub within_zone : (z : ZoneBytes) (rest : List ℕ) → IsZoneSoFar z → IsUnbroken rest → IsWithinZone (z.bytes.items ++ rest)
within_zone z rest s unbroken = record { zone = z.bytes.items; rest = rest; is = refl; fed = s.fed; uncut = s.uncut; unbroken = unbroken }

-- the line that was begun is too long
pub long_rest : (z : ZoneBytes) (rest : List ℕ) → IsZoneSoFar z → IsUnbroken rest → 2 ^ 24 < length rest → IsLongZone (z.bytes.items ++ rest)
long_rest z rest s unbroken over =
    let some : 0 < length rest = omega (arith, over) in
    let one = last_one rest some unbroken in
    record {
      front = z.bytes.items ++ rest;
      rest = [];
      is = sym (append-nil (z.bytes.items ++ rest));
      over = (let n : length (z.bytes.items ++ rest) ≡ length z.bytes.items + length rest = length-append z.bytes.items rest in omega (arith, n, over));
      uncut = uncut_more z.bytes.items rest s.fed s.uncut (long_uncut rest one.0 one.1 over);
    }

-- the line behind the zone came
pub took_cut : (before given all : List ℕ) (ended : Bool) (pending : Pending) (z : ZoneBytes) → CutOff z all pending.bytes → given ≡ before ++ all → length all ≤ 2 ^ 25 + 2 ^ 16 → (pending.ended ≡ true → IsTrue ended) → TookZone before given ended pending z
took_cut before given all ended pending z c gave few told = record {
  front = z.bytes.items ++ c.line;
  gave = gave ∙ ap (λ (l : List ℕ). before ++ l) c.is ∙ sym (append_assoc before (z.bytes.items ++ c.line) pending.bytes);
  short = c.short;
  few = omega (arith, c.few, c.short);
  most = (let n : length all ≡ length (z.bytes.items ++ c.line) + length pending.bytes = ap (λ (l : List ℕ). length l) c.is ∙ length-append (z.bytes.items ++ c.line) pending.bytes in omega (arith, n, few));
  told = told;
  parts = inl (cut_front z all pending.bytes c);
}

-- memory was wanted for a line
pub wants_for_line : (before given zone pending all all' : List ℕ) → given ≡ before ++ all' → all ≡ all' → WantsLine zone pending all → WantsMemory before given pending
wants_for_line before given zone pending all all' gave same w = record { all = all; gave = gave ∙ ap (λ (l : List ℕ). before ++ l) (sym same); zone = zone; wants = inl w }

-- memory was wanted for what a read gave
pub wants_for_read : (before given now pending left more : List ℕ) (z : ZoneBytes) → given ≡ before ++ (z.bytes.items ++ pending) → now ≡ given ++ more → left ≡ pending → IsZoneSoFar z → length pending ≤ 2 ^ 24 → length given < length now
    → WantsMemory before now left
wants_for_read before given now pending left more z gave grew same s short some = record {
  all = (z.bytes.items ++ left) ++ more;
  gave = grew ∙ ap (λ (l : List ℕ). l ++ more) (gave ∙ ap (λ (l : List ℕ). before ++ (z.bytes.items ++ l)) (sym same)) ∙ append_assoc before (z.bytes.items ++ left) more;
  zone = z.bytes.items;
  wants = inr (
    more,
    record {
      is = refl;
      uncut = s.uncut;
      short = (let n = ap (λ (l : List ℕ). length l) same in omega (arith, n, short));
      some = (let n : length now ≡ length given + length more = ap (λ (l : List ℕ). length l) grew ∙ length-append given more in omega (arith, n, some));
    },
  );
}

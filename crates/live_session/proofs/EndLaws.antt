-- What a session behind its zone came to, of all its bytes.
use Rattle.std.proofs.Common.{◌≡◌, ◌∙◌, ◌⊎◌, ℕ, ◌+◌, ◌≤◌, Bool, true, List, [], ◌∷◌, ◌++◌, length, Option, Ok, refl, sym, ap, arith, inl, inr, append-nil, append_assoc, subst}
use Rattle.std.proofs.lemmas.List.{append_cancel_left}
use Rattle.std.specs.Prelude.{IsTrue}
use Rattle.zone_model.specs.Lines.{lines_of}
use Rattle.zone_model.specs.Names.{Name}
use Rattle.zone_model.specs.MasterFile.{zone_of}
use Rattle.zone_model.specs.Versions.{Version}
use Rattle.job_model.specs.Jobs.{script_lines, script_start, zone_lines}
use Rattle.job_model.specs.Sessions.{Answered, Ended, Step, all_said, first_session, session_lines}
use Rattle.job_model.specs.Sizes.{cell_count}
use Rattle.outer_io.specs.Bytes.{GrowsByFront, Held}
use Rattle.outer_io.proofs.GrowsLemmas.{Grows-nil}
use Rattle.qp_multi.specs.Openings.{room_in}
use Rattle.session_lines.specs.Taking.{Pending}
use Rattle.session_talk.specs.Answering.{AnswersLines, EndsLines, IsFed, Way}
use Rattle.session_talk.specs.Serving.{Finished, IsTooLong, Settled, Stands}
use Rattle.session_talk.specs.Workers.{Opened}
use Rattle.live_session.specs.Chunks.{ChunksFor}
use Rattle.live_session.specs.Dues.{Answers, Due, DueAt, DueBy, Ends, HasEnded, HasLongLine, HoldsFront, IsSettled, IsThere, Opens, lines_in}
use Rattle.live_session.specs.Zones.{IsCutFront, IsWholeFront, TookZone}
use Rattle.live_session.specs.declared.early.EarlyEnd.TheVariants as early
use Rattle.live_session.specs.declared.zone.ZoneBytes.{ZoneBytes}

-- bytes are this zone and lines behind it
pub record PartsAt (z : ZoneBytes) (bytes more : List ℕ) : Type 0 where
  pub zone : zone_lines bytes ≡ lines_of z.bytes.items
  pub lines : script_lines bytes ≡ lines_of more
  pub start : script_start bytes ≡ z.lines + 1

cut_at : (z : ZoneBytes) (front more : List ℕ) → IsCutFront front z → PartsAt z (front ++ more) more
cut_at z front more c = record { zone = c.zone more; lines = c.lines more; start = c.start more }

whole_at : (z : ZoneBytes) (front : List ℕ) → IsWholeFront front z → PartsAt z front []
whole_at z front w = record { zone = w.zone; lines = w.lines; start = w.start }

fed_append : (a b : List ℕ) → IsFed a → IsFed b → IsFed (a ++ b)
fed_append a b f (inl none) = subst IsFed (sym (append-nil a) ∙ ap (λ (l : List ℕ). a ++ l) (sym none)) f
fed_append a b f (inr fed) = inr (a ++ fed.0, ap (λ (l : List ℕ). a ++ l) fed.1 ∙ sym (append_assoc a fed.0 (10 ∷ [])))

nothing_left : (a b : List ℕ) → a ++ b ≡ [] → (a ≡ []) × (b ≡ [])
nothing_left [] b e = (refl, e)
nothing_left (x ∷ a) b e = absurd cc

module _ (asked : Option ℕ) (origin : Name) (chunks : ℕ) (zone : Version) (z : ZoneBytes) (read : zone_of origin (lines_of z.bytes.items) ≡ Ok zone) (number : ChunksFor asked (cell_count zone) chunks) where
  abbrev opened : Opened
  opened = record { chunks = chunks; origin = origin; zone = zone }

  pub opens_at : (bytes more : List ℕ) → PartsAt z bytes more → cell_count zone ≤ room_in chunks → Opens asked origin bytes opened
  opens_at bytes more p fits = record { origin_is = refl; zone = ap (zone_of origin) p.zone ∙ read; chunks = number; fits = fits }

  lines_at : (bytes more : List ℕ) → PartsAt z bytes more → session_lines origin (z.lines + 1) (lines_of more) first_session ≡ lines_in origin bytes
  lines_at bytes more p = ap (λ (n : ℕ). session_lines origin n (lines_of more) first_session) (sym p.start) ∙ ap (λ (l : List (List ℕ)). session_lines origin (script_start bytes) l first_session) (sym p.lines)

  answers_at : (bytes more text : List ℕ) → PartsAt z bytes more → cell_count zone ≤ room_in chunks → AnswersLines opened (z.lines + 1) more text → Answers asked origin bytes text
  answers_at bytes more text p fits a = record {
    opened = opened;
    opens = opens_at bytes more p fits;
    answered = subst (λ (s : Step). Answered chunks origin zone s.said text) (lines_at bytes more p) a;
  }

  ends_at : (bytes more text : List ℕ) (refused : Bool) → PartsAt z bytes more → cell_count zone ≤ room_in chunks → EndsLines opened (z.lines + 1) more refused text → Ends asked origin bytes refused text
  ends_at bytes more text refused p fits a = record {
    opened = opened;
    opens = opens_at bytes more p fits;
    ended = subst (λ (s : Step). Ended chunks origin zone (all_said s) refused text) (lines_at bytes more p) a;
  }

  module _ (before front : List ℕ) (held0 : Held) where
    abbrev pub way_on : Way
    way_on = record { given = before ++ front; held = held0; first = z.lines + 1; opened = opened }

    -- ---- the line behind the zone has come

    module _ (c : IsCutFront front z) (fits : cell_count zone ≤ room_in chunks) where
      regroup : (now done rest : List ℕ) → now ≡ ((before ++ front) ++ done) ++ rest → now ≡ before ++ ((front ++ done) ++ rest)
      regroup now done rest e = e ∙ ap (λ (l : List ℕ). l ++ rest) (append_assoc before front done) ∙ append_assoc before (front ++ done) rest

      due_cut : (done text : List ℕ) → AnswersLines opened (z.lines + 1) done text → Due asked origin (front ++ done) text
      due_cut done text a = subst (λ (b : Bool). DueBy b asked origin (front ++ done) text) (sym (c.there done)) (answers_at (front ++ done) done text (cut_at z front done c) fits a)

      pub settled_cut : (now : List ℕ) (held : Held) → Settled way_on now held → (bytes : List ℕ) × (now ≡ before ++ bytes) × IsSettled asked origin bytes held0 held
      settled_cut now held s = (
        (front ++ s.done) ++ s.rest,
        regroup now s.done s.rest s.gave,
        record { whole = front ++ s.done; rest = s.rest; is = refl; fed = fed_append front s.done c.fed s.fed; unbroken = s.unbroken; text = s.text; due = due_cut s.done s.text s.answers; grew = s.grew },
      )

      due_front : (ended : Bool) (done rest text : List ℕ) → (AnswersLines opened (z.lines + 1) done text ⊎ ((refused : Bool) × EndsLines opened (z.lines + 1) done refused text)) → DueAt asked origin (front ++ done) rest ended text
      due_front ended done rest text (inl a) = inr (inl (c.there done), inl (answers_at (front ++ done) done text (cut_at z front done c) fits a))
      due_front ended done rest text (inr e) = inr (inl (c.there done), inr (e.0, ends_at (front ++ done) done text e.0 (cut_at z front done c) fits e.1))

      pub stands_cut : (now : List ℕ) (held : Held) (ended : Bool) → Stands way_on now held → (bytes : List ℕ) × (now ≡ before ++ bytes) × HoldsFront asked origin bytes ended held0 held
      stands_cut now held ended s = (
        (front ++ s.lines) ++ s.rest,
        regroup now s.lines s.rest s.gave,
        record { first = front ++ s.lines; rest = s.rest; is = refl; text = s.text; due = due_front ended s.lines s.rest s.text s.due; grew = s.grew },
      )

      pub finished_cut : (now : List ℕ) (held : Held) (ended refused : Bool) → Finished way_on refused now held → (bytes : List ℕ) × (now ≡ before ++ bytes) × HasEnded asked origin bytes ended refused held0 held
      finished_cut now held ended refused s = (
        front ++ s.all,
        s.gave ∙ append_assoc before front s.all,
        record { there = inl (c.there s.all); text = s.text; ends = ends_at (front ++ s.all) s.all s.text refused (cut_at z front s.all c) fits s.ends; grew = s.grew },
      )

      pub too_long_cut : (now : List ℕ) (held : Held) (ended : Bool) → IsTooLong way_on now held → (bytes : List ℕ) × (now ≡ before ++ bytes) × HasLongLine asked origin bytes ended held0 held
      too_long_cut now held ended s = (
        (front ++ s.done) ++ s.rest,
        regroup now s.done s.rest s.gave,
        record {
          whole = front ++ s.done;
          rest = s.rest;
          is = refl;
          fed = fed_append front s.done c.fed s.fed;
          over = s.over;
          long = s.long;
          there = c.there s.done;
          text = s.text;
          answers = answers_at (front ++ s.done) s.done s.text (cut_at z front s.done c) fits s.answers;
          grew = s.grew;
        },
      )

    -- ---- the end of input has come

    module _ (w : IsWholeFront front z) (fits : cell_count zone ≤ room_in chunks) (ended : Bool) (told : IsTrue ended) where
      none_more : (done rest : List ℕ) → before ++ front ≡ ((before ++ front) ++ done) ++ rest → (done ≡ []) × (rest ≡ [])
      none_more done rest e = nothing_left done rest (append_cancel_left (before ++ front) (done ++ rest) [] (sym (e ∙ append_assoc (before ++ front) done rest) ∙ sym (append-nil (before ++ front))))

      due_whole : (done text : List ℕ) → done ≡ [] → (AnswersLines opened (z.lines + 1) done text ⊎ ((refused : Bool) × EndsLines opened (z.lines + 1) done refused text)) → DueAt asked origin front [] ended text
      due_whole done text none (inl a) = inr (inr (refl, told), inl (answers_at front [] text (whole_at z front w) fits (subst (λ (l : List ℕ). AnswersLines opened (z.lines + 1) l text) none a)))
      due_whole done text none (inr e) = inr (inr (refl, told), inr (e.0, ends_at front [] text e.0 (whole_at z front w) fits (subst (λ (l : List ℕ). EndsLines opened (z.lines + 1) l e.0 text) none e.1)))

      pub stands_whole : (held : Held) → Stands way_on (before ++ front) held → HoldsFront asked origin front ended held0 held
      stands_whole held s =
          let none = none_more s.lines s.rest s.gave in
          record { first = front; rest = []; is = sym (append-nil front); text = s.text; due = due_whole s.lines s.text none.0 s.due; grew = s.grew }

      pub finished_whole : (held : Held) (refused : Bool) → Finished way_on refused (before ++ front) held → HasEnded asked origin front ended refused held0 held
      finished_whole held refused s =
          let none : s.all ≡ [] = append_cancel_left (before ++ front) s.all [] (sym s.gave ∙ sym (append-nil (before ++ front))) in
          record {
            there = inr told;
            text = s.text;
            ends = ends_at front [] s.text refused (whole_at z front w) fits (subst (λ (l : List ℕ). EndsLines opened (z.lines + 1) l refused s.text) none s.ends);
            grew = s.grew;
          }

      pub not_long : (held : Held) → IsTooLong way_on (before ++ front) held → ⊥
      not_long held s = let none = none_more s.done s.rest s.gave in let n : length s.rest ≡ 0 = ap (λ (l : List ℕ). length l) none.1 in absurd (omega (arith, n, s.over))

-- ---- all ends

-- nothing was written
pub nothing_yet : (asked : Option ℕ) (origin : Name) (bytes : List ℕ) (ended : Bool) (before held : Held) → held ≡ before → HoldsFront asked origin bytes ended before held
nothing_yet asked origin bytes ended before held same = record {
  first = [];
  rest = bytes;
  is = refl;
  text = [];
  due = inl refl;
  grew = subst (λ (h : Held). GrowsByFront before h []) (sym same) (0, (let le : 0 ≤ 0 = omega arith in le), Grows-nil before);
}

module _ {before given : List ℕ} {ended0 : Bool} {pending : Pending} {z : ZoneBytes} (t : TookZone before given ended0 pending z) where
  -- the bytes that came with the zone
  abbrev pub came : List ℕ
  came = t.front ++ pending.bytes

  pub came_is : given ≡ before ++ (t.front ++ pending.bytes)
  came_is = t.gave ∙ append_assoc before t.front pending.bytes

  parts_by : (IsCutFront t.front z ⊎ ((pending.ended ≡ true) × (pending.bytes ≡ []) × IsWholeFront t.front z)) → PartsAt z (t.front ++ pending.bytes) pending.bytes
  parts_by (inl c) = cut_at z t.front pending.bytes c
  parts_by (inr w) = subst (λ (l : List ℕ). PartsAt z (t.front ++ l) l) (sym w.1) (subst (λ (l : List ℕ). PartsAt z l []) (sym (append-nil t.front)) (whole_at z t.front w.2))

  there_by : (IsCutFront t.front z ⊎ ((pending.ended ≡ true) × (pending.bytes ≡ []) × IsWholeFront t.front z)) → IsThere (t.front ++ pending.bytes) ended0
  there_by (inl c) = inl (c.there pending.bytes)
  there_by (inr w) = inr (t.told w.0)

  pub parts_came : PartsAt z (t.front ++ pending.bytes) pending.bytes
  parts_came = parts_by t.parts

  pub there_came : IsThere (t.front ++ pending.bytes) ended0
  there_came = there_by t.parts

  pub zone_came : zone_lines (t.front ++ pending.bytes) ≡ lines_of z.bytes.items
  zone_came = parts_came.zone

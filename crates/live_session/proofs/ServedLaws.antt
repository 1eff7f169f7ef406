-- What a session came to, of all its bytes, by how it ended.
use Rattle.std.proofs.Common.{◌≡◌, ◌∙◌, ◌⊎◌, ℕ, ◌+◌, ◌<◌, ◌≤◌, Bool, true, false, List, [], ◌++◌, Option, Result, Ok, Err, refl, sym, ap, inl, inr, append-nil, append_assoc, subst}
use Rattle.std.specs.Prelude.{IsTrue}
use Rattle.zone_model.specs.Lines.{lines_of}
use Rattle.zone_model.specs.Names.{Name}
use Rattle.zone_model.specs.MasterFile.{zone_of}
use Rattle.zone_model.specs.Versions.{Version}
use Rattle.job_model.specs.Sizes.{cell_count}
use Rattle.outer_io.specs.Bytes.{Held}
use Rattle.qp_multi.specs.Openings.{room_in}
use Rattle.session_lines.specs.Taking.{Pending}
use Rattle.live_session.specs.Chunks.{ChunksFor}
use Rattle.live_session.specs.Dues.{DoesNotFit}
use Rattle.live_session.specs.Ends.{EndedSo, ServedSo}
use Rattle.live_session.specs.Zones.{IsCutFront, IsWholeFront, TookZone}
use Rattle.live_session.specs.declared.early.EarlyEnd.{EarlyEnd}
use Rattle.live_session.specs.declared.early.EarlyEnd.TheVariants as early
use Rattle.live_session.specs.declared.zone.ZoneBytes.{ZoneBytes}
use Rattle.live_session.proofs.EndLaws.{came_is, finished_cut, finished_whole, not_long, nothing_yet, settled_cut, stands_cut, stands_whole, there_came, too_long_cut, way_on, zone_came}

module _ (asked : Option ℕ) (origin : Name) (chunks : ℕ) (zone : Version) (z : ZoneBytes) (read : zone_of origin (lines_of z.bytes.items) ≡ Ok zone) (number : ChunksFor asked (cell_count zone) chunks)
    (before given now : List ℕ) (held0 held : Held) (ended0 ended : Bool) (pending : Pending) (t : TookZone before given ended0 pending z) where
  unfit : (cells limit : ℕ) → cells ≡ cell_count zone → limit ≡ room_in chunks → limit < cells → DoesNotFit asked origin (t.front ++ pending.bytes) cells limit
  unfit cells limit a b lt = record {
    opened = record { chunks = chunks; origin = origin; zone = zone };
    origin_is = refl;
    zone = ap (zone_of origin) (zone_came t) ∙ read;
    chunks = number;
    cells_are = a;
    limit_is = b;
    over = lt;
  }

  -- of a session whose zone ends at the line behind it
  by_cut : IsCutFront t.front z → (r : Result Bool EarlyEnd) → ServedSo (way_on asked origin chunks zone z read number before t.front held0) given now held0 held r → (bytes : List ℕ) × (now ≡ before ++ bytes) × EndedSo asked origin bytes ended held0 held r
  by_cut c (Ok refused) s = finished_cut asked origin chunks zone z read number before t.front held0 c s.0 now held ended refused s.1
  by_cut c (Err early.LineTooLong) s = too_long_cut asked origin chunks zone z read number before t.front held0 c s.0 now held ended s.1
  by_cut c (Err early.TalkFault) s = settled_cut asked origin chunks zone z read number before t.front held0 c s.0 now held s.1
  by_cut c (Err early.SinkFault) (inl s) = stands_cut asked origin chunks zone z read number before t.front held0 c s.0 now held ended s.1
  by_cut c (Err early.SinkFault) (inr u) = (t.front ++ pending.bytes, u.0 ∙ came_is t, nothing_yet asked origin _ ended held0 held u.1)
  by_cut c (Err early.Memory) (inl s) = stands_cut asked origin chunks zone z read number before t.front held0 c s.0 now held ended s.1
  by_cut c (Err early.Memory) (inr u) = (t.front ++ pending.bytes, u.0 ∙ came_is t, nothing_yet asked origin _ ended held0 held u.1)
  by_cut c (Err (early.DoesNotFit cells limit)) s = (t.front ++ pending.bytes, s.3.0 ∙ came_is t, (unfit cells limit s.0 s.1 s.2, inl (c.there pending.bytes), s.3.1))
  by_cut c (Err (early.ZoneRefused refusal)) s = absurd s
  by_cut c (Err early.ZoneTooLong) s = absurd s

  -- of one whose zone ends at the end of input, behind which nothing was read
  module _ (w : IsWholeFront t.front z) (none : pending.bytes ≡ []) (told : IsTrue ended) (same : now ≡ given) where
    front_is : now ≡ before ++ t.front
    front_is = same ∙ t.gave ∙ ap (λ (l : List ℕ). (before ++ t.front) ++ l) none ∙ append-nil (before ++ t.front)

    by_whole : (r : Result Bool EarlyEnd) → (r ≡ Err early.TalkFault → ⊥) → ServedSo (way_on asked origin chunks zone z read number before t.front held0) given (before ++ t.front) held0 held r → EndedSo asked origin t.front ended held0 held r
    by_whole (Ok refused) n s = finished_whole asked origin chunks zone z read number before t.front held0 w s.0 ended told held refused s.1
    by_whole (Err early.LineTooLong) n s = absurd (not_long asked origin chunks zone z read number before t.front held0 w s.0 ended told held s.1)
    by_whole (Err early.TalkFault) n s = absurd (n refl)
    by_whole (Err early.SinkFault) n (inl s) = stands_whole asked origin chunks zone z read number before t.front held0 w s.0 ended told held s.1
    by_whole (Err early.SinkFault) n (inr u) = nothing_yet asked origin t.front ended held0 held u.1
    by_whole (Err early.Memory) n (inl s) = stands_whole asked origin chunks zone z read number before t.front held0 w s.0 ended told held s.1
    by_whole (Err early.Memory) n (inr u) = nothing_yet asked origin t.front ended held0 held u.1
    by_whole (Err (early.DoesNotFit cells limit)) n s =
        (subst (λ (l : List ℕ). DoesNotFit asked origin l cells limit) (ap (λ (l : List ℕ). t.front ++ l) none ∙ append-nil t.front) (unfit cells limit s.0 s.1 s.2), inr told, s.3.1)
    by_whole (Err (early.ZoneRefused refusal)) n s = absurd s
    by_whole (Err early.ZoneTooLong) n s = absurd s

  by_parts : (IsCutFront t.front z ⊎ ((pending.ended ≡ true) × (pending.bytes ≡ []) × IsWholeFront t.front z)) → (r : Result Bool EarlyEnd) → (pending.ended ≡ true → (now ≡ given) × IsTrue ended × (r ≡ Err early.TalkFault → ⊥))
      → ServedSo (way_on asked origin chunks zone z read number before t.front held0) given now held0 held r → (bytes : List ℕ) × (now ≡ before ++ bytes) × EndedSo asked origin bytes ended held0 held r
  by_parts (inl c) r unread s = by_cut c r s
  by_parts (inr w) r unread s =
      let u = unread w.0 in
      (t.front, front_is w.2 w.1 u.1 u.0, by_whole w.2 w.1 u.1 u.0 r u.2 (subst (λ (l : List ℕ). ServedSo (way_on asked origin chunks zone z read number before t.front held0) given l held0 held r) (front_is w.2 w.1 u.1 u.0) s))

  pub ended_so : (r : Result Bool EarlyEnd) → (pending.ended ≡ true → (now ≡ given) × IsTrue ended × (r ≡ Err early.TalkFault → ⊥)) → ServedSo (way_on asked origin chunks zone z read number before t.front held0) given now held0 held r
      → (bytes : List ℕ) × (now ≡ before ++ bytes) × EndedSo asked origin bytes ended held0 held r
  ended_so r unread s = by_parts t.parts r unread s

-- How a worker's run goes on at the table.
use Rattle.std.proofs.Common.{◌≡◌, ◌∙◌, ◌⊎◌, inl, inr, ⊎_elim, ℕ, ◌+◌, ◌-◌, ◌<◌, ◌≤◌, Bool, true, false, cond, eqb, List, [], ◌∷◌, ◌++◌, length, Option, Some, None, refl, sym, ap, subst, arith, length-append}
use Rattle.std.specs.List.{AllByRecursion, slice_get}
use Rattle.std.specs.Option.{option_map}
use Rattle.std.proofs.lemmas.Bool.{cases_eq}
use Rattle.std.proofs.lemmas.Bool.Decides.{nat_tests}
use Rattle.zone_model.specs.Names.{Name}
use Rattle.shared_cells.specs.Views.{is_told, with_pinned}
use Rattle.shared_cells.specs.History.{StartsWith, IsPartOf, entries_by, entry_of, version_after}
use Rattle.qp_multi.specs.declared.meaning.Operation.{Operation}
use Rattle.qp_multi.specs.Operations.{applied}
use Rattle.qp_multi.specs.Passes.{Known, first_version, version_seen}
use Rattle.job_commands.specs.Histories.{Commit, Entries, index_at, times_by}
use Rattle.job_commands.specs.Works.{IsNew}
use Rattle.job_commands.proofs.HistoryLaws.{begins_same, begins_more, begins_length, index_front, index_last, opened_same, part_same, by-push, times_front, times_past, times_there, times_else}
use Rattle.job_commands.proofs.WorkLaws.{all_weaker}
pub use Rattle.job_commands.proofs.WorkLaws.{Own}
use Rattle.dns_name.proofs.BodyLemmas.{all_push}
use Rattle.zones_model.specs.Outcomes as model
use Rattle.zones_model.specs.Tables.{Change, Attaches, Detaches}
use Rattle.zones_model.specs.declared.TableCause.{TableCause}
use Rattle.zones_model.specs.declared.TableCause.TheVariants.{Exists, Missing, Spent}
use Rattle.zone_table.specs.Locations.{IsZoneOf}
use Rattle.zones_threads.specs.Steps.{IsOrNot, Changes, Stays, ChangeEnds, TableGoes, cause_for, operation_for, other}
use Rattle.zones_threads.specs.Works.{AreApart, AreAttached, IsReplayed, Leads, LeadsBy, TableOpenedWith, TableWork, seen_behind}
use Rattle.zones_threads.proofs.ZoneForLaws.{zone_is}

-- ---- lists that grow

seen_behind-push : (seen : ℕ) (done : List model.CommandEnd) (d : model.CommandEnd) → seen_behind seen (done ++ d ∷ []) ≡ model.seen_after (seen_behind seen done) (model.table_told d)
seen_behind-push seen [] d = refl
seen_behind-push seen (x ∷ done) d = seen_behind-push (model.seen_after seen (model.table_told x)) done d

along-push : (origins : List Name) (attached : ℕ → ℕ → Bool) (seen : ℕ) (done : List model.CommandEnd) (d : model.CommandEnd) → model.Along origins attached seen done → model.EndsAtTable origins attached (seen_behind seen done) d → model.Along origins attached seen (done ++ d ∷ [])
along-push origins attached seen [] d l e = (e, tt)
along-push origins attached seen (x ∷ done) d l e = (l.0, along-push origins attached (model.seen_after seen (model.table_told x)) done d l.1 e)

pub times-append : (t : ℕ) (xs ys : List model.CommandEnd) → model.times_made t (xs ++ ys) ≡ model.times_made t xs + model.times_made t ys
times-append t [] ys = let e : model.times_made t ys ≡ 0 + model.times_made t ys = omega arith in e
times-append t (x ∷ xs) ys =
    ap (λ (n : ℕ). cond (model.made t (model.made_by x)) 1 0 + n) (times-append t xs ys)
    ∙ (let e : cond (model.made t (model.made_by x)) 1 0 + (model.times_made t xs + model.times_made t ys) ≡ (cond (model.made t (model.made_by x)) 1 0 + model.times_made t xs) + model.times_made t ys = omega arith in e)

times-push : (t : ℕ) (xs : List model.CommandEnd) (d : model.CommandEnd) (b : Bool) → model.made t (model.made_by d) ≡ b → model.times_made t (xs ++ d ∷ []) ≡ model.times_made t xs + cond b 1 0
times-push t xs d b e =
    times-append t xs (d ∷ []) ∙ ap (λ (x : Bool). model.times_made t xs + (cond x 1 0 + 0)) e
    ∙ (let z : model.times_made t xs + (cond b 1 0 + 0) ≡ model.times_made t xs + cond b 1 0 = omega arith in z)

-- ---- histories that grow

pub attached_front : (b : TableOpenedWith) (all part : List Commit) (attached : ℕ → ℕ → Bool) → StartsWith all part → AreAttached b all attached → AreAttached b part attached
attached_front b all part attached s are t le zone origin there =
    let long = begins_length all part s in
    subst (λ (es : Entries). IsOrNot (attached t zone) es origin) (index_front b.opening all part t s le) (are t (omega (arith, le, long)) zone origin there)

leads_as : (b : TableOpenedWith) (change : Change) (before before' after after' : Entries) → before ≡ before' → after ≡ after' → LeadsBy b change before after → LeadsBy b change before' after'
leads_as b change before before' after after' e f h = subst (LeadsBy b change before') f (subst (λ (es : Entries). LeadsBy b change es after) e h)

pub replayed_more : (b : TableOpenedWith) (all part : List Commit) → StartsWith all part → (m : Option (ℕ × Change)) → IsReplayed b part m → IsReplayed b all m
replayed_more b all part s None r = tt
replayed_more b all part s (Some m) r =
    let long = begins_length all part s in
    let le = r.1 in (
      r.0,
      omega (arith, le, long),
      leads_as b m.1 (index_at b.opening part (m.0 - 1)) (index_at b.opening all (m.0 - 1)) (index_at b.opening part m.0) (index_at b.opening all m.0)
          (sym (index_front b.opening all part (m.0 - 1) s (omega (arith, le)))) (sym (index_front b.opening all part m.0 s le)) r.2,
    )

-- ---- at first

pub table_start : (b : TableOpenedWith) (number : ℕ) (v : Known) → IsNew number b.opening v → TableWork b number v []
table_start b number v new = record {
  opened = new.opened;
  along = λ apart attached are. tt;
  none_above = tt;
  progress = omega arith;
  replayed = tt;
  asker = new.own;
  is_asker = new.is_own;
  numbered = new.numbered;
  committed = [];
  front = (v.seen.history, refl);
  mine = new.none;
  made = λ t. refl;
}

-- ---- one command more

pub told_more : (n m : ℕ) → n ≤ m → (o : Option ℕ) → model.IsTold n o → model.IsTold m o
told_more n m le None h = tt
told_more n m le (Some t) h = omega (arith, le, h)

module _ (b : TableOpenedWith) (number : ℕ) (v w : Known) (done : List model.CommandEnd) (d : model.CommandEnd) (told : is_told v.seen.opening ≡ true) (work : TableWork b number v done) (grows : IsPartOf w.seen v.seen) where
  longer : length v.seen.history ≤ length w.seen.history
  longer = begins_length w.seen.history v.seen.history grows.history

  pub opened_now : first_version w.seen ≡ b.opening
  opened_now = opened_same w.seen v.seen told grows ∙ work.opened

  none_above_more : model.IsTold (length w.seen.history) (model.table_told d) → AllByRecursion (λ x. model.IsTold (length w.seen.history) (model.table_told x)) (done ++ d ∷ [])
  none_above_more t = all_push (λ x. model.IsTold (length w.seen.history) (model.table_told x)) done d
      (all_weaker (λ x. model.IsTold (length v.seen.history) (model.table_told x)) (λ x. model.IsTold (length w.seen.history) (model.table_told x)) done (λ x h. told_more (length v.seen.history) (length w.seen.history) longer (model.table_told x) h) work.none_above) t

  replayed_all : IsReplayed b w.seen.history (model.made_by d) → AllByRecursion (λ x. IsReplayed b w.seen.history (model.made_by x)) (done ++ d ∷ [])
  replayed_all r = all_push (λ x. IsReplayed b w.seen.history (model.made_by x)) done d
      (all_weaker (λ x. IsReplayed b v.seen.history (model.made_by x)) (λ x. IsReplayed b w.seen.history (model.made_by x)) done (λ x h. replayed_more b w.seen.history v.seen.history grows.history (model.made_by x) h) work.replayed) r

  progress_next : (o : Option ℕ) → model.IsTold (length w.seen.history) o → model.seen_after (seen_behind 0 done) o ≤ length w.seen.history
  progress_next None h = (let s = work.progress in let l = longer in omega (arith, s, l))
  progress_next (Some t) h = h

  -- what it ends as is so on each history that begins with what is seen now
  abbrev Ends : Type 0
  Ends = AreApart b.origins → (attached : ℕ → ℕ → Bool) → AreAttached b w.seen.history attached → model.EndsAtTable b.origins attached (seen_behind 0 done) d

  along_more : Ends → AreApart b.origins → (attached : ℕ → ℕ → Bool) → AreAttached b w.seen.history attached → model.Along b.origins attached 0 (done ++ d ∷ [])
  along_more ends apart attached are =
      along-push b.origins attached 0 done d (work.along apart attached (attached_front b w.seen.history v.seen.history attached grows.history are)) (ends apart attached are)

  -- no version was made
  pub table_stays : model.made_by d ≡ None → model.IsTold (length w.seen.history) (model.table_told d) → Ends → (now : Own) → w.pass ≡ Some now → now.number ≡ work.asker.number → now.entries ≡ work.asker.entries → TableWork b number w (done ++ d ∷ [])
  table_stays none at ends now is_now same_number same_entries = record {
    opened = opened_now;
    along = along_more ends;
    none_above = none_above_more at;
    progress = subst (λ (n : ℕ). n ≤ length w.seen.history) (sym (seen_behind-push 0 done d)) (progress_next (model.table_told d) at);
    replayed = replayed_all (subst (IsReplayed b w.seen.history) (sym none) tt);
    asker = now;
    is_asker = is_now;
    numbered = same_number ∙ work.numbered;
    committed = work.committed;
    front = begins_more w.seen.history v.seen.history work.committed grows.history work.front;
    mine = same_entries ∙ work.mine ∙ ap (λ (n : ℕ). entries_by n work.committed) (sym same_number);
    made = λ t. times-push t done d false (ap (model.made t) none) ∙ (let z : model.times_made t done + 0 ≡ model.times_made t done = omega arith in z) ∙ work.made t
        ∙ ap (λ (n : ℕ). times_by n t work.committed) (sym same_number);
  }

  -- this pass made one
  module _ (table : ℕ) (change : Change) (operations : List Operation) (base : List Commit) (made : model.made_by d ≡ Some (table, change)) (before : StartsWith base v.seen.history) (mine : work.asker.entries ≡ entries_by work.asker.number base)
      (history : w.seen.history ≡ base ++ entry_of work.asker.number operations ∷ []) (numbered : table ≡ length base + 1) where
    now_long : length w.seen.history ≡ length base + 1
    now_long = ap length history ∙ length-append base (entry_of work.asker.number operations ∷ [])

    base_front : StartsWith w.seen.history base
    base_front = (entry_of work.asker.number operations ∷ [], history)

    was_front : StartsWith base work.committed
    was_front = begins_more base v.seen.history work.committed before work.front

    same_times : (t : ℕ) → times_by work.asker.number t base ≡ times_by work.asker.number t work.committed
    same_times t = times_front work.asker.number t base work.committed was_front (sym mine ∙ work.mine)

    made_at : (t : ℕ) → model.times_made t (done ++ d ∷ []) ≡ times_by work.asker.number t w.seen.history
    made_at t = elim (cases_eq t table) [
      | inl e ↦
          let here : model.made t (model.made_by d) ≡ true = ap (model.made t) made ∙ (let x : eqb table t ≡ true = grind (arith, nat_tests) in x) in
          let past : length base < t = omega (arith, e, numbered) in
          let none : model.times_made t done ≡ 0 = work.made t ∙ sym (same_times t) ∙ times_past work.asker.number t base past in
          times-push t done d true here ∙ (let z : model.times_made t done + 1 ≡ 1 = omega (arith, none) in z)
          ∙ sym (ap (times_by work.asker.number t) history ∙ times_there work.asker.number t base operations (omega (arith, e, numbered)))
      | inr m ↦
          let here : model.made t (model.made_by d) ≡ false = ap (model.made t) made ∙ (let x : eqb table t ≡ false = grind (arith, nat_tests) in x) in
          times-push t done d false here ∙ (let z : model.times_made t done + 0 ≡ model.times_made t done = omega arith in z) ∙ work.made t ∙ sym (same_times t)
          ∙ sym (ap (times_by work.asker.number t) history ∙ times_else work.asker.number t base (entry_of work.asker.number operations) (λ e. m (omega (arith, e, numbered))))
    ]

    -- the versions before and behind it
    base_at : index_at b.opening w.seen.history (table - 1) ≡ version_after applied b.opening base
    base_at =
        let last : table - 1 ≡ length base = omega (arith, numbered) in
        index_front b.opening w.seen.history base (table - 1) base_front (omega (arith, last)) ∙ index_last b.opening base (table - 1) last

    now_at : index_at b.opening w.seen.history table ≡ version_after applied b.opening w.seen.history
    now_at = index_last b.opening w.seen.history table (let l = now_long in omega (arith, numbered, l))

    pub table_adds : w.pass ≡ Some (record work.asker { entries = work.asker.entries ++ entry_of work.asker.number operations ∷ [] }) → LeadsBy b change (version_after applied b.opening base) (version_after applied b.opening w.seen.history)
        → model.table_told d ≡ Some table → Ends → TableWork b number w (done ++ d ∷ [])
    table_adds pass leads told_it ends =
        let long = now_long in
        let at : model.IsTold (length w.seen.history) (model.table_told d) = subst (model.IsTold (length w.seen.history)) (sym told_it) (let z : table ≤ length w.seen.history = omega (arith, numbered, long) in z) in
        record {
          opened = opened_now;
          along = along_more ends;
          none_above = none_above_more at;
          progress = subst (λ (n : ℕ). n ≤ length w.seen.history) (sym (seen_behind-push 0 done d)) (progress_next (model.table_told d) at);
          replayed = replayed_all (subst (IsReplayed b w.seen.history) (sym made) (
            (let z : 0 < table = omega (arith, numbered) in z),
            (let z : table ≤ length w.seen.history = omega (arith, numbered, long) in z),
            leads_as b change (version_after applied b.opening base) (index_at b.opening w.seen.history (table - 1)) (version_after applied b.opening w.seen.history) (index_at b.opening w.seen.history table) (sym base_at) (sym now_at) leads,
          ));
          asker = record work.asker { entries = work.asker.entries ++ entry_of work.asker.number operations ∷ [] };
          is_asker = pass;
          numbered = work.numbered;
          committed = w.seen.history;
          front = begins_same w.seen.history;
          mine = ap (λ (l : List Commit). l ++ entry_of work.asker.number operations ∷ []) mine ∙ sym (by-push work.asker.number base operations) ∙ ap (entries_by work.asker.number) (sym history);
          made = made_at;
        }

-- ---- what is attached

decided : (x y : Bool) (es : Entries) (origin : Name) → IsOrNot x es origin → IsOrNot y es origin → x ≡ y
decided true true es origin h k = refl
decided true false es origin h k = absurd (k h)
decided false true es origin h k = absurd (h k)
decided false false es origin h k = refl

turned : (attaches : Bool) → cond (other attaches) false true ≡ attaches
turned true = refl
turned false = refl

-- one commit more
pub version_push : (opening : Entries) (base : List Commit) (e : Commit) → version_after applied opening (base ++ e ∷ []) ≡ applied (version_after applied opening base) e.change
version_push opening [] e = refl
version_push opening (x ∷ base) e = version_push (applied opening x.change) base e

module _ (b : TableOpenedWith) (number : ℕ) (v w : Known) (done : List model.CommandEnd) (told : is_told v.seen.opening ≡ true) (work : TableWork b number v done) (grows : IsPartOf w.seen v.seen) where
  abbrev opened' : first_version w.seen ≡ b.opening
  opened' = opened_same w.seen v.seen told grows ∙ work.opened

  abbrev longer' : length v.seen.history ≤ length w.seen.history
  longer' = begins_length w.seen.history v.seen.history grows.history

  -- the version that was seen last
  last_at : (t : ℕ) → t ≡ length w.seen.history → index_at b.opening w.seen.history t ≡ version_seen w.seen
  last_at t e = index_last b.opening w.seen.history t e ∙ ap (λ (o : Entries). version_after applied o w.seen.history) (sym opened')

  attached_last : (attached : ℕ → ℕ → Bool) → AreAttached b w.seen.history attached → (t : ℕ) → t ≡ length w.seen.history → (zone : ℕ) (origin : Name) → slice_get b.origins zone ≡ Some origin → IsOrNot (attached t zone) (version_seen w.seen) origin
  attached_last attached are t e zone origin there = subst (λ (es : Entries). IsOrNot (attached t zone) es origin) (last_at t e) (are t (omega (arith, e)) zone origin there)

  -- a change that was refused
  refused_ends : (attaches : Bool) (zone table : ℕ) (cause : TableCause) (origin : Name) → slice_get b.origins zone ≡ Some origin → ChangeEnds attaches origin table (Some cause) v w → (attached : ℕ → ℕ → Bool) → AreAttached b w.seen.history attached
      → model.ChangeEnds (λ t. attached t zone) (other attaches) (cause_for attaches) (seen_behind 0 done) table (Some cause)
  refused_ends attaches zone table Exists origin there e attached are =
      let last = e.0.version in
      let seen : seen_behind 0 done ≤ table = (let s = work.progress in let l = longer' in omega (arith, s, l, last)) in
      (seen, e.1, decided (attached table zone) attaches (version_seen w.seen) origin (attached_last attached are table last zone origin there) e.2 ∙ sym (turned attaches))
  refused_ends attaches zone table Missing origin there e attached are =
      let last = e.0.version in
      let seen : seen_behind 0 done ≤ table = (let s = work.progress in let l = longer' in omega (arith, s, l, last)) in
      (seen, e.1, decided (attached table zone) attaches (version_seen w.seen) origin (attached_last attached are table last zone origin there) e.2 ∙ sym (turned attaches))
  refused_ends attaches zone table Spent origin there e attached are =
      let last = e.0.version in
      let seen : seen_behind 0 done ≤ table = (let s = work.progress in let l = longer' in omega (arith, s, l, last)) in
      (seen, e.1, decided (attached table zone) (other attaches) (version_seen w.seen) origin (attached_last attached are table last zone origin there) e.2)

  refused_stays : (attaches : Bool) (zone table : ℕ) (cause : TableCause) (origin : Name) → ChangeEnds attaches origin table (Some cause) v w → Stays table v w
  refused_stays attaches zone table Exists origin e = e.0
  refused_stays attaches zone table Missing origin e = e.0
  refused_stays attaches zone table Spent origin e = e.0

  -- a change that was made
  made_ends : (attaches : Bool) (zone table : ℕ) (origin : Name) → slice_get b.origins zone ≡ Some origin → Changes attaches origin table work.asker v w → (attached : ℕ → ℕ → Bool) → AreAttached b w.seen.history attached
      → model.ChangeEnds (λ t. attached t zone) (other attaches) (cause_for attaches) (seen_behind 0 done) table None
  made_ends attaches zone table origin there c attached are =
      let base_long = begins_length c.base v.seen.history c.before in
      let long : length w.seen.history ≡ length c.base + 1 = ap length c.history ∙ length-append c.base (entry_of work.asker.number (operation_for attaches origin ∷ []) ∷ []) in
      let seen : seen_behind 0 done < table = (let s = work.progress in let n = c.numbered in omega (arith, s, base_long, n)) in
      let last : table - 1 ≡ length c.base = (let n = c.numbered in omega (arith, n)) in
      let at : index_at b.opening w.seen.history (table - 1) ≡ version_after applied (first_version w.seen) c.base =
      index_front b.opening w.seen.history c.base (table - 1) (entry_of work.asker.number (operation_for attaches origin ∷ []) ∷ [], c.history) (omega (arith, last)) ∙ index_last b.opening c.base (table - 1) last ∙ ap (λ (o : Entries). version_after applied o c.base) (sym opened') in (
        seen,
        decided (attached (table - 1) zone) (other attaches) (version_after applied (first_version w.seen) c.base) origin
            (subst (λ (es : Entries). IsOrNot (attached (table - 1) zone) es origin) at (are (table - 1) (omega (arith, last, long)) zone origin there)) c.was,
      )

  made_leads : (attaches : Bool) (zone table : ℕ) (origin : Name) → slice_get b.origins zone ≡ Some origin → (c : Changes attaches origin table work.asker v w) → Leads b attaches zone (version_after applied b.opening c.base) (version_after applied b.opening w.seen.history)
  made_leads attaches zone table origin there c = record {
    origin = origin;
    there = there;
    makes = ap (version_after applied b.opening) c.history ∙ version_push b.opening c.base (entry_of work.asker.number (operation_for attaches origin ∷ []));
  }

  -- a question
  got_ends : (name : Name) (rtype table : ℕ) (shown : Option model.Shown) → table ≡ length w.seen.history → IsZoneOf b.origins (version_seen w.seen) name (option_map (λ s. s.zone) shown) → AreApart b.origins → (attached : ℕ → ℕ → Bool) → AreAttached b w.seen.history attached
      → model.EndsAtTable b.origins attached (seen_behind 0 done) (model.Got name rtype table shown)
  got_ends name rtype table shown last located apart attached are = (
    (let s = work.progress in let l = longer' in omega (arith, s, l, last)),
    zone_is b.origins apart (attached table) (version_seen w.seen) (λ zone origin there. attached_last attached are table last zone origin there) name (option_map (λ s. s.zone) shown) located,
  )

-- a pass that has looked is the one that it was, but for what it has pinned
looker : (v w : Known) (own : Own) (table : ℕ) → v.pass ≡ Some own → (w.pass ≡ v.pass) ⊎ (w.pass ≡ with_pinned v.pass table) → (now : Own) × (w.pass ≡ Some now) × (now.number ≡ own.number) × (now.entries ≡ own.entries)
looker v w own table is = ⊎_elim (λ same. (own, same ∙ is, refl, refl))
    (λ pinned. (record own { pinned = own.pinned ++ table ∷ [] }, pinned ∙ ap (λ (o : Option Own). with_pinned o table) is, refl, refl))

pub table_next : (b : TableOpenedWith) (number : ℕ) (v w : Known) (done : List model.CommandEnd) (d : model.CommandEnd) → is_told v.seen.opening ≡ true → TableWork b number v done → TableGoes b.origins d v w → TableWork b number w (done ++ d ∷ [])
table_next b number v w done (model.Got name rtype table shown) told work go =
    let p = go.0 in
    let l = looker v w work.asker table work.is_asker p.pass in
    table_stays b number v w done (model.Got name rtype table shown) told work p.grows refl (let e = p.version in omega (arith, e))
    (λ apart attached are. got_ends b number v w done told work p.grows name rtype table shown p.version go.1 apart attached are)
    l.0 l.1 l.2 l.3
table_next b number v w done (model.Ran zone x asked ending outcome) told work go =
    subst (λ (k : Known). TableWork b number k (done ++ model.Ran zone x asked ending outcome ∷ [])) (sym go)
    (table_stays b number v v done (model.Ran zone x asked ending outcome) told work (part_same v.seen told) refl tt (λ apart attached are. tt) work.asker work.is_asker refl refl)
table_next b number v w done (model.Attached zone table None) told work go =
    let c = go.ends work.asker work.is_asker in
    table_adds b number v w done (model.Attached zone table None) told work go.grows table (Attaches zone) (operation_for true go.origin ∷ []) c.base refl c.before c.mine c.history c.numbered c.pass
    (made_leads b number v w done told work go.grows true zone table go.origin go.there c) refl (λ apart attached are. made_ends b number v w done told work go.grows true zone table go.origin go.there c attached are)
table_next b number v w done (model.Detached zone table None) told work go =
    let c = go.ends work.asker work.is_asker in
    table_adds b number v w done (model.Detached zone table None) told work go.grows table (Detaches zone) (operation_for false go.origin ∷ []) c.base refl c.before c.mine c.history c.numbered c.pass
    (made_leads b number v w done told work go.grows false zone table go.origin go.there c) refl (λ apart attached are. made_ends b number v w done told work go.grows false zone table go.origin go.there c attached are)
table_next b number v w done (model.Attached zone table (Some cause)) told work go =
    let s = refused_stays b number v w done told work go.grows true zone table cause go.origin go.ends in
    table_stays b number v w done (model.Attached zone table (Some cause)) told work go.grows refl (let e = s.version in omega (arith, e))
    (λ apart attached are. refused_ends b number v w done told work go.grows true zone table cause go.origin go.there go.ends attached are) work.asker (s.pass ∙ work.is_asker) refl refl
table_next b number v w done (model.Detached zone table (Some cause)) told work go =
    let s = refused_stays b number v w done told work go.grows false zone table cause go.origin go.ends in
    table_stays b number v w done (model.Detached zone table (Some cause)) told work go.grows refl (let e = s.version in omega (arith, e))
    (λ apart attached are. refused_ends b number v w done told work go.grows false zone table cause go.origin go.there go.ends attached are) work.asker (s.pass ∙ work.is_asker) refl refl

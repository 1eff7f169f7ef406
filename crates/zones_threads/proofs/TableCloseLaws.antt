-- What all workers together have made of the table.
use Rattle.std.proofs.Common.{◌≡◌, ◌∙◌, ◌≢◌, inl, inr, ℕ, zero, suc, ◌+◌, ◌-◌, ◌<◌, ◌≤◌, Bool, true, false, cond, eqb, List, [], ◌∷◌, ◌++◌, length, map, Option, Some, None, refl, sym, ap, subst, arith}
use Rattle.std.specs.Prelude.{Contains}
use Rattle.std.specs.Option.{option_map}
use Rattle.std.specs.List.{AllByRecursion, slice_get}
use Rattle.std.proofs.lemmas.Bool.{cases_eq}
use Rattle.std.proofs.lemmas.Bool.Decides.{nat_tests}
use Rattle.std.proofs.lemmas.List.Elements.{All-contains}
use Rattle.zone_model.specs.Names.{Name, IsName}
use Rattle.dns_name.proofs.BodyLemmas.{all_append}
use Rattle.shared_cells.specs.History.{StartsWith, entries_by, version_after}
use Rattle.shared_cells.specs.Views.{number_of}
use Rattle.qp_multi.specs.Operations.{applied}
use Rattle.qp_multi.specs.Passes.{Known, first_version, version_seen}
use Rattle.qp_multi.specs.Closings.{AllSeen, Includes, AreAll, IsCommitOf, Ends}
use Rattle.job_commands.specs.Closings.{Some', AreApart as NumbersApart, IsPass, numbers_in}
use Rattle.job_commands.specs.Histories.{Commit, Entries, index_at, times_by}
use Rattle.job_commands.proofs.CloseLaws.{all_rec, apart, none_entries, part_entries, pass_of, seen_all, some_of}
use Rattle.job_commands.proofs.HistoryLaws.{begins_more, begins_length, index_last, times_front, times_past}
use Rattle.job_commands.proofs.JobLaws.{Author, HasEntries, author_of, no_commits, nothing_past, number_in, total, total_one}
use Rattle.job_commands.proofs.WorkLaws.{all_weaker}
use Rattle.zones_model.specs.Outcomes as model
use Rattle.zones_model.specs.Tables.{Change, Attaches, Detaches, attached_after, attached_count}
use Rattle.zone_table.specs.Tables.{IsAmong, IsTable, entry_for}
use Rattle.zone_table.proofs.KnownLaws.{part_of}
use Rattle.zone_table.proofs.Lists.{contains_at, each_in, some_is}
use Rattle.zones_threads.specs.Closings.{TableWorker, dones_in, worker_views}
use Rattle.zones_threads.specs.Steps.{IsOrNot, operation_for}
use Rattle.zones_threads.specs.Works.{AreApart, AreAttached, IsReplayed, Leads, LeadsBy, TableOpenedWith}
use Rattle.zones_threads.proofs.ChangeLaws.{other_same, itself_changed}
use Rattle.zones_threads.proofs.CountLaws.{attached_many}
use Rattle.zones_threads.proofs.TableLaws.{Own, attached_front, replayed_more, times-append, told_more}
use Rattle.zones_threads.proofs.ZoneForLaws.{once}

-- ---- all passes of the table were handed in

-- There is one history, which begins with what each pass has seen; of each pass it has just the commits that it made, and each is by one
-- of them.
pub record TableClosed (views : List Known) (history : List Commit) : Type 0 where
  pub begins : AllByRecursion (λ v. StartsWith history v.seen.history) views
  pub entries : AllByRecursion (λ v. (own : Own) → v.pass ≡ Some own → own.entries ≡ entries_by own.number history) views
  pub authors : (e : Commit) → Contains history e → Some' (IsPass e.author) views
  pub apart : NumbersApart (numbers_in views)

module _ (b : TableOpenedWith) (last : AllSeen) (main : Known) where
  all_entries : (ws : List (TableWorker b)) (own : Own) → main.pass ≡ Some own → own.entries ≡ [] → AllByRecursion (Includes last) (worker_views ws ++ main ∷ []) → AllByRecursion (HasEntries last.history) (worker_views ws ++ main ∷ [])
  all_entries [] own is none i = (none_entries last main own is none i.0, tt)
  all_entries (w ∷ ws) own is none i =
      let k = w.work in (part_entries last w.view k.asker k.committed k.is_asker k.front k.mine i.0, all_entries ws own is none i.1)

  pub table_closed : (count version : ℕ) (ws : List (TableWorker b)) (own : Own) → main.pass ≡ Some own → own.entries ≡ [] → Ends count (worker_views ws ++ main ∷ []) version last → AreAll count (worker_views ws ++ main ∷ []) → length (worker_views ws ++ main ∷ []) ≡ count
      → TableClosed (worker_views ws ++ main ∷ []) last.history
  table_closed count version ws own is none e all long =
      let views = worker_views ws ++ main ∷ [] in
      let each = all_rec (Includes last) views e.each in
      record {
        begins = (seen_all last views each).0;
        entries = all_entries ws own is none each;
        authors = λ x inside.
            let c = All-contains (IsCommitOf views) last.history x (e.commits all) inside in
            some_of (IsPass x.author) views c.0 c.1 (pass_of c.0 x.author c.2);
        apart = apart count views all long;
      }

-- ---- each version was made once

module _ (b : TableOpenedWith) (history : List Commit) (main : Known) where
  abbrev Views : List (TableWorker b) → List Known
  Views ws = worker_views ws ++ main ∷ []

  abbrev Sees : Known → Type 0
  Sees v = StartsWith history v.seen.history

  abbrev numbers : List (TableWorker b) → List ℕ
  numbers ws = map (λ (w : TableWorker b). w.number) ws

  abbrev Made : List (TableWorker b) → List model.CommandEnd
  Made ws = model.all_done (dones_in ws)

  whole_times : (w : TableWorker b) (t : ℕ) → HasEntries history w.view → Sees w.view → model.times_made t w.done ≡ times_by w.number t history
  whole_times w t entries sees =
      let k = w.work in
      let all = entries k.asker k.is_asker in
      k.made t
      ∙ sym (times_front k.asker.number t history k.committed (begins_more history w.view.seen.history k.committed sees k.front) (sym all ∙ k.mine))
      ∙ ap (λ (m : ℕ). times_by m t history) k.numbered

  all_times : (ws : List (TableWorker b)) (t : ℕ) → AllByRecursion (HasEntries history) (Views ws) → AllByRecursion Sees (Views ws) → model.times_made t (Made ws) ≡ total history t (numbers ws)
  all_times [] t e s = refl
  all_times (w ∷ ws) t e s =
      times-append t w.done (Made ws)
      ∙ ap (λ (k : ℕ). k + model.times_made t (Made ws)) (whole_times w t e.0 s.0)
      ∙ ap (λ (k : ℕ). times_by w.number t history + k) (all_times ws t e.1 s.1)

  among : (ws : List (TableWorker b)) (t : ℕ) (a : Author history t) (own : Own) → main.pass ≡ Some own → own.entries ≡ [] → AllByRecursion (HasEntries history) (Views ws) → Some' (IsPass a.commit.author) (Views ws) → Some' (λ n. n ≡ a.commit.author) (numbers ws)
  among [] t a own is none e (inl pass) = absurd (no_commits history t main own a is none e.0 pass)
  among [] t a own is none e (inr more) = absurd more
  among (w ∷ ws) t a own is none e (inl pass) = inl (sym w.work.numbered ∙ ap number_in (sym w.work.is_asker ∙ pass.1) ∙ pass.2)
  among (w ∷ ws) t a own is none e (inr more) = inr (among ws t a own is none e.1 more)

  worker_number : (w : TableWorker b) → number_of w.view.pass ≡ w.number + 1
  worker_number w = ap number_of w.work.is_asker ∙ ap (λ (i : ℕ). i + 1) w.work.numbered

  others_apart : (w : TableWorker b) (ws : List (TableWorker b)) → AllByRecursion (λ (y : ℕ). number_of w.view.pass ≢ y) (numbers_in (Views ws)) → AllByRecursion (λ n. w.number ≢ n) (numbers ws)
  others_apart w [] a = tt
  others_apart w (v ∷ vs) a = ((λ e. a.0 (worker_number w ∙ ap (λ (i : ℕ). i + 1) e ∙ sym (worker_number v))), others_apart w vs a.1)

  apart_numbers : (ws : List (TableWorker b)) → NumbersApart (numbers_in (Views ws)) → NumbersApart (numbers ws)
  apart_numbers [] a = tt
  apart_numbers (w ∷ ws) a = (others_apart w ws a.0, apart_numbers ws a.1)

  pub made_once : (ws : List (TableWorker b)) (own : Own) → main.pass ≡ Some own → own.entries ≡ [] → TableClosed (Views ws) history → (t : ℕ) → 0 < t → t ≤ length history → model.times_made t (Made ws) ≡ 1
  made_once ws own is none c t some le =
      let a = author_of history t some le in
      all_times ws t c.entries c.begins ∙ total_one history t (numbers ws) a (among ws t a own is none c.entries (c.authors a.commit a.inside)) (apart_numbers ws c.apart)

  -- ---- the history ends with what main has seen

  beyond : (ws : List (TableWorker b)) (t most : ℕ) → AllByRecursion (HasEntries history) (Views ws) → AllByRecursion Sees (Views ws) → AllByRecursion (λ (w : TableWorker b). length w.view.seen.history ≤ most) ws → most < t → total history t (numbers ws) ≡ 0
  beyond [] t most e s l past = refl
  beyond (w ∷ ws) t most e s l past =
      let k = w.work in
      let short = begins_length w.view.seen.history k.committed k.front in
      let long = l.0 in
      let beyond_it : length k.committed < t = omega (arith, short, long, past) in
      let none : times_by w.number t history ≡ 0 = sym (whole_times w t e.0 s.0) ∙ k.made t ∙ times_past k.asker.number t k.committed beyond_it in
      let rest : total history t (numbers ws) ≡ 0 = beyond ws t most e.1 s.1 l.1 past in
      omega (arith, none, rest)

  main_sees : (ws : List (TableWorker b)) → AllByRecursion Sees (Views ws) → Sees main
  main_sees [] s = s.0
  main_sees (w ∷ ws) s = main_sees ws s.1

  pub ends_there : (ws : List (TableWorker b)) (own : Own) → main.pass ≡ Some own → own.entries ≡ [] → AllByRecursion (λ (w : TableWorker b). StartsWith main.seen.history w.view.seen.history) ws → TableClosed (Views ws) history → history ≡ main.seen.history
  ends_there ws own is none learnt c =
      let s = main_sees ws c.begins in
      nothing_past history main.seen.history s (λ some past.
      let le : length history ≤ length history = omega arith in
      let one = made_once ws own is none c (length history) some le in
      let nothing = beyond ws (length history) (length main.seen.history) c.entries c.begins
      (all_weaker (λ (w : TableWorker b). StartsWith main.seen.history w.view.seen.history) (λ (w : TableWorker b). length w.view.seen.history ≤ length main.seen.history) ws (λ w s. begins_length main.seen.history w.view.seen.history s) learnt) past in
      absurd (let z : 1 ≡ 0 = sym one ∙ all_times ws (length history) c.entries c.begins ∙ nothing in cc))

  -- ---- which zones are attached

  all_replayed : (ws : List (TableWorker b)) → AllByRecursion Sees (Views ws) → AllByRecursion (λ d. IsReplayed b history (model.made_by d)) (Made ws)
  all_replayed [] s = tt
  all_replayed (w ∷ ws) s =
      all_append (λ d. IsReplayed b history (model.made_by d)) w.done (Made ws)
      (all_weaker (λ d. IsReplayed b w.view.seen.history (model.made_by d)) (λ d. IsReplayed b history (model.made_by d)) w.done (λ d h. replayed_more b history w.view.seen.history s.0 (model.made_by d) h) w.work.replayed)
      (all_replayed ws s.1)

  -- the change that made a version
  record Found (t : ℕ) (found : Option Change) : Type 0 where
    change : Change
    is : found ≡ Some change
    leads : LeadsBy b change (index_at b.opening history (t - 1)) (index_at b.opening history t)

  found_at : (t : ℕ) (all : List model.CommandEnd) → model.times_made t all ≡ 1 → AllByRecursion (λ d. IsReplayed b history (model.made_by d)) all → Found t (model.change_at t all)
  found_at t [] one r = absurd (let z : 0 ≡ 1 = one in cc)
  found_at t (d ∷ all) one r = by_made (model.made_by d) refl (model.made t (model.made_by d)) refl one (λ fewer. found_at t all fewer r.1)
    where
      by_made : (m : Option (ℕ × Change)) → model.made_by d ≡ m → (x : Bool) → model.made t m ≡ x → ◌≡◌ {A = ℕ} (cond (model.made t m) 1 0 + model.times_made t all) 1 → (model.times_made t all ≡ 1 → Found t (model.change_at t all))
          → Found t (cond (model.made t m) (option_map (λ y. y.1) m) (model.change_at t all))
      by_made None is true e one further = absurd (let z : false ≡ true = e in cc)
      by_made None is false e one further = further (let z : model.times_made t all ≡ 1 = omega (arith, one) in z)
      by_made (Some m) is true e one further =
          let same : m.0 ≡ t = (let x : eqb m.0 t ≡ true = e in grind (arith, nat_tests)) in
          let here' = subst (IsReplayed b history) is r.0 in
          subst (λ (x : Bool). Found t (cond x (Some m.1) (model.change_at t all))) (sym e) (record {
            change = m.1;
            is = refl;
            leads = subst (λ (n : ℕ). LeadsBy b m.1 (index_at b.opening history (n - 1)) (index_at b.opening history n)) same here'.2;
          })
      by_made (Some m) is false e one further =
          let fewer : model.times_made t all ≡ 1 = (let x : ◌≡◌ {A = ℕ} (cond (eqb m.0 t) 1 0) 0 = ap (λ (y : Bool). cond y 1 0) e in omega (arith, one, x)) in
          subst (λ (x : Bool). Found t (cond x (Some m.1) (model.change_at t all))) (sym e) (further fewer)

  -- a zone is attached behind a change, if it is the changed one and that is attached, or it is another and was before
  module _ (apart : AreApart b.origins) where
    led : (attaches : Bool) (changed zone : ℕ) (origin : Name) (was : Bool) (before after : Entries) → slice_get b.origins zone ≡ Some origin → Leads b attaches changed before after → IsOrNot was before origin → IsOrNot (cond (eqb changed zone) attaches was) after origin
    led attaches changed zone origin was before after there l h = elim (cases_eq changed zone) [
      | inl e ↦
          let test : eqb changed zone ≡ true = grind (arith, nat_tests) in
          let same : l.origin ≡ origin = some_is l.origin origin (sym (subst (λ (n : ℕ). slice_get b.origins n ≡ Some l.origin) e l.there) ∙ there) in
          subst (λ (x : Bool). IsOrNot (cond x attaches was) after origin) (sym test)
          (subst (λ (es : Entries). IsOrNot attaches es origin) (sym (l.makes ∙ ap (λ (o : Name). applied before (operation_for attaches o ∷ [])) same)) (itself_changed attaches origin before))
      | inr m ↦
          let test : eqb changed zone ≡ false = grind (arith, nat_tests) in
          let differ : origin ≢ l.origin = λ e. m (once b.origins apart.different changed zone origin (l.there ∙ ap Some (sym e)) there) in
          let named = each_in IsName b.origins apart.names l.origin (contains_at b.origins changed l.origin l.there) in
          let named_other = each_in IsName b.origins apart.names origin (contains_at b.origins zone origin there) in
          subst (λ (x : Bool). IsOrNot (cond x attaches was) after origin) (sym test)
          (subst (λ (es : Entries). IsOrNot was es origin) (sym l.makes) (other_same l.origin origin named named_other differ attaches was before h))
    ]

    after_change : (change : Change) (zone : ℕ) (origin : Name) (was : Bool) (before after : Entries) → slice_get b.origins zone ≡ Some origin → LeadsBy b change before after → IsOrNot was before origin → IsOrNot (attached_after (Some change) zone was) after origin
    after_change (Attaches changed) zone origin was before after there l h = led true changed zone origin was before after there l h
    after_change (Detaches changed) zone origin was before after there l h = led false changed zone origin was before after there l h

    pub attached_are : (all : List model.CommandEnd) → IsTable b.origins b.opening → AllByRecursion (λ d. IsReplayed b history (model.made_by d)) all → ((t : ℕ) → 0 < t → t ≤ length history → model.times_made t all ≡ 1) → AreAttached b history (model.attached_at all)
    attached_are all table r once' zero le zone origin there = (entry_for origin, table.all origin (contains_at b.origins zone origin there), refl)
    attached_are all table r once' (suc t) le zone origin there =
        let before = attached_are all table r once' t (omega arith) zone origin there in
        let f = found_at (suc t) all (once' (suc t) (omega arith) le) r in
        let one : suc t - 1 ≡ t = omega arith in
        subst (λ (c : Option Change). IsOrNot (attached_after c zone (model.attached_at all t zone)) (index_at b.opening history (suc t)) origin) (sym f.is)
        (after_change f.change zone origin (model.attached_at all t zone) (index_at b.opening history t) (index_at b.opening history (suc t)) there
        (subst (λ (n : ℕ). LeadsBy b f.change (index_at b.opening history n) (index_at b.opening history (suc t))) one f.leads) before)

    -- ---- all are lawful

    all_below : (ws : List (TableWorker b)) → AllByRecursion Sees (Views ws) → AllByRecursion (λ d. model.IsTold (length history) (model.table_told d)) (Made ws)
    all_below [] s = tt
    all_below (w ∷ ws) s =
        let long = begins_length history w.view.seen.history s.0 in
        all_append (λ d. model.IsTold (length history) (model.table_told d)) w.done (Made ws)
        (all_weaker (λ d. model.IsTold (length w.view.seen.history) (model.table_told d)) (λ d. model.IsTold (length history) (model.table_told d)) w.done (λ d h. told_more (length w.view.seen.history) (length history) long (model.table_told d) h) w.work.none_above)
        (all_below ws s.1)

    all_along : (ws : List (TableWorker b)) (attached : ℕ → ℕ → Bool) → AreAttached b history attached → AllByRecursion Sees (Views ws) → AllByRecursion (model.Along b.origins attached 0) (dones_in ws)
    all_along [] attached are s = tt
    all_along (w ∷ ws) attached are s = (w.work.along apart attached (attached_front b history w.view.seen.history attached s.0 are), all_along ws attached are s.1)

    pub table_lawful : (ws : List (TableWorker b)) (own : Own) → main.pass ≡ Some own → own.entries ≡ [] → IsTable b.origins b.opening → TableClosed (Views ws) history → model.TableLawful b.origins (dones_in ws) (length history)
    table_lawful ws own is none table c =
        let all_once = made_once ws own is none c in
        let are = attached_are (Made ws) table (all_replayed ws c.begins) all_once in
        record {
          once = all_once;
          none_above = all_below ws c.begins;
          along = all_along ws (model.attached_at (Made ws)) are c.begins;
        }

    -- and main's last version has as many zones as are attached then
    pub table_count : (ws : List (TableWorker b)) (own : Own) → main.pass ≡ Some own → own.entries ≡ [] → IsTable b.origins b.opening → TableClosed (Views ws) history → history ≡ main.seen.history → first_version main.seen ≡ b.opening → IsAmong (first_version main.seen) (version_seen main.seen)
        → length (version_seen main.seen) ≡ attached_count (model.attached_at (Made ws) (length history)) 0 b.origins
    table_count ws own is none table c same opened among' =
        let are = attached_are (Made ws) table (all_replayed ws c.begins) (made_once ws own is none c) in
        let at : index_at b.opening history (length history) ≡ version_seen main.seen =
        index_last b.opening history (length history) refl ∙ ap (version_after applied b.opening) same ∙ ap (λ (o : Entries). version_after applied o main.seen.history) (sym opened) in
        attached_many (model.attached_at (Made ws) (length history)) b.origins (version_seen main.seen) apart (part_of b.origins (first_version main.seen) (version_seen main.seen) (subst (IsTable b.origins) (sym opened) table) among')
        (λ zone origin there. subst (λ (es : Entries). IsOrNot (model.attached_at (Made ws) (length history) zone) es origin) at (are (length history) (omega arith) zone origin there))

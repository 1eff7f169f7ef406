-- What an ended index tells, where all its passes were handed in.
use Rattle.std.proofs.Common.{◌≡◌, ◌∙◌, ◌≢◌, inl, inr, ⊎_elim, ℕ, zero, suc, ◌+◌, ◌<◌, ◌≤◌, Bool, true, false, List, [], ◌∷◌, ◌++◌, length, map, Option, Some, None, refl, sym, ap, subst, arith, append_assoc, length-append, append-nil}
use Rattle.std.specs.Prelude.{Contains}
use Rattle.std.specs.List.{AllByRecursion}
use Rattle.std.proofs.lemmas.List.{length-map}
use Rattle.std.proofs.lemmas.List.Elements.{Contains-append_left, Contains-append_right, Contains-append_cases, All-contains}
pub use Rattle.std.proofs.lemmas.List.Elements.{recursion_from_All as all_rec}
use Rattle.pin_core.proofs.Lists.{contains_cases}
use Rattle.shared_cells.specs.History.{StartsWith, entries_by}
use Rattle.shared_cells.specs.Views.{number_of}
use Rattle.qp_multi.specs.Passes.{Known, pinned_in}
use Rattle.qp_multi.specs.Closings.{AllSeen, Includes, AreAll, IsCommitOf, IsNamingOf, Ends}
use Rattle.job_commands.specs.Histories.{OpenedWith, Commit}
use Rattle.job_commands.specs.Closings.{Some', AreApart, Worker, second_view, workers_views, views_of, numbers_in, IsPass, Closed, MainSees}
use Rattle.job_commands.proofs.HistoryLaws.{by-append, begins_more}
use Rattle.job_commands.proofs.JobLaws.{HasEntries, behind, here, there, second_all}
use Rattle.job_commands.proofs.WorkLaws.{Own}

-- ---- elements

each_rec : {A : Type 0} (P : A → Type 0) (xs : List A) → ((x : A) → Contains xs x → P x) → AllByRecursion P xs
each_rec P [] h = tt
each_rec P (x ∷ xs) h = (h x (here x xs), each_rec P xs (λ y c. h y (there x y xs c)))

pub some_of : {A : Type 0} (P : A → Type 0) (xs : List A) (x : A) → Contains xs x → P x → Some' P xs
some_of P [] x c p = absurd (let l = c.1 in omega arith)
some_of P (y ∷ ys) x c p = ⊎_elim (λ e. inl (subst P (sym e) p)) (λ more. inr (some_of P ys x more p)) (contains_cases y x ys c)

pub in_map : {A B : Type 0} (f : A → B) (xs : List A) (x : A) → Contains xs x → Contains (map f xs) (f x)
in_map f [] x c = absurd (let l = c.1 in omega arith)
in_map f (y ∷ ys) x c = ⊎_elim (λ (e : y ≡ x). subst (λ z. Contains (f y ∷ map f ys) (f z)) e (here (f y) (map f ys))) (λ more. there (f y) (f x) (map f ys) (in_map f ys x more)) (contains_cases y x ys c)

-- ---- as many numbers as there are, with all of them, are apart

abbrev Covers : ℕ → List ℕ → Type 0
Covers n xs = (m : ℕ) → m < n → Contains xs (m + 1)

record Around (x : ℕ) (xs : List ℕ) : Type 0 where
  before : List ℕ
  after : List ℕ
  whole : xs ≡ before ++ (x ∷ after)

around : (x : ℕ) (xs : List ℕ) → Contains xs x → Around x xs
around x [] c = absurd (let l = c.1 in omega arith)
around x (y ∷ ys) c = ⊎_elim (λ (e : y ≡ x). record { before = []; after = ys; whole = ap (λ (z : ℕ). z ∷ ys) e }) (λ more. further (around x ys more)) (contains_cases y x ys c)
  where
    further : Around x ys → Around x (y ∷ ys)
    further a = record { before = y ∷ a.before; after = a.after; whole = ap (λ (zs : List ℕ). y ∷ zs) a.whole }

-- one that isn't the one between them
beside : (x m : ℕ) (before after : List ℕ) → (x ≡ m → Contains (before ++ after) m) → Contains (before ++ (x ∷ after)) m → Contains (before ++ after) m
beside x m before after same c = ⊎_elim
    (λ (l : Contains before m). Contains-append_left before after m l)
    (λ (r : Contains (x ∷ after) m). ⊎_elim (λ (e : x ≡ m). same e) (λ (more : Contains after m). Contains-append_right before after m more) (contains_cases x m after r))
    (Contains-append_cases before (x ∷ after) m c)

cover_long : (n : ℕ) (xs : List ℕ) → Covers n xs → n ≤ length xs
cover_long zero xs c = omega arith
cover_long (suc n) xs c =
    let a = around (n + 1) xs (c n (omega arith)) in
    let fewer : Covers n (a.before ++ a.after) = λ m lt. beside (n + 1) (m + 1) a.before a.after (λ e. absurd (omega (arith, e, lt))) (subst (λ (l : List ℕ). Contains l (m + 1)) a.whole (c m (omega arith))) in
    let le = cover_long n (a.before ++ a.after) fewer in
    omega (arith, le, length-append a.before a.after, ap length a.whole, length-append a.before ((n + 1) ∷ a.after))

apart_from : (n : ℕ) (front back : List ℕ) → Covers n (front ++ back) → length (front ++ back) ≡ n → AreApart back
apart_from n front [] c e = tt
apart_from n front (x ∷ back) c e = (
  each_rec (λ (y : ℕ). x ≢ y) back (λ y inside same.
      let fewer : Covers n (front ++ back) = λ m lt. beside x (m + 1) front back (λ is. Contains-append_right front back (m + 1) (subst (Contains back) (sym same ∙ is) inside)) (c m lt) in
      let le = cover_long n (front ++ back) fewer in
      omega (arith, le, e, length-append front back, length-append front (x ∷ back))),
  apart_from n (front ++ x ∷ []) back (subst (Covers n) (sym (append_assoc front (x ∷ []) back)) c) (ap length (append_assoc front (x ∷ []) back) ∙ e),
)

pub apart : (count : ℕ) (views : List Known) → AreAll count views → length views ≡ count → AreApart (numbers_in views)
apart count views all e =
    apart_from count [] (map (λ (v : Known). number_of v.pass) views)
    (λ m lt. let v = all m lt in subst (Contains (map (λ (v : Known). number_of v.pass) views)) v.2 (in_map (λ (v : Known). number_of v.pass) views v.0 v.1))
    (length-map views (λ (v : Known). number_of v.pass) ∙ e)

-- ---- a pass's commits are all those that the history has of it

nothing_behind : {A : Type 0} (xs rest more : List A) → xs ≡ (xs ++ rest) ++ more → rest ≡ []
nothing_behind xs [] more e = refl
nothing_behind xs (r ∷ rest) more e = absurd (omega (arith, ap length e, length-append (xs ++ (r ∷ rest)) more, length-append xs (r ∷ rest)))

pub exact_entries : (author : ℕ) (own all committed : List Commit) → StartsWith own (entries_by author all) → own ≡ entries_by author committed → StartsWith all committed → own ≡ entries_by author all
exact_entries author own all committed more mine front =
    let parts : entries_by author all ≡ entries_by author committed ++ entries_by author front.0 = ap (entries_by author) front.1 ∙ by-append author committed front.0 in
    let none : entries_by author front.0 ≡ [] =
    nothing_behind (entries_by author committed) (entries_by author front.0) more.0 (sym mine ∙ more.1 ∙ ap (λ (l : List Commit). l ++ more.0) parts) in
    mine ∙ sym (parts ∙ ap (λ (l : List Commit). entries_by author committed ++ l) none ∙ append-nil (entries_by author committed))

pub pass_of : (v : Known) (number : ℕ) → number_of v.pass ≡ number + 1 → IsPass number v
pass_of v number e = by_pass v.pass refl e
  where
    by_pass : (p : Option Own) → v.pass ≡ p → number_of p ≡ number + 1 → IsPass number v
    by_pass None is h = absurd (omega arith)
    by_pass (Some own) is h = (own, is, omega arith)

module _ (last : AllSeen) where
  -- a pass that has committed nothing
  pub none_entries : (v : Known) (own : Own) → v.pass ≡ Some own → own.entries ≡ [] → Includes last v → HasEntries last.history v
  none_entries v own is none i = λ own' is'.
      let same : own'.entries ≡ [] = ap (λ (p : Option Own). entries_of p) (sym is' ∙ is) ∙ none in
      exact_entries own'.number own'.entries last.history [] (i.commits own' is') same (last.history, refl)
    where
      entries_of : Option Own → List Commit
      entries_of None = []
      entries_of (Some o) = o.entries

  -- one whose commits are those of a part that it has seen
  pub part_entries : (v : Known) (asker : Own) (committed : List Commit) → v.pass ≡ Some asker → StartsWith v.seen.history committed → asker.entries ≡ entries_by asker.number committed → Includes last v → HasEntries last.history v
  part_entries v asker committed is_asker front mine i = λ own is.
      let same : ◌≡◌ {A = Option Own} (Some asker) (Some own) = sym is_asker ∙ is in
      let one : asker ≡ own = cc in
      subst (λ (x : Own). x.entries ≡ entries_by x.number last.history) one
      (exact_entries asker.number asker.entries last.history committed (i.commits asker is_asker) mine (begins_more last.history v.seen.history committed i.seen.history front))

  pub seen_all : (views : List Known) → AllByRecursion (Includes last) views → AllByRecursion (λ (v : Known). StartsWith last.history v.seen.history) views × AllByRecursion (λ (v : Known). StartsWith last.namings v.seen.namings) views
  seen_all [] i = (tt, tt)
  seen_all (v ∷ views) i = let more = seen_all views i.1 in ((i.0.seen.history, more.0), (i.0.seen.namings, more.1))

module _ (s : OpenedWith) (last : AllSeen) (main : Known) where
  -- a fact of a worker's second pass, if it has one, and of all behind it
  with_second : (P : Known → Type 0) (two : Bool) (second : Known) (others : List Known) → (two ≡ true → P second) → AllByRecursion P (others ++ main ∷ []) → AllByRecursion P ((second_view two second ++ others) ++ main ∷ [])
  with_second P true second others here all = (here refl, all)
  with_second P false second others here all = all

  all_entries : (ws : List (Worker s)) (own : Own) → main.pass ≡ Some own → own.entries ≡ [] → AllByRecursion (Includes last) (views_of main ws) → AllByRecursion (HasEntries last.history) (views_of main ws)
  all_entries [] own is none i = (none_entries last main own is none i.0, tt)
  all_entries (w ∷ ws) own is none i = (
    (let k = w.ran.work in part_entries last w.worker_passes.asks k.asker k.committed k.is_asker k.front k.mine i.0),
    with_second (HasEntries last.history) w.has_second w.worker_passes.holds (workers_views ws)
        (λ two. none_entries last w.worker_passes.holds w.ran.work.holder w.ran.work.is_holder w.ran.work.none_held (second_all (Includes last) w.has_second w.worker_passes.holds (workers_views ws) main two i.1))
        (all_entries ws own is none (behind main (Includes last) w ws i)),
  )

  pub closed : (count version : ℕ) (ws : List (Worker s)) → MainSees main ws → Ends count (views_of main ws) version last → AreAll count (views_of main ws) → length (views_of main ws) ≡ count → Closed (views_of main ws) last.history last.namings
  closed count version ws m e all long =
      let each = all_rec (Includes last) (views_of main ws) e.each in
      let seen = seen_all last (views_of main ws) each in
      record {
        begins = seen.0;
        names = seen.1;
        entries = all_entries ws m.own m.is_own m.none each;
        authors = λ x inside.
            let c = All-contains (IsCommitOf (views_of main ws)) last.history x (e.commits all) inside in
            some_of (IsPass x.author) (views_of main ws) c.0 c.1 (pass_of c.0 x.author c.2);
        namers = λ n inside.
            let c = All-contains (IsNamingOf (views_of main ws)) last.namings n (e.namings all) inside in
            let p = pass_of c.0 n.pass c.2 in
            some_of (λ (v : Known). (own : Own) × (v.pass ≡ Some own) × (own.number ≡ n.pass) × Contains own.pinned n.version) (views_of main ws) c.0 c.1
            (p.0, p.1, p.2, subst (λ (o : Option Own). Contains (pinned_in o) n.version) p.1 c.3);
        apart = apart count (views_of main ws) all long;
      }

-- What passes that account for themselves tell of the end of an index.
use Rattle.std.proofs.Common.{◌≡◌, ◌∙◌, ℕ, ◌+◌, ◌<◌, ◌≤◌, ◌==◌, true, List, [], ◌∷◌, ◌++◌, length, take, get_or, Option, Some, None, inl, inr, refl, sym, ap, subst, arith, append-nil}
use Rattle.std.specs.List.{All, Contains}
use Rattle.std.proofs.lemmas.Bool.Decides.{eqb_tells}
use Rattle.std.proofs.lemmas.List.{append_assoc}
use Rattle.std.proofs.lemmas.List.Elements.{All-contains, All-take, All-nil, All-push, Contains-append_left, Contains-get_or, filter-append}
use Rattle.pin_core.proofs.Lists.{contains_filter}
use Rattle.atomic_table.specs.Seated.{TableId}
use Rattle.trie_model.specs.Keys.{Entry}
use Rattle.shared_cells.specs.declared.view.Entry.{Entry as Commit}
use Rattle.shared_cells.specs.declared.view.Naming.{Naming}
use Rattle.shared_cells.specs.declared.view.PassView.{PassView}
use Rattle.shared_cells.specs.History.{IsPartOf, OpeningFits, StartsWith, entries_by, nothing_seen}
use Rattle.shared_cells.specs.Views.{number_of, with_pinned}
use Rattle.shared_cells.specs.Steps.{Accounts}
use Rattle.shared_cells.proofs.Seats.{pass_there}
use Rattle.qp_multi.specs.declared.meaning.Operation.{Operation}
use Rattle.qp_multi.specs.Passes.{Known, Pinned, Learnt, commits_in, pinned_in}
use Rattle.qp_multi.specs.Closings.{AllSeen, Includes, IsThere, AreAll, IsCommitOf, IsNamingOf, IsOfTurn, Ends, Gathers}

module _ {A : Type 0} where
  begins_itself : (xs : List A) → StartsWith xs xs
  begins_itself xs = ([], sym (append-nil xs))

  begins_through : (xs ys zs : List A) → StartsWith xs ys → StartsWith ys zs → StartsWith xs zs
  begins_through xs ys zs s t = (t.0 ++ s.0, s.1 ∙ ap (λ (l : List A). l ++ s.0) t.1 ∙ append_assoc zs t.0 s.0)

  all_front : (P : A → Type 0) (xs ys : List A) → StartsWith xs ys → All P xs → All P ys
  all_front P xs ys s h = subst (All P) (ap (take_front (length ys)) s.1 ∙ front ys s.0) (All-take P (length ys) xs h)
    where
      take_front : ℕ → List A → List A
      take_front n l = take n l

      front : (ys zs : List A) → take (length ys) (ys ++ zs) ≡ ys
      front [] zs = refl
      front (y ∷ ys) zs = ap (λ (l : List A). y ∷ l) (front ys zs)

fits_through : (a b : Option (List Entry)) (bs c : AllSeen) (o : Option (List Entry)) → OpeningFits a b bs → OpeningFits b o c → OpeningFits a o c
fits_through a b bs c None f g = g
fits_through a b bs c (Some opening) f g = subst (λ (x : Option (List Entry)). OpeningFits a x bs) g f

pub part_through : (a b c : AllSeen) → IsPartOf a b → IsPartOf b c → IsPartOf a c
part_through a b c f g = record {
  opening = fits_through a.opening b.opening b c c.opening f.opening g.opening;
  history = begins_through a.history b.history c.history f.history g.history;
  namings = begins_through a.namings b.namings c.namings f.namings g.namings;
}

module _ (count : ℕ) (w : Known) (all : AllSeen) (a : Accounts count w all) (own : PassView (List Operation)) (is : w.pass ≡ Some own) where
  commits_from : (history : List (Commit (List Operation))) → StartsWith all.history history → StartsWith own.entries (entries_by own.number history)
  commits_from history s = (entries_by own.number s.0, a.entries own is ∙ ap (entries_by own.number) s.1 ∙ filter-append (λ (e : Commit (List Operation)). e.author == own.number) history s.0)

  namings_from : (namings : List Naming) → StartsWith all.namings namings → All (λ n. n.pass ≡ own.number → Contains own.pinned n.version) namings
  namings_from namings s = all_front (λ (n : Naming). n.pass ≡ own.number → Contains own.pinned n.version) all.namings namings s (a.namings own is)

pinned_pass : (p q : Option (PassView (List Operation))) (n : ℕ) (own : PassView (List Operation)) → q ≡ with_pinned p n → p ≡ Some own → q ≡ Some (record own { pinned = own.pinned ++ n ∷ [] })
pinned_pass p q n own e is = e ∙ ap (λ (x : Option (PassView (List Operation))). with_pinned x n) is

-- The pass looks, pins the last version, leaves, and looks again.
pub takes_last : (lawful : List Entry → List Entry → Type 0) (count : ℕ) (v s w : Known) (n : ℕ) (before after : AllSeen)
    → Accounts count v before → Pinned lawful v s n → w.seen ≡ s.seen → w.pass ≡ s.pass → Accounts count w after
    → Gathers count v w [] n (record { opening = s.seen.opening; history = s.seen.history; namings = v.seen.namings })
takes_last lawful count v s w n before after b pinned seen pass a =
    let part : IsPartOf after s.seen = subst (IsPartOf after) seen a.seen in record {
      version_is = pinned.version;
      own = record {
        seen = record { opening = pinned.grows.opening; history = pinned.grows.history; namings = begins_itself v.seen.namings };
        commits = λ own is. commits_from count w after a (record own { pinned = own.pinned ++ n ∷ [] }) (pinned_pass v.pass w.pass n own (pass ∙ pinned.pass) is) s.seen.history part.history;
        namings = λ own is. namings_from count v before b own is v.seen.namings b.seen.namings;
      };
      each = All-nil (Includes (record { opening = s.seen.opening; history = s.seen.history; namings = v.seen.namings }));
      authors = all_front (λ (e : Commit (List Operation)). e.author < count) after.history s.seen.history part.history a.authors;
      namers = all_front (λ (m : Naming). m.pass < count) before.namings v.seen.namings b.seen.namings b.namers;
      history = subst (λ (x : AllSeen). StartsWith x.history s.seen.history) (sym seen) (begins_itself s.seen.history);
      namings = subst (λ (x : AllSeen). StartsWith x.namings v.seen.namings) (sym seen) pinned.grows.namings;
    }

-- The first pass learns what another has seen; when it has taken the last version, the other learns that, and looks.
pub gathers_more : (count : ℕ) (v learnt w u taught : Known) (others : List Known) (n : ℕ) (last all : AllSeen)
    → Learnt v learnt u.seen → Gathers count learnt w others n last → Learnt u taught w.seen → Accounts count taught all
    → Gathers count v w (others ++ u ∷ []) n last
gathers_more count v learnt w u taught others n last all l g t a =
    let history : StartsWith all.history last.history =
    begins_through all.history taught.seen.history last.history a.seen.history (begins_through taught.seen.history w.seen.history last.history t.learns.history g.history) in
    let namings : StartsWith all.namings last.namings =
    begins_through all.namings taught.seen.namings last.namings a.seen.namings (begins_through taught.seen.namings w.seen.namings last.namings t.learns.namings g.namings) in record {
      version_is = g.version_is;
      own = record {
        seen = part_through last learnt.seen v.seen g.own.seen l.grows;
        commits = λ own is. g.own.commits own (l.pass ∙ is);
        namings = λ own is. g.own.namings own (l.pass ∙ is);
      };
      each = All-push (Includes last) others u g.each (record {
        seen = part_through last learnt.seen u.seen g.own.seen l.learns;
        commits = λ own is. commits_from count taught all a own (t.pass ∙ is) last.history history;
        namings = λ own is. namings_from count taught all a own (t.pass ∙ is) last.namings namings;
      });
      authors = g.authors;
      namers = g.namers;
      history = g.history;
      namings = g.namings;
    }

-- the same, as a call finds them
pub gathers_found : (count : ℕ) (v learnt w w' u u' taught : Known) (seen then : AllSeen) (others passes : List Known) (n : ℕ) (last all : AllSeen)
    → Learnt v learnt seen → seen ≡ u.seen → Gathers count learnt w others n last → Learnt u' taught then → u' ≡ u → then ≡ w.seen → Accounts count taught all
    → w' ≡ w → passes ≡ others ++ u ∷ [] → Gathers count v w' passes n last
gathers_found count v learnt w w' u u' taught seen then others passes n last all l seen_is g t same then_is a after is =
    subst (λ (vs : List Known). Gathers count v w' vs n last) (sym is) (subst (λ (x : Known). Gathers count v x (others ++ u ∷ []) n last) (sym after)
    (gathers_more count v learnt w u taught others n last all (subst (Learnt v learnt) seen_is l) g
    (subst (λ (x : Known). Learnt x taught w.seen) same (subst (Learnt u' taught) then_is t)) a))

module _ (count : ℕ) (passes : List Known) (last : AllSeen) (each : All (Includes last) passes) (whole : AreAll count passes) where
  commit_of : (e : Commit (List Operation)) → Contains last.history e → e.author < count → IsCommitOf passes e
  commit_of e there few =
      let v = whole e.author few in
      let own = pass_there v.0.pass e.author v.2 in
      let number : own.0.number ≡ e.author = (let m : own.0.number + 1 ≡ e.author + 1 = ap number_of (sym own.1) ∙ v.2 in omega arith) in
      let same : (e.author == own.0.number) ≡ true = grind (arith, eqb_tells e.author own.0.number) in
      let begins = (All-contains (Includes last) passes v.0 each v.1).commits own.0 own.1 in
      let found : Contains (entries_by own.0.number last.history) e = contains_filter (λ (c : Commit (List Operation)). c.author == own.0.number) last.history e there same in (
        v.0,
        v.1,
        v.2,
        subst (λ (p : Option (PassView (List Operation))). Contains (commits_in p) e) (sym own.1)
            (subst (λ (es : List (Commit (List Operation))). Contains es e) (sym begins.1) (Contains-append_left (entries_by own.0.number last.history) begins.0 e found)),
      )

  naming_of : (n : Naming) → Contains last.namings n → n.pass < count → IsNamingOf passes n
  naming_of n there few =
      let v = whole n.pass few in
      let own = pass_there v.0.pass n.pass v.2 in
      let number : n.pass ≡ own.0.number = (let m : own.0.number + 1 ≡ n.pass + 1 = ap number_of (sym own.1) ∙ v.2 in omega arith) in
      let fits = All-contains (λ (m : Naming). m.pass ≡ own.0.number → Contains own.0.pinned m.version) last.namings n ((All-contains (Includes last) passes v.0 each v.1).namings own.0 own.1) there in
      (v.0, v.1, v.2, subst (λ (p : Option (PassView (List Operation))). Contains (pinned_in p) n.version) (sym own.1) (fits number))

pub ends : (count : ℕ) (first after : Known) (others passes : List Known) (n : ℕ) (last : AllSeen) → Gathers count first after others n last → passes ≡ others ++ first ∷ [] → Ends count passes n last
ends count first after others passes n last g is =
    let each : All (Includes last) passes = subst (All (Includes last)) (sym is) (All-push (Includes last) others first g.each g.own) in record {
      version_is = g.version_is;
      each = each;
      commits = λ whole k d l. commit_of count passes last each whole (get_or last.history k d) (Contains-get_or last.history k d l) (g.authors k d l);
      namings = λ whole k d l. naming_of count passes last each whole (get_or last.namings k d) (Contains-get_or last.namings k d l) (g.namers k d l);
    }

-- no pass was handed in
pub ends_alone : (count n : ℕ) (last : AllSeen) → 1 ≤ count → n ≡ length last.history → Ends count [] n last
ends_alone count n last some is = record {
  version_is = is;
  each = All-nil (Includes last);
  commits = λ whole. absurd (none (whole 0 (omega arith)));
  namings = λ whole. absurd (none (whole 0 (omega arith)));
}
  where
    none : IsThere [] 0 → ⊥
    none t = let l = t.1.1 in omega arith

-- with what the turn tells, or nothing seen
pub ends_at_rest : (count n : ℕ) (table : TableId) → 1 ≤ count → IsOfTurn table n → (last : AllSeen) × Ends count [] n last
ends_at_rest count n table some (inl turn) = (turn.0.place.me.0.seen, ends_alone count n turn.0.place.me.0.seen some turn.2)
ends_at_rest count n table some (inr none) = (nothing_seen, ends_alone count n nothing_seen some none)

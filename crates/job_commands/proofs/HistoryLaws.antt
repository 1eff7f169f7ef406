-- Histories that begin with one that was seen.
use Rattle.std.proofs.Common.{◌≡◌, ◌∙◌, ℕ, zero, suc, ◌+◌, ◌<◌, ◌≤◌, Bool, true, false, cond, eqb, List, [], ◌∷◌, ◌++◌, length, take, Option, Some, None, refl, sym, ap, subst, arith, append-nil, length-append, eq-eqb}
use Rattle.std.specs.Prelude.{Contains, unwrap_or}
use Rattle.std.proofs.lemmas.List.{take_all, take-append-le, append_cancel_left}
use Rattle.std.proofs.lemmas.List.Elements.{Contains-append_left, filter-append}
use Rattle.zone_model.specs.Versions.{Version}
use Rattle.shared_cells.specs.declared.view.Naming.{Naming}
use Rattle.shared_cells.specs.History.{StartsWith, IsPartOf, OpeningFits, entries_by, entry_of, version_after}
use Rattle.shared_cells.specs.Views.{is_told}
use Rattle.qp_multi.specs.declared.meaning.Operation.{Operation}
use Rattle.qp_multi.specs.Operations.{applied}
use Rattle.qp_multi.specs.Passes.{first_version}
pub use Rattle.zone_edit.proofs.EditLaws.{begins_through as begins_more}
use Rattle.job_commands.specs.Histories.{OpenedWith, Commit, Entries, SeenHistory, index_at, StandsAs, AreVersions, Deeds, Explains, times_by}

-- ---- beginnings

pub begins_same : {A : Type 0} (xs : List A) → StartsWith xs xs
begins_same xs = ([], sym (append-nil xs))

pub begins_length : {A : Type 0} (all part : List A) → StartsWith all part → length part ≤ length all
begins_length all part s = omega (arith, ap length s.1, length-append part s.0)

-- two beginnings of one list, the first of which is no longer
pub begins_other : {A : Type 0} (all xs ys : List A) → StartsWith all xs → StartsWith all ys → length xs ≤ length ys → StartsWith ys xs
begins_other all [] ys a b le = (ys, refl)
begins_other all (x ∷ xs) [] a b le = absurd (omega arith)
begins_other [] (x ∷ xs) (y ∷ ys) a b le = absurd (let e = a.1 in cc)
begins_other (z ∷ all) (x ∷ xs) (y ∷ ys) a b le =
    let head : x ≡ y = (let e : z ∷ all ≡ x ∷ (xs ++ a.0) = a.1 in let f : z ∷ all ≡ y ∷ (ys ++ b.0) = b.1 in cc) in
    let one : all ≡ xs ++ a.0 = (let e : z ∷ all ≡ x ∷ (xs ++ a.0) = a.1 in cc) in
    let two : all ≡ ys ++ b.0 = (let f : z ∷ all ≡ y ∷ (ys ++ b.0) = b.1 in cc) in
    let rest = begins_other all xs ys (a.0, one) (b.0, two) (omega arith) in
    (rest.0, ap (λ (x' : _). x' ∷ ys) (sym head) ∙ ap (λ (l : List _). x ∷ l) rest.1)

-- the last commit and its base, by its number
pub last_commit : (base before : List Commit) (x e : Commit) → StartsWith (base ++ x ∷ []) (before ++ e ∷ []) → length before ≡ length base → (base ≡ before) × (x ≡ e)
last_commit [] [] x e b same = (refl, (let h : x ∷ [] ≡ e ∷ b.0 = b.1 in cc))
last_commit [] (y ∷ before) x e b same = absurd (omega (arith, same))
last_commit (y ∷ base) [] x e b same = absurd (omega (arith, same))
last_commit (y ∷ base) (z ∷ before) x e b same =
    let rest : base ++ x ∷ [] ≡ (before ++ e ∷ []) ++ b.0 = (let h : y ∷ (base ++ x ∷ []) ≡ z ∷ ((before ++ e ∷ []) ++ b.0) = b.1 in cc) in
    let head : y ≡ z = (let h : y ∷ (base ++ x ∷ []) ≡ z ∷ ((before ++ e ∷ []) ++ b.0) = b.1 in cc) in
    let further = last_commit base before x e (b.0, rest) (omega (arith, same)) in
    (ap (λ (l : List Commit). y ∷ l) further.0 ∙ ap (λ (c : Commit). c ∷ before) head, further.1)

-- ---- versions by their numbers

pub index_front : (opening : Entries) (all part : List Commit) (j : ℕ) → StartsWith all part → j ≤ length part → index_at opening all j ≡ index_at opening part j
index_front opening all part j s le = ap (λ (h : List Commit). version_after applied opening (take j h)) s.1 ∙ ap (version_after applied opening) (take-append-le j part s.0 le)

pub index_last : (opening : Entries) (history : List Commit) (j : ℕ) → j ≡ length history → index_at opening history j ≡ version_after applied opening history
index_last opening history j e = ap (version_after applied opening) (take_all j history (omega arith))

pub versions_front : (s : OpenedWith) (all part : List Commit) (set : ℕ → Version) → StartsWith all part → AreVersions s all set → AreVersions s part set
versions_front s all part set b are j le =
    let long = begins_length all part b in
    let more : j ≤ length all = omega (arith, le, long) in
    subst (λ (es : Entries). StandsAs es (set j)) (index_front s.opening all part j b le) (are j more)

-- the version that was seen last
pub last_stands : (s : OpenedWith) (all part : List Commit) (set : ℕ → Version) (v : ℕ) → StartsWith all part → v ≡ length part → AreVersions s all set → StandsAs (version_after applied s.opening part) (set v)
last_stands s all part set v b e are =
    let le : v ≤ length part = omega arith in
    subst (λ (es : Entries). StandsAs es (set v)) (index_last s.opening part v e) (versions_front s all part set b are v le)

pub explains_front : (s : OpenedWith) (deeds : Deeds) (all part : SeenHistory) → IsPartOf all part → Explains s deeds all → Explains s deeds part
explains_front s deeds all part p x = record {
  namings = λ n here below.
      let long = begins_length all.history part.history p.history in
      let more : n.version < length all.history = omega (arith, below, long) in
      x.namings n (subst (λ (l : List Naming). Contains l n) (sym p.namings.1) (Contains-append_left part.namings p.namings.0 n here)) more;
  commits = λ before e begins. x.commits before e (begins_more all.history part.history (before ++ e ∷ []) p.history begins);
}

-- ---- what was opened

pub opened_same : (all part : SeenHistory) → is_told part.opening ≡ true → IsPartOf all part → first_version all ≡ first_version part
opened_same all part told p = by_opening part.opening refl told
  where
    by_opening : (o : Option Entries) → part.opening ≡ o → is_told o ≡ true → first_version all ≡ first_version part
    by_opening None e t = absurd cc
    by_opening (Some es) e t =
        let here : all.opening ≡ Some es = subst (λ (x : Option Entries). OpeningFits all.opening x part) e p.opening in
        ap (λ (x : Option Entries). unwrap_or x []) here ∙ sym (ap (λ (x : Option Entries). unwrap_or x []) e)

pub part_same : (seen : SeenHistory) → is_told seen.opening ≡ true → IsPartOf seen seen
part_same seen told = record { opening = fits seen.opening refl told; history = begins_same seen.history; namings = begins_same seen.namings }
  where
    fits : (o : Option Entries) → seen.opening ≡ o → is_told o ≡ true → OpeningFits seen.opening seen.opening seen
    fits None e t = absurd cc
    fits (Some es) e t = subst (λ (x : Option Entries). OpeningFits seen.opening x seen) (sym e) e

pub part_more : (all more part : SeenHistory) → is_told part.opening ≡ true → IsPartOf all more → IsPartOf more part → IsPartOf all part
part_more all more part told a b = record {
  opening = fits part.opening refl told;
  history = begins_more all.history more.history part.history a.history b.history;
  namings = begins_more all.namings more.namings part.namings a.namings b.namings;
}
  where
    fits : (o : Option Entries) → part.opening ≡ o → is_told o ≡ true → OpeningFits all.opening part.opening part
    fits None e t = absurd cc
    fits (Some es) e t =
        let here : more.opening ≡ Some es = subst (λ (x : Option Entries). OpeningFits more.opening x part) e b.opening in
        let there : all.opening ≡ Some es = subst (λ (x : Option Entries). OpeningFits all.opening x more) here a.opening in
        subst (λ (x : Option Entries). OpeningFits all.opening x part) (sym e) there

-- ---- commits of a pass

pub by-append : (author : ℕ) (xs ys : List Commit) → entries_by author (xs ++ ys) ≡ entries_by author xs ++ entries_by author ys
by-append author xs ys = filter-append (λ (e : Commit). eqb e.author author) xs ys

pub by-push : (author : ℕ) (xs : List Commit) (operations : List Operation) → entries_by author (xs ++ entry_of author operations ∷ []) ≡ entries_by author xs ++ entry_of author operations ∷ []
by-push author xs operations =
    by-append author xs (entry_of author operations ∷ [])
    ∙ ap (λ (b : Bool). entries_by author xs ++ cond b (entry_of author operations ∷ []) []) (eq-eqb author author refl)

pub none_behind : (author : ℕ) (all part : List Commit) (s : StartsWith all part) → entries_by author all ≡ entries_by author part → entries_by author s.0 ≡ []
none_behind author all part s e = append_cancel_left (entries_by author part) (entries_by author s.0) [] (sym (by-append author part s.0) ∙ ap (entries_by author) (sym s.1) ∙ e ∙ sym (append-nil (entries_by author part)))

-- ---- which version a pass made

pub times_none : (author j : ℕ) (rest : List Commit) → entries_by author rest ≡ [] → times_by author j rest ≡ 0
times_none author j [] e = refl
times_none author zero (x ∷ rest) e = refl
times_none author (suc zero) (x ∷ rest) e = by_test (eqb x.author author) e
  where
    by_test : (b : Bool) → cond b (x ∷ entries_by author rest) (entries_by author rest) ≡ [] → ◌≡◌ {A = ℕ} (cond b 1 0) 0
    by_test true h = absurd cc
    by_test false h = refl
times_none author (suc (suc j)) (x ∷ rest) e = times_none author (suc j) rest (by_test (eqb x.author author) e)
  where
    by_test : (b : Bool) → cond b (x ∷ entries_by author rest) (entries_by author rest) ≡ [] → entries_by author rest ≡ []
    by_test true h = absurd cc
    by_test false h = h

times_behind : (author j : ℕ) (part rest : List Commit) → entries_by author rest ≡ [] → times_by author j (part ++ rest) ≡ times_by author j part
times_behind author j [] rest none = times_none author j rest none
times_behind author zero (x ∷ part) rest none = refl
times_behind author (suc zero) (x ∷ part) rest none = refl
times_behind author (suc (suc j)) (x ∷ part) rest none = times_behind author (suc j) part rest none

-- a longer history without more commits of the pass
pub times_front : (author j : ℕ) (all part : List Commit) → StartsWith all part → entries_by author all ≡ entries_by author part → times_by author j all ≡ times_by author j part
times_front author j all part s e = ap (times_by author j) s.1 ∙ times_behind author j part s.0 (none_behind author all part s e)

pub times_past : (author j : ℕ) (history : List Commit) → length history < j → times_by author j history ≡ 0
times_past author j [] lt = refl
times_past author zero (x ∷ history) lt = absurd (omega arith)
times_past author (suc zero) (x ∷ history) lt = absurd (omega arith)
times_past author (suc (suc j)) (x ∷ history) lt = times_past author (suc j) history (omega arith)

-- one commit more
pub times_there : (author j : ℕ) (history : List Commit) (operations : List Operation) → j ≡ length history + 1 → times_by author j (history ++ entry_of author operations ∷ []) ≡ 1
times_there author zero history operations e = absurd (omega arith)
times_there author (suc zero) [] operations e = ap (λ (b : Bool). cond b 1 0) (eq-eqb author author refl)
times_there author (suc (suc j)) [] operations e = absurd (omega arith)
times_there author (suc zero) (x ∷ history) operations e = absurd (omega arith)
times_there author (suc (suc j)) (x ∷ history) operations e = times_there author (suc j) history operations (omega arith)

pub times_else : (author j : ℕ) (history : List Commit) (e : Commit) → (j ≡ length history + 1 → ⊥) → times_by author j (history ++ e ∷ []) ≡ times_by author j history
times_else author zero [] e other = refl
times_else author (suc zero) [] e other = absurd (other (omega arith))
times_else author (suc (suc j)) [] e other = refl
times_else author zero (x ∷ history) e other = refl
times_else author (suc zero) (x ∷ history) e other = refl
times_else author (suc (suc j)) (x ∷ history) e other = times_else author (suc j) history e (λ h. other (omega (arith, h)))

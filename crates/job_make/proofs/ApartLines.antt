-- The workers of a made load change names of their own, so where none is refused its summary is one.
use Rattle.std.proofs.Common.{◌≡◌, ◌∙◌, ℕ, ◌+◌, ◌%◌, ◌<◌, Bool, true, false, ◌||◌, List, [], ◌∷◌, refl, sym, ap, subst, arith, Ok, codes}
use Rattle.std.proofs.lemmas.Bool.Decides.{nat_tests}
use Rattle.std.proofs.lemmas.Fmt.{decimal_injective}
use Rattle.std.proofs.lemmas.Bool.{and_parts}
use Rattle.std.specs.Fmt.{decimal}
use Rattle.std.specs.List.{AllByRecursion, flat_map, list_all}
use Rattle.zone_model.specs.Names.{Name, IsName}
use Rattle.dns_name.proofs.BodyLemmas.{all_append}
use Rattle.rr_data.proofs.PrintedWordLemmas.{is_shown}
use Rattle.job_model.specs.Commands.{Command, Job}
use Rattle.job_model.specs.Jobs.{job_of}
use Rattle.job_model.specs.Outcomes.{Pair}
use Rattle.job_model.specs.Loads.{Load, line_text, load_lines, made_origin, made_text, name_text}
use Rattle.job_model.specs.Summaries.{summary}
use Rattle.report_laws.specs.Octets.{IsOctet, AllOctets}
use Rattle.report_laws.specs.Apart.{changes, changed_by, AreApart, AreDone}
use Rattle.report_laws.proofs.ApartLemmas.{one_summary}
use Rattle.job_make.proofs.SizeLemmas.{IsWithin}
use Rattle.job_make.proofs.ScriptLines.{IsOwn, IsOwner, OwnFrom, owner}
use Rattle.job_make.proofs.ZoneLines.{AllShown, made_job}

-- ---- workers

either : (a b : Bool) {P : Type 0} → (a || b) ≡ true → (a ≡ true → P) → (b ≡ true → P) → P
either true b h p q = p refl
either false b h p q = q h

own_changed : (workers r : ℕ) (commands : List Command) (name : Name) → AllByRecursion (IsOwn workers r) commands → changed_by name commands ≡ true → IsOwner workers r name
own_changed workers r [] name all h = absurd cc
own_changed workers r (command ∷ commands) name all h = either (changes name command) (changed_by name commands) h (all.0 name) (own_changed workers r commands name all.1)

-- a name has one number
owner_once : (a b : ℕ) → a < 1000000 → b < 1000000 → owner a ≡ owner b → a ≡ b
owner_once a b la lb e =
    let text : name_text a ≡ name_text b = (let k : name_text a ∷ made_origin ≡ name_text b ∷ made_origin = e in cc) in
    let digits : decimal a ≡ decimal b = (let k : 110 ∷ decimal a ≡ 110 ∷ decimal b = text in cc) in
    decimal_injective a b (omega (arith, la)) (omega (arith, lb)) digits

others_apart : (workers r k : ℕ) (commands : List Command) (others : List (List Command)) → r < k → AllByRecursion (IsOwn workers r) commands → OwnFrom workers k others
    → AllByRecursion (λ other. (name : Name) → changed_by name commands ≡ true → changed_by name other ≡ false) others
others_apart workers r k commands [] lt own all = tt
others_apart workers r k commands (other ∷ others) lt own all = (λ name here. by_test name here (changed_by name other) refl, others_apart workers r (k + 1) commands others (omega (arith, lt)) own all.1)
  where
    by_test : (name : Name) → changed_by name commands ≡ true → (b : Bool) → changed_by name other ≡ b → b ≡ false
    by_test name here false there = refl
    by_test name here true there =
        let a = own_changed workers r commands name own here in
        let b = own_changed workers k other name all.0 there in
        let same : a.number ≡ b.number = owner_once a.number b.number a.small b.small (sym a.is ∙ b.is) in
        let is : r ≡ k = sym a.leaves ∙ ap (λ (n : ℕ). n % workers) same ∙ b.leaves in
        absurd (omega (arith, lt, is))

lists_apart : (workers r : ℕ) (lists : List (List Command)) → OwnFrom workers r lists → AreApart lists
lists_apart workers r [] own = tt
lists_apart workers r (commands ∷ others) own = (others_apart workers r (r + 1) commands others (omega arith) own.0 own.1, lists_apart workers (r + 1) others own.1)

-- ---- octets

shown_octets : (line : List ℕ) → list_all is_shown line ≡ true → AllOctets line
shown_octets [] h = tt
shown_octets (c ∷ line) h = (let f = and_parts (is_shown c) (list_all is_shown line) h in (small c f.0, shown_octets line f.1))
  where
    small : (c : ℕ) → is_shown c ≡ true → c < 256
    small c h = grind (arith, nat_tests)

text_octets : (lines : List (List ℕ)) → AllShown lines → AllOctets (flat_map line_text lines)
text_octets [] h = tt
text_octets (line ∷ lines) h = all_append IsOctet (line_text line) (flat_map line_text lines) (all_append IsOctet line (codes "\n") (shown_octets line h.0) (omega arith, tt)) (text_octets lines h.1)

-- ---- one summary

origin_name : IsName made_origin
origin_name = record { each = (record { some = omega arith; short = omega arith; octets = (omega arith, (omega arith, (omega arith, (omega arith, (omega arith, (omega arith, (omega arith, tt))))))); folded = (refl, (refl, (refl, (refl, (refl, (refl, (refl, tt))))))) }, tt); short = omega arith }

pub one_load : (load : Load) → IsWithin load → 0 < load.workers → (job : Job) → job_of made_origin (made_text load) ≡ Ok job → (chunks : ℕ) (a b : List (List Pair)) (m n : ℕ) → AreDone chunks job a m → AreDone chunks job b n
    → summary job.origin job.zone a m ≡ summary job.origin job.zone b n
one_load load w some job said chunks a b m n da db =
    let j = made_job load w some in
    let same : ◌≡◌ {A = _} (Ok j.job) (Ok job) = sym j.said ∙ said in
    let is : j.job ≡ job = cc in
    one_summary made_origin (made_text load) job origin_name (text_octets (load_lines load) j.shown) said (subst (λ (x : Job). AreApart x.workers) is (lists_apart load.workers 0 j.job.workers j.own)) chunks a b m n da db

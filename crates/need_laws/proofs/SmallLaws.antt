-- A job of small sets finds room on 64 chunks, while at most one version is kept beside the current one.
use Rattle.std.proofs.Common.{◌≡◌, ◌∙◌, ℕ, ◌+◌, ◌-◌, ◌*◌, ◌/◌, ◌≤◌, Bool, true, false, cond, List, [], ◌∷◌, ◌++◌, length, Some, unwrap_or, refl, sym, ap, subst, arith, append_assoc}
use Rattle.std.specs.List.{AllByRecursion}
use Rattle.std.specs.Ordering.{is_eq}
use Rattle.zone_model.specs.Names.{Name, IsName, name_cmp}
use Rattle.zone_model.specs.Records.{item}
use Rattle.zone_model.specs.Versions.{Version, Operation, Add, DeleteName, DeleteSet, DeleteRecord, entry_of, owned, owner_of}
use Rattle.zone_model.specs.Transactions.{Transaction}
use Rattle.zone_model.proofs.NameLemmas.{same_name-true}
use Rattle.zone_answer.specs.Standing.{IsStorable}
use Rattle.job_model.specs.declared.Ending.{Ending}
use Rattle.job_model.specs.Commands.{Job}
use Rattle.job_model.specs.Sizes.{cell_count, cells_asked, item_cells}
use Rattle.job_model.specs.Outcomes.{BoundsSets, Cause, Rule, Full, Spent, Causes, Ended, Refused, Pair, asked_by, JudgedBy, judged_by, WhyFull, all_pairs, Lawful}
use Rattle.report_laws.specs.Changes.{IsSaid, AllSaid, AllAsked}
use Rattle.report_laws.specs.Versions.{AreOutcomesOf}
use Rattle.report_laws.proofs.ChangeLemmas.{IsZone, is_zone, all_said, applied}
use Rattle.report_laws.proofs.ListLemmas.{all_both, all_parts}
use Rattle.need_laws.specs.Bounds.{IsSaidJob, WorksWithin, HaveFewCells, AllWorkersAsk, NamesFew, AllNameFew, FindsRoom, AllFindRoom, base_of}
use Rattle.need_laws.proofs.ItemLaws.{item_length, fewer_cells}
use Rattle.need_laws.proofs.StepLaws.{version_of_zone}
use Rattle.need_laws.proofs.RunLaws.{all_ask, version_zone}
use Rattle.need_laws.proofs.RoomLaws.{ends_with_room}

-- ---- an item

item_short : (name : Name) (version : Version) → IsName name → AllByRecursion IsStorable version → length (item name (owned name version)) ≤ 65535
item_short name [] is items = let short = is.short in omega (arith, short, item_length name [])
item_short name (pair ∷ rest) is items = by_test (item_short name rest is items.1) (is_eq (name_cmp name pair.0)) refl
  where
    by_test : length (item name (owned name rest)) ≤ 65535 → (b : Bool) → is_eq (name_cmp name pair.0) ≡ b → length (item name (unwrap_or (cond b (Some pair.1) (entry_of name rest)) [])) ≤ 65535
    by_test further true e = subst (λ (n : Name). length (item n pair.1) ≤ 65535) (sym (same_name-true name pair.0 e)) items.0.short
    by_test further false e = further

item_few : (origin name : Name) (version : Version) → IsName name → IsZone origin version → item_cells name version ≤ 4112
item_few origin name version is z =
    let few = fewer_cells (length (item name (owned name version))) 65535 (item_short name version is (version_of_zone origin version z).items) in omega (arith, few)

owner_named : (origin : Name) (operation : Operation) → IsSaid origin operation → IsName (owner_of operation)
owner_named origin (Add a) said = said.0.name
owner_named origin (DeleteName owner) said = said.name
owner_named origin (DeleteSet owner rtype) said = said.name
owner_named origin (DeleteRecord owner rtype octets) said = said.name

one_said : (origin : Name) (front back : List Operation) (one : Operation) → AllByRecursion (IsSaid origin) (front ++ one ∷ back) → IsSaid origin one
one_said origin [] back one said = said.0
one_said origin (first ∷ front) back one said = one_said origin front back one said.1

-- ---- a refusal

-- so many chunks are too many for it
too_many : (kept asked : ℕ) → kept ≤ 2 → asked ≤ 4883 → 64 - 64 / 4 ≤ (kept + 1) * (768 / 257 + 9) + 1 + asked / 769 → ⊥
too_many kept asked few small bound = omega (arith, few, small, bound)

module _ (s : JudgedBy) (chunks : s.chunks ≡ 64) (first : cell_count (s.set 0) ≤ 768) (between : (v : ℕ) → WorksWithin 768 s.origin (s.set v) (s.made_by (v + 1))) (zones : (v : ℕ) → IsZone s.origin (s.set v)) where
  -- a transaction on a version that ended so, of small sets and with few versions kept
  abbrev IsSmall : Transaction → ℕ → Ended → Type 0
  IsSmall asked v ended = WorksWithin 768 s.origin (s.set (base_of (record { version = v; ended = ended }))) asked × AllSaid s.origin asked × NamesFew 2 ended

  sets_small : (asked : Transaction) (base operation : ℕ) (kept : List ℕ) → WorksWithin 768 s.origin (s.set base) asked → (c : WhyFull s asked base operation kept) → BoundsSets s base c.front 768
  sets_small asked base operation kept works c = record {
    first = first;
    ways = λ v lt begun rest parts working made. between v begun rest working parts made;
    sets = λ begun rest parts working made.
        works begun (rest ++ c.refused ∷ c.back) working (c.all ∙ ap (λ (l : List Operation). l ++ c.refused ∷ c.back) parts ∙ append_assoc begun rest (c.refused ∷ c.back)) made;
  }

  asked_small : (asked : Transaction) (base operation : ℕ) (kept : List ℕ) → WorksWithin 768 s.origin (s.set base) asked → AllSaid s.origin asked → (c : WhyFull s asked base operation kept) → cells_asked (owner_of c.refused) c.working c.next ≤ 4883
  asked_small asked base operation kept works said c =
      let all : AllByRecursion (IsSaid s.origin) (c.front ++ c.refused ∷ c.back) = subst (AllByRecursion (IsSaid s.origin)) c.all said in
      let one = one_said s.origin c.front c.back c.refused all in
      let before = all_said s.origin c.front (s.set base) c.working (all_parts (IsSaid s.origin) c.front (c.refused ∷ c.back) all).0 (zones base) c.before in
      let item = item_few s.origin (owner_of c.refused) c.next (owner_named s.origin c.refused one) (applied s.origin c.refused c.working c.next one before c.accepted) in
      let working = works c.front (c.refused ∷ c.back) c.working c.all c.before in
      omega (arith, item, working)

  small_cause : (asked : Transaction) (ending : Ending) (base : ℕ) (cause : Cause) → IsSmall asked base (Refused cause) → Causes s asked ending base cause → FindsRoom (Refused cause)
  small_cause asked ending base (Rule refusal) may c = tt
  small_cause asked ending base (Full operation kept) may c =
      let bound = c.crowded.bound 768 (omega arith) (omega (arith, chunks)) (sets_small asked base operation kept may.0 c) in
      too_many (length kept) (cells_asked (owner_of c.refused) c.working c.next) may.2 (asked_small asked base operation kept may.0 may.1 c)
      (subst (λ (n : ℕ). n - n / 4 ≤ (length kept + 1) * (768 / 257 + 9) + 1 + (cells_asked (owner_of c.refused) c.working c.next) / 769) chunks bound)
  small_cause asked ending base Spent may c = tt

pub small_room : (job : Job) → IsSaidJob job → (workers : List (List Pair)) → AreOutcomesOf job workers → HaveFewCells 768 job.origin job.zone (all_pairs workers) → AllNameFew 2 (all_pairs workers) → (passes last : ℕ)
    → Lawful 64 passes job.origin job.zone workers last → AllFindRoom (all_pairs workers)
small_room job said workers same few names passes last lawful =
    let ask = all_ask job.origin workers (subst (AllWorkersAsk job.origin) (sym same) said.workers) in
    let s : JudgedBy = judged_by 64 passes job.origin job.zone workers in
    let zones : (v : ℕ) → IsZone job.origin (s.set v) = version_zone job.origin job.zone (all_pairs workers) (is_zone job.origin job.zone said.zone) ask in
    let Small : Pair → Type 0 = λ pair. IsSmall s refl (few.versions 0) few.between zones (asked_by pair.0) pair.1.version pair.1.ended in
    let works = all_both (λ (pair : Pair). WorksWithin 768 job.origin (s.set (base_of pair.1)) (asked_by pair.0)) (λ (pair : Pair). AllAsked job.origin pair.0) (λ (pair : Pair). WorksWithin 768 job.origin (s.set (base_of pair.1)) (asked_by pair.0) × AllAsked job.origin pair.0)
    (all_pairs workers) (λ pair w a. (w, a)) few.working ask in
    let small = all_both (λ (pair : Pair). WorksWithin 768 job.origin (s.set (base_of pair.1)) (asked_by pair.0) × AllAsked job.origin pair.0) (λ (pair : Pair). NamesFew 2 pair.1.ended) Small (all_pairs workers) (λ pair both n. (both.0, both.1, n)) works names in
    ends_with_room s (IsSmall s refl (few.versions 0) few.between zones) (small_cause s refl (few.versions 0) few.between zones) workers small lawful.along

-- Words of bits as flags.
use Rattle.std.proofs.Common.{◌≡◌, ◌≢◌, ℕ, ◌+◌, ◌*◌, ◌/◌, ◌<◌, ◌≤◌, Bool, true, false, not, List, length, map, replicate, slice_index_or, slice_set, ◌∙◌, sym, ap, subst, inl, inr, arith}
use Rattle.std.specs.Prelude.{◌&&◌, count_by}
use Rattle.std.specs.List.{range_with_len, position_or_len}
use Rattle.std.proofs.lemmas.Bool.{cases_eq, cases_lt}
use Rattle.std.proofs.lemmas.List.{length-set, get_or-set_same, get_or-set_other, get_or_past, get_or-replicate, length-replicate}
use Rattle.std.proofs.lemmas.List.FromFn.{fill_by_all, get_or-map-range_with_len, length-map-range_with_len}
use Rattle.std.proofs.lemmas.List.Sums.{position_or_len_is}
use Rattle.chunk_sets.specs.ChunkSets.{has_bit, flags_of, AreWords, IsFirstFrom, IsFirstBit, Without, has}
use Rattle.chunk_sets.proofs.FlagLemmas.{first_clear_is, set_within}
use Rattle.chunk_sets.proofs.WordLemmas.{no_bits, with_bit, without_bit, set_here, set_others, clear_here, clear_others}

pub length-flags_of : (words : List ℕ) (n : ℕ) → length (flags_of words n) ≡ n
unfolding flags_of
length-flags_of words n = length-map-range_with_len (has_bit words) 0 n

get-flags_of : (words : List ℕ) (n k : ℕ) → AreWords words n → slice_index_or (flags_of words n) k false ≡ has_bit words k
unfolding flags_of
get-flags_of words n k a = elim (cases_lt k n) [
  | inl l ↦ get_or-map-range_with_len (has_bit words) 0 n k k false l (omega arith)
  | inr past ↦ (
      let e = length-map-range_with_len (has_bit words) 0 n in
      get_or_past (map (has_bit words) (range_with_len 0 n)) k false (omega arith) ∙ sym (a.none_past k past))
]

-- the flags that words are
flags_are : (words : List ℕ) (n : ℕ) (flags : List Bool) → length flags ≡ n → ((k : ℕ) → k < n → has_bit words k ≡ slice_index_or flags k false) → flags_of words n ≡ flags
unfolding flags_of
flags_are words n flags same each = sym (fill_by_all (has_bit words) flags n false same (λ k l. sym (each k l)))

-- words without a bit
pub cleared : (m n : ℕ) → flags_of (replicate m 0) n ≡ replicate n false
cleared m n = flags_are (replicate m 0) n _ (length-replicate n false) (λ k l. no_bits m k ∙ sym (get_or-replicate n k false false l))

pub cleared_words : (m n : ℕ) → m ≡ (n + 63) / 64 → n ≤ 4096 → AreWords (replicate m 0) n
cleared_words m n count few = record { count = length-replicate m 0 ∙ count; few = few; none_past = λ k past. no_bits m k }

-- the words of a set that is seen as these flags
pub record SeenAs (words : List ℕ) (n : ℕ) (flags : List Bool) : Type 0 where
  pub sound : AreWords words n
  pub view : flags_of words n ≡ flags

pub seen : {words : List ℕ} {n : ℕ} {flags : List Bool} → AreWords words n → flags_of words n ≡ flags → SeenAs words n flags
seen a e = record { sound = a; view = e }

-- the same words, read in another way
pub seen_in : {words : List ℕ} {n : ℕ} {flags : List Bool} (read : List ℕ) → SeenAs words n flags → read ≡ words → SeenAs read n flags
seen_in {words} {n} {flags} read s e = subst (λ (ws : List ℕ). SeenAs ws n flags) (sym e) s

module _ {words : List ℕ} {n : ℕ} {flags : List Bool} (s : SeenAs words n flags) where
  pub chunks_are : n ≡ length flags
  chunks_are = sym (length-flags_of words n) ∙ ap length s.view

  pub get_is : (k : ℕ) → has_bit words k ≡ slice_index_or flags k false
  get_is k = sym (get-flags_of words n k s.sound) ∙ ap (λ (fs : List Bool). slice_index_or fs k false) s.view

  pub word_within : (k : ℕ) → k < length flags → k / 64 < length words
  word_within k l = let c = s.sound.count in let e = chunks_are in omega arith

  -- words of which one bit differs
  one_changed : (c : ℕ) → c < length flags → (new : List ℕ) (b : Bool) → length new ≡ length words → has_bit new c ≡ b → ((k : ℕ) → k ≢ c → has_bit new k ≡ has_bit words k)
      → SeenAs new n (slice_set flags c b)
  one_changed c l new b same here others = record {
    sound = record { count = same ∙ s.sound.count; few = s.sound.few; none_past = λ k past. others k (λ e. let m = chunks_are in omega arith) ∙ s.sound.none_past k past };
    view = flags_are new n (slice_set flags c b) (length-set flags c b ∙ sym chunks_are) (λ k within. elim (cases_eq k c) [
      | inl e ↦ subst (λ (j : ℕ). has_bit new j ≡ slice_index_or (slice_set flags c b) j false) (sym e) (here ∙ sym (get_or-set_same flags c b false l))
      | inr ne ↦ others k ne ∙ get_is k ∙ sym (get_or-set_other flags c k b false ne)
    ]);
  }

  -- a chunk's bit is set, or cleared, in its word x
  module _ (c x : ℕ) (l : c < length flags) (read : x ≡ slice_index_or words (c / 64) x) where
    pub inserted : SeenAs (with_bit words c x) n (slice_set flags c true)
    inserted = one_changed c l _ true (length-set words (c / 64) _) (set_here words c x (word_within c l) read) (set_others words c x (word_within c l) read)

    pub removed : SeenAs (without_bit words c x) n (slice_set flags c false)
    removed = one_changed c l _ false (length-set words (c / 64) _) (clear_here words c x (word_within c l) read) (clear_others words c x (word_within c l) read)

  -- sets of the same chunks have the same number of words
  pub same_words : {others : List ℕ} {m : ℕ} {these : List Bool} → SeenAs others m these → length flags ≡ length these → (n ≡ m) × (length words ≡ length others)
  same_words {others} {m} {these} t same =
      let e = chunks_are in
      let f = length-flags_of others m in
      let g = ap length t.view in
      let i = s.sound.count in
      let j = t.sound.count in
      let k : n ≡ m = omega arith in
      (k, omega arith)

  -- the first bit from a place on is the first chunk
  pub first_from_is : (from k : ℕ) → IsFirstBit words from k → IsFirstFrom flags from k
  first_from_is from k f = let m = sym (get_is k) ∙ f.set in record {
    at_or_after = f.at_or_after;
    within = set_within flags k m;
    member = m;
    none_between = λ j le lt. sym (get_is j) ∙ f.none_between j le lt;
  }

  pub none_from_is : (from : ℕ) → ((k : ℕ) → from ≤ k → has_bit words k ≡ false) → (k : ℕ) → from ≤ k → slice_index_or flags k false ≡ false
  none_from_is from none k le = sym (get_is k) ∙ none k le

  -- the first bit that is clear is the first chunk that isn't there, where there is one
  pub first_absent_is : (i : ℕ) → ((k : ℕ) → k < i → has_bit words k ≡ true) → (i < 64 * length words → has_bit words i ≡ false) → 0 < count_by not flags
      → i ≡ position_or_len not flags
  first_absent_is i before clear some = sym (position_or_len_is not flags i false inside (λ k l. ap not (set_at k l)) (λ l. ap not (clear_at l)))
    where
      set_at : (k : ℕ) → k < i → slice_index_or flags k false ≡ true
      set_at k l = sym (get_is k) ∙ before k l

      clear_at : i < length flags → slice_index_or flags i false ≡ false
      clear_at l = sym (get_is i) ∙ clear (let w = word_within i l in omega arith)

      all_set : length flags < i → ⊥
      all_set past =
          let e = position_or_len_is not flags (length flags) false (omega arith) (λ k l. ap not (set_at k (omega arith))) (λ l. absurd (omega arith)) in
          let f = first_clear_is flags some in
          omega arith

      inside : i ≤ length flags
      inside = elim (cases_lt (length flags) i) [ inl past ↦ absurd (all_set past) | inr le ↦ le ]

-- what is left where the bits of others were cleared
module _ {words others : List ℕ} {n m : ℕ} {flags taken : List Bool} (s : SeenAs words n flags) (t : SeenAs others m taken) (new : List ℕ) (same : length new ≡ length words)
    (each : (k : ℕ) → has_bit new k ≡ (has_bit words k && not (has_bit others k))) where
  pub subtracted_words : AreWords new n
  subtracted_words = record { count = same ∙ s.sound.count; few = s.sound.few; none_past = λ k past. each k ∙ ap (λ x. x && not (has_bit others k)) (s.sound.none_past k past) }

  pub subtracted : Without flags (flags_of new n) (has taken)
  subtracted = record {
    len = length-flags_of new n ∙ chunks_are s;
    left = λ k. get-flags_of new n k subtracted_words ∙ each k ∙ ap (λ x. x && not (has_bit others k)) (get_is s k) ∙ ap (λ x. has flags k && not x) (get_is t k);
  }

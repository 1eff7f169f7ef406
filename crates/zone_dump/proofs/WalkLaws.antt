-- The names that an iterator comes to.
use Rattle.std.proofs.Common.{◌≡◌, ◌∙◌, ℕ, ◌+◌, List, [], ◌∷◌, ◌++◌, length, take, map, refl, sym, ap, subst, arith, Option, Some, None, length-append, length-take}
use Rattle.outer_io.specs.Bytes.{Held, GrowsByFront}
use Rattle.zone_model.specs.Names.{Name}
use Rattle.zone_model.specs.Records as records
use Rattle.zone_model.specs.Records.{item, IsItem}
use Rattle.zone_model.specs.Versions.{Version}
use Rattle.zone_model.specs.Rows.{Directives}
use Rattle.zone_model.specs.Dumps.{rows_at, all_rows, owner_lines, version_lines}
use Rattle.trie_model.specs.Keys.{Entry}
use Rattle.zone_answer.specs.Standing.{Shows, trie_entry}
use Rattle.zone_dump.specs.Writing.{Passes}
use Rattle.zone_dump.specs.Walks.{Faces, GivesFirst, GoesOn}
use Rattle.zone_dump.proofs.WritingLaws.{part_start, part_more, part_end, part_stops, part_front}

pub faces_all : (holds : List Entry → Type 0) (stands : List Entry → List Entry → Type 0) (zone : Version) → Shows holds zone → ((version : List Entry) → holds version → stands [] version) → Faces stands zone
faces_all holds stands zone shows start = record { before = []; standing = start (map trie_entry zone) shows.held; items = shows.version_is.items }

-- there is a leaf, so a name is left
pub first_lies : {Leaf : Type 0} (stands : List Entry → List Entry → Type 0) (lies : Leaf → Entry → Type 0) (leaf : Leaf) (left : Version) → Faces stands left → ((before after : List Entry) (e : Entry) → stands before (e ∷ after) → lies leaf e)
    → ((before : List Entry) → stands before [] → Some leaf ≡ None) → (e : Entry) × lies leaf e
first_lies stands lies leaf [] f next end = absurd (let h : Some leaf ≡ None = end f.before f.standing in cc)
first_lies stands lies leaf (pair ∷ left) f next end = (trie_entry pair, next f.before (map trie_entry left) (trie_entry pair) f.standing)

pub gives_first : {Leaf : Type 0} (old new : List Entry → List Entry → Type 0) (lies : Leaf → Entry → Type 0) (leaf : Leaf) (octets : List ℕ) (len : ℕ) (left : Version) → Faces old left
    → ((before after : List Entry) (e : Entry) → old before (e ∷ after) → lies leaf e) → ((before after : List Entry) (e : Entry) → old before (e ∷ after) → new (before ++ e ∷ []) after)
    → ((before : List Entry) → old before [] → Some leaf ≡ None) → ((e : Entry) → lies leaf e → (len ≡ length e.item) × (take len octets ≡ e.item)) → GivesFirst new left octets len
gives_first old new lies leaf octets len [] f next passed end read = absurd (let h : Some leaf ≡ None = end f.before f.standing in cc)
gives_first old new lies leaf octets len (pair ∷ left) f next passed end read =
    let is = read (trie_entry pair) (next f.before (map trie_entry left) (trie_entry pair) f.standing) in
    record {
      pair = pair;
      others = left;
      left_is = refl;
      within = omega (arith, is.0, ap (λ (b : List ℕ). length b) is.1, length-take len octets);
      item_is = is.1;
      storable = f.items.0;
      faces = record { before = f.before ++ trie_entry pair ∷ []; standing = passed f.before (map trie_entry left) (trie_entry pair) f.standing; items = f.items.1 };
    }

pub none_left : (stands : List Entry → List Entry → Type 0) (left : Version) → Faces stands left → ((before after : List Entry) (e : Entry) → stands before (e ∷ after) → ⊥) → left ≡ []
none_left stands [] f never = refl
none_left stands (pair ∷ left) f never = absurd (never f.before (map trie_entry left) (trie_entry pair) f.standing)

-- ---- a dump goes on

pub goes_first : (stands : List Entry → List Entry → Type 0) (a : Held) (had : List ℕ) (count : ℕ) (d : Option Directives) (zone : Version) → Faces stands zone → GoesOn stands a a had had count count d zone
goes_first stands a had count d zone f = record { left = zone; faces = f; part = part_start a had (version_lines d zone); number = refl }

-- the octets are an item
pub first_item : (stands : List Entry → List Entry → Type 0) (left : Version) (octets : List ℕ) (len : ℕ) (f : GivesFirst stands left octets len) → IsItem (take len octets) f.pair.0 f.pair.1
first_item stands left octets len f = subst (λ (b : List ℕ). IsItem b f.pair.0 f.pair.1) (sym f.item_is) f.storable

pub some_item : (stands : List Entry → List Entry → Type 0) (left : Version) (octets : List ℕ) (len : ℕ) → GivesFirst stands left octets len → (owner : Name) × (entry : records.Entry) × IsItem (take len octets) owner entry
some_item stands left octets len f = (f.pair.0, f.pair.1, first_item stands left octets len f)

lines_first : (d : Option Directives) (left : Version) (pair : Name × records.Entry) (others : Version) → left ≡ pair ∷ others → version_lines d left ≡ owner_lines d (rows_at pair) ++ version_lines d others
lines_first d left pair others e = ap (version_lines d) e

pub goes_more : (old new : List Entry → List Entry → Type 0) (a b c : Held) (had mid has : List ℕ) (counted count next : ℕ) (d : Option Directives) (zone : Version) (octets : List ℕ) (len : ℕ) (g : GoesOn old a b had mid counted count d zone) → GivesFirst new g.left octets len
    → ((owner : Name) (entry : records.Entry) → IsItem (take len octets) owner entry → Passes b c mid has (owner_lines d (rows_at (owner, entry)))) → ((owner : Name) (entry : records.Entry) → IsItem (take len octets) owner entry → next ≡ count + length (rows_at (owner, entry)))
    → GoesOn new a c had has counted next d zone
goes_more old new a b c had mid has counted count next d zone octets len g f passes counts =
    let item = first_item new g.left octets len f in
    let step : next ≡ count + length (rows_at f.pair) = counts f.pair.0 f.pair.1 item in
    let all : length (all_rows g.left) ≡ length (rows_at f.pair) + length (all_rows f.others) = ap (λ (v : Version). length (all_rows v)) f.left_is ∙ length-append (rows_at f.pair) (all_rows f.others) in
    record {
      left = f.others;
      faces = f.faces;
      part = part_more a b c had mid has (version_lines d zone) (version_lines d g.left) (owner_lines d (rows_at f.pair)) (version_lines d f.others) g.part (lines_first d g.left f.pair f.others f.left_is) (passes f.pair.0 f.pair.1 item);
      number = omega (arith, step, all, g.number);
    }

pub goes_stops : (old new : List Entry → List Entry → Type 0) (a b c : Held) (had mid : List ℕ) (counted count : ℕ) (d : Option Directives) (zone : Version) (octets : List ℕ) (len : ℕ) (g : GoesOn old a b had mid counted count d zone) → GivesFirst new g.left octets len
    → ((owner : Name) (entry : records.Entry) → IsItem (take len octets) owner entry → GrowsByFront b c (mid ++ owner_lines d (rows_at (owner, entry)))) → GrowsByFront a c (had ++ version_lines d zone)
goes_stops old new a b c had mid counted count d zone octets len g f fronts =
    part_stops a b c had mid (version_lines d zone) (version_lines d g.left) (owner_lines d (rows_at f.pair)) (version_lines d f.others) g.part (lines_first d g.left f.pair f.others f.left_is)
    (fronts f.pair.0 f.pair.1 (first_item new g.left octets len f))

pub goes_end : (stands : List Entry → List Entry → Type 0) (a b : Held) (had has : List ℕ) (counted count : ℕ) (d : Option Directives) (zone : Version) (g : GoesOn stands a b had has counted count d zone) → g.left ≡ []
    → Passes a b had has (version_lines d zone) × (count ≡ counted + length (all_rows zone))
goes_end stands a b had has counted count d zone g none =
    let zero : length (all_rows g.left) ≡ 0 = ap (λ (v : Version). length (all_rows v)) none in
    (part_end a b had has (version_lines d zone) (version_lines d g.left) g.part (ap (version_lines d) none), omega (arith, zero, g.number))

pub goes_cut : (stands : List Entry → List Entry → Type 0) (a b : Held) (had has : List ℕ) (counted count : ℕ) (d : Option Directives) (zone : Version) → GoesOn stands a b had has counted count d zone → GrowsByFront a b (had ++ version_lines d zone)
goes_cut stands a b had has counted count d zone g = part_front a b had has (version_lines d zone) (version_lines d g.left) g.part

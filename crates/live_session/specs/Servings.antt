-- On what the lines behind a zone can be served, and what that comes to.
use Rattle.std.specs.Prelude.{◌≡◌, ◌<◌, ◌≤◌, ◌+◌, ◌++◌, ◌^◌, ℕ, Bool, false, List, Option, Result, Some, IfSome, length, slice_get}
use Rattle.atomic_table.specs.Seated.{TableId}
use Rattle.zone_model.specs.Names.{Name}
use Rattle.job_commands.specs.Commands.{known_in, table_size}
use Rattle.job_commands.specs.Histories.{Entries, IsZone}
use Rattle.job_commands.specs.Works.{AreNew}
use Rattle.job_model.specs.Feeds.{passes_fed}
use Rattle.job_threads.specs.Ready.{AreOfOne}
use Rattle.outer_io.specs.Bytes.{Held}
use Rattle.qp_multi.specs.declared.index.Index.{Index}
use Rattle.qp_multi.specs.declared.meaning.Named.{Ghosts}
use Rattle.qp_multi.specs.declared.opening.Blank.{Blank}
use Rattle.qp_multi.specs.declared.pass.Pass.{Pass}
use Rattle.session_lines.specs.Taking.{Pending}
use Rattle.session_talk.specs.Answering.{Way}
use Rattle.session_talk.specs.Serving.{MayTalk}
use Rattle.trie_write.specs.Entries.{entries_of_items}
use Rattle.trie_write.specs.declared.item.Item.{Item}
use Rattle.live_session.specs.declared.early.EarlyEnd.{EarlyEnd}
use Rattle.live_session.specs.declared.zone.ZoneBytes.{ZoneBytes}
use Rattle.live_session.specs.Dues.{IsSettled}
use Rattle.live_session.specs.Ends.{EndedSo, Fits, ServedSo, StartsOn}
use Rattle.live_session.specs.Zones.{TookZone}

-- ---- on an index

module _ {X Y : Type 0} {N : Ghosts Y} where
  -- An index is open for the lines, and all its passes are there. The talk has such a rule.
  pub record CanServeOpened (is_settled : List ℕ → List ℕ → Type 0) (origin : Name) (index : Index X Y N) (all : List (Pass Y N)) (names number : ℕ)
      (given : List ℕ) (held : Held) (intake : Pending) : Type 0 where
    pub passes : AreOfOne origin index.place all
    pub two : (table_size index).passes ≡ 2
    -- lines are counted from one
    pub first : 0 < number
    -- the lines' numbers can be counted, whatever the reads give
    pub few : number + length intake.bytes ≤ 2 ^ 26
    -- if the end of input wasn't met, the talk lets more be asked for where all that is due lies in the sink
    pub may : intake.ended ≡ false → (es : Entries) × (way : Way) × AreNew es (known_in all) × (length es ≡ names)
        × StartsOn way (table_size index).chunks origin es number given held intake.bytes × MayTalk is_settled way

  module _ {Z K : Type 0} (given_of : Z → List ℕ) (held_of : K → Held) where
    -- what the lines come to on entries that have room there
    abbrev pub ServesOpened : Name → Index X Y N → List (Pass Y N) → ℕ → ℕ → Z → Z → K → K → Pending → Result Bool EarlyEnd → Type 0
    ServesOpened origin index all names number t t_now s s_now intake result =
        (es : Entries) (way : Way) → AreNew es (known_in all) → length es ≡ names
        → StartsOn way (table_size index).chunks origin es number (given_of t) (held_of s) intake.bytes → Fits way
        → ServedSo way (given_of t) (given_of t_now) (held_of s) (held_of s_now) result

-- ---- on a table

module _ {X : Type 0} where
  -- A table that is named can be opened for a zone's items, and the lines behind the zone served.
  pub record CanServeNamed (tables : List TableId) (is_settled : List ℕ → List ℕ → Type 0) (blank : Blank X) (origin : Name) (items : List Item) (number : ℕ)
      (given : List ℕ) (held : Held) (intake : Pending) : Type 0 where
    pub named : slice_get tables 0 ≡ Some blank.shared.table.shared.table_id
    -- it has those for one worker
    pub passes : blank.shared.table.shared.key.passes ≡ passes_fed 1
    pub zone : IsZone origin (entries_of_items items)
    -- lines are counted from one
    pub first : 0 < number
    -- the lines' numbers can be counted, whatever the reads give
    pub few : number + length intake.bytes ≤ 2 ^ 26
    -- if the end of input wasn't met, and the zone fits, the talk lets more be asked for where all that is due lies in the sink
    pub may : intake.ended ≡ false → (way : Way)
        × StartsOn way blank.shared.table.shared.key.chunks origin (entries_of_items items) number given held intake.bytes × (Fits way → MayTalk is_settled way)

  module _ {Z K : Type 0} (given_of : Z → List ℕ) (held_of : K → Held) where
    -- what the lines come to
    abbrev pub ServesNamed : Blank X → Name → List Item → ℕ → Z → Z → K → K → Pending → Result Bool EarlyEnd → Type 0
    ServesNamed blank origin items number t t_now s s_now intake result =
        (way : Way) → StartsOn way blank.shared.table.shared.key.chunks origin (entries_of_items items) number (given_of t) (held_of s) intake.bytes
        → ServedSo way (given_of t) (given_of t_now) (held_of s) (held_of s_now) result

-- ---- over bytes

-- A session can go on behind a zone that was taken.
pub record CanLiveOn (is_settled : List ℕ → List ℕ → Type 0) (chunks : Option ℕ) (origin : Name) (z : ZoneBytes) (given : List ℕ) (ended : Bool) (held : Held)
    (intake : Pending) : Type 0 where
  -- an index has from 16 to 4,096
  pub asked : IfSome chunks (λ n. (16 ≤ n) × (n ≤ 4096))
  -- the talk lets more be asked for where all that is due lies in the sink
  pub took : (before : List ℕ) × TookZone before given ended intake z
      × ((bytes : List ℕ) (held_then : Held) → IsSettled chunks origin bytes held held_then → is_settled (before ++ bytes) held_then.taken)

-- what a session came to behind what was given before
abbrev pub EndsSo : Option ℕ → Name → List ℕ → List ℕ → Bool → Held → Held → Result Bool EarlyEnd → Type 0
EndsSo asked origin before given ended held held_now result = (bytes : List ℕ) × (given ≡ before ++ bytes) × EndedSo asked origin bytes ended held held_now result

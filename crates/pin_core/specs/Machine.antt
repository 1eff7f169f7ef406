-- The machine: what each event does, where it is allowed, and what it answers. The events are this project's own protocol;
-- what they are for is BIND's: readers that never wait beside one writer (doc/design/qp-trie.md).
use Rattle.std.specs.Prelude.{◌≡◌, ℕ, ◌+◌, ◌-◌, ◌*◌, ◌^◌, ◌==◌, nat_lt, nat_le, max, List, [], ◌∷◌, ◌++◌, map, filter, slice_index, slice_set, replicate, Bool, true, false, not, ◌&&◌, ◌||◌, if◌then◌else◌, Option, Some, None}
use Rattle.std.specs.List.{list_any, list_all, fold}
use Rattle.pin_core.specs.declared.kept.CellAt.{CellAt}
use Rattle.pin_core.specs.declared.kept.Kept.{Kept}
use Rattle.pin_core.specs.declared.kept.Stage.{Stage}
use Rattle.pin_core.specs.declared.kept.Stage.TheVariants as stage
use Rattle.pin_core.specs.declared.kept.Mark.{Mark}
use Rattle.pin_core.specs.declared.kept.Mark.TheVariants as mark
use Rattle.pin_core.specs.declared.event.Half.{Half}
use Rattle.pin_core.specs.declared.event.Event.{Event}
use Rattle.pin_core.specs.declared.event.Event.TheVariants as event
use Rattle.pin_core.specs.declared.event.Step.{Step}
use Rattle.pin_core.specs.declared.event.Step.TheVariants.{Done, Refused, Pinned, Word}
use Rattle.pin_core.specs.Words.{Size, pin_at, status_at, cell_at, half_at, word_count, chunk_of, current_word, version_of}
use Rattle.pin_core.specs.Sound.{Turn, Sound, stage_at, mark_at}

-- a state of the machine
pub record Core : Type 0 where
  pub size : Size
  pub words : List ℕ
  pub stages : List Stage
  pub seen : List ℕ
  pub turn : Turn

-- what holds between any two events holds of it
abbrev pub IsSound : Core → Type 0
IsSound s = Sound s.size s.words s.stages s.seen s.turn

-- tests on images and chunks

-- the image has this cell
abbrev pub has_cell : List CellAt → ℕ → Bool
has_cell image at = list_any (λ c. c.at == at) image

-- the image has a cell in this chunk
abbrev pub meets : List CellAt → ℕ → Bool
meets image chunk = list_any (λ c. chunk_of c.at == chunk) image

-- some kept image has this cell
abbrev pub is_kept_cell : List Kept → ℕ → Bool
is_kept_cell kept at = list_any (λ k. has_cell k.image at) kept

-- some kept image has a cell in this chunk
abbrev pub is_kept_chunk : List Kept → ℕ → Bool
is_kept_chunk kept chunk = list_any (λ k. meets k.image chunk) kept

-- this version is kept, and its image has this cell
abbrev pub is_in_version : List Kept → ℕ → ℕ → Bool
is_in_version kept version at = list_any (λ k. (k.version == version) && has_cell k.image at) kept

-- there is such a chunk, and it is given
abbrev pub is_given : Size → List ℕ → ℕ → Bool
is_given z words chunk = nat_lt chunk z.chunks && (slice_index words (status_at chunk) == 1)

-- no reference stands twice
abbrev pub is_distinct : List ℕ → Bool
is_distinct [] = true
is_distinct (r ∷ rs) = not (list_any (λ q. q == r) rs) && is_distinct rs

-- the root is among the cells, or there is neither
abbrev pub is_rooted : Option ℕ → List ℕ → Bool
is_rooted None [] = true
is_rooted None (r ∷ rs) = false
is_rooted (Some root) rs = list_any (λ r. r == root) rs

-- the steps of a pass, by its stage

-- an event that isn't allowed changes nothing
abbrev pub refused : Core → Core × Step
refused s = (s, Refused)

-- the pass's pin and stage become these
abbrev pub moved : Core → ℕ → ℕ → Stage → Core
moved s p pin g = record s { words = slice_set s.words (pin_at p) pin; stages = slice_set s.stages p g }

-- a pin after a compare-exchange from 1 to this word of CUR plus 2
abbrev pub exchanged : ℕ → ℕ → ℕ
exchanged pin word = if pin == 1 then word + 2 else pin

-- an idle pass says that it is about to look
abbrev pub entered : Core → ℕ → Stage → Core × Step
entered s p stage.Idle = (moved s p 1 stage.Entered, Done)
entered s p _ = refused s

-- it looks at CUR
abbrev pub looked : Core → ℕ → Stage → Core × Step
looked s p stage.Entered = (record s { stages = slice_set s.stages p (stage.Looked (slice_index s.words 0)) }, Done)
looked s p _ = refused s

-- it is pinned at the version that its pin names, and has seen it
abbrev pub pinned_by : Core → ℕ → ℕ → Core × Step
pinned_by s p pin = (record (moved s p pin (stage.Pinned (version_of pin))) { seen = slice_set s.seen p (version_of pin) }, Pinned (version_of pin))

-- its pin becomes what it has looked at, if the writer has not assigned another
abbrev pub settled : Core → ℕ → Stage → Core × Step
settled s p (stage.Looked word) = pinned_by s p (exchanged (slice_index s.words (pin_at p)) word)
settled s p _ = refused s

-- a pinned pass reads a word of its version's image
abbrev pub shown : Core → ℕ → Half → Stage → Core × Step
shown s at half (stage.Pinned version) = (s, (if is_in_version s.turn.kept version at then Word (slice_index s.words (half_at at half)) else Refused))
shown s at half _ = refused s

-- a pinned pass is idle again
abbrev pub left : Core → ℕ → Stage → Core × Step
left s p (stage.Pinned version) = (moved s p 0 stage.Idle, Done)
left s p _ = refused s

-- an idle pass is told of a version that is there
abbrev pub learned : Core → ℕ → ℕ → Stage → Core × Step
learned s p version stage.Idle = if nat_le version s.turn.version then (record s { seen = slice_set s.seen p (max (slice_index s.seen p) version) }, Done) else refused s
learned s p version _ = refused s

-- the writer's rounds

-- the mark that is made of a pin
abbrev pub mark_of : ℕ → Mark
mark_of pin = if pin == 0 then mark.Idle else (if pin == 1 then mark.Entering else mark.Pinned (version_of pin))

-- a round waits for no such pass
abbrev pub is_settled : Mark → Bool
is_settled mark.Idle = true
is_settled (mark.Pinned version) = true
is_settled _ = false

-- the pass was pinned at this version
abbrev pub names_version : ℕ → Mark → Bool
names_version version (mark.Pinned other) = other == version
names_version version _ = false

-- what a round keeps: the current version, and each kept version that a mark names
abbrev pub kept_by_round : Turn → List Kept
kept_by_round t = filter (λ k. (k.version == t.version) || list_any (names_version k.version) t.marks) t.kept

-- a round ends once each mark is idle or pinned
abbrev pub round_checked : ℕ → Turn → Turn
round_checked passes t = if list_all is_settled t.marks then record t { kept = kept_by_round t; marks = replicate passes mark.Blank } else t

-- the pass is marked by this pin
abbrev pub marked_by : Core → ℕ → ℕ → Core
marked_by s p pin = record s { turn = round_checked s.size.passes (record s.turn { marks = slice_set s.turn.marks p (mark_of pin) }) }

-- the writer looks at a pin
abbrev pub scanned : Core → ℕ → Core × Step
scanned s p = (marked_by s p (slice_index s.words (pin_at p)), Done)

-- the pass has this pin now, and is marked by it
abbrev pub helped : Core → ℕ → ℕ → Core
helped s p pin = marked_by (record s { words = slice_set s.words (pin_at p) pin }) p pin

-- a pass that was found about to look is pinned at the current version, unless it went on by itself
abbrev pub assigned : Core → ℕ → Mark → Core × Step
assigned s p mark.Entering = (helped s p (exchanged (slice_index s.words (pin_at p)) (slice_index s.words 0)), Done)
assigned s p _ = refused s

-- the writer's chunks and cells

-- one word changes
abbrev pub with_word : Core → ℕ → ℕ → Core
with_word s place word = record s { words = slice_set s.words place word }

-- a free chunk is given
abbrev pub given : Core → ℕ → Core × Step
given s chunk = if nat_lt chunk s.size.chunks && (slice_index s.words (status_at chunk) == 0) then (with_word s (status_at chunk) 1, Done) else refused s

-- a given chunk that no kept image meets is free again
abbrev pub freed : Core → ℕ → Core × Step
freed s chunk = if is_given s.size s.words chunk && not (is_kept_chunk s.turn.kept chunk) then (with_word s (status_at chunk) 0, Done) else refused s

-- a word of a given chunk that is in no kept image is written
abbrev pub written : Core → ℕ → Half → ℕ → Core × Step
written s at half value = if is_given s.size s.words (chunk_of at) && not (is_kept_cell s.turn.kept at) then (with_word s (half_at at half) value, Done) else refused s

-- the cells with their words
abbrev pub image_of : List ℕ → List ℕ → List CellAt
image_of words cells = map (λ r. record { at = r; big = slice_index words (cell_at r); small = slice_index words (cell_at r + 1) }) cells

-- there is a next version, and the cells are distinct, lie in given chunks and have the root among them
abbrev pub can_publish : Core → Option ℕ → List ℕ → Bool
can_publish s root cells = nat_lt s.turn.version (2 ^ 40 - 1) && (is_distinct cells && (list_all (λ r. is_given s.size s.words (chunk_of r)) cells && is_rooted root cells))

-- the next version, with its cells as they are
abbrev pub next_kept : Core → Option ℕ → List ℕ → Kept
next_kept s root cells = record { version = s.turn.version + 1; root = root; image = image_of s.words cells }

-- it becomes the current one, and a round begins
abbrev pub with_next : Core → Kept → Core
with_next s k = record s { words = slice_set s.words 0 (current_word k.version k.root); turn = record { version = k.version; kept = s.turn.kept ++ k ∷ []; marks = replicate s.size.passes mark.Blank } }

-- the writer publishes the next version
abbrev pub published : Core → Option ℕ → List ℕ → Core × Step
published s root cells = if can_publish s root cells then (with_next s (next_kept s root cells), Done) else refused s

-- what an event of this pass does, if there is such a pass
abbrev pub if_pass : Core → ℕ → Core × Step → Core × Step
if_pass s p r = if nat_lt p s.size.passes then r else refused s

-- the state after an event, and what it answers
abbrev pub next : Core → Event → Core × Step
next s (event.Enter p) = if_pass s p (entered s p (stage_at s.stages p))
next s (event.Look p) = if_pass s p (looked s p (stage_at s.stages p))
next s (event.Settle p) = if_pass s p (settled s p (stage_at s.stages p))
next s (event.Read p at half) = if_pass s p (shown s at half (stage_at s.stages p))
next s (event.Leave p) = if_pass s p (left s p (stage_at s.stages p))
next s (event.Learn p version) = if_pass s p (learned s p version (stage_at s.stages p))
next s (event.Scan p) = if_pass s p (scanned s p)
next s (event.Assign p) = if_pass s p (assigned s p (mark_at s.turn.marks p))
next s (event.Give chunk) = given s chunk
next s (event.Free chunk) = freed s chunk
next s (event.Write at half value) = written s at half value
next s (event.Publish root cells) = published s root cells

-- the machine went on by an event
pub record IsStep (old : Core) (e : Event) (new : Core) (told : Step) : Type 0 where
  pub after : new ≡ (next old e).0
  -- it answered so
  pub answer : told ≡ (next old e).1

-- an event that takes no memory
abbrev pub IsInPlace : Event → Type 0
IsInPlace (event.Publish root cells) = ⊥
IsInPlace _ = Unit {0}

-- openings

-- the words after the chunk of a cell is given, and the cell's words are written
abbrev pub with_cell : List ℕ → CellAt → List ℕ
with_cell words c = slice_set (slice_set (slice_set words (status_at (chunk_of c.at)) 1) (cell_at c.at) c.big) (cell_at c.at + 1) c.small

-- the cells are distinct and within the chunks, and the root is among them (or there is neither)
abbrev pub can_open : Size → Option ℕ → List CellAt → Bool
can_open z root image = is_distinct (map (λ c. c.at) image) && (list_all (λ c. nat_lt c.at (1024 * z.chunks)) image && is_rooted root (map (λ c. c.at) image))

-- version 0 has this root and this image, each chunk of the image is given, and all passes are idle
abbrev pub opened : Size → Option ℕ → List CellAt → Core
opened z root image = record {
  size = z;
  words = fold with_cell (slice_set (replicate (word_count z) 0) 0 (current_word 0 root)) image;
  stages = replicate z.passes stage.Idle;
  seen = replicate z.passes 0;
  turn = record { version = 0; kept = record { version = 0; root = root; image = image } ∷ []; marks = replicate z.passes mark.Blank };
}

-- at the beginning version 0 is empty
abbrev pub started : Size → Core
started z = opened z None []

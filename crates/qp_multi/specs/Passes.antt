-- What a pass has seen and done.
use Rattle.std.specs.Prelude.{◌≡◌, ℕ, List, [], Option, Some, None, IsSome, length, unwrap_or}
use Rattle.trie_model.specs.Keys.{Entry}
use Rattle.shared_cells.specs.declared.view.Entry.{Entry as Commit}
use Rattle.shared_cells.specs.declared.view.Seen.{Seen}
use Rattle.shared_cells.specs.declared.view.PassView.{PassView}
use Rattle.shared_cells.specs.declared.view.View.{View}
use Rattle.shared_cells.specs.declared.pass.PassSeat.{PassSeat}
use Rattle.shared_cells.specs.History.{IsPartOf, longer_seen, version_after}
use Rattle.shared_cells.specs.Views.{spent_view, with_pinned}
use Rattle.qp_multi.specs.declared.meaning.Named.{Ghosts}
use Rattle.qp_multi.specs.declared.meaning.Operation.{Operation}
use Rattle.qp_multi.specs.declared.pass.Pass.{Pass}
use Rattle.qp_multi.specs.Operations.{applied}

-- what is known at a seat of an index
abbrev pub Known : Type 0
Known = View (List Entry) (List Operation)

-- what a pass knows whose seat is in its place
abbrev pub known_at : Option (PassSeat (List Entry) (List Operation)) → Known
known_at None = spent_view
known_at (Some seat) = seat.place.me.0

-- version 0, if it was learnt of
abbrev pub first_version : Seen (List Entry) (List Operation) → List Entry
first_version seen = unwrap_or seen.opening []

-- the version that the seen history leads to
abbrev pub version_seen : Seen (List Entry) (List Operation) → List Entry
version_seen seen = version_after applied (first_version seen) seen.history

-- what the pass has published, and the versions that it has pinned

abbrev pub commits_in : Option (PassView (List Operation)) → List (Commit (List Operation))
commits_in None = []
commits_in (Some own) = own.entries

abbrev pub pinned_in : Option (PassView (List Operation)) → List ℕ
pinned_in None = []
pinned_in (Some own) = own.pinned

-- The pass has pinned this version, which is the last that it has seen. It had seen no more before, and has published nothing
-- meanwhile.
pub record Pinned (lawful : List Entry → List Entry → Type 0) (old new : Known) (number : ℕ) : Type 0 where
  pub version : number ≡ length new.seen.history
  pub grows : IsPartOf new.seen old.seen
  pub good : lawful (first_version new.seen) (version_seen new.seen)
  pub pass : new.pass ≡ with_pinned old.pass number

-- The pass has seen this version, the last that it has seen, and had seen no more before. It has pinned and published nothing meanwhile.
pub record Sees (lawful : List Entry → List Entry → Type 0) (old new : Known) (number : ℕ) : Type 0 where
  pub version : number ≡ length new.seen.history
  pub grows : IsPartOf new.seen old.seen
  pub good : lawful (first_version new.seen) (version_seen new.seen)
  pub pass : new.pass ≡ old.pass

-- The pass has seen what it had seen and what it was told, and no more.
pub record Learnt (old new : Known) (told : Seen (List Entry) (List Operation)) : Type 0 where
  pub grows : IsPartOf new.seen old.seen
  pub learns : IsPartOf new.seen told
  pub longer : new.seen ≡ longer_seen old.seen told
  pub pass : new.pass ≡ old.pass

module _ {Y : Type 0} {N : Ghosts Y} where
  -- a pass that can ask
  pub record IsHere (at : ℕ) (p : Pass Y N) : Type 0 where
    -- no query and no transaction has its seat
    pub here : IsSome p.seat
    -- it is of the index at this place
    pub place : p.place ≡ at

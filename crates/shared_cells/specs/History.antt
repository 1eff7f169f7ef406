-- The history of an index: what was published, in order, and by which pass. Every version is the opening one with the
-- first so many entries applied; readers see old versions whole while writers make new ones (BIND: doc/dev/qp.md, 'transactions').
use Rattle.std.specs.Prelude.{Option, Some, None, ◌≡◌, ℕ, List, [], ◌∷◌, ◌++◌, length, filter, nat_lt, ◌==◌, if◌then◌else◌}
use Rattle.std.specs.List.{fold}
use Rattle.shared_cells.specs.declared.view.Entry.{Entry}
use Rattle.shared_cells.specs.declared.view.Seen.{Seen}

module _ {A : Type 0} where
  -- a list begins with this one
  abbrev pub StartsWith : List A → List A → Type 0
  StartsWith all part = (rest : List A) × (all ≡ part ++ rest)

  -- the longer of two beginnings of one list
  abbrev pub longer_of : List A → List A → List A
  longer_of xs ys = if nat_lt (length xs) (length ys) then ys else xs

module _ {E : Type 0} where
  -- what a pass has published
  abbrev pub entries_by : ℕ → List (Entry E) → List (Entry E)
  entries_by pass history = filter (λ e. e.author == pass) history

  abbrev pub entry_of : ℕ → E → Entry E
  entry_of author change = record { author = author; change = change }

-- one of these, the first if there is one
abbrev pub opening_of : {O : Type 0} → Option O → Option O → Option O
opening_of None other = other
opening_of (Some opening) other = Some opening

module _ {O E : Type 0} where
  abbrev pub nothing_seen : Seen O E
  nothing_seen = record { opening = None; history = []; namings = [] }

  -- who knows of the opening has the one that there is; who doesn't has seen nothing
  abbrev pub OpeningFits : Option O → Option O → Seen O E → Type 0
  OpeningFits opening None part = part ≡ nothing_seen
  OpeningFits opening (Some o) part = opening ≡ Some o

  -- no less was seen than this part
  pub record IsPartOf (all part : Seen O E) : Type 0 where
    pub opening : OpeningFits all.opening part.opening part
    pub history : StartsWith all.history part.history
    pub namings : StartsWith all.namings part.namings

  abbrev pub longer_seen : Seen O E → Seen O E → Seen O E
  longer_seen a b = record { opening = opening_of a.opening b.opening; history = longer_of a.history b.history; namings = longer_of a.namings b.namings }

  -- one more was published
  abbrev pub with_entry : Seen O E → Entry E → Seen O E
  with_entry seen entry = record seen { history = seen.history ++ entry ∷ [] }

  -- the version that a history leads to
  abbrev pub version_after : (O → E → O) → O → List (Entry E) → O
  version_after applied opening history = fold (λ o e. applied o e.change) opening history

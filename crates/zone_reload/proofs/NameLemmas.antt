-- The first name of a version that is laid down.
use Rattle.std.proofs.Common.{◌≡◌, ◌∙◌, ℕ, List, [], ◌∷◌, take, sym, ap, Option, Some, None}
use Rattle.zone_model.specs.Names.{Name}
use Rattle.zone_model.specs.Versions.{Version}
use Rattle.trie_model.specs.Keys.{Entry}
use Rattle.zone_diff.specs.declared.names.Ahead.{Ahead}
use Rattle.zone_diff.proofs.NameLemmas.{laid_item, laid_pair}
use Rattle.zone_dump.specs.Walks.{GivesFirst}
use Rattle.zone_dump.proofs.WalkLaws.{first_item}
use Rattle.zone_reload.specs.Shown.{ShowsAhead, ShowsLeft}

pub shows_first : (stands : List Entry → List Entry → Type 0) (left : Version) (octets : List ℕ) (len : ℕ) (owner : Name) → (f : GivesFirst stands left octets len) → owner ≡ f.pair.0 → ShowsAhead stands (record { owner = owner; len = len }) octets left
shows_first stands left octets len owner f same =
    let is = first_item stands left octets len f in record {
      behind = f.others;
      faces = f.faces;
      laid = laid_item (take len octets) owner f.pair.0 f.pair.1 is same;
      within = f.within;
      is = f.left_is ∙ sym (ap (λ p. p ∷ f.others) (laid_pair (take len octets) owner f.pair.0 f.pair.1 is same));
    }

pub none_shown : (stands : List Entry → List Entry → Type 0) (r : Option Ahead) (octets : List ℕ) (left : Version) → r ≡ None → left ≡ [] → ShowsLeft stands r octets left
none_shown stands None octets left e h = h
none_shown stands (Some a) octets left e h = absurd cc

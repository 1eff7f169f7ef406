-- What is asked for where an entry is read or stored, and why an operation isn't done.
use Rattle.std.specs.Prelude.{◌≡◌, ◌<◌, ◌≤◌, ℕ, List, Option, Result, Err, IsSomeAnd, length}
use Rattle.zone_model.specs.Keys.{key_of, most_item_octets}
use Rattle.zone_model.specs.Names.{Name}
use Rattle.zone_model.specs.Records.{Entry, IsItem, item, item_limit}
use Rattle.chunk_usage.specs.declared.space.Shortage.{Shortage}
use Rattle.qp_multi.specs.declared.writer.WorkingVersion.{WorkingVersion}
use Rattle.qp_multi.specs.WorkingVersions.{Between, IsSame}
use Rattle.rr_data.specs.ItemViews.{SaysEntry}
use Rattle.zone_edit.specs.Stores.{Owns, WorksOnSome}
use Rattle.zone_edit.specs.declared.refusal.EditRefusal.{EditRefusal}
use Rattle.zone_edit.specs.declared.refusal.EditRefusal.TheVariants as refusals

-- A name's item can be read into these octets.
pub record CanReadOwned (name : Name) (path out : List ℕ) (d : Option WorkingVersion) : Type 0 where
  pub works : IsSomeAnd d WorksOnSome
  -- the key is the name's
  pub key : path ≡ key_of name
  -- any item goes into them
  pub room : most_item_octets ≤ length out

-- A name's entry can be exchanged for another one.
pub record CanExchange (name : Name) (path : List ℕ) (before entry : Entry) (octets : List ℕ) (d : Option WorkingVersion) : Type 0 where
  -- the key is the name's
  pub key : path ≡ key_of name
  pub owns : IsSomeAnd d (Owns name before)
  pub some : 0 < length before
  -- the octets are the other's item
  pub item : IsItem octets name entry
  pub other : entry ≡ before → ⊥

-- An entry can be put under a name, and its item laid down in a buffer.
pub record CanStore (name : Name) (path octets : List ℕ) (before entry : Entry) (out : List ℕ) (d : Option WorkingVersion) : Type 0 where
  -- the key is the name's
  pub key : path ≡ key_of name
  -- the octets say what it owned
  pub says : SaysEntry name octets before
  pub owns : IsSomeAnd d (Owns name before)
  -- the entry has an item, if it has records
  pub short : 0 < length entry → length (item name entry) ≤ item_limit
  pub room : item_limit ≤ length out

-- An operation, which has a number, isn't done for want of room or memory.
pub record TellsWant (result : Result (Unit {0}) EditRefusal) (n : ℕ) (old new : Option WorkingVersion) : Type 0 where
  -- the number is told
  pub number : (at : ℕ) (shortage : Shortage) → result ≡ Err (refusals.Full at shortage) → at ≡ n
  -- memory is wanted for entries alone, before anything is tried
  pub untried : result ≡ Err refusals.Memory → Between IsSame old new

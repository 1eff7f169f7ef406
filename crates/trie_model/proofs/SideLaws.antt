-- What stands on each side of a key among the entries below a branch.
use Rattle.std.proofs.Common.{ℕ, suc, ◌≤◌, List, arith, sym, ◌∙◌}
use Rattle.trie_model.specs.Keys.{at, Same, Entry, InList, Less}
use Rattle.trie_model.specs.Trees.{Twigs, entries, Agree, AreTwigs}
use Rattle.trie_model.proofs.BitmapLaws.{Rising}
use Rattle.trie_model.proofs.SplitLaws.{keys_lower, keys_upper}

-- a key agrees before o with each key of the list
abbrev pub AgreesWith : ℕ → List ℕ → List Entry → Type 0
AgreesWith o k es = (x : Entry) → InList x es → Same o k x.key

pub agrees_with : (o : ℕ) (k : List ℕ) (es : List Entry) (y : Entry) → Agree o es → InList y es → Same o k y.key → AgreesWith o k es
agrees_with o k es y agree there same x i j l = same j l ∙ agree y x there i j l

pub lower_left : (o lo : ℕ) (k : List ℕ) (ts : Twigs) → AreTwigs o lo ts → Rising lo (at k o) ts → AgreesWith o k (entries ts) → (x : Entry) → InList x (entries ts) → Less x.key k
lower_left o lo k ts a r with_k x i = record { place = o; same = λ j l. sym (with_k x i j l); lower = keys_lower o lo (at k o) ts a r x i }

pub upper_right : (o lo : ℕ) (k : List ℕ) (ts : Twigs) → AreTwigs o lo ts → Rising (suc (at k o)) 47 ts → AgreesWith o k (entries ts) → (x : Entry) → InList x (entries ts) → Less k x.key
upper_right o lo k ts a r with_k x i = record { place = o; same = with_k x i; lower = (let u : suc (at k o) ≤ at x.key o = keys_upper o lo (suc (at k o)) 47 ts a r x i in omega arith) }

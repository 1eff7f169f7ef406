-- Tests that all names of a version pass, or none does.
use Rattle.std.proofs.Common.{◌≡◌, ◌∙◌, Bool, true, false, cond, not, List, [], ◌∷◌, inl, inr, map, refl, ap}
use Rattle.std.specs.List.{AllByRecursion, filter}
use Rattle.std.specs.Map.{keys_of}
use Rattle.zone_model.specs.Names.{Name}
use Rattle.zone_model.specs.Records as records
use Rattle.zone_model.specs.Versions.{Version}
use Rattle.trie_model.specs.Keys.{InList}
use Rattle.zone_answer.specs.Standing.{IsStorable, trie_entry}

-- all names pass a test, or none does
pub all_pass : (test : Name → Bool) (names : List Name) → AllByRecursion (λ name. test name ≡ true) names → filter test names ≡ names
all_pass test [] h = refl
all_pass test (name ∷ names) h = ap (λ (b : Bool). cond b (name ∷ filter test names) (filter test names)) h.0 ∙ ap (λ (l : List Name). name ∷ l) (all_pass test names h.1)

pub none_pass : (test : Name → Bool) (names : List Name) → AllByRecursion (λ name. test name ≡ false) names → filter test names ≡ []
none_pass test [] h = refl
none_pass test (name ∷ names) h = ap (λ (b : Bool). cond b (name ∷ filter test names) (filter test names)) h.0 ∙ none_pass test names h.1

-- the names of a version pass a test where its entries do
pub each : (test : Name → Bool) (b : Bool) (version : Version) → AllByRecursion IsStorable version → ((pair : Name × records.Entry) → IsStorable pair → InList (trie_entry pair) (map trie_entry version) → test pair.0 ≡ b) → AllByRecursion (λ name. test name ≡ b) (keys_of version)
each test b [] items h = tt
each test b (pair ∷ version) items h = (h pair items.0 (inl refl), each test b version items.1 (λ other item i. h other item (inr i)))

pub other_all : (test : Name → Bool) (b : Bool) (names : List Name) → AllByRecursion (λ name. test name ≡ b) names → AllByRecursion (λ name. not (test name) ≡ not b) names
other_all test b [] h = tt
other_all test b (name ∷ names) h = (ap not h.0, other_all test b names h.1)

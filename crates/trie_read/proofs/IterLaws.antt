-- Where an iterator stands after it turned, went down or passed a name.
use Rattle.std.proofs.Common.{◌≡◌, ℕ, List, [], ◌∷◌, ◌++◌, Option, Some, None, MatchOption, IsSomeAnd, append-nil, append_assoc, inl, refl, sym, ◌∙◌, ap, subst}
use Rattle.packed_node.specs.declared.Cell.{Cell}
use Rattle.packed_node.specs.declared.Leaf.{Leaf}
use Rattle.zone_model.specs.Keys.{Leads}
use Rattle.trie_model.specs.Keys.{Entry, InList}
use Rattle.trie_model.specs.Trees.{Tree, Twigs, entries_of}
use Rattle.trie_model.specs.Trees.Tree.{leaf}
use Rattle.trie_model.specs.Memory.{IsTrieAt, Stands}
use Rattle.trie_model.proofs.KeyLaws.{in_left, in_right}
use Rattle.trie_read.specs.declared.path.Step.{Step}
use Rattle.trie_read.specs.declared.path.Path.{Path}
use Rattle.trie_read.specs.declared.iter.Cursor.{Cursor}
use Rattle.trie_read.specs.declared.iter.Cursor.TheVariants.{Facing, Past}
use Rattle.trie_read.specs.declared.iter.Iter.{Iter}
use Rattle.trie_read.specs.Reads.{EachTells, IsNamed}
use Rattle.trie_read.specs.Walks.{HangsBy, AnyStep, LeadsTo, LeadsToFirst, LeadsToLast, OnLeaf, Faces, HasPassed, IsAt, StandsBetween, TurnedNext, TurnedBack}
use Rattle.trie_read.proofs.PathLaws.{hangs_between, at_depth}

-- the trie, with its version as another list that is the same
pub trie_as : (has : ℕ → Cell → Type 0) (r : ℕ) (whole : Tree) (version other : List Entry) → IsTrieAt has r whole version → entries_of whole ≡ other → IsTrieAt has r whole other
trie_as has r whole version other t e = record { shape = t.shape; inside = t.inside; top = t.top; beneath = t.beneath; once = t.once; holds = e }

pub faces_of : (has : ℕ → Cell → Type 0) (r : ℕ) (version : List Entry) (whole t : Tree) (before after : List Entry) (old new : Path) (l : Leaf) → IsTrieAt has r whole version → LeadsTo AnyStep has old whole t before after → LeadsToFirst has new whole l before (entries_of t ++ after) → Faces has (Some r) new l before (entries_of t ++ after)
faces_of has r version whole t before after old new l trie leads first = record {
  entry = first.entry;
  rest = first.after;
  is = first.is;
  on = record {
    at = r;
    root_is = refl;
    whole = whole;
    trie = trie_as has r whole version (before ++ (first.entry ∷ first.after)) trie (sym (hangs_between AnyStep old.steps whole old.depth t before after leads.hangs) ∙ ap (λ (es : List Entry). before ++ es) first.is);
    leaf = first.leaf;
  };
}

pub passed_of : (has : ℕ → Cell → Type 0) (r : ℕ) (version : List Entry) (whole t : Tree) (before after : List Entry) (old new : Path) (l : Leaf) → IsTrieAt has r whole version → LeadsTo AnyStep has old whole t before after → LeadsToLast has new whole l (before ++ entries_of t) after → HasPassed has (Some r) new l (before ++ entries_of t) after
passed_of has r version whole t before after old new l trie leads last = record {
  entry = last.entry;
  rest = last.before;
  is = last.is;
  on = record {
    at = r;
    root_is = refl;
    whole = whole;
    trie = trie_as has r whole version (last.before ++ (last.entry ∷ after)) trie
        (sym (hangs_between AnyStep old.steps whole old.depth t before after leads.hangs) ∙ sym (append_assoc before (entries_of t) after) ∙ ap (λ (es : List Entry). es ++ after) last.is ∙ append_assoc last.before (last.entry ∷ []) after);
    leaf = last.leaf;
  };
}

-- the path to the root itself
pub leads_to_root : (has : ℕ → Cell → Type 0) (said : Step → Twigs → Tree → Twigs → Type 0) (r : ℕ) (whole : Tree) (version : List Entry) (path : Path) → IsTrieAt has r whole version → path.depth ≡ 0 → LeadsTo said has path whole whole [] []
leads_to_root has said r whole version path trie e = record { shape = trie.shape; beneath = trie.beneath; hangs = at_depth said path.steps whole 0 path.depth whole [] [] (sym e) (refl, refl, refl) }

same_root : (a b : ℕ) (root mine : Option ℕ) → mine ≡ root → root ≡ Some a → mine ≡ Some b → a ≡ b
same_root a b root mine e f g = cc

-- from the beginning, to the first name
pub faces_from_start : (has : ℕ → Cell → Type 0) (r : ℕ) (root mine : Option ℕ) (path : Path) (l : Leaf) (before after : List Entry) → mine ≡ root → mine ≡ Some r → before ≡ [] → Stands has root (before ++ after) →
    ((version : List Entry) (whole t : Tree) (b a : List Entry) → IsTrieAt has r whole version → t ≡ whole → b ≡ [] → a ≡ [] → Faces has (Some r) path l b (entries_of t ++ a)) → Faces has root path l before after
faces_from_start has r root mine path l before after e f none stands go =
    let is : root ≡ Some r = sym e ∙ f in
    let h = subst (λ (o : Option ℕ). Stands has o (before ++ after)) is stands in
    let all : entries_of h.0 ++ [] ≡ after = append-nil (entries_of h.0) ∙ h.1.holds ∙ ap (λ (es : List Entry). es ++ after) none in
    subst (λ (o : Option ℕ). Faces has o path l before after) (sym is) (subst (λ (es : List Entry). Faces has (Some r) path l es after) (sym none) (subst (Faces has (Some r) path l []) all (go (before ++ after) h.0 h.0 [] [] h.1 refl refl refl)))

-- from right after a name, to the one that comes next
pub faces_from_past : (has : ℕ → Cell → Type 0) (r : ℕ) (root mine : Option ℕ) (path turned new : Path) (l next : Leaf) (before after : List Entry) → mine ≡ root → mine ≡ Some r → HasPassed has root path l before after →
    ((whole t : Tree) (b a : List Entry) → HangsBy AnyStep path.steps whole path.depth t b a → TurnedNext turned whole (b ++ entries_of t) a) →
    ((version : List Entry) (whole t : Tree) (b a : List Entry) → IsTrieAt has r whole version → LeadsTo AnyStep has turned whole t b a → Faces has (Some r) new next b (entries_of t ++ a)) → Faces has root new next before after
faces_from_past has r root mine path turned new l next before after e f p turn go =
    let is : root ≡ Some r = sym e ∙ f in
    let o = p.on in
    let at : o.at ≡ r = same_root o.at r root mine e o.root_is f in
    let x = turn o.whole (leaf p.entry o.leaf.extents) p.rest after o.leaf.leads.hangs in
    let faces = go (p.rest ++ (p.entry ∷ after)) o.whole x.tree (p.rest ++ (p.entry ∷ [])) x.rest (subst (λ (n : ℕ). IsTrieAt has n o.whole (p.rest ++ (p.entry ∷ after))) at o.trie) (record { shape = o.leaf.leads.shape; beneath = o.leaf.leads.beneath; hangs = x.hangs }) in
    subst (λ (y : Option ℕ). Faces has y new next before after) (sym is) (subst (λ (es : List Entry). Faces has (Some r) new next es after) (sym p.is) (subst (Faces has (Some r) new next (p.rest ++ (p.entry ∷ []))) (sym x.is) faces))

pub passed_from_facing : (has : ℕ → Cell → Type 0) (r : ℕ) (root mine : Option ℕ) (path turned new : Path) (l previous : Leaf) (before after : List Entry) → mine ≡ root → mine ≡ Some r → Faces has root path l before after →
    ((whole t : Tree) (b a : List Entry) → HangsBy AnyStep path.steps whole path.depth t b a → TurnedBack turned whole b (entries_of t ++ a)) →
    ((version : List Entry) (whole t : Tree) (b a : List Entry) → IsTrieAt has r whole version → LeadsTo AnyStep has turned whole t b a → HasPassed has (Some r) new previous (b ++ entries_of t) a) → HasPassed has root new previous before after
passed_from_facing has r root mine path turned new l previous before after e f p turn go =
    let is : root ≡ Some r = sym e ∙ f in
    let o = p.on in
    let at : o.at ≡ r = same_root o.at r root mine e o.root_is f in
    let x = turn o.whole (leaf p.entry o.leaf.extents) before p.rest o.leaf.leads.hangs in
    let passed = go (before ++ (p.entry ∷ p.rest)) o.whole x.tree x.rest (p.entry ∷ p.rest) (subst (λ (n : ℕ). IsTrieAt has n o.whole (before ++ (p.entry ∷ p.rest))) at o.trie) (record { shape = o.leaf.leads.shape; beneath = o.leaf.leads.beneath; hangs = x.hangs }) in
    subst (λ (y : Option ℕ). HasPassed has y new previous before after) (sym is) (subst (HasPassed has (Some r) new previous before) (sym p.is) (subst (λ (es : List Entry). HasPassed has (Some r) new previous es (p.entry ∷ p.rest)) (sym x.is) passed))

-- the same place, told by another leaf
pub stands_facing : (has : ℕ → Cell → Type 0) (root : Option ℕ) (old new : Iter) (before after : List Entry) (l : Leaf) → StandsBetween has root old before after → new.root ≡ old.root → new.place ≡ Facing l → Faces has root new.path l before after → StandsBetween has root new before after
stands_facing has root old new before after l s r p f = record { root_is = r ∙ s.root_is; stands = s.stands; told = s.told; place = subst (λ (x : Cursor). IsAt has root new.path x before after) (sym p) f }

pub stands_past : (has : ℕ → Cell → Type 0) (root : Option ℕ) (old new : Iter) (before after : List Entry) (l : Leaf) → StandsBetween has root old before after → new.root ≡ old.root → new.place ≡ Past l → HasPassed has root new.path l before after → StandsBetween has root new before after
stands_past has root old new before after l s r p f = record { root_is = r ∙ s.root_is; stands = s.stands; told = s.told; place = subst (λ (x : Cursor). IsAt has root new.path x before after) (sym p) f }

-- ---- a name passed
same_head : (a b : Entry) (x y : List Entry) → a ∷ x ≡ b ∷ y → a ≡ b
same_head a b x y e = cc

same_tail : (a b : Entry) (x y : List Entry) → a ∷ x ≡ b ∷ y → x ≡ y
same_tail a b x y e = cc

-- the entry that it faces is the first after it
pub faced : (has : ℕ → Cell → Type 0) (root : Option ℕ) (path : Path) (l : Leaf) (before after : List Entry) (e : Entry) → Faces has root path l before (e ∷ after) → OnLeaf has root path l before e after
faced has root path l before after e f =
    let h = same_head e f.entry after f.rest f.is in
    subst (λ (es : List Entry). OnLeaf has root path l before e es) (sym (same_tail e f.entry after f.rest f.is)) (subst (λ (x : Entry). OnLeaf has root path l before x f.rest) (sym h) f.on)

last_same : (a b : Entry) (x y : List Entry) → x ++ (a ∷ []) ≡ y ++ (b ∷ []) → (a ≡ b) × (x ≡ y)
last_same a b [] [] e = (same_head a b [] [] e, refl)
last_same a b [] (v ∷ []) e = absurd (short (b ∷ []) (λ n. n) (same_tail a v [] (b ∷ []) e))
  where
    short : (xs : List Entry) → (ℕ → ℕ) → [] ≡ b ∷ [] → ⊥
    short xs f h = cc
last_same a b [] (v ∷ (w ∷ ys)) e = absurd (short (same_tail a v [] (w ∷ (ys ++ (b ∷ []))) e))
  where
    short : [] ≡ w ∷ (ys ++ (b ∷ [])) → ⊥
    short h = cc
last_same a b (u ∷ []) [] e = absurd (short (same_tail u b (a ∷ []) [] e))
  where
    short : a ∷ [] ≡ [] → ⊥
    short h = cc
last_same a b (u ∷ (w ∷ xs)) [] e = absurd (short (same_tail u b (w ∷ (xs ++ (a ∷ []))) [] e))
  where
    short : w ∷ (xs ++ (a ∷ [])) ≡ [] → ⊥
    short h = cc
last_same a b (u ∷ xs) (v ∷ ys) e =
    let r = last_same a b xs ys (same_tail u v (xs ++ (a ∷ [])) (ys ++ (b ∷ [])) e) in
    (r.0, ap (λ (z : Entry). z ∷ xs) (same_head u v (xs ++ (a ∷ [])) (ys ++ (b ∷ [])) e) ∙ ap (λ (zs : List Entry). v ∷ zs) r.1)

pub was_passed : (has : ℕ → Cell → Type 0) (root : Option ℕ) (path : Path) (l : Leaf) (before after : List Entry) (e : Entry) → HasPassed has root path l (before ++ (e ∷ [])) after → OnLeaf has root path l before e after
was_passed has root path l before after e p =
    let s = last_same e p.entry before p.rest p.is in
    subst (λ (es : List Entry). OnLeaf has root path l es e after) (sym s.1) (subst (λ (x : Entry). OnLeaf has root path l p.rest x after) (sym s.0) p.on)

pub stepped_over : (has : ℕ → Cell → Type 0) (root : Option ℕ) (old new : Iter) (before after : List Entry) (e : Entry) (l : Leaf) → StandsBetween has root old before (e ∷ after) → new.root ≡ old.root → new.place ≡ Past l → OnLeaf has root new.path l before e after → StandsBetween has root new (before ++ (e ∷ [])) after
stepped_over has root old new before after e l s r p on =
    let all = sym (append_assoc before (e ∷ []) after) in
    record {
      root_is = r ∙ s.root_is;
      stands = subst (Stands has root) all s.stands;
      told = subst (EachTells Leads) all s.told;
      place = subst (λ (x : Cursor). IsAt has root new.path x (before ++ (e ∷ [])) after) (sym p) (record { entry = e; rest = before; is = refl; on = on });
    }

pub stepped_back : (has : ℕ → Cell → Type 0) (root : Option ℕ) (old new : Iter) (before after : List Entry) (e : Entry) (l : Leaf) → StandsBetween has root old (before ++ (e ∷ [])) after → new.root ≡ old.root → new.place ≡ Facing l → OnLeaf has root new.path l before e after → StandsBetween has root new before (e ∷ after)
stepped_back has root old new before after e l s r p on =
    let all = append_assoc before (e ∷ []) after in
    record {
      root_is = r ∙ s.root_is;
      stands = subst (Stands has root) all s.stands;
      told = subst (EachTells Leads) all s.told;
      place = subst (λ (x : Cursor). IsAt has root new.path x before (e ∷ after)) (sym p) (record { entry = e; rest = after; is = refl; on = on });
    }

pub entry_told : (before after : List Entry) (e : Entry) (rest : List Entry) → after ≡ e ∷ rest → EachTells Leads (before ++ after) → Leads e.key e.item
entry_told before after e rest is told = told e (in_right e before after (subst (InList e) (sym is) (inl refl)))

pub last_told : (before after : List Entry) (e : Entry) (rest : List Entry) → before ≡ rest ++ (e ∷ []) → EachTells Leads (before ++ after) → Leads e.key e.item
last_told before after e rest is told = told e (in_left e before after (subst (InList e) (sym is) (in_right e rest (e ∷ []) (inl refl))))

-- ---- a list with something in it
pub some_none : (l : Leaf) → Some l ≡ None → ⊥
some_none l e = cc

pub record WithFirst (es : List Entry) : Type 0 where
  pub entry : Entry
  pub rest : List Entry
  pub is : es ≡ entry ∷ rest

pub with_first : (es : List Entry) → (es ≡ [] → ⊥) → WithFirst es
with_first [] never = absurd (never refl)
with_first (e ∷ es) never = record { entry = e; rest = es; is = refl }

pub record WithLast (es : List Entry) : Type 0 where
  pub entry : Entry
  pub rest : List Entry
  pub is : es ≡ rest ++ (entry ∷ [])

pub with_last : (es : List Entry) → (es ≡ [] → ⊥) → WithLast es
with_last [] never = absurd (never refl)
with_last (e ∷ []) never = record { entry = e; rest = []; is = refl }
with_last (e ∷ (f ∷ es)) never = let x = with_last (f ∷ es) (some_list f es) in record { entry = x.entry; rest = e ∷ x.rest; is = ap (λ (ys : List Entry). e ∷ ys) x.is }
  where
    some_list : (y : Entry) (ys : List Entry) → y ∷ ys ≡ [] → ⊥
    some_list y ys h = cc

some_list : (e : Entry) (es : List Entry) → e ∷ es ≡ [] → ⊥
some_list e es h = cc

pub no_last : (e : Entry) (es : List Entry) → es ++ (e ∷ []) ≡ [] → ⊥
no_last e [] h = some_list e [] h
no_last e (x ∷ es) h = some_list x (es ++ (e ∷ [])) h

-- the leaf that it faces, and the one that it has passed, are named
pub ahead_named : (has : ℕ → Cell → Type 0) (root : Option ℕ) (path : Path) (r : Option Leaf) (before after : List Entry) (e : Entry) → MatchOption r (e ∷ after ≡ []) (λ (l : Leaf). Faces has root path l before (e ∷ after)) → EachTells Leads (before ++ (e ∷ after)) → IsSomeAnd r (λ (l : Leaf). IsNamed has l e)
ahead_named has root path None before after e none told = absurd (some_list e after none)
ahead_named has root path (Some l) before after e faces told = ((faced has root path l before after e faces).leaf.leaf_of, told e (in_right e before (e ∷ after) (inl refl)))

pub behind_named : (has : ℕ → Cell → Type 0) (root : Option ℕ) (path : Path) (r : Option Leaf) (before after : List Entry) (e : Entry) → MatchOption r (before ++ (e ∷ []) ≡ []) (λ (l : Leaf). HasPassed has root path l (before ++ (e ∷ [])) after) → EachTells Leads ((before ++ (e ∷ [])) ++ after) → IsSomeAnd r (λ (l : Leaf). IsNamed has l e)
behind_named has root path None before after e none told = absurd (no_last e before none)
behind_named has root path (Some l) before after e passed told = ((was_passed has root path l before after e passed).leaf.leaf_of, told e (in_left e (before ++ (e ∷ [])) after (in_right e before (e ∷ []) (inl refl))))

-- What is known at a branch on the way.
use Rattle.std.proofs.Common.{◌≡◌, ℕ, suc, ◌+◌, ◌%◌, ◌^◌, ◌<◌, ◌≤◌, List, [], ◌∷◌, count_ones, arith, refl, sym, ◌∙◌, ap, subst}
use Rattle.packed_node.specs.declared.Cell.{Cell}
use Rattle.packed_node.specs.declared.Branch.{Branch}
use Rattle.trie_model.specs.Keys.{at}
use Rattle.trie_model.specs.Memory.{top_cell}
use Rattle.trie_model.specs.Trees.{Tree, Twigs, count, bitmap_of, IsTree, beside}
use Rattle.trie_model.specs.Trees.Tree.{branch}
use Rattle.trie_model.specs.Trees.Twigs.{twig}
use Rattle.trie_model.proofs.BitmapLaws.{ones_of, index_of}
use Rattle.trie_model.proofs.SplitLaws.{rising_of}
use Rattle.trie_read.specs.Reads.{IsTop}
use Rattle.trie_write.specs.declared.descend.Descent.{Descent}
use Rattle.trie_space.specs.Ways.{NotBefore, Fork, fork, plug, Along, IsWay, twigs_of}
use Rattle.trie_write.specs.Tops.{IsBranchTop}
use Rattle.trie_write.specs.Descents.{Through, IsDescent, IsLastDescent}
use Rattle.trie_space.proofs.WayLaws.{IsFork, is_fork, fork_count, twig_of}

-- ---- where the way ends, and where it goes on

pub no_way : (place : ℕ) (key : List ℕ) (way : List Fork) (end : Tree) → IsWay place key way end → NotBefore place (plug way end) → way ≡ []
no_way place key [] end w n = refl
no_way place key (f ∷ way) end w n = absurd (let a = w.along.0 in omega arith)

branch_parts : (o w : ℕ) (ts : Twigs) (p x : ℕ) (us : Twigs) → branch o w ts ≡ branch p x us → (o ≡ p) × (w ≡ x) × (ts ≡ us)
branch_parts o w ts p x us e = (cc, cc, cc)

pub through : (place : ℕ) (key : List ℕ) (b : Branch) (way : List Fork) (end : Tree) → IsWay place key way end → IsBranchTop (plug way end) b → b.offset < place → Through b way end
through place key b [] end w t l = absurd (let n : NotBefore place (branch b.offset b.twigs t.below) = subst (NotBefore place) t.is w.ends in omega arith)
through place key b (f ∷ way) end w t l =
    let e = branch_parts f.offset f.first (beside f.left (twig f.position (plug way end) f.right)) b.offset b.twigs t.below t.is in
    record {
      left = f.left;
      position = f.position;
      right = f.right;
      rest = way;
      is = ap (λ (o : ℕ). record { offset = o; first = f.first; left = f.left; position = f.position; right = f.right } ∷ way) e.0 ∙ ap (λ (x : ℕ). record { offset = b.offset; first = x; left = f.left; position = f.position; right = f.right } ∷ way) e.1;
      bits = t.bits ∙ ap bitmap_of (sym e.2);
    }

module _ {has : ℕ → Cell → Type 0} {place low : ℕ} {key : List ℕ} {cell : Cell} {way : List Fork} {end : Tree} (top : IsTop has low cell (plug way end)) (w : IsWay place key way end) {b : Branch} (t : Through b way end) where
  abbrev pub here : Fork
  here = record { offset = b.offset; first = b.twigs; left = t.left; position = t.position; right = t.right }

  abbrev pub below : Tree
  below = plug t.rest end

  pub whole : plug way end ≡ fork here below
  whole = ap (λ (x : List Fork). plug x end) t.is

  pub top_here : IsTop has low cell (fork here below)
  top_here = subst (IsTop has low cell) whole top

  pub known : IsFork low here below
  known = is_fork low here below top_here.tree

  pub way_on : IsWay place key t.rest end
  way_on = record { along = (subst (Along place key) t.is w.along).2; ends = w.ends }

  pub at_key : at key b.offset ≡ t.position
  at_key = sym (subst (Along place key) t.is w.along).1

  pub key_inside : at key b.offset < 47
  key_inside = let e = at_key in let i = known.inside in omega arith

  pub n_is : count_ones b.bitmap ≡ twigs_of here
  n_is = ap count_ones t.bits ∙ ones_of 0 47 (beside t.left (twig t.position below t.right)) (rising_of b.offset 0 (beside t.left (twig t.position below t.right)) (let z : 0 ≤ 47 = omega arith in z) top_here.tree.5) ∙ fork_count here below

  pub index_of_key : count_ones (b.bitmap % 2 ^ at key b.offset) ≡ count t.left
  index_of_key =
      ap (λ (x : ℕ). count_ones (x % 2 ^ at key b.offset)) t.bits ∙ ap (λ (p : ℕ). count_ones (bitmap_of (beside t.left (twig t.position below t.right)) % 2 ^ p)) at_key
      ∙ index_of 0 47 t.position (beside t.left (twig t.position below t.right)) (record { left = t.left; right = twig t.position below t.right; is = refl; lower = known.lower; upper = (omega arith, known.inside, known.upper) })

  pub twig_there : (index : ℕ) → index ≡ count_ones (b.bitmap % 2 ^ at key b.offset) → has (b.twigs + index) (top_cell below)
  twig_there index e = subst (λ (i : ℕ). has (b.twigs + i) (top_cell below)) (sym (e ∙ index_of_key)) (twig_of has here below top_here.beneath).0

  pub descent_is : (index : ℕ) (next : Cell) → index ≡ count_ones (b.bitmap % 2 ^ at key b.offset) → b.offset < place → ((c : Cell) → has (b.twigs + index) c → next ≡ c) → IsDescent place (record { branch = b; index = index; next = next }) way end
  descent_is index next e before read = record { through = t; before = before; index_is = e ∙ index_of_key; next_is = read (top_cell below) (twig_there index e) }

-- the twig's tree is a top of its own
pub top_below : {has : ℕ → Cell → Type 0} {place low : ℕ} {key : List ℕ} {cell next : Cell} {way : List Fork} {end : Tree} (top : IsTop has low cell (plug way end)) (w : IsWay place key way end) {b : Branch} (t : Through b way end) → next ≡ top_cell (plug t.rest end) → IsTop has (b.offset + 1) next (plug t.rest end)
top_below {has} {end = end} top w {b} t is = record {
  tree = (let m : suc b.offset ≡ b.offset + 1 = omega arith in subst (λ (x : ℕ). IsTree x (plug t.rest end)) m (known top w t).tree);
  is = is;
  beneath = (twig_of has (here top w t) (plug t.rest end) (top_here top w t).beneath).1;
}

-- no descent comes after it, or a further one does
pub last_here : {t : Descent} {way : List Fork} {end : Tree} (descent : IsDescent 65535 t way end) → descent.through.rest ≡ [] → IsLastDescent t way end
last_here {way = way} descent alone = record { upper = []; lower = way; whole = refl; descent = descent; alone = alone }

pub last_further : {t f : Descent} {way : List Fork} {end : Tree} (descent : IsDescent 65535 t way end) → IsLastDescent f descent.through.rest end → IsLastDescent f way end
last_further {t} descent l = record { upper = record { offset = t.branch.offset; first = t.branch.twigs; left = descent.through.left; position = descent.through.position; right = descent.through.right } ∷ l.upper; lower = l.lower; whole = descent.through.is ∙ ap (λ w. record { offset = t.branch.offset; first = t.branch.twigs; left = descent.through.left; position = descent.through.position; right = descent.through.right } ∷ w) l.whole; descent = l.descent; alone = l.alone }

-- where nothing has changed
pub same_top : {S : Type 0} (has : S → ℕ → Cell → Type 0) {s s1 : S} {low : ℕ} {cell : Cell} {t : Tree} → s1 ≡ s → IsTop (has s) low cell t → IsTop (has s1) low cell t
same_top has {low = low} {cell} {t} same top = subst (λ s. IsTop (has s) low cell t) (sym same) top

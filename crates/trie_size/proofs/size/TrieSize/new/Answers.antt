use Rattle.std.proofs.Common.{inl, refl, sym}
use Rattle.trie_size.proofs.SizeLaws.{none_sized}
use Rattle.trie_size.proofs.size.TrieSize.new.Goals as goal

pub returns : goal.returns
returns c = record { names = refl; nodes = sym none_sized.0; cells = sym none_sized.1; ends = inl (refl, refl) }

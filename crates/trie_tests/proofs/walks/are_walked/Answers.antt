use Rattle.trie_write.proofs.RootLaws.{stands_of}
use Rattle.trie_tests.proofs.walks.are_walked.Goals as goal

-- the trie that the names were put into stands for a version
pub walks_by-requires : goal.walks_by-requires
walks_by-requires c =
    let s = c.in_ok-root.ensures.stands in
    (s.0, c.new-reading.ensures.holds s.0 (stands_of _ _ _ s.0 c.in_ok-root.root s.1) s.2)

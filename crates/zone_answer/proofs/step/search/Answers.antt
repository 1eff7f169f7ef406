use Rattle.std.proofs.Common.{◌∙◌, [], ◌++◌, map, sym, ap, subst, append-nil, refl, None}
use Rattle.zone_model.specs.Versions.{owned}
use Rattle.trie_model.specs.Order.{chain}
use Rattle.trie_read.specs.Above.{AreAncestors}
use Rattle.zone_answer.specs.Answers.{Step}
use Rattle.zone_answer.specs.Parts.{Gives}
use Rattle.zone_answer.specs.Standing.{Shows, trie_entry}
use Rattle.zone_answer.proofs.ChainLaws.{there_exists}
use Rattle.zone_answer.proofs.HeldLaws.{read_of}
use Rattle.zone_answer.proofs.ReachLaws.{above_at, apart_at, found_at, none_owned, no_node}
use Rattle.zone_answer.proofs.StepLaws.{step_absent, step_cut}
use Rattle.zone_answer.proofs.step.search.Goals as goal

pub read-len-requires-clause-there : goal.read-len-requires-clause-there
read-len-requires-clause-there g c =
    let all = map trie_entry c.requires.shown.0 in
    let start = subst (λ s. g.V.Reading.stands s c.restart.new.iter [] all) (sym c.restart.ensures.same) (c.restart.ensures.start all c.requires.shown.1.held) in
    let near = c.in-Some-reached.ensures.nearest [] all start in
    (near.entry, subst (λ s. g.V.Reading.lies s c.in-Some-reached.met.leaf near.entry) (sym (c.cut_over.ensures.same ∙ c.reach-reached.ensures.same)) near.leaf)

pub of-entry-requires : goal.of-entry-requires
of-entry-requires g c =
    let zone = c.requires.shown.0 in
    let shows = c.requires.shown.1 in
    let all = map trie_entry zone in
    let start = subst (λ s. g.V.Reading.stands s c.restart.new.iter [] all) (sym c.restart.ensures.same) (c.restart.ensures.start all shows.held) in
    let near = c.in-Some-reached.ensures.nearest [] all start in
    let lies = subst (λ s. g.V.Reading.lies s c.in-Some-reached.met.leaf near.entry) (sym (c.cut_over.ensures.same ∙ c.reach-reached.ensures.same)) near.leaf in
    let key = found_at (g.V.Reading.lies c.restart.new.self) c.args.walker.now.key all c.in-Some-reached.met c.in-None.is near in
    let read = c.read-len.ensures.item near.entry lies in
    (owned c.args.name.now zone, (read_of c.args.name.now zone near.entry c.read-len.new.out c.read-len.result c.wire-wire.ensures.name shows.version_is near.there (key ∙ c.requires.key) read.0 read.1).says)

pub give_absent-requires-clause-apart : goal.give_absent-requires-clause-apart
give_absent-requires-clause-apart g c =
    let zone = c.requires.shown.0 in
    let shows = c.requires.shown.1 in
    let all = map trie_entry zone in
    let start = subst (λ s. g.V.Reading.stands s c.restart.new.iter [] all) (sym c.restart.ensures.same) (c.restart.ensures.start all shows.held) in
    let near = c.in-Some-reached.ensures.nearest [] all start in
    let now = subst (λ s. Shows (g.V.Reading.holds s) zone) (sym (c.cut_over.ensures.same ∙ c.reach-reached.ensures.same ∙ c.restart.ensures.same)) shows in
    let stands = subst (λ s. g.V.Reading.stands s c.reach-reached.new.iter [] all) (sym (c.cut_over.ensures.same ∙ c.reach-reached.ensures.same)) (c.in-Some-reached.ensures.start [] all start) in
    (zone, apart_at (g.V.Reading.stands c.cut_over.new.version c.reach-reached.new.iter) (g.V.Reading.lies c.restart.new.self) c.args.walker.now.key c.args.name.now zone c.in-Some-reached.met c.in-Some-difference.first c.requires.key c.in-Some-difference.is near now stands)

pub refer_above-requires-clause-held : goal.refer_above-requires-clause-held
refer_above-requires-clause-held g c =
    let zone = c.requires.shown.0 in
    let shows = c.requires.shown.1 in
    let all = map trie_entry zone in
    let start = subst (λ s. g.V.Reading.stands s c.restart.new.iter [] all) (sym c.restart.ensures.same) (c.restart.ensures.start all shows.held) in
    let names = subst (λ s. AreAncestors (g.V.Reading.lies s) (chain c.args.walker.now.key all) c.reach-reached.new.above) (sym c.reach-reached.ensures.same) (c.reach-reached.ensures.above [] all start) in
    let above = above_at (g.V.Reading.lies c.reach-reached.new.self) c.args.walker.now.key c.args.name.now zone c.reach-reached.new.above c.as_slice.result.now c.requires.key c.as_slice.ensures.names
    (subst (λ s. Shows (g.V.Reading.holds s) zone) (sym (c.reach-reached.ensures.same ∙ c.restart.ensures.same)) shows) names in
    (_, (c.in-Some.ensures.cut zone above).1)

pub returns-in-Some-clause-gives : goal.returns-in-Some-clause-gives
returns-in-Some-clause-gives g c zone shows =
    let all = map trie_entry zone in
    let start = subst (λ s. g.V.Reading.stands s c.restart.new.iter [] all) (sym c.restart.ensures.same) (c.restart.ensures.start all shows.held) in
    let names = subst (λ s. AreAncestors (g.V.Reading.lies s) (chain c.args.walker.now.key all) c.reach-reached.new.above) (sym c.reach-reached.ensures.same) (c.reach-reached.ensures.above [] all start) in
    let above = above_at (g.V.Reading.lies c.reach-reached.new.self) c.args.walker.now.key c.args.name.now zone c.reach-reached.new.above c.as_slice.result.now c.requires.key c.as_slice.ensures.names
    (subst (λ s. Shows (g.V.Reading.holds s) zone) (sym (c.reach-reached.ensures.same ∙ c.restart.ensures.same)) shows) names in
    let cut = c.in-Some.ensures.cut zone above in
    subst (λ (s : Step). Gives s (g.S.RowSink.has c.args.rows.now) (g.S.RowSink.has c.refer_above.new.rows) c.args.walker.now.target c.refer_above.result)
    (step_cut c.args.origin.now c.args.name.now zone c.args.rtype _ _ cut.0 refl) (c.refer_above.ensures c.args.walker.now.target _ cut.1)

pub returns-in_default-reached-clause-gives : goal.returns-in_default-reached-clause-gives
returns-in_default-reached-clause-gives g c zone shows =
    let all = map trie_entry zone in
    let start = subst (λ s. g.V.Reading.stands s c.restart.new.iter [] all) (sym c.restart.ensures.same) (c.restart.ensures.start all shows.held) in
    let empty = c.in_default-reached.ensures.nearest [] all start in
    let names = subst (λ s. AreAncestors (g.V.Reading.lies s) (chain c.args.walker.now.key all) c.reach-reached.new.above) (sym c.reach-reached.ensures.same) (c.in_default-reached.ensures.above [] all start) in
    let above = above_at (g.V.Reading.lies c.reach-reached.new.self) c.args.walker.now.key c.args.name.now zone c.reach-reached.new.above c.as_slice.result.now c.requires.key c.as_slice.ensures.names
    (subst (λ s. Shows (g.V.Reading.holds s) zone) (sym (c.reach-reached.ensures.same ∙ c.restart.ensures.same)) shows) names in
    let is = step_absent c.args.origin.now c.args.name.now zone c.args.rtype None (c.in_default.ensures.cut zone above) (none_owned c.args.name.now zone empty) (no_node c.args.name.now zone empty) in
    (ap (λ (s : Step). s.next) is, λ rows had. subst (g.S.RowSink.has c.args.rows.now) (sym (append-nil rows) ∙ ap (λ (s : Step). rows ++ s.rows) is) had)

pub returns-in-Some-difference-clause-gives : goal.returns-in-Some-difference-clause-gives
returns-in-Some-difference-clause-gives g c zone shows =
    let all = map trie_entry zone in
    let start = subst (λ s. g.V.Reading.stands s c.restart.new.iter [] all) (sym c.restart.ensures.same) (c.restart.ensures.start all shows.held) in
    let near = c.in-Some-reached.ensures.nearest [] all start in
    let now = subst (λ s. Shows (g.V.Reading.holds s) zone) (sym (c.cut_over.ensures.same ∙ c.reach-reached.ensures.same ∙ c.restart.ensures.same)) shows in
    let stands = subst (λ s. g.V.Reading.stands s c.reach-reached.new.iter [] all) (sym (c.cut_over.ensures.same ∙ c.reach-reached.ensures.same)) (c.in-Some-reached.ensures.start [] all start) in
    let apart = apart_at (g.V.Reading.stands c.cut_over.new.version c.reach-reached.new.iter) (g.V.Reading.lies c.restart.new.self) c.args.walker.now.key c.args.name.now zone c.in-Some-reached.met c.in-Some-difference.first c.requires.key c.in-Some-difference.is near now stands in
    let names = subst (λ s. AreAncestors (g.V.Reading.lies s) (chain c.args.walker.now.key all) c.reach-reached.new.above) (sym c.reach-reached.ensures.same) (c.in-Some-reached.ensures.above [] all start) in
    let above = above_at (g.V.Reading.lies c.reach-reached.new.self) c.args.walker.now.key c.args.name.now zone c.reach-reached.new.above c.as_slice.result.now c.requires.key c.as_slice.ensures.names
    (subst (λ s. Shows (g.V.Reading.holds s) zone) (sym (c.reach-reached.ensures.same ∙ c.restart.ensures.same)) shows) names in
    c.give_absent.ensures.gives zone c.args.origin.now apart (c.in_default.ensures.cut zone above)

pub returns-in-None-clause-gives : goal.returns-in-None-clause-gives
returns-in-None-clause-gives g c zone shows =
    let all = map trie_entry zone in
    let start = subst (λ s. g.V.Reading.stands s c.restart.new.iter [] all) (sym c.restart.ensures.same) (c.restart.ensures.start all shows.held) in
    let near = c.in-Some-reached.ensures.nearest [] all start in
    let lies = subst (λ s. g.V.Reading.lies s c.in-Some-reached.met.leaf near.entry) (sym (c.cut_over.ensures.same ∙ c.reach-reached.ensures.same)) near.leaf in
    let key = found_at (g.V.Reading.lies c.restart.new.self) c.args.walker.now.key all c.in-Some-reached.met c.in-None.is near ∙ c.requires.key in
    let read = c.read-len.ensures.item near.entry lies in
    let is = read_of c.args.name.now zone near.entry c.read-len.new.out c.read-len.result c.wire-wire.ensures.name shows.version_is near.there key read.0 read.1 in
    let names = subst (λ s. AreAncestors (g.V.Reading.lies s) (chain c.args.walker.now.key all) c.reach-reached.new.above) (sym c.reach-reached.ensures.same) (c.in-Some-reached.ensures.above [] all start) in
    let above = above_at (g.V.Reading.lies c.reach-reached.new.self) c.args.walker.now.key c.args.name.now zone c.reach-reached.new.above c.as_slice.result.now c.requires.key c.as_slice.ensures.names
    (subst (λ s. Shows (g.V.Reading.holds s) zone) (sym (c.reach-reached.ensures.same ∙ c.restart.ensures.same)) shows) names in
    c.give_own.ensures zone (c.in_default.ensures.cut zone above) (c.of-entry.ensures (owned c.args.name.now zone) is.says) (there_exists c.args.name.now zone c.wire-wire.ensures.name shows.version_is.items (near.entry, near.there, key))

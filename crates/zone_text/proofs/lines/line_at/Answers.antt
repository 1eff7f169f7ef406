use Rattle.std.proofs.Common.{sym, ◌∙◌, refl}
use Rattle.zone_text.proofs.LineLemmas.{first_line_of, last_line_of}
use Rattle.zone_text.proofs.lines.line_at.Goals as goal

pub returns-in-Some : goal.returns-in-Some
returns-in-Some c = first_line_of c.args.bytes.now _ c.args.at c.in-Some.n c.stripped.result refl c.requires.inside (sym c.first_feed.ensures ∙ c.in-Some.is) c.stripped.ensures.stripped c.stripped.ensures.small

pub returns-in-None : goal.returns-in-None
returns-in-None c = last_line_of c.args.bytes.now _ c.args.at refl c.requires.inside (sym c.first_feed.ensures ∙ c.in-None.is)

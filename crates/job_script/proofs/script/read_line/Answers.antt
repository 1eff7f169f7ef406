use Rattle.job_script.proofs.PhraseLemmas.{line_refused}
use Rattle.job_script.proofs.script.read_line.Goals as goal

pub returns-in-Err-clause-reads : goal.returns-in-Err-clause-reads
returns-in-Err-clause-reads c = line_refused c.args.bytes.now c.args.at c.args.line c.in-Err.refusal c.no_tokens.result c.requires.inside c.in-Err.ensures.says.reads c.no_tokens.ensures

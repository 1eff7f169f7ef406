use Rattle.job_make.proofs.LoadLemmas.{removal_pieces}
use Rattle.job_make.proofs.turns.push_removal.Goals as goal

pub returns : goal.returns
returns c =
    removal_pieces c.args.out.now.items c.extend_from_slice.new.self.items c.push_name.new.out.items c.extend_from_slice-2.new.self.items c.args.name
    c.in_ok-extend_from_slice.ensures.items c.in_ok-push_name.ensures c.in_ok-extend_from_slice-2.ensures.items

use Rattle.job_make.proofs.LoadLemmas.{move_pieces}
use Rattle.job_make.proofs.turns.push_move.Goals as goal

pub returns : goal.returns
returns c =
    move_pieces c.args.out.now.items c.extend_from_slice.new.self.items c.push_name.new.out.items c.extend_from_slice-2.new.self.items c.push_name-2.new.out.items c.extend_from_slice-3.new.self.items c.push_address.new.out.items c.extend_from_slice-4.new.self.items c.args.name c.args.address
    c.in_ok-extend_from_slice.ensures.items c.in_ok-push_name.ensures c.in_ok-extend_from_slice-2.ensures.items c.in_ok-push_name-2.ensures c.in_ok-extend_from_slice-3.ensures.items c.in_ok-push_address.ensures c.in_ok-extend_from_slice-4.ensures.items

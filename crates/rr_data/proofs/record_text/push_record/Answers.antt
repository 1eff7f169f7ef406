use Rattle.rr_data.proofs.StartsLemmas.{starts_chain, starts_pushed}
use Rattle.rr_data.proofs.record_text.push_record.Goals as goal

pub returns-in_err-push_data_in-clause-kept : goal.returns-in_err-push_data_in-clause-kept
returns-in_err-push_data_in-clause-kept c =
    let before = starts_chain c.push_type.new.out.items c.push_head.new.out.items c.args.out.now.items c.push_type.ensures.kept c.push_head.ensures.kept in
    starts_chain c.push_data_in.new.out.items c.push.new.self.items c.args.out.now.items c.push_data_in.ensures.kept
    (starts_pushed c.push.new.self.items c.push_type.new.out.items _ c.args.out.now.items c.in_ok-push.ensures.items before)

use Rattle.std.proofs.Common.{rules, Ok, arith, true}
use Rattle.job_model.specs.Sizes.{trie_entries}
use Rattle.job_report.specs.Pieces.{pieces_text}
use Rattle.qp_main.specs.declared.status.Status.TheVariants as status
use Rattle.qp_main.proofs.DueLemmas.{front_dump, none_dumped, refused_dump, short_is}
use Rattle.live_session.proofs.ReadingLaws.{entries_rise}
use Rattle.qp_main.proofs.dumping.write_zone.Goals as goal

pub zone_size-requires : goal.zone_size-requires
zone_size-requires g c = entries_rise c.args.invocation.now.origin c.args.zone.now.pairs c.requires.zone

pub returns-in_default-clause-due : goal.returns-in_default-clause-due
returns-in_default-clause-due g c =
    record {
      written = search rules;
      cut_short = λ short. none_dumped c.args.invocation.now.chunks c.args.style c.args.invocation.now.origin (Ok c.args.zone.now.pairs) _;
      others = search rules;
    }

pub returns-in-Ok-no_room-clause-due : goal.returns-in-Ok-no_room-clause-due
returns-in-Ok-no_room-clause-due g c =
    record {
      written = search rules;
      cut_short = λ short.
          let i = c.args.invocation.now in
          let zone = c.args.zone.now.pairs in
          let text = pieces_text c.in-Ok-no_room.text in
          record {
            status = status.DoesNotFit;
            text = text;
            is_due =
                refused_dump i.chunks c.args.style i.origin zone c.cells-cells.result c.room_in-limit.result text (c.cells-cells.ensures (trie_entries zone) c.in-Ok.ensures) c.room_in-limit.ensures c.if-cells-limit.true
                c.in-Ok-no_room.ensures;
            grew = c.write_answer.ensures.front (short_is true c.write_answer.result short c.write_answer.ensures.only.1);
          };
      others = search rules;
    }

pub returns-in-Err-clause-due : goal.returns-in-Err-clause-due
returns-in-Err-clause-due g c =
    record {
      written = search rules;
      cut_short = λ short. none_dumped c.args.invocation.now.chunks c.args.style c.args.invocation.now.origin (Ok c.args.zone.now.pairs) _;
      others = search rules;
    }

pub returns-in-Err-Fault-clause-due : goal.returns-in-Err-Fault-clause-due
returns-in-Err-Fault-clause-due g c =
    record {
      written = search rules;
      cut_short = λ short.
          let i = c.args.invocation.now in
          let zone = c.args.zone.now.pairs in
          front_dump i.chunks c.args.style i.origin c.args.zone.now.origin zone _ _ _ _ (c.cells-cells.ensures (trie_entries zone) c.in-Ok.ensures) c.room_in-limit.ensures (omega (arith, c.if-cells-limit.false)) c.requires.origin
          c.in-Err-Fault.ensures.err;
      others = search rules;
    }

pub returns-in-Err-Memory-clause-due : goal.returns-in-Err-Memory-clause-due
returns-in-Err-Memory-clause-due g c =
    record {
      written = search rules;
      cut_short = λ short.
          let i = c.args.invocation.now in
          let zone = c.args.zone.now.pairs in
          front_dump i.chunks c.args.style i.origin c.args.zone.now.origin zone _ _ _ _ (c.cells-cells.ensures (trie_entries zone) c.in-Ok.ensures) c.room_in-limit.ensures (omega (arith, c.if-cells-limit.false)) c.requires.origin
          c.in-Err-Memory.ensures.err;
      others = search rules;
    }

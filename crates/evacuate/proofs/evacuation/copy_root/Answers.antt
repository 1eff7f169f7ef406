use Rattle.std.proofs.Common.{◌/◌, sym, ◌∙◌}
use Rattle.trie_space.proofs.SpaceLaws.{frame_refl, fenced_of, ok_map}
use Rattle.evacuate.proofs.BeginLaws.{new_one, root_old, root_writable}
use Rattle.evacuate.proofs.FillingLaws.{moves_none}
use Rattle.evacuate.proofs.evacuation.copy_root.Goals as goal

pub returns-then-is_there-clause-copied : goal.returns-then-is_there-clause-copied
returns-then-is_there-clause-copied g c =
    let there = sym c.is_there.ensures ∙ c.if-is_there.true in
    record {
      stood = λ es t h. h;
      elsewhere = new_one c.args.usage.now.given c.args.chunk (c.args.root / 1024) there;
      writable = root_writable c.args.chunk c.known.ensures c.requires.fills c.requires.ready c.requires.stood.stood there;
      moves = moves_none _ _ c.requires.fills;
    }

pub returns-then-is_there-clause-rest : goal.returns-then-is_there-clause-rest
returns-then-is_there-clause-rest g c = record { frame = fenced_of (frame_refl _ _); ready = c.requires.ready }

pub returns-clause-copied : goal.returns-clause-copied
returns-clause-copied g c =
    let old = root_old c.args.chunk c.known.ensures c.requires.stood.stood (sym c.is_there.ensures ∙ c.if-is_there.false) in
    ok_map c.move_root.result (λ at m. record { stood = m.stood; elsewhere = m.elsewhere _ c.requires.fills; writable = m.writable; moves = (m.paid _ c.requires.fills old).moves }) c.move_root.ensures.moved

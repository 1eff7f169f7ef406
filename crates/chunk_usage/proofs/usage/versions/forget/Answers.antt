use Rattle.std.proofs.Common.{◌≡◌, length, drop}
use Rattle.std.proofs.lemmas.List.Elements.{All-append, All-take, All-drop}
use Rattle.chunk_usage.specs.Ledger.{Row}
use Rattle.chunk_usage.proofs.usage.versions.forget.Goals as goal

pub returns-clause-wide : goal.returns-clause-wide
returns-clause-wide c n h =
    let P : Row → Type 0 = λ r. length r.chunks ≡ n in
    All-append P c.put_last.new.rows (drop c.args.rows c.args.slots.now) (c.put_last.ensures.wide n (All-take P c.args.rows c.args.slots.now h)) (All-drop P c.args.rows c.args.slots.now h)

use Rattle.std.specs.Prelude.{Result, Ok, Err, IfOk}
use Rattle.chunk_usage.specs.Ledger.{reserve_of}
use Rattle.chunk_usage.proofs.SpaceLaws.{Hands, handed, spares}
use Rattle.chunk_usage.proofs.usage.as_space.UsageSpace.alloc.Goals as goal

hands : (c : goal.After-alloc) → Hands c.args.self.now c.alloc.new.self c.args.n c.alloc.result
hands c = handed (reserve_of c.args.self.now) c.args.self.now c.known.ensures c.args.n c.requires.some c.requires.few c.alloc.new.self c.alloc.result c.alloc.ensures.after c.alloc.ensures.grant

both_ok : {A E : Type 0} (P Q R : A → Type 0) (r : Result A E) → ((x : A) → P x → Q x → R x) → IfOk r P → IfOk r Q → IfOk r R
both_ok P Q R (Ok x) f p q = f x p q
both_ok P Q R (Err e) f p q = tt

pub returns-clause-grants : goal.returns-clause-grants
returns-clause-grants c = both_ok _ _ _ c.alloc.result (λ g handed gives. record { handed = handed; gives = gives }) (hands c).handed (hands c).gives

pub returns-clause-leaves : goal.returns-clause-leaves
returns-clause-leaves c = record {
  opens = (hands c).opens;
  meets = (hands c).meets;
  grows = (hands c).grows;
  consumes = (hands c).consumes;
  spares = spares c.args.self.now c.args.n c.requires.some c.alloc.new.self c.alloc.result c.alloc.ensures.after c.alloc.ensures.grant;
  frozen = (hands c).frozen;
}

-- What a script over zones says of the zones' blocks, as scripts of octets say it.
use Rattle.std.proofs.Common.{◌≡◌, ◌∙◌, ℕ, zero, suc, List, [], ◌∷◌, ◌++◌, Option, Some, sym, ap, subst, arith, codes, unwrap_or}
use Rattle.std.specs.Prelude.{slice_get}
use Rattle.std.specs.List.{AllByRecursion}
use Rattle.std.proofs.lemmas.Option.{slice_get_within}
use Rattle.zone_model.specs.Names.{Name, IsName}
use Rattle.zone_model.specs.Transactions.{Transaction}
use Rattle.job_model.specs.Commands as alone
use Rattle.job_model.specs.declared.Ending.{Ending}
use Rattle.job_model.specs.declared.Weight.{Weight}
use Rattle.job_model.specs.declared.Weight.TheVariants.{Light, Heavy}
use Rattle.report_laws.specs.Changes.{AllSaid}
use Rattle.report_laws.specs.Octets.{AllOctets}
use Rattle.report_laws.proofs.ScriptLemmas.{scripts_ask}
use Rattle.zone_diff.proofs.EachLemmas.{back_all, front_all}
use Rattle.job_commands.proofs.WorkLaws.{all_weaker}
use Rattle.zones_model.specs.Commands.{Command, Get, Block, Attach, Detach}
use Rattle.zones_script.specs.Told.{AreLists, IsBlockOf, IsList, IsTold, opening}
use Rattle.zones_threads.specs.Sites.{IsSaid}

worker_octets : AllOctets (codes "worker")
worker_octets = (omega arith, (omega arith, (omega arith, (omega arith, (omega arith, (omega arith, tt))))))

opening_octets : (how : Weight) → AllOctets (opening how)
opening_octets Light = (omega arith, (omega arith, (omega arith, (omega arith, (omega arith, tt)))))
opening_octets Heavy = (omega arith, (omega arith, (omega arith, (omega arith, (omega arith, (omega arith, tt))))))

-- a block's operations are as scripts of octets say them of its zone
pub block_said : (origins : List Name) (lines : List (List ℕ)) (zone : ℕ) (how : Weight) (asked : Transaction) (ending : Ending) → AllByRecursion AllOctets lines → IsBlockOf origins lines zone how asked ending
    → (origin : Name) → IsName origin → slice_get origins zone ≡ Some origin → AllSaid origin asked
block_said origins lines zone how asked ending octets b origin name at =
    let same : origin ≡ b.origin = ap (λ (o : Option Name). unwrap_or o origin) (sym at ∙ b.of_zone) in
    let cut : AllByRecursion AllOctets (b.before ++ (b.own ++ b.behind)) = subst (AllByRecursion AllOctets) b.in_row octets in
    let own = front_all AllOctets b.own b.behind (back_all AllOctets b.before (b.own ++ b.behind) cut) in
    let said = scripts_ask b.origin b.start (codes "worker" ∷ opening how ∷ b.own) ((alone.Block how asked ending ∷ []) ∷ []) (subst IsName same name) (worker_octets, (opening_octets how, own)) b.said in
    subst (λ (n : Name). AllSaid n asked) (sym same) said.0.0

-- ---- all commands

name_at : (origins : List Name) (n : ℕ) (origin : Name) → AllByRecursion IsName origins → slice_get origins n ≡ Some origin → IsName origin
name_at [] n origin names at = absurd cc
name_at (o ∷ origins) zero origin names at = subst IsName (ap (λ (x : Option Name). unwrap_or x o) at) names.0
name_at (o ∷ origins) (suc n) origin names at = name_at origins n origin names.1 at

module _ (origins : List Name) (lines : List (List ℕ)) (names : AllByRecursion IsName origins) (octets : AllByRecursion AllOctets lines) where
  command_said : (c : Command) → IsTold origins lines c → IsSaid origins c
  command_said (Get name rtype) told = tt
  command_said (Block zone how asked ending) told =
      (slice_get_within origins zone told.origin told.of_zone, λ origin at. block_said origins lines zone how asked ending octets told origin (name_at origins zone origin names at) at)
  command_said (Attach zone) told = told
  command_said (Detach zone) told = told

  list_said : (commands : List Command) → IsList origins lines commands → AllByRecursion (IsSaid origins) commands
  list_said commands told = all_weaker (IsTold origins lines) (IsSaid origins) commands command_said told.each

  -- the commands of all workers
  pub lists_said : (workers : List (List Command)) → AreLists origins lines workers → AllByRecursion (AllByRecursion (IsSaid origins)) workers
  lists_said workers told = all_weaker (IsList origins lines) (AllByRecursion (IsSaid origins)) workers list_said told.each

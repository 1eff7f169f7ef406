-- What answers for a name, by whether names exist.
use Rattle.std.proofs.Common.{◌≡◌, true, false, cond, Some, None, sym, ap}
use Rattle.zone_model.specs.Names.{Name}
use Rattle.zone_model.specs.Versions.{Version, owned, exists}
use Rattle.zone_answer.specs.Answers.{encloser, wildcard_under, node}
use Rattle.zone_answer.specs.Parts.{own_node}

pub no_own : (version : Version) (name : Name) → exists name version ≡ false → None ≡ own_node version name
no_own version name e = sym (ap (λ b. cond b (Some (owned name version)) None) e)

pub some_own : (version : Version) (name : Name) → exists name version ≡ true → Some (owned name version) ≡ own_node version name
some_own version name e = sym (ap (λ b. cond b (Some (owned name version)) None) e)

pub there_node : (version : Version) (name : Name) → exists name version ≡ true → Some (owned name version) ≡ node version name
there_node version name e = sym (ap (λ b. cond b (Some (owned name version)) (wildcard_under version (encloser version name))) e)

pub other_node : (version : Version) (name : Name) → exists name version ≡ false → wildcard_under version (encloser version name) ≡ node version name
other_node version name e = sym (ap (λ b. cond b (Some (owned name version)) (wildcard_under version (encloser version name))) e)

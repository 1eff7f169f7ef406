use Rattle.std.proofs.Common.{◌≡◌, ◌∙◌, ℕ, ◌+◌, ◌<◌, List, ◌∷◌, length, map, drop, get_or, ap, add-one}
use Rattle.std.proofs.Math.Seq.{drop-cons}
use Rattle.clap.specs.Simple.{App, Shape, app_of, with_subcommand}
use Rattle.command_line.specs.Parsed.{with_commands}
use Rattle.command_line.proofs.program.with_commands.Goals as goal

step : {A : Type 0} (f : A → Shape) (xs : List A) (i : ℕ) (d : A) (old new whole : App) → i < length xs → new ≡ with_subcommand old (f (get_or xs i d))
    → with_commands old (map f (drop i xs)) ≡ with_commands whole (map f xs) → with_commands new (map f (drop (i + 1) xs)) ≡ with_commands whole (map f xs)
step f xs i d old new whole lt e inv =
    let cut : drop i xs ≡ get_or xs i d ∷ drop (i + 1) xs = rw (add-one, drop-cons xs i d) in
    let told : with_commands old (map f (get_or xs i d ∷ drop (i + 1) xs)) ≡ with_commands whole (map f xs) = rw cut at inv in
    ap (λ (a : App). with_commands a (map f (drop (i + 1) xs))) e ∙ told

pub loop-name-preserved : goal.loop-name-preserved
loop-name-preserved c =
    let shape : app_of c.in_ok-command.command ≡ with_subcommand (app_of c.loop-name.command) (app_of c.in_ok-listed.listed).top = c.in_ok-command.ensures.shape c.in_ok-listed.ensures.local in
    let new = shape ∙ ap (λ (a : App). with_subcommand (app_of c.loop-name.command) a.top) c.in_ok-listed.ensures.app in
    step _ c.args.commands.now c.loop-name.name-index _ (app_of c.loop-name.command) (app_of c.in_ok-command.command) (app_of c.args.whole) c.loop-name-test.true new c.loop-name.invariant

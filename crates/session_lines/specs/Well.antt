-- What a line says may be run where it stands.
use Rattle.std.specs.Prelude.{◌≡◌, Bool, List, [], ◌∷◌}
use Rattle.zone_model.specs.Names.{Name}
use Rattle.job_model.specs.Commands.{MayCome, held_after}
use Rattle.job_model.specs.Sessions.{Said, Runs, Refuses, GivesUp, Session, Step}
use Rattle.report_laws.specs.Changes.{AllAsked, IsBlock}

-- A command may be run, and asks for changes as scripts say them. A line that runs none leaves the snapshot as it is.
abbrev pub RunsWell : Name → Bool → Bool → List Said → Type 0
RunsWell origin held now [] = now ≡ held
RunsWell origin held now (Runs command ∷ said) = MayCome held command × AllAsked origin command × (now ≡ held_after held command)
RunsWell origin held now (Refuses line kind ∷ said) = now ≡ held
RunsWell origin held now (GivesUp ∷ said) = now ≡ held

-- so does a step, and what is open is said so
pub record StepsWell (origin : Name) (s : Session) (step : Step) : Type 0 where
  pub block : IsBlock origin step.session.block
  pub runs : RunsWell origin s.held step.session.held step.said

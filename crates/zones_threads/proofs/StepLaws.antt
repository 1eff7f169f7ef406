-- How a worker's commands are steps of the zones.
use Rattle.std.proofs.Common.{◌≡◌, ◌≢◌, inl, inr, ℕ, ◌<◌, Bool, true, false, cond, eqb, List, [], ◌∷◌, Vec, Global, length, map, Some, None, refl, sym, ap, subst, arith, ◌∙◌}
use Rattle.std.specs.Prelude.{unwrap_or}
use Rattle.std.specs.List.{slice_get}
use Rattle.std.proofs.lemmas.Bool.{cases_eq}
use Rattle.std.proofs.lemmas.Bool.Decides.{nat_tests}
use Rattle.zone_model.specs.Names.{Name}
use Rattle.zone_model.specs.Transactions.{Transaction}
use Rattle.job_model.specs.declared.Ending.{Ending}
use Rattle.job_model.specs.declared.Weight.{Weight}
use Rattle.job_model.specs.declared.Question.{Question}
use Rattle.job_model.specs.Commands.{Ask, Block}
use Rattle.job_report.specs.Outcomes.{EndsBlock}
use Rattle.job_report.specs.declared.outcomes.Outcome.{Outcome}
use Rattle.shared_cells.specs.Views.{is_told}
use Rattle.shared_cells.specs.declared.view.PassView.{PassView}
use Rattle.qp_multi.specs.declared.meaning.Named.{Ghosts}
use Rattle.qp_multi.specs.declared.meaning.Operation.{Operation}
use Rattle.qp_multi.specs.declared.pass.Pass.{Pass}
use Rattle.qp_multi.specs.Passes.{Known, known_at, first_version}
use Rattle.job_commands.specs.Histories.{OpenedWith}
use Rattle.job_commands.specs.Commands.{Asked, BlockRan}
use Rattle.job_commands.specs.Steps.{WorkerPasses, IsUnder, Step}
use Rattle.job_commands.specs.Works.{ended}
use Rattle.job_commands.proofs.ShowLaws.{seat_pass}
use Rattle.job_commands.proofs.StepLaws.{ask_step, block_step}
use Rattle.zone_table.specs.declared.pass.ZonesPass.{ZonesPass}
use Rattle.zone_table.specs.declared.zones.Zones.{Zones}
use Rattle.zone_table.specs.Passes.{IsPassOf, zone_known}
use Rattle.zone_table.proofs.PassLaws.{zone_seat}
use Rattle.zones_model.specs.Commands.{Command}
use Rattle.zones_report.specs.declared.outcomes.CommandEnd.{CommandEnd}
use Rattle.zones_threads.specs.Steps.{Steps, ZonesGo}
use Rattle.zones_threads.specs.Views.{Part, part_in}

-- ---- what a pass knows of a zone

module _ {X : Type 0} {N : Ghosts X} where
  pub zones_same : (old new : ZonesPass X N) → new.zones ≡ old.zones → (zone : ℕ) → zone_known new zone ≡ zone_known old zone
  zones_same old new same zone = ap (λ (zones : Vec (Pass X N) Global). unwrap_or (slice_get (map (λ z. known_at z.seat) zones.items) zone) (known_at None)) same

  -- a command of the table alone
  pub no_steps : {Y : Type 0} (zones : Zones Y X N) (c : Command) (d : CommandEnd) (old new : ZonesPass X N) → ((n : ℕ) → part_in n c d ≡ []) → new.zones ≡ old.zones → ZonesGo zones c d old new
  no_steps zones c d old new none same = λ site is s opened_with first told under.
      subst (λ ps. Steps s ps (ended (zone_known old site.number) first) (ended (zone_known new site.number) first)) (sym (none site.number)) (ap (λ (v : Known). ended v first) (zones_same old new same site.number))

module _ {X : Type 0} {N : Ghosts X} (origins : List Name) (p : ZonesPass X N) (is : IsPassOf origins p) where
  pub zone_pass : (zone : ℕ) → zone < length origins → (own : PassView (List Operation)) × ((zone_known p zone).pass ≡ Some own)
  zone_pass zone lt = let q = zone_seat origins p is zone lt in let own = seat_pass q.0.seat q.2 in (own.0, ap (λ (v : Known). v.pass) q.3 ∙ own.1)

-- ---- steps

module _ (s : OpenedWith) (o : Outcome) (old new first : Known) (opened : first_version old.seen ≡ s.opening) (told : is_told old.seen.opening ≡ true) (told_first : is_told first.seen.opening ≡ true) (under : IsUnder old first) where
  pub ask_goes : (question : Question) → Asked s.origin question old new o → Step s (Ask question) o (ended old first) (ended new first)
  ask_goes question a = ask_step s o (ended old first) (ended new first) opened told told_first under refl refl a.grows question a

  pub block_goes : (weight : Weight) (asked : Transaction) (ending : Ending) (own : PassView (List Operation)) → old.pass ≡ Some own → EndsBlock o.told → BlockRan s asked ending old new o → Step s (Block weight asked ending) o (ended old first) (ended new first)
  block_goes weight asked ending own is ends b = block_step s o (ended old first) (ended new first) opened told told_first under refl refl b.grows weight asked ending own is ends b

-- a command of one zone is a step of that and of no other
pub chosen_steps : (s : OpenedWith) (zone n : ℕ) (p : Part) (old new : WorkerPasses) → (zone ≡ n → Step s p.command p.outcome old new) → (n ≢ zone → new ≡ old) → Steps s (cond (eqb zone n) (p ∷ []) []) old new
chosen_steps s zone n p old new here elsewhere = elim (cases_eq zone n) [
  | inl e ↦ let test : eqb zone n ≡ true = grind (arith, nat_tests) in subst (λ (b : Bool). Steps s (cond b (p ∷ []) []) old new) (sym test) (here e)
  | inr m ↦ let test : eqb zone n ≡ false = grind (arith, nat_tests) in subst (λ (b : Bool). Steps s (cond b (p ∷ []) []) old new) (sym test) (elsewhere (λ e. m (sym e)))
]

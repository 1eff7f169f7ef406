use Rattle.std.proofs.Common.{◌≡◌, ◌<◌, ℕ, None, take, drop, map, length}
use Rattle.std.specs.List.{AllByRecursion}
use Rattle.job_commands.specs.Calls.{IsHeard, next_number}
use Rattle.job_commands.specs.Works.{IsNew}
use Rattle.zone_table.specs.Passes.{IsPassOf, table_known}
use Rattle.zones_threads.specs.Sites.{IsSaid, Opens}
use Rattle.zones_report.specs.Outcomes.{AreOf, dones_view}
use Rattle.zones_script.specs.Views.{command_view}
use Rattle.zones_threads.specs.Works.{TableOpenedWith, TableWork}
use Rattle.zones_threads.proofs.WorkLaws.{ZonesAt}
use Rattle.zones_threads.proofs.worker.run_worker.Given as goal

abbrev pub invariant-loop-place : goal.invariant-loop-place
invariant-loop-place g l = record {
  pass : IsPassOf l.zones.origins.items l.pass;
  opens : Opens l.zones l.pass;
  gate : l.turnstile.gate ≡ l.fn.turnstile.gate;
  number : l.turnstile.worker ≡ l.fn.turnstile.worker;
  commands : l.turnstile.commands ≡ l.fn.turnstile.commands;
  free : l.turnstile.entered ≡ None;
  told : l.turnstile.told ≡ l.place;
  many : length l.list.items ≡ l.place;
  kinds : AreOf (map command_view (take l.place l.fn.turnstile.commands.now)) l.list.items;
  heard : (place : ℕ) → place < l.place → IsHeard (g.G.Gate.hears l.fn.turnstile.gate.now) l.fn.turnstile.worker (next_number place);
  said : AllByRecursion (IsSaid l.zones.origins.items) (map command_view (drop l.place l.fn.turnstile.commands.now));
  zones : ZonesAt l.zones l.fn.pass l.pass (map command_view (take l.place l.fn.turnstile.commands.now)) l.list.items;
  table : (b : TableOpenedWith) (number : ℕ) → b.origins ≡ l.zones.origins.items → IsNew number b.opening (table_known l.fn.pass)
      → TableWork b number (table_known l.pass) (dones_view (map command_view (take l.place l.fn.turnstile.commands.now)) l.list.items);
}

use Rattle.std.proofs.Common.{◌≡◌, ◌∙◌, sym, subst}
use Rattle.std.proofs.lemmas.Result.{IfOk-weaker}
use Rattle.qp_multi.specs.Closings.{AreAll}
use Rattle.trie_write.specs.Entries.{entries_of_items}
use Rattle.job_commands.specs.Commands.{known_in}
use Rattle.job_commands.proofs.OpenLaws.{new_passes, all_open}
use Rattle.job_commands.proofs.ZoneLaws.{zone_rises, zone_lawful}
use Rattle.job_threads.proofs.sitting.open_for_one.Goals as goal

pub open-requires-clause-rising : goal.open-requires-clause-rising
open-requires-clause-rising g c = zone_rises c.args._origin.now (entries_of_items c.args.items.now) c.requires.zone

pub open-requires-clause-lawful : goal.open-requires-clause-lawful
open-requires-clause-lawful g c = zone_lawful c.args._origin.now (entries_of_items c.args.items.now) c.requires.zone

pub returns-clause-opens : goal.returns-clause-opens
returns-clause-opens g c =
    let two = c.requires.passes in
    let es = entries_of_items c.args.items.now in
    IfOk-weaker c.open.result _ _ (λ made opens. record {
      size = opens.size;
      passes = record {
        count = opens.passes.count ∙ two;
        here = λ k d l. (let f = opens.passes.told k d l in (f.0, f.1 ∙ sym opens.place));
        opens = all_open made.1.items (λ p. p.seat) es c.args._origin.now (λ p. p.place ≡ 0) c.requires.zone opens.passes.told;
        all = subst (λ n. AreAll n (known_in made.1.items)) two opens.passes.all;
      };
      new = new_passes made.1.items (λ p. p.seat) es (λ p. p.place ≡ 0) opens.passes.told opens.passes.unused;
      fits = opens.fits;
    }) c.open.ensures.opens

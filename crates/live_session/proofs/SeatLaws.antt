-- What a worker with the two passes of an index has run, as a session sees it.
use Rattle.std.proofs.Common.{◌≡◌, ℕ, List, [], ◌∷◌, length, refl, sym, subst}
use Rattle.zone_model.specs.Names.{Name}
use Rattle.job_model.specs.Commands.{Command}
use Rattle.job_model.specs.Feeds.{passes_fed}
use Rattle.job_model.specs.Outcomes.{Lawful, Pair, all_pairs, version_at}
use Rattle.job_report.specs.Outcomes.{EachTells, pairs_of}
use Rattle.job_report.specs.declared.outcomes.Outcome.{Outcome}
use Rattle.shared_cells.specs.declared.view.TableSize.{TableSize}
use Rattle.job_commands.specs.Commands.{IsIndex}
use Rattle.job_commands.specs.Histories.{OpenedWith}
use Rattle.job_commands.specs.Sittings as sittings
use Rattle.job_commands.specs.Steps.{WorkerPasses}
use Rattle.job_commands.specs.declared.closing.Last.{Last}
use Rattle.session_talk.specs.Workers.{ComesTo, EndsAt, Opened}
use Rattle.session_talk.specs.declared.worker.LastVersion.{LastVersion}
use Rattle.job_commands.specs.Works.{AreNew}
use Rattle.job_commands.specs.Histories.{Entries}
use Rattle.outer_io.specs.Bytes.{Held}
use Rattle.qp_multi.specs.Passes.{Known}
use Rattle.session_talk.specs.Answering.{Way}
use Rattle.live_session.specs.Ends.{StartsOn}
use Rattle.live_session.specs.Seats.{HasRun}

-- an index is one of its own origin
pub own_index : (s : OpenedWith) (origin : Name) (size : TableSize) → IsIndex s origin size → IsIndex s s.origin size
own_index s origin size i = record { origin_is = refl; chunks = i.chunks; passes = i.passes }

module _ {origin : Name} {size : TableSize} {t : WorkerPasses} {o : Opened} {commands : List Command} {os : List Outcome} (h : HasRun origin size t o commands os) where
  -- further commands were run
  pub ran_on : (t' : WorkerPasses) (commands' : List Command) (os' : List Outcome) → sittings.Sits h.opened_with t' commands' os' → HasRun origin size t' o commands' os'
  ran_on t' commands' os' sits = record { opened_with = h.opened_with; index = h.index; chunks = h.chunks; same = h.same; stands = h.stands; sits = sits }

  pub come_to : (last : ℕ) → sittings.ComesTo h.opened_with o.zone commands os last → ComesTo o commands os last
  come_to last w = record {
    lawful = subst (λ (n : ℕ). Lawful n (passes_fed 1) o.origin o.zone (pairs_of commands os ∷ []) last) h.chunks
        (subst (λ (n : ℕ). Lawful h.opened_with.chunks n o.origin o.zone (pairs_of commands os ∷ []) last) h.sits.two
        (subst (λ (n : Name). Lawful h.opened_with.chunks h.opened_with.passes n o.zone (pairs_of commands os ∷ []) last) h.same w.lawful));
    tell = subst (λ (n : Name). EachTells n (version_at n o.zone (all_pairs (pairs_of commands os ∷ []))) commands os) h.same w.tell;
  }

  pub end_at : (last : Last) → sittings.EndsAt h.opened_with o.zone commands os last → EndsAt o commands os (record { version = last.version; names = last.names })
  end_at last w = record {
    comes_to = come_to last.version w.comes_to;
    names_are = subst (λ (n : Name). last.names ≡ length (version_at n o.zone (all_pairs (pairs_of commands os ∷ [])) last.version)) h.same w.names_are;
  }

-- a worker that has run nothing, at an index that was opened so
pub begun : (known : List Known) {way : Way} {origin : Name} {size : TableSize} {es : Entries} {first : ℕ} {given : List ℕ} {held : Held} {pending : List ℕ} {t : WorkerPasses}
    → StartsOn way size.chunks origin es first given held pending → size.passes ≡ 2 → ((s : OpenedWith) → s.passes ≡ 2 → AreNew s.opening known → sittings.Sits s t [] []) → AreNew es known → HasRun origin size t way.opened [] []
begun known {way} {origin} {size} {es} starts two sits new = record {
  opened_with = record { chunks = size.chunks; passes = size.passes; origin = origin; opening = es };
  index = record { origin_is = refl; chunks = refl; passes = refl };
  chunks = sym starts.chunks_are;
  same = sym starts.origin_is;
  stands = starts.stands;
  sits = sits (record { chunks = size.chunks; passes = size.passes; origin = origin; opening = es }) two new;
}

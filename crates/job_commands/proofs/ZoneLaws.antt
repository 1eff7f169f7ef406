-- The zone that an index's versions are of.
use Rattle.std.proofs.Common.{◌≡◌, ◌∙◌, true, [], ◌∷◌, refl, sym, ap, subst}
use Rattle.zone_model.specs.Names.{Name}
use Rattle.zone_model.proofs.KeyLaws.{key_once}
use Rattle.job_model.specs.Sizes.{trie_entries}
use Rattle.report_laws.proofs.FirstLemmas.{zone_first}
use Rattle.shared_cells.specs.History.{IsPartOf}
use Rattle.shared_cells.specs.Views.{is_told}
use Rattle.qp_multi.specs.Passes.{Known}
use Rattle.job_commands.specs.Histories.{BeginsAt, Entries, IsLawful, IsZone}
use Rattle.job_commands.specs.Commands.{OpensAt}
use Rattle.job_commands.proofs.HistoryLaws.{opened_same}
use Rattle.trie_model.specs.Keys.{Rises}
use Rattle.zone_edit.proofs.SetLaws.{entries_rise}

-- its first name is its origin
pub zone_begins : (origin : Name) (es : Entries) → IsZone origin es → BeginsAt origin es
zone_begins origin es z =
    let f = zone_first origin z.version z.zone in
    subst (BeginsAt origin) (ap trie_entries (sym f.2) ∙ z.stands.entries) (z.zone.name, refl)

-- a zone may be opened
pub zone_lawful : (origin : Name) (es : Entries) → IsZone origin es → IsLawful es es
zone_lawful origin es z = record { origin = origin; begins = zone_begins origin es z; zone = z }

-- ---- which zone it is

pub begins_once : (a b : Name) (es : Entries) → BeginsAt a es → BeginsAt b es → a ≡ b
begins_once a b [] x y = absurd x
begins_once a b (e ∷ es) x y = key_once a b x.0.each y.0.each (sym x.1 ∙ y.1)

-- a version that may stand there is one of the zone whose name is known
pub lawful_zone : (origin : Name) (first es : Entries) → BeginsAt origin first → IsLawful first es → IsZone origin es
lawful_zone origin first es begins l = subst (λ (o : Name). IsZone o es) (begins_once l.origin origin first l.begins begins) l.zone

-- a pass that has seen more knows of the same opening
pub opens_still : (origin : Name) (old new : Known) → is_told old.seen.opening ≡ true → IsPartOf new.seen old.seen → OpensAt origin old → OpensAt origin new
opens_still origin old new told grows opens = subst (BeginsAt origin) (sym (opened_same new.seen old.seen told grows)) opens

-- ---- its names rise

pub zone_rises : (origin : Name) (es : Entries) → IsZone origin es → Rises es
zone_rises origin es z = subst Rises z.stands.entries (entries_rise z.version z.stands.valid.rising z.stands.valid.items)

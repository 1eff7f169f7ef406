-- The definitions, computed on an example: a zone below another is detached, changed and attached again.
use Rattle.std.proofs.Common.{◌≡◌, ℕ, List, [], ◌∷◌, Some, None, refl}
use Rattle.std.specs.Prelude.{codes}
use Rattle.std.specs.Fmt.{digits}
use Rattle.zone_model.specs.Names.{Name, wire}
use Rattle.zone_model.specs.DataText.{fields_text}
use Rattle.zone_model.specs.Records.{Rrset}
use Rattle.zone_model.specs.MasterFile.{Zone}
use Rattle.zone_model.specs.Versions.{DeleteName}
use Rattle.zone_answer.specs.Answers.{followed}
use Rattle.job_model.specs.Outcomes as one
use Rattle.job_model.specs.declared.Ending.TheVariants.{Commit}
use Rattle.job_model.specs.declared.Weight.TheVariants.{Light}
use Rattle.zones_model.specs.Outcomes.{CommandEnd, Got, Ran, Attached, Detached, all_done, attached_at}
use Rattle.zones_model.specs.Tables.{zone_for}
use Rattle.zones_model.specs.Reports.{report}
use Rattle.zones_model.specs.declared.TableCause.TheVariants.{Exists}

abbrev upper : Name
upper = codes "example" ∷ []

abbrev lower : Name
lower = codes "sub" ∷ upper

abbrev host : Name
host = codes "www" ∷ lower

abbrev other : Name
other = codes "com" ∷ []

abbrev set : ℕ → ℕ → List ℕ → Rrset
set rtype ttl octets = record { rtype = rtype; ttl = ttl; records = octets ∷ [] }

-- the data of an SOA don't matter here
abbrev zones : List Zone
zones =
    (record { origin = upper; pairs = (upper, set 2 300 (wire (codes "ns" ∷ upper)) ∷ set 6 300 [] ∷ []) ∷ (codes "ns" ∷ upper, set 1 300 (192 ∷ 0 ∷ 2 ∷ 1 ∷ []) ∷ []) ∷ [] })
    ∷ (record { origin = lower; pairs = (lower, set 6 60 [] ∷ []) ∷ (host, set 1 60 (192 ∷ 0 ∷ 2 ∷ 8 ∷ []) ∷ []) ∷ [] })
    ∷ []

abbrev done : List (List CommandEnd)
done =
    (Got host 1 0 (Some (record { zone = 1; version = 0 }))
    ∷ Detached 1 1 None
    ∷ Got host 1 1 (Some (record { zone = 0; version = 0 }))
    ∷ Got other 1 1 None
    ∷ Ran 1 Light (record { needs = []; operations = DeleteName host ∷ [] }) Commit (record { version = 1; ended = one.Committed })
    ∷ Attached 1 2 None
    ∷ Got host 1 2 (Some (record { zone = 1; version = 1 }))
    ∷ Attached 0 2 (Some Exists)
    ∷ [])
    ∷ []

belongs_below : zone_for (attached_at (all_done done) 0) (upper ∷ lower ∷ []) host ≡ Some 1
belongs_below = refl

belongs_above : zone_for (attached_at (all_done done) 1) (upper ∷ lower ∷ []) host ≡ Some 0
belongs_above = refl

belongs_nowhere : zone_for (attached_at (all_done done) 1) (upper ∷ lower ∷ []) other ≡ None
belongs_nowhere = refl

reported : report zones done (record { table = 2; zones = 0 ∷ 1 ∷ [] }) ≡ codes "1.1 t0 sub.example. v0 ANSWER 1\nwww.sub.example. 60 IN A 192.0.2.8\n1.2 t1 DETACHED\n1.3 t1 example. v0 NXDOMAIN\n1.4 t1 NOZONE\n1.5 sub.example. v1 COMMITTED\n1.6 t2 ATTACHED\n1.7 t2 sub.example. v1 NXDOMAIN\n1.8 t2 REFUSED exists\nend t2 zones 2\nend example. v0 names 2\nend sub.example. v1 names 1\n"
unfolding digits fields_text followed
reported = refl

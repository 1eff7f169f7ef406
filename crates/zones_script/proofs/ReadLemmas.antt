-- A script that was read.
use Rattle.std.proofs.Common.{◌≡◌, ℕ, ◌+◌, ◌-◌, ◌<◌, List, Result, Ok, Err, IfOk, subst, arith}
use Rattle.zone_model.specs.Names.{Name}
use Rattle.job_script.specs.Scripts.{Says}
use Rattle.job_script.specs.declared.refusal.JobRefusal.{JobRefusal}
use Rattle.zones_script.specs.Scripts.{script_of}
use Rattle.zones_script.specs.Told.{AreLists}
use Rattle.zones_script.specs.Views.{workers_view}
use Rattle.zones_script.specs.declared.commands.ZonesScript.{ZonesScript}
use Rattle.zones_script.proofs.ListLemmas.{workers_told}

pub read_told : (origins : List Name) (n : ℕ) (lines : List (List ℕ)) (r : Result ZonesScript JobRefusal) → Says r workers_view (script_of origins n lines) → 0 < n → IfOk r (λ script. AreLists origins lines (workers_view script))
read_told origins n lines (Ok script) s first =
    let here : n ≡ n - 1 + 1 = omega arith in
    workers_told origins (n - 1) lines (workers_view script) (subst (λ (k : ℕ). script_of origins k lines ≡ Ok (workers_view script)) here s)
read_told origins n lines (Err e) s first = tt

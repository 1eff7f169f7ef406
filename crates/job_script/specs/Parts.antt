-- The two parts of an input.
use Rattle.std.specs.Prelude.{◌≡◌, ℕ, ◌+◌, ◌-◌, ◌≤◌, List, length, take, drop}
use Rattle.zone_model.specs.Lines.{lines_of}
use Rattle.job_model.specs.Jobs.{zone_lines, script_lines, script_start}
use Rattle.job_script.specs.declared.parts.Parts.{Parts}

-- the bytes in front have the zone's lines, those behind have the script's
pub record IsCutAt (bytes : List ℕ) (zone_end script_from first_line : ℕ) : Type 0 where
  pub zone : lines_of (take zone_end bytes) ≡ zone_lines bytes
  pub script : lines_of (drop script_from bytes) ≡ script_lines bytes
  pub first : first_line ≡ script_start bytes
  pub zone_inside : zone_end ≤ length bytes
  pub script_inside : script_from ≤ length bytes
  pub few : first_line ≤ script_from + 1

-- a front with the zone's lines, and what is behind with the script's
pub record ArePartsOf (bytes : List ℕ) (p : Parts) : Type 0 where
  pub front : p.zone.now ≡ take (length p.zone.now) bytes
  pub behind : p.script.now ≡ drop (length bytes - length p.script.now) bytes
  pub cut : IsCutAt bytes (length p.zone.now) (length bytes - length p.script.now) p.first_line

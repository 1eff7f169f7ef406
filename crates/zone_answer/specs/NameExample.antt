-- A zone with the names of RFC 4034, section 6.1, that own nothing.
use Rattle.std.specs.Prelude.{List, [], ◌∷◌, ◌++◌, codes, map}
use Rattle.zone_model.specs.Names.{Label, Name}
use Rattle.zone_model.specs.Versions.{Version}

abbrev pub named : List Label → Name
named labels = labels ++ codes "example" ∷ []

abbrev pub names : List Name
names =
    named []
    ∷ named (codes "a" ∷ [])
    ∷ named (codes "yljkjljk" ∷ codes "a" ∷ [])
    ∷ named (codes "z" ∷ codes "a" ∷ [])
    ∷ named (codes "zabc" ∷ codes "a" ∷ [])
    ∷ named (codes "z" ∷ [])
    ∷ named ((1 ∷ []) ∷ codes "z" ∷ [])
    ∷ named (codes "*" ∷ codes "z" ∷ [])
    ∷ named ((200 ∷ []) ∷ codes "z" ∷ [])
    ∷ []

abbrev pub zone : Version
zone = map (λ name. (name, [])) names

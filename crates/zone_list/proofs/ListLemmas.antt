-- Zones that are read are as zones may be listed.
use Rattle.std.proofs.Common.{◌≡◌, ◌≢◌, ◌∙◌, ℕ, ◌+◌, ◌<◌, ◌≤◌, Bool, true, false, cond, List, [], ◌∷◌, ◌++◌, length, get_or, Result, Ok, Err, refl, ap, subst, arith, length-append}
use Rattle.std.specs.Prelude.{nat_lt, AllPairs}
use Rattle.std.specs.List.{list_any}
use Rattle.std.proofs.lemmas.Bool.Decides.{nat_tests}
use Rattle.std.proofs.lemmas.List.Folds.{list_any_at}
use Rattle.std.proofs.lemmas.List.Quantifiers.{all_pairs_push}
use Rattle.zone_model.specs.Names.{Name, same_name}
use Rattle.zone_model.specs.NameOrder.{same_name_equiv}
use Rattle.zone_model.specs.Refusals.{Refused, ◌>>=◌}
use Rattle.zone_model.specs.MasterFile.{Zone, zone_at}
use Rattle.zone_model.specs.Tokens.{refused}
use Rattle.zone_model.specs.declared.ZoneKind.{ZoneKind}
use Rattle.zone_model.specs.declared.ZoneKind.TheVariants.{BadToken, Repeated, TooManyZones}
use Rattle.zone_list.specs.Lists.{is_head, Part, Cut, head_says, zone_limit, new_origin, part_says, zones_from, cut_from, zones_of}
use Rattle.zone_list.specs.Parts.{AreListed}
use Rattle.zone_list.proofs.CutLemmas.{line_begins}

abbrev Step : Type 0 → Type 0
Step A = Result A (Refused ZoneKind)

-- what comes of two steps comes of the first one's value
bound : {A B : Type 0} (r : Step A) (f : A → Step B) (y : B) → (r >>= f) ≡ Ok y → (x : A) × (r ≡ Ok x) × (f x ≡ Ok y)
bound (Ok x) f y h = (x, refl, h)
bound (Err e) f y h = absurd cc

-- an origin that is taken
record IsNew (earlier : List Zone) (origin : Name) : Type 0 where
  unlike : list_any (λ zone. same_name zone.origin origin) earlier ≡ false
  room : length earlier < zone_limit

new_taken : (n : ℕ) (earlier : List Zone) (word origin : Name) → new_origin n earlier word ≡ Ok origin → IsNew earlier origin
new_taken n earlier word origin h = by_like (list_any (λ zone. same_name zone.origin word) earlier) (nat_lt (length earlier) zone_limit) refl refl h
  where
    by_like : (like room : Bool) → list_any (λ zone. same_name zone.origin word) earlier ≡ like → nat_lt (length earlier) zone_limit ≡ room
        → cond like (refused {A = Name} n Repeated) (cond room (Ok word) (refused n TooManyZones)) ≡ Ok origin → IsNew earlier origin
    by_like true room e r h = absurd cc
    by_like false false e r h = absurd cc
    by_like false true e r h =
        let same : word ≡ origin = cc in
        record { unlike = subst (λ (w : Name). list_any (λ zone. same_name zone.origin w) earlier ≡ false) same e; room = grind (arith, nat_tests) }

said_new : (earlier : List Zone) (part : Part) (z : Zone) → part_says earlier part ≡ Ok z → IsNew earlier z.origin
unfolding part_says
said_new earlier part z h =
    let word = bound (head_says part.number part.head) _ z h in
    let origin = bound (new_origin part.number earlier word.0) _ z word.2 in
    let version = bound (zone_at (part.number + 1) origin.0 part.lines) _ z origin.2 in
    let same : origin.0 ≡ z.origin = cc in
    subst (IsNew earlier) same (new_taken part.number earlier word.0 origin.0 origin.1)

-- ---- all zones

pub record IsSound (zones : List Zone) : Type 0 where
  pub few : length zones ≤ zone_limit
  pub apart : AllPairs (λ a b. a.origin ≢ b.origin) zones

unlike_each : (earlier : List Zone) (origin : Name) → list_any (λ zone. same_name zone.origin origin) earlier ≡ false → (k : ℕ) (d : Zone) → k < length earlier → (get_or earlier k d).origin ≢ origin
unlike_each earlier origin none k d lt = λ same.
    let like : list_any (λ zone. same_name zone.origin origin) earlier ≡ true =
    list_any_at (λ zone. same_name zone.origin origin) earlier k d lt (ap (λ (o : Name). same_name o origin) same ∙ same_name_equiv.refl origin) in
    absurd cc

one_more : (earlier : List Zone) (z : Zone) → IsSound earlier → IsNew earlier z.origin → IsSound (earlier ++ z ∷ [])
one_more earlier z s new = record {
  few = (let room : length earlier < zone_limit = new.room in omega (arith, length-append earlier (z ∷ [])));
  apart = all_pairs_push (λ a b. a.origin ≢ b.origin) earlier z s.apart (unlike_each earlier z.origin new.unlike);
}

pub sound_from : (earlier : List Zone) (parts : List Part) (zones : List Zone) → zones_from earlier parts ≡ Ok zones → IsSound earlier → IsSound zones × (length zones ≡ length earlier + length parts)
unfolding zones_from
sound_from earlier [] zones h s = let same : earlier ≡ zones = cc in subst (λ (l : List Zone). IsSound l × (length l ≡ length earlier + 0)) same (s, omega arith)
sound_from earlier (part ∷ parts) zones h s =
    let said = bound (part_says earlier part) (λ zone. zones_from (earlier ++ zone ∷ []) parts) zones h in
    let more = sound_from (earlier ++ said.0 ∷ []) parts zones said.2 (one_more earlier said.0 s (said_new earlier part said.0 said.1)) in
    (more.0, (let e : length zones ≡ length (earlier ++ said.0 ∷ []) + length parts = more.1 in omega (arith, length-append earlier (said.0 ∷ []))))

pub listed : (lines : List (List ℕ)) (zones : List Zone) → zones_of lines ≡ Ok zones → AreListed zones
unfolding zones_of
listed [] zones h = absurd cc
listed (line ∷ lines) zones h = by_head (is_head line) refl h
  where
    by_head : (t : Bool) → is_head line ≡ t → cond t (zones_from [] (cut_from 1 (line ∷ lines)).parts) (refused 1 BadToken) ≡ Ok zones → AreListed zones
    by_head false e h = absurd cc
    by_head true e h =
        let s = sound_from [] (cut_from 1 (line ∷ lines)).parts zones h (record { few = omega arith; apart = λ i j d lt out. absurd (omega arith) }) in
        let some : 0 < length (cut_from 1 (line ∷ lines)).parts = omega (arith, ap (λ (c : Cut). length c.parts) (line_begins 1 line lines e)) in
        record { some = (let e : length zones ≡ 0 + length (cut_from 1 (line ∷ lines)).parts = s.1 in omega arith); few = s.0.few; apart = s.0.apart }

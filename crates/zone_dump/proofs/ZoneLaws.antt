-- The names of a zone that was read.
use Rattle.std.proofs.Common.{◌≡◌, ◌∙◌, ℕ, Bool, true, false, cond, List, [], ◌∷◌, ◌++◌, sym, ap, subst, unwrap_or, Option, Some}
use Rattle.outer_io.specs.Bytes.{Held, Grows}
use Rattle.outer_io.proofs.GrowsLemmas.{Grows-trans}
use Rattle.zone_model.specs.Names.{Name, IsName, BeginsWith, same_name}
use Rattle.zone_model.specs.Records.{Entry, IsItem}
use Rattle.zone_model.specs.Versions.{Version, entry_of, owned}
use Rattle.zone_model.specs.Rows.{Directives}
use Rattle.zone_model.specs.Dumps.{version_lines, dump}
use Rattle.zone_model.specs.declared.Style.{Style}
use Rattle.zone_model.proofs.NameLemmas.{same_name-true}
use Rattle.rr_data.specs.ItemViews.{SaysEntry}
use Rattle.zone_dump.specs.Files.{head_text, file_text, directives_in}
use Rattle.zone_dump.specs.Writing.{Passes}
use Rattle.zone_dump.proofs.LineLaws.{file_from, file_is_dump, item_begun, item_owner}

-- what a name owns, by whether it is the first of those that are left
by_first : (b : Bool) (name : Name) (pair : Name × Entry) (old new : Version) → same_name name pair.0 ≡ b → old ≡ pair ∷ new → owned name old ≡ unwrap_or (cond b (Some pair.1) (entry_of name new)) []
by_first b name pair old new test first = ap (owned name) first ∙ ap (λ (t : Bool). unwrap_or (cond t (Some pair.1) (entry_of name new)) []) test

module _ (name owner : Name) (pair : Name × Entry) (old new : Version) (octets : List ℕ) (is : IsName owner) (begins : BeginsWith octets owner) (item : IsItem octets pair.0 pair.1) (first : old ≡ pair ∷ new) where
  tested : (b : Bool) → b ≡ same_name name owner → same_name name pair.0 ≡ b
  tested b e = ap (same_name name) (item_owner octets owner pair.0 pair.1 is begins item) ∙ sym e

  pub found_first : true ≡ same_name name owner → SaysEntry name octets (owned name old)
  found_first e =
      let says : SaysEntry name octets pair.1 = subst (λ (n : Name). SaysEntry n octets pair.1) (sym (same_name-true name owner (sym e))) (item_begun octets owner pair.0 pair.1 is begins item) in
      subst (SaysEntry name octets) (sym (by_first true name pair old new (tested true e) first)) says

  pub found_later : false ≡ same_name name owner → owned name new ≡ owned name old
  found_later e = sym (by_first false name pair old new (tested false e) first)

-- a head and the lines behind it, of all names
pub zone_text : (style : Style) (origin : Name) (pairs all : Version) (directives d : Option Directives) (text : List ℕ) → all ≡ pairs → directives ≡ directives_in style origin pairs → text ≡ head_text directives → d ≡ directives
    → text ++ version_lines d all ≡ dump style origin pairs
zone_text style origin pairs all directives d text whole under head same =
    file_from directives d text all head same ∙ ap (file_text directives) whole ∙ ap (λ (x : Option Directives). file_text x pairs) under ∙ file_is_dump style origin pairs

-- all came, and what was left of it is written
pub passes_all : (a b c : Held) (had has text : List ℕ) → Passes a b had has text → Grows b c has → Grows a c (had ++ text)
passes_all a b c had has text p g = subst (Grows a c) (sym p.whole) (Grows-trans a b c p.written has p.grown g)

-- What a name gives, by where its records come from.
use Rattle.std.proofs.Common.{◌≡◌, ◌∙◌, ℕ, true, false, [], Option, Some, sym, ap}
use Rattle.zone_model.specs.Names.{Name}
use Rattle.zone_model.specs.Records.{Entry, rrset_of}
use Rattle.zone_model.specs.Versions.{Version, owned, exists}
use Rattle.zone_answer.specs.Answers.{Ends, Step, step, by_cut, by_node, by_alias, alias_in, set_rows, node, is_cut, cut_above}
use Rattle.zone_answer.specs.Parts.{NoneOver}
use Rattle.zone_answer.specs.declared.kind.Kind.TheVariants.{Referral}
use Rattle.zone_answer.proofs.NodeLaws.{there_node}
use Rattle.zone_answer.proofs.CutLaws.{own_cut, no_cut, empty_no_cut}

abbrev pub referred : Name → Entry → Step
referred cut entry = record { rows = set_rows cut (rrset_of 2 entry); next = Ends Referral }

pub step_cut : (origin name : Name) (version : Version) (rtype : ℕ) (cut : Name) (entry : Entry) → cut_above origin version name ≡ Some cut → entry ≡ owned cut version → referred cut entry ≡ step origin version rtype name
step_cut origin name version rtype cut entry c e = ap (referred cut) e ∙ ap (by_cut version name rtype) (sym c)

pub step_own_cut : (origin name : Name) (version : Version) (rtype : ℕ) (entry : Entry) → NoneOver origin name version → is_cut origin version name ≡ true → entry ≡ owned name version → referred name entry ≡ step origin version rtype name
step_own_cut origin name version rtype entry none cut e = step_cut origin name version rtype name entry (own_cut origin name version none cut) e

abbrev pub given : Name → ℕ → Entry → Step
given name rtype entry = by_alias name rtype entry (alias_in rtype entry)

pub step_own : (origin name : Name) (version : Version) (rtype : ℕ) (entry : Entry) → NoneOver origin name version → is_cut origin version name ≡ false → exists name version ≡ true → entry ≡ owned name version → given name rtype entry ≡ step origin version rtype name
step_own origin name version rtype entry none cut there e =
    ap (given name rtype) e ∙ ap (by_node name rtype) (there_node version name there) ∙ ap (by_cut version name rtype) (sym (no_cut origin name version none cut))

pub step_absent : (origin name : Name) (version : Version) (rtype : ℕ) (found : Option Entry) → NoneOver origin name version → [] ≡ owned name version → found ≡ node version name → by_node name rtype found ≡ step origin version rtype name
step_absent origin name version rtype found none empty e =
    ap (by_node name rtype) e ∙ ap (by_cut version name rtype) (sym (no_cut origin name version none (empty_no_cut origin name version empty)))

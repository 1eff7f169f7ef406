-- How many records a zone has, by the lines that say it.
use Rattle.std.proofs.Common.{◌≡◌, ℕ, suc, ◌+◌, ◌≤◌, Bool, true, false, cond, not, ◌&&◌, eqb, List, [], ◌∷◌, length, codes, refl, ap, subst, arith, Option, Some, None, Result, Ok, unwrap_or}
use Rattle.std.specs.List.Sorted.{IsStrictlySortedBy}
use Rattle.std.specs.Map.{keys_of}
use Rattle.std.specs.BTreeMap.{insert_entry}
use Rattle.std.specs.declared.cmp.Ordering.{Ordering}
use Rattle.std.specs.declared.cmp.Ordering.TheVariants.{Less, Equal, Greater}
use Rattle.std.specs.Ordering.{nat_cmp, match_ordering, is_eq}
use Rattle.zone_model.specs.Names.{Name, name_cmp, is_under, same_name}
use Rattle.zone_model.specs.Refusals.{Refused}
use Rattle.zone_model.specs.declared.ZoneKind.{ZoneKind}
use Rattle.zone_model.specs.declared.ZoneKind.TheVariants.{BadName, BadTtl, NoOwner, NoTtl, SoaRule}
use Rattle.zone_model.specs.Records.{Entry, octets_cmp, with_record, fresh, with_rr}
use Rattle.zone_model.specs.Versions.{Version, entry_of, owned, has_soa, soa_type}
use Rattle.zone_model.specs.Tokens.{Token, refused, line_tokens}
use Rattle.zone_model.specs.DataWords.{is_word}
use Rattle.zone_model.specs.Data.{data_of}
use Rattle.zone_model.specs.MasterFile.{Reader, required, name_word, time_word, is_directive, one_argument, set_time_word, set_origin_word, directive, front_of, placed, time_for, entry_fault, unless_fault, placed_in, added, after_record, record_says, last_line, entry_says, Pending, goes_on, zone_from, at_first, with_soa, zone_at}
use Rattle.report_laws.proofs.DataLemmas.{bound}
use Rattle.report_laws.proofs.TokenLemmas.{either}
use Rattle.report_laws.proofs.WellFormedLemmas.{above_more, rising_put}
use Rattle.zone_diff.proofs.VersionLemmas.{IsAhead, none_ahead}
use Rattle.zone_diff.proofs.CountLemmas.{in_entry, in_version}

-- ---- a record joins

record_joins : (octets : List ℕ) (records : List (List ℕ)) → length (with_record octets records) ≤ length records + 1
record_joins octets [] = omega arith
record_joins octets (first ∷ rest) = by_order (octets_cmp octets first) (record_joins octets rest)
  where
    by_order : (o : Ordering) → length (with_record octets rest) ≤ length rest + 1
        → length (match_ordering o (octets ∷ (first ∷ rest)) (first ∷ rest) (first ∷ with_record octets rest)) ≤ suc (length rest) + 1
    by_order Less more = omega arith
    by_order Equal more = omega arith
    by_order Greater more = omega (arith, more)

entry_joins : (rtype ttl : ℕ) (octets : List ℕ) (entry : Entry) → in_entry (with_rr rtype ttl octets entry) ≤ in_entry entry + 1
entry_joins rtype ttl octets [] = omega arith
entry_joins rtype ttl octets (s ∷ rest) = by_order (nat_cmp rtype s.rtype) (record_joins octets s.records) (entry_joins rtype ttl octets rest)
  where
    by_order : (o : Ordering) → length (with_record octets s.records) ≤ length s.records + 1 → in_entry (with_rr rtype ttl octets rest) ≤ in_entry rest + 1
        → in_entry (match_ordering o (fresh rtype ttl octets ∷ s ∷ rest) ((record s { records = with_record octets s.records }) ∷ rest) (s ∷ with_rr rtype ttl octets rest)) ≤ length s.records + in_entry rest + 1
    by_order Less first more = omega arith
    by_order Equal first more = omega (arith, first)
    by_order Greater first more = omega (arith, more)

version_joins : (owner : Name) (entry : Entry) (version : Version) → IsStrictlySortedBy name_cmp (keys_of version) → in_entry entry ≤ in_entry (owned owner version) + 1
    → in_version (insert_entry name_cmp version owner entry) ≤ in_version version + 1
unfolding IsStrictlySortedBy
version_joins owner entry [] h l = omega (arith, l)
version_joins owner entry (pair ∷ rest) h l = by_order (name_cmp owner pair.0) refl l (version_joins owner entry rest h.1)
  where
    ahead : (v : Version) → IsAhead pair.0 v → name_cmp owner pair.0 ≡ Less → IsAhead owner v
    ahead v a e = above_more owner pair.0 v e a

    by_order : (o : Ordering) → name_cmp owner pair.0 ≡ o → in_entry entry ≤ in_entry (unwrap_or (cond (is_eq o) (Some pair.1) (entry_of owner rest)) []) + 1
        → (in_entry entry ≤ in_entry (owned owner rest) + 1 → in_version (insert_entry name_cmp rest owner entry) ≤ in_version rest + 1)
        → in_version (match_ordering o ((owner, entry) ∷ pair ∷ rest) ((pair.0, entry) ∷ rest) (pair ∷ insert_entry name_cmp rest owner entry)) ≤ in_entry pair.1 + in_version rest + 1
    by_order Less e few more =
        let none : in_entry (owned owner rest) ≡ 0 = ap (λ (x : Option Entry). in_entry (unwrap_or x [])) (none_ahead owner rest (ahead rest h.0 e)) in
        omega (arith, few, none)
    by_order Equal e few more = omega (arith, few)
    by_order Greater e few more = omega (arith, more few)

-- ---- what the entries so far leave

-- names rise, and have no more records than so many
record Counted (most : ℕ) (version : Version) : Type 0 where
  rising : IsStrictlySortedBy name_cmp (keys_of version)
  few : in_version version ≤ most

placed_counted : (most last : ℕ) (owner : Name) (rtype time : ℕ) (octets : List ℕ) (version new : Version) → Counted most version → placed_in last owner rtype time octets version ≡ Ok new → Counted (most + 1) new
placed_counted most last owner rtype time octets version new h e = by_fault (entry_fault owner entry) e
  where
    entry : Entry
    entry = with_rr rtype time octets (owned owner version)

    by_fault : (f : Option ZoneKind) → unless_fault last f (insert_entry name_cmp version owner entry) ≡ Ok new → Counted (most + 1) new
    by_fault None k =
        let is : insert_entry name_cmp version owner entry ≡ new = cc in
        let few = version_joins owner entry version h.rising (entry_joins rtype time octets (owned owner version)) in
        subst (Counted (most + 1)) is (record { rising = rising_put owner entry version h.rising; few = omega (arith, few, h.few) })
    by_fault (Some kind) k = absurd cc

added_counted : (most : ℕ) (apex : Name) (last : ℕ) (owner : Name) (rtype time : ℕ) (octets : List ℕ) (version new : Version) → Counted most version → added apex last owner rtype time octets version ≡ Ok new → Counted (most + 1) new
unfolding added
added_counted most apex last owner rtype time octets version new h e =
    either (not (is_under owner apex)) _ _ (Ok new) (λ k. absurd cc)
    (either (eqb rtype soa_type && not (same_name owner apex)) _ _ (Ok new) (λ k. absurd cc) (placed_counted most last owner rtype time octets version new h)) e

counted_as : (most : ℕ) (x new : Reader) → Counted most x.version → ◌≡◌ {A = Result Reader (Refused ZoneKind)} (Ok x) (Ok new) → Counted most new.version
counted_as most x new h e = let is : x ≡ new = cc in subst (λ (r : Reader). Counted most r.version) is h

record_counted : (most : ℕ) (apex : Name) (last : ℕ) (owner : Name) (words : List Token) (r new : Reader) → Counted most r.version → record_says apex last owner words r ≡ Ok new → Counted (most + 1) new.version
unfolding record_says
record_counted most apex last owner words r new h e =
    let a = bound (front_of last None false words) _ new e in
    let b = bound (placed last a.0.rest (data_of r.origin a.0.rtype a.0.rest)) _ new a.2 in
    let c = bound (required last NoTtl (time_for a.0.time a.0.rtype b.0 r)) _ new b.2 in
    let v = bound (added apex last owner a.0.rtype c.0 b.0 r.version) _ new c.2 in
    counted_as (most + 1) (after_record a.0.time a.0.rtype b.0 owner r v.0) new (added_counted most apex last owner a.0.rtype c.0 b.0 r.version v.0 h v.1) v.2

more_counted : (most next : ℕ) (version : Version) → most ≤ next → Counted most version → Counted next version
more_counted most next version l h = record { rising = h.rising; few = omega (arith, l, h.few) }

directive_counted : (most : ℕ) (t : Token) (arguments : List Token) (r new : Reader) → Counted most r.version → directive t arguments r ≡ Ok new → Counted most new.version
unfolding directive
directive_counted most t arguments r new h e =
    either (is_word t.text (codes "$INCLUDE")) _ _ (Ok new) (λ k. absurd cc)
    (either (is_word t.text (codes "$TTL")) _ _ (Ok new)
    (λ k.
    let a = bound (one_argument t.line arguments) (set_time_word r) new k in
    let b = bound (required a.0.line BadTtl (time_word a.0)) (λ (time : ℕ). Ok (record r { set_time = Some time })) new a.2 in
    counted_as most (record r { set_time = Some b.0 }) new h b.2)
    (either (is_word t.text (codes "$ORIGIN")) _ _ (Ok new)
    (λ k.
    let a = bound (one_argument t.line arguments) (set_origin_word r) new k in
    let b = bound (required a.0.line BadName (name_word r.origin a.0)) (λ (name : Name). Ok (record r { origin = name })) new a.2 in
    counted_as most (record r { origin = b.0 }) new h b.2)
    (λ k. absurd cc))) e

entry_counted : (most : ℕ) (apex : Name) (n : ℕ) (blank : Bool) (tokens : List Token) (r new : Reader) → Counted most r.version → entry_says apex n blank tokens r ≡ Ok new → Counted (most + 1) new.version
unfolding entry_says
entry_counted most apex n blank [] r new h e = counted_as (most + 1) r new (more_counted most (most + 1) r.version (omega arith) h) e
entry_counted most apex n blank (token ∷ tokens) r new h e =
    either blank _ _ (Ok new)
    (λ k. let b = bound (required n NoOwner r.owner) _ new k in record_counted most apex (last_line token.line tokens) b.0 (token ∷ tokens) r new h b.2)
    (either (is_directive token) _ _ (Ok new) (λ k. more_counted most (most + 1) new.version (omega arith) (directive_counted most token tokens r new h k))
    (λ k. let b = bound (required token.line BadName (name_word r.origin token)) _ new k in record_counted most apex (last_line token.line tokens) b.0 tokens r new h b.2)) e

-- ---- the lines

lines_counted : (most : ℕ) (apex : Name) (n : ℕ) (lines : List (List ℕ)) (pending : Option Pending) (r new : Reader) → Counted most r.version → zone_from apex n lines pending r ≡ Ok new → Counted (most + length lines) new.version
unfolding zone_from
lines_counted most apex n [] None r new h e = counted_as (most + 0) r new (more_counted most (most + 0) r.version (omega arith) h) e
lines_counted most apex n [] (Some pending) r new h e = absurd cc
lines_counted most apex n (line ∷ lines) pending r new h e =
    let q = goes_on n line pending in
    let b = bound (line_tokens n line q.scan) _ new e in
    either (eqb b.0.depth 0) _ _ (Ok new)
    (λ k.
    let c = bound (entry_says apex q.first q.blank b.0.tokens r) (zone_from apex (n + 1) lines None) new k in
    let entry = entry_counted most apex q.first q.blank b.0.tokens r c.0 h c.1 in
    more_counted (most + 1 + length lines) (most + suc (length lines)) new.version (omega arith) (lines_counted (most + 1) apex (n + 1) lines None c.0 new entry c.2))
    (λ k. more_counted (most + length lines) (most + suc (length lines)) new.version (omega arith) (lines_counted most apex (n + 1) lines (Some (record q { scan = b.0 })) r new h k)) b.2

no_names : IsStrictlySortedBy name_cmp (keys_of {K = Name} {X = Entry} [])
unfolding IsStrictlySortedBy
no_names = tt

pub zone_few : (n : ℕ) (origin : Name) (lines : List (List ℕ)) (zone : Version) → zone_at n origin lines ≡ Ok zone → in_version zone ≤ length lines
zone_few n origin lines zone e =
    let b = bound (zone_from origin n lines None (at_first origin)) (with_soa origin (length lines + n)) zone e in
    let r = lines_counted 0 origin n lines None (at_first origin) b.0 (record { rising = no_names; few = omega arith }) b.1 in
    by_soa b.0 r (has_soa origin b.0.version) b.2
  where
    by_soa : (r : Reader) → Counted (0 + length lines) r.version → (soa : Bool) → cond soa (Ok r.version) (refused (length lines + n) SoaRule) ≡ Ok zone → in_version zone ≤ length lines
    by_soa r h true k = let is : r.version ≡ zone = cc in let few = h.few in subst (λ (v : Version). in_version v ≤ length lines) is (omega (arith, few))
    by_soa r h false k = absurd cc

-- Directives are read as what they set.
use Rattle.std.proofs.Common.{◌≡◌, ◌∙◌, ℕ, ◌+◌, ◌^◌, ◌<◌, ◌≤◌, Bool, true, false, cond, eqb, List, [], ◌∷◌, ◌++◌, length, refl, sym, ap, subst, arith, Some, None, Result, Ok, append_assoc, unwrap_or}
use Rattle.std.specs.List.{AllByRecursion, list_all}
use Rattle.std.specs.BTreeMap.{is_at}
use Rattle.std.specs.Option.{option_map_or}
use Rattle.std.specs.Fmt.{decimal}
use Rattle.std.proofs.lemmas.Fmt.{decimal_nonempty}
use Rattle.zone_model.specs.Refusals.{Refused, ◌>>=◌}
use Rattle.zone_model.specs.declared.ZoneKind.{ZoneKind}
use Rattle.zone_model.specs.Names.{Name, IsName, name_cmp}
use Rattle.zone_model.specs.NameText.{text_of}
use Rattle.zone_model.specs.Lines.{lines_of}
use Rattle.zone_model.specs.Grammar.{Token, stops_word, Spells, begins_blank}
use Rattle.zone_model.specs.Records.{Rrset, Entry, rrset_of, RisingSets, IsItem, item}
use Rattle.zone_model.specs.Versions.{Version, entry_of, owned, soa_type}
use Rattle.zone_model.specs.MasterFile.{Reader, directive, entry_says, zone_from, at_first, zone_of}
use Rattle.zone_model.specs.Rows.{rows_of, Directives, directives_text}
use Rattle.zone_model.specs.declared.Style.{Style}
use Rattle.zone_model.specs.declared.Style.TheVariants.{Full, Short}
use Rattle.zone_model.specs.Dumps.{rows_at, all_rows, version_lines, directives_of, dump}
use Rattle.dns_name.proofs.PrintedLemmas.{name_of-text_of}
use Rattle.rr_data.proofs.PrintedLemmas.{time_back}
use Rattle.rr_data.proofs.PrintedWordLemmas.{is_shown, Shows, decimal_word, plain_word, IsFieldWord, absolute_is_word}
use Rattle.rr_data.proofs.PrintedDataLemmas.{plain, word, spell_word, spell_word_then, shown_then}
use Rattle.rr_data.proofs.RecordLineLemmas.{full_lines}
use Rattle.master_file.specs.Rows.{IsRecord, CanBeDumped}
use Rattle.master_file.proofs.PrintedLineLemmas.{first_line, shown_in_line, zone_step, reads_line, word_begins}
use Rattle.master_file.proofs.DumpLemmas.{ReadsTo, reads_more, VersionRead, version_read, zone_is}

-- ---- one directive

-- a word and an argument stand on a line
record DirectiveLine (n : ℕ) (name argument : List ℕ) : Type 0 where
  pub spelled : Spells n [] (name ++ 32 ∷ [] ++ argument) (plain (word n name ∷ word n argument ∷ []))
  pub shown : list_all is_shown (name ++ 32 ∷ [] ++ argument) ≡ true
  pub begins : begins_blank (name ++ 32 ∷ [] ++ argument) ≡ false

directive_line : (n : ℕ) (name argument : List ℕ) → 0 < length name → Shows stops_word name → 0 < length argument → Shows stops_word argument → DirectiveLine n name argument
directive_line n name argument some shows more argues = record {
  spelled = spell_word_then n name argument (word n argument ∷ []) some shows.run (spell_word n argument more argues.run);
  shown = shown_then name argument shows.shown argues.shown;
  begins = ap begins_blank (append_assoc name (32 ∷ []) argument) ∙ word_begins (32 ∷ argument) shows.run some;
}

-- a directive leads from one reader to another
directive_reads : (apex : Name) (name argument : List ℕ) (before after : Reader) → ((n : ℕ) → DirectiveLine n name argument) → ((n : ℕ) → entry_says apex n false (word n name ∷ word n argument ∷ []) before ≡ Ok after)
    → ReadsTo apex (name ++ 32 ∷ [] ++ argument ++ 10 ∷ []) before after
directive_reads apex name argument before after line says = record {
  lines = 1;
  read = λ n rest.
      let text = name ++ 32 ∷ [] ++ argument in
      let words : List Token = word n name ∷ word n argument ∷ [] in
      ap (λ (l : List ℕ). zone_from apex n (lines_of l) None before) (append_assoc text (10 ∷ []) rest)
      ∙ ap (λ (ls : List (List ℕ)). zone_from apex n ls None before) (first_line text rest (shown_in_line text (line n).shown))
      ∙ zone_step apex n text (lines_of rest) words before (reads_line n text words (line n).spelled)
      ∙ ap (λ (b : Bool). entry_says apex n b words before >>= zone_from apex (n + 1) (lines_of rest) None) (line n).begins
      ∙ ap (λ (x : Result Reader (Refused ZoneKind)). x >>= zone_from apex (n + 1) (lines_of rest) None) (says n);
}

-- the first octets of `$ORIGIN` and `$TTL`
abbrev origin_word : List ℕ
origin_word = 36 ∷ 79 ∷ 82 ∷ 73 ∷ 71 ∷ 73 ∷ 78 ∷ []

abbrev ttl_word : List ℕ
ttl_word = 36 ∷ 84 ∷ 84 ∷ 76 ∷ []

origin_says : (apex origin : Name) (r : Reader) (n : ℕ) → IsName origin → entry_says apex n false (word n origin_word ∷ word n (text_of origin) ∷ []) r ≡ Ok (record r { origin = origin })
unfolding entry_says directive
origin_says apex origin r n h = rw (name_of-text_of origin r.origin h) refl

ttl_says : (apex : Name) (ttl : ℕ) (r : Reader) (n : ℕ) → ttl ≤ 2147483647 → entry_says apex n false (word n ttl_word ∷ word n (decimal ttl) ∷ []) r ≡ Ok (record r { set_time = Some ttl })
unfolding entry_says directive
ttl_says apex ttl r n h = rw (time_back ttl h) refl

-- ---- both

abbrev pub under : Directives → Reader → Reader
under d r = record r { origin = d.origin; set_time = Some d.ttl }

directives_parts : (o d : List ℕ) → (36 ∷ 79 ∷ 82 ∷ 73 ∷ 71 ∷ 73 ∷ 78 ∷ 32 ∷ []) ++ o ++ 10 ∷ 36 ∷ 84 ∷ 84 ∷ 76 ∷ 32 ∷ [] ++ d ++ 10 ∷ [] ≡ (origin_word ++ 32 ∷ [] ++ o ++ 10 ∷ []) ++ (ttl_word ++ 32 ∷ [] ++ d ++ 10 ∷ [])
directives_parts o d =
    let front = (36 ∷ 79 ∷ 82 ∷ 73 ∷ 71 ∷ 73 ∷ 78 ∷ 32 ∷ []) ++ o in
    append_assoc (front ++ 10 ∷ 36 ∷ 84 ∷ 84 ∷ 76 ∷ 32 ∷ []) d (10 ∷ []) ∙ append_assoc front (10 ∷ 36 ∷ 84 ∷ 84 ∷ 76 ∷ 32 ∷ []) (d ++ 10 ∷ [])
    ∙ sym (append_assoc front (10 ∷ []) (ttl_word ++ 32 ∷ [] ++ d ++ 10 ∷ []))

directives_read : (apex : Name) (d : Directives) (r : Reader) → IsName d.origin → d.ttl ≤ 2147483647 → ReadsTo apex (directives_text d) r (under d r)
directives_read apex d r name time =
    let small : d.ttl < 2 ^ 64 = omega arith in
    let o : IsFieldWord (text_of d.origin) = absolute_is_word d.origin name.each in
    let mid : Reader = record r { origin = d.origin } in
    subst (λ (t : List ℕ). ReadsTo apex t r (under d r)) (sym (directives_parts (text_of d.origin) (decimal d.ttl)))
    (reads_more apex (origin_word ++ 32 ∷ [] ++ text_of d.origin ++ 10 ∷ []) (ttl_word ++ 32 ∷ [] ++ decimal d.ttl ++ 10 ∷ []) r mid (under d r)
    (directive_reads apex origin_word (text_of d.origin) r mid (λ n. directive_line n origin_word (text_of d.origin) (omega arith) (plain_word origin_word refl) o.some o.shows) (λ n. origin_says apex d.origin r n name))
    (directive_reads apex ttl_word (decimal d.ttl) mid (under d r) (λ n. directive_line n ttl_word (decimal d.ttl) (omega arith) (plain_word ttl_word refl) (decimal_nonempty d.ttl small) (decimal_word d.ttl small)) (λ n. ttl_says apex d.ttl mid n time)))

-- ---- the SOA's time to live

set_time : (owner : Name) (s : Rrset) → 0 < length s.records → AllByRecursion IsRecord (rows_of owner s) → s.ttl ≤ 2147483647
set_time owner s some all = by_records s.records some all
  where
    by_records : (l : List (List ℕ)) → 0 < length l → AllByRecursion IsRecord (rows_of owner (record s { records = l })) → s.ttl ≤ 2147483647
    by_records [] lt h = absurd (omega arith)
    by_records (octets ∷ more) lt h = h.0.time

abbrev HaveTimes : Entry → Type 0
HaveTimes entry = AllByRecursion (λ (s : Rrset). s.ttl ≤ 2147483647) entry

front_of : {A : Type 0} (P : A → Type 0) (xs ys : List A) → AllByRecursion P (xs ++ ys) → AllByRecursion P xs × AllByRecursion P ys
front_of P [] ys h = (tt, h)
front_of P (x ∷ xs) ys h = let i = front_of P xs ys h.1 in ((h.0, i.0), i.1)

times_behind : (owner : Name) (t : ℕ) (entry : Entry) → RisingSets (Some t) entry → AllByRecursion IsRecord (rows_at (owner, entry)) → HaveTimes entry
times_behind owner t [] r all = tt
times_behind owner t (s ∷ entry) r all =
    let parts = front_of IsRecord (rows_of owner s) (rows_at (owner, entry)) all in (set_time owner s r.1.some parts.0, times_behind owner s.rtype entry r.2 parts.1)

entry_times : (owner : Name) (entry : Entry) → RisingSets None entry → AllByRecursion IsRecord (rows_at (owner, entry)) → HaveTimes entry
entry_times owner [] r all = tt
entry_times owner (s ∷ entry) r all =
    let parts = front_of IsRecord (rows_of owner s) (rows_at (owner, entry)) all in (set_time owner s r.0.some parts.0, times_behind owner s.rtype entry r.1 parts.1)

found_time : (rtype : ℕ) (entry : Entry) → HaveTimes entry → option_map_or (λ (s : Rrset). s.ttl) (rrset_of rtype entry) 0 ≤ 2147483647
found_time rtype [] h = omega arith
found_time rtype (s ∷ entry) h = by_type (eqb s.rtype rtype) (found_time rtype entry h.1)
  where
    by_type : (b : Bool) → option_map_or (λ (s : Rrset). s.ttl) (rrset_of rtype entry) 0 ≤ 2147483647 → option_map_or (λ (s : Rrset). s.ttl) (cond b (Some s) (rrset_of rtype entry)) 0 ≤ 2147483647
    by_type true k = h.0
    by_type false k = k

owned_time : (origin : Name) (rtype : ℕ) (version : Version) → AllByRecursion (λ (pair : Name × Entry). IsItem (item pair.0 pair.1) pair.0 pair.1) version → AllByRecursion IsRecord (all_rows version)
    → option_map_or (λ (s : Rrset). s.ttl) (rrset_of rtype (owned origin version)) 0 ≤ 2147483647
owned_time origin rtype [] items all = omega arith
owned_time origin rtype (pair ∷ version) items all =
    let parts = front_of IsRecord (rows_at pair) (all_rows version) all in
    by_name (is_at (name_cmp origin) pair.0) (found_time rtype pair.1 (entry_times pair.0 pair.1 items.0.proper parts.0)) (owned_time origin rtype version items.1 parts.1)
  where
    by_name : (b : Bool) → option_map_or (λ (s : Rrset). s.ttl) (rrset_of rtype pair.1) 0 ≤ 2147483647 → option_map_or (λ (s : Rrset). s.ttl) (rrset_of rtype (owned origin version)) 0 ≤ 2147483647
        → option_map_or (λ (s : Rrset). s.ttl) (rrset_of rtype (unwrap_or (cond b (Some pair.1) (entry_of origin version)) [])) 0 ≤ 2147483647
    by_name true here there = here
    by_name false here there = there

-- ---- dumps

pub dump_back : (style : Style) (origin : Name) (version : Version) → CanBeDumped origin version → zone_of origin (lines_of (dump style origin version)) ≡ Ok version
dump_back Full origin version h =
    let p : VersionRead origin (version_lines None version) (at_first origin) version = version_read None origin version h (at_first origin) tt refl in
    ap (λ (t : List ℕ). zone_of origin (lines_of t)) (sym (full_lines version)) ∙ zone_is origin (version_lines None version) version h p
dump_back Short origin version h =
    let d : Directives = directives_of origin version in
    let time : d.ttl ≤ 2147483647 = owned_time origin soa_type version h.items h.records in
    let start : Reader = under d (at_first origin) in
    let p : VersionRead origin (version_lines (Some d) version) start version = version_read (Some d) origin version h start (refl, refl) refl in
    zone_is origin (directives_text d ++ version_lines (Some d) version) version h
    (record { after = p.after; reads = reads_more origin (directives_text d) (version_lines (Some d) version) (at_first origin) start p.after (directives_read origin d (at_first origin) h.name time) p.reads; version_is = p.version_is })

-- what is read is the version, so its dump is the version's
pub dump_alike : (style again : Style) (origin : Name) (version read : Version) → CanBeDumped origin version → zone_of origin (lines_of (dump style origin version)) ≡ Ok read → dump again origin read ≡ dump again origin version
dump_alike style again origin version read h e =
    let same : ◌≡◌ {A = Result Version (Refused ZoneKind)} (Ok version) (Ok read) = sym (dump_back style origin version h) ∙ e in
    let is : version ≡ read = cc in
    ap (λ (v : Version). dump again origin v) (sym is)

-- What an input of several zones says, as files of octets say it.
use Rattle.std.proofs.Common.{◌≡◌, ◌+◌, ℕ, Bool, true, false, cond, eqb, ltb, List, [], ◌∷◌, ◌++◌, length, Option, Some, None, Result, Ok, Err, IfOk, refl, subst}
use Rattle.std.specs.List.{AllByRecursion, list_any}
use Rattle.zone_model.specs.Names.{Name, IsName, same_name}
use Rattle.zone_model.specs.Lines.{lines_of}
use Rattle.zone_model.specs.Tokens.{EntryTokens, Scan, Token, entry_from, entry_of, fresh, line_tokens, refused}
use Rattle.zone_model.specs.MasterFile.{Zone, zone_at, name_word, required}
use Rattle.zone_model.specs.declared.ZoneKind.TheVariants.{BadName, BadToken, OpenParen, Repeated, TooManyZones}
use Rattle.dns_name.proofs.BodyLemmas.{all_push}
use Rattle.report_laws.specs.Octets.{AllOctets}
use Rattle.report_laws.proofs.DataLemmas.{AllTexts, bound}
use Rattle.report_laws.proofs.ReaderLemmas.{name_said, zone_dumped_at}
use Rattle.report_laws.proofs.TokenLemmas.{fresh_is, line_is}
use Rattle.report_laws.proofs.VersionLemmas.{lines_are}
use Rattle.report_laws.proofs.NameLemmas.{root_is}
use Rattle.zone_list.specs.Lists.{Cut, Part, begins_part, cut_from, head_says, is_head, new_origin, origin_word, part_says, with_line, zone_limit, zones_from, zones_of}
use Rattle.zone_text.specs.Views.{Reads}
use Rattle.zone_text.specs.declared.refusal.ZoneRefusal.{ZoneRefusal}
use Rattle.qp_main.specs.Saids.{IsRead}

ok_same : {A E : Type 0} (x y : A) → ◌≡◌ {A = Result A E} (Ok x) (Ok y) → x ≡ y
ok_same x y k = cc

-- ---- the lines of parts

abbrev IsOfOctets : Part → Type 0
IsOfOctets p = AllOctets p.head × AllByRecursion AllOctets p.lines

abbrev IsCutOfOctets : Cut → Type 0
IsCutOfOctets c = AllByRecursion AllOctets c.front × AllByRecursion IsOfOctets c.parts

with_octets : (n : ℕ) (line : List ℕ) (cut : Cut) → AllOctets line → IsCutOfOctets cut → IsCutOfOctets (with_line n line cut)
with_octets n line cut l h = by_head (is_head line)
  where
    by_head : (b : Bool) → IsCutOfOctets (cond b (record { front = []; parts = (record { number = n; head = line; lines = cut.front }) ∷ cut.parts }) (record { front = line ∷ cut.front; parts = cut.parts }))
    by_head true = (tt, ((l, h.0), h.1))
    by_head false = ((l, h.0), h.1)

cut_octets : (n : ℕ) (lines : List (List ℕ)) → AllByRecursion AllOctets lines → IsCutOfOctets (cut_from n lines)
unfolding cut_from
cut_octets n [] h = (tt, tt)
cut_octets n (line ∷ lines) h = with_octets n line (cut_from (n + 1) lines) h.0 (cut_octets (n + 1) lines h.1)

-- ---- origins

ended : (s : Scan) (n : ℕ) (e : EntryTokens) → AllTexts s.tokens → entry_from n [] s ≡ Ok e → AllTexts e.tokens
unfolding entry_from
ended s n e h k = by_depth (eqb s.depth 0) k
  where
    by_depth : (b : Bool) → cond b (Ok (entry_of s n [])) (refused s.outer OpenParen) ≡ Ok e → AllTexts e.tokens
    by_depth true k = subst (λ (x : EntryTokens). AllTexts x.tokens) (ok_same (entry_of s n []) e k) h
    by_depth false k = absurd cc

one_line : (n : ℕ) (line : List ℕ) (e : EntryTokens) → AllOctets line → entry_from n (line ∷ []) fresh ≡ Ok e → AllTexts e.tokens
unfolding entry_from
one_line n line e l k =
    let b = bound (line_tokens n line fresh) _ e k in
    by_depth b.0 ((line_is n line fresh b.0 l fresh_is b.1).tokens) (eqb b.0.depth 0) b.2
  where
    by_depth : (s : Scan) → AllTexts s.tokens → (b : Bool) → cond b (Ok (entry_of s (n + 1) [])) (entry_from (n + 1) [] s) ≡ Ok e → AllTexts e.tokens
    by_depth s h true k = subst (λ (x : EntryTokens). AllTexts x.tokens) (ok_same (entry_of s (n + 1) []) e k) h
    by_depth s h false k = ended s (n + 1) e h k

origin_named : (n : ℕ) (tokens : List Token) (name : Name) → AllTexts tokens → origin_word n tokens ≡ Ok name → IsName name
origin_named n [] name h k = absurd cc
origin_named n (word ∷ []) name h k = absurd cc
origin_named n (word ∷ origin ∷ []) name h k = by_word (name_word [] origin) refl k
  where
    by_word : (o : Option Name) → name_word [] origin ≡ o → required n BadName o ≡ Ok name → IsName name
    by_word (Some x) e k = subst IsName (ok_same x name k) (name_said [] origin x h.1.0 root_is e)
    by_word None e k = absurd cc
origin_named n (word ∷ origin ∷ other ∷ words) name h k = absurd cc

head_named : (n : ℕ) (line : List ℕ) (name : Name) → AllOctets line → head_says n line ≡ Ok name → IsName name
unfolding head_says
head_named n line name l k =
    let b = bound (entry_from n (line ∷ []) fresh) (λ entry. origin_word n entry.tokens) name k in
    origin_named n b.0.tokens name (one_line n line b.0 l b.1) b.2

-- ---- zones

new_same : (n : ℕ) (earlier : List Zone) (origin name : Name) → new_origin n earlier origin ≡ Ok name → origin ≡ name
new_same n earlier origin name k = by_tests (list_any (λ zone. same_name zone.origin origin) earlier) (ltb (length earlier) zone_limit) k
  where
    by_tests : (b c : Bool) → cond b (refused n Repeated) (cond c (Ok origin) (refused n TooManyZones)) ≡ Ok name → origin ≡ name
    by_tests true c k = absurd cc
    by_tests false true k = ok_same origin name k
    by_tests false false k = absurd cc

part_read : (earlier : List Zone) (part : Part) (z : Zone) → IsOfOctets part → part_says earlier part ≡ Ok z → IsRead z
unfolding part_says
part_read earlier part z h k =
    let a = bound (head_says part.number part.head) _ z k in
    let b = bound (new_origin part.number earlier a.0) _ z a.2 in
    let c = bound (zone_at (part.number + 1) b.0 part.lines) _ z b.2 in
    let name : IsName b.0 = subst IsName (new_same part.number earlier a.0 b.0 b.1) (head_named part.number part.head a.0 h.0 a.1) in
    subst IsRead (ok_same (record { origin = b.0; pairs = c.0 }) z c.2) (name, zone_dumped_at (part.number + 1) b.0 part.lines c.0 h.1 name c.1)

zones_read : (earlier : List Zone) (parts : List Part) (zones : List Zone) → AllByRecursion IsRead earlier → AllByRecursion IsOfOctets parts → zones_from earlier parts ≡ Ok zones → AllByRecursion IsRead zones
unfolding zones_from
zones_read earlier [] zones e h k = subst (AllByRecursion IsRead) (ok_same earlier zones k) e
zones_read earlier (part ∷ parts) zones e h k =
    let b = bound (part_says earlier part) _ zones k in
    zones_read (earlier ++ b.0 ∷ []) parts zones (all_push IsRead earlier b.0 e (part_read earlier part b.0 h.0 b.1)) h.1 b.2

list_read : (lines : List (List ℕ)) (zones : List Zone) → AllByRecursion AllOctets lines → zones_of lines ≡ Ok zones → AllByRecursion IsRead zones
unfolding zones_of
list_read lines zones l k = by_first (begins_part lines) k
  where
    by_first : (b : Bool) → cond b (zones_from [] (cut_from 1 lines).parts) (refused 1 BadToken) ≡ Ok zones → AllByRecursion IsRead zones
    by_first true k = zones_read [] (cut_from 1 lines).parts zones tt (cut_octets 1 lines l).1 k
    by_first false k = absurd cc

pub zones_said : {R : Type 0} (view : R → List Zone) (bytes : List ℕ) → AllOctets bytes → (r : Result R ZoneRefusal) → Reads r view (zones_of (lines_of bytes)) → IfOk r (λ v. AllByRecursion IsRead (view v))
zones_said view bytes octets (Ok v) read = list_read (lines_of bytes) (view v) (lines_are bytes octets) read
zones_said view bytes octets (Err refusal) read = tt

-- What is read from a printed name is that name.
use Rattle.std.proofs.Common.{◌≡◌, ℕ, ◌+◌, ◌-◌, ◌/◌, ◌%◌, ◌<◌, ◌≤◌, Bool, true, false, List, [], ◌∷◌, ◌++◌, length, take, drop, get_or, sym, ap, subst, ◌∙◌, refl, arith, append_assoc, append-nil, length-append, Ok, Option, Some, eqb, ltb, ◌&&◌, if◌then◌else◌}
use Rattle.std.proofs.lemmas.Bool.Decides.{nat_tests}
use Rattle.std.specs.List.{AllByRecursion, flat_map}
use Rattle.std.specs.Char.{to_ascii_lowercase, is_ascii_digit}
use Rattle.std.proofs.lemmas.List.{take_at}
use Rattle.zone_model.specs.Names.{IsName, IsLabel, IsFolded, is_under}
use Rattle.zone_model.specs.Escapes.{escaped_octet, escape_len, number_of_three}
use Rattle.zone_model.specs.NameText.{Piece, Octet, escape_piece, taken, pieces_from, labels_from, onto, completed, name_of, is_special, octet_text, three_digits, label_text, text_of, labels_text, front_text, relative_text}
use Rattle.zone_model.proofs.OrderLemmas.{under_ends}
use Rattle.dns_name.proofs.PieceLemmas.{pieces-cons, pieces-skip, piece_of-plain, taken-plain}
use Rattle.dns_name.proofs.TextLemmas.{from-dot, from-octet, from-end_dot, from-end}
use Rattle.dns_name.proofs.LabelLemmas.{fitting-fits, name_of-other}

-- the digits of an octet say it
number_of-digits : (c : ℕ) (text : List ℕ) → c < 256 → number_of_three (three_digits c ++ text) ≡ c
number_of-digits c text h = omega arith

is_digit : (d : ℕ) → d < 10 → is_ascii_digit (d + 48) ≡ true
is_digit d h = grind (arith, nat_tests)

escaped-digits : (c : ℕ) (text : List ℕ) → c < 256 → escaped_octet (three_digits c ++ text) ≡ Some c
unfolding escaped_octet
escaped-digits c text h =
    let a : is_ascii_digit (c / 100 + 48) ≡ true = is_digit (c / 100) (omega arith) in
    let b : is_ascii_digit (c / 10 % 10 + 48) ≡ true = is_digit (c / 10 % 10) (omega arith) in
    let d : is_ascii_digit (c % 10 + 48) ≡ true = is_digit (c % 10) (omega arith) in
    let n : number_of_three (three_digits c ++ text) ≡ c = number_of-digits c text h in
    let fits : ltb (number_of_three (three_digits c ++ text)) 256 ≡ true = grind (arith, nat_tests) in
    let some : eqb (length (three_digits c ++ text)) 0 ≡ false = grind arith in
    rw (some, a, b, d, fits, n) refl

escaped-self : (c : ℕ) (text : List ℕ) → is_ascii_digit c ≡ false → escaped_octet (c ∷ text) ≡ Some c
unfolding escaped_octet
escaped-self c text h = let some : eqb (length (c ∷ text)) 0 ≡ false = grind arith in rw (some, h) refl

-- ---- a printed octet is read as that octet

record ReadsOctet (at c : ℕ) (text : List ℕ) : Type 0 where
  pub next : ℕ
  pub is : pieces_from 0 at (octet_text c ++ text) ≡ Octet at c ∷ pieces_from 0 next text

-- an octet behind a backslash
read_escape : (at c n : ℕ) (behind text : List ℕ) → escaped_octet behind ≡ Some c → escape_len behind ≡ n → n ≤ length behind → drop n behind ≡ text → IsFolded c
    → pieces_from 0 at (92 ∷ behind) ≡ Octet at c ∷ pieces_from 0 (at + 1 + n) text
read_escape at c n behind text known len fits rest folded =
    pieces-cons at 92 behind ∙ ap (λ (o : Option ℕ). escape_piece at o ∷ pieces_from (escape_len behind) (at + 1) behind) known
    ∙ ap (λ (k : ℕ). Octet at (to_ascii_lowercase c) ∷ pieces_from k (at + 1) behind) len
    ∙ ap (λ (ps : List Piece). Octet at (to_ascii_lowercase c) ∷ ps) (pieces-skip n (at + 1) behind fits)
    ∙ ap (λ (l : List ℕ). Octet at (to_ascii_lowercase c) ∷ pieces_from 0 (at + 1 + n) l) rest
    ∙ ap (λ (o : ℕ). Octet at o ∷ pieces_from 0 (at + 1 + n) text) folded

special_digit : (c : ℕ) → is_special c ≡ true → is_ascii_digit c ≡ false
special_digit c h = grind (arith, nat_tests)

special_dot : (c : ℕ) → is_special c ≡ false → c ≡ 46 → ⊥
special_dot c h e = let k : is_special 46 ≡ false = ap is_special (sym e) ∙ h in cc

special_slash : (c : ℕ) → is_special c ≡ false → c ≡ 92 → ⊥
special_slash c h e = let k : is_special 92 ≡ false = ap is_special (sym e) ∙ h in cc

read_octet : (at c : ℕ) (text : List ℕ) → c < 256 → IsFolded c → ReadsOctet at c text
read_octet at c text small folded = go (is_special c) (ltb 32 c && ltb c 127) refl refl
  where
    go : (s p : Bool) → is_special c ≡ s → (ltb 32 c && ltb c 127) ≡ p → ReadsOctet at c text
    go true p es ep =
        let digit = special_digit c es in
        let len : escape_len (c ∷ text) ≡ 1 = rw digit refl in
        record {
          next = at + 1 + 1;
          is = ap (λ (l : List ℕ). pieces_from 0 at (l ++ text)) (let t : octet_text c ≡ 92 ∷ c ∷ [] = rw es refl in t) ∙ read_escape at c 1 (c ∷ text) text (escaped-self c text digit) len (omega arith) refl folded;
        }
    go false true es ep =
        record {
          next = at + 1;
          is = ap (λ (l : List ℕ). pieces_from 0 at (l ++ text)) (let t : octet_text c ≡ c ∷ [] = rw (es, ep) refl in t)
              ∙ pieces-cons at c text ∙ ap (λ (p : Piece). p ∷ pieces_from (taken c text) (at + 1) text) (piece_of-plain at c text (special_dot c es) (special_slash c es))
              ∙ ap (λ (k : ℕ). Octet at (to_ascii_lowercase c) ∷ pieces_from k (at + 1) text) (taken-plain c text (special_slash c es))
              ∙ ap (λ (o : ℕ). Octet at o ∷ pieces_from 0 (at + 1) text) folded;
        }
    go false false es ep =
        let a : is_ascii_digit (c / 100 + 48) ≡ true = is_digit (c / 100) (omega arith) in
        let len : escape_len (three_digits c ++ text) ≡ 3 = rw a refl in
        record {
          next = at + 1 + 3;
          is = ap (λ (l : List ℕ). pieces_from 0 at (l ++ text)) (let t : octet_text c ≡ 92 ∷ three_digits c = rw (es, ep) refl in t)
              ∙ read_escape at c 3 (three_digits c ++ text) text (escaped-digits c text small) len (omega arith) refl folded;
        }

-- ---- a printed label is read as that label

record ReadsLabel (done octets : List ℕ) (at : ℕ) (text : List ℕ) : Type 0 where
  pub next : ℕ
  pub is : labels_from done (pieces_from 0 at (flat_map octet_text octets ++ text)) ≡ labels_from (done ++ octets) (pieces_from 0 next text)

read_octets : (octets done : List ℕ) (at : ℕ) (text : List ℕ) → length done + length octets ≤ 63 → AllByRecursion (λ c. c < 256) octets → AllByRecursion IsFolded octets → ReadsLabel done octets at text
read_octets [] done at text short small folded = record { next = at; is = ap (λ (l : List ℕ). labels_from l (pieces_from 0 at text)) (sym (append-nil done)) }
read_octets (c ∷ cs) done at text short small folded =
    let o = read_octet at c (flat_map octet_text cs ++ text) small.0 folded.0 in
    let space : length done ≡ 63 → ⊥ = λ e. omega arith in
    let rest = read_octets cs (done ++ c ∷ []) o.next text (omega (arith, length-append done (c ∷ []))) small.1 folded.1 in
    record {
      next = rest.next;
      is = ap (λ (l : List ℕ). labels_from done (pieces_from 0 at l)) (append_assoc (octet_text c) (flat_map octet_text cs) text)
          ∙ ap (labels_from done) o.is ∙ from-octet at c done (pieces_from 0 o.next (flat_map octet_text cs ++ text)) space ∙ rest.is
          ∙ ap (λ (l : List ℕ). labels_from l (pieces_from 0 rest.next text)) (append_assoc done (c ∷ []) cs);
    }

record ReadsText (label : List ℕ) (at : ℕ) (text : List ℕ) : Type 0 where
  pub next : ℕ
  pub is : labels_from [] (pieces_from 0 at (label_text label ++ text)) ≡ onto (label ∷ []) (labels_from [] (pieces_from 0 next text))

read_label : (label : List ℕ) (at : ℕ) (text : List ℕ) → IsLabel label → ReadsText label at text
read_label label at text h =
    let r = read_octets label [] at (46 ∷ text) (omega (arith, h.short)) h.octets h.folded in
    record {
      next = r.next + 1;
      is = ap (λ (l : List ℕ). labels_from [] (pieces_from 0 at l)) (append_assoc (flat_map octet_text label) (46 ∷ []) text)
          ∙ r.is ∙ ap (labels_from label) (pieces-cons r.next 46 text) ∙ from-dot r.next label (pieces_from 0 (r.next + 1) text) h.some;
    }

-- ---- a printed name is read as that name

read_texts : (labels : List (List ℕ)) (at : ℕ) → AllByRecursion IsLabel labels → labels_from [] (pieces_from 0 at (flat_map label_text labels)) ≡ Ok (labels, true)
unfolding onto pieces_from
read_texts [] at h = from-end_dot
read_texts (l ∷ ls) at h =
    let r = read_label l at (flat_map label_text ls) h.0 in
    r.is ∙ ap (onto (l ∷ [])) (read_texts ls r.next h.1)

octet_text-some : (c : ℕ) → 0 < length (octet_text c)
octet_text-some c = go (is_special c) (ltb 32 c && ltb c 127) refl refl
  where
    go : (s p : Bool) → is_special c ≡ s → (ltb 32 c && ltb c 127) ≡ p → 0 < length (octet_text c)
    go true p es ep = rw es (omega arith)
    go false true es ep = rw (es, ep) (omega arith)
    go false false es ep = rw (es, ep) (omega arith)

label_text-long : (label : List ℕ) → 0 < length label → 1 < length (label_text label)
label_text-long [] h = absurd (omega arith)
label_text-long (c ∷ cs) h = omega (arith, octet_text-some c, length-append (flat_map octet_text (c ∷ cs)) (46 ∷ []), length-append (octet_text c) (flat_map octet_text cs))

pub name_of-text_of : (name origin : List (List ℕ)) → IsName name → name_of (text_of name) origin ≡ Ok name
unfolding name_of completed
name_of-text_of [] origin h = refl
name_of-text_of (l ∷ ls) origin h =
    let text = flat_map label_text (l ∷ ls) in
    let long : 1 < length (flat_map label_text (l ∷ ls)) = omega (arith, label_text-long l h.each.0.some, length-append (label_text l) (flat_map label_text ls)) in
    sym (name_of-other (flat_map label_text (l ∷ ls)) origin (λ e. omega arith) (λ e. absurd (omega arith)) (λ e. absurd (omega arith)))
    ∙ ap (completed origin) (read_texts (l ∷ ls) 0 h.each) ∙ fitting-fits (l ∷ ls) h.short

-- ---- a name printed relative to an origin is read as that name under it

-- a text begins with a printed octet
pub record BeginsWithOctet (text : List ℕ) : Type 0 where
  pub octet : ℕ
  pub more : List ℕ
  pub is : text ≡ octet_text octet ++ more

pub labels_begin : (label : List ℕ) (labels : List (List ℕ)) → 0 < length label → BeginsWithOctet (labels_text (label ∷ labels))
labels_begin [] labels h = absurd (omega arith)
labels_begin (c ∷ cs) [] h = record { octet = c; more = flat_map octet_text cs; is = refl }
labels_begin (c ∷ cs) (next ∷ labels) h =
    record { octet = c; more = flat_map octet_text cs ++ 46 ∷ labels_text (next ∷ labels); is = append_assoc (octet_text c) (flat_map octet_text cs) (46 ∷ labels_text (next ∷ labels)) }

-- a special octet but the backslash isn't the first one
octet_first : (c x : ℕ) (more : List ℕ) → is_special x ≡ true → (x ≡ 92 → ⊥) → get_or (octet_text c ++ more) 0 0 ≡ x → ⊥
octet_first c x more special slash = go (is_special c) (ltb 32 c && ltb c 127) refl refl
  where
    go : (s p : Bool) → is_special c ≡ s → (ltb 32 c && ltb c 127) ≡ p → get_or (octet_text c ++ more) 0 0 ≡ x → ⊥
    go true p es ep = rw es (λ e. slash (sym e))
    go false true es ep = rw (es, ep) (λ e. let k : is_special x ≡ false = ap is_special (sym e) ∙ es in cc)
    go false false es ep = rw (es, ep) (λ e. slash (sym e))

text_first : (text : List ℕ) (x : ℕ) → BeginsWithOctet text → is_special x ≡ true → (x ≡ 92 → ⊥) → get_or text 0 0 ≡ x → ⊥
text_first text x b special slash e = octet_first b.octet x b.more special slash (ap (λ (l : List ℕ). get_or l 0 0) (sym b.is) ∙ e)

pub text_some : (text : List ℕ) → BeginsWithOctet text → 0 < length text
text_some text b = omega (arith, octet_text-some b.octet, ap length b.is, length-append (octet_text b.octet) b.more)

no_pieces : (at : ℕ) → pieces_from 0 at [] ≡ []
unfolding pieces_from
no_pieces at = refl

read_front : (label : List ℕ) (labels : List (List ℕ)) (at : ℕ) → AllByRecursion IsLabel (label ∷ labels) → labels_from [] (pieces_from 0 at (labels_text (label ∷ labels))) ≡ Ok (label ∷ labels, false)
unfolding onto
read_front label [] at h =
    let r = read_octets label [] at [] (omega (arith, h.0.short)) h.0.octets h.0.folded in
    ap (λ (l : List ℕ). labels_from [] (pieces_from 0 at l)) (sym (append-nil (flat_map octet_text label))) ∙ r.is ∙ ap (labels_from label) (no_pieces r.next) ∙ from-end label h.0.some
read_front label (next ∷ labels) at h =
    let r = read_label label at (labels_text (next ∷ labels)) h.0 in
    ap (λ (l : List ℕ). labels_from [] (pieces_from 0 at l)) (sym (append_assoc (flat_map octet_text label) (46 ∷ []) (labels_text (next ∷ labels))))
    ∙ r.is ∙ ap (onto (label ∷ [])) (read_front next labels r.next h.1)

each_in_front : (front origin : List (List ℕ)) → AllByRecursion IsLabel (front ++ origin) → AllByRecursion IsLabel front
each_in_front [] origin h = tt
each_in_front (l ∷ ls) origin h = (h.0, each_in_front ls origin h.1)

front_back : (front origin : List (List ℕ)) → IsName (front ++ origin) → name_of (front_text front) origin ≡ Ok (front ++ origin)
unfolding name_of completed
front_back [] origin h = refl
front_back (l ∷ ls) origin h =
    let b = labels_begin l ls h.each.0.some in
    let some : 0 < length (labels_text (l ∷ ls)) = text_some (labels_text (l ∷ ls)) b in
    sym (name_of-other (labels_text (l ∷ ls)) origin (λ e. omega arith) (λ e. text_first (labels_text (l ∷ ls)) 64 b refl (λ k. omega arith)) (λ e. text_first (labels_text (l ∷ ls)) 46 b refl (λ k. omega arith)))
    ∙ ap (completed origin) (read_front l ls 0 (each_in_front (l ∷ ls) origin h.each)) ∙ fitting-fits ((l ∷ ls) ++ origin) h.short

pub name_of-relative_text : (name origin : List (List ℕ)) → IsName name → name_of (relative_text origin name) origin ≡ Ok name
name_of-relative_text name origin h = by_under (is_under name origin) refl
  where
    by_under : (u : Bool) → is_under name origin ≡ u → name_of (if u then front_text (take (length name - length origin) name) else text_of name) origin ≡ Ok name
    by_under false e = name_of-text_of name origin h
    by_under true e =
        let f = under_ends name origin e in
        let len : length name - length origin ≡ length f.0 = omega (arith, ap length f.1, length-append f.0 origin) in
        let front : take (length name - length origin) name ≡ f.0 = ap (λ (k : ℕ). take k name) len ∙ ap (λ (l : List (List ℕ)). take (length f.0) l) f.1 ∙ take_at f.0 origin (length f.0) refl in
        ap (λ (l : List (List ℕ)). name_of (front_text l) origin) front ∙ front_back f.0 origin (subst IsName f.1 h) ∙ ap (λ (l : List (List ℕ)). Ok l) (sym f.1)

-- What tokens say doesn't hang on the number of their line.
use Rattle.std.proofs.Common.{◌≡◌, ◌∙◌, ℕ, ◌+◌, ◌-◌, ◌*◌, Bool, true, false, cond, List, [], ◌∷◌, length, map, nat_lt, nat_le, not, ◌&&◌, Option, Some, None, Result, Ok, Err, refl, sym, ap, subst, option_map, codes}
use Rattle.std.specs.Option.{option_or}
use Rattle.std.specs.List.{list_all}
use Rattle.std.specs.Char.{is_ascii_hexdigit}
use Rattle.zone_model.specs.Names.{Name}
use Rattle.zone_model.specs.Refusals.{Refused, ◌>>=◌}
use Rattle.zone_model.specs.Tokens.{Token}
use Rattle.zone_model.specs.Types.{Field, Form, Fields, Strings, form_of}
use Rattle.zone_model.specs.DataWords.{unescaped, paired}
use Rattle.zone_model.specs.Data.{ahead, data_of, is_generic, of_form, read_counted, read_digits, read_fields, read_formed, read_generic, read_strings, string_octets, taken, word_number, word_octets}
use Rattle.zone_model.specs.declared.DataRefusal.{DataRefusal}
use Rattle.zone_model.specs.declared.DataRefusal.TheVariants as told
use Rattle.zone_model.specs.MasterFile.{time_word, type_word}
use Rattle.job_model.specs.declared.Question.{Question}
use Rattle.job_model.specs.declared.ScriptKind.{ScriptKind}
use Rattle.job_model.specs.declared.ScriptKind.TheVariants.{BadName, BadType, BadNumber}
use Rattle.job_model.specs.Arguments.{addition_of, deletion_of, inner_name, needed, octets_needed, prerequisite_of}
use Rattle.job_model.specs.Phrases.{Phrase, Worker, Asks, AsksWhole, Holds, AsksHeld, AsksHeldWhole, Releases, Opens, Needs, Adds, Deletes, Ends, Compacts, adds, argued, asks_held, lone_word, needs, no_question, phrase_of}
use Rattle.job_model.specs.Questions.{asked_of, response_wanted}
use Rattle.job_model.specs.Words.{says}
use Rattle.session_laws.proofs.LineNumbers.{put}

-- ---- data

bound_same : {A B E : Type 0} (r : Result A E) (f g : A → Result B E) → ((x : A) → f x ≡ g x) → r >>= f ≡ r >>= g
bound_same (Ok x) f g h = h x
bound_same (Err e) f g h = refl

fields_same : (origin : Name) (n at : ℕ) (fields : List Field) (ts : List Token) → read_fields origin at fields (map (put n) ts) ≡ read_fields origin at fields ts
unfolding read_fields
fields_same origin n at [] [] = refl
fields_same origin n at [] (t ∷ ts) = refl
fields_same origin n at (field ∷ fields) [] = refl
fields_same origin n at (field ∷ fields) (t ∷ ts) = ap (taken at (word_octets origin field t)) (fields_same origin n (at + 1) fields ts)

strings_same : (n at room : ℕ) (ts : List Token) → read_strings at room (map (put n) ts) ≡ read_strings at room ts
unfolding read_strings
strings_same n at room [] = refl
strings_same n at room (t ∷ ts) =
    bound_same (string_octets at (unescaped t.text)) _ _
    (λ octets. ap (λ (r : Result (List ℕ) DataRefusal). cond (nat_lt room (length octets)) (Err (told.BadRdata at)) (ahead octets r)) (strings_same n (at + 1) (room - length octets) ts))

digits_same : (n at left : ℕ) (ts : List Token) → read_digits at left (map (put n) ts) ≡ read_digits at left ts
unfolding read_digits
digits_same n at left [] = refl
digits_same n at left (t ∷ ts) =
    ap (λ (r : Result (List ℕ) DataRefusal). cond (not t.quoted && list_all is_ascii_hexdigit t.text && nat_le (length t.text) left) (ahead t.text r) (Err (told.BadRdata at))) (digits_same n (at + 1) (left - length t.text) ts)

counted_same : (n : ℕ) (count : Option ℕ) (ts : List Token) → read_counted count (map (put n) ts) ≡ read_counted count ts
counted_same n None ts = refl
counted_same n (Some k) ts = ap (λ (r : Result (List ℕ) DataRefusal). r >>= (λ digits. Ok (paired digits))) (digits_same n 2 (2 * k) ts)

generic_same : (n : ℕ) (ts : List Token) → read_generic (map (put n) ts) ≡ read_generic ts
unfolding read_generic
generic_same n [] = refl
generic_same n (t ∷ ts) = counted_same n (word_number 65535 t) ts

formed_same : (origin : Name) (n : ℕ) (form : Option Form) (ts : List Token) → read_formed origin form (map (put n) ts) ≡ read_formed origin form ts
formed_same origin n None ts = refl
formed_same origin n (Some (Fields fields)) ts = fields_same origin n 0 fields ts
formed_same origin n (Some Strings) [] = refl
formed_same origin n (Some Strings) (t ∷ ts) = strings_same n 0 65535 (t ∷ ts)

either_same : {A : Type 0} (b : Bool) (x y u v : A) → x ≡ u → y ≡ v → cond b x y ≡ cond b u v
either_same true x y u v h k = h
either_same false x y u v h k = k

data_same : (origin : Name) (n rtype : ℕ) (ts : List Token) → data_of origin rtype (map (put n) ts) ≡ data_of origin rtype ts
unfolding data_of
data_same origin n rtype [] = refl
data_same origin n rtype (t ∷ ts) =
    either_same (is_generic (t ∷ ts)) _ _ _ _ (ap (λ (r : Result (List ℕ) DataRefusal). r >>= of_form rtype) (generic_same n ts)) (formed_same origin n (form_of rtype) (t ∷ ts))

-- ---- arguments

-- what the first reads the second does
abbrev pub SameOk : {A : Type 0} → Result A (Refused ScriptKind) → Result A (Refused ScriptKind) → Type 0
SameOk (Ok x) r = r ≡ Ok x
SameOk (Err e) r = Unit {0}

then_same : {A B : Type 0} (r u : Result A (Refused ScriptKind)) (f g : A → Result B (Refused ScriptKind)) → SameOk r u → ((x : A) → SameOk (f x) (g x)) → SameOk (r >>= f) (u >>= g)
then_same {A = A} (Ok x) u f g h k = subst (λ (z : Result A (Refused ScriptKind)). SameOk (f x) (z >>= g)) (sym h) (k x)
then_same (Err e) u f g h k = tt

needed_same : {A : Type 0} (n m : ℕ) (kind : ScriptKind) (o : Option A) → SameOk (needed n kind o) (needed m kind o)
needed_same n m kind (Some x) = refl
needed_same n m kind None = tt

octets_same : (n m : ℕ) (r u : Result (List ℕ) DataRefusal) → r ≡ u → SameOk (octets_needed n r) (octets_needed m u)
octets_same n m (Ok octets) u e = ap (octets_needed m) (sym e)
octets_same n m (Err e') u e = tt

module _ (origin : Name) (n m : ℕ) where
  pub prerequisite_same : (wanted : Bool) (owner : Token) (rtype : Option Token)
      → SameOk (prerequisite_of origin n wanted (put n owner) (option_map (put n) rtype)) (prerequisite_of origin m wanted owner rtype)
  unfolding prerequisite_of
  prerequisite_same wanted owner None = then_same _ _ _ _ (needed_same n m BadName (inner_name origin owner)) (λ name. refl)
  prerequisite_same wanted owner (Some rtype) =
      then_same _ _ _ _ (needed_same n m BadName (inner_name origin owner)) (λ name. then_same _ _ _ _ (needed_same n m BadType (type_word rtype)) (λ t. refl))

  pub addition_same : (owner ttl rtype : Token) (ts : List Token)
      → SameOk (addition_of origin n (put n owner) (put n ttl) (put n rtype) (map (put n) ts)) (addition_of origin m owner ttl rtype ts)
  unfolding addition_of
  addition_same owner ttl rtype ts =
      then_same _ _ _ _ (needed_same n m BadName (inner_name origin owner)) (λ name.
      then_same _ _ _ _ (needed_same n m BadNumber (time_word ttl)) (λ time.
      then_same _ _ _ _ (needed_same n m BadType (type_word rtype)) (λ t.
      then_same _ _ _ _ (octets_same n m _ _ (data_same origin n t ts)) (λ octets. refl))))

  pub deletion_same : (owner : Token) (rest : List Token) → SameOk (deletion_of origin n (put n owner) (map (put n) rest)) (deletion_of origin m owner rest)
  unfolding deletion_of
  deletion_same owner [] = then_same _ _ _ _ (needed_same n m BadName (inner_name origin owner)) (λ name. refl)
  deletion_same owner (rtype ∷ []) =
      then_same _ _ _ _ (needed_same n m BadName (inner_name origin owner)) (λ name. then_same _ _ _ _ (needed_same n m BadType (type_word rtype)) (λ t. refl))
  deletion_same owner (rtype ∷ first ∷ rest) =
      then_same _ _ _ _ (needed_same n m BadName (inner_name origin owner)) (λ name.
      then_same _ _ _ _ (needed_same n m BadType (type_word rtype)) (λ t.
      then_same _ _ _ _ (octets_same n m _ _ (data_same origin n t (first ∷ rest))) (λ octets. refl)))

-- ---- phrases

-- a phrase of tokens whose line has another number
abbrev pub put_phrase : ℕ → Phrase → Phrase
put_phrase n Worker = Worker
put_phrase n (Asks asked) = Asks asked
put_phrase n (AsksWhole asked) = AsksWhole asked
put_phrase n Holds = Holds
put_phrase n (AsksHeld asked) = AsksHeld asked
put_phrase n (AsksHeldWhole asked) = AsksHeldWhole asked
put_phrase n Releases = Releases
put_phrase n (Opens weight) = Opens weight
put_phrase n (Needs wanted owner rtype) = Needs wanted (put n owner) (option_map (put n) rtype)
put_phrase n (Adds owner ttl rtype ts) = Adds (put n owner) (put n ttl) (put n rtype) (map (put n) ts)
put_phrase n (Deletes owner rest) = Deletes (put n owner) (map (put n) rest)
put_phrase n (Ends ending) = Ends ending
put_phrase n Compacts = Compacts

module _ (origin : Name) (n : ℕ) where
  abbrev Same : Option Phrase → Option Phrase → Type 0
  Same new old = new ≡ option_map (put_phrase n) old

  picks : (b : Bool) (x y u v : Option Phrase) → Same x u → Same y v → Same (cond b x y) (cond b u v)
  picks true x y u v h k = h
  picks false x y u v h k = k

  asked_same : (w : Token) (operands : List Token) → asked_of origin (put n w) (map (put n) operands) ≡ asked_of origin w operands
  unfolding asked_of
  asked_same w [] = refl
  asked_same w (a ∷ []) = refl
  asked_same w (a ∷ b ∷ []) = refl
  asked_same w (a ∷ b ∷ c ∷ rest) = refl

  response_same : (operands : List Token) → response_wanted origin (map (put n) operands) ≡ response_wanted origin operands
  response_same [] = refl
  response_same (a ∷ []) = refl
  response_same (a ∷ b ∷ []) = refl
  response_same (a ∷ b ∷ c ∷ rest) = refl

  -- a phrase that keeps no token
  whole_same : (old new : Option (Result Question ScriptKind)) → new ≡ old → Same (option_map AsksWhole new) (option_map AsksWhole old)
  whole_same None new e = ap (option_map AsksWhole) e
  whole_same (Some r) new e = ap (option_map AsksWhole) e

  held_same : (old new : Option (Result Question ScriptKind)) → new ≡ old → Same (option_map AsksHeld new) (option_map AsksHeld old)
  held_same None new e = ap (option_map AsksHeld) e
  held_same (Some r) new e = ap (option_map AsksHeld) e

  held_whole_same : (old new : Option (Result Question ScriptKind)) → new ≡ old → Same (option_map AsksHeldWhole new) (option_map AsksHeldWhole old)
  held_whole_same None new e = ap (option_map AsksHeldWhole) e
  held_whole_same (Some r) new e = ap (option_map AsksHeldWhole) e

  asks_held_same : (w : Token) (operands : List Token) → Same (asks_held origin (put n w) (map (put n) operands)) (asks_held origin w operands)
  asks_held_same w operands =
      picks (says w (codes "ask")) _ _ _ _ (held_whole_same (response_wanted origin operands) _ (response_same operands)) (held_same (asked_of origin w operands) _ (asked_same w operands))

  adds_same : (owner : Token) (rest : List Token) → Same (adds (put n owner) (map (put n) rest)) (adds owner rest)
  adds_same owner [] = refl
  adds_same owner (ttl ∷ []) = refl
  adds_same owner (ttl ∷ rtype ∷ []) = refl
  adds_same owner (ttl ∷ rtype ∷ first ∷ rest) = refl

  needs_same : (wanted : Bool) (owner : Token) (rest : List Token) → Same (needs wanted (put n owner) (map (put n) rest)) (needs wanted owner rest)
  needs_same wanted owner [] = refl
  needs_same wanted owner (rtype ∷ []) = refl
  needs_same wanted owner (rtype ∷ other ∷ rest) = refl

  lone_same : (w : Token) → Same (lone_word (put n w)) (lone_word w)
  lone_same w =
      picks (says w (codes "worker")) _ _ _ _ refl
      (picks (says w (codes "hold")) _ _ _ _ refl
      (picks (says w (codes "release")) _ _ _ _ refl
      (picks (says w (codes "write")) _ _ _ _ refl
      (picks (says w (codes "update")) _ _ _ _ refl
      (picks (says w (codes "commit")) _ _ _ _ refl
      (picks (says w (codes "rollback")) _ _ _ _ refl
      (picks (says w (codes "compact")) _ _ _ _ refl refl)))))))

  argued_same : (w first : Token) (rest : List Token) → Same (argued origin (put n w) (put n first) (map (put n) rest)) (argued origin w first rest)
  argued_same w first rest =
      picks (says w (codes "add")) _ _ _ _ (adds_same first rest)
      (picks (says w (codes "del")) _ _ _ _ refl
      (picks (says w (codes "ask")) _ _ _ _ (whole_same (response_wanted origin (first ∷ rest)) _ (response_same (first ∷ rest)))
      (picks (says w (codes "at")) _ _ _ _ (asks_held_same first rest)
      (picks (says w (codes "need")) _ _ _ _ (needs_same true first rest)
      (picks (says w (codes "neednot")) _ _ _ _ (needs_same false first rest) refl)))))

  other_same : (w : Token) (arguments : List Token) → Same (no_question origin (put n w) (map (put n) arguments)) (no_question origin w arguments)
  other_same w [] = lone_same w
  other_same w (first ∷ rest) = argued_same w first rest

  by_question : (asked : Option (Result Question ScriptKind)) (x u : Option Phrase) → Same x u → Same (option_or (option_map Asks asked) x) (option_or (option_map Asks asked) u)
  by_question None x u h = h
  by_question (Some r) x u h = refl

  pub phrase_same : (ts : List Token) → Same (phrase_of origin (map (put n) ts)) (phrase_of origin ts)
  unfolding phrase_of
  phrase_same [] = refl
  phrase_same (w ∷ arguments) =
      ap (λ (q : Option (Result Question ScriptKind)). option_or (option_map Asks q) (no_question origin (put n w) (map (put n) arguments))) (asked_same w arguments)
      ∙ by_question (asked_of origin w arguments) _ _ (other_same w arguments)

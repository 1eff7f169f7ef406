-- The text of a difference is a script, whose blocks are its transactions.
use Rattle.std.proofs.Common.{◌≡◌, ◌∙◌, ℕ, suc, ◌+◌, ◌<◌, ◌≤◌, Bool, true, false, ltb, List, [], ◌∷◌, ◌++◌, length, map, refl, sym, ap, subst, arith, Some, None, Ok, codes, append_assoc, append-nil, length-append}
use borrow.Author.Tests.{lt-ltb}
use Rattle.std.specs.List.{AllByRecursion, flat_map, list_all}
use Rattle.zone_model.specs.Names.{Name}
use Rattle.zone_model.specs.Lines.{lines_of}
use Rattle.zone_model.specs.Refusals.{◌>>=◌}
use Rattle.zone_model.specs.Grammar.{Token, Spells}
use Rattle.zone_model.specs.Versions.{Version, Operation}
use Rattle.zone_model.proofs.GrammarLemmas.{line_is}
use Rattle.rr_data.proofs.PrintedWordLemmas.{alphabetic_word, is_shown}
use Rattle.rr_data.proofs.PrintedDataLemmas.{plain, spell_word, word}
use Rattle.master_file.specs.Rows.{CanBeDumped}
use Rattle.master_file.proofs.PrintedLineLemmas.{first_line, shown_in_line}
use Rattle.job_model.specs.declared.Listing.{Listing}
use Rattle.job_model.specs.declared.Listing.TheVariants.{OneList}
use Rattle.job_model.specs.declared.Weight.TheVariants.{Heavy}
use Rattle.job_model.specs.Commands.{Command}
use Rattle.job_model.specs.Jobs.{Script, Unfinished, list_finished, list_of, script_from, script_line, tokens_say}
use Rattle.job_model.specs.Phrases.{phrase_of, without_parens}
use Rattle.job_model.specs.Questions.{asked_of}
use Rattle.zone_diff.specs.declared.DiffStyle.TheVariants.{Script as AsScript}
use Rattle.zone_diff.specs.declared.Serial.{Serial}
use Rattle.zone_diff.specs.Blocks.{block_limit, blocks, changes}
use Rattle.zone_diff.specs.Commands.{TakesCommands, committed}
use Rattle.zone_diff.specs.Differences.{difference}
use Rattle.zone_diff.specs.Texts.{block_text, line, text_in}
use Rattle.zone_diff.proofs.BlockLaws.{blocks_all, sizes}
use Rattle.zone_diff.specs.Held.{joined}
use Rattle.zone_diff.proofs.EachLemmas.{all_of, back_all, front_all}
use Rattle.zone_diff.proofs.LineLemmas.{LineSaid, body, line_parts, line_said}
use Rattle.zone_diff.proofs.SaidLemmas.{IsTold, difference_told}

-- ---- the lines of the text

abbrev block_lines : List Operation → List (List ℕ)
block_lines operations = codes "update" ∷ (map body operations ++ codes "commit" ∷ [])

abbrev AreShown : List Operation → Type 0
AreShown operations = AllByRecursion (λ (operation : Operation). list_all is_shown (body operation) ≡ true) operations

lines_of_operations : (operations : List Operation) (rest : List ℕ) → AreShown operations → lines_of (flat_map (line AsScript) operations ++ rest) ≡ map body operations ++ lines_of rest
lines_of_operations [] rest h = refl
lines_of_operations (x ∷ operations) rest h =
    let behind : List ℕ = flat_map (line AsScript) operations ++ rest in
    ap lines_of (append_assoc (line AsScript x) (flat_map (line AsScript) operations) rest ∙ line_parts x behind)
    ∙ first_line (body x) behind (shown_in_line (body x) h.0) ∙ ap (λ (l : List (List ℕ)). body x ∷ l) (lines_of_operations operations rest h.1)

lines_of_block : (origin : Name) (operations : List Operation) (rest : List ℕ) → AreShown operations → lines_of (block_text AsScript origin operations ++ rest) ≡ block_lines operations ++ lines_of rest
lines_of_block origin operations rest h =
    let behind : List ℕ = codes "commit" ++ 10 ∷ rest in
    let text : block_text AsScript origin operations ++ rest ≡ codes "update" ++ 10 ∷ (flat_map (line AsScript) operations ++ behind) = simp append_assoc in
    ap lines_of text ∙ first_line (codes "update") (flat_map (line AsScript) operations ++ behind) refl
    ∙ ap (λ (l : List (List ℕ)). codes "update" ∷ l) (lines_of_operations operations behind h ∙ ap (λ (l : List (List ℕ)). map body operations ++ l) (first_line (codes "commit") rest refl) ∙ sym (append_assoc (map body operations) (codes "commit" ∷ []) (lines_of rest)))

lines_of_blocks : (origin : Name) (bs : List (List Operation)) → AllByRecursion AreShown bs → lines_of (flat_map (block_text AsScript origin) bs) ≡ flat_map block_lines bs
lines_of_blocks origin [] h = refl
lines_of_blocks origin (b ∷ bs) h = lines_of_block origin b (flat_map (block_text AsScript origin) bs) h.0 ∙ ap (λ (l : List (List ℕ)). block_lines b ++ l) (lines_of_blocks origin bs h.1)

-- ---- a line is what its tokens say

tokens_said : (origin : Name) (n : ℕ) (text : List ℕ) (tokens : List Token) (s : Script) → Spells n [] text (plain tokens) → script_line origin n text s ≡ tokens_say origin n s (Some tokens)
unfolding script_line
tokens_said origin n text tokens s h = ap (λ r. tokens_say origin n s (without_parens r)) (line_is n text (plain tokens) h)

step_read : (origin : Name) (n : ℕ) (text : List ℕ) (rest : List (List ℕ)) (s next : Script) → script_line origin n text s ≡ Ok next → script_from origin n (text ∷ rest) s ≡ script_from origin (n + 1) rest next
unfolding script_from
step_read origin n text rest s next e = ap (λ r. r >>= script_from origin (n + 1) rest) e

-- a script outside of blocks, and in a block of operations that began on a line
module _ (origin : Name) (listing : Listing) (earlier : List (List Command)) (held : Bool) where
  abbrev between : List Command → Script
  between cs = record { listing = listing; earlier = earlier; begun = true; commands = cs; held = held; block = None }

  abbrev open_block : ℕ → List Operation → Unfinished
  open_block start operations = record { start = start; weight = Heavy; asked = changes operations }

  abbrev inside : List Command → ℕ → List Operation → Script
  inside cs start operations = record { listing = listing; earlier = earlier; begun = true; commands = cs; held = held; block = Some (open_block start operations) }

  update_line : (n : ℕ) (cs : List Command) → length cs < 10000 → script_line origin n (codes "update") (between cs) ≡ Ok (inside cs n [])
  unfolding phrase_of asked_of
  update_line n cs few = tokens_said origin n (codes "update") (word n (codes "update") ∷ []) (between cs) (spell_word n (codes "update") (omega arith) (alphabetic_word (codes "update") refl).run) ∙ rw (lt-ltb (length cs) 10000 few) refl

  commit_line : (n start : ℕ) (cs : List Command) (operations : List Operation) → script_line origin n (codes "commit") (inside cs start operations) ≡ Ok (between (cs ++ committed operations ∷ []))
  unfolding phrase_of asked_of
  commit_line n start cs operations = tokens_said origin n (codes "commit") (word n (codes "commit") ∷ []) (inside cs start operations) (spell_word n (codes "commit") (omega arith) (alphabetic_word (codes "commit") refl).run)

  operation_line : (n start : ℕ) (cs : List Command) (operations : List Operation) (x : Operation) → IsTold origin x → length operations < 10000 → script_line origin n (body x) (inside cs start operations) ≡ Ok (inside cs start (operations ++ x ∷ []))
  operation_line n start cs operations x told few =
      let l : LineSaid origin n x = line_said origin n x told in
      let b : Unfinished = open_block start operations in
      let s : Script = inside cs start operations in
      tokens_said origin n (body x) l.tokens s l.spelled ∙ l.says s b refl ∙ rw (lt-ltb (length operations) 10000 few) refl

  operations_read : (n start : ℕ) (cs : List Command) (front operations : List Operation) (rest : List (List ℕ)) → AllByRecursion (IsTold origin) operations → length front + length operations ≤ 10000
      → script_from origin n (map body operations ++ rest) (inside cs start front) ≡ script_from origin (n + length operations) rest (inside cs start (front ++ operations))
  operations_read n start cs front [] rest told few =
      let same : n ≡ n + 0 = omega arith in
      ap (λ (k : ℕ). script_from origin k rest (inside cs start front)) same ∙ ap (λ (l : List Operation). script_from origin (n + 0) rest (inside cs start l)) (sym (append-nil front))
  operations_read n start cs front (x ∷ operations) rest told few =
      let long : length (front ++ x ∷ []) ≡ length front + 1 = length-append front (x ∷ []) in
      let same : n + 1 + length operations ≡ n + suc (length operations) = omega arith in
      step_read origin n (body x) (map body operations ++ rest) (inside cs start front) (inside cs start (front ++ x ∷ [])) (operation_line n start cs front x told.0 (omega arith))
      ∙ operations_read (n + 1) start cs (front ++ x ∷ []) operations rest told.1 (omega (arith, long))
      ∙ ap (λ (k : ℕ). script_from origin k rest (inside cs start ((front ++ x ∷ []) ++ operations))) same
      ∙ ap (λ (l : List Operation). script_from origin (n + suc (length operations)) rest (inside cs start l)) (append_assoc front (x ∷ []) operations)

  block_read : (n : ℕ) (cs : List Command) (operations : List Operation) (rest : List (List ℕ)) → AllByRecursion (IsTold origin) operations → length operations ≤ 10000 → length cs < 10000
      → script_from origin n (block_lines operations ++ rest) (between cs) ≡ script_from origin (n + 1 + length operations + 1) rest (between (cs ++ committed operations ∷ []))
  block_read n cs operations rest told few room =
      step_read origin n (codes "update") ((map body operations ++ codes "commit" ∷ []) ++ rest) (between cs) (inside cs n []) (update_line n cs room)
      ∙ ap (λ (l : List (List ℕ)). script_from origin (n + 1) l (inside cs n [])) (append_assoc (map body operations) (codes "commit" ∷ []) rest)
      ∙ operations_read (n + 1) n cs [] operations (codes "commit" ∷ rest) told (omega arith)
      ∙ step_read origin (n + 1 + length operations) (codes "commit") rest (inside cs n operations) (between (cs ++ committed operations ∷ [])) (commit_line (n + 1 + length operations) n cs operations)

  blocks_read : (n : ℕ) (cs : List Command) (bs : List (List Operation)) → AllByRecursion (λ (b : List Operation). AllByRecursion (IsTold origin) b) bs → AllByRecursion (λ (b : List Operation). (0 < length b) × (length b ≤ block_limit)) bs → length cs + length bs ≤ 10000
      → script_from origin n (flat_map block_lines bs) (between cs) ≡ Ok (between (cs ++ map committed bs))
  unfolding script_from
  blocks_read n cs [] told size few = ap (λ (l : List Command). Ok (between l)) (sym (append-nil cs))
  blocks_read n cs (b ∷ bs) told size few =
      let long : length (cs ++ committed b ∷ []) ≡ length cs + 1 = length-append cs (committed b ∷ []) in
      let sized : length b ≤ 10000 = size.0.1 in
      block_read n cs b (flat_map block_lines bs) told.0 sized (omega arith)
      ∙ blocks_read (n + 1 + length b + 1) (cs ++ committed b ∷ []) bs told.1 size.1 (omega (arith, long))
      ∙ ap (λ (l : List Command). Ok (between l)) (append_assoc cs (committed b ∷ []) (map committed bs))

-- ---- the text of a difference

each_block : (P : Operation → Type 0) (bs : List (List Operation)) → AllByRecursion P (joined bs) → AllByRecursion (λ (b : List Operation). AllByRecursion P b) bs
each_block P [] h = tt
each_block P (b ∷ bs) h = (front_all P b (joined bs) h, each_block P bs (back_all P b (joined bs) h))

all_shown : (origin : Name) (bs : List (List Operation)) → AllByRecursion (λ (b : List Operation). AllByRecursion (IsTold origin) b) bs → AllByRecursion AreShown bs
all_shown origin = all_of (λ (b : List Operation). AllByRecursion (IsTold origin) b) AreShown (all_of (IsTold origin) (λ (x : Operation). list_all is_shown (body x) ≡ true) (λ x h. let l : LineSaid origin 0 x = line_said origin 0 x h in l.shown))

script_back : (mode : Serial) (origin : Name) (before after : Version) → CanBeDumped origin before → CanBeDumped origin after → (n : ℕ) (listing : Listing) (earlier : List (List Command)) (held : Bool) (cs : List Command) → length cs + length (blocks (difference mode before after)) ≤ 10000
    → script_from origin n (lines_of (text_in AsScript origin (difference mode before after))) (between origin listing earlier held cs) ≡ Ok (between origin listing earlier held (cs ++ map committed (blocks (difference mode before after))))
script_back mode origin before after h k n listing earlier held cs few =
    let operations : List Operation = difference mode before after in
    let told : AllByRecursion (IsTold origin) operations = difference_told mode origin before after h k in
    let each : AllByRecursion (λ (b : List Operation). AllByRecursion (IsTold origin) b) (blocks operations) = each_block (IsTold origin) (blocks operations) (subst (λ (l : List Operation). AllByRecursion (IsTold origin) l) (sym (blocks_all block_limit operations)) told) in
    ap (λ (l : List (List ℕ)). script_from origin n l (between origin listing earlier held cs)) (lines_of_blocks origin (blocks operations) (all_shown origin (blocks operations) each))
    ∙ blocks_read origin listing earlier held n cs (blocks operations) each (sizes operations) few

-- wherever commands may come
pub read_on : (mode : Serial) (origin : Name) (before after : Version) → CanBeDumped origin before → CanBeDumped origin after → (n : ℕ) (s : Script) → TakesCommands s → length s.commands + length (blocks (difference mode before after)) ≤ 10000
    → script_from origin n (lines_of (text_in AsScript origin (difference mode before after))) s ≡ Ok (record s { commands = s.commands ++ map committed (blocks (difference mode before after)) })
read_on mode origin before after h k n s takes few =
    let is : s ≡ between origin s.listing s.earlier s.held s.commands = ap (λ (b : Bool). record s { begun = b }) takes.begun ∙ ap (λ o. record s { begun = true; block = o }) takes.closed in
    let made : between origin s.listing s.earlier s.held (s.commands ++ map committed (blocks (difference mode before after))) ≡ record s { commands = s.commands ++ map committed (blocks (difference mode before after)) } =
    sym (ap (λ (b : Bool). record s { commands = s.commands ++ map committed (blocks (difference mode before after)); begun = b }) takes.begun ∙ ap (λ o. record s { commands = s.commands ++ map committed (blocks (difference mode before after)); begun = true; block = o }) takes.closed) in
    ap (script_from origin n (lines_of (text_in AsScript origin (difference mode before after)))) is
    ∙ script_back mode origin before after h k n s.listing s.earlier s.held s.commands few ∙ ap (λ (x : Script). Ok x) made

-- as one list of commands
pub read_back : (mode : Serial) (origin : Name) (before after : Version) → CanBeDumped origin before → CanBeDumped origin after → (n : ℕ) → length (blocks (difference mode before after)) ≤ 10000
    → list_of origin n (lines_of (text_in AsScript origin (difference mode before after))) ≡ Ok (map committed (blocks (difference mode before after)))
unfolding list_of
read_back mode origin before after h k n few =
    let all : 0 + length (blocks (difference mode before after)) ≤ 10000 = omega (arith, few) in
    ap (λ r. r >>= list_finished) (script_back mode origin before after h k n OneList [] false [] all)

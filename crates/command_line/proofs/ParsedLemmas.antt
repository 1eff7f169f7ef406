-- What clap says of the program's command line.
use Rattle.std.proofs.Common.{true≢false, ◌≡◌, ◌∙◌, ℕ, Bool, true, false, cond, List, [], ◌∷◌, refl, sym, ap, subst, arith, Option, None, Result, Ok, Err, IfOk, IsErr, inl, inr}
use Rattle.std.specs.Option.{option_map}
use Rattle.std.specs.declared.alloc.AllocError.{AllocError}
use Rattle.clap.proofs.OnLiterals.{clap_on_literals}
use Rattle.clap.specs.Faults.{fault_of, is_simple_and_free}
use Rattle.clap.specs.Kinds.{HasKind, IsAmong, Kinds}
use Rattle.clap.specs.Simple.{App, HasMatchesOf, is_simple, subcommand_of, subcommand_rows_of}
use Rattle.clap.specs.Values.{kind_of}
use Rattle.clap.specs.Walk.{is_empty}
use Rattle.clap.specs.declared.error.Error.{Error}
use Rattle.clap.specs.declared.error.kind.ErrorKind.{ErrorKind}
use Rattle.clap.specs.declared.error.kind.ErrorKind.TheVariants as kind
use Rattle.clap.specs.declared.parser.matches.ArgMatches.{ArgMatches}
use Rattle.command_line.specs.Parsed.{asked_in, parsed_of, program_app}
use Rattle.command_line.specs.Views.{invocation_view}
use Rattle.command_line.specs.declared.invocation.Invocation.{Invocation}

simple_app : is_simple program_app ≡ true
unfolding clap_on_literals
simple_app = refl

free_app : is_simple_and_free program_app ≡ true
unfolding clap_on_literals
free_app = refl

-- words that are taken
pub taken : (app : App) (words : List (List ℕ)) (m : ArgMatches) → app ≡ program_app → (is_simple_and_free app ≡ true → fault_of app words ≡ []) → HasMatchesOf app words m → parsed_of words ≡ asked_in (subcommand_rows_of m)
taken app words m e f h =
    let none : fault_of program_app words ≡ [] = subst (λ (a : App). fault_of a words ≡ []) e (f (ap is_simple_and_free e ∙ free_app)) in
    let found : subcommand_rows_of m ≡ subcommand_of program_app words = (h (ap is_simple e ∙ simple_app)).1 ∙ ap (λ (a : App). subcommand_of a words) e in
    ap (λ (k : Kinds). cond (is_empty k) (asked_in (subcommand_of program_app words)) None) none ∙ ap asked_in (sym found)

some_kind : (k : ErrorKind) (kinds : Kinds) → IsAmong k kinds → is_empty kinds ≡ false
some_kind k [] h = absurd h
some_kind k (x ∷ kinds) h = grind arith

-- words that are refused, but for want of memory
pub refused : (app : App) (words : List (List ℕ)) (e : Error) → app ≡ program_app → (kind_of e ≡ kind.OutOfMemory → ⊥) → (is_simple_and_free app ≡ true → HasKind (fault_of app words) e) → parsed_of words ≡ None
refused app words e is other h =
    let has : HasKind (fault_of program_app words) e = subst (λ (a : App). HasKind (fault_of a words) e) is (h (ap is_simple_and_free is ∙ free_app)) in
    elim has [
      | inl memory ↦ absurd (other memory)
      | inr among ↦ ap (λ (b : Bool). cond b (asked_in (subcommand_of program_app words)) None) (some_kind (kind_of e) (fault_of program_app words) among)
    ]

-- what is told of words that clap doesn't take
pub told : (words : List (List ℕ)) (e : Error) (r : Result (Option Invocation) AllocError) → ((kind_of e ≡ kind.OutOfMemory → ⊥) → r ≡ Ok None) → (kind_of e ≡ kind.OutOfMemory → IsErr r)
    → ((kind_of e ≡ kind.OutOfMemory → ⊥) → parsed_of words ≡ None) → IfOk r (λ i. option_map invocation_view i ≡ parsed_of words)
told words e (Ok i) refuses memory f =
    let other : kind_of e ≡ kind.OutOfMemory → ⊥ = λ k. true≢false (sym (memory k)) in
    let same : ◌≡◌ {A = Result (Option Invocation) AllocError} (Ok i) (Ok None) = refuses other in
    let none : i ≡ None = cc in
    ap (option_map invocation_view) none ∙ sym (f other)
told words e (Err x) refuses memory f = tt

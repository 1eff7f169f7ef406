use Rattle.std.proofs.Common.{◌≡◌, ◌↔◌, ◌∙◌, ◌+◌, ◌<◌, ◌≤◌, ◌⊎◌, ◌∷◌, ◌++◌, [], ℕ, List, Option, true, length, sym, ap, subst, arith}
use Rattle.std.specs.Prelude.{IfSome}
use Rattle.std.specs.List.{AllPairs, Contains}
use Rattle.std.proofs.lemmas.List.{length-replicate}
use Rattle.chunk_usage.specs.Ledger.{Ledger, Row, newest}
use Rattle.chunk_usage.specs.Keeping.{is_among, kept_versions, narrowed}
use Rattle.pin_core.specs.declared.kept.Mark.{Mark}
use Rattle.pin_core.specs.declared.kept.Mark.TheVariants as mark
use Rattle.shared_cells.specs.declared.view.TurnView.{TurnView}
use Rattle.shared_cells.specs.Views.{marks_of}
use Rattle.shared_cells.specs.Steps.{IsDue, IsNamed, Rounded}
use Rattle.qp_multi.specs.Passes.{Known}
use Rattle.qp_multi.specs.Turns.{Agrees, cells_with}
use Rattle.qp_multi.proofs.RoundLaws.{words_same, goes_on, root_same, newest_left, numbers_now, agrees_rounded, images_left, ends_left}
use Rattle.qp_multi.proofs.keeping.make_round.Goals as goal

pub keep_only-requires : goal.keep_only-requires
keep_only-requires g c =
    let seat = c.args.seat.now in
    let v : Known = seat.place.me.0 in
    let w : Known = c.round.new.self.place.me.0 in
    let list = c.round.new.kept in
    let look = c.look.ensures in
    let rounded : Rounded v w list = subst (λ (x : Known). Rounded x w list) look.same.0 c.round.ensures.rounded in
    let told = look.confirmed in
    subst (λ (ns : List ℕ). IfSome (newest c.args.usage.now.rows) (λ (row : Row). is_among ns row.version ≡ true)) (sym c.as_slice.ensures.versions)
    (newest_left g.L.Law.lawful v told.0 c.look.result told.1 told.2 w list rounded c.args.usage.now seat.passes (seat.passes + 2) c.requires.agrees)

pub returns : goal.returns
returns g c =
    let seat = c.args.seat.now in
    let u = c.args.usage.now in
    let v : Known = seat.place.me.0 in
    let w : Known = c.round.new.self.place.me.0 in
    let list = c.round.new.kept in
    let round = c.round.ensures in
    let look = c.look.ensures in
    let told = look.confirmed in
    let rounded : Rounded v w list = subst (λ (x : Known). Rounded x w list) look.same.0 round.rounded in
    let few : length list ≤ seat.passes + 1 = (let a = round.kept.few in let b = look.same.3 in omega arith) in
    let usage : c.keep_only.new.self ≡ narrowed u list = c.keep_only.ensures ∙ ap (narrowed u) c.as_slice.ensures.versions in
    let kept : kept_versions c.keep_only.new.self ≡ list = ap kept_versions usage ∙ numbers_now g.L.Law.lawful v told.0 c.look.result told.1 told.2 w list rounded u seat.passes (seat.passes + 2) c.requires.agrees in
    record {
      seat = record {
        table = round.table ∙ look.table;
        version = round.numbers.0 ∙ look.same.1;
        passes = round.numbers.1 ∙ look.same.3;
        number = round.numbers.2 ∙ look.same.2;
        goes_on = goes_on g.L.Law.lawful v told.0 c.look.result told.1 told.2 w list rounded;
        words = words_same g.L.Law.lawful v told.0 c.look.result told.1 told.2 w list rounded;
      };
      narrows = record {
        usage = usage ∙ ap (narrowed u) (sym kept);
        agrees = subst (λ (l : Ledger). Agrees (cells_with l w.turn) l seat.passes) (sym usage)
            (agrees_rounded g.L.Law.lawful v told.0 c.look.result told.1 told.2 w list rounded u seat.passes (seat.passes + 2) c.requires.agrees few);
      };
      keeps = record {
        root = root_same g.L.Law.lawful v told.0 c.look.result told.1 told.2 w list rounded;
        images = images_left g.L.Law.lawful v told.0 c.look.result told.1 told.2 w list rounded seat.told;
        kept = record {
          marks = rounded.marks;
          each = rounded.each ∙ ap (λ (t : Option TurnView). length (marks_of t)) (sym rounded.is_turn) ∙ ap (λ (ms : List Mark). length ms) seat.blank ∙ length-replicate {A = Mark} seat.passes mark.Blank;
          settled = rounded.settled;
          listed = ap (λ (x : Known). x.seen.namings) rounded.after;
          rising = subst (AllPairs (λ (x y : ℕ). x < y)) (sym kept) c.as_slice.ensures.rising;
          exact = subst (λ (n : ℕ). (k : ℕ) → Contains (kept_versions c.keep_only.new.self) k ↔ IsDue n rounded.marks k) (sym seat.version_is)
              (subst (λ (ns : List ℕ). (k : ℕ) → Contains ns k ↔ IsDue (length v.seen.history) rounded.marks k) (sym kept) rounded.exact);
          ends =
              let e = ends_left g.L.Law.lawful v told.0 c.look.result told.1 told.2 w list rounded in
              (e.0, kept ∙ rounded.kept ∙ e.1 ∙ ap (λ (n : ℕ). e.0 ++ n ∷ []) (sym seat.version_is));
          few = subst (λ (ns : List ℕ). length ns ≤ seat.passes + 1) (sym kept) few;
        };
        named = λ n h. subst (λ (m : ℕ). (n ≡ m) ⊎ IsNamed w n) look.same.1 (round.kept.named n (subst (λ (ns : List ℕ). Contains ns n) kept h));
      };
    }

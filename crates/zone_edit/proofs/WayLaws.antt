-- Operations in order, and the sets on their way.
use Rattle.std.proofs.Common.{◌≡◌, ◌∙◌, inl, inr, ℕ, ◌+◌, ◌-◌, ◌≤◌, List, [], ◌∷◌, ◌++◌, length, take, Option, Ok, Err, refl, sym, ap, subst, arith, append-nil, append_assoc, length-append}
use Rattle.std.specs.Prelude.{IsSome, IsSomeAnd}
use Rattle.std.proofs.lemmas.Bool.{cases_lt}
use Rattle.std.proofs.lemmas.List.{take_all, take-append-le}
use Rattle.zone_model.specs.Names.{Name}
use Rattle.zone_model.specs.Versions.{Version, Operation, all_applied}
use Rattle.trie_model.specs.Keys as trie
use Rattle.shared_cells.specs.History.{StartsWith}
use Rattle.chunk_usage.specs.declared.space.Shortage.{Shortage}
use Rattle.qp_multi.specs.declared.meaning.Operation.{Operation as Done}
use Rattle.qp_multi.specs.declared.writer.WorkingVersion.{WorkingVersion}
use Rattle.qp_multi.specs.Operations.{applied}
use Rattle.qp_multi.specs.WorkingVersions.{Between, base_of}
use Rattle.qp_multi.proofs.GoesLaws.{base_goes_on, goes_further}
use Rattle.qp_multi.proofs.WorkLaws.{between_as}
use Rattle.zone_edit.specs.Ways.{MadeOnTheWay}
use Rattle.zone_edit.specs.Stores.{WorksOn, WorksOnSome, EditsOne, Edits}
use Rattle.zone_edit.specs.Blocks.{Applies, AppliesAll, EditsInOrder, EditedInOrder, EditedOnce}
use Rattle.zone_edit.specs.declared.refusal.EditRefusal.{EditRefusal}
use Rattle.zone_edit.specs.declared.refusal.EditRefusal.TheVariants as refusals
use Rattle.zone_edit.proofs.ApplyLaws.{next_applied, refused_applied, taken}
use Rattle.zone_edit.proofs.EditLaws.{begins_through, between_then, edits_some, is_there}

-- ---- a set on the way

-- of operations with others behind them
wider : (origin : Name) (done all : List Operation) (version : Version) (es : List trie.Entry) → StartsWith all done → MadeOnTheWay origin done version es → MadeOnTheWay origin all version es
wider origin done all version es more m = record {
  front = m.front;
  back = m.back ++ more.0;
  all = more.1 ∙ ap (λ (l : List Operation). l ++ more.0) m.all ∙ append_assoc m.front m.back more.0;
  working = m.working;
  made = m.made;
  entries = m.entries;
}

-- the last one is the working set
pub at_end : (origin : Name) (done : List Operation) (version next : Version) (d : WorkingVersion) (n : ℕ) → all_applied origin done version ≡ Ok next → WorksOn d next → length d.log.operations ≤ n → MadeOnTheWay origin done version (applied (base_of d) (take n d.log.operations))
at_end origin done version next d n made on le = record {
  front = done;
  back = [];
  all = sym (append-nil done);
  working = next;
  made = made;
  entries = ap (applied (base_of d)) (take_all n d.log.operations le) ∙ on.set;
}

-- those that a call found on the way are there behind it
still_there : (m : ℕ) (B : Version → WorkingVersion → Type 0) (e f : WorkingVersion) (n : ℕ) → EditsOne m B e f → n ≤ length e.log.operations → applied (base_of f) (take n f.log.operations) ≡ applied (base_of e) (take n e.log.operations)
still_there m B e f n s le =
    ap (λ (os : List Done). applied (base_of f) (take n os)) s.log.1 ∙ ap (applied (base_of f)) (take-append-le n e.log.operations s.log.0 le)
    ∙ ap (λ (es : List trie.Entry). applied es (take n e.log.operations)) (base_goes_on s.known)

nothing_left : {A : Type 0} (xs : List A) → length xs ≤ 0 → xs ≡ []
nothing_left [] le = refl
nothing_left (x ∷ xs) le = absurd (omega arith)

-- a call that does nothing finds no others
same_way : (B : Version → WorkingVersion → Type 0) (e f : WorkingVersion) (n : ℕ) → EditsOne 0 B e f → applied (base_of f) (take n f.log.operations) ≡ applied (base_of e) (take n e.log.operations)
same_way B e f n s =
    ap (λ (os : List Done). applied (base_of f) (take n os)) same ∙ ap (λ (es : List trie.Entry). applied es (take n e.log.operations)) (base_goes_on s.known)
  where
    none : s.log.0 ≡ []
    none = nothing_left s.log.0 (let few = s.few in omega (arith, few, ap (λ (os : List Done). length os) s.log.1, length-append e.log.operations s.log.0))

    same : f.log.operations ≡ e.log.operations
    same = s.log.1 ∙ ap (λ (os : List Done). e.log.operations ++ os) none ∙ append-nil e.log.operations

-- ---- operations in order

-- none is done
pub none_in_order : (origin : Name) (done : List Operation) (A told : Version → WorkingVersion → Type 0) (a b : Option WorkingVersion) → ((version : Version) (e : WorkingVersion) → A version e → WorksOn e version × told version e) → Edits 0 A a b → Between (EditsInOrder origin done told) a b
none_in_order origin done A told a b h = between_as (EditsOne 0 A) (EditsInOrder origin done told) a b (λ d e _ _ r. record {
  edits = record {
    known = r.known;
    passes = r.passes;
    log = r.log;
    few = (let l = r.few in omega arith);
    becomes = λ version on. (h version e (r.becomes version on)).1;
  };
  ways = λ version on n le.
      let on_it = (h version e (r.becomes version on)).0 in
      let few = r.few in
      wider origin [] done version (applied (base_of e) (take n e.log.operations)) (done, refl) (at_end origin [] version version e n refl on_it (omega (arith, few, le)));
})

-- one more is done
pub more_in_order : (origin : Name) (done : List Operation) (operation : Operation) (a b c : Option WorkingVersion) → EditedInOrder origin done (Ok tt) a b → Edits 1 (Applies origin operation (Ok tt)) b c → EditedInOrder origin (done ++ operation ∷ []) (Ok tt) a c
more_in_order origin done operation a b c =
    between_then (EditsInOrder origin done (AppliesAll origin done (Ok tt))) (EditsOne 1 (Applies origin operation (Ok tt))) (EditsInOrder origin all (AppliesAll origin all (Ok tt))) a b c one_more
  where
    all : List Operation
    all = done ++ operation ∷ []

    made_of : (version : Version) (d e f : WorkingVersion) → EditsInOrder origin done (AppliesAll origin done (Ok tt)) d e → EditsOne 1 (Applies origin operation (Ok tt)) e f → WorksOn d version → AppliesAll origin all (Ok tt) version f
    made_of version d e f r s on =
        let was = r.edits.becomes version on in
        let now = s.becomes was.0 was.2 in
        (now.0, next_applied origin done operation version was.0 now.0 was.1 now.1, now.2)

    one_more : (d e f : WorkingVersion) → EditsInOrder origin done (AppliesAll origin done (Ok tt)) d e → EditsOne 1 (Applies origin operation (Ok tt)) e f → EditsInOrder origin all (AppliesAll origin all (Ok tt)) d f
    one_more d e f r s = record {
      edits = record {
        known = goes_further r.edits.known s.known;
        passes = s.passes ∙ r.edits.passes;
        log = begins_through f.log.operations e.log.operations d.log.operations s.log r.edits.log;
        few = (let l = r.edits.few in let k = s.few in omega (arith, l, k, length-append done (operation ∷ [])));
        becomes = λ version on. made_of version d e f r s on;
      };
      ways = λ version on n le. elim (cases_lt (length e.log.operations) n) [
        | inl past ↦
            let made = made_of version d e f r s on in
            let few = s.few in
            at_end origin all version made.0 f n made.1 made.2 (omega (arith, past, few))
        | inr within ↦
            subst (MadeOnTheWay origin all version) (sym (still_there 1 (Applies origin operation (Ok tt)) e f n s within))
            (wider origin done all version (applied (base_of e) (take n e.log.operations)) (operation ∷ [], refl) (r.ways version on n le))
      ];
    }

-- those are done that stand in front, and then none
pub still_in_order : (origin : Name) (done all : List Operation) (A B C : Version → WorkingVersion → Type 0) (a b c : Option WorkingVersion) → StartsWith all done → ((version : Version) (e f : WorkingVersion) → A version e → (now : Version) × WorksOn e now × (B now f → C version f))
    → Between (EditsInOrder origin done A) a b → Edits 0 B b c → Between (EditsInOrder origin all C) a c
still_in_order origin done all A B C a b c more h = between_then (EditsInOrder origin done A) (EditsOne 0 B) (EditsInOrder origin all C) a b c (λ d e f r s. record {
  edits = record {
    known = goes_further r.edits.known s.known;
    passes = s.passes ∙ r.edits.passes;
    log = begins_through f.log.operations e.log.operations d.log.operations s.log r.edits.log;
    few = (let l = r.edits.few in let k = s.few in omega (arith, l, k, ap (λ (os : List Operation). length os) more.1, length-append done more.0));
    becomes = λ version on. (let m = h version e f (r.edits.becomes version on) in m.2 (s.becomes m.0 m.1));
  };
  ways = λ version on n le. subst (MadeOnTheWay origin all version) (sym (same_way B e f n s)) (wider origin done all version (applied (base_of e) (take n e.log.operations)) more (r.ways version on n le));
})

-- those in front of one were done, and that one is refused
pub refused_in_order : (origin : Name) (front back all : List Operation) (one : Operation) (number : ℕ) (refusal : EditRefusal) (a b c : Option WorkingVersion) → all ≡ front ++ one ∷ back → number ≡ length front + 1 → ((at : ℕ) (shortage : Shortage) → refusal ≡ refusals.Full at shortage → at ≡ number)
    → EditedInOrder origin front (Ok tt) a b → EditedOnce origin one (Err refusal) b c → EditedInOrder origin all (Err refusal) a c
refused_in_order origin front back all one number refusals.Memory a b c is place told =
    still_in_order origin front all (AppliesAll origin front (Ok tt)) (Applies origin one (Err refusals.Memory)) (AppliesAll origin all (Err refusals.Memory)) a b c (one ∷ back, is)
    (λ version e f x. (x.0, x.2, λ step. record { front = front; wanted = one; back = back; all = is; working = x.0; before = x.1; next = step.0; accepted = step.1; works = step.2 }))
refused_in_order origin front back all one number (refusals.Refused refusal) a b c is place told =
    still_in_order origin front all (AppliesAll origin front (Ok tt)) (Applies origin one (Err (refusals.Refused refusal))) (AppliesAll origin all (Err (refusals.Refused refusal))) a b c (one ∷ back, is)
    (λ version e f x. (x.0, x.2, λ step. ap (λ (l : List Operation). all_applied origin l version) is ∙ refused_applied origin front back one version x.0 refusal x.1 step))
refused_in_order origin front back all one number (refusals.Full at shortage) a b c is place told =
    let here = told at shortage refl ∙ place in
    still_in_order origin front (take (at - 1) all) (AppliesAll origin front (Ok tt)) (Applies origin one (Err (refusals.Full at shortage))) (AppliesAll origin all (Err (refusals.Full at shortage))) a b c
    ([], taken front one back all at is here ∙ sym (append-nil front))
    (λ version e f x. (
      x.0,
      x.2,
      λ step.
          record {
            front = front;
            refused = one;
            back = back;
            all = is;
            place = here;
            working = x.0;
            before = x.1;
            next = step.0;
            accepted = step.1;
            changes = step.2;
            full = step.3;
            lacks = step.4;
          },
    ))

-- a version is looked at first
pub looked_in_order : (origin : Name) (done : List Operation) (A B C : Version → WorkingVersion → Type 0) (a b c : Option WorkingVersion) → ((version : Version) (e f : WorkingVersion) → A version e → WorksOn e version × (B version f → C version f))
    → Edits 0 A a b → Between (EditsInOrder origin done B) b c → Between (EditsInOrder origin done C) a c
looked_in_order origin done A B C a b c h = between_then (EditsOne 0 A) (EditsInOrder origin done B) (EditsInOrder origin done C) a b c (λ d e f s r. record {
  edits = record {
    known = goes_further s.known r.edits.known;
    passes = r.edits.passes ∙ s.passes;
    log = begins_through f.log.operations e.log.operations d.log.operations r.edits.log s.log;
    few = (let l = r.edits.few in let k = s.few in omega arith);
    becomes = λ version on. (let m = h version e f (s.becomes version on) in m.1 (r.edits.becomes version m.0));
  };
  ways = λ version on n le. (let m = h version e f (s.becomes version on) in let k = s.few in r.ways version m.0 n (omega (arith, le, k)));
})

-- ---- a working version is there still, and works on some version

pub edits_all : (origin : Name) (done : List Operation) (told : Version → WorkingVersion → Type 0) (old new : Option WorkingVersion) → Between (EditsInOrder origin done told) old new → Edits (length done) told old new
edits_all origin done told old new = between_as (EditsInOrder origin done told) (EditsOne (length done) told) old new (λ d e _ _ r. r.edits)

pub some_in_order : (origin : Name) (done : List Operation) (told : Version → WorkingVersion → Type 0) (old new : Option WorkingVersion) → IsSomeAnd old WorksOnSome → ((version : Version) (e : WorkingVersion) → told version e → WorksOnSome e) → Between (EditsInOrder origin done told) old new → IsSomeAnd new WorksOnSome
some_in_order origin done told old new begun works r = edits_some (length done) told old new begun works (edits_all origin done told old new r)

pub there_in_order : (origin : Name) (done : List Operation) (told : Version → WorkingVersion → Type 0) (old new : Option WorkingVersion) → Between (EditsInOrder origin done told) old new → IsSome new
there_in_order origin done told old new r = is_there (length done) told old new (edits_all origin done told old new r)

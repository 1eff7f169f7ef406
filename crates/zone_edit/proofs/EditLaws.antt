-- What a transaction's call makes of a working set that is a version.
use Rattle.std.proofs.Common.{◌≡◌, ◌∙◌, ℕ, ◌+◌, ◌-◌, ◌/◌, ◌≤◌, List, [], ◌∷◌, ◌++◌, length, Option, Some, None, Ok, Err, refl, sym, ap, subst, arith, append-nil, append_assoc, length-append}
use Rattle.std.specs.Prelude.{Contains, IsSome, IsSomeAnd, IfSome, unwrap_or}
use Rattle.std.specs.BTreeMap.{insert_entry}
use Rattle.zone_model.specs.Names.{Name, IsName, name_cmp}
use Rattle.zone_model.specs.Keys.{key_of}
use Rattle.zone_model.specs.Records.{Entry, IsItem}
use Rattle.zone_model.specs.Versions.{Version, owned, put}
use Rattle.trie_model.specs.Keys as trie
use Rattle.trie_model.specs.Keys.{InList}
use Rattle.zone_answer.specs.Standing.{IsVersion, trie_entry}
use Rattle.job_model.specs.Sizes.{cell_count, cells_asked, item_cells, trie_entries}
use Rattle.qp_multi.specs.declared.writer.WorkingVersion.{WorkingVersion}
use Rattle.qp_multi.specs.declared.refusal.OutOfSpace.{OutOfSpace}
use Rattle.qp_multi.specs.declared.meaning.Operation.{Operation}
use Rattle.qp_multi.specs.declared.meaning.Operation.TheVariants as operation
use Rattle.qp_multi.specs.Operations.{operated, applied, with_entry, without}
use Rattle.qp_multi.specs.Attempts.{Does}
use Rattle.qp_multi.specs.Calls.{IsOutOfRoom}
use Rattle.qp_multi.specs.WorkingVersions.{Operates, IsFull, IsSame, Between, base_of, working_set}
use Rattle.qp_multi.specs.Bounds.{IsCramped, IsCrowded}
use Rattle.qp_multi.specs.Capacity.{BoundsHistory}
use Rattle.qp_multi.specs.Rooms.{SparesReserve}
use Rattle.qp_multi.specs.Fulls.{cells_kept}
use Rattle.qp_multi.specs.Passes.{Known, version_seen}
use Rattle.trie_model.specs.Capacity.{is_roomy}
use Rattle.chunk_usage.specs.Ledger.{Ledger, Row, reserve_of}
use Rattle.shared_cells.specs.declared.view.Entry.{Entry as Commit'}
use Rattle.shared_cells.specs.History.{StartsWith, version_after}
use Rattle.trie_model.specs.Shape.{cells}
use Rattle.std.proofs.lemmas.List.{length-map}
use Rattle.qp_multi.specs.Keepings.{GoesOn, versions_in}
use Rattle.qp_multi.proofs.GoesLaws.{base_goes_on, applied_more, goes_further}
use Rattle.qp_multi.proofs.StayLaws.{chunks_stay}
use Rattle.qp_multi.proofs.WorkLaws.{both, between_as}
use Rattle.zone_edit.proofs.VersionLaws.{version_put, version_gone}
use Rattle.zone_edit.proofs.StoreLaws.{put_some, storable, same_entry, record_of}
use Rattle.trie_read.specs.Readings.{Fetched}
use Rattle.zone_answer.specs.Parts.{IsRead}
use Rattle.zone_edit.specs.Stores.{WorksOn, WorksOnSome, Owns, EditsOne, Edits, Reads, Stores, IsCrowdedBy, IsFullOn}
use Rattle.zone_edit.proofs.SetLaws.{IsOwner, inserted, exchanged, deleted}

-- ---- working versions that are there

pub between_then : (R S T : WorkingVersion → WorkingVersion → Type 0) (a b c : Option WorkingVersion) → ((d e f : WorkingVersion) → R d e → S e f → T d f) → Between R a b → Between S b c → Between T a c
between_then R S T (Some d) (Some e) (Some f) h r s = h d e f r s
between_then R S T (Some d) (Some e) None h r s = s
between_then R S T (Some d) None (Some f) h r s = absurd r
between_then R S T (Some d) None None h r s = r
between_then R S T None b c h r s = absurd (nothing b r)
  where
    nothing : (x : Option WorkingVersion) → Between R None x → ⊥
    nothing (Some e) q = q
    nothing None q = q

pub some_after : (P : WorkingVersion → Type 0) (R : WorkingVersion → WorkingVersion → Type 0) (old new : Option WorkingVersion) → ((d e : WorkingVersion) → R d e → P e) → Between R old new → IsSomeAnd new P
some_after P R (Some d) (Some e) f r = f d e r
some_after P R (Some d) None f r = absurd r
some_after P R None (Some e) f r = absurd r
some_after P R None None f r = absurd r

-- ---- the working set after a call

-- the operation was done
done_set : (o : Operation) (denied : List trie.Entry → Type 0) (d e : WorkingVersion) (A B : Type 0) → Operates o denied d e A B → A → working_set e ≡ operated (working_set d) o
done_set o denied d e A B op a =
    ap (applied (base_of e)) (op.done a)
    ∙ ap (λ (es : List trie.Entry). applied es (d.log.operations ++ o ∷ [])) (base_goes_on op.known)
    ∙ applied_more (base_of d) d.log.operations o

-- or it wasn't
pub same_set : (o : Operation) (denied : List trie.Entry → Type 0) (d e : WorkingVersion) (A B : Type 0) → Operates o denied d e A B → (A → ⊥) → working_set e ≡ working_set d
same_set o denied d e A B op undone = ap (applied (base_of e)) (op.stays undone) ∙ ap (λ (es : List trie.Entry). applied es d.log.operations) (base_goes_on op.known)

pub works_same : (o : Operation) (denied : List trie.Entry → Type 0) (d e : WorkingVersion) (A B : Type 0) (version : Version) → Operates o denied d e A B → (A → ⊥) → WorksOn d version → WorksOn e version
works_same o denied d e A B version op undone on = record { works = op.works; set = same_set o denied d e A B op undone ∙ on.set; valid = on.valid }

-- an operation that gives a name an item was done
put_item : (o : Operation) (name : Name) (key bytes : List ℕ) (entry : Entry) (denied : List trie.Entry → Type 0) (d e : WorkingVersion) (A B : Type 0) (version : Version) → ((es : List trie.Entry) → operated es o ≡ with_entry es (record_of key bytes)) → key ≡ key_of name → IsItem bytes name entry
    → with_entry (trie_entries version) (trie_entry (name, entry)) ≡ trie_entries (insert_entry name_cmp version name entry) → Operates o denied d e A B → A → WorksOn d version → WorksOn e (put name entry version)
put_item o name key bytes entry denied d e A B version puts k is made op a on =
    subst (WorksOn e) (sym (put_some name entry version is.some)) (record {
      works = op.works;
      set = done_set o denied d e A B op a ∙ puts (working_set d) ∙ ap (λ (es : List trie.Entry). with_entry es (record_of key bytes)) on.set ∙ ap (with_entry (trie_entries version)) (same_entry name key bytes entry k is) ∙ made;
      valid = version_put name entry version (storable name bytes entry is) on.valid;
    })

-- a name was put in
pub put_new : (name : Name) (key bytes : List ℕ) (entry : Entry) (denied : List trie.Entry → Type 0) (d e : WorkingVersion) (A B : Type 0) (version : Version) → key ≡ key_of name → IsItem bytes name entry
    → ((x : trie.Entry) → InList x (trie_entries version) → x.key ≡ key_of name → ⊥) → Operates (operation.Insert (record_of key bytes)) denied d e A B → A → WorksOn d version → WorksOn e (put name entry version)
put_new name key bytes entry denied d e A B version k is none op a on =
    put_item (operation.Insert (record_of key bytes)) name key bytes entry denied d e A B version (λ es. refl) k is (inserted name entry version is.name on.valid none) op a on

-- its item was exchanged
pub put_over : (name : Name) (key bytes : List ℕ) (entry : Entry) (denied : List trie.Entry → Type 0) (d e : WorkingVersion) (A B : Type 0) (version : Version) → key ≡ key_of name → IsItem bytes name entry
    → IsOwner name version → Operates (operation.Replace (record_of key bytes)) denied d e A B → A → WorksOn d version → WorksOn e (put name entry version)
put_over name key bytes entry denied d e A B version k is there op a on =
    put_item (operation.Replace (record_of key bytes)) name key bytes entry denied d e A B version (λ es. refl) k is (exchanged name entry version is.name on.valid there) op a on

-- it was taken out
pub put_out : (name : Name) (key : List ℕ) (denied : List trie.Entry → Type 0) (d e : WorkingVersion) (A B : Type 0) (version : Version) → key ≡ key_of name → IsName name
    → IsOwner name version → Operates (operation.Delete key) denied d e A B → A → WorksOn d version → WorksOn e (put name [] version)
put_out name key denied d e A B version k is there op a on = record {
  works = op.works;
  set = done_set (operation.Delete key) denied d e A B op a ∙ ap (λ (es : List trie.Entry). without es key) on.set ∙ ap (without (trie_entries version)) k ∙ deleted name version is on.valid there;
  valid = version_gone name version on.valid;
}

-- ---- two facts of one call

between_both : (R S T : WorkingVersion → WorkingVersion → Type 0) (old new : Option WorkingVersion) → ((d e : WorkingVersion) → R d e → S d e → T d e) → Between R old new → Between S old new → Between T old new
between_both R S T (Some d) (Some e) f r s = f d e r s
between_both R S T (Some d) None f r s = r
between_both R S T None (Some e) f r s = r
between_both R S T None None f r s = r

-- ---- edits, one after another

pub begins_through : {A : Type 0} (all more part : List A) → StartsWith all more → StartsWith more part → StartsWith all part
begins_through all more part a b = (b.0 ++ a.0, a.1 ∙ ap (λ (xs : List _). xs ++ a.0) b.1 ∙ append_assoc part b.0 a.0)

begins_as : {A : Type 0} (all part : List A) → all ≡ part → StartsWith all part
begins_as all part same = ([], same ∙ sym (append-nil part))

begins_itself : {A : Type 0} (xs : List A) → StartsWith xs xs
begins_itself xs = begins_as xs xs refl

pub goes_same : (v : Known) → GoesOn v v
goes_same v = record { pass = refl; opening = refl; history = refl; namings = ([], sym (append-nil v.seen.namings)) }

pub edits_same : (most : ℕ) (P : WorkingVersion → Type 0) (told : Version → WorkingVersion → Type 0) (old : Option WorkingVersion) → IsSomeAnd old P → ((d : WorkingVersion) (version : Version) → WorksOn d version → told version d) → Edits most told old old
edits_same most P told (Some d) p f = record { known = goes_same d.seat.place.me.0; passes = refl; log = begins_itself d.log.operations; few = omega arith; becomes = λ version on. f d version on }
edits_same most P told None p f = absurd p

pub edits_as : (m most : ℕ) (A B : Version → WorkingVersion → Type 0) (old new : Option WorkingVersion) → m ≤ most → ((version : Version) (e : WorkingVersion) → A version e → B version e) → Edits m A old new → Edits most B old new
edits_as m most A B old new le f = between_as (EditsOne m A) (EditsOne most B) old new (λ d e _ _ r. record {
  known = r.known;
  passes = r.passes;
  log = r.log;
  few = (let l = r.few in omega arith);
  becomes = λ version on. f version e (r.becomes version on);
})

-- what the first made is a version, on which the second went on
pub edits_on : (m n most : ℕ) (A B C : Version → WorkingVersion → Type 0) (a b c : Option WorkingVersion) → m + n ≤ most → ((version : Version) (e f : WorkingVersion) → A version e → (now : Version) × WorksOn e now × (B now f → C version f)) → Edits m A a b → Edits n B b c → Edits most C a c
edits_on m n most A B C a b c le h = between_then (EditsOne m A) (EditsOne n B) (EditsOne most C) a b c (λ d e f r s. record {
  known = goes_further r.known s.known;
  passes = s.passes ∙ r.passes;
  log = begins_through f.log.operations e.log.operations d.log.operations s.log r.log;
  few = (let l = r.few in let k = s.few in omega arith);
  becomes = λ version on. (let m = h version e f (r.becomes version on) in m.2 (s.becomes m.0 m.1));
})

-- a working set is there still
pub is_there : (most : ℕ) (A : Version → WorkingVersion → Type 0) (old new : Option WorkingVersion) → Edits most A old new → IsSome new
is_there most A (Some d) (Some e) r = refl
is_there most A (Some d) None r = absurd r
is_there most A None (Some e) r = absurd r
is_there most A None None r = absurd r

-- some version is worked on still
pub edits_some : (most : ℕ) (A : Version → WorkingVersion → Type 0) (old new : Option WorkingVersion) → IsSomeAnd old WorksOnSome → ((version : Version) (e : WorkingVersion) → A version e → WorksOnSome e) → Edits most A old new → IsSomeAnd new WorksOnSome
edits_some most A (Some d) (Some e) p f r = f p.version e (r.becomes p.version p.on)
edits_some most A (Some d) None p f r = absurd r
edits_some most A None (Some e) p f r = absurd p
edits_some most A None None p f r = p

-- ---- an entry stored

-- what the index was asked for is no more than what a version's operation asks for
crowded_by : (e : WorkingVersion) (key : List ℕ) (written kept asked : ℕ) (version : Version) → WorksOn e version → written + cell_count version ≤ asked → IsCrowded e key written kept → IsCrowdedBy e asked kept
crowded_by e key written kept asked version on within c most small some bounds =
    let few = c.few_twigs in
    let path : c.path ≤ cell_count version = subst (λ (es : List trie.Entry). c.path ≤ cells es) on.set few in
    let bound = c.bound most small some bounds in
    let less : (written + c.path) / 769 ≤ asked / 769 = omega arith in
    omega (arith, bound, less)

-- of kept versions there are no more than passes and one
few_kept : (d : WorkingVersion) (f : OutOfSpace) → IsFull d f → length (versions_in f.kept) ≤ d.seat.passes + 1
few_kept d f full =
    let same = ap length full.kept in
    let numbers = length-map d.usage.rows (λ (r : Row). r.version) in
    let most = d.agrees.few_rows in
    omega (arith, same, numbers, most)

-- what was published and done is as much as before
cramped_still : (o : Operation) (denied : List trie.Entry → Type 0) (d e : WorkingVersion) (A B : Type 0) → Operates o denied d e A B → (A → ⊥) → SparesReserve d e → IsCramped d → IsCramped e
cramped_still o denied d e A B op undone spares cramped most_cells most_operations bounds roomy =
    cramped most_cells most_operations
    (record {
      some = bounds.some;
      history = history_still d.seat.place.me.0 e.seat.place.me.0 op.known most_cells most_operations bounds.history;
      operations = subst (λ (os : List Operation). length os ≤ most_operations) (op.stays undone) bounds.operations;
    })
    (subst (λ (p : ℕ). is_roomy p most_cells most_operations (length d.usage.given)) op.passes
    (subst (λ (n : ℕ). is_roomy e.seat.passes most_cells most_operations n) (chunks_stay spares) roomy))
  where
    history_still : (v w : Known) → GoesOn v w → (most_cells most_operations : ℕ) → BoundsHistory most_cells most_operations w.seen → BoundsHistory most_cells most_operations v.seen
    history_still v w on most_cells most_operations b = record {
      versions = λ part begins. subst (λ (es : Option (List trie.Entry)). cells (version_after applied (unwrap_or es []) part) ≤ most_cells) on.opening
          (b.versions part (subst (λ (h : List (Commit' (List Operation))). StartsWith h part) (sym on.history) begins));
      commits = λ c inside. b.commits c (subst (λ (h : List (Commit' (List Operation))). Contains h c) (sym on.history) inside);
    }

module _ (o : Operation) (denied : List trie.Entry → Type 0) (A B : Type 0) (name : Name) (before entry : Entry) (old new : Option WorkingVersion) where
  abbrev Operated : WorkingVersion → WorkingVersion → Type 0
  Operated d e = Does o denied d e A B

  abbrev Called : Type 0
  Called = Between Operated old new

  pub stored : A → ((version : Version) (d e : WorkingVersion) → Operates o denied d e A B → WorksOn d version → before ≡ owned name version → WorksOn e (put name entry version)) → Called → Edits 1 (Stores name before entry (Ok tt)) old new
  stored a puts call = between_as Operated (EditsOne 1 (Stores name before entry (Ok tt))) old new (λ d e _ _ does. let op = does.operates in record {
    known = op.known;
    passes = op.passes;
    log = (o ∷ [], op.done a);
    few = omega (arith, ap (λ (os : List Operation). length os) (op.done a), length-append d.log.operations (o ∷ []));
    becomes = λ version on is. puts version d e op on is;
  }) call

  -- there was no room
  pub no_room : (f : OutOfSpace) (key : List ℕ) (written : ℕ) (asks : List ℕ → List ℕ) → (A → ⊥) → ((version : Version) → IsVersion version → before ≡ owned name version → put name entry version ≡ version → ⊥)
      → ((version : Version) → IsVersion version → written ≤ 3 + item_cells name (put name entry version)) → Called → Between (IsOutOfRoom key written asks f) old new → Edits 0 (Stores name before entry (Err f.shortage)) old new
  no_room f key written asks undone changes within call room =
      between_both Operated (IsOutOfRoom key written asks f) (EditsOne 0 (Stores name before entry (Err f.shortage))) old new
      (λ d e does out. let op = does.operates in record {
        known = op.known;
        passes = op.passes;
        log = begins_as e.log.operations d.log.operations (op.stays undone);
        few = omega (arith, ap (λ (os : List Operation). length os) (op.stays undone));
        becomes = λ version on is. (
          works_same o denied d e A B version op undone on,
          subst (IsFullOn e version (cells_asked name version (put name entry version))) out.full.kept (record {
            named = out.full.named;
            ends = out.full.ends;
            few = few_kept e f out.full;
            many = subst (λ (es : List trie.Entry). length e.usage.given - reserve_of e.usage - 8 ≤ cells es + cells_kept e.seat.place.me.0 (versions_in f.kept)) (same_set o denied d e A B op undone ∙ on.set) out.cause.caused.cause.many_cells;
            cramped = cramped_still o denied d e A B op undone does.spares out.cramped;
            crowded = crowded_by e key written (length (versions_in f.kept)) (cells_asked name version (put name entry version)) version (works_same o denied d e A B version op undone on) (let l = within version on.valid in omega arith) out.crowded;
          }),
          changes version on.valid is,
          out.full.lacks,
        );
      }) call room

  -- the name was refused
  pub refused_set : IsSomeAnd old (Owns name before) → B → Called → (version : Version) × (IsVersion version) × (before ≡ owned name version) × denied (trie_entries version)
  refused_set owns b call =
      let x = both (Owns name before) Operated old new owns call in
      (x.met.version, x.met.on.valid, x.met.owned_is, subst denied x.met.on.set (x.related.operates.refused.0 b))

-- ---- an item read

pub some_weaker : (P Q : WorkingVersion → Type 0) (o : Option WorkingVersion) → ((d : WorkingVersion) → P d → Q d) → IsSomeAnd o P → IsSomeAnd o Q
some_weaker P Q (Some d) f p = f d p
some_weaker P Q None f p = absurd p

module _ (name : Name) (key before after : List ℕ) (found : Option ℕ) (len : ℕ) (reads : (version : Version) → IsVersion version → Fetched key (trie_entries version) before after found → IsRead name version after len) where
  read_one : (d e : WorkingVersion) → IsSame d e → Fetched key (working_set d) before after found → EditsOne 0 (Reads name after len) d e
  read_one d e same item = record {
    passes = sym e.agrees.passes ∙ ap (λ (u : Ledger). u.passes) same.usage ∙ d.agrees.passes;
    known = subst (GoesOn d.seat.place.me.0) (sym same.known) (goes_same d.seat.place.me.0);
    log = begins_as e.log.operations d.log.operations same.log;
    few = omega (arith, ap (λ (os : List Operation). length os) same.log);
    becomes = λ version on.
        let set : working_set e ≡ working_set d = ap (λ (v : Known). applied (version_seen v.seen) e.log.operations) same.known ∙ ap (applied (base_of d)) same.log in
        record {
          stays = record { works = same.works; set = set ∙ on.set; valid = on.valid };
          read = reads version on.valid (subst (λ (es : List trie.Entry). Fetched key es before after found) on.set item);
        };
  }

  pub read_as : (old new : Option WorkingVersion) → Between IsSame old new → IfSome old (λ d. Fetched key (working_set d) before after found) → Edits 0 (Reads name after len) old new
  read_as (Some d) (Some e) same item = read_one d e same item
  read_as (Some d) None same item = same
  read_as None (Some e) same item = same
  read_as None None same item = same

  pub read_within : (old : Option WorkingVersion) → IsSomeAnd old WorksOnSome → IfSome old (λ d. Fetched key (working_set d) before after found) → len ≤ length after
  read_within (Some d) p item = (reads p.version p.on.valid (subst (λ (es : List trie.Entry). Fetched key es before after found) p.on.set item)).within
  read_within None p item = absurd p

-- what a name owns is what was read
module _ (name : Name) (octets : List ℕ) (len : ℕ) (old new : Option WorkingVersion) (works : IsSomeAnd old WorksOnSome) (reads : Edits 0 (Reads name octets len) old new) where
  pub read_some : (version : Version) × IsVersion version × IsRead name version octets len
  read_some =
      let x = both WorksOnSome (EditsOne 0 (Reads name octets len)) old new works reads in
      (x.met.version, x.met.on.valid, (x.related.becomes x.met.version x.met.on).read)

  pub owns_after : (before : Entry) → ((version : Version) → IsRead name version octets len → before ≡ owned name version) → IsSomeAnd new (Owns name before)
  owns_after before is =
      let x = both WorksOnSome (EditsOne 0 (Reads name octets len)) old new works reads in
      let r = x.related.becomes x.met.version x.met.on in
      subst (λ (o : Option WorkingVersion). IsSomeAnd o (Owns name before)) (sym x.new_is) (record { version = x.met.version; on = r.stays; owned_is = is x.met.version r.read })

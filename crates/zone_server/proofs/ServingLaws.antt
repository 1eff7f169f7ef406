-- Passes of a server that go on.
use Rattle.std.proofs.Common.{◌≡◌, ◌∙◌, inl, inr, ℕ, ◌<◌, true, List, length, map, Vec, Global, Option, Some, None, arith, refl, sym, ap, subst}
use Rattle.std.specs.Prelude.{unwrap_or, IsSome}
use Rattle.std.specs.List.{slice_get}
use Rattle.std.proofs.lemmas.Bool.{cases_eq}
use Rattle.std.proofs.lemmas.List.{length-map, take_all}
use Rattle.std.proofs.lemmas.List.FromFn.{length-range_with_len}
use Rattle.std.proofs.lemmas.Option.{slice_get_within}
use Rattle.zone_model.specs.Names.{Name, is_under}
use Rattle.zone_model.specs.Versions.{Version}
use Rattle.shared_cells.specs.declared.view.TableSize.{TableSize}
use Rattle.shared_cells.specs.History.{IsPartOf, version_after}
use Rattle.shared_cells.specs.Views.{is_told}
use Rattle.qp_multi.specs.Operations.{applied}
use Rattle.qp_multi.specs.declared.index.Index.{Index}
use Rattle.qp_multi.specs.declared.meaning.Named.{Ghosts}
use Rattle.qp_multi.specs.declared.pass.Pass.{Pass}
use Rattle.qp_multi.specs.Passes.{Known, first_version, known_at, version_seen}
use Rattle.job_commands.specs.Histories.{BeginsAt, Entries, IsLawful, IsZone, StandsAs, index_at}
use Rattle.job_commands.specs.Commands.{IsOpenedWith, OpensAt}
use Rattle.job_commands.proofs.HistoryLaws.{opened_same}
use Rattle.job_commands.proofs.ZoneLaws.{lawful_zone, zone_begins}
use Rattle.zone_table.specs.declared.pass.ZonesPass.{ZonesPass}
use Rattle.zone_table.specs.declared.zones.Zones.{Zones}
use Rattle.zone_table.specs.Locations.{IsZoneOf}
use Rattle.zone_table.specs.Notes.{HasLearnt, IsNoteOf, KnowsSame, zones_told}
use Rattle.zone_table.specs.Passes.{HasLooked, IsPassOf, table_known, zone_known, zones_known}
use Rattle.zone_table.specs.declared.note.ZonesNote.{ZonesNote}
use Rattle.zone_table.proofs.Lists.{get_in, mapped_at, some_is}
use Rattle.zone_table.proofs.PassLaws.{Went, went, went_as, with_zone, zone_seat, zone_told}
use Rattle.zone_server.specs.Changes.{HappensIn, NoneHas}
use Rattle.zone_server.specs.Homes.{Served, opened_as}
use Rattle.zone_server.specs.Replies.{HasGrown, IsReply, IsShown, IsTold, reply_map}
use Rattle.zone_server.specs.Servings.{IsServed, IsServing, ServerKnown, known_of, origins_of}
use Rattle.zone_server.specs.declared.reply.FromZone.{FromZone}
use Rattle.zone_server.specs.declared.reply.Reply.{Reply}

-- ---- what is served

module _ {X Y : Type 0} {N : Ghosts Y} (served : List Served) (zones : Zones X Y N) (are : IsServed served zones) where
  pub pass_in : (p : ZonesPass Y N) → IsPassOf (origins_of served) p → IsPassOf zones.origins.items p
  pass_in p is = subst (λ (os : List Name). IsPassOf os p) (sym are.origins) is

  pub pass_out : (p : ZonesPass Y N) → IsPassOf zones.origins.items p → IsPassOf (origins_of served) p
  pass_out p is = subst (λ (os : List Name). IsPassOf os p) are.origins is

  -- the zone of this number
  pub served_at : (zone : ℕ) (origin : Name) → slice_get zones.origins.items zone ≡ Some origin → (s : Served) × (slice_get served zone ≡ Some s) × (s.origin ≡ origin)
  served_at zone origin there =
      let here = subst (λ (os : List Name). slice_get os zone ≡ Some origin) are.origins there in
      let lt = slice_get_within (origins_of served) zone origin here in
      let s = get_in served zone (let m = length-map served (λ (x : Served). x.origin) in omega (arith, m, lt)) in
      (s.0, s.1, some_is s.0.origin origin (sym (mapped_at (λ (x : Served). x.origin) served zone s.0 s.1) ∙ here))

  pub origin_at : (zone : ℕ) (s : Served) → slice_get served zone ≡ Some s → slice_get zones.origins.items zone ≡ Some s.origin
  origin_at zone s there = subst (λ (os : List Name). slice_get os zone ≡ Some s.origin) (sym are.origins) (mapped_at (λ (x : Served). x.origin) served zone s there)

  pub size_at : (zone : ℕ) (s : Served) (index : Index X Y N) → slice_get served zone ≡ Some s → slice_get zones.zones.items zone ≡ Some index → index.shared.table.shared.key ≡ s.size
  size_at zone s index there here =
      some_is index.shared.table.shared.key s.size (sym (mapped_at (λ (z : Index X Y N). z.shared.table.shared.key) zones.zones.items zone index here) ∙ ap (λ (l : List TableSize). slice_get l zone) are.sizes ∙ mapped_at (λ (x : Served). x.size) served zone s there)

  pub none_has : (origin : Name) → ((zone : ℕ) (other : Name) → slice_get zones.origins.items zone ≡ Some other → other ≡ origin → ⊥) → NoneHas served origin
  none_has origin none = λ zone s there same. none zone s.origin (origin_at zone s there) same

-- ---- passes

within : (served : List Served) (zone : ℕ) (s : Served) → slice_get served zone ≡ Some s → zone < length (origins_of served)
within served zone s there = let l = slice_get_within served zone s there in let m = length-map served (λ (x : Served). x.origin) in omega (arith, l, m)

module _ {Y : Type 0} {N : Ghosts Y} (served : List Served) where
  pub zones_same : (old new : ZonesPass Y N) → new.zones ≡ old.zones → (zone : ℕ) → zone_known new zone ≡ zone_known old zone
  zones_same old new same zone = ap (λ (zones : Vec (Pass Y N) Global). unwrap_or (slice_get (map (λ z. known_at z.seat) zones.items) zone) (known_at None)) same

  -- the table was looked at
  pub serving_table : (old new : ZonesPass Y N) → IsServing served old → IsPassOf (origins_of served) new → new.zones ≡ old.zones → IsServing served new
  serving_table old new is pass same = record {
    pass = pass;
    opened = λ zone s there. ap (λ (v : Known). first_version v.seen) (zones_same old new same zone) ∙ is.opened zone s there;
  }

  -- a zone's pass went on
  pub serving_went : (p : ZonesPass Y N) (zone : ℕ) (next : Pass Y N) → IsServing served p → Went (origins_of served) p zone next → IsPartOf (known_at next.seat).seen (zone_known p zone).seen → IsServing served (with_zone p zone next)
  serving_went p zone next is w grows = record {
    pass = w.pass;
    opened = λ other s there. elim (cases_eq other zone) [
      | inl e ↦
          let told = zone_told (origins_of served) p is.pass zone (subst (λ (k : ℕ). k < length (origins_of served)) e (within served other s there)) in
          subst (λ (k : ℕ). first_version (zone_known (with_zone p zone next) k).seen ≡ s.opening) (sym e)
          (ap (λ (v : Known). first_version v.seen) w.here ∙ opened_same (known_at next.seat).seen (zone_known p zone).seen told grows ∙ is.opened zone s (subst (λ (k : ℕ). slice_get served k ≡ Some s) e there))
      | inr n ↦ ap (λ (v : Known). first_version v.seen) (w.others other n) ∙ is.opened other s there
    ];
  }

  -- what happened there
  pub happened_in : (origin : Name) (happens : Served → Known → Known → Type 0) (p : ZonesPass Y N) (zone : ℕ) (seat next : Pass Y N) (s : Served) → slice_get served zone ≡ Some s → s.origin ≡ origin → Went (origins_of served) p zone next → known_at seat.seat ≡ zone_known p zone
      → happens s (known_at seat.seat) (known_at next.seat) → HappensIn served origin happens (known_of p) (known_of (with_zone p zone next))
  happened_in origin happens p zone seat next s there named w known h = record {
    zone = zone;
    zone_is = s;
    there = there;
    origin_is = named;
    happened = went_as (happens s) (origins_of served) p zone seat next w known h;
    others = λ other n. w.others other n;
    table = refl;
  }

-- ---- what a version told

-- the version is one of the zone that was opened
pub told_of_zone : (origin : Name) (opening : Entries) (tells : Version → Type 0) (old new : Known) (version : ℕ) → is_told old.seen.opening ≡ true → first_version old.seen ≡ opening → BeginsAt origin opening → IsShown tells old new version → IsTold origin opening tells old new version
told_of_zone origin opening tells old new version told opened begins shown =
    let same : first_version new.seen ≡ opening = opened_same new.seen old.seen told shown.grows ∙ opened in
    let at : version_seen new.seen ≡ index_at opening new.seen.history version =
    ap (λ (o : Entries). version_after applied o new.seen.history) same ∙ ap (version_after applied opening) (sym (take_all version new.seen.history (let v = shown.version_is in omega (arith, v)))) in
    record {
      grows = shown.grows;
      version_is = shown.version_is;
      pass = shown.pass;
      is_zone = subst (IsZone origin) at (lawful_zone origin opening (version_seen new.seen) begins (subst (λ (o : Entries). IsLawful o (version_seen new.seen)) same shown.lawful));
      tells_of = λ zone stands. shown.tells_of zone (subst (λ (es : Entries). StandsAs es zone) (sym at) stands);
    }

module _ {Y : Type 0} {N : Ghosts Y} {T : Type 0} (served : List Served) (name : Name) (tells : Name → Version → T → Type 0) where
  -- no zone has the name
  pub no_reply : (old new : ZonesPass Y N) (table : ℕ) → new.zones ≡ old.zones → HasLooked (table_known old) (table_known new) table → IsZoneOf (origins_of served) (version_seen (table_known new).seen) name None → IsReply served name tells (known_of old) (known_of new) (record { table = table; from = None })
  no_reply old new table same pinned none = record {
    table = pinned;
    located = none;
    from_zone = tt;
    others = λ zone other. zones_same served old new same zone;
  }

  -- a zone has it, and was asked
  pub replied : (old located : ZonesPass Y N) (table zone : ℕ) (seat next : Pass Y N) (s : Served) (version : ℕ) (told : T) → IsServing served old → located.zones ≡ old.zones → IsPassOf (origins_of served) located → HasLooked (table_known old) (table_known located) table
      → IsZoneOf (origins_of served) (version_seen (table_known located).seen) name (Some zone) → IsZone s.origin s.opening → slice_get served zone ≡ Some s → Went (origins_of served) located zone next → known_at seat.seat ≡ zone_known located zone
      → IsShown (λ v. tells s.origin v told) (known_at seat.seat) (known_at next.seat) version
      → IsReply served name tells (known_of old) (known_of (with_zone located zone next)) (record { table = table; from = Some (record { zone = zone; version = version; told = told }) })
  replied old located table zone seat next s version told is same pass pinned deepest is_zone there w known shown =
      let inside = within served zone s there in
      let is_shown = went_as (λ v x. IsShown (λ v. tells s.origin v told) v x version) (origins_of served) located zone seat next w known shown in
      let from_old = subst (λ (v : Known). IsShown (λ v. tells s.origin v told) v (zone_known (with_zone located zone next) zone) version) (zones_same served old located same zone) is_shown in
      record {
        table = pinned;
        located = deepest;
        from_zone = record {
          zone_is = s;
          there = there;
          told = told_of_zone s.origin s.opening (λ v. tells s.origin v told) (zone_known old zone) (zone_known (with_zone located zone next) zone) version (zone_told (origins_of served) old is.pass zone inside) (is.opened zone s there) (zone_begins s.origin s.opening is_zone) from_old;
        };
        others = λ other n. w.others other n ∙ zones_same served old located same other;
      }

-- a name is at or under the origin of the zone that it is in
pub lies_under : (origins : List Name) (es : Entries) (name origin : Name) (zone : ℕ) → IsZoneOf origins es name (Some zone) → slice_get origins zone ≡ Some origin → is_under name origin ≡ true
lies_under origins es name origin zone is there = ap (is_under name) (sym (some_is is.origin origin (sym is.origin_is ∙ there))) ∙ is.covers.above

-- what is made of a reply

module _ {T U : Type 0} (served : List Served) (name : Name) (tells : Name → Version → T → Type 0) (says : Name → Version → U → Type 0) (f : T → U) (means : (origin : Name) (zone : Version) (t : T) → tells origin zone t → says origin zone (f t)) (old new : ServerKnown) where
  mapped : (table : ℕ) (from : Option (FromZone T)) → IsReply served name tells old new (record { table = table; from = from }) → IsReply served name says old new (reply_map f (record { table = table; from = from }))
  mapped table None reply = record { table = reply.table; located = reply.located; from_zone = tt; others = reply.others }
  mapped table (Some z) reply =
      let here = reply.from_zone in
      record {
        table = reply.table;
        located = reply.located;
        from_zone = record {
          zone_is = here.zone_is;
          there = here.there;
          told = record {
            grows = here.told.grows;
            version_is = here.told.version_is;
            pass = here.told.pass;
            is_zone = here.told.is_zone;
            tells_of = λ v after. means here.zone_is.origin v z.told (here.told.tells_of v after);
          };
        };
        others = reply.others;
      }

  pub mapped_reply : (r : Reply T) (q : Reply U) → q ≡ reply_map f r → IsReply served name tells old new r → IsReply served name says old new q
  mapped_reply r q is reply = subst (IsReply served name says old new) (sym is) (mapped r.table r.from reply)

-- ---- a question, as its calls say

module _ {X Y : Type 0} {N : Ghosts Y} (served : List Served) (zones : Zones X Y N) (are : IsServed served zones) (old located : ZonesPass Y N) (is : IsServing served old) (same : located.zones ≡ old.zones) (pass : IsPassOf zones.origins.items located) where
  pub looked : IsServing served located
  looked = serving_table served old located is (pass_out served zones are located pass) same

  module _ {T : Type 0} (name : Name) (tells : Name → Version → T → Type 0) (table : ℕ) (sees : HasLooked (table_known old) (table_known located) table) where
    pub nothing_asked : IsZoneOf zones.origins.items (version_seen (table_known located).seen) name None → IsReply served name tells (known_of old) (known_of located) (record { table = table; from = None })
    nothing_asked none = no_reply served name tells old located table same sees (subst (λ (os : List Name). IsZoneOf os (version_seen (table_known located).seen) name None) are.origins none)

  module _ (zone : ℕ) (seat next : Pass Y N) (value : slice_get located.zones.items zone ≡ Some seat) (here : IsSome next.seat) (place : next.place ≡ seat.place) (known : known_at seat.seat ≡ zone_known located zone) where
    w : Went (origins_of served) located zone next
    w = went (origins_of served) located zone seat next (pass_out served zones are located pass) value here place

    pub asked_serving : HasGrown (known_at seat.seat) (known_at next.seat) → IsServing served (with_zone located zone next)
    asked_serving grown = serving_went served located zone next looked w (subst (λ (v : Known). IsPartOf (known_at next.seat).seen v.seen) known grown.grows)

    pub asked_reply : {T : Type 0} (name : Name) (tells : Name → Version → T → Type 0) (table : ℕ) → HasLooked (table_known old) (table_known located) table → (origin : Name) → slice_get zones.origins.items zone ≡ Some origin
        → IsZoneOf zones.origins.items (version_seen (table_known located).seen) name (Some zone) → (version : ℕ) (told : T) → IsShown (λ v. tells origin v told) (known_at seat.seat) (known_at next.seat) version
        → IsReply served name tells (known_of old) (known_of (with_zone located zone next)) (record { table = table; from = Some (record { zone = zone; version = version; told = told }) })
    asked_reply name tells table pinned origin at deepest version told shown =
        let s = served_at served zones are zone origin at in
        replied served name tells old located table zone seat next s.0 version told is same (pass_out served zones are located pass) pinned
        (subst (λ (os : List Name). IsZoneOf os (version_seen (table_known located).seen) name (Some zone)) are.origins deepest) (are.opened zone s.0 s.1) s.1 w known
        (subst (λ (o : Name). IsShown (λ v. tells o v told) (known_at seat.seat) (known_at next.seat) version) (sym s.2) shown)

    -- in a zone that is named by its origin
    pub happened_there : (happens : Served → Known → Known → Type 0) (origin : Name) (at : slice_get zones.origins.items zone ≡ Some origin) → happens (served_at served zones are zone origin at).0 (known_at seat.seat) (known_at next.seat) → HappensIn served origin happens (known_of located) (known_of (with_zone located zone next))
    happened_there happens origin at h =
        let s = served_at served zones are zone origin at in
        happened_in served origin happens located zone seat next s.0 s.1 s.2 w known h

module _ {X Y : Type 0} {N : Ghosts Y} (served : List Served) (zones : Zones X Y N) (are : IsServed served zones) (p : ZonesPass Y N) (is : IsServing served p) (zone : ℕ) (origin : Name) (at : slice_get zones.origins.items zone ≡ Some origin) (seat : Pass Y N) (known : known_at seat.seat ≡ zone_known p zone) where
  pub opened_at : first_version (known_at seat.seat).seen ≡ (served_at served zones are zone origin at).0.opening
  opened_at = let s = served_at served zones are zone origin at in ap (λ (v : Known). first_version v.seen) known ∙ is.opened zone s.0 s.1

  pub opens_at : OpensAt origin (known_at seat.seat)
  opens_at =
      let s = served_at served zones are zone origin at in
      subst (BeginsAt origin) (sym opened_at) (subst (λ (o : Name). BeginsAt o s.0.opening) s.2 (zone_begins s.0.origin s.0.opening (are.opened zone s.0 s.1)))

  -- the zone's index, in the words of commands
  pub opened_as_at : (index : Index X Y N) → slice_get zones.zones.items zone ≡ Some index → IsOpenedWith (opened_as (served_at served zones are zone origin at).0) origin index.shared.table.shared.key (known_at seat.seat)
  opened_as_at index there =
      let s = served_at served zones are zone origin at in
      let size = size_at served zones are zone s.0 index s.1 there in
      record {
        index = record { origin_is = s.2; chunks = sym (ap (λ (z : TableSize). z.chunks) size); passes = sym (ap (λ (z : TableSize). z.passes) size) };
        opening = opened_at;
      }

-- ---- a pass that knows as much, and one that has learnt

module _ {X Y : Type 0} {N : Ghosts Y} (served : List Served) (zones : Zones X Y N) (are : IsServed served zones) (old new : ZonesPass Y N) (is : IsServing served old) (pass : IsPassOf zones.origins.items new) where
  pub serving_same : KnowsSame old new → IsServing served new
  serving_same same = record {
    pass = pass_out served zones are new pass;
    opened = λ zone s there. ap (λ (vs : List Known). first_version (unwrap_or (slice_get vs zone) (known_at None)).seen) same.zones ∙ is.opened zone s there;
  }

  -- it has seen no less of each zone
  pub serving_grown : ((zone : ℕ) → zone < length (origins_of served) → IsPartOf (zone_known new zone).seen (zone_known old zone).seen) → IsServing served new
  serving_grown grows = record {
    pass = pass_out served zones are new pass;
    opened = λ zone s there.
        let lt = within served zone s there in
        opened_same (zone_known new zone).seen (zone_known old zone).seen (zone_told (origins_of served) old is.pass zone lt) (grows zone lt) ∙ is.opened zone s there;
  }

  -- by a note
  pub serving_learnt : (note : ZonesNote Y N) → IsNoteOf zones.origins.items note → HasLearnt old new note → IsServing served new
  serving_learnt note of learnt = serving_grown (λ zone lt.
      let v = zone_seat (origins_of served) old is.pass zone lt in
      let w = zone_seat (origins_of served) new (pass_out served zones are new pass) zone lt in
      let many = length-map note.zones.items (λ z. z.place) in
      let told = get_in (zones_told note) zone (let m = length-map note.zones.items (λ z. z.told.place.me.0.seen) in let n = ap length of.zone_places in let r = length-range_with_len 1 (length zones.origins.items) in let o = ap length are.origins in omega (arith, m, n, r, o, many, lt)) in
      (learnt.zones zone (zone_known old zone) (zone_known new zone) told.0
      (mapped_at (λ z. known_at z.seat) old.zones.items zone v.0 v.1 ∙ ap Some (sym v.3)) (mapped_at (λ z. known_at z.seat) new.zones.items zone w.0 w.1 ∙ ap Some (sym w.3)) told.1).grows)

pub knows_same : {Y : Type 0} {N : Ghosts Y} (old new : ZonesPass Y N) → KnowsSame old new → known_of new ≡ known_of old
knows_same old new same = ap (λ (v : Known). record { table = v; zones = zones_known new }) same.table ∙ ap (λ (vs : List Known). record { table = table_known old; zones = vs }) same.zones

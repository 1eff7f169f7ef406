-- Differences of small zones, computed.
use Rattle.std.specs.Prelude.{◌≡◌, ℕ, List, [], ◌∷◌, codes, refl, Ok, Err}
use Rattle.zone_model.specs.Names.{Label, Name}
use Rattle.zone_model.specs.Records.{Rrset}
use Rattle.zone_model.specs.Versions.{Version, Operation, DeleteName, DeleteSet, DeleteRecord, all_applied}
use Rattle.std.specs.Fmt.{digits}
use Rattle.zone_model.specs.DataText.{fields_text}
use Rattle.zone_model.specs.declared.Refusal.TheVariants.{Cname}
use Rattle.zone_diff.specs.declared.Serial.TheVariants.{Keep, Ignore}
use Rattle.zone_diff.specs.Differences.{addition, difference, made}
use Rattle.zone_diff.specs.Blocks.{blocks_of}
use Rattle.zone_diff.specs.declared.DiffStyle.TheVariants.{Script, Nsupdate}
use Rattle.zone_diff.specs.Texts.{text_in}

abbrev pub origin : Name
origin = codes "example" ∷ []

abbrev pub named : Label → Name
named label = label ∷ origin

abbrev pub set : ℕ → ℕ → List (List ℕ) → Rrset
set rtype ttl records = record { rtype = rtype; ttl = ttl; records = records }

-- an SOA of a serial
abbrev pub soa : ℕ → List ℕ
soa serial = 0 ∷ 0 ∷ 0 ∷ 0 ∷ 0 ∷ serial ∷ 0 ∷ 0 ∷ 0 ∷ 1 ∷ 0 ∷ 0 ∷ 0 ∷ 2 ∷ 0 ∷ 0 ∷ 0 ∷ 3 ∷ 0 ∷ 0 ∷ 0 ∷ 4 ∷ []

abbrev pub first : List ℕ
first = 1 ∷ []

abbrev pub second : List ℕ
second = 2 ∷ []

abbrev pub third : List ℕ
third = 3 ∷ []

-- a zone with an SOA of a time and serial, and names behind it
abbrev pub zone : ℕ → ℕ → Version → Version
zone ttl serial names = (origin, set 6 ttl (soa serial ∷ []) ∷ []) ∷ names

abbrev pub a : Name
a = named (codes "a")

abbrev pub b : Name
b = named (codes "b")

-- nothing where both are the same
pub same : difference Keep (zone 60 1 ((a, set 1 60 (first ∷ []) ∷ []) ∷ [])) (zone 60 1 ((a, set 1 60 (first ∷ []) ∷ []) ∷ [])) ≡ []
same = refl

-- a name that is gone, and one that is new
pub names : difference Keep (zone 60 1 ((a, set 1 60 (first ∷ []) ∷ []) ∷ [])) (zone 60 1 ((b, set 1 60 (first ∷ second ∷ []) ∷ []) ∷ []))
    ≡ DeleteName a ∷ addition b 1 60 first ∷ addition b 1 60 second ∷ []
names = refl

-- a set that is gone, one that is new, and a record that takes another's place
pub sets : difference Keep (zone 60 1 ((a, set 1 60 (first ∷ second ∷ []) ∷ set 16 60 (first ∷ []) ∷ []) ∷ [])) (zone 60 1 ((a, set 1 60 (second ∷ third ∷ []) ∷ set 28 60 (first ∷ []) ∷ []) ∷ []))
    ≡ DeleteRecord a 1 first ∷ DeleteSet a 16 ∷ addition a 1 60 third ∷ addition a 28 60 first ∷ []
sets = refl

-- a set whose time changes goes and comes
pub time : difference Keep (zone 60 1 ((a, set 1 60 (first ∷ second ∷ []) ∷ []) ∷ [])) (zone 60 1 ((a, set 1 90 (first ∷ third ∷ []) ∷ []) ∷ []))
    ≡ DeleteSet a 1 ∷ addition a 1 90 first ∷ addition a 1 90 third ∷ []
time = refl

-- an alias in the place of addresses, and the other way round
pub to_alias : difference Keep (zone 60 1 ((a, set 1 60 (first ∷ []) ∷ []) ∷ [])) (zone 60 1 ((a, set 5 60 (second ∷ []) ∷ []) ∷ [])) ≡ DeleteSet a 1 ∷ addition a 5 60 second ∷ []
to_alias = refl

pub from_alias : difference Keep (zone 60 1 ((a, set 5 60 (second ∷ []) ∷ []) ∷ [])) (zone 60 1 ((a, set 1 60 (first ∷ []) ∷ []) ∷ [])) ≡ DeleteSet a 5 ∷ addition a 1 60 first ∷ []
from_alias = refl

-- another serial, which may not count
pub serial : difference Keep (zone 60 1 []) (zone 60 2 []) ≡ addition origin 6 60 (soa 2) ∷ []
serial = refl

pub no_serial : difference Ignore (zone 60 1 ((a, set 1 60 (first ∷ []) ∷ []) ∷ [])) (zone 60 2 []) ≡ DeleteName a ∷ []
no_serial = refl

pub serial_stays : made Ignore origin (zone 60 1 ((a, set 1 60 (first ∷ []) ∷ []) ∷ [])) (zone 60 2 []) ≡ zone 60 1 []
serial_stays = refl

-- an SOA whose time alone changes comes twice
pub soa_time : difference Keep (zone 60 255 []) (zone 90 255 []) ≡ addition origin 6 90 (soa 0) ∷ addition origin 6 90 (soa 255) ∷ []
soa_time = refl

-- and what they make
pub sets_made : all_applied origin (DeleteRecord a 1 first ∷ DeleteSet a 16 ∷ addition a 1 60 third ∷ addition a 28 60 first ∷ []) (zone 60 1 ((a, set 1 60 (first ∷ second ∷ []) ∷ set 16 60 (first ∷ []) ∷ []) ∷ []))
    ≡ Ok (zone 60 1 ((a, set 1 60 (second ∷ third ∷ []) ∷ set 28 60 (first ∷ []) ∷ []) ∷ []))
sets_made = refl

-- ---- none can be left out: without it they make another zone, or are refused

abbrev pub sets_before : Version
sets_before = zone 60 1 ((a, set 1 60 (first ∷ second ∷ []) ∷ set 16 60 (first ∷ []) ∷ []) ∷ [])

pub without_record : all_applied origin (DeleteSet a 16 ∷ addition a 1 60 third ∷ addition a 28 60 first ∷ []) sets_before
    ≡ Ok (zone 60 1 ((a, set 1 60 (first ∷ second ∷ third ∷ []) ∷ set 28 60 (first ∷ []) ∷ []) ∷ []))
without_record = refl

pub without_set : all_applied origin (DeleteRecord a 1 first ∷ addition a 1 60 third ∷ addition a 28 60 first ∷ []) sets_before
    ≡ Ok (zone 60 1 ((a, set 1 60 (second ∷ third ∷ []) ∷ set 16 60 (first ∷ []) ∷ set 28 60 (first ∷ []) ∷ []) ∷ []))
without_set = refl

pub without_addition : all_applied origin (DeleteRecord a 1 first ∷ DeleteSet a 16 ∷ addition a 28 60 first ∷ []) sets_before
    ≡ Ok (zone 60 1 ((a, set 1 60 (second ∷ []) ∷ set 28 60 (first ∷ []) ∷ []) ∷ []))
without_addition = refl

-- the time stays
pub without_time : all_applied origin (addition a 1 90 first ∷ addition a 1 90 third ∷ []) (zone 60 1 ((a, set 1 60 (first ∷ second ∷ []) ∷ []) ∷ []))
    ≡ Ok (zone 60 1 ((a, set 1 60 (first ∷ second ∷ third ∷ []) ∷ []) ∷ []))
without_time = refl

-- an alias would stand beside an address
pub without_alias : all_applied origin (addition a 1 60 first ∷ []) (zone 60 1 ((a, set 5 60 (second ∷ []) ∷ []) ∷ [])) ≡ Err Cname
without_alias = refl

-- the SOA that is there keeps its time, and the other one has another serial
pub without_first : all_applied origin (addition origin 6 90 (soa 255) ∷ []) (zone 60 255 []) ≡ Ok (zone 60 255 [])
without_first = refl

pub without_second : all_applied origin (addition origin 6 90 (soa 0) ∷ []) (zone 60 255 []) ≡ Ok (zone 90 0 [])
without_second = refl

-- ---- as text

abbrev pub address : ℕ → List ℕ
address n = 192 ∷ 0 ∷ 2 ∷ n ∷ []

abbrev pub few : List Operation
few = DeleteName a ∷ DeleteSet b 16 ∷ DeleteRecord b 1 (address 1) ∷ addition b 1 60 (address 2) ∷ []

pub as_script : text_in Script origin few ≡ codes "update\ndel a.example.\ndel b.example. TXT\ndel b.example. A 192.0.2.1\nadd b.example. 60 A 192.0.2.2\ncommit\n"
unfolding fields_text digits
as_script = refl

pub as_updates : text_in Nsupdate origin few
    ≡ codes "zone example.\nupdate delete a.example.\nupdate delete b.example. IN TXT\nupdate delete b.example. IN A 192.0.2.1\nupdate add b.example. 60 IN A 192.0.2.2\nsend\n"
unfolding fields_text digits
as_updates = refl

pub as_nothing : text_in Script origin [] ≡ []
as_nothing = refl

-- ---- in transactions

pub in_twos : blocks_of 2 few ≡ (DeleteName a ∷ DeleteSet b 16 ∷ []) ∷ (DeleteRecord b 1 (address 1) ∷ addition b 1 60 (address 2) ∷ []) ∷ []
in_twos = refl

pub in_threes : blocks_of 3 few ≡ (DeleteName a ∷ DeleteSet b 16 ∷ DeleteRecord b 1 (address 1) ∷ []) ∷ (addition b 1 60 (address 2) ∷ []) ∷ []
in_threes = refl

-- Steps of a worker with a snapshot, by where its passes are.
use Rattle.std.proofs.Common.{◌≡◌, Option, Some, None, refl, sym, subst}
use Rattle.std.specs.Prelude.{IsSome}
use Rattle.std.specs.Option.{option_map}
use Rattle.job_model.specs.declared.Question.{Question}
use Rattle.job_model.specs.Commands.{Hold, AskHeld, Release}
use Rattle.job_report.specs.declared.outcomes.Outcome.{Outcome}
use Rattle.qp_multi.specs.Passes.{known_at, first_version}
use Rattle.job_commands.specs.Histories.{OpenedWith}
use Rattle.job_commands.specs.Commands.{Seat}
use Rattle.job_threads.specs.Snapshots.{Held, AskedHeld, Released}
use Rattle.job_commands.specs.Steps.{IsUnder, Step}
use Rattle.job_commands.specs.WorkerPasses.{IsHeld, IsPlaced, Pinned, holder_view, worker_passes}
use Rattle.job_commands.proofs.ShowLaws.{seat_told}
use Rattle.job_threads.proofs.SnapshotLaws.{hold_step, held_step, release_step}

module _ (s : OpenedWith) (o : Outcome) (asks : Option Seat) (some : IsSome asks) (opened : first_version (known_at asks).seen ≡ s.opening) where
  pub hold_done : (second : Option Seat) → IsSome second → IsUnder (known_at asks) (known_at second) → (asks' : Option Seat) (seat : Pinned) → IsHeld seat → Held (known_at asks) (known_at second) (known_at asks') seat o
      → Step s Hold o (worker_passes asks (Some second) None) (worker_passes asks' None (Some seat))
  hold_done second there under asks' seat h t =
      hold_step s o (worker_passes asks (Some second) None) (worker_passes asks' None (Some seat)) opened (seat_told asks some) (seat_told second there) under seat refl refl h t

  pub held_done : (seat : Pinned) → IsHeld seat → IsUnder (known_at asks) seat.place.me.0 → (question : Question) → AskedHeld s.origin question seat o → Step s (AskHeld question) o (worker_passes asks None (Some seat)) (worker_passes asks None (Some seat))
  held_done seat h under question a = held_step s o (worker_passes asks None (Some seat)) opened (seat_told asks some) seat.told under seat refl refl h question a

  pub release_done : (seat : Pinned) → IsHeld seat → IsUnder (known_at asks) seat.place.me.0 → (second : Option Seat) → Released seat (known_at second) o → Step s Release o (worker_passes asks None (Some seat)) (worker_passes asks (Some second) None)
  release_done seat h under second r =
      release_step s o (worker_passes asks None (Some seat)) opened (seat_told asks some) seat.told under seat refl refl h (worker_passes asks (Some second) None) refl refl r

  -- the same of a spare pass and a snapshot that are seen in their places

  module _ {A : Type 0} (seat : A → Option Seat) (held : Option Pinned) (asks' : Option Seat) (now : Pinned) (h : IsHeld now) where
    pub hold_from : (spare : Option A) (second : A) → Some second ≡ spare → IsPlaced (option_map seat spare) held → IsUnder (known_at asks) (holder_view (option_map seat spare) held) → Held (known_at asks) (known_at (seat second)) (known_at asks') now o
        → (after : Option A) → after ≡ None → Step s Hold o (worker_passes asks (option_map seat spare) held) (worker_passes asks' (option_map seat after) (Some now))
    hold_from None second is placed under t after none = absurd (let e : Some second ≡ None = is in cc)
    hold_from (Some other) second is placed under t after none = by_held held placed under
      where
        same : second ≡ other
        same = cc

        by_held : (held : Option Pinned) → IsPlaced (Some (seat other)) held → IsUnder (known_at asks) (holder_view (Some (seat other)) held) → Step s Hold o (worker_passes asks (Some (seat other)) held) (worker_passes asks' (option_map seat after) (Some now))
        by_held None placed under =
            subst (λ (x : Option A). Step s Hold o (worker_passes asks (Some (seat other)) None) (worker_passes asks' (option_map seat x) (Some now))) (sym none)
            (hold_done (seat other) placed under asks' now h (subst (λ (x : A). Held (known_at asks) (known_at (seat x)) (known_at asks') now o) same t))
        by_held (Some pinned) placed under = absurd placed

  module _ {A : Type 0} (seat : A → Pinned) where
    pub held_from : (spare : Option (Option Seat)) (held : Option A) (snapshot : A) → Some snapshot ≡ held → IsPlaced spare (option_map seat held) → IsUnder (known_at asks) (holder_view spare (option_map seat held)) → (question : Question) → AskedHeld s.origin question (seat snapshot) o
        → Step s (AskHeld question) o (worker_passes asks spare (option_map seat held)) (worker_passes asks spare (option_map seat held))
    held_from spare None snapshot is placed under question a = absurd (let e : Some snapshot ≡ None = is in cc)
    held_from (Some other) (Some there) snapshot is placed under question a = absurd placed
    held_from None (Some there) snapshot is placed under question a =
        let same : snapshot ≡ there = cc in held_done (seat there) placed under question (subst (λ (x : A). AskedHeld s.origin question (seat x) o) same a)

    pub release_from : (spare : Option (Option Seat)) (held : Option A) (snapshot : A) → Some snapshot ≡ held → IsPlaced spare (option_map seat held) → IsUnder (known_at asks) (holder_view spare (option_map seat held)) → (second : Option Seat) → Released (seat snapshot) (known_at second) o
        → (after : Option A) → after ≡ None → Step s Release o (worker_passes asks spare (option_map seat held)) (worker_passes asks (Some second) (option_map seat after))
    release_from spare None snapshot is placed under second r after none = absurd (let e : Some snapshot ≡ None = is in cc)
    release_from (Some other) (Some there) snapshot is placed under second r after none = absurd placed
    release_from None (Some there) snapshot is placed under second r after none =
        let same : snapshot ≡ there = cc in
        subst (λ (x : Option A). Step s Release o (worker_passes asks None (Some (seat there))) (worker_passes asks (Some second) (option_map seat x))) (sym none)
        (release_done (seat there) placed under second (subst (λ (x : A). Released (seat x) (known_at second) o) same r))

-- ---- where the second pass is

-- the snapshot that is there is held
pub held_there : {A : Type 0} (seat : A → Pinned) (spare : Option (Option Seat)) (held : Option A) (snapshot : A) → Some snapshot ≡ held → IsPlaced spare (option_map seat held) → IsHeld (seat snapshot)
held_there seat spare None snapshot is placed = absurd (let e : Some snapshot ≡ None = is in cc)
held_there seat (Some other) (Some there) snapshot is placed = absurd placed
held_there seat None (Some there) snapshot is placed = let same : there ≡ snapshot = cc in subst (λ x. IsHeld (seat x)) same placed

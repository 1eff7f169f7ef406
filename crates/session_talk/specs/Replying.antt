-- What a worker is asked for by a line, and what is replied.
use Rattle.std.specs.Prelude.{◌≡◌, ◌<◌, ◌≤◌, ◌+◌, ◌-◌, ◌^◌, ℕ, Bool, false, List, Result, OnOk}
use Rattle.zone_model.specs.Names.{Name}
use Rattle.job_model.specs.Commands.{Command}
use Rattle.job_model.specs.Sessions.{Said}
use Rattle.job_report.specs.declared.outcomes.Outcome.{Outcome}
use Rattle.session_lines.specs.Printing.{printing}
use Rattle.session_lines.specs.Well.{RunsWell}
use Rattle.session_lines.specs.declared.replies.Replies.{Replies}
use Rattle.session_talk.specs.Entries.{Entry, Ran, Replied}
use Rattle.session_talk.specs.Workers.{Opened}

module _ {Y : Type 0} (is_ready : Y → Type 0) (origin_of : Y → Name) where
  -- It replied to a line.
  pub record GoesOnReplying (worker worker_now : Y) (replies replies_now : Replies) : Type 0 where
    pub ready : is_ready worker_now
    -- it is of the same zone
    pub origin : origin_of worker_now ≡ origin_of worker
    -- a line completes one command at most
    pub few : replies_now.next ≤ replies.next + 1

  module _ (holds : Y → Bool) where
    -- A worker can reply to what a line says.
    pub record CanReply (worker : Y) (replies : Replies) (said : List Said) : Type 0 where
      pub ready : is_ready worker
      -- there is a number for one command more
      pub few : replies.next < 2 ^ 64 - 1
      -- it can run what is said
      pub well : (now : Bool) × RunsWell (origin_of worker) (holds worker) now said

    -- A session can begin over a worker.
    pub record CanBegin (worker : Y) (origin : Name) (number : ℕ) : Type 0 where
      -- lines are counted from one
      pub first : 0 < number
      pub ready : is_ready worker
      -- it is of the session's zone
      pub same : origin_of worker ≡ origin
      -- it holds no snapshot
      pub free : holds worker ≡ false

module _ {Y : Type 0} (origin_of : Y → Name) (holds : Y → Bool) (has_run : Y → Opened → List Command → List Outcome → Type 0) where
  -- A worker ran what a line said, and it was replied to.
  pub record AnswersSaid {A E : Type 0} (result : Result A E) (worker worker_now : Y) (said : List Said) (replies replies_now : Replies) : Type 0 where
    -- it holds a snapshot then just where the session does
    pub held : (now : Bool) → RunsWell (origin_of worker) (holds worker) now said → OnOk result (holds worker_now ≡ now)
    -- what was said was answered by entries behind those that there were
    pub replied : (o : Opened) (entries : List Entry) → Ran (has_run worker o) entries
        → OnOk result (Replied (has_run worker_now o) entries said (printing replies) (printing replies_now))

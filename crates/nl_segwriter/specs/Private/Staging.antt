-- Logs that are ready to be written.
use Rattle.std.specs.Prelude.{◌≡◌, ℕ, ◌≤◌, List, [], ◌∷◌, length, map, take, drop}
use Rattle.nl_types.specs.Plain.Limits.{log_limit}
use Rattle.nl_types.specs.declared.segment.Log.{Log}
use Rattle.nl_layout.specs.Summary.{SummaryHasSpelling, summary_bytes}
use Rattle.nl_segwriter.specs.declared.staging.Staged.{Staged}
use Rattle.nl_vstore.specs.Content.{Payload, payload_page}
use Rattle.nl_vstore.specs.Logs.{WholeLog, contents_of}

-- the log that is to stand
abbrev pub whole_of : Staged → WholeLog
whole_of x = record { stamp = x.stamp; checkpoint = x.checkpoint; payload = x.payload }

-- the pages for the device are the summary's and those of the payload
pub record IsReady (x : Staged) : Type 0 where
  pub fits : SummaryHasSpelling (contents_of (whole_of x))
  pub pages : x.pages ≡ summary_bytes (contents_of (whole_of x)) ∷ map payload_page x.payload
  pub count : length x.payload ≡ x.log.count

-- a log with its payload is staged
pub record IsStaged (log : Log) (whole : WholeLog) (x : Staged) : Type 0 where
  pub log_is : x.log ≡ log
  pub whole_is : whole_of x ≡ whole
  pub ready : IsReady x

-- the payload is shared out to the logs, in order
abbrev pub AreStaged : ℕ → ℕ → List Log → List Payload → List Staged → Type 0
AreStaged stamp checkpoint [] payload xs = (payload ≡ []) × (xs ≡ [])
AreStaged stamp checkpoint (log ∷ logs) payload [] = ⊥
AreStaged stamp checkpoint (log ∷ logs) payload (x ∷ xs) =
    IsStaged log (record { stamp = stamp; checkpoint = checkpoint; payload = take log.count payload }) x
    × AreStaged stamp checkpoint logs (drop log.count payload) xs

abbrev pub logs_of : List Staged → List Log
logs_of [] = []
logs_of (x ∷ xs) = x.log ∷ logs_of xs

-- each log has 1 to 30 payload blocks
abbrev pub AreSized : List Log → Type 0
AreSized [] = Unit {0}
AreSized (log ∷ logs) = ((1 ≤ log.count) × (log.count ≤ log_limit)) × AreSized logs

-- Which calls of a failing device fail, and what is left then.
use Rattle.std.specs.Prelude.{◌≡◌, ℕ, ◌+◌, zero, suc, Bool, true, false, if◌then◌else◌, List, replicate, Option, None, Some}
use Rattle.nl_device.specs.Failures.{Failures}
use Rattle.nl_device.specs.declared.memory.MemDevice.{MemDevice}
use Rattle.nl_device.specs.declared.fault.FaultDevice.{FaultDevice}
use Rattle.nl_device.specs.declared.turn.Turn.{Turn}
use Rattle.nl_device.specs.declared.turn.Turn.TheVariants.{Never, After, Failed}

-- the call of a number, from 1 on
abbrev pub turn_of : ℕ → Turn
turn_of zero = Never
turn_of (suc n) = After n

-- how often it has failed
abbrev pub turned : Turn → ℕ
turned Never = 0
turned (After n) = 0
turned Failed = 1

-- a call was counted, and fails where its turn has come
abbrev pub HasTurned : Turn → Bool → Turn → Type 0
HasTurned Never fails new = (fails ≡ false) × (new ≡ Never)
HasTurned (After zero) fails new = (fails ≡ true) × (new ≡ Failed)
HasTurned (After (suc n)) fails new = (fails ≡ false) × (new ≡ After n)
HasTurned Failed fails new = (fails ≡ false) × (new ≡ Failed)

-- a page of zeros, where one is wanted
abbrev pub zeros_if : Bool → Option (List ℕ)
zeros_if torn = if torn then Some (replicate 1024 0) else None

-- what a put that fails leaves of the old page
abbrev pub left_of : (zeros old : Option (List ℕ)) → Option (List ℕ)
left_of None old = old
left_of (Some zeros) old = Some zeros

-- it holds what the device below it holds, and these calls are to fail
pub record IsOver (memory : MemDevice) (put get : ℕ) (torn : Bool) (device : FaultDevice) : Type 0 where
  pub holds : device.memory ≡ memory
  pub put_fails : device.put ≡ turn_of put
  pub get_fails : device.get ≡ turn_of get
  pub grows : device.grow ≡ Never
  -- a torn put is to leave zeros
  pub zeros : device.zeros ≡ zeros_if torn

-- the get, the put and the growth that have failed
abbrev pub failures_of : FaultDevice → Failures
failures_of device = record { reads = turned device.get; writes = turned device.put + turned device.grow }

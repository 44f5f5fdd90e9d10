-- A map with hidden entries as the list of what its other entries show.
use Rattle.std.specs.Prelude.{ℕ, cond, Bool, List, Option, Some, None}
use Rattle.std.specs.List.{filter_map}
use Rattle.std.specs.Option.{option_map}

-- what the entries of a map show, in order
abbrev pub shown_entries : {K V X R : Type 0} → (K → X → R) → (V → Option X) → List (K × V) → List R
shown_entries made show es = filter_map (λ e. option_map (λ x. made e.0 x) (show e.1)) es

-- a key with what is shown
abbrev pub pair : {X : Type 0} → ℕ → X → ℕ × X
pair k x = (k, x)

-- an entry without a value is hidden
abbrev pub itself : {X : Type 0} → Option X → Option X
itself o = o

-- the key of an entry that shows nothing else
abbrev pub key_alone : ℕ → Unit {0} → ℕ
key_alone n u = n

-- an entry that is false is hidden
abbrev pub if_true : Bool → Option (Unit {0})
if_true b = cond b (Some tt) None

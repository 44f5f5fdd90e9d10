-- What calls do to the bytes of a file, where these are known: what they do to a file of a volume.
use Rattle.std.specs.Prelude.{◌≡◌, ℕ, List, Option, Some, IfSome}
use Rattle.nl_types.specs.Plain.Calls.{overwritten, resized}

-- bytes are written from a place on
abbrev pub IsOverwritten : (old new : Option (List ℕ)) → (place : ℕ) → (bytes : List ℕ) → Type 0
IsOverwritten old new place bytes = IfSome old (λ known. new ≡ Some (overwritten known place bytes))

-- the file is cut, or zeros stand behind it
abbrev pub IsResized : (old new : Option (List ℕ)) → (len : ℕ) → Type 0
IsResized old new len = IfSome old (λ known. new ≡ Some (resized known len))

-- Reading a manifest from the front on. Each reader gives what it read and the bytes behind it.
use Rattle.std.specs.Prelude.{◌≡◌, ℕ, zero, suc, ◌+◌, ◌-◌, ◌*◌, ◌^◌, Bool, true, false, ◌&&◌, if◌then◌else◌, ◌==◌, nat_lt, nat_le, List, [], ◌∷◌, ◌++◌, length, codes, Option, Some, None, option_and_then, Result, Ok, Err}
use Rattle.nl_types.specs.Plain.Characters.{dot, line_feed}
use Rattle.nl_manifests.specs.declared.attributes.Time.{Time}
use Rattle.nl_manifests.specs.declared.attributes.Attributes.{Attributes}
use Rattle.nl_manifests.specs.declared.manifest.LineKind.{LineKind}
use Rattle.nl_manifests.specs.declared.manifest.LineKind.TheVariants.{File, Link}
use Rattle.nl_manifests.specs.declared.manifest.Line.{Line}
use Rattle.nl_manifests.specs.declared.manifest.Manifest.{Manifest}
use Rattle.nl_manifests.specs.declared.fields.ReadError.{ReadError}
use Rattle.nl_manifests.specs.declared.fields.ReadError.TheVariants as errors
use Rattle.nl_manifests.specs.Manifests.{backslash, is_plain}

infixl 10 ◌>>=◌
abbrev pub ◌>>=◌ : {A B : Type 0} → Option A → (A → Option B) → Option B
o >>= f = option_and_then f o

-- what a function returned, seen by `view`, is what reading gives, unless memory ran out
abbrev pub Fails : {Y : Type 0} → ReadError → Option Y → Type 0
Fails errors.Memory read = Unit {0}
Fails errors.NoManifest read = read ≡ None

abbrev pub Gives : {X Y : Type 0} → (X → Y) → Result X ReadError → Option Y → Type 0
Gives view (Ok x) read = read ≡ Some (view x)
Gives view (Err e) read = Fails e read

-- ---- texts and numbers

-- what stands behind a text
unfoldable pub behind : List ℕ → List ℕ → Option (List ℕ)
behind [] bytes = Some bytes
behind (b ∷ text) [] = None
behind (b ∷ text) (c ∷ bytes) = if b == c then behind text bytes else None

unfoldable pub digit_at : ℕ → List ℕ → Option (ℕ × List ℕ)
digit_at base [] = None
digit_at base (b ∷ bytes) = if nat_le 48 b && nat_lt b (48 + base) then Some (b - 48, bytes) else None

-- a number of so many digits
unfoldable pub digits_at : (base width : ℕ) → List ℕ → Option (ℕ × List ℕ)
digits_at base zero bytes = Some (0, bytes)
digits_at base (suc width) bytes = do
  front ← digits_at base width bytes
  last ← digit_at base front.1
  Some (front.0 * base + last.0, last.1)

abbrev pub decimal_digit_at : List ℕ → Option (ℕ × List ℕ)
decimal_digit_at [] = None
decimal_digit_at (b ∷ bytes) = if nat_le 48 b && nat_le b 57 then Some (b - 48, bytes) else None

-- the number that a digit writes behind those of another one, up to 64 bits
abbrev pub pushed : (number digit : ℕ) → Option ℕ
pushed number digit = if nat_lt (number * 10 + digit) (2 ^ 64) then Some (number * 10 + digit) else None

-- the same for all digits that there are
unfoldable pub decimal_from : ℕ → List ℕ → Option (ℕ × List ℕ)
decimal_from number [] = Some (number, [])
decimal_from number (b ∷ bytes) =
    if nat_le 48 b && nat_le b 57
    then (pushed number (b - 48) >>= λ next. decimal_from next bytes)
    else Some (number, b ∷ bytes)

-- a number up to 32 bits
unfoldable pub owner_at : List ℕ → Option (ℕ × List ℕ)
owner_at bytes = do
  n ← decimal_from 0 bytes
  if nat_lt n.0 (2 ^ 32) then Some n else None

-- ---- names and targets

-- a byte that stands behind a backslash
unfoldable pub octal_byte_at : List ℕ → Option (Option (ℕ × List ℕ))
octal_byte_at bytes = do
  n ← digits_at 8 3 bytes
  if nat_lt n.0 256 then Some (Some n) else None

-- a byte of a name, none where the name ends
unfoldable pub byte_at : List ℕ → Option (Option (ℕ × List ℕ))
byte_at [] = Some None
byte_at (b ∷ bytes) =
    if is_plain b then Some (Some (b, bytes))
    else if b == backslash then octal_byte_at bytes
    else Some None

-- an item in front of those that are read behind it, and none where it is none
abbrev pub and_more : {X : Type 0} → (List ℕ → Option (List X × List ℕ)) → List ℕ → Option (X × List ℕ)
    → Option (List X × List ℕ)
and_more others bytes None = Some ([], bytes)
and_more others bytes (Some first) = others first.1 >>= λ more. Some (first.0 ∷ more.0, more.1)

-- items one after another until they end, fewer than `limit`
unfoldable pub many : {X : Type 0} → (List ℕ → Option (Option (X × List ℕ))) → (limit : ℕ) → List ℕ
    → Option (List X × List ℕ)
many next zero bytes = None
many next (suc limit) bytes = next bytes >>= and_more (many next limit) bytes

-- a name or a target
abbrev pub name_at : List ℕ → Option (List ℕ × List ℕ)
name_at bytes = many byte_at (length bytes) bytes

-- ---- attributes

abbrev pub sign_at : List ℕ → Bool × List ℕ
sign_at [] = (false, [])
sign_at (b ∷ bytes) = if b == 45 then (true, bytes) else (false, b ∷ bytes)

unfoldable pub time_at : List ℕ → Option (Time × List ℕ)
time_at bytes = do
  seconds ← decimal_from 0 (sign_at bytes).1
  rest ← behind (dot ∷ []) seconds.1
  nanoseconds ← digits_at 10 9 rest
  Some (
    record {
      is_negative = (sign_at bytes).0;
      seconds = seconds.0;
      nanoseconds = nanoseconds.0;
    },
    nanoseconds.1,
  )

unfoldable pub attributes_at : List ℕ → Option (Attributes × List ℕ)
attributes_at bytes = do
  at_mode ← behind (codes " mode=") bytes
  mode ← digits_at 8 4 at_mode
  at_owner ← behind (codes " uid=") mode.1
  owner ← owner_at at_owner
  at_group ← behind (codes " gid=") owner.1
  group ← owner_at at_group
  at_time ← behind (codes " time=") group.1
  time ← time_at at_time
  Some (record { mode = mode.0; owner = owner.0; group = group.0; time = time.0 }, time.1)

-- ---- lines

-- what stands behind the name
unfoldable pub file_at : List ℕ → Option ((LineKind × Attributes) × List ℕ)
file_at bytes = do
  attributes ← attributes_at bytes
  Some ((File, attributes.0), attributes.1)

unfoldable pub link_at : List ℕ → Option ((LineKind × Attributes) × List ℕ)
link_at bytes = do
  attributes ← attributes_at bytes
  at_target ← behind (codes " link=") attributes.1
  target ← name_at at_target
  Some ((Link target.0, attributes.0), target.1)

abbrev pub kind_behind : Option (List ℕ) → List ℕ → Option ((LineKind × Attributes) × List ℕ)
kind_behind (Some rest) bytes = file_at rest
kind_behind None bytes = behind (codes " type=link") bytes >>= link_at

unfoldable pub kind_at : List ℕ → Option ((LineKind × Attributes) × List ℕ)
kind_at bytes = kind_behind (behind (codes " type=file") bytes) bytes

unfoldable pub line_at : List ℕ → Option (Line × List ℕ)
line_at bytes = do
  at_name ← behind (codes "./") bytes
  name ← name_at at_name
  kind ← kind_at name.1
  rest ← behind (line_feed ∷ []) kind.1
  Some (record { name = name.0; kind = kind.0.0; attributes = kind.0.1 }, rest)

-- the next line, none at the end
unfoldable pub next_line_at : List ℕ → Option (Option (Line × List ℕ))
next_line_at [] = Some None
next_line_at (b ∷ bytes) = line_at (b ∷ bytes) >>= λ line. Some (Some line)

-- ---- all of it

abbrev pub head : List ℕ
head = codes "#mtree" ++ (line_feed ∷ codes ". type=dir")

-- all lines, fewer than `limit`
abbrev pub lines_at : (limit : ℕ) → List ℕ → Option (List Line)
lines_at limit bytes = many next_line_at limit bytes >>= λ lines. Some lines.0

unfoldable pub all_at : List ℕ → Option Manifest
all_at bytes = do
  at_own ← behind head bytes
  own ← attributes_at at_own
  at_lines ← behind (line_feed ∷ []) own.1
  lines ← lines_at (length bytes) at_lines
  Some (record { own = own.0; lines = lines })

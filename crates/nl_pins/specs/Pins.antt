-- What a file of pins says: a manifest, of which each line is of a checkpoint.
use Rattle.std.specs.Prelude.{◌≡◌, ◌<◌, ◌^◌, ℕ, Bool, true, false, ◌&&◌, ◌||◌, ◌==◌, not, if◌then◌else◌, List, [], ◌∷◌, ◌++◌, Option, None, Some, option_map}
use Rattle.std.specs.Fmt.{decimal}
use Rattle.std.specs.List.{filter}
use Rattle.std.specs.Ordering.{is_lt}
use Rattle.nl_types.specs.declared.row.Row.{Row}
use Rattle.nl_types.specs.Plain.Decimals.{decimal_in}
use Rattle.nl_types.specs.Plain.Paths.{name_cmp}
use Rattle.nl_manifests.specs.declared.attributes.Attributes.{Attributes}
use Rattle.nl_manifests.specs.declared.manifest.Line.{Line}
use Rattle.nl_manifests.specs.declared.manifest.LineKind.{LineKind}
use Rattle.nl_manifests.specs.declared.manifest.LineKind.TheVariants.{File, Link}
use Rattle.nl_manifests.specs.declared.manifest.Manifest.{Manifest}
use Rattle.nl_manifests.specs.Manifests.{are_lines, is_kind, printed}
use Rattle.nl_manifests.specs.Readings.{manifest_in}

-- ---- lines

abbrev pub is_number : Option ℕ → ℕ → Bool
is_number None n = false
is_number (Some m) n = m == n

-- the line is of checkpoint n: its name is a decimal number, and that is n
abbrev pub is_of : ℕ → Line → Bool
is_of n line = is_number (decimal_in line.name) n

-- what is noted of it: where its link leads
abbrev pub noted : LineKind → List ℕ
noted File = []
noted (Link text) = text

-- what is noted of checkpoint n, if it is pinned
abbrev pub text_in : List Line → ℕ → Option (List ℕ)
text_in [] n = None
text_in (line ∷ lines) n = if is_of n line then Some (noted line.kind) else text_in lines n

-- ---- the file

-- without modes, owners and times, but that at which a checkpoint was pinned
abbrev pub pinned_at : (moment : ℕ) → Attributes
pinned_at moment = record {
  mode = 0;
  owner = 0;
  group = 0;
  time = record { is_negative = false; seconds = moment; nanoseconds = 0 };
}

-- where nothing is pinned there is no file
abbrev pub file_of : List Line → Option (List ℕ)
file_of [] = None
file_of (line ∷ lines) = Some (printed (record { own = pinned_at 0; lines = line ∷ lines }))

-- ---- changes

-- a row is of checkpoint m
abbrev pub has_row : List Row → ℕ → Bool
has_row [] m = false
has_row (row ∷ rows) m = row.number == m || has_row rows m

abbrev pub is_among : List Row → Option ℕ → Bool
is_among rows None = false
is_among rows (Some m) = has_row rows m

-- the line is of a checkpoint among the rows, and not of n
abbrev pub is_other : List Row → ℕ → Line → Bool
is_other rows n line = is_among rows (decimal_in line.name) && not (is_of n line)

abbrev pub others : List Row → ℕ → List Line → List Line
others rows n lines = filter (is_other rows n) lines

abbrev pub kind_with : List ℕ → LineKind
kind_with [] = File
kind_with (b ∷ bytes) = Link (b ∷ bytes)

abbrev pub pin_line : (n : ℕ) → (text : List ℕ) → (moment : ℕ) → Line
pin_line n text moment = record {
  name = decimal n;
  kind = kind_with text;
  attributes = pinned_at moment;
}

abbrev pub is_before : Line → Line → Bool
is_before line other = is_lt (name_cmp other.name line.name)

-- a line amid others, in the order of the names
abbrev pub with_line : Line → List Line → List Line
with_line line lines = filter (is_before line) lines ++ line ∷ filter (λ l. not (is_before line l)) lines

-- the same with checkpoint n pinned, beside those of the others that are among the rows
abbrev pub with_pin : List Row → (n : ℕ) → (text : List ℕ) → (moment : ℕ) → List Line → List Line
with_pin rows n text moment lines = with_line (pin_line n text moment) (others rows n lines)

-- ---- laws

-- what is read of a file can be printed
abbrev pub ReadPinsArePrintable : Type 0
ReadPinsArePrintable =
    (bytes : List ℕ) (m : Manifest) → manifest_in bytes ≡ Some m → are_lines m.lines ≡ true

-- what can be printed is read again
abbrev pub PinsAreReadAgain : Type 0
PinsAreReadAgain =
    (bytes : List ℕ) (lines : List Line) → are_lines lines ≡ true → file_of lines ≡ Some bytes
    → option_map (λ m. m.lines) (manifest_in bytes) ≡ Some lines

-- and it can be where pins come and go, with nothing noted of them or some text without NUL
pub record PinsStayPrintable : Type 0 where
  pub taken : (rows : List Row) (n : ℕ) (lines : List Line) → are_lines lines ≡ true
      → are_lines (others rows n lines) ≡ true
  pub put : (rows : List Row) (n moment : ℕ) (text : List ℕ) (lines : List Line)
      → n < 2 ^ 64 → moment < 2 ^ 64 → is_kind (kind_with text) ≡ true → are_lines lines ≡ true
      → are_lines (with_pin rows n text moment lines) ≡ true

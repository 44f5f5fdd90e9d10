-- What a manifest is, and its bytes: lines in the form of mtree(5).
use Rattle.std.specs.Prelude.{ℕ, zero, suc, ◌+◌, ◌/◌, ◌%◌, ◌^◌, Bool, true, false, ◌&&◌, ◌||◌, not, if◌then◌else◌, ◌==◌, nat_lt, IsTrue, List, [], ◌∷◌, ◌++◌, length, codes}
use Rattle.std.specs.Char.{is_ascii_alphanumeric}
use Rattle.std.specs.Fmt.{decimal}
use Rattle.std.specs.List.{list_all, list_any, flat_map}
use Rattle.std.specs.Ordering.{is_lt}
use Rattle.nl_types.specs.Plain.Characters.{dot, line_feed}
use Rattle.nl_types.specs.Plain.Paths.{name_cmp}
use Rattle.nl_manifests.specs.declared.attributes.Time.{Time}
use Rattle.nl_manifests.specs.declared.attributes.Attributes.{Attributes}
use Rattle.nl_manifests.specs.declared.manifest.LineKind.{LineKind}
use Rattle.nl_manifests.specs.declared.manifest.LineKind.TheVariants.{File, Link}
use Rattle.nl_manifests.specs.declared.manifest.Line.{Line}
use Rattle.nl_manifests.specs.declared.manifest.Manifest.{Manifest}

-- ---- what is a manifest

-- bytes of the host
abbrev pub are_bytes : List ℕ → Bool
are_bytes bytes = list_all (λ b. nat_lt b 256) bytes

-- a time has less than a second behind its seconds, and none is negative with 0 seconds
unfoldable pub is_time : Time → Bool
is_time time =
    nat_lt time.seconds (2 ^ 64) && (nat_lt time.nanoseconds 1000000000
    && (not time.is_negative || nat_lt 0 time.seconds))

-- twelve bits of mode, owners of 32 bits, and a time
unfoldable pub are_attributes : Attributes → Bool
are_attributes a =
    nat_lt a.mode 4096 && (nat_lt a.owner (2 ^ 32) && (nat_lt a.group (2 ^ 32) && is_time a.time))

-- what a file may be named and a link may lead to: some bytes without NUL
unfoldable pub is_text : List ℕ → Bool
is_text bytes = not (length bytes == 0) && (not (list_any (λ b. b == 0) bytes) && are_bytes bytes)

abbrev pub is_kind : LineKind → Bool
is_kind File = true
is_kind (Link target) = is_text target

unfoldable pub is_line : Line → Bool
is_line line = is_kind line.kind && (is_text line.name && are_attributes line.attributes)

-- the names ascend by bytes, none twice
abbrev pub ascend : List Line → Bool
ascend [] = true
ascend (line ∷ []) = true
ascend (line ∷ next ∷ lines) = is_lt (name_cmp line.name next.name) && ascend (next ∷ lines)

unfoldable pub are_lines : List Line → Bool
are_lines lines = list_all is_line lines && ascend lines

unfoldable pub is_manifest : Manifest → Bool
is_manifest m = are_attributes m.own && are_lines m.lines

abbrev pub IsManifest : Manifest → Type 0
IsManifest m = IsTrue (is_manifest m)

-- ---- its bytes

-- the last digits of a number in a base, so many
unfoldable pub in_digits : (base width number : ℕ) → List ℕ
in_digits base zero number = []
in_digits base (suc width) number = in_digits base width (number / base) ++ (48 + number % base) ∷ []

abbrev pub backslash : ℕ
backslash = 92

-- letters, digits and some marks, of which the blank, the line feed and the backslash are none
unfoldable pub is_plain : ℕ → Bool
is_plain byte = is_ascii_alphanumeric byte || list_any (λ mark. mark == byte) (codes "%+,-./:@_")

-- a byte as vis(3) has it: it stands for itself, or its octal digits stand behind a backslash
unfoldable pub escaped_byte : ℕ → List ℕ
escaped_byte byte = if is_plain byte then byte ∷ [] else backslash ∷ in_digits 8 3 byte

abbrev pub escaped : List ℕ → List ℕ
escaped bytes = flat_map escaped_byte bytes

abbrev pub sign_text : Bool → List ℕ
sign_text true = codes "-"
sign_text false = []

unfoldable pub time_text : Time → List ℕ
time_text time =
    sign_text time.is_negative ++ (decimal time.seconds ++ (dot ∷ in_digits 10 9 time.nanoseconds))

unfoldable pub attributes_text : Attributes → List ℕ
attributes_text a =
    codes " mode=" ++ (in_digits 8 4 a.mode
    ++ (codes " uid=" ++ (decimal a.owner
    ++ (codes " gid=" ++ (decimal a.group
    ++ (codes " time=" ++ time_text a.time))))))

-- what stands behind the name
abbrev pub kind_text : LineKind → Attributes → List ℕ
kind_text File a = codes " type=file" ++ attributes_text a
kind_text (Link target) a = codes " type=link" ++ (attributes_text a ++ (codes " link=" ++ escaped target))

unfoldable pub line_text : Line → List ℕ
line_text line = codes "./" ++ (escaped line.name ++ (kind_text line.kind line.attributes ++ line_feed ∷ []))

-- a line that says what the file is, one of the directory itself, and one of each file and link in it
unfoldable pub printed : Manifest → List ℕ
printed m =
    codes "#mtree" ++ (line_feed ∷ codes ". type=dir"
    ++ (attributes_text m.own ++ (line_feed ∷ flat_map line_text m.lines)))

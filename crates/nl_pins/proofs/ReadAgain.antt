-- Lines of pins that can be printed, and are read again.
use Rattle.std.proofs.Common.{◌≡◌, ◌≢◌, ℕ, ◌<◌, ◌^◌, Bool, true, false, cond, not, ◌||◌, nat_lt, List, [], ◌∷◌, ◌++◌, length, Option, None, Some, refl, sym, ap, ◌∙◌, subst, true≢false, lt-ltb, ne_eqb, arith}
use Rattle.std.proofs.lemmas.Bool.{and_parts, and_from}
use Rattle.std.proofs.lemmas.Fmt.{decimal_is_IsNumeral}
use Rattle.std.proofs.lemmas.Option.{same_Some}
use Rattle.std.proofs.lemmas.Str.Parse.{digit_from_value}
use Rattle.std.specs.Prelude.{◌==◌, option_map}
use Rattle.std.specs.Char.{digit_value}
use Rattle.std.specs.Fmt.{decimal}
use Rattle.std.specs.List.{filter, list_all, list_any}
use Rattle.std.specs.Str.Parse.{AllDigits, digits_value}
use Rattle.std.specs.declared.cmp.Ordering.{Ordering}
use Rattle.std.specs.declared.cmp.Ordering.TheVariants.{Less, Equal, Greater}
use Rattle.std.specs.Ordering.{is_lt, ordering_reverse}
use Rattle.std.specs.Cmp.Lexicographic.{nat_list_cmp_total}
use Rattle.nl_types.specs.declared.row.Row.{Row}
use Rattle.nl_types.specs.Plain.Decimals.{decimal_in, is_decimal}
use Rattle.nl_types.specs.Plain.Paths.{Name, name_cmp}
use Rattle.nl_types.specs.Facts.Lookups.{names_equal}
use Rattle.nl_manifests.specs.declared.manifest.Line.{Line}
use Rattle.nl_manifests.specs.declared.manifest.Manifest.{Manifest}
use Rattle.nl_manifests.specs.Manifests.{are_attributes, are_bytes, are_lines, ascend, is_kind, is_line, is_manifest, is_text, is_time, printed}
use Rattle.nl_manifests.specs.Readings.{ManifestsArePrinted}
use Rattle.nl_pins.specs.Pins.{PinsAreReadAgain, PinsStayPrintable, ReadPinsArePrintable, is_before, is_number, is_of, is_other, kind_with, others, pin_line, pinned_at, with_line, with_pin}

-- ---- lines in order

abbrev AllOf : (Line → Type 0) → List Line → Type 0
AllOf P [] = Unit {0}
AllOf P (line ∷ lines) = P line × AllOf P lines

all_weaker : (P Q : Line → Type 0) → ((l : Line) → P l → Q l) → (lines : List Line) → AllOf P lines
    → AllOf Q lines
all_weaker P Q weaker [] all = tt
all_weaker P Q weaker (l ∷ lines) all = (weaker l all.0, all_weaker P Q weaker lines all.1)

-- what is chosen of lines by a test
all_chosen : (P : Line → Type 0) (test : Line → Bool) (lines : List Line) → AllOf P lines
    → AllOf (λ l. (test l ≡ true) × P l) (filter test lines)
all_chosen P test [] all = tt
all_chosen P test (l ∷ lines) all =
    let rest = all_chosen P test lines all.1 in
    elim (test l) as (λ b. test l ≡ b
    → AllOf (λ x. (test x ≡ true) × P x) (cond b (l ∷ filter test lines) (filter test lines)))
    [ true ↦ λ is. ((is, all.0), rest) | false ↦ λ _. rest ] refl

abbrev Below : Name → List Line → Type 0
Below name lines = AllOf (λ l. name_cmp name l.name ≡ Less) lines

abbrev Rising : List Line → Type 0
Rising [] = Unit {0}
Rising (l ∷ lines) = Below l.name lines × Rising lines

less_is : (o : Ordering) → is_lt o ≡ true → o ≡ Less
less_is Less is = refl
less_is Equal is = absurd (true≢false (sym is))
less_is Greater is = absurd (true≢false (sym is))

rising : (lines : List Line) → ascend lines ≡ true → Rising lines
rising [] is = tt
rising (a ∷ []) is = (tt, tt)
rising (a ∷ b ∷ lines) is =
    let parts = and_parts (is_lt (name_cmp a.name b.name)) (ascend (b ∷ lines)) is in
    let rest = rising (b ∷ lines) parts.1 in
    let first = less_is (name_cmp a.name b.name) parts.0 in (
      (
        first,
        all_weaker _ (λ l. name_cmp a.name l.name ≡ Less)
            (λ l low. nat_list_cmp_total.trans a.name b.name l.name first low) lines rest.0,
      ),
      rest,
    )

ascends : (lines : List Line) → Rising lines → ascend lines ≡ true
ascends [] up = refl
ascends (a ∷ []) up = refl
ascends (a ∷ b ∷ lines) up =
    and_from (is_lt (name_cmp a.name b.name)) (ascend (b ∷ lines)) (ap is_lt up.0.0) (ascends (b ∷ lines) up.1)

rising_chosen : (test : Line → Bool) (lines : List Line) → Rising lines → Rising (filter test lines)
rising_chosen test [] up = tt
rising_chosen test (l ∷ lines) up =
    let rest = rising_chosen test lines up.1 in
    elim (test l) as (λ b. Rising (cond b (l ∷ filter test lines) (filter test lines))) [
      | true ↦ (
        all_weaker _ (λ x. name_cmp l.name x.name ≡ Less) (λ x both. both.1) (filter test lines)
            (all_chosen (λ x. name_cmp l.name x.name ≡ Less) test lines up.0),
        rest,
      )
      | false ↦ rest
    ]

below-append : (name : Name) (xs ys : List Line) → Below name xs → Below name ys → Below name (xs ++ ys)
below-append name [] ys one other = other
below-append name (x ∷ xs) ys one other = (one.0, below-append name xs ys one.1 other)

rising-append : (xs ys : List Line) → Rising xs → Rising ys → AllOf (λ x. Below x.name ys) xs
    → Rising (xs ++ ys)
rising-append [] ys one other apart = other
rising-append (x ∷ xs) ys one other apart =
    (below-append x.name xs ys one.0 apart.0, rising-append xs ys one.1 other apart.1)

-- a line comes to others, of which none has its name
rising_with : (line : Line) (lines : List Line) → Rising lines
    → AllOf (λ l. name_cmp l.name line.name ≢ Equal) lines → Rising (with_line line lines)
rising_with line lines up apart =
    rising-append (filter (is_before line) lines) (line ∷ behind) (rising_chosen (is_before line) lines up)
    (above, rising_chosen (λ l. not (is_before line l)) lines up)
    (all_weaker _ (λ x. Below x.name (line ∷ behind)) (λ x early. below x (less_is _ early.0))
    (filter (is_before line) lines) (all_chosen (λ l. name_cmp l.name line.name ≢ Equal) (is_before line) lines apart))
  where
    behind : List Line
    behind = filter (λ l. not (is_before line l)) lines

    turned : (l : Line) (o : Ordering) → name_cmp l.name line.name ≡ o → not (is_lt o) ≡ true → (o ≢ Equal)
        → name_cmp line.name l.name ≡ Less
    turned l Less is late other = absurd (true≢false (sym late))
    turned l Equal is late other = absurd (other refl)
    turned l Greater is late other =
        nat_list_cmp_total.antisymm line.name l.name ∙ ap ordering_reverse is

    above : Below line.name behind
    above =
        all_weaker _ (λ l. name_cmp line.name l.name ≡ Less) (λ l both. turned l _ refl both.0 both.1) behind
        (all_chosen (λ l. name_cmp l.name line.name ≢ Equal) (λ l. not (is_before line l)) lines apart)

    below : (x : Line) → name_cmp x.name line.name ≡ Less → Below x.name (line ∷ behind)
    below x low = (
      low,
      all_weaker _ (λ l. name_cmp x.name l.name ≡ Less)
          (λ l high. nat_list_cmp_total.trans x.name line.name l.name low high) behind above,
    )

-- ---- each a line

all_lines : (lines : List Line) → list_all is_line lines ≡ true → AllOf (λ l. is_line l ≡ true) lines
all_lines [] all = tt
all_lines (l ∷ lines) all =
    let parts = and_parts (is_line l) (list_all is_line lines) all in (parts.0, all_lines lines parts.1)

lines_all : (lines : List Line) → AllOf (λ l. is_line l ≡ true) lines → list_all is_line lines ≡ true
lines_all [] all = refl
lines_all (l ∷ lines) all = and_from (is_line l) (list_all is_line lines) all.0 (lines_all lines all.1)

all-append : (P : Line → Type 0) (xs ys : List Line) → AllOf P xs → AllOf P ys → AllOf P (xs ++ ys)
all-append P [] ys one other = other
all-append P (x ∷ xs) ys one other = (one.0, all-append P xs ys one.1 other)

chosen : (P : Line → Type 0) (test : Line → Bool) (lines : List Line) → AllOf P lines
    → AllOf P (filter test lines)
chosen P test lines all = all_weaker _ P (λ l both. both.1) (filter test lines) (all_chosen P test lines all)

record AreLines (lines : List Line) : Type 0 where
  each : AllOf (λ l. is_line l ≡ true) lines
  up : Rising lines

opened : (lines : List Line) → are_lines lines ≡ true → AreLines lines
unfolding are_lines
opened lines is =
    let parts = and_parts (list_all is_line lines) (ascend lines) is in
    record { each = all_lines lines parts.0; up = rising lines parts.1 }

closed : (lines : List Line) → AreLines lines → are_lines lines ≡ true
unfolding are_lines
closed lines is = and_from (list_all is_line lines) (ascend lines) (lines_all lines is.each) (ascends lines is.up)

others_stay : (rows : List Row) (n : ℕ) (lines : List Line) → AreLines lines → AreLines (others rows n lines)
others_stay rows n lines is = record {
  each = chosen (λ l. is_line l ≡ true) (is_other rows n) lines is.each;
  up = rising_chosen (is_other rows n) lines is.up;
}

-- ---- the line of a pin

-- a digit is no NUL, and a byte
digit_plain : (d : ℕ) → digit_value d < 10 → ((d == 0) ≡ false) × (nat_lt d 256 ≡ true)
digit_plain d low =
    let range = digit_from_value d low in
    (ne_eqb d 0 (λ e. omega (arith, range.0, e)), lt-ltb d 256 (omega (arith, range.1)))

digits_plain : (word : List ℕ) → AllDigits 10 word
    → (list_any (λ b. b == 0) word ≡ false) × (are_bytes word ≡ true)
digits_plain [] all = (refl, refl)
digits_plain (d ∷ word) all =
    let one = digit_plain d all.0 in
    let rest = digits_plain word all.1 in
    ((λ i. one.0 i || rest.0 i), and_from (nat_lt d 256) (are_bytes word) one.1 rest.1)

all_true : (word : List ℕ) → AllDigits 10 word → list_all (λ d. nat_lt (digit_value d) 10) word ≡ true
all_true [] all = refl
all_true (d ∷ word) all =
    and_from (nat_lt (digit_value d) 10) _ (lt-ltb (digit_value d) 10 all.0) (all_true word all.1)

-- a number's digits are a decimal, and that is the number
decimal_again : (n : ℕ) → n < 2 ^ 64 → decimal_in (decimal n) ≡ Some n
decimal_again n fits =
    let is = decimal_is_IsNumeral n fits in
    let word = decimal n in
    let value : digits_value 10 word < 2 ^ 64 = subst (λ (m : ℕ). m < 2 ^ 64) (sym is.1) fits in
    let test : is_decimal word ≡ true =
    and_from (nat_lt 0 (length word)) _ (lt-ltb 0 (length word) is.0.0)
    (and_from (list_all (λ d. nat_lt (digit_value d) 10) word) _ (all_true word is.0.1)
    (lt-ltb (digits_value 10 word) (2 ^ 64) value)) in
    ap (λ b. cond b (Some (digits_value 10 word)) None) test ∙ ap (λ (m : ℕ). Some m) is.1

named : (n : ℕ) → n < 2 ^ 64 → is_text (decimal n) ≡ true
unfolding is_text
named n fits =
    let is = decimal_is_IsNumeral n fits in
    let plain = digits_plain (decimal n) is.0.1 in
    and_from (not (length (decimal n) == 0)) _
    (ap not (ne_eqb (length (decimal n)) 0 (λ e. omega (arith, is.0.0, e))))
    (and_from (not (list_any (λ b. b == 0) (decimal n))) (are_bytes (decimal n)) (ap not plain.0) plain.1)

pin_is_line : (n moment : ℕ) (text : List ℕ) → n < 2 ^ 64 → moment < 2 ^ 64
    → is_kind (kind_with text) ≡ true → is_line (pin_line n text moment) ≡ true
unfolding is_line are_attributes is_time
pin_is_line n moment text fits small noted =
    and_from (is_kind (kind_with text)) _ noted
    (and_from (is_text (decimal n)) _ (named n fits)
    (and_from (nat_lt moment (2 ^ 64)) true (lt-ltb moment (2 ^ 64) small) refl))

itself : (n : ℕ) → (n == n) ≡ true
itself n = grind (arith)

-- the others have other names
apart_from : (rows : List Row) (n : ℕ) → n < 2 ^ 64 → (l : Line) → is_other rows n l ≡ true
    → name_cmp l.name (decimal n) ≢ Equal
apart_from rows n fits l other tied =
    let parts = and_parts _ (not (is_of n l)) other in
    let is : is_of n l ≡ true =
    ap (λ (name : Name). is_number (decimal_in name) n) (names_equal l.name (decimal n) tied)
    ∙ ap (λ o. is_number o n) (decimal_again n fits)
    ∙ itself n in
    true≢false (sym parts.1 ∙ ap not is)

with_pin_stays : (rows : List Row) (n moment : ℕ) (text : List ℕ) (lines : List Line) → n < 2 ^ 64
    → moment < 2 ^ 64 → is_kind (kind_with text) ≡ true → AreLines lines
    → AreLines (with_pin rows n text moment lines)
with_pin_stays rows n moment text lines fits small noted is =
    let line = pin_line n text moment in
    let rest = others rows n lines in
    let stay = others_stay rows n lines is in
    record {
      each =
          all-append (λ l. is_line l ≡ true) (filter (is_before line) rest)
          (line ∷ filter (λ l. not (is_before line l)) rest)
          (chosen (λ l. is_line l ≡ true) (is_before line) rest stay.each) (
            pin_is_line n moment text fits small noted,
            chosen (λ l. is_line l ≡ true) (λ l. not (is_before line l)) rest stay.each,
          );
      up =
          rising_with line rest stay.up
          (all_weaker _ (λ l. name_cmp l.name line.name ≢ Equal) (λ l both. apart_from rows n fits l both.0) rest
          (all_chosen (λ l. is_line l ≡ true) (is_other rows n) lines is.each));
    }

pub pins_stay : PinsStayPrintable
pins_stay = record {
  taken = λ rows n lines is. closed (others rows n lines) (others_stay rows n lines (opened lines is));
  put = λ rows n moment text lines fits small noted is.
      closed (with_pin rows n text moment lines)
      (with_pin_stays rows n moment text lines fits small noted (opened lines is));
}

-- ---- the file

manifest_lines : (m : Manifest) → is_manifest m ≡ true → are_lines m.lines ≡ true
unfolding is_manifest
manifest_lines m is = (and_parts (are_attributes m.own) (are_lines m.lines) is).1

own_attributes : are_attributes (pinned_at 0) ≡ true
unfolding are_attributes is_time
own_attributes = refl

lines_manifest : (lines : List Line) → are_lines lines ≡ true
    → is_manifest (record { own = pinned_at 0; lines = lines }) ≡ true
unfolding is_manifest
lines_manifest lines is = and_from (are_attributes (pinned_at 0)) (are_lines lines) own_attributes is

pub read_printable : ManifestsArePrinted → ReadPinsArePrintable
read_printable law bytes m is = manifest_lines m ((law bytes m).0 is).0

pub read_again : ManifestsArePrinted → PinsAreReadAgain
read_again law bytes [] is file = let no : ◌≡◌ {A = Option (List ℕ)} None (Some bytes) = file in cc
read_again law bytes (l ∷ lines) is file =
    let m : Manifest = record { own = pinned_at 0; lines = l ∷ lines } in
    ap (option_map (λ (x : Manifest). x.lines))
    ((law bytes m).1 (lines_manifest (l ∷ lines) is, same_Some (printed m) bytes file))

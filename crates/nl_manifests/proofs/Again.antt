-- What was printed is read again.
use Rattle.std.proofs.Common.{◌≡◌, ℕ, zero, suc, ◌+◌, ◌-◌, ◌*◌, ◌/◌, ◌%◌, ◌^◌, ◌<◌, ◌≤◌, Bool, true, false, cond, eqb, ltb, leb, List, [], ◌∷◌, ◌++◌, length, codes, Option, Some, None, refl, sym, ap, ◌∙◌, append_assoc, append-nil, length-append, arith}
use Rattle.std.proofs.Math.Nat.{div-lt_iff_lt-mul, pow-zero, pow-suc}
use Rattle.std.proofs.lemmas.Bool.{and_parts, le-leb, lt-ltb, ltb-true}
use Rattle.std.proofs.lemmas.Fmt.{decimal_by_steps}
use Rattle.std.proofs.lemmas.Bool.Decides.{nat_tests}
use Rattle.std.specs.Fmt.{decimal}
use Rattle.std.specs.List.{list_all, flat_map}
use Rattle.nl_types.specs.Plain.Characters.{dot, line_feed}
use Rattle.nl_manifests.specs.declared.attributes.Time.{Time}
use Rattle.nl_manifests.specs.declared.attributes.Attributes.{Attributes}
use Rattle.nl_manifests.specs.declared.manifest.LineKind.{LineKind}
use Rattle.nl_manifests.specs.declared.manifest.LineKind.TheVariants.{File, Link}
use Rattle.nl_manifests.specs.declared.manifest.Line.{Line}
use Rattle.nl_manifests.specs.declared.manifest.Manifest.{Manifest}
use Rattle.nl_manifests.specs.Manifests.{are_attributes, are_bytes, ascend, attributes_text, backslash, escaped, escaped_byte, in_digits, is_line, is_manifest, are_lines, is_plain, is_text, is_time, line_text, printed, sign_text, time_text}
use Rattle.nl_manifests.specs.Private.Reading.{◌>>=◌, all_at, attributes_at, behind, byte_at, decimal_from, digit_at, digits_at, file_at, kind_at, line_at, lines_at, link_at, many, name_at, next_line_at, octal_byte_at, owner_at, sign_at, time_at}

-- ---- digits

digit_again : (base d : ℕ) (rest : List ℕ) → d < base → digit_at base ((48 + d) ∷ rest) ≡ Some (d, rest)
unfolding digit_at
digit_again base d rest below =
    let low : leb 48 (48 + d) ≡ true = le-leb 48 (48 + d) (omega arith) in
    let high : ltb (48 + d) (48 + base) ≡ true = lt-ltb (48 + d) (48 + base) (omega arith) in
    let value : 48 + d - 48 ≡ d = omega arith in
    rw (low, high, value) refl

pub digits_again : (base width n : ℕ) (rest : List ℕ) → 0 < base → n < base ^ width
    → digits_at base width (in_digits base width n ++ rest) ≡ Some (n, rest)
unfolding digits_at in_digits
digits_again base zero n rest low below =
    let none : n ≡ 0 = omega (arith, pow-zero base) in
    ap (λ (k : ℕ). Some (k, rest)) (sym none)
digits_again base (suc width) n rest low below =
    let front : n / base < base ^ width = (div-lt_iff_lt-mul low).1 (rw (← pow-suc base width) below) in
    let whole : n / base * base + n % base ≡ n = omega arith in
    let last : n % base < base = omega arith in
    let regrouped = append_assoc (in_digits base width (n / base)) ((48 + n % base) ∷ []) rest in
    ap (λ (bytes : List ℕ). digits_at base width bytes >>= λ f. digit_at base f.1 >>= λ l. Some (
      f.0 *
          base + l.0,
      l.1,
    )) regrouped
    ∙ rw (
      digits_again base width (n / base) ((48 + n % base) ∷ rest) low front,
      digit_again base (n %
          base) rest last,
      whole,
    ) refl

-- ---- decimal numbers

decimal_step : (v d : ℕ) (rest : List ℕ) → d < 10 → v * 10 + d < 2 ^ 64
    → decimal_from v ((48 + d) ∷ rest) ≡ decimal_from (v * 10 + d) rest
unfolding decimal_from
decimal_step v d rest below fits =
    let low : leb 48 (48 + d) ≡ true = le-leb 48 (48 + d) (omega arith) in
    let high : leb (48 + d) 57 ≡ true = le-leb (48 + d) 57 (omega arith) in
    let value : 48 + d - 48 ≡ d = omega arith in
    let small : ltb (v * 10 + d) (2 ^ 64) ≡ true = lt-ltb (v * 10 + d) (2 ^ 64) fits in
    rw (low, high, value, small) refl

-- behind the digits of a number, reading goes on from it
abbrev GoesOn : ℕ → List ℕ → Type 0
GoesOn n digits = (rest : List ℕ) → n < 2 ^ 64 → decimal_from 0 (digits ++ rest) ≡ decimal_from n rest

pub decimal_behind : (n : ℕ) → n < 2 ^ 64 → (rest : List ℕ)
    → decimal_from 0 (decimal n ++ rest) ≡ decimal_from n rest
decimal_behind n fits rest = decimal_by_steps GoesOn one more n fits rest fits
  where
    one : (n : ℕ) → n < 10 → GoesOn n ((48 + n) ∷ [])
    one n below rest fits = decimal_step 0 n rest below (omega arith) ∙ ap (λ (k : ℕ). decimal_from k
        rest) (omega arith)

    more : (n : ℕ) (digits : List ℕ) → 10 ≤ n → GoesOn (n / 10) digits
        → GoesOn n (digits ++ (48 + n % 10) ∷ [])
    more n digits long goes rest fits =
        let whole : n / 10 * 10 + n % 10 ≡ n = omega arith in
        ap (decimal_from 0) (append_assoc digits ((48 + n % 10) ∷ []) rest)
        ∙ goes ((48 + n % 10) ∷ rest) (omega arith)
        ∙ decimal_step (n / 10) (n % 10) rest (omega arith) (omega arith)
        ∙ ap (λ (k : ℕ). decimal_from k rest) whole

owner_again : (n : ℕ) (rest : List ℕ) → ltb n (2 ^ 32) ≡ true
    → owner_at (decimal n ++ 32 ∷ rest) ≡ Some (n, 32 ∷ rest)
unfolding owner_at decimal_from
owner_again n rest fits =
    let small : n < 2 ^ 64 = omega (arith, ltb-true n (2 ^ 32) fits) in
    rw (decimal_behind n small (32 ∷ rest), fits) refl

-- ---- items one after another

pub many_again : {X : Type 0} (next : List ℕ → Option (Option (X × List ℕ))) (text : X → List ℕ) (ok : X →
    Bool)
    → ((x : X) (rest : List ℕ) → ok x ≡ true → next (text x ++ rest) ≡ Some (Some (x, rest)))
    → (xs : List X) (rest : List ℕ) (limit : ℕ) → list_all ok xs ≡ true → next rest ≡ Some None
    → length xs < limit → many next limit (flat_map text xs ++ rest) ≡ Some (xs, rest)
unfolding many
many_again next text ok one xs rest zero all ends less = absurd (omega arith)
many_again next text ok one [] rest (suc limit) all ends less = rw ends refl
many_again next text ok one (x ∷ xs) rest (suc limit) all ends less =
    let parts = and_parts (ok x) (list_all ok xs) all in
    let regrouped = append_assoc (text x) (flat_map text xs) rest in
    ap (many next (suc limit)) regrouped
    ∙ rw (
      one x (flat_map text xs ++ rest) parts.0,
      many_again next text ok one xs rest limit parts.1 ends
          (omega arith),
    ) refl

-- ---- names

octal_byte_again : (b : ℕ) (rest : List ℕ) → b < 256
    → octal_byte_at (in_digits 8 3 b ++ rest) ≡ Some (Some (b, rest))
unfolding octal_byte_at
octal_byte_again b rest below =
    let small : ltb b 256 ≡ true = lt-ltb b 256 below in
    rw (digits_again 8 3 b rest (omega arith) (omega arith), small) refl

backslash_marks : is_plain backslash ≡ false
unfolding is_plain
backslash_marks = refl

byte_again : (b : ℕ) (rest : List ℕ) → ltb b 256 ≡ true → byte_at (escaped_byte b ++ rest) ≡ Some (Some
    (b, rest))
unfolding byte_at escaped_byte
byte_again b rest fits =
    elim (is_plain b) as (λ t. is_plain b ≡ t
    → byte_at (cond t (b ∷ []) (backslash ∷ in_digits 8 3 b) ++ rest) ≡ Some (Some (b, rest))) [
      | true ↦ λ plain. rw plain refl
      | false ↦ λ _. rw backslash_marks (octal_byte_again b rest (ltb-true b 256 fits))
    ] refl

longer : (b : ℕ) → 0 < length (escaped_byte b)
unfolding escaped_byte
longer b = elim (is_plain b) as (λ t. 0 < length (cond t (b ∷ []) (backslash ∷ in_digits 8 3 b)))
    [ true ↦ omega arith | false ↦ omega arith ]

-- where each item has a byte at least, there are no more items than bytes
items_long : {X : Type 0} (text : X → List ℕ) → ((x : X) → 0 < length (text x)) → (xs : List X)
    → length xs ≤ length (flat_map text xs)
items_long text some [] = omega arith
items_long text some (x ∷ xs) =
    omega (arith, length-append (text x) (flat_map text xs), some x, items_long text some xs)

pub name_again : (name : List ℕ) (b : ℕ) (rest : List ℕ) → are_bytes name ≡ true → byte_at (b ∷ rest) ≡
    Some None
    → name_at (escaped name ++ b ∷ rest) ≡ Some (name, b ∷ rest)
name_again name b rest bytes ends =
    many_again byte_at escaped_byte (λ c. ltb c 256) byte_again name (b ∷ rest)
    (length (escaped name ++ b ∷ rest)) bytes ends
    (omega (arith, length-append (escaped name) (b ∷ rest), items_long escaped_byte longer name))

text_bytes : (bytes : List ℕ) → is_text bytes ≡ true → are_bytes bytes ≡ true
unfolding is_text
text_bytes bytes is = (and_parts _ (are_bytes bytes) (and_parts _ _ is).1).1

-- a blank and a line feed end a name
blank_ends : (rest : List ℕ) → byte_at (32 ∷ rest) ≡ Some None
unfolding byte_at is_plain
blank_ends rest = refl

feed_ends : (rest : List ℕ) → byte_at (line_feed ∷ rest) ≡ Some None
unfolding byte_at is_plain
feed_ends rest = refl

-- ---- attributes

-- a number has no sign
abbrev Unsigned : ℕ → List ℕ → Type 0
Unsigned n digits = (rest : List ℕ) → sign_at (digits ++ rest) ≡ (false, digits ++ rest)

unsigned : (n : ℕ) → n < 2 ^ 64 → Unsigned n (decimal n)
unsigned n fits = decimal_by_steps Unsigned one more n fits
  where
    one : (n : ℕ) → n < 10 → Unsigned n ((48 + n) ∷ [])
    one n below rest =
        let other : eqb (48 + n) 45 ≡ false = grind (arith, nat_tests) in
        rw other refl

    more : (n : ℕ) (digits : List ℕ) → 10 ≤ n → Unsigned (n / 10) digits → Unsigned n (digits ++ (48 + n %
        10) ∷ [])
    more n digits long front rest =
        let regrouped = append_assoc digits ((48 + n % 10) ∷ []) rest in
        ap sign_at regrouped ∙ front ((48 + n % 10) ∷ rest)
        ∙ ap (λ (bytes : List ℕ). (false, bytes)) (sym regrouped)

sign_again : (negative : Bool) (n : ℕ) (rest : List ℕ) → n < 2 ^ 64
    → sign_at (sign_text negative ++ (decimal n ++ rest)) ≡ (negative, decimal n ++ rest)
sign_again true n rest fits = refl
sign_again false n rest fits = unsigned n fits rest

time_again_of : (negative : Bool) (s n : ℕ) (rest : List ℕ) → s < 2 ^ 64 → n < 10 ^ 9
    → time_at (sign_text negative ++ (decimal s ++ (dot ∷ (in_digits 10 9 n ++ rest))))
    ≡ Some (record { is_negative = negative; seconds = s; nanoseconds = n }, rest)
unfolding time_at behind decimal_from
time_again_of negative s n rest fits small =
    let tail = dot ∷ (in_digits 10 9 n ++ rest) in
    rw (
      sign_again negative s tail fits,
      decimal_behind s fits tail,
      digits_again 10 9 n rest (omega
          arith) small,
    ) refl

pub time_again : (t : Time) (rest : List ℕ) → is_time t ≡ true → time_at (time_text t ++ rest) ≡ Some (
  t,
  rest,
)
unfolding is_time time_text
time_again t rest is =
    let first = and_parts (ltb t.seconds (2 ^ 64)) _ is in
    let second = and_parts (ltb t.nanoseconds 1000000000) _ first.1 in
    let fits = ltb-true t.seconds (2 ^ 64) first.0 in
    let small = ltb-true t.nanoseconds 1000000000 second.0 in
    ap time_at (regrouped (sign_text t.is_negative) (decimal t.seconds) (in_digits 10 9 t.nanoseconds))
    ∙ time_again_of t.is_negative t.seconds t.nanoseconds rest fits small
  where
    regrouped : (a b c : List ℕ) → (a ++ (b ++ (dot ∷ c))) ++ rest ≡ a ++ (b ++ (dot ∷ (c ++ rest)))
    regrouped a b c = simp append_assoc

pub attributes_again : (a : Attributes) (rest : List ℕ) → are_attributes a ≡ true
    → attributes_at (attributes_text a ++ rest) ≡ Some (a, rest)
unfolding are_attributes attributes_text attributes_at behind
attributes_again a rest is =
    let first = and_parts (ltb a.mode 4096) _ is in
    let second = and_parts (ltb a.owner (2 ^ 32)) _ first.1 in
    let third = and_parts (ltb a.group (2 ^ 32)) (is_time a.time) second.1 in
    let mode : a.mode < 8 ^ 4 = omega (arith, ltb-true a.mode 4096 first.0) in
    let at_time = codes " time=" ++ (time_text a.time ++ rest) in
    let at_group = codes " gid=" ++ (decimal a.group ++ at_time) in
    let at_owner = codes " uid=" ++ (decimal a.owner ++ at_group) in
    ap attributes_at (regrouped (in_digits 8 4 a.mode) (decimal a.owner) (decimal a.group) (time_text a.time))
    ∙ rw (
      digits_again 8 4 a.mode at_owner (omega arith) mode,
      owner_again a.owner _ second.0,
      owner_again
          a.group _ third.0,
      time_again a.time rest third.1,
    ) refl
  where
    regrouped : (m o g t : List ℕ)
        → (codes " mode=" ++ (m ++ (codes " uid=" ++ (o ++ (codes " gid=" ++ (g ++ (codes " time=" ++
        t))))))) ++ rest
        ≡ codes " mode=" ++ (m ++ (codes " uid=" ++ (o ++ (codes " gid=" ++ (g ++ (codes " time=" ++ (t ++
        rest)))))))
    regrouped m o g t = simp append_assoc

-- ---- lines

file_again : (a : Attributes) (rest : List ℕ) → are_attributes a ≡ true
    → kind_at (codes " type=file" ++ (attributes_text a ++ rest)) ≡ Some ((File, a), rest)
unfolding kind_at file_at behind
file_again a rest is = rw (attributes_again a rest is) refl

link_again : (target : List ℕ) (a : Attributes) (rest : List ℕ) → is_text target ≡ true
    → are_attributes a ≡ true
    → kind_at (codes " type=link" ++ (attributes_text a ++ (codes " link=" ++ (escaped target ++ line_feed
    ∷ rest))))
    ≡ Some ((Link target, a), line_feed ∷ rest)
unfolding kind_at link_at behind is_text
link_again target a rest leads is =
    let parts = and_parts _ _ leads in
    let bytes = and_parts _ (are_bytes target) parts.1 in
    rw (
      attributes_again a (codes " link=" ++ (escaped target ++ line_feed ∷ rest)) is,
      name_again target line_feed rest bytes.1 (feed_ends rest),
    ) refl

abbrev told : List ℕ → LineKind → Attributes → Line
told name kind a = record { name = name; kind = kind; attributes = a }

line_again_of : (name : List ℕ) (kind : LineKind) (a : Attributes) (rest : List ℕ) → is_line (told name
    kind a) ≡ true
    → line_at (line_text (told name kind a) ++ rest) ≡ Some (told name kind a, rest)
unfolding line_at line_text is_line behind
line_again_of name File a rest is =
    let parts = and_parts (is_text name) (are_attributes a) is in
    ap line_at (regrouped (escaped name) (attributes_text a))
    ∙ rw (
      name_again name 32 _ (text_bytes name parts.0) (blank_ends _),
      file_again a (line_feed ∷ rest)
          parts.1,
    ) refl
  where
    regrouped : (n t : List ℕ)
        → (codes "./" ++ (n ++ ((codes " type=file" ++ t) ++ line_feed ∷ []))) ++ rest
        ≡ codes "./" ++ (n ++ (codes " type=file" ++ (t ++ line_feed ∷ rest)))
    regrouped n t = simp append_assoc
line_again_of name (Link target) a rest is =
    let first = and_parts (is_text target) _ is in
    let parts = and_parts (is_text name) (are_attributes a) first.1 in
    ap line_at (regrouped (escaped name) (attributes_text a) (escaped target))
    ∙ rw (
      name_again name 32 _ (text_bytes name parts.0) (blank_ends _),
      link_again target a rest first.0
          parts.1,
    ) refl
  where
    regrouped : (n t k : List ℕ)
        → (codes "./" ++ (n ++ ((codes " type=link" ++ (t ++ (codes " link=" ++ k))) ++ line_feed ∷ [])))
        ++ rest
        ≡ codes "./" ++ (n ++ (codes " type=link" ++ (t ++ (codes " link=" ++ (k ++ line_feed ∷ rest)))))
    regrouped n t k = simp append_assoc

next_line_again : (line : Line) (rest : List ℕ) → is_line line ≡ true
    → next_line_at (line_text line ++ rest) ≡ Some (Some (line, rest))
unfolding next_line_at line_text
next_line_again line rest is =
    ap (λ (o : Option (Line × List ℕ)). o >>= λ l. Some (Some l)) (line_again_of line.name line.kind
    line.attributes rest is)

line_some : (line : Line) → 0 < length (line_text line)
unfolding line_text
line_some line = omega arith

-- ---- all of it

lines_again : (lines : List Line) (limit : ℕ) → list_all is_line lines ≡ true → length lines < limit
    → lines_at limit (flat_map line_text lines) ≡ Some lines
unfolding next_line_at
lines_again lines limit all less =
    ap (lines_at limit) (sym (append-nil (flat_map line_text lines)))
    ∙ rw (many_again next_line_at line_text is_line next_line_again lines [] limit all refl less) refl

pub all_again : (m : Manifest) → is_manifest m ≡ true → all_at (printed m) ≡ Some m
unfolding all_at printed behind is_manifest are_lines
all_again m is =
    let first = and_parts (are_attributes m.own) _ is in
    let lines = and_parts (list_all is_line m.lines) (ascend m.lines) first.1 in
    let texts = flat_map line_text m.lines in
    let long : length m.lines < length (printed m) =
    omega (
      arith,
      length-append (attributes_text m.own) (line_feed ∷ texts),
      items_long line_text
          line_some m.lines,
    ) in
    rw (
      attributes_again m.own (line_feed ∷ texts) first.0,
      lines_again m.lines (length (printed m))
          lines.0 long,
    ) refl

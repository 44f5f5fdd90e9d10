-- What below a folder of the host is passed over.
use Rattle.std.specs.Prelude.{◌≡◌, ◌<◌, ◌≤◌, ℕ, Bool, false, ◌&&◌, ◌||◌, ◌==◌, not, if◌then◌else◌, List, [], ◌∷◌, length, take, drop, codes, IsCharBoundary}
use Rattle.std.specs.Str.{all_ascii_digits, bytes_eq}
use Rattle.nl_types.specs.Plain.Characters.{dot}
use Rattle.nl_host.specs.declared.identity.Identity.{Identity}
use Rattle.nl_host.specs.declared.patterns.Pattern.{Pattern}
use Rattle.nl_host.specs.Identities.{is_same}
use Rattle.nl_host.specs.Patterns.{has_form, is_nothing}

-- ---- what a person left out

-- whether a pattern means what stands at a path, under a name
abbrev pub means : Pattern → (path name : List ℕ) → Bool
means p path name = has_form p.text.now (if p.is_path then path else name)

-- whether one of them does
abbrev pub mean : List Pattern → (path name : List ℕ) → Bool
mean [] path name = false
mean (p ∷ patterns) path name = means p path name || mean patterns path name

-- ---- names of side files

-- the last place within 240 bytes of a name that divides no character, or its end
pub record IsCut (name : List ℕ) (cut : ℕ) : Type 0 where
  pub within : cut ≤ 240
  pub boundary : IsCharBoundary name cut
  pub last : (i : ℕ) → cut < i → i ≤ 240 → IsCharBoundary name i → ⊥

-- whether the text is a word and a number
abbrev pub is_numbered : (word text : List ℕ) → Bool
is_numbered word text =
    bytes_eq (take (length word) text) word
    && not (is_nothing (drop (length word) text)) && all_ascii_digits (drop (length word) text)

-- whether the text is `.nlvol-save-` or `.nlvol-kept-` and a number
abbrev pub is_end : List ℕ → Bool
is_end text = is_numbered (codes ".nlvol-save-") text || is_numbered (codes ".nlvol-kept-") text

-- whether the text is a byte and then the rest
abbrev pub is_behind : ℕ → (List ℕ → Bool) → List ℕ → Bool
is_behind c rest [] = false
is_behind c rest (d ∷ text) = c == d && rest text

-- whether the text is the whole beginning and then such an end
abbrev pub is_begun : (begin text : List ℕ) → Bool
is_begun [] text = is_end text
is_begun (c ∷ begin) text = is_behind c (is_begun begin) text

-- whether the text is a dot, the beginning and such an end
abbrev pub is_side : (begin text : List ℕ) → Bool
is_side begin text = is_behind dot (is_begun begin) text

-- whether the text is the name of a side file of a file of this name, which is cut there
pub record IsSideOf (name text : List ℕ) (result : Bool) : Type 0 where
  pub cut : ℕ
  pub is_cut : IsCut name cut
  pub judged : result ≡ is_side (take cut name) text

-- ---- files

-- whether a file is one of these, by its device and its inode
abbrev pub is_among : List Identity → Identity → Bool
is_among [] one = false
is_among (other ∷ all) one = is_same other one || is_among all one

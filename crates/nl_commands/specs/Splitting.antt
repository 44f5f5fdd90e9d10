-- How a line is parted into words.
use Rattle.std.specs.Prelude.{◌≡◌, ◌≢◌, ◌⊎◌, ℕ, true, false, List, [], ◌∷◌, ◌++◌, drop, slice_index}
use Rattle.std.specs.List.{All}
use Rattle.nl_types.specs.Plain.Characters.{is_blank, quotation_mark}

-- the text begins with a quotation mark and has no other
pub record IsOpen (text : List ℕ) : Type 0 where
  pub begins : slice_index text 0 ≡ quotation_mark
  pub inside : All (λ byte. byte ≢ quotation_mark) (drop 1 text)

-- the word stands between the quotation mark that begins the text and the next one, and the rest behind that
pub record IsQuotedWord (text word rest : List ℕ) : Type 0 where
  pub parts : text ≡ quotation_mark ∷ word ++ quotation_mark ∷ rest
  pub inside : All (λ byte. byte ≢ quotation_mark) word

-- the word ends at the first blank, behind which the rest stands, or with the text
pub record IsPlainWord (text word rest : List ℕ) : Type 0 where
  pub parts : ((text ≡ word) × (rest ≡ []))
      ⊎ ((blank : ℕ) × (is_blank blank ≡ true) × (text ≡ word ++ blank ∷ rest))
  pub inside : All (λ byte. is_blank byte ≡ false) word

-- the first word of a text that begins with one, and what follows it
abbrev pub IsFirstWord : List ℕ → List ℕ → List ℕ → Type 0
IsFirstWord text word rest =
    IsQuotedWord text word rest ⊎ ((slice_index text 0 ≢ quotation_mark) × IsPlainWord text word rest)

-- the rest stands behind the blanks that begin the text
pub record IsTrimmed (text rest : List ℕ) : Type 0 where
  pub blanks : List ℕ
  pub parts : text ≡ blanks ++ rest
  pub inside : All (λ byte. is_blank byte ≡ true) blanks
  pub ends : is_blank (slice_index rest 0) ≡ false

-- the words stand one after another at the head of the text, and the rest behind them
abbrev pub BeginsWith : List ℕ → List (List ℕ) → List ℕ → Type 0
BeginsWith text [] rest = rest ≡ text
BeginsWith text (word ∷ words) rest =
    (start : List ℕ) × (behind : List ℕ) × IsTrimmed text start × (start ≢ [])
    × IsFirstWord start word behind × BeginsWith behind words rest

-- they are all its words
abbrev pub AreWords : List ℕ → List (List ℕ) → Type 0
AreWords text words = (rest : List ℕ) × BeginsWith text words rest × IsTrimmed rest []

-- behind some of its words, the text has one that a quotation mark begins and none ends
abbrev pub HasOpenWord : List ℕ → Type 0
HasOpenWord text =
    (words : List (List ℕ)) × (rest : List ℕ) × (start : List ℕ)
    × BeginsWith text words rest × IsTrimmed rest start × IsOpen start

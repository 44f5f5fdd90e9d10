-- A line has one list of words.
use Rattle.std.specs.Prelude.{◌≡◌, ℕ, List}
use Rattle.nl_commands.specs.Splitting.{AreWords, HasOpenWord}

abbrev pub WordsAreOneList : Type 0
WordsAreOneList =
    (text : List ℕ) (words others : List (List ℕ)) → AreWords text words → AreWords text others
    → words ≡ others

-- a text with an open word is not made of words
abbrev pub OpenTextsHaveNoWords : Type 0
OpenTextsHaveNoWords =
    (text : List ℕ) (words : List (List ℕ)) → AreWords text words → ¬ (HasOpenWord text)

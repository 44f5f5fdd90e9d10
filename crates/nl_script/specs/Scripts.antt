-- What a whole script does.
use Rattle.std.specs.Prelude.{◌≡◌, ◌+◌, ◌-◌, ◌^◌, ◌<◌, min, ℕ, Bool, true, false, List, [], ◌∷◌, ◌++◌, length, Option, None, Some, IfSome}
use Rattle.std.specs.Io.BufRead.{first_piece, drop_through}
use Rattle.std.specs.Io.KnownBytes.{Appends}
use Rattle.std.specs.List.{list_any, flat_map}
use Rattle.nl_types.specs.Plain.Characters.{line_feed}
use Rattle.nl_script.specs.Texts.{Text}
use Rattle.nl_script.specs.declared.texts.streams.StandardStream.{StandardStream}
use Rattle.nl_script.specs.declared.texts.streams.StandardStream.TheVariants.{Input, Output}
use Rattle.nl_protect.specs.declared.config.Config.{Config}
use Rattle.nl_script.specs.Habits.{Habits}
use Rattle.nl_script.specs.Lines.{IsLineAnswered, LineEnd}
use Rattle.nl_script.specs.declared.texts.ends.Done.{Done}
use Rattle.nl_script.specs.declared.status.Status.{Status}
use Rattle.nl_script.specs.declared.status.Status.TheVariants.{Refused, Misread}

-- the number of the line that comes behind so many: there is none above the greatest of 64 bits
abbrev pub number_behind : (count : ℕ) → ℕ
number_behind count = min (count + 1) (2 ^ 64 - 1)

-- the lines are done one after another, behind so many others; each may be refused for memory instead
abbrev pub AreLinesDone : {S J : Type 0} → Habits S J → Config → (count moment : ℕ) → List (List ℕ) → S → S
    → List LineEnd → Type 0
AreLinesDone habits config count moment [] old new [] = new ≡ old
AreLinesDone {S = S} habits config count moment (line ∷ lines) old new (end ∷ ends) =
    (mid : S) × IsLineAnswered habits config (number_behind count) moment line old mid end
    × AreLinesDone habits config (count + 1) end.moment lines mid new ends
AreLinesDone habits config count moment [] old new (end ∷ ends) = ⊥
AreLinesDone habits config count moment (line ∷ lines) old new [] = ⊥

abbrev pub is_misread_status : Status → Bool
is_misread_status Misread = true
is_misread_status _ = false

abbrev pub is_refused_status : Status → Bool
is_refused_status Refused = true
is_refused_status _ = false

abbrev pub ends_misread : LineEnd → Bool
ends_misread end = is_misread_status end.status

abbrev pub ends_refused : LineEnd → Bool
ends_refused end = is_refused_status end.status

abbrev pub text_of_line : LineEnd → Text
text_of_line end = end.text

-- the moment that stands behind the lines
abbrev pub last_moment : (moment : ℕ) → List LineEnd → ℕ
last_moment moment [] = moment
last_moment moment (end ∷ ends) = last_moment end.moment ends

-- the bytes begin with these lines, each up to a line feed or the end of the bytes, and this is left
abbrev pub BeginsWithLines : List ℕ → List (List ℕ) → List ℕ → Type 0
BeginsWithLines bytes [] rest = bytes ≡ rest
BeginsWithLines bytes (line ∷ lines) rest =
    (0 < length bytes) × (line ≡ first_piece line_feed bytes)
    × BeginsWithLines (drop_through line_feed bytes) lines rest

-- where the bytes of the input are known
abbrev pub BeginsSo : Option (List ℕ) → List (List ℕ) → Option (List ℕ) → Type 0
BeginsSo input lines left =
    IfSome input (λ bytes. (rest : List ℕ) × (left ≡ Some rest) × BeginsWithLines bytes lines rest)

-- ---- what is written

abbrev pub texts_of : List LineEnd → Text
texts_of ends = flat_map text_of_line ends

-- the writer fails at the last line: it got the texts of those before
pub record FailsAtLast {O : Type 0} (contents : O → Option Text) (before : O)
    (ends : List LineEnd) : Type 0 where
  pub written : List LineEnd
  pub last : LineEnd
  pub ends_are : ends ≡ written ++ last ∷ []
  pub mid : O
  pub got : Appends (contents before) (contents mid) (texts_of written)

-- all texts of the lines are written, unless the writer fails
abbrev pub AreWritten : {O : Type 0} → Option StandardStream → (O → Option Text) → (before after : O)
    → List LineEnd → Type 0
AreWritten (Some Output) contents before after ends = FailsAtLast contents before ends
AreWritten (Some Input) contents before after ends =
    Appends (contents before) (contents after) (texts_of ends)
AreWritten None contents before after ends = Appends (contents before) (contents after) (texts_of ends)

-- ---- the whole

-- the lines of a script so far, of which none failed
pub record IsRunSoFar {S J : Type 0} (habits : Habits S J) (config : Config) (moment : ℕ) (old now : S)
    (done : Done)
    (number : ℕ) (input left before after : Option Text) : Type 0 where
  pub lines : List (List ℕ)
  pub ends : List LineEnd
  pub are_done : AreLinesDone habits config 0 moment lines old now ends
  pub number_is : number ≡ length lines + 1
  pub moment_is : done.moment ≡ last_moment moment ends
  pub misread_is : done.misread ≡ list_any ends_misread ends
  pub refused_is : done.refused ≡ list_any ends_refused ends
  pub written : Appends before after (texts_of ends)
  pub read : BeginsSo input lines left

-- What came of a script. Each flag is given by one of the lines. Unless a stream failed, they are all lines
-- of the input. All of their texts are written, but that of the last where the writer failed; so no line
-- behind it is done.
pub record IsScriptDone {S J O : Type 0} (habits : Habits S J) (config : Config) (moment : ℕ) (old new : S)
    (done : Done)
    (input : Option Text) (contents : O → Option Text) (before after : O) : Type 0 where
  pub lines : List (List ℕ)
  pub ends : List LineEnd
  pub are_done : AreLinesDone habits config 0 moment lines old new ends
  pub moment_is : done.moment ≡ last_moment moment ends
  pub misread_is : done.misread ≡ list_any ends_misread ends
  pub refused_is : done.refused ≡ list_any ends_refused ends
  pub written : AreWritten done.failed contents before after ends
  pub read : IfSome input
      (λ bytes. (rest : List ℕ) × BeginsWithLines bytes lines rest × (done.failed ≡ None → rest ≡ []))

-- One line more of a script.
use Rattle.std.proofs.Common.{◌≡◌, ◌∙◌, ◌+◌, ◌<◌, ◌++◌, ap, sym, refl, subst, List, ◌∷◌, [], ℕ, length, arith}
use Rattle.std.specs.Io.BufRead.{first_piece, drop_through}
use Rattle.nl_protect.specs.declared.config.Config.{Config}
use Rattle.nl_script.specs.Habits.{Habits}
use Rattle.nl_script.specs.Lines.{IsLineAnswered, LineEnd}
use Rattle.nl_script.specs.Scripts.{AreLinesDone, BeginsWithLines, last_moment, number_behind}

pub AreLinesDone-more : {S J : Type 0} (habits : Habits S J) (config : Config) (count n moment : ℕ)
    (old mid new : S) (lines : List (List ℕ)) (ends : List LineEnd)
    (line : List ℕ) (end : LineEnd) → count + length lines ≡ n
    → AreLinesDone habits config count moment lines old mid ends
    → IsLineAnswered habits config (number_behind n) (last_moment moment ends) line mid new end
    → AreLinesDone habits config count moment (lines ++ line ∷ []) old new (ends ++ end ∷ [])
AreLinesDone-more {S = S} habits config count n moment old mid new [] [] line end counted done one =
    let here : n ≡ count = grind (arith, counted) in (
      new,
      subst (λ (s : S). IsLineAnswered habits config (number_behind count) moment line s new end) done
          (subst
          (λ (k : ℕ). IsLineAnswered habits config (number_behind k) moment line mid new end) here one),
      refl,
    )
AreLinesDone-more habits config count n moment old mid new (x ∷ lines) (e ∷ ends) line end counted done one =
    let behind : (count + 1) + length lines ≡ n = grind (arith, counted) in (
      done.0,
      done.1,
      AreLinesDone-more habits config
          (count + 1) n e.moment done.0 mid new lines ends line end behind done.2 one,
    )
AreLinesDone-more habits config count n moment old mid new [] (e ∷ ends) line end counted done one =
    absurd done
AreLinesDone-more habits config count n moment old mid new (x ∷ lines) [] line end counted done one =
    absurd done

pub last_moment-more : (moment : ℕ) (ends : List LineEnd) (end : LineEnd)
    → last_moment moment (ends ++ end ∷ []) ≡ end.moment
last_moment-more moment [] end = refl
last_moment-more moment (e ∷ ends) end = last_moment-more e.moment ends end

pub BeginsWithLines-more : (bytes : List ℕ) (lines : List (List ℕ)) (rest line : List ℕ)
    → BeginsWithLines bytes lines rest
    → 0 < length rest → line ≡ first_piece 10 rest
    → BeginsWithLines bytes (lines ++ line ∷ []) (drop_through 10 rest)
BeginsWithLines-more bytes [] rest line begins some is = (
  subst (λ (xs : List ℕ). 0 < length xs) (sym begins) some,
  is ∙ ap (first_piece 10) (sym begins),
  ap (drop_through 10) begins,
)
BeginsWithLines-more bytes (x ∷ lines) rest line begins some is =
    (begins.0, begins.1, BeginsWithLines-more (drop_through 10 bytes) lines rest line begins.2 some is)

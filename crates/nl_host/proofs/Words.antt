-- Words without the slashes at their ends, and names of side files.
use Rattle.std.proofs.Common.{◌≡◌, ℕ, ◌+◌, ◌<◌, ◌≤◌, Bool, true, false, cond, ◌&&◌, List, [], ◌∷◌, ◌++◌, length, take, get_or, refl, sym, ap, ◌∙◌, arith, eqb-true}
use Rattle.std.specs.Prelude.{◌==◌}
use Rattle.std.proofs.lemmas.List.{take_more}
use Rattle.nl_types.specs.Plain.Characters.{slash}
use Rattle.nl_types.specs.Facts.Booleans.{not_true}
use Rattle.nl_host.specs.Patterns.{is_nothing, without_end}
use Rattle.nl_host.specs.Selections.{is_begun}

-- a text behind which another byte comes is something
something : (text : List ℕ) (c : ℕ) → is_nothing (text ++ c ∷ []) ≡ false
something [] c = refl
something (d ∷ text) c = refl

-- one more byte ends the text, unless it is a slash
pub without_end-push : (text : List ℕ) (c : ℕ)
    → without_end (text ++ c ∷ []) ≡ cond (c == slash) (without_end text) (text ++ c ∷ [])
without_end-push [] c = elim (c == slash) as (λ b. cond (b && true) [] (c ∷ []) ≡ cond b [] (c ∷ [])) [
  | true ↦ refl
  | false ↦ refl
]
without_end-push (d ∷ text) c =
    let whole : List ℕ → List ℕ = λ (rest : List ℕ). cond (d == slash && is_nothing rest) [] (d ∷ rest) in
    ap whole (without_end-push text c)
    ∙ (elim (c == slash) as (λ b.
    whole (cond b (without_end text) (text ++ c ∷ []))
    ≡ cond b (without_end (d ∷ text)) (d ∷ (text ++ c ∷ []))) [
      | true ↦ refl
      | false ↦
          ap (λ b. cond (d == slash && b) [] (d ∷ (text ++ c ∷ []))) (something text c)
          ∙ (elim (d == slash) as (λ b.
          cond (b && false) [] (d ∷ (text ++ c ∷ [])) ≡ d ∷ (text ++ c ∷ [])) [ true ↦ refl | false ↦ refl ])
    ])

-- the end of what stands so far, with one more byte
pub record Ends (text : List ℕ) (i end : ℕ) : Type 0 where
  pub within : end ≤ i
  pub kept : take end text ≡ without_end (take i text)

pub end_moves : (text : List ℕ) (i end next : ℕ) → i < length text → Ends text i end
    → next ≡ cond (get_or text i 0 == slash) end (i + 1) → Ends text (i + 1) next
end_moves text i end next lt so_far is =
    by (get_or text i 0 == slash) is
    (ap without_end more ∙ without_end-push (take i text) (get_or text i 0))
  where
    more : take (i + 1) text ≡ take i text ++ get_or text i 0 ∷ []
    more = take_more text i 0 lt

    by : (b : Bool) → next ≡ cond b end (i + 1)
        → without_end (take (i + 1) text)
        ≡ cond b (without_end (take i text)) (take i text ++ get_or text i 0 ∷ [])
        → Ends text (i + 1) next
    by true is whole = let low = so_far.within in record {
      within = omega arith;
      kept = ap (λ (k : ℕ). take k text) is ∙ so_far.kept ∙ sym whole;
    }
    by false is whole = record {
      within = omega arith;
      kept = ap (λ (k : ℕ). take k text) is ∙ more ∙ sym whole;
    }

pub nothing_is : (text : List ℕ) → is_nothing text ≡ (length text == 0)
nothing_is [] = refl
nothing_is (c ∷ text) =
    sym (not_true (length (c ∷ text) == 0) (λ none. omega (arith, eqb-true (length (c ∷ text)) 0 none)))

-- where nothing is, there is no beginning
pub begun-none : (begin text : List ℕ) → 1 ≤ length begin → length text ≡ 0 → is_begun begin text ≡ false
begun-none [] text some none = absurd (omega arith)
begun-none (c ∷ begin) [] some none = refl
begun-none (c ∷ begin) (d ∷ text) some none = absurd (omega arith)

pub ruleset ends = begun-none

-- What is kept once some checkpoints are gone, or one has another mode.
use Rattle.std.proofs.Common.{◌≡◌, ℕ, Bool, true, false, cond, not, List, [], ◌∷◌, ◌++◌, Option, Some, None, refl, ap, sym, ◌∙◌, inl, inr}
use Rattle.std.specs.Prelude.{map, ◌==◌}
use Rattle.std.specs.List.{filter}
use Rattle.std.specs.Option.{option_map}
use Rattle.std.specs.Ordering.{nat_cmp, eq_by_cmp}
use Rattle.std.proofs.lemmas.Bool.{cases_Bool, ne_eqb}
use Rattle.std.proofs.lemmas.List.Elements.{filter-append}
use Rattle.nl_types.specs.declared.event.Mode.{Mode}
use Rattle.nl_types.specs.Plain.NumberLists.{is_one_of}
use Rattle.nl_cpfile.specs.declared.checkpoint.Checkpoint.{Checkpoint}
use Rattle.nl_cpfile.specs.Tables.{Table, all, is_kept_without, kept_at, moded, with_mode, without}
use Rattle.nl_cpfile.specs.Facts.Found.{eq_by_cmp-nat_cmp, found}
use Rattle.nl_cpfile.specs.Facts.Rising.{map-push}

-- ---- some are gone

-- what is left of a list
abbrev pub left : List ℕ → List Checkpoint → List Checkpoint
left gone kept = filter (is_kept_without gone) kept

-- nothing where the test holds
abbrev pub unless : {A : Type 0} → Bool → Option A → Option A
unless b o = cond b None o

-- a number that stays is found as before
found-left : (gone : List ℕ) (n : ℕ) (kept : List Checkpoint) → is_one_of gone n ≡ false
    → found n (left gone kept) ≡ found n kept
found-left gone n [] stays = refl
found-left gone n (c ∷ kept) stays =
    let rest = found-left gone n kept stays in
    elim (cases_Bool (is_one_of gone c.number)) [
      | inl goes ↦
          let apart : eq_by_cmp nat_cmp n c.number ≡ false =
          eq_by_cmp-nat_cmp n c.number ∙ ne_eqb c.number n (λ same.
          let no : true ≡ false = sym goes ∙ (ap (is_one_of gone) same ∙ stays) in cc) in
          ap (λ b. found n (cond (not b) (c ∷ left gone kept) (left gone kept))) goes
          ∙ (rest ∙ sym (ap (λ b. cond b (Some c) (found n kept)) apart))
      | inr here ↦
          ap (λ b. found n (cond (not b) (c ∷ left gone kept) (left gone kept))) here
          ∙ ap (λ (o : Option Checkpoint). cond (eq_by_cmp nat_cmp n c.number) (Some c) o) rest
    ]

-- a number that goes is not found
found-gone : (gone : List ℕ) (n : ℕ) (kept : List Checkpoint) → is_one_of gone n ≡ true
    → found n (left gone kept) ≡ None
found-gone gone n [] goes = refl
found-gone gone n (c ∷ kept) goes =
    let rest = found-gone gone n kept goes in
    elim (cases_Bool (is_one_of gone c.number)) [
      | inl here ↦ ap (λ b. found n (cond (not b) (c ∷ left gone kept) (left gone kept))) here ∙ rest
      | inr stays ↦
          let apart : eq_by_cmp nat_cmp n c.number ≡ false =
          eq_by_cmp-nat_cmp n c.number ∙ ne_eqb c.number n (λ same.
          let no : true ≡ false = sym goes ∙ (sym (ap (is_one_of gone) same) ∙ stays) in cc) in
          ap (λ b. found n (cond (not b) (c ∷ left gone kept) (left gone kept))) stays
          ∙ (ap (λ b. cond b (Some c) (found n (left gone kept))) apart ∙ rest)
    ]

module _ (gone : List ℕ) (t : Table) (stays : is_one_of gone t.latest.number ≡ false) where
  -- the latest checkpoint stays
  pub all-without : all (without gone t) ≡ left gone (all t)
  all-without = sym (filter-append (is_kept_without gone) t.earlier (t.latest ∷ [])
      ∙ ap (λ b. left gone t.earlier ++ cond (not b) (t.latest ∷ []) []) stays)

  found-of_left : (n : ℕ) → found n (left gone (all t)) ≡ unless (is_one_of gone n) (kept_at n t)
  found-of_left n = elim (cases_Bool (is_one_of gone n)) [
    | inl goes ↦ found-gone gone n (all t) goes ∙ sym (ap (λ b. unless b (kept_at n t)) goes)
    | inr here ↦ found-left gone n (all t) here ∙ sym (ap (λ b. unless b (kept_at n t)) here)
  ]

  -- what is found of those that are left
  pub kept-without : (n : ℕ) → kept_at n (without gone t) ≡ unless (is_one_of gone n) (kept_at n t)
  kept-without n = ap (found n) all-without ∙ found-of_left n

-- ---- one has another mode

-- what a mode plays no part in stays
pub moded-same : {A : Type 0} (f : Checkpoint → A) (n : ℕ) (mode : Mode) (c : Checkpoint)
    → f (record c { mode = mode }) ≡ f c → f (moded n mode c) ≡ f c
moded-same f n mode c same =
    elim (c.number == n) as (λ b. f (let d : Checkpoint = cond b (record c { mode = mode }) c in d) ≡ f c) [
      | true ↦ same
      | false ↦ refl
    ]

found-moded : (n : ℕ) (mode : Mode) (m : ℕ) (kept : List Checkpoint)
    → found m (map (moded n mode) kept) ≡ option_map (moded n mode) (found m kept)
found-moded n mode m [] = refl
found-moded n mode m (c ∷ kept) =
    let rest = found m (map (moded n mode) kept) in
    ap (λ k. cond (eq_by_cmp nat_cmp m k) (Some (moded n mode c)) rest)
    (moded-same (λ d. d.number) n mode c refl)
    ∙ elim (eq_by_cmp nat_cmp m c.number) as (λ b. cond b (Some (moded n mode c)) rest
    ≡ option_map (moded n mode) (cond b (Some c) (found m kept))) [
      | true ↦ refl
      | false ↦ found-moded n mode m kept
    ]

module _ (n : ℕ) (mode : Mode) (t : Table) where
  pub all-with_mode : all (with_mode n mode t) ≡ map (moded n mode) (all t)
  all-with_mode = sym (map-push (moded n mode) t.earlier t.latest)

  -- what is found has the mode
  pub kept-with_mode : (m : ℕ) → kept_at m (with_mode n mode t) ≡ option_map (moded n mode) (kept_at m t)
  kept-with_mode m = ap (found m) all-with_mode ∙ found-moded n mode m (all t)

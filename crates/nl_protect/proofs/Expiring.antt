-- The first checkpoint that an expiry takes.
use Rattle.std.proofs.Common.{◌≡◌, ℕ, Bool, true, false, not, cond, eqb, List, [], ◌∷◌, ◌++◌, map, None, Some, refl, ap, ◌∙◌, arith}
use Rattle.std.specs.Prelude.{slice_get}
use Rattle.std.specs.List.{filter, find}
use Rattle.std.specs.Option.{is_none, option_map}
use Rattle.std.proofs.lemmas.Bool.{eq-eqb, ne_eqb}
use Rattle.nl_types.specs.declared.error.VolError.TheVariants as error
use Rattle.nl_types.specs.declared.row.Row.{Row}
use Rattle.nl_types.specs.Plain.Protection.{expired, is_below}
use Rattle.nl_types.specs.Plain.Rows.{is_snapshot, may_go, number_of}
use Rattle.nl_cpfile.specs.declared.checkpoint.Checkpoint.{Checkpoint}
use Rattle.nl_cpfile.specs.Tables.{IsRising, Precedes, checkpoint_row, rows_of}
use Rattle.nl_protect.specs.Keeping.{first_plain, is_before, is_plain}
use Rattle.nl_protect.proofs.Kept.{all-last}

-- a checkpoint that isn't the latest one may go where it is plain
plain-goes : (latest : ℕ) (c : Checkpoint) → eqb c.number latest ≡ false
    → may_go latest (checkpoint_row c) ≡ is_plain c
plain-goes latest c other = by (is_snapshot c.mode)
  where
    by : (s : Bool)
        → is_none (cond s (Some error.IsSnapshot) (cond (eqb c.number latest) (Some error.Latest) None))
        ≡ not s
    by true = refl
    by false = ap (λ t. is_none (cond t (Some error.Latest) None)) other

latest-stays : (c : Checkpoint) → may_go c.number (checkpoint_row c) ≡ false
latest-stays c = by (is_snapshot c.mode)
  where
    by : (s : Bool)
        → is_none (cond s (Some error.IsSnapshot) (cond (eqb c.number c.number) (Some error.Latest) None))
        ≡ false
    by true = refl
    by false = ap (λ t. is_none (cond t (Some error.Latest) None)) (eq-eqb c.number c.number refl)

module _ (boundary : ℕ) (y : Checkpoint) where
  abbrev expiring : List Checkpoint → List Row
  expiring xs = filter (is_below boundary) (rows_of (xs ++ y ∷ []))

  -- those that expire begin with the first plain one of those before the boundary
  abbrev BeginsPlain : List Checkpoint → Type 0
  BeginsPlain xs =
      slice_get (expired boundary y.number (rows_of (xs ++ y ∷ []))) 0
      ≡ first_plain (filter (is_before boundary) xs)

  none-expires : BeginsPlain []
  none-expires =
      elim (is_below boundary (checkpoint_row y)) as (λ t.
      slice_get (map number_of (filter (may_go y.number) (cond t (checkpoint_row y ∷ []) []))) 0 ≡ None) [
        | true ↦ ap (λ t. slice_get (map number_of (cond t (checkpoint_row y ∷ []) [])) 0) (latest-stays y)
        | false ↦ refl
      ]

  one-more : (x : Checkpoint) (xs : List Checkpoint) → eqb x.number y.number ≡ false → BeginsPlain xs
      → BeginsPlain (x ∷ xs)
  one-more x xs other rest =
      elim (is_before boundary x) as (λ t.
      slice_get
      (map number_of (filter (may_go y.number) (cond t (checkpoint_row x ∷ expiring xs) (expiring xs)))) 0
      ≡ first_plain (cond t (x ∷ before) before)) [
        | true ↦
            ap (λ t. slice_get (map number_of (cond t (checkpoint_row x ∷ going) going)) 0)
            (plain-goes y.number x other)
            ∙ elim (is_plain x) as (λ t.
            slice_get (map number_of (cond t (checkpoint_row x ∷ going) going)) 0
            ≡ option_map (λ (c : Checkpoint). c.number) (cond t (Some x) (find is_plain before))) [
              | true ↦ refl
              | false ↦ rest
            ]
        | false ↦ rest
      ]
    where
      going : List Row
      going = filter (may_go y.number) (expiring xs)

      before : List Checkpoint
      before = filter (is_before boundary) xs

  pub expired-first : (xs : List Checkpoint) → IsRising (xs ++ y ∷ []) → BeginsPlain xs
  expired-first [] rising = none-expires
  expired-first (x ∷ xs) rising =
      let up = (all-last (Precedes x) xs y rising.0).number in
      one-more x xs (ne_eqb x.number y.number (λ same. absurd (omega (arith, up, same))))
      (expired-first xs rising.1)

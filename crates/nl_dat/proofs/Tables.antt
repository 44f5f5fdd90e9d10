-- A table as a function on numbers.
use Rattle.std.proofs.Common.{◌≡◌, ℕ, suc, ◌<◌, ◌+◌, eqb, List, ◌∷◌, Some, None, Option, inl, inr, sym, ap, subst, ◌∙◌, length, set, get_or, drop, add-one, drop-cons, get_or-set_same, get_or-set_other}
use Rattle.std.specs.List.{All}
use Rattle.std.proofs.lemmas.List.{get_or_default}
use Rattle.std.proofs.lemmas.Bool.{cases_Bool, eqb-true, eqb-false}
use Rattle.nl_types.specs.Blocks.PartialMaps.{Partial, put, put_each, adjust, adjust_all, adjust_each}
use Rattle.nl_types.specs.Facts.PartialMaps.{same_at_all, adjust-some, adjust-none}
use Rattle.nl_dat.specs.declared.entries.DatEntry.{DatEntry}
use Rattle.nl_dat.specs.Table.{entry_in}

pub entry_in-set : (table : List (Option DatEntry)) (k : ℕ) (s : DatEntry) → k < length table
    → entry_in (set table k (Some s)) ≡ put (entry_in table) k s
entry_in-set table k s within = same_at_all _ _ (λ q. elim (cases_Bool (eqb q k)) [
  | inl e ↦
      rw e (ap (λ j. get_or (set table k (Some s)) j None) (eqb-true q k e)
      ∙ get_or-set_same table k (Some s) None within)
  | inr e ↦ rw e (get_or-set_other table k q (Some s) None (eqb-false q k e))
])

drop_at : {A : Type 0} (xs : List A) (i : ℕ) (x : A) → i < length xs → x ≡ get_or xs i x
    → drop i xs ≡ x ∷ drop (i + 1) xs
drop_at xs i x within is = rw add-one (drop-cons xs i x within ∙ ap (λ y. y ∷ drop (suc i) xs) (sym is))

-- one turn of a loop that puts
pub put_each_step : {A B X : Type 0} (key : A → ℕ) (value : B → X) (xs : List A) (ys : List B) (i : ℕ) (x : A)
    (y : B) (m : Partial X)
    → i < length xs → i < length ys → x ≡ get_or xs i x → y ≡ get_or ys i y →
    put_each key value (drop i xs) (drop i ys) m
    ≡ put_each key value (drop (i + 1) xs) (drop (i + 1) ys) (put m (key x) (value y))
put_each_step key value xs ys i x y m in_xs in_ys is_x is_y =
    ap (λ zs. put_each key value zs (drop i ys) m) (drop_at xs i x in_xs is_x)
    ∙ ap (λ zs. put_each key value (x ∷ drop (i + 1) xs) zs m) (drop_at ys i y in_ys is_y)

-- one turn of a loop that adjusts
pub adjust_all_step : {X : Type 0} (f : X → X) (ks : List ℕ) (i k : ℕ) (m : Partial X) → i < length ks
    → k ≡ get_or ks i k →
    adjust_all f (drop i ks) m ≡ adjust_all f (drop (i + 1) ks) (adjust f m k)
adjust_all_step f ks i k m within is = ap (λ zs. adjust_all f zs m) (drop_at ks i k within is)

pub adjust_each_step : {A X : Type 0} (f : A → X → X) (ks : List ℕ) (ys : List A) (i k : ℕ) (y : A)
    (m : Partial X)
    → i < length ks → i < length ys → k ≡ get_or ks i k → y ≡ get_or ys i y →
    adjust_each f (drop i ks) (drop i ys) m
    ≡ adjust_each f (drop (i + 1) ks) (drop (i + 1) ys) (adjust (f y) m k)
adjust_each_step f ks ys i k y m in_ks in_ys is_k is_y =
    ap (λ zs. adjust_each f zs (drop i ys) m) (drop_at ks i k in_ks is_k)
    ∙ ap (λ zs. adjust_each f (k ∷ drop (i + 1) ks) zs m) (drop_at ys i y in_ys is_y)

-- writing back what stands, adjusted
pub entry_in-adjust : (f : DatEntry → DatEntry) (table : List (Option DatEntry)) (k : ℕ) (s : DatEntry)
    (d : Option DatEntry)
    → k < length table → get_or table k d ≡ Some s
    → entry_in (set table k (Some (f s))) ≡ adjust f (entry_in table) k
entry_in-adjust f table k s d within is =
    entry_in-set table k (f s) within
    ∙ sym (adjust-some f (entry_in table) k s (get_or_default table k None d within ∙ is))

pub entry_in-none : (f : DatEntry → DatEntry) (table : List (Option DatEntry)) (k : ℕ) (d : Option DatEntry)
    → k < length table → get_or table k d ≡ None → entry_in table ≡ adjust f (entry_in table) k
entry_in-none f table k d within is =
    sym (adjust-none f (entry_in table) k (get_or_default table k None d within ∙ is))

-- what holds of each element holds of the one that was read
pub of_read : {A : Type 0} (P : A → Type 0) (xs : List A) (i : ℕ) (x : A) → All P xs → i < length xs
    → x ≡ get_or xs i x → P x
of_read P xs i x all within is = subst P (sym is) (all i x within)

-- What is kept where checkpoints of another volume come.
use Rattle.std.proofs.Common.{◌≡◌, ℕ, Bool, true, false, cond, ◌&&◌, List, [], ◌∷◌, Option, None, Some, refl, sym, ap, ◌∙◌, subst, max, All, eqb-true}
use Rattle.std.specs.Prelude.{◌==◌}
use Rattle.std.specs.Option.{option_map}
use Rattle.std.proofs.lemmas.List.Elements.{All-cons, All-head, All-nil, All-tail, All-weaker}
use Rattle.std.proofs.lemmas.Option.{same_Some}
use Rattle.nl_types.specs.declared.event.Mode.TheVariants.{Plain}
use Rattle.nl_types.specs.Facts.NumberedParts.{find-valued}
use Rattle.nl_types.specs.Plain.Rows.{is_snapshot}
use Rattle.nl_types.specs.Plain.Trees.{Tree}
use Rattle.nl_types.specs.Plain.Worlds.{World, Copy, copy_at, latest_stamp, moded}
use Rattle.nl_keep.specs.Facts.StoredTrees.{stored_is_kept}
use Rattle.nl_keep.specs.Forgotten.{MakesAllPlain, MakesPlain}
use Rattle.nl_keep.specs.Lasting.{StoresKeepCopies}
use Rattle.nl_keep.specs.MinorOnes.{is_plain_minor_copy}
use Rattle.nl_keep.specs.Stored.{snapshot_of}
use Rattle.nl_keep_pen.specs.Brought.{Arrival, Arrive, Arrives, plain_numbers}
use Rattle.nl_keep_pen.specs.Images.{SameBut, StoresPrepared}
use Rattle.nl_keep_pen.specs.Runs.{ArrivalsAreKept, BringingKeepsThrough, IsStillKept}

-- ---- those that are kept

still_but : (n : ℕ) (tree : Tree) (old new : World) → SameBut old new → IsStillKept n tree old → IsStillKept n tree new
still_but n tree old new same here = record {
  copy = here.copy;
  kept = sym (ap (λ (x : World). copy_at x n) same) ∙ here.kept;
  has = here.has;
  own = here.own;
}

still_prepared : StoresKeepCopies → (moment k n : ℕ) (tree stored : Tree) (old new : World)
    → StoresPrepared moment k stored old new → IsStillKept n tree old → IsStillKept n tree new
still_prepared keeps moment k n tree stored old new done here = record {
  copy = here.copy;
  kept =
      keeps moment k n stored here.copy done.ready new done.stores
      (done.tidies.keeps n here.copy here.kept here.own);
  has = here.has;
  own = here.own;
}

still_arrives : StoresKeepCopies → (n : ℕ) (tree : Tree) (one : Arrival) (old new : World) → Arrives one old new
    → IsStillKept n tree old → IsStillKept n tree new
still_arrives keeps n tree one old new done here =
    still_prepared keeps one.stamp one.number n tree one.tree done.before new done.stores
    (still_but n tree old done.before done.same here)

still_arrive : StoresKeepCopies → (n : ℕ) (tree : Tree) (all : List Arrival) (old new : World) → Arrive all old new
    → IsStillKept n tree old → IsStillKept n tree new
still_arrive keeps n tree [] old new same here = subst (λ (x : World). IsStillKept n tree x) (sym same) here
still_arrive keeps n tree (one ∷ all) old new done here =
    still_arrive keeps n tree all done.0 new done.2 (still_arrives keeps n tree one old done.0 done.1 here)

-- checkpoint n is kept, and the volume didn't make it by itself
record IsOwn (n : ℕ) (w : World) : Type 0 where
  copy : Copy
  kept : copy_at w n ≡ Some copy
  own : copy.minor ≡ false

-- each that arrives is such a one
own_behind : StoresKeepCopies → (n : ℕ) (tree : Tree) (stamp : ℕ) (all : List Arrival) (old new : World)
    → copy_at old n ≡ Some (snapshot_of tree stamp) → Arrive all old new → IsOwn n new
own_behind keeps n tree stamp all old new kept done =
    let here : IsStillKept n tree old = record { copy = snapshot_of tree stamp; kept = kept; has = refl; own = refl } in
    by all old new here kept done
  where
    by : (all : List Arrival) (old new : World) (here : IsStillKept n tree old)
        → copy_at old n ≡ Some (snapshot_of tree stamp) → Arrive all old new → IsOwn n new
    by [] old new here kept same = record {
      copy = snapshot_of tree stamp;
      kept = ap (λ (x : World). copy_at x n) same ∙ kept;
      own = refl;
    }
    by (one ∷ all) old new here kept done =
        by all done.0 new (still_arrives keeps n tree one old done.0 done.1 here)
        (keeps one.stamp one.number n one.tree (snapshot_of tree stamp) done.1.stores.ready done.0 done.1.stores.stores
        (done.1.stores.tidies.keeps n (snapshot_of tree stamp)
        (sym (ap (λ (x : World). copy_at x n) done.1.same) ∙ kept) refl))
        done.2

one_own : (number : ℕ) (numbers : List ℕ) (new : World) (b : Bool) → IsOwn number new
    → All (λ (m : ℕ). IsOwn m new) numbers → All (λ (m : ℕ). IsOwn m new) (cond b numbers (number ∷ numbers))
one_own number numbers new true own all = all
one_own number numbers new false own all = All-cons (λ (m : ℕ). IsOwn m new) number numbers own all

own_arrived : StoresKeepCopies → (all : List Arrival) (old new : World) → Arrive all old new
    → All (λ (m : ℕ). IsOwn m new) (plain_numbers all)
own_arrived keeps [] old new same = All-nil (λ (m : ℕ). IsOwn m new)
own_arrived keeps (one ∷ all) old new done =
    let stores = done.1.stores in
    one_own one.number (plain_numbers all) new (is_snapshot one.mode)
    (own_behind keeps one.number one.tree (max one.stamp (latest_stamp stores.ready)) all done.0 new
    (stored_is_kept one.stamp one.number one.tree stores.ready done.0 stores.stores) done.2)
    (own_arrived keeps all done.0 new done.2)

own_but : (old new : World) → SameBut old new → (numbers : List ℕ) → All (λ (m : ℕ). IsOwn m old) numbers
    → All (λ (m : ℕ). IsOwn m new) numbers
own_but old new same =
    All-weaker (λ (m : ℕ). IsOwn m old) (λ (m : ℕ). IsOwn m new) (λ m own. record {
      copy = own.copy;
      kept = sym (ap (λ (x : World). copy_at x m) same) ∙ own.kept;
      own = own.own;
    })

-- ---- one that is made plain

plain_at : (m k : ℕ) (old new : World) → MakesPlain m old new
    → copy_at new k ≡ option_map (moded m Plain k) (copy_at old k)
plain_at m k old new made =
    ap (λ (x : World). copy_at x k) made.1 ∙ find-valued (moded m Plain) old.copies k

-- its tree stays, and who made it
moded_tree : (m k : ℕ) (copy : Copy) → (moded m Plain k copy).tree ≡ copy.tree
moded_tree m k copy = by (k == m)
  where
    by : (b : Bool) → (cond b (record copy { mode = Plain }) copy).tree ≡ copy.tree
    by true = refl
    by false = refl

moded_minor : (m k : ℕ) (copy : Copy) → (moded m Plain k copy).minor ≡ copy.minor
moded_minor m k copy = by (k == m)
  where
    by : (b : Bool) → (cond b (record copy { mode = Plain }) copy).minor ≡ copy.minor
    by true = refl
    by false = refl

own_plain : (m : ℕ) (old new : World) → MakesPlain m old new → (numbers : List ℕ)
    → All (λ (k : ℕ). IsOwn k old) numbers → All (λ (k : ℕ). IsOwn k new) numbers
own_plain m old new made =
    All-weaker (λ (k : ℕ). IsOwn k old) (λ (k : ℕ). IsOwn k new) (λ k own. record {
      copy = moded m Plain k own.copy;
      kept = plain_at m k old new made ∙ ap (option_map (moded m Plain k)) own.kept;
      own = moded_minor m k own.copy ∙ own.own;
    })

-- one that the volume didn't make by itself isn't a plain minor one then
still_plain_one : (m n : ℕ) (tree : Tree) (old new : World) → MakesPlain m old new → IsOwn m old
    → IsStillKept n tree old → IsStillKept n tree new
still_plain_one m n tree old new made own here = record {
  copy = moded m Plain n here.copy;
  kept = plain_at m n old new made ∙ ap (option_map (moded m Plain n)) here.kept;
  has = moded_tree m n here.copy ∙ here.has;
  own = by (n == m) refl;
}
  where
    same_copy : n ≡ m → here.copy.minor ≡ false
    same_copy same =
        let one : here.copy ≡ own.copy =
        same_Some here.copy own.copy (sym here.kept ∙ ap (copy_at old) same ∙ own.kept) in
        ap (λ (c : Copy). c.minor) one ∙ own.own

    by : (b : Bool) → (n == m) ≡ b
        → is_plain_minor_copy (cond b (record here.copy { mode = Plain }) here.copy) ≡ false
    by true is = same_copy (eqb-true n m is)
    by false is = here.own

still_plain : (n : ℕ) (tree : Tree) (numbers : List ℕ) (old new : World) → MakesAllPlain numbers old new
    → All (λ (k : ℕ). IsOwn k old) numbers → IsStillKept n tree old → IsStillKept n tree new
still_plain n tree [] old new same all here = subst (λ (x : World). IsStillKept n tree x) (sym same) here
still_plain n tree (m ∷ numbers) old new done all here =
    still_plain n tree numbers done.0 new done.2
    (own_plain m old done.0 done.1 numbers (All-tail (λ (k : ℕ). IsOwn k old) m numbers all))
    (still_plain_one m n tree old done.0 done.1 (All-head (λ (k : ℕ). IsOwn k old) m numbers all) here)

pub bringing_keeps_through : StoresKeepCopies → BringingKeepsThrough
bringing_keeps_through keeps n all old new brings w from =
    let d = brings w from in (
      d.1,
      (λ tree here.
          still_plain n tree (plain_numbers all) d.3.before d.1 d.3.plain
          (own_but d.3.stored d.3.before d.3.same (plain_numbers all) (own_arrived keeps all d.0 d.3.stored d.3.arrive))
          (still_but n tree d.3.stored d.3.before d.3.same
          (still_arrive keeps n tree all d.0 d.3.stored d.3.arrive (still_but n tree w d.0 d.2 here)))),
      d.4,
    )

-- ---- those that come are kept

each_kept : StoresKeepCopies → (all : List Arrival) (old new : World) → Arrive all old new
    → All (λ (one : Arrival). IsStillKept one.number one.tree new) all
each_kept keeps [] old new same = All-nil (λ (one : Arrival). IsStillKept one.number one.tree new)
each_kept keeps (one ∷ all) old new done =
    let stores = done.1.stores in
    All-cons (λ (a : Arrival). IsStillKept a.number a.tree new) one all
    (still_arrive keeps one.number one.tree all done.0 new done.2 (record {
      copy = snapshot_of one.tree (max one.stamp (latest_stamp stores.ready));
      kept = stored_is_kept one.stamp one.number one.tree stores.ready done.0 stores.stores;
      has = refl;
      own = refl;
    }))
    (each_kept keeps all done.0 new done.2)

pub arrivals_are_kept : StoresKeepCopies → ArrivalsAreKept
arrivals_are_kept keeps all old new w from brings =
    let d = brings w from in
    let here = own_arrived keeps all d.0 d.3.stored d.3.arrive in
    record {
      after = d.1;
      kept =
          All-weaker (λ (a : Arrival). IsStillKept a.number a.tree d.3.stored)
          (λ (a : Arrival). IsStillKept a.number a.tree d.1) (λ a kept.
          still_plain a.number a.tree (plain_numbers all) d.3.before d.1 d.3.plain
          (own_but d.3.stored d.3.before d.3.same (plain_numbers all) here)
          (still_but a.number a.tree d.3.stored d.3.before d.3.same kept)) all
          (each_kept keeps all d.0 d.3.stored d.3.arrive);
      means = d.4;
    }

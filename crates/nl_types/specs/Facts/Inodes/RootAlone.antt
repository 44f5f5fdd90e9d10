-- One inode alone, an empty directory, stands for the root alone.
use Rattle.std.proofs.Common.{◌≡◌, ℕ, Bool, true, false, ◌||◌, [], ◌∷◌, ◌++◌, reverse, length, Option, Some, None, Result, Err, refl, sym, ◌∙◌, ap, eqb, arith, List}
use Rattle.std.specs.Option.{is_some}
use Rattle.std.specs.Prelude.{cond}
use Rattle.std.proofs.lemmas.List.{length-append, reverse-append}
use Rattle.std.proofs.lemmas.Bool.{eqb-true, eqb-false}
use Rattle.nl_types.specs.declared.error.VolError.{VolError}
use Rattle.nl_types.specs.declared.error.VolError.TheVariants.{Exists, BadPath}
use Rattle.nl_types.specs.declared.reply.Object.{Object}
use Rattle.nl_types.specs.declared.reply.Object.TheVariants.{Dir, File}
use Rattle.nl_types.specs.Plain.Paths.{Name, Path, same_path}
use Rattle.nl_types.specs.Plain.Trees.{root_alone, lookup}
use Rattle.nl_types.specs.Plain.Calls.{refuse_if, is_root}
use Rattle.nl_types.specs.Inodes.{Link, InodeContent, Bytes, Records, upward, record_of}
use Rattle.nl_types.specs.InodeLaws.{NewInodesMeanTheRoot}
use Rattle.nl_types.specs.InodeCallLaws.{RootIsThere, RootStays}
use Rattle.nl_types.specs.Facts.TreeLaws.{same_path-equal}
use Rattle.nl_types.specs.Facts.Inodes.Recording.{clash}
use Rattle.nl_types.specs.Facts.Booleans.{not_true}

-- the root has inode 2, and no other path has one
inode : Path → Option ℕ
inode [] = Some 2
inode (n ∷ p) = None

longer : (n : Name) (p : Path) → reverse (n ∷ p) ≡ [] → ⊥
longer n p e =
    let k : length (reverse p ++ n ∷ []) ≡ 0 = ap length (sym (reverse-append (n ∷ []) p) ∙ e) in
    omega (arith, length-append (reverse p) (n ∷ []), k)

-- nothing stands below the root
nothing : (n : Name) (p : Path) → upward root_alone (n ∷ p) ≡ None
nothing n p =
    ap (λ b. cond b (Some Dir) None)
    (not_true (same_path (reverse (n ∷ p)) [])
    (λ same. longer n p (same_path-equal (reverse (n ∷ p)) [] same)))

apart : (i : ℕ) → Some i ≡ Some 2 → i ≡ 2
apart i e = cc

pub new_inodes_mean_the_root : NewInodesMeanTheRoot
unfolding inode
new_inodes_mean_the_root inodes records holds none others = record {
  inode_of = inode;
  ordered = refl;
  rooted = record { root = refl; parents = below };
  pairs = record {
    root = refl;
    paths = paths;
    once = once;
    all = all;
    directory = directory;
    file = file;
  };
}
  where
    below : (n : Name) (p : Path) (x : Object) → upward root_alone (n ∷ p) ≡ Some x
        → upward root_alone p ≡ Some Dir
    below n p x is = absurd (clash (upward root_alone (n ∷ p)) x (nothing n p) is)

    paths : (p : Path) → is_some (inode p) ≡ is_some (upward root_alone p)
    paths [] = refl
    paths (n ∷ p) = sym (ap is_some (nothing n p))

    once : (p q : Path) (i : ℕ) → inode p ≡ Some i → inode q ≡ Some i → p ≡ q
    once [] [] i a b = refl
    once [] (n ∷ q) i a b = cc
    once (n ∷ p) q i a b = cc

    all : (i : ℕ) (c : InodeContent) → inodes i ≡ Some c → (p : Path) × (inode p ≡ Some i)
    all i c e = by (eqb i 2) refl
      where
        by : (b : Bool) → eqb i 2 ≡ b → (p : Path) × (inode p ≡ Some i)
        by true k = ([], ap (λ (n : ℕ). Some n) (sym (eqb-true i 2 k)))
        by false k = absurd (clash (inodes i) c (others i (eqb-false i 2 k)) e)

    directory : (p : Path) (i : ℕ) → upward root_alone p ≡ Some Dir → inode p ≡ Some i
        → (rs : Name → Option Link) × (inodes i ≡ Some (Records rs))
        × ((n : Name) → rs n ≡ record_of (upward root_alone) inode (n ∷ p))
    directory [] i d e = (records, ap inodes (apart i (sym e)) ∙ holds, none)
    directory (n ∷ p) i d e = cc

    file : (p : Path) (i : ℕ) (bytes : List ℕ) → upward root_alone p ≡ Some (File bytes) → inode p ≡ Some i
        → inodes i ≡ Some (Bytes bytes)
    file [] i bytes d e = let k : Some Dir ≡ Some (File bytes) = d in cc
    file (n ∷ p) i bytes d e = cc

-- what a test refuses
refused : {A : Type 0} (test : Bool) (e : VolError) (next : Result A VolError) → test ≡ true
    → refuse_if test e next ≡ Err e
refused true e next is = refl
refused false e next is = cc

pub root_is_there : RootIsThere
root_is_there tree t object = refused (is_some (lookup tree [])) Exists _ (ap is_some t.root)

pub root_stays : RootStays
root_stays tree from = refused (is_root from || true) BadPath _ (or_true (is_root from))
  where
    or_true : (b : Bool) → (b || true) ≡ true
    or_true true = refl
    or_true false = refl

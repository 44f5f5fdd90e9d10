-- A walk by directories finds what the tree has.
use Rattle.std.specs.Prelude.{◌≡◌, ℕ, true, false, [], ◌∷◌, Option, Some, None, refl}
use Rattle.std.specs.Option.{is_some, option_map, option_and_then, option_zip}
use Rattle.std.proofs.Common.{sym, ◌∙◌, ap}
use Rattle.nl_types.specs.declared.reply.Object.{Object}
use Rattle.nl_types.specs.declared.reply.Object.TheVariants.{Dir, File}
use Rattle.nl_types.specs.declared.kind.Kind.{Kind}
use Rattle.nl_types.specs.Plain.Paths.{Name, Path}
use Rattle.nl_types.specs.Plain.Trees.{object_kind}
use Rattle.nl_types.specs.Inodes.{InodeContent, IsRooted, Pairs, inode_named, reached, object_of, found_object}

pub absent : {A : Type 0} (o : Option A) → is_some o ≡ false → o ≡ None
absent None h = refl
absent (Some x) h = cc

pub present : {A : Type 0} (o : Option A) → is_some o ≡ true → (x : A) × (o ≡ Some x)
present None h = cc
present (Some x) h = (x, refl)

-- the first of a pair that is there or not as a whole
zip_first : {A B : Type 0} (a : Option A) (b : Option B) → is_some a ≡ is_some b
    → option_map (λ (r : A × B). r.0) (option_zip a b) ≡ a
zip_first None b h = refl
zip_first (Some x) None h = cc
zip_first (Some x) (Some y) h = refl

kinds_there : (o : Option Object) → is_some (option_map object_kind o) ≡ is_some o
kinds_there None = refl
kinds_there (Some x) = refl

module _ {inodes : ℕ → Option InodeContent} {tree : Path → Option Object} {inode_of : Path → Option ℕ}
    (t : IsRooted tree) (m : Pairs inodes tree inode_of) where
  childless : (n : Name) (p : Path) → (tree p ≡ Some Dir → ⊥) → inode_of (n ∷ p) ≡ None
  childless n p h =
      absent (inode_of (n ∷ p)) (m.paths (n ∷ p) ∙ nothing (tree (n ∷ p)) (λ x e. h (t.parents n p x e)))
    where
      nothing : (o : Option Object) → ((x : Object) → o ≡ Some x → ⊥) → is_some o ≡ false
      nothing None k = refl
      nothing (Some x) k = absurd (k x refl)

  step : (n : Name) (p : Path) (i : ℕ) (x : Object) → tree p ≡ Some x → inode_of p ≡ Some i →
      option_and_then (λ c. inode_named n c) (inodes i) ≡ inode_of (n ∷ p)
  step n p i Dir e f =
      let d = m.directory p i e f in
      rw (d.1) (ap (λ (o : Option (ℕ × Kind)). option_map (λ (r : ℕ × Kind). r.0) o) (d.2 n)
      ∙ zip_first (inode_of (n ∷ p)) (option_map object_kind (tree (n ∷ p)))
      (m.paths (n ∷ p) ∙ sym (kinds_there (tree (n ∷ p)))))
  step n p i (File bytes) e f =
      rw (m.file p i bytes e f)
      (sym (childless n p (λ d. let k : Some Dir ≡ Some (File bytes) = sym d ∙ e in cc)))

  from_parent : (n : Name) (p : Path) (o : Option ℕ) (x : Option Object) → inode_of p ≡ o → tree p ≡ x
      → is_some o ≡ is_some x →
      option_and_then (λ c. inode_named n c) (option_and_then inodes o) ≡ inode_of (n ∷ p)
  from_parent n p None None f e h = sym (childless n p (λ d. let k : None ≡ Some Dir = sym e ∙ d in cc))
  from_parent n p None (Some x) f e h = cc
  from_parent n p (Some i) None f e h = cc
  from_parent n p (Some i) (Some x) f e h = step n p i x e f

  -- the walk to a path finds the inode that is paired with it
  pub reached-pairs : (p : Path) → reached inodes p ≡ inode_of p
  unfolding reached
  reached-pairs [] = sym m.root
  reached-pairs (n ∷ p) = rw (reached-pairs p) (from_parent n p (inode_of p) (tree p) refl refl (m.paths p))

  holds : (p : Path) (o : Option ℕ) (x : Option Object) → inode_of p ≡ o → tree p ≡ x → is_some o ≡ is_some x →
      option_map object_of (option_and_then inodes o) ≡ x
  holds p None None f e h = refl
  holds p None (Some x) f e h = cc
  holds p (Some i) None f e h = cc
  holds p (Some i) (Some Dir) f e h = let d = m.directory p i e f in rw (d.1) refl
  holds p (Some i) (Some (File bytes)) f e h = rw (m.file p i bytes e f) refl

  -- and so what the tree has there
  pub found-pairs : (p : Path) → found_object inodes p ≡ tree p
  found-pairs p = rw (reached-pairs p) (holds p (inode_of p) (tree p) refl refl (m.paths p))

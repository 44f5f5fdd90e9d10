-- The places of a checkpoint, by those of the file of inodes and of each file that changed.
use Rattle.std.proofs.Common.{◌≡◌, ◌⊎◌, ℕ, ◌+◌, ◌*◌, ◌/◌, ◌%◌, ◌<◌, Bool, List, length, Some, refl, ap, sym, subst, ◌∙◌, inl, inr, arith}
use Rattle.std.specs.List.{Contains, slice_get}
use Rattle.std.proofs.lemmas.Option.{get_or_from_slice_get, slice_get_read}
use Rattle.nl_types.specs.Blocks.Roots.{Pages, Root, place_at}
use Rattle.nl_files.specs.CheckpointRoots.{inode_root}
use Rattle.nl_check.specs.Shapes.{At, Itself, Of, Owner, root_for}
use Rattle.nl_check.specs.Private.BesideTrees.{HasLeft}
use Rattle.nl_check.specs.Private.ChangedFiles.{AreAllListed, AreMetAnew, IsBlockListed, IsLost, IsLostIn, IsNew, IsNewIn, IsSameOrListed, StandsAt, StandsOf}
use Rattle.nl_check.specs.declared.differing.ChangedFile.{ChangedFile}
use Rattle.nl_check.proofs.AnewPlaces.{anew-joined, anew-of}
use Rattle.nl_check.proofs.KeptPlaces.{kept-itself}
use Rattle.nl_check.proofs.LeftPlaces.{left-joined, left-of}
use Rattle.nl_check.proofs.SamePlaces.{same-inode}

-- a file's places in two other roots that are the same as its own
in-roots : (Stands : Root → Root → ℕ × ℕ → ℕ → Type 0) (a b x y : Root) (at : ℕ × ℕ) (v : ℕ) → a ≡ x → b ≡ y
    → Stands a b at v → Stands x y at v
in-roots Stands a b x y at v p q s =
    subst (λ (r : Root). Stands r y at v) p (subst (λ (r : Root). Stands a r at v) q s)

module _ (pages : Pages) (old new : Root) (files : List ChangedFile)
    (listed : AreAllListed pages old new files) where
  -- each number has one inode in both checkpoints, or it is listed
  pub inode-case : (n : ℕ) → IsSameOrListed pages old new files n
  inode-case n = by (listed.each (n / 8))
    where
      by : (place_at pages old 0 (n / 8) ≡ place_at pages new 0 (n / 8))
          ⊎ IsBlockListed pages old new files (n / 8) → IsSameOrListed pages old new files n
      by (inl one) = inl (same-inode pages old new n one)
      by (inr block) =
          let number : 8 * (n / 8) + n % 8 ≡ n = omega arith in
          subst (IsSameOrListed pages old new files) number (block.each (n % 8) (omega arith))

  pub was-root : (f : ChangedFile) → Contains files f
      → root_for pages old (Of f.number) ≡ inode_root f.earlier
  was-root f c = let changed = listed.right f c in ap inode_root changed.was

  pub is-root : (f : ChangedFile) → Contains files f
      → root_for pages new (Of f.number) ≡ inode_root f.later
  is-root f c = let changed = listed.right f c in ap inode_root changed.is

  pub turn-of : (f : ChangedFile) (c : Contains files f) → slice_get files c.0 ≡ Some f
  turn-of f c = slice_get_read files (length files) c.0 f refl c.1 (sym c.2)

  pub contained : (turn : ℕ) (f : ChangedFile) → turn < length files → slice_get files turn ≡ Some f
      → Contains files f
  contained turn f low is = (turn, low, get_or_from_slice_get files turn f f is)

  module _ (Stands : Root → Root → ℕ × ℕ → ℕ → Type 0)
      (differs : (root : Root) (at : ℕ × ℕ) (v : ℕ) → Stands root root at v → ⊥) where
    abbrev First : At → ℕ → Type 0
    First at v = (at.owner ≡ Itself) × Stands old new (at.level, at.offset) v

    pub step-by : (owner : Owner) (at : At) (v : ℕ) → at.owner ≡ owner → StandsAt Stands pages old new at v
        → First at v ⊎ StandsOf Stands files (length files) at v
    step-by Itself at v is s =
        inl (
          is,
          in-roots Stands (root_for pages old at.owner) (root_for pages new at.owner) old new
              (at.level, at.offset) v (ap (root_for pages old) is) (ap (root_for pages new) is) s,
        )
    step-by (Of n) at v is s = by (inode-case n)
      where
        by : IsSameOrListed pages old new files n
            → First at v ⊎ StandsOf Stands files (length files) at v
        by (inl one) =
            absurd (differs (root_for pages new (Of n)) (at.level, at.offset) v
            (in-roots Stands (root_for pages old at.owner) (root_for pages new at.owner)
            (root_for pages new (Of n)) (root_for pages new (Of n)) (at.level, at.offset) v
            (ap (root_for pages old) is ∙ ap inode_root one) (ap (root_for pages new) is) s))
        by (inr (f, c, number)) =
            let owner : at.owner ≡ Of f.number = is ∙ ap Of (sym number) in
            inr (record {
              file = f;
              of = record { turn = c.0; before = c.1; is = turn-of f c; owner_is = owner };
              stands =
                  in-roots Stands (root_for pages old at.owner) (root_for pages new at.owner)
                  (inode_root f.earlier) (inode_root f.later) (at.level, at.offset) v
                  (ap (root_for pages old) owner ∙ was-root f c)
                  (ap (root_for pages new) owner ∙ is-root f c) s;
            })

    step : (at : At) (v : ℕ) → StandsAt Stands pages old new at v
        → First at v ⊎ StandsOf Stands files (length files) at v
    step at v s = step-by at.owner at v refl s

    left : (at : At) (v : ℕ) → First at v → StandsAt Stands pages old new at v
    left at v s =
        in-roots Stands old new (root_for pages old at.owner) (root_for pages new at.owner)
        (at.level, at.offset) v
        (sym (ap (root_for pages old) s.0)) (sym (ap (root_for pages new) s.0)) s.1

    right : (at : At) (v : ℕ) → StandsOf Stands files (length files) at v → StandsAt Stands pages old new at v
    right at v s =
        let f = s.file in
        let c = contained s.of.turn f s.of.before s.of.is in
        in-roots Stands (inode_root f.earlier) (inode_root f.later) (root_for pages old at.owner)
        (root_for pages new at.owner) (at.level, at.offset) v
        (sym (ap (root_for pages old) s.of.owner_is ∙ was-root f c))
        (sym (ap (root_for pages new) s.of.owner_is ∙ is-root f c)) s.stands

  lost-differs : (root : Root) (at : ℕ × ℕ) (v : ℕ) → IsLostIn pages root root at v → ⊥
  lost-differs root at v s = s.0 (kept-itself pages root at)

  new-differs : (root : Root) (at : ℕ × ℕ) (v : ℕ) → IsNewIn pages root root at v → ⊥
  new-differs root at v s = s.0 (kept-itself pages root at)

  -- all that the checkpoint has no more is left
  pub left-all : (met mid now : List Bool) → HasLeft (ℕ × ℕ) (IsLostIn pages old new) met mid
      → HasLeft At (StandsOf (IsLostIn pages) files (length files)) mid now
      → HasLeft At (IsLost pages old new) met now
  left-all met mid now l m =
      left-joined At (First (IsLostIn pages) lost-differs) (StandsOf (IsLostIn pages) files (length files))
      (IsLost pages old new) (step (IsLostIn pages) lost-differs) (left (IsLostIn pages) lost-differs)
      (right (IsLostIn pages) lost-differs) met mid now (left-of Itself (IsLostIn pages old new) met mid l) m

  -- all that it has anew is met
  pub met-all : (met mid now : List Bool) → AreMetAnew (ℕ × ℕ) (IsNewIn pages old new) met mid
      → AreMetAnew At (StandsOf (IsNewIn pages) files (length files)) mid now
      → AreMetAnew At (IsNew pages old new) met now
  met-all met mid now l m =
      anew-joined At (First (IsNewIn pages) new-differs) (StandsOf (IsNewIn pages) files (length files))
      (IsNew pages old new) (step (IsNewIn pages) new-differs) (left (IsNewIn pages) new-differs)
      (right (IsNewIn pages) new-differs) met mid now (anew-of Itself (IsNewIn pages old new) met mid l) m

-- The places of files of a list, one file after another.
use Rattle.std.proofs.Common.{◌≡◌, ◌⊎◌, ℕ, ◌+◌, Bool, List, Some, ap, sym, subst, ◌∙◌, inl, inr, arith}
use Rattle.std.specs.List.{slice_get}
use Rattle.std.proofs.lemmas.Bool.{cases_lt}
use Rattle.nl_types.specs.Blocks.Roots.{Pages, Root}
use Rattle.nl_files.specs.CheckpointRoots.{inode_root}
use Rattle.nl_check.specs.Shapes.{At, Of}
use Rattle.nl_check.specs.Private.BesideTrees.{HasLeft}
use Rattle.nl_check.specs.Private.ChangedFiles.{AreFilesMet, AreMetAnew, IsLostIn, IsNewIn, IsSoundNow, StandsOf}
use Rattle.nl_check.specs.declared.differing.ChangedFile.{ChangedFile}
use Rattle.nl_check.proofs.AnewPlaces.{anew-joined, anew-nowhere, anew-of}
use Rattle.nl_check.proofs.LeftPlaces.{left-joined, left-nowhere, left-of}

abbrev File : (Root → Root → ℕ × ℕ → ℕ → Type 0) → ChangedFile → ℕ × ℕ → ℕ → Type 0
File Stands f at v = Stands (inode_root f.earlier) (inode_root f.later) at v

abbrev Own : (Root → Root → ℕ × ℕ → ℕ → Type 0) → ChangedFile → At → ℕ → Type 0
Own Stands f at v = (at.owner ≡ Of f.number) × File Stands f (at.level, at.offset) v

module _ (Stands : Root → Root → ℕ × ℕ → ℕ → Type 0) (files : List ChangedFile) where
  none-yet : (at : At) (v : ℕ) → StandsOf Stands files 0 at v → ⊥
  none-yet at v s = let low = s.of.before in omega (arith, low)

  module _ (k : ℕ) (f : ChangedFile) (is : slice_get files k ≡ Some f) where
    step : (at : At) (v : ℕ) → StandsOf Stands files (k + 1) at v
        → StandsOf Stands files k at v ⊎ Own Stands f at v
    step at v s = elim (cases_lt s.of.turn k) [
      | inl less ↦ inl (record {
        file = s.file;
        of = record { turn = s.of.turn; before = less; is = s.of.is; owner_is = s.of.owner_is };
        stands = s.stands;
      })
      | inr more ↦
          (let before = s.of.before in
          let here : s.of.turn ≡ k = omega (arith, before, more) in
          let one : Some s.file ≡ Some f = sym s.of.is ∙ (ap (slice_get files) here ∙ is) in
          let file : s.file ≡ f = cc in
          inr (
            s.of.owner_is ∙ ap (λ (x : ChangedFile). Of x.number) file,
            subst (λ (x : ChangedFile). File Stands x (at.level, at.offset) v) file s.stands,
          ))
    ]

    left : (at : At) (v : ℕ) → StandsOf Stands files k at v → StandsOf Stands files (k + 1) at v
    left at v s = record {
      file = s.file;
      of = record {
        turn = s.of.turn;
        before = (let low = s.of.before in omega (arith, low));
        is = s.of.is;
        owner_is = s.of.owner_is;
      };
      stands = s.stands;
    }

    right : (at : At) (v : ℕ) → Own Stands f at v → StandsOf Stands files (k + 1) at v
    right at v s = record {
      file = f;
      of = record { turn = k; before = omega arith; is = is; owner_is = s.0 };
      stands = s.1;
    }

module _ (pages : Pages) (files : List ChangedFile) where
  pub left-first : (met : List Bool) → HasLeft At (StandsOf (IsLostIn pages) files 0) met met
  left-first met =
      left-nowhere At (StandsOf (IsLostIn pages) files 0) met (none-yet (IsLostIn pages) files)

  -- the file whose turn it is, is left
  pub left-turn : (k : ℕ) (f : ChangedFile) (old now new : List Bool) → slice_get files k ≡ Some f
      → HasLeft At (StandsOf (IsLostIn pages) files k) old now
      → HasLeft (ℕ × ℕ) (IsLostIn pages (inode_root f.earlier) (inode_root f.later)) now new
      → HasLeft At (StandsOf (IsLostIn pages) files (k + 1)) old new
  left-turn k f old now new is m l =
      left-joined At (StandsOf (IsLostIn pages) files k) (Own (IsLostIn pages) f)
      (StandsOf (IsLostIn pages) files (k + 1)) (step (IsLostIn pages) files k f is)
      (left (IsLostIn pages) files k f is) (right (IsLostIn pages) files k f is) old now new m
      (left-of (Of f.number) (File (IsLostIn pages) f) now new l)

  pub met-first : (met : List Bool) → AreFilesMet pages files 0 met met
  met-first met = record {
    met = anew-nowhere At (StandsOf (IsNewIn pages) files 0) met (none-yet (IsNewIn pages) files);
    sound = λ turn f low is. absurd (omega (arith, low));
  }

  -- or met, and sound
  pub met-turn : (k : ℕ) (f : ChangedFile) (old now new : List Bool) → slice_get files k ≡ Some f
      → AreFilesMet pages files k old now
      → AreMetAnew (ℕ × ℕ) (IsNewIn pages (inode_root f.earlier) (inode_root f.later)) now new
      → IsSoundNow pages f → AreFilesMet pages files (k + 1) old new
  met-turn k f old now new is m l sound = record {
    met =
        anew-joined At (StandsOf (IsNewIn pages) files k) (Own (IsNewIn pages) f)
        (StandsOf (IsNewIn pages) files (k + 1)) (step (IsNewIn pages) files k f is)
        (left (IsNewIn pages) files k f is) (right (IsNewIn pages) files k f is) old now new m.met
        (anew-of (Of f.number) (File (IsNewIn pages) f) now new l);
    sound = λ turn x low at. elim (cases_lt turn k) [
      | inl less ↦ m.sound turn x less at
      | inr more ↦
          (let here : turn ≡ k = omega (arith, low, more) in
          let one : Some f ≡ Some x = sym is ∙ (ap (slice_get files) (sym here) ∙ at) in
          let file : f ≡ x = cc in
          subst (IsSoundNow pages) file sound)
    ];
  }

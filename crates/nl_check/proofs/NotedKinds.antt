-- The kinds of changed files, noted one after another.
use Rattle.std.proofs.Common.{◌≡◌, ℕ, ◌+◌, ◌<◌, List, Option, Some, ap, sym, subst, ◌∙◌, inl, inr, arith, refl}
use Rattle.std.specs.List.{slice_get}
use Rattle.std.proofs.lemmas.Bool.{cases_eq, cases_lt}
use Rattle.nl_types.specs.declared.kind.Kind.{Kind}
use Rattle.nl_layout.specs.declared.inode.Inode.{Inode}
use Rattle.nl_check.specs.Private.AlikeNames.{AreFiles}
use Rattle.nl_check.specs.Private.ChangedFiles.{AreFilesStill, AreNoted}
use Rattle.nl_check.specs.Private.SoundInodes.{kind_in, kind_told}
use Rattle.nl_check.specs.Facts.Below.{below-more}
use Rattle.nl_check.specs.declared.differing.ChangedFile.{ChangedFile}

pub noted-first : (now : ℕ → Option Inode) (files : List ChangedFile) (kinds : List (Option Kind))
    → AreNoted now files 0 kinds kinds
noted-first now files kinds = record {
  here = λ turn f low is. absurd (omega (arith, low));
  others = λ i low. inl refl;
}

pub noted-more : (now : ℕ → Option Inode) (files : List ChangedFile) (k : ℕ) (g : ChangedFile)
    (old mid new : List (Option Kind)) (kind : Option Kind) → kind ≡ kind_told g.later
    → now g.number ≡ g.later → slice_get files k ≡ Some g
    → (g.number < 524288 → kind_in new g.number ≡ kind)
    → ((i : ℕ) → (i ≡ g.number → ⊥) → kind_in new i ≡ kind_in mid i)
    → AreNoted now files k old mid → AreNoted now files (k + 1) old new
noted-more now files k g old mid new kind is later at here others n = record {
  here = λ turn f low there small. elim (cases_eq f.number g.number) [
    | inl same ↦ own f.number small same
    | inr apart ↦ elim (cases_lt turn k) [
      | inl less ↦ others f.number apart ∙ n.here turn f less there small
      | inr more ↦
          absurd (let turn_is : turn ≡ k = omega (arith, low, more) in
          let one : Some f ≡ Some g = sym there ∙ (ap (slice_get files) turn_is ∙ at) in
          let file : f ≡ g = cc in
          apart (ap (λ (x : ChangedFile). x.number) file))
    ]
  ];
  others = λ i low. elim (cases_eq i g.number) [
    | inl same ↦ inr (own i low same)
    | inr apart ↦ elim (n.others i low) [
      | inl as_before ↦ inl (others i apart ∙ as_before)
      | inr noted ↦ inr (others i apart ∙ noted)
    ]
  ];
}
  where
    own : (i : ℕ) → i < 524288 → i ≡ g.number → kind_in new i ≡ kind_told (now i)
    own i low same =
        subst (λ (n : ℕ). kind_in new n ≡ kind_told (now n)) (sym same)
        (here (subst (λ (n : ℕ). n < 524288) same low) ∙ (is ∙ sym (ap kind_told later)))

-- ---- files that are files still

pub still-first : (files : List ChangedFile) → AreFilesStill files 0
still-first files turn f low is = absurd (omega (arith, low))

pub still-more : (files : List ChangedFile) (k : ℕ) (g : ChangedFile) → slice_get files k ≡ Some g
    → AreFiles g.earlier g.later → AreFilesStill files k → AreFilesStill files (k + 1)
still-more files k g at is so_far turn f low there =
    below-more (λ (p : ℕ). (x : ChangedFile) → slice_get files p ≡ Some x → AreFiles x.earlier x.later) k
    (λ p less x x_there. so_far p x less x_there)
    (λ x x_there.
    let one : Some g ≡ Some x = sym at ∙ x_there in
    let file : g ≡ x = cc in
    subst (λ (y : ChangedFile). AreFiles y.earlier y.later) file is) turn low f there

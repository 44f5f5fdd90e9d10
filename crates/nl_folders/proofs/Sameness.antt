-- Objects and entries that tests find the same, and no others.
use Rattle.std.proofs.Common.{◌≡◌, ◌↔◌, ◌&&◌, ℕ, List, Bool, true, IsTrue, refl, ap, sym, subst, true≢false, ◌∙◌}
use Rattle.std.proofs.lemmas.Bool.{and_parts, and_from}
use Rattle.std.proofs.lemmas.Slice.Eq.{bytes_eq-Decides}
use Rattle.nl_types.specs.declared.reply.Object.{Object}
use Rattle.nl_types.specs.declared.reply.Object.TheVariants.{Dir, File}
use Rattle.nl_types.specs.Plain.Paths.{Path, same_path}
use Rattle.nl_types.specs.Facts.Lookups.{same_path-itself}
use Rattle.nl_types.specs.Facts.TreeLaws.{same_path-equal}
use Rattle.nl_folders.specs.Differences.{same_object}

same_object-equal : (a b : Object) → same_object a b ≡ true → a ≡ b
same_object-equal Dir Dir is = refl
same_object-equal Dir (File new) is = absurd (true≢false (sym is))
same_object-equal (File old) Dir is = absurd (true≢false (sym is))
same_object-equal (File old) (File new) is = ap (λ (b : List ℕ). File b) ((bytes_eq-Decides old new).0 is)

same_object-itself : (a : Object) → same_object a a ≡ true
same_object-itself Dir = refl
same_object-itself (File bytes) = (bytes_eq-Decides bytes bytes).1 refl

-- entries are one exactly where their paths and objects are the same
entry_same : (a b : Path × Object) → IsTrue (same_path a.0 b.0 && same_object a.1 b.1) ↔ (a ≡ b)
entry_same a b = (equal, tested)
  where
    equal : (same_path a.0 b.0 && same_object a.1 b.1) ≡ true → a ≡ b
    equal is =
        let parts = and_parts (same_path a.0 b.0) (same_object a.1 b.1) is in
        let paths = same_path-equal a.0 b.0 parts.0 in
        let objects = same_object-equal a.1 b.1 parts.1 in
        λ i. (paths i, objects i)

    tested : a ≡ b → (same_path a.0 b.0 && same_object a.1 b.1) ≡ true
    tested is =
        and_from (same_path a.0 b.0) (same_object a.1 b.1)
        (ap (λ (x : Path × Object). same_path a.0 x.0) (sym is) ∙ same_path-itself a.0)
        (ap (λ (x : Path × Object). same_object a.1 x.1) (sym is) ∙ same_object-itself a.1)

-- the same by two tests
pub entry_by : (a b : Path × Object) (path object : Bool) → path ≡ same_path a.0 b.0 → object ≡ same_object a.1 b.1
    → IsTrue (path && object) ↔ (a ≡ b)
entry_by a b path object by_path by_object =
    subst (λ t. IsTrue (t && object) ↔ (a ≡ b)) (sym by_path)
    (subst (λ t. IsTrue (same_path a.0 b.0 && t) ↔ (a ≡ b)) (sym by_object) (entry_same a b))

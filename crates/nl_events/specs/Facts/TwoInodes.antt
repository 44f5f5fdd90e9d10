-- Two inodes that may be there, and whether they are one.
use Rattle.std.proofs.Common.{◌≡◌, Bool, false, None, Some, sym, ap, refl}
use Rattle.std.specs.Prelude.{◌↔◌, IsTrue}
use Rattle.nl_layout.specs.declared.inode.Inode.{Inode}

-- there is none of the first
pub no_first : (A B : Inode → Type 0) → ((x : Inode) → (None ≡ Some x) ↔ A x)
    → IsTrue false ↔ ((x : Inode) × A x × B x)
no_first A B has = (λ no. cc, λ both. let is = (has both.0).1 both.1 in cc)

-- or of the second
pub no_second : (A B : Inode → Type 0) → ((x : Inode) → (None ≡ Some x) ↔ B x)
    → IsTrue false ↔ ((x : Inode) × A x × B x)
no_second A B has = (λ no. cc, λ both. let is = (has both.0).1 both.2 in cc)

-- there are both, and they are compared
pub both_there : (A B : Inode → Type 0) (one other : Inode) (equal : Bool) → IsTrue equal ↔ (one ≡ other)
    → ((x : Inode) → (Some one ≡ Some x) ↔ A x) → ((x : Inode) → (Some other ≡ Some x) ↔ B x)
    → IsTrue equal ↔ ((x : Inode) × A x × B x)
both_there A B one other equal compared a b = (
  λ is. (one, (a one).0 refl, (b one).0 (ap (λ (x : Inode). Some x) (sym (compared.0 is)))),
  λ both.
      let here = (a both.0).1 both.1 in
      let there = (b both.0).1 both.2 in
      compared.1 cc,
)

-- What ends where a number is replaced: the number that stood there, if there was one.
use Rattle.std.proofs.Common.{◌≡◌, ◌≢◌, ℕ, Option, Some, None, refl, ap, sym, subst, arith}
use Rattle.std.specs.List.{AllPairs, Contains}
use Rattle.nl_blocktree.specs.Private.Writing.{ended_of}
use Rattle.nl_blocktree.specs.Facts.Pairwise.{in_lone}

pub ended_stood : (o : Option ℕ) (v : ℕ) → Contains (ended_of o) v → o ≡ Some v
ended_stood None v c = absurd (let l = c.1 in omega arith)
ended_stood (Some w) v c = ap (λ (x : ℕ). let o : Option ℕ = Some x in o) (sym (in_lone w v c))

pub stood_ends : (o : Option ℕ) (v : ℕ) → o ≡ Some v → Contains (ended_of o) v
stood_ends o v e = subst (λ (x : Option ℕ). Contains (ended_of x) v) (sym e) (0, omega arith, refl)

pub ended_once : (o : Option ℕ) → AllPairs (λ (a : ℕ) (b : ℕ). a ≢ b) (ended_of o)
ended_once None i j d l m = absurd (omega arith)
ended_once (Some v) i j d l m = absurd (omega arith)

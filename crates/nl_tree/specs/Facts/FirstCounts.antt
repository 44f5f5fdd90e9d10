-- Numbers are counted in a tree in which nothing differs.
use Rattle.std.proofs.Common.{ℕ, [], arith, ap, inr, refl, sym, true≢false}
use Rattle.std.specs.Prelude.{is_some}
use Rattle.nl_tree.specs.Held.{Holding}
use Rattle.nl_tree.specs.FirstTree.{nothing_held, root_directory_alone}
use Rattle.nl_tree.specs.Numbers.{CountsFree, CountsNumbers}
use Rattle.nl_tree.specs.Facts.FirstTree.{absent-first}

-- over the checkpoint that was made of the tree
pub counts_settled : (IsFree : ℕ → Type 0) (mark : ℕ) (held base : Holding)
    → CountsNumbers IsFree mark held base → CountsNumbers IsFree mark held held
counts_settled IsFree mark held base counts = record {
  first = counts.first;
  last = counts.last;
  freed = counts.freed;
  filled = counts.filled;
  beyond = λ n past. inr refl;
}

pub counts_new : (base : Holding) → CountsFree (record { became = []; freed = []; mark = 11; names = 0 }) base
counts_new base = record {
  first = omega arith;
  last = omega arith;
  freed = λ n f. absurd (true≢false (sym f));
  filled = λ n low below. absurd (omega arith);
  beyond = λ n past. inr refl;
}

pub counts_first : CountsFree
    (record { became = root_directory_alone; freed = []; mark = 11; names = 0 }) nothing_held
counts_first = record {
  first = omega arith;
  last = omega arith;
  freed = λ n f. absurd (true≢false (sym f));
  filled = λ n low below. absurd (omega arith);
  beyond = λ n past. inr (ap is_some (absent-first n (λ e. absurd (omega (arith, e, past)))));
}

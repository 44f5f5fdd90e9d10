use Rattle.std.proofs.Common.{ℕ, Bool, List, refl, ap, nat_cmp, ◌∙◌}
use Rattle.std.specs.BTreeMap.{is_at}
use Rattle.std.specs.Map.{lookup}
use Rattle.std.specs.Option.{is_some}
use Rattle.std.proofs.lemmas.Bool.{ne_eqb}
use Rattle.std.proofs.lemmas.Result.{IfOk-from_err}
use Rattle.nl_tree.specs.Facts.Places.{tied}
use Rattle.nl_tree.specs.Became.{Current}
use Rattle.nl_tree.specs.Overlays.{became_in}
use Rattle.nl_tree.specs.Shown.{if_true, key_alone, shown_entries}
use Rattle.nl_tree.proofs.overlay.Overlay.reserve_number.Goals as goal

pub returns-else-is_none-clause-orderly : goal.returns-else-is_none-clause-orderly
returns-else-is_none-clause-orderly c = λ is. is

pub returns-else-is_none-clause-same : goal.returns-else-is_none-clause-same
returns-else-is_none-clause-same c = refl

pub returns-else-is_none-clause-changed : goal.returns-else-is_none-clause-changed
returns-else-is_none-clause-changed c = refl

pub returns-else-is_none-clause-mark : goal.returns-else-is_none-clause-mark
returns-else-is_none-clause-mark c = refl

pub returns-else-is_none-clause-names : goal.returns-else-is_none-clause-names
returns-else-is_none-clause-names c = refl

pub returns-else-is_none-clause-freed : goal.returns-else-is_none-clause-freed
returns-else-is_none-clause-freed c = λ n ne. refl

pub returns-else-is_none-clause-refused : goal.returns-else-is_none-clause-refused
returns-else-is_none-clause-refused c = tt

pub returns-in_err-insert-clause-orderly : goal.returns-in_err-insert-clause-orderly
returns-in_err-insert-clause-orderly c = λ is. record {
  keys = is.keys;
  freed_numbers = c.in_err-insert.ensures.ordered;
  files = is.files;
  inodes = is.inodes;
  counted = is.counted;
}

pub returns-in_err-insert-clause-same : goal.returns-in_err-insert-clause-same
returns-in_err-insert-clause-same c = ap {B = Current}
    (λ (es : List (ℕ × Bool)). record {
      became = became_in c.args.self.now;
      freed = shown_entries key_alone if_true es;
      mark = c.args.self.now.mark;
      names = c.args.self.now.names;
    })
    c.in_err-insert.ensures.err

pub returns-in_err-insert-clause-changed : goal.returns-in_err-insert-clause-changed
returns-in_err-insert-clause-changed c = refl

pub returns-in_err-insert-clause-mark : goal.returns-in_err-insert-clause-mark
returns-in_err-insert-clause-mark c = refl

pub returns-in_err-insert-clause-names : goal.returns-in_err-insert-clause-names
returns-in_err-insert-clause-names c = refl

pub returns-in_err-insert-clause-place : goal.returns-in_err-insert-clause-place
returns-in_err-insert-clause-place c = IfOk-from_err c.from_residual.result _ c.from_residual.ensures.0

pub returns-in_err-insert-clause-freed : goal.returns-in_err-insert-clause-freed
returns-in_err-insert-clause-freed c = λ n ne.
    ap (λ (es : List (ℕ × Bool)). lookup (is_at (nat_cmp n)) es) c.in_err-insert.ensures.err

pub returns-in_ok-insert-clause-orderly : goal.returns-in_ok-insert-clause-orderly
returns-in_ok-insert-clause-orderly c = λ is. record {
  keys = is.keys;
  freed_numbers = c.in_ok-insert.ensures.ordered;
  files = is.files;
  inodes = is.inodes;
  counted = is.counted;
}

pub returns-in_ok-insert-clause-changed : goal.returns-in_ok-insert-clause-changed
returns-in_ok-insert-clause-changed c = refl

pub returns-in_ok-insert-clause-mark : goal.returns-in_ok-insert-clause-mark
returns-in_ok-insert-clause-mark c = refl

pub returns-in_ok-insert-clause-names : goal.returns-in_ok-insert-clause-names
returns-in_ok-insert-clause-names c = refl

pub returns-in_ok-insert-clause-place : goal.returns-in_ok-insert-clause-place
returns-in_ok-insert-clause-place c = ap is_some c.in_ok-insert.ensures.updates.1

pub returns-in_ok-insert-clause-refused : goal.returns-in_ok-insert-clause-refused
returns-in_ok-insert-clause-refused c = tt

pub returns-in_ok-insert-clause-freed : goal.returns-in_ok-insert-clause-freed
returns-in_ok-insert-clause-freed c = λ n ne.
    c.in_ok-insert.ensures.updates.2 n (tied c.args.inode n ∙ ne_eqb n c.args.inode ne)

use Rattle.std.proofs.Common.{ℕ, List, false, refl, sym, ap, subst, ◌∙◌, IsSome, nat_cmp}
use Rattle.std.specs.BTreeMap.{is_at}
use Rattle.std.specs.Map.{lookup}
use Rattle.std.proofs.lemmas.Result.{IfOk-from_err}
use Rattle.nl_tree.specs.Became.{Current}
use Rattle.nl_tree.specs.declared.overlay.Slot.{Slot}
use Rattle.nl_tree.specs.Overlays.{over_if_slot, slot_shows}
use Rattle.nl_tree.specs.Places.{all_places}
use Rattle.nl_tree.specs.Weights.{IsNoLess}
use Rattle.nl_tree.specs.Shown.{if_true, key_alone, pair, shown_entries}
use Rattle.nl_tree.proofs.KeptPlaces.{place_inserted}
use Rattle.nl_tree.proofs.WrittenSlots.{inserted_orderly, inserted_others, inserted_still}
use Rattle.nl_tree.proofs.overlay.Overlay.hide.Goals as goal

pub returns-in_err-insert-clause-orderly : goal.returns-in_err-insert-clause-orderly
returns-in_err-insert-clause-orderly c = λ is _ _. record {
  keys = c.in_err-insert.ensures.ordered;
  freed_numbers = is.freed_numbers;
  files = λ i s file at file_is.
      is.files i s file
      (sym (ap (λ (es : List (ℕ × Slot)). lookup (is_at (nat_cmp i)) es) c.in_err-insert.ensures.err) ∙ at)
      file_is;
  inodes = λ i has.
      is.inodes i (subst
      (λ (es : List (ℕ × Slot)). IsSome (lookup (is_at (nat_cmp i)) es)) c.in_err-insert.ensures.err has);
  counted = subst (λ (es : List (ℕ × Slot)). IsNoLess (all_places es) c.args.self.now.weight)
      (sym c.in_err-insert.ensures.err) is.counted;
}

pub returns-in_err-insert-clause-same : goal.returns-in_err-insert-clause-same
returns-in_err-insert-clause-same c = ap {B = Current}
    (λ (es : List (ℕ × Slot)). record {
      became = shown_entries pair slot_shows es;
      freed = shown_entries key_alone if_true c.args.self.now.freed.entries;
      mark = c.args.self.now.mark;
      names = c.args.self.now.names;
    })
    c.in_err-insert.ensures.err

pub returns-in_err-insert-clause-rest : goal.returns-in_err-insert-clause-rest
returns-in_err-insert-clause-rest c = record { freed = refl; mark = refl; names = refl }

pub returns-in_err-insert-clause-still : goal.returns-in_err-insert-clause-still
returns-in_err-insert-clause-still c = λ b i.
    ap (λ (es : List (ℕ × Slot)). over_if_slot (lookup (is_at (nat_cmp i)) es) (b i))
    c.in_err-insert.ensures.err

pub returns-in_err-insert-clause-places : goal.returns-in_err-insert-clause-places
returns-in_err-insert-clause-places c = λ i has.
    subst (λ (es : List (ℕ × Slot)). IsSome (lookup (is_at (nat_cmp i)) es))
    (sym c.in_err-insert.ensures.err) has

pub returns-in_err-insert-clause-others : goal.returns-in_err-insert-clause-others
returns-in_err-insert-clause-others c = λ i ne.
    ap (λ (es : List (ℕ × Slot)). lookup (is_at (nat_cmp i)) es) c.in_err-insert.ensures.err

pub returns-in_err-insert-clause-place : goal.returns-in_err-insert-clause-place
returns-in_err-insert-clause-place c = IfOk-from_err c.from_residual.result _ c.from_residual.ensures.0

pub returns-clause-rest : goal.returns-clause-rest
returns-clause-rest c = record { freed = refl; mark = refl; names = refl }

pub returns-clause-places : goal.returns-clause-places
returns-clause-places c = λ i has.
    subst (λ (es : List (ℕ × Slot)). IsSome (lookup (is_at (nat_cmp i)) es))
    (sym c.in_ok-insert.ensures.entries)
    (place_inserted (λ k. is_at (nat_cmp i) k) nat_cmp c.args.inode
    (record { live = false; what = c.args.what }) c.args.self.now.changed.entries has)

pub returns-clause-refused : goal.returns-clause-refused
returns-clause-refused c = tt

pub returns-clause-place : goal.returns-clause-place
returns-clause-place c = c.in_ok-insert.ensures.updates.1

pub returns-clause-orderly : goal.returns-clause-orderly
returns-clause-orderly c = λ is number pages.
    inserted_orderly c.args.self.now.changed c.insert.new.self c.args.inode
    (record { live = false; what = c.args.what }) c.in_ok-insert.ensures.updates c.args.self.now
    c.saturating_add-self.result c.weight-weight.result refl c.in_ok-insert.ensures.entries c.in_ok-insert.ensures.ordered
    number pages c.weight-weight.ensures c.saturating_add-self.ensures is

pub returns-clause-still : goal.returns-clause-still
returns-clause-still c =
    inserted_still c.args.self.now.changed c.insert.new.self c.args.inode
    (record { live = false; what = c.args.what }) c.in_ok-insert.ensures.updates refl c.requires

pub returns-clause-others : goal.returns-clause-others
returns-clause-others c =
    inserted_others c.args.self.now.changed c.insert.new.self c.args.inode
    (record { live = false; what = c.args.what }) c.in_ok-insert.ensures.updates

use Rattle.std.proofs.Common.{◌≡◌, ◌==◌, ℕ, ◌+◌, Option, Bool, None, ap, inr, refl, ◌∙◌}
use Rattle.std.specs.Prelude.{cond, nat_le, if◌then◌else◌}
use Rattle.std.specs.Ordering.{nat_cmp}
use Rattle.std.specs.BTreeMap as map
use Rattle.nl_dirs.specs.declared.record.Record.{Record}
use Rattle.nl_tree.specs.Held.{new_held}
use Rattle.nl_tree.specs.Numbers.{IsNumberFreed}
use Rattle.nl_tree.specs.Overlays.{holding_now, over_if_slot}
use Rattle.nl_tree.specs.Records.{with_record}
use Rattle.nl_tree.specs.Steps.{with_new_inode}
use Rattle.nl_tree.proofs.Counting.{counts_taken, taken_new, taken_old}
use Rattle.std.proofs.lemmas.Result.{IfOk-from_err}
use Rattle.nl_tree.specs.Facts.Refusals.{holds_on_err}
use Rattle.nl_tree.proofs.overlay.Overlay.create.Goals as goal

pub returns-clause-created : goal.returns-clause-created
returns-clause-created g c = λ b all holds is counts. record {
  lowest = c.in-Some.ensures.number b holds counts;
  adds = λ i. ap (λ m. over_if_slot (map.get nat_cmp m i) (b i)) c.take_number.ensures.changed
      ∙ c.in_ok-add.ensures.added b all holds is i;
}

pub returns-clause-counts : goal.returns-clause-counts
returns-clause-counts g c = λ b all holds is counts.
    let old = c.args.self.now in
    let new = c.take_number.new.self in
    let inode = c.in-Some.inode in
    let r : Record = record { name = c.args.name.now; inode = inode; kind = c.args.kind } in
    let get : ℕ → Option Bool = λ n. map.get nat_cmp old.freed n in
    let now : ℕ → Option Bool = λ n. map.get nat_cmp new.freed n in
    let taken : (n : ℕ) → now n ≡ cond (n == inode) None (get n) =
    λ n.
    c.take_number.ensures.freed n
    ∙ ap (λ f. cond (n == inode) None (map.get nat_cmp f n)) c.add.ensures.rest.freed in
    counts_taken (IsNumberFreed old) (IsNumberFreed new) old.mark new.mark (holding_now old b)
    (holding_now new b) b counts
    inode c.args.dir (new_held c.args.kind) all (with_record r all)
    (c.in-Some.ensures.number b holds counts) is.0
    (λ i. ◌∙◌ {c = with_new_inode c.args.dir all c.args.name.now c.args.kind inode (holding_now old b) i}
    (ap (λ m. over_if_slot (map.get nat_cmp m i) (b i)) c.take_number.ensures.changed)
    (c.in_ok-add.ensures.added b all holds is i))
    (taken_old get now inode taken) (taken_new get now inode taken)
    (c.take_number.ensures.mark
    ∙ ap (λ (k : ℕ). if nat_le k inode then inode + 1 else k) c.add.ensures.rest.mark)

pub returns-in_err-add-clause-created : goal.returns-in_err-add-clause-created
returns-in_err-add-clause-created g c = λ _ _ _ _ _.
    IfOk-from_err c.from_residual.result _ c.from_residual.ensures.0

pub returns-in_err-add-clause-counts : goal.returns-in_err-add-clause-counts
returns-in_err-add-clause-counts g c = λ _ _ _ _ _.
    IfOk-from_err c.from_residual.result _ c.from_residual.ensures.0

pub returns-in_err-add-clause-names : goal.returns-in_err-add-clause-names
returns-in_err-add-clause-names g c = IfOk-from_err c.from_residual.result _ c.from_residual.ensures.0

pub returns-in_err-add-clause-limit : goal.returns-in_err-add-clause-limit
returns-in_err-add-clause-limit g c = IfOk-from_err c.from_residual.result _ c.from_residual.ensures.0

pub returns-in_err-add-clause-same : goal.returns-in_err-add-clause-same
returns-in_err-add-clause-same g c =
    holds_on_err c.from_residual.result _ (c.in_err-add.ensures.same)

pub returns-clause-same : goal.returns-clause-same
returns-clause-same g c = tt

pub returns-clause-refused : goal.returns-clause-refused
returns-clause-refused g c = λ _ _ _. tt

pub returns-in_default-clause-orderly : goal.returns-in_default-clause-orderly
returns-in_default-clause-orderly g c = λ is _. is

pub returns-in_default-clause-created : goal.returns-in_default-clause-created
returns-in_default-clause-created g c = λ _ _ _ _ _. tt

pub returns-in_default-clause-counts : goal.returns-in_default-clause-counts
returns-in_default-clause-counts g c = λ _ _ _ _ _. tt

pub returns-in_default-clause-names : goal.returns-in_default-clause-names
returns-in_default-clause-names g c = tt

pub returns-in_default-clause-limit : goal.returns-in_default-clause-limit
returns-in_default-clause-limit g c = tt

pub returns-in_default-clause-same : goal.returns-in_default-clause-same
returns-in_default-clause-same g c = refl

pub add-requires : goal.add-requires
add-requires g c = let asked = c.requires in record { directory = (asked.0, asked.1, asked.2, asked.3) }

pub returns-in_err-add-clause-orderly : goal.returns-in_err-add-clause-orderly
returns-in_err-add-clause-orderly g c = λ is dir.
    let asked = c.requires in
    let number = c.in-Some.ensures.number asked.0 asked.2 asked.4 in
    c.in_err-add.ensures.orderly is dir (inr (number.first, number.last))

pub returns-clause-orderly : goal.returns-clause-orderly
returns-clause-orderly g c = λ is dir.
    let asked = c.requires in
    let number = c.in-Some.ensures.number asked.0 asked.2 asked.4 in
    let now =
    c.take_number.ensures.orderly
    (c.in_ok-add.ensures.orderly is dir (inr (number.first, number.last))) in
    record {
      keys = now.keys;
      freed_numbers = now.freed_numbers;
      files = now.files;
      inodes = now.inodes;
      counted = now.counted;
    }

pub returns-clause-names : goal.returns-clause-names
returns-clause-names g c = ap (λ n. n + 1) (c.take_number.ensures.names ∙ c.in_ok-add.ensures.rest.names)

use Rattle.std.proofs.Common.{◌≡◌, ◌≤◌, ℕ, Bool, None, Option, sym, ap, subst, ◌∙◌}
use Rattle.std.specs.Prelude.{is_some}
use Rattle.std.specs.Ordering.{nat_cmp}
use Rattle.std.specs.BTreeMap as map
use Rattle.nl_dirs.specs.declared.record.Record.{Record}
use Rattle.nl_tree.specs.Held.{Holding}
use Rattle.nl_tree.specs.Numbers.{CountsNumbers, IsNumberFreed}
use Rattle.nl_tree.specs.Overlays.{IsDirectoryOf, holding_now, over_if_slot}
use Rattle.nl_tree.specs.Steps.{with_held, with_link_moved}
use Rattle.nl_tree.proofs.Counting.{counts_given, given_here, given_new, held_here, held_others, moved_kept}
use Rattle.std.proofs.lemmas.Result.{IfOk-from_err}
use Rattle.nl_types.specs.declared.error.VolError.TheVariants.{Memory}
use Rattle.nl_tree.specs.Facts.Refusals.{holds_on_err, passed_on}
use Rattle.nl_tree.proofs.overlay.Overlay.rename_onto.Goals as goal

pub move_link-requires : goal.move_link-requires
move_link-requires g c =
    let asked = c.requires.directories in
    let b = asked.0 in
    let same : holding_now c.reserve_number.new.self b ≡ holding_now c.args.self.now b =
    ap (λ m. λ (i : ℕ). over_if_slot (map.get nat_cmp m i) (b i)) c.in_ok-reserve_number.ensures.changed in
    let still : holding_now c.reserve.new.self b ≡ holding_now c.args.self.now b =
    (λ k. λ i. c.in_ok-reserve.ensures.still b i k) ∙ same in
    let from : IsDirectoryOf (holding_now c.reserve.new.self b) c.args.found.now.directory asked.1 =
    (ap (λ (held : Holding). held c.args.found.now.directory) still ∙ asked.4.0.0, asked.4.0.1) in
    let to : IsDirectoryOf (holding_now c.reserve.new.self b) c.args.found.now.target.directory asked.2 =
    (ap (λ (held : Holding). held c.args.found.now.target.directory) still ∙ asked.4.1.0, asked.4.1.1) in
    let names = c.in_ok-reserve_move.ensures.names b asked.1 asked.2 asked.3 (from, to) in
    (asked.1, asked.2, names)

pub returns-clause-moved : goal.returns-clause-moved
returns-clause-moved g c = λ b all others holds are i.
    let same : holding_now c.reserve_number.new.self b ≡ holding_now c.args.self.now b =
    ap (λ m. λ (i : ℕ). over_if_slot (map.get nat_cmp m i) (b i)) c.in_ok-reserve_number.ensures.changed in
    let still : holding_now c.reserve.new.self b ≡ holding_now c.args.self.now b =
    (λ k. λ i. c.in_ok-reserve.ensures.still b i k) ∙ same in
    let from : IsDirectoryOf (holding_now c.reserve.new.self b) c.args.found.now.directory all =
    (ap (λ (held : Holding). held c.args.found.now.directory) still ∙ are.0.0, are.0.1) in
    let to : IsDirectoryOf (holding_now c.reserve.new.self b) c.args.found.now.target.directory others =
    (ap (λ (held : Holding). held c.args.found.now.target.directory) still ∙ are.1.0, are.1.1) in
    let names = c.in_ok-reserve_move.ensures.names b all others holds (from, to) in
    let r : Record = record {
      name = c.args.found.now.target.name.now;
      inode = c.args.found.now.link.0;
      kind = c.args.found.now.link.1;
    } in
    let kept : holding_now c.reserve_move.new.self b ≡ holding_now c.args.self.now b =
    (λ k. λ j. c.in_ok-reserve_move.ensures.still b j k) ∙ still in
    let moved : holding_now c.move_link.new.self b ≡
    with_link_moved c.args.found.now.directory all c.args.found.now.name.now c.args.found.now.target.directory
    others r
    (holding_now c.args.self.now b) =
    (λ k. λ j. c.move_link.ensures.shown all others names b j k)
    ∙ ap (λ (held : Holding).
    with_link_moved c.args.found.now.directory all c.args.found.now.name.now
    c.args.found.now.target.directory others r held)
    kept in
    c.drop_inode.ensures.shown b i ∙ ap (λ (held : Holding). with_held c.args.target None held i) moved

pub returns-clause-counts : goal.returns-clause-counts
returns-clause-counts g c = λ b all others holds are counts low high.
    let old = c.args.self.now in
    let new = c.drop_inode.new.self in
    let target = c.args.target in
    let r : Record = record {
      name = c.args.found.now.target.name.now;
      inode = c.args.found.now.link.0;
      kind = c.args.found.now.link.1;
    } in
    let moved : Holding =
    with_link_moved c.args.found.now.directory all c.args.found.now.name.now
    c.args.found.now.target.directory others r
    (holding_now old b) in
    let get : ℕ → Option Bool = λ n. map.get nat_cmp old.freed n in
    let mid : ℕ → Option Bool = λ n. map.get nat_cmp c.move_link.new.self.freed n in
    let now : ℕ → Option Bool = λ n. map.get nat_cmp new.freed n in
    let kept = c.move_link.ensures.rest.freed ∙ c.in_ok-reserve_move.ensures.rest.freed
    ∙ c.in_ok-reserve.ensures.rest.freed in
    let rest : (n : ℕ) → (n ≡ target → ⊥) → mid n ≡ get n =
    λ n ne. ap (λ f. map.get nat_cmp f n) kept ∙ c.in_ok-reserve_number.ensures.freed n ne in
    let given = given_new get mid now target c.drop_inode.ensures.freed rest in
    let mark : old.mark ≡ new.mark = sym (c.drop_inode.ensures.mark ∙ c.move_link.ensures.rest.mark
    ∙ c.in_ok-reserve_move.ensures.rest.mark ∙ c.in_ok-reserve.ensures.rest.mark
    ∙ c.in_ok-reserve_number.ensures.mark) in
    let shows : (i : ℕ) → holding_now new b i ≡ with_held target None moved i =
    returns-clause-moved g c b all others holds are in
    subst (λ (k : ℕ). CountsNumbers (IsNumberFreed new) k (holding_now new b) b) mark
    (counts_given (IsNumberFreed old) (IsNumberFreed new) old.mark (holding_now old b)
    (holding_now new b) b counts
    target low high (held_here moved (holding_now new b) target None shows)
    (λ m ne. ap is_some (held_others moved (holding_now new b) target None shows m ne)
    ∙ moved_kept (holding_now old b) c.args.found.now.directory c.args.found.now.target.directory all others
    c.args.found.now.name.now r are.0.0 are.1.0 m)
    (given_here mid now target c.drop_inode.ensures.freed)
    (λ m ne f. sym (given m ne) ∙ f) (λ m ne f. given m ne ∙ f))

pub returns-in_err-reserve_number-clause-orderly : goal.returns-in_err-reserve_number-clause-orderly
returns-in_err-reserve_number-clause-orderly g c = λ is from to target.
    c.in_err-reserve_number.ensures.orderly is

pub returns-in_err-reserve_number-clause-moved : goal.returns-in_err-reserve_number-clause-moved
returns-in_err-reserve_number-clause-moved g c = λ _ _ _ _ _.
    IfOk-from_err c.from_residual.result _ c.from_residual.ensures.0

pub returns-in_err-reserve_number-clause-counts : goal.returns-in_err-reserve_number-clause-counts
returns-in_err-reserve_number-clause-counts g c = λ _ _ _ _ _ _ _ _.
    IfOk-from_err c.from_residual.result _ c.from_residual.ensures.0

pub returns-in_err-reserve_number-clause-names : goal.returns-in_err-reserve_number-clause-names
returns-in_err-reserve_number-clause-names g c =
    IfOk-from_err c.from_residual.result _ c.from_residual.ensures.0

pub returns-in_err-reserve_number-clause-same : goal.returns-in_err-reserve_number-clause-same
returns-in_err-reserve_number-clause-same g c =
    holds_on_err c.from_residual.result _ (c.in_err-reserve_number.ensures.same)

pub returns-in_err-reserve_number-clause-refused : goal.returns-in_err-reserve_number-clause-refused
returns-in_err-reserve_number-clause-refused g c =
    passed_on c.from_residual.result c.in_err-reserve_number.field-0.0 Memory c.from_residual.ensures.1
    c.in_err-reserve_number.ensures.refused

pub returns-in_err-reserve-clause-orderly : goal.returns-in_err-reserve-clause-orderly
returns-in_err-reserve-clause-orderly g c = λ is from to target.
    c.in_err-reserve.ensures.orderly (c.in_ok-reserve_number.ensures.orderly is) target

pub returns-in_err-reserve-clause-moved : goal.returns-in_err-reserve-clause-moved
returns-in_err-reserve-clause-moved g c = λ _ _ _ _ _.
    IfOk-from_err c.from_residual-in_err-reserve.result _ c.from_residual-in_err-reserve.ensures.0

pub returns-in_err-reserve-clause-counts : goal.returns-in_err-reserve-clause-counts
returns-in_err-reserve-clause-counts g c = λ _ _ _ _ _ _ _ _.
    IfOk-from_err c.from_residual-in_err-reserve.result _ c.from_residual-in_err-reserve.ensures.0

pub returns-in_err-reserve-clause-names : goal.returns-in_err-reserve-clause-names
returns-in_err-reserve-clause-names g c =
    IfOk-from_err c.from_residual-in_err-reserve.result _ c.from_residual-in_err-reserve.ensures.0

pub returns-in_err-reserve-clause-same : goal.returns-in_err-reserve-clause-same
returns-in_err-reserve-clause-same g c =
    holds_on_err c.from_residual-in_err-reserve.result _
    (c.in_err-reserve.ensures.same ∙ c.in_ok-reserve_number.ensures.same)

pub returns-in_err-reserve-clause-refused : goal.returns-in_err-reserve-clause-refused
returns-in_err-reserve-clause-refused g c =
    passed_on c.from_residual-in_err-reserve.result c.in_err-reserve.field-0.0 Memory
    c.from_residual-in_err-reserve.ensures.1 c.in_err-reserve.ensures.refused

pub returns-in_err-reserve_move-clause-orderly : goal.returns-in_err-reserve_move-clause-orderly
returns-in_err-reserve_move-clause-orderly g c = λ is from to target.
    c.in_err-reserve_move.ensures.orderly
    (c.in_ok-reserve.ensures.orderly (c.in_ok-reserve_number.ensures.orderly is) target) from to

pub returns-in_err-reserve_move-clause-moved : goal.returns-in_err-reserve_move-clause-moved
returns-in_err-reserve_move-clause-moved g c = λ _ _ _ _ _.
    IfOk-from_err c.from_residual-in_err-reserve_move.result _ c.from_residual-in_err-reserve_move.ensures.0

pub returns-in_err-reserve_move-clause-counts : goal.returns-in_err-reserve_move-clause-counts
returns-in_err-reserve_move-clause-counts g c = λ _ _ _ _ _ _ _ _.
    IfOk-from_err c.from_residual-in_err-reserve_move.result _ c.from_residual-in_err-reserve_move.ensures.0

pub returns-in_err-reserve_move-clause-names : goal.returns-in_err-reserve_move-clause-names
returns-in_err-reserve_move-clause-names g c =
    IfOk-from_err c.from_residual-in_err-reserve_move.result _ c.from_residual-in_err-reserve_move.ensures.0

pub returns-in_err-reserve_move-clause-same : goal.returns-in_err-reserve_move-clause-same
returns-in_err-reserve_move-clause-same g c =
    holds_on_err c.from_residual-in_err-reserve_move.result _
    (c.in_err-reserve_move.ensures.same ∙ c.in_ok-reserve.ensures.same
    ∙ c.in_ok-reserve_number.ensures.same)

pub returns-in_err-reserve_move-clause-refused : goal.returns-in_err-reserve_move-clause-refused
returns-in_err-reserve_move-clause-refused g c =
    passed_on c.from_residual-in_err-reserve_move.result c.in_err-reserve_move.field-0.0 Memory
    c.from_residual-in_err-reserve_move.ensures.1 c.in_err-reserve_move.ensures.refused

pub reserve_move-requires : goal.reserve_move-requires
reserve_move-requires g c =
    let asked = c.requires.directories in
    let b = asked.0 in
    let same : holding_now c.reserve_number.new.self b ≡ holding_now c.args.self.now b =
    ap (λ m. λ (i : ℕ). over_if_slot (map.get nat_cmp m i) (b i)) c.in_ok-reserve_number.ensures.changed in
    let still : holding_now c.reserve.new.self b ≡ holding_now c.args.self.now b =
    (λ k. λ i. c.in_ok-reserve.ensures.still b i k) ∙ same in
    let from : IsDirectoryOf (holding_now c.reserve.new.self b) c.args.found.now.directory asked.1 =
    (ap (λ (held : Holding). held c.args.found.now.directory) still ∙ asked.4.0.0, asked.4.0.1) in
    let to : IsDirectoryOf (holding_now c.reserve.new.self b) c.args.found.now.target.directory asked.2 =
    (ap (λ (held : Holding). held c.args.found.now.target.directory) still ∙ asked.4.1.0, asked.4.1.1) in
    (b, asked.1, asked.2, asked.3, (from, to))

pub drop_inode-requires-clause-slot : goal.drop_inode-requires-clause-slot
drop_inode-requires-clause-slot g c =
    c.move_link.ensures.places c.args.target
    (c.in_ok-reserve_move.ensures.places c.args.target c.in_ok-reserve.ensures.place)

pub drop_inode-requires-clause-number : goal.drop_inode-requires-clause-number
drop_inode-requires-clause-number g c =
    ap (λ freed. is_some (map.get nat_cmp freed c.args.target))
    (c.move_link.ensures.rest.freed ∙ c.in_ok-reserve_move.ensures.rest.freed
    ∙ c.in_ok-reserve.ensures.rest.freed)
    ∙ c.in_ok-reserve_number.ensures.place

pub drop_inode-requires-clause-counted : goal.drop_inode-requires-clause-counted
drop_inode-requires-clause-counted g c =
    let names : c.move_link.new.self.names ≡ c.args.self.now.names =
    c.move_link.ensures.rest.names ∙ c.in_ok-reserve_move.ensures.rest.names
    ∙ c.in_ok-reserve.ensures.rest.names
    ∙ c.in_ok-reserve_number.ensures.names in
    subst (λ (n : ℕ). 1 ≤ n) (sym names) c.requires.counted

pub returns-clause-orderly : goal.returns-clause-orderly
returns-clause-orderly g c = λ is from to target.
    c.drop_inode.ensures.orderly (c.move_link.ensures.orderly (c.in_ok-reserve_move.ensures.orderly
    (c.in_ok-reserve.ensures.orderly (c.in_ok-reserve_number.ensures.orderly is) target) from to))

pub returns-clause-names : goal.returns-clause-names
returns-clause-names g c = c.drop_inode.ensures.names ∙ c.move_link.ensures.rest.names
    ∙ c.in_ok-reserve_move.ensures.rest.names ∙ c.in_ok-reserve.ensures.rest.names
    ∙ c.in_ok-reserve_number.ensures.names

pub returns-clause-same : goal.returns-clause-same
returns-clause-same g c = tt

pub returns-clause-refused : goal.returns-clause-refused
returns-clause-refused g c = tt

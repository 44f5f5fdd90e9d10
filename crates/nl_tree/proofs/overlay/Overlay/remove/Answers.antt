use Rattle.std.proofs.Common.{◌≡◌, ◌≤◌, ℕ, Bool, None, Option, ap, sym, subst, ◌∙◌}
use Rattle.std.specs.Prelude.{is_some}
use Rattle.std.specs.Ordering.{nat_cmp}
use Rattle.std.specs.BTreeMap as map
use Rattle.nl_tree.specs.Numbers.{CountsNumbers, IsNumberFreed}
use Rattle.nl_tree.specs.Records.{without_record}
use Rattle.nl_tree.specs.Overlays.{HasName, IsDirectoryOf, holding_now, over_if_slot}
use Rattle.nl_tree.proofs.Counting.{as_before, counts_given, here, given_here, given_new}
use Rattle.nl_tree.specs.Facts.Places.{removed}
use Rattle.std.proofs.lemmas.Result.{IfOk-from_err}
use Rattle.nl_types.specs.declared.error.VolError.TheVariants.{Memory}
use Rattle.nl_tree.specs.Facts.Refusals.{holds_on_err, passed_on}
use Rattle.nl_tree.proofs.overlay.Overlay.remove.Goals as goal

pub unlink-requires : goal.unlink-requires
unlink-requires g c =
    let there = c.requires.directory in
    let same : holding_now c.reserve_number.new.self there.0 c.args.dir
    ≡ holding_now c.args.self.now there.0 c.args.dir =
    ap (λ m. over_if_slot (map.get nat_cmp m c.args.dir) (there.0 c.args.dir))
    c.in_ok-reserve_number.ensures.changed in
    let is : IsDirectoryOf (holding_now c.reserve.new.self there.0) c.args.dir there.1 =
    (c.in_ok-reserve.ensures.still there.0 c.args.dir ∙ same ∙ there.3.0, there.3.1) in (
      there.1,
      c.in_ok-reserve_name.ensures.place there.1
          (c.in_ok-open_directory.ensures.open there.0 there.1 there.2 is),
    )

pub returns-clause-removed : goal.returns-clause-removed
returns-clause-removed g c = λ b all holds there.
    let old = holding_now c.args.self.now b in
    let same : (i : ℕ) → holding_now c.reserve_number.new.self b i ≡ old i =
    λ i. ap (λ m. over_if_slot (map.get nat_cmp m i) (b i)) c.in_ok-reserve_number.ensures.changed in
    let is : IsDirectoryOf (holding_now c.reserve.new.self b) c.args.dir all =
    (c.in_ok-reserve.ensures.still b c.args.dir ∙ same c.args.dir ∙ there.0, there.1) in
    let has : HasName c.reserve_name.new.self c.args.dir all c.args.name.now =
    c.in_ok-reserve_name.ensures.place all (c.in_ok-open_directory.ensures.open b all holds is) in
    removed old (holding_now c.reserve_name.new.self b) (holding_now c.unlink.new.self b)
    (holding_now c.drop_inode.new.self b) c.args.dir c.args.inode c.args.name.now all
    (λ i. c.in_ok-reserve_name.ensures.still b i ∙ c.in_ok-open_directory.ensures.still b i
    ∙ c.in_ok-reserve.ensures.still b i ∙ same i)
    (c.unlink.ensures.shown all has b)
    (c.drop_inode.ensures.shown b)

pub returns-clause-counts : goal.returns-clause-counts
returns-clause-counts g c = λ b all holds is counts low high.
    let old = c.args.self.now in
    let new = c.drop_inode.new.self in
    let inode = c.args.inode in
    let get : ℕ → Option Bool = λ n. map.get nat_cmp old.freed n in
    let mid : ℕ → Option Bool = λ n. map.get nat_cmp c.unlink.new.self.freed n in
    let now : ℕ → Option Bool = λ n. map.get nat_cmp new.freed n in
    let kept = c.unlink.ensures.rest.freed ∙ c.in_ok-reserve_name.ensures.rest.freed
    ∙ c.in_ok-open_directory.ensures.rest.freed ∙ c.in_ok-reserve.ensures.rest.freed in
    let others : (n : ℕ) → (n ≡ inode → ⊥) → mid n ≡ get n =
    λ n ne. ap (λ f. map.get nat_cmp f n) kept ∙ c.in_ok-reserve_number.ensures.freed n ne in
    let given = given_new get mid now inode c.drop_inode.ensures.freed others in
    let mark : old.mark ≡ new.mark = sym (c.drop_inode.ensures.mark ∙ c.unlink.ensures.rest.mark
    ∙ c.in_ok-reserve_name.ensures.rest.mark ∙ c.in_ok-open_directory.ensures.rest.mark
    ∙ c.in_ok-reserve.ensures.rest.mark ∙ c.in_ok-reserve_number.ensures.mark) in
    subst (λ (k : ℕ). CountsNumbers (IsNumberFreed new) k (holding_now new b) b) mark
    (counts_given (IsNumberFreed old) (IsNumberFreed new) old.mark (holding_now old b)
    (holding_now new b) b counts
    inode low high (here (holding_now old b) (holding_now new b) inode c.args.dir None all
    (without_record c.args.name.now all)
    is.0 (returns-clause-removed g c b all holds is))
    (as_before (holding_now old b) (holding_now new b) inode c.args.dir None all
    (without_record c.args.name.now all)
    is.0 (returns-clause-removed g c b all holds is))
    (given_here mid now inode c.drop_inode.ensures.freed)
    (λ m ne f. sym (given m ne) ∙ f) (λ m ne f. given m ne ∙ f))

pub returns-clause-orderly : goal.returns-clause-orderly
returns-clause-orderly g c = λ is dir inode.
    c.drop_inode.ensures.orderly (c.unlink.ensures.orderly (c.in_ok-reserve_name.ensures.orderly
    (c.in_ok-open_directory.ensures.orderly
    (c.in_ok-reserve.ensures.orderly (c.in_ok-reserve_number.ensures.orderly is) inode) dir)))

pub drop_inode-requires-clause-slot : goal.drop_inode-requires-clause-slot
drop_inode-requires-clause-slot g c =
    c.unlink.ensures.places c.args.inode (c.in_ok-reserve_name.ensures.places c.args.inode
    (c.in_ok-open_directory.ensures.places c.args.inode c.in_ok-reserve.ensures.place))

pub drop_inode-requires-clause-number : goal.drop_inode-requires-clause-number
drop_inode-requires-clause-number g c =
    ap (λ freed. is_some (map.get nat_cmp freed c.args.inode))
    (c.unlink.ensures.rest.freed ∙ c.in_ok-reserve_name.ensures.rest.freed
    ∙ c.in_ok-open_directory.ensures.rest.freed
    ∙ c.in_ok-reserve.ensures.rest.freed)
    ∙ c.in_ok-reserve_number.ensures.place

pub drop_inode-requires-clause-counted : goal.drop_inode-requires-clause-counted
drop_inode-requires-clause-counted g c =
    let names : c.unlink.new.self.names ≡ c.args.self.now.names =
    c.unlink.ensures.rest.names ∙ c.in_ok-reserve_name.ensures.rest.names
    ∙ c.in_ok-open_directory.ensures.rest.names
    ∙ c.in_ok-reserve.ensures.rest.names ∙ c.in_ok-reserve_number.ensures.names in
    subst (λ (n : ℕ). 1 ≤ n) (sym names) c.requires.counted

pub returns-clause-names : goal.returns-clause-names
returns-clause-names g c =
    c.drop_inode.ensures.names ∙ c.unlink.ensures.rest.names ∙ c.in_ok-reserve_name.ensures.rest.names
    ∙ c.in_ok-open_directory.ensures.rest.names ∙ c.in_ok-reserve.ensures.rest.names
    ∙ c.in_ok-reserve_number.ensures.names

pub open_directory-requires : goal.open_directory-requires
open_directory-requires g c =
    let there = c.requires.directory in
    let same : holding_now c.reserve_number.new.self there.0 c.args.dir
    ≡ holding_now c.args.self.now there.0 c.args.dir =
    ap (λ m. over_if_slot (map.get nat_cmp m c.args.dir) (there.0 c.args.dir))
    c.in_ok-reserve_number.ensures.changed in (
      there.0,
      there.1,
      there.2,
      (c.in_ok-reserve.ensures.still there.0 c.args.dir ∙ same ∙ there.3.0, there.3.1),
    )

pub returns-clause-same : goal.returns-clause-same
returns-clause-same g c = tt

pub returns-clause-refused : goal.returns-clause-refused
returns-clause-refused g c = tt

pub returns-in_err-reserve_number-clause-orderly : goal.returns-in_err-reserve_number-clause-orderly
returns-in_err-reserve_number-clause-orderly g c = λ is dir inode.
    c.in_err-reserve_number.ensures.orderly is

pub returns-in_err-reserve_number-clause-removed : goal.returns-in_err-reserve_number-clause-removed
returns-in_err-reserve_number-clause-removed g c = λ _ _ _ _.
    IfOk-from_err c.from_residual.result _ c.from_residual.ensures.0

pub returns-in_err-reserve_number-clause-counts : goal.returns-in_err-reserve_number-clause-counts
returns-in_err-reserve_number-clause-counts g c = λ _ _ _ _ _ _ _.
    IfOk-from_err c.from_residual.result _ c.from_residual.ensures.0

pub returns-in_err-reserve_number-clause-names : goal.returns-in_err-reserve_number-clause-names
returns-in_err-reserve_number-clause-names g c =
    IfOk-from_err c.from_residual.result _ c.from_residual.ensures.0

pub returns-in_err-reserve_number-clause-same : goal.returns-in_err-reserve_number-clause-same
returns-in_err-reserve_number-clause-same g c =
    holds_on_err c.from_residual.result _ (c.in_err-reserve_number.ensures.same)

pub returns-in_err-reserve_number-clause-refused : goal.returns-in_err-reserve_number-clause-refused
returns-in_err-reserve_number-clause-refused g c =
    passed_on c.from_residual.result c.in_err-reserve_number.field-0.0 Memory c.from_residual.ensures.1
    c.in_err-reserve_number.ensures.refused

pub returns-in_err-reserve-clause-orderly : goal.returns-in_err-reserve-clause-orderly
returns-in_err-reserve-clause-orderly g c = λ is dir inode.
    c.in_err-reserve.ensures.orderly (c.in_ok-reserve_number.ensures.orderly is) inode

pub returns-in_err-reserve-clause-removed : goal.returns-in_err-reserve-clause-removed
returns-in_err-reserve-clause-removed g c = λ _ _ _ _.
    IfOk-from_err c.from_residual-in_err-reserve.result _ c.from_residual-in_err-reserve.ensures.0

pub returns-in_err-reserve-clause-counts : goal.returns-in_err-reserve-clause-counts
returns-in_err-reserve-clause-counts g c = λ _ _ _ _ _ _ _.
    IfOk-from_err c.from_residual-in_err-reserve.result _ c.from_residual-in_err-reserve.ensures.0

pub returns-in_err-reserve-clause-names : goal.returns-in_err-reserve-clause-names
returns-in_err-reserve-clause-names g c =
    IfOk-from_err c.from_residual-in_err-reserve.result _ c.from_residual-in_err-reserve.ensures.0

pub returns-in_err-reserve-clause-same : goal.returns-in_err-reserve-clause-same
returns-in_err-reserve-clause-same g c =
    holds_on_err c.from_residual-in_err-reserve.result _
    (c.in_err-reserve.ensures.same ∙ c.in_ok-reserve_number.ensures.same)

pub returns-in_err-reserve-clause-refused : goal.returns-in_err-reserve-clause-refused
returns-in_err-reserve-clause-refused g c =
    passed_on c.from_residual-in_err-reserve.result c.in_err-reserve.field-0.0 Memory
    c.from_residual-in_err-reserve.ensures.1 c.in_err-reserve.ensures.refused

pub returns-in_err-open_directory-clause-orderly : goal.returns-in_err-open_directory-clause-orderly
returns-in_err-open_directory-clause-orderly g c = λ is dir inode.
    c.in_err-open_directory.ensures.orderly
    (c.in_ok-reserve.ensures.orderly (c.in_ok-reserve_number.ensures.orderly is) inode) dir

pub returns-in_err-open_directory-clause-removed : goal.returns-in_err-open_directory-clause-removed
returns-in_err-open_directory-clause-removed g c = λ _ _ _ _.
    IfOk-from_err c.from_residual-in_err-open_directory.result _
    c.from_residual-in_err-open_directory.ensures.0

pub returns-in_err-open_directory-clause-counts : goal.returns-in_err-open_directory-clause-counts
returns-in_err-open_directory-clause-counts g c = λ _ _ _ _ _ _ _.
    IfOk-from_err c.from_residual-in_err-open_directory.result _
    c.from_residual-in_err-open_directory.ensures.0

pub returns-in_err-open_directory-clause-names : goal.returns-in_err-open_directory-clause-names
returns-in_err-open_directory-clause-names g c =
    IfOk-from_err c.from_residual-in_err-open_directory.result _
    c.from_residual-in_err-open_directory.ensures.0

pub returns-in_err-open_directory-clause-same : goal.returns-in_err-open_directory-clause-same
returns-in_err-open_directory-clause-same g c =
    holds_on_err c.from_residual-in_err-open_directory.result _
    (c.in_err-open_directory.ensures.same ∙ c.in_ok-reserve.ensures.same
    ∙ c.in_ok-reserve_number.ensures.same)

pub returns-in_err-open_directory-clause-refused : goal.returns-in_err-open_directory-clause-refused
returns-in_err-open_directory-clause-refused g c =
    passed_on c.from_residual-in_err-open_directory.result c.in_err-open_directory.field-0.0 Memory
    c.from_residual-in_err-open_directory.ensures.1 c.in_err-open_directory.ensures.refused

pub returns-in_err-reserve_name-clause-orderly : goal.returns-in_err-reserve_name-clause-orderly
returns-in_err-reserve_name-clause-orderly g c = λ is dir inode.
    c.in_err-reserve_name.ensures.orderly
    (c.in_ok-open_directory.ensures.orderly
    (c.in_ok-reserve.ensures.orderly (c.in_ok-reserve_number.ensures.orderly is) inode) dir)

pub returns-in_err-reserve_name-clause-removed : goal.returns-in_err-reserve_name-clause-removed
returns-in_err-reserve_name-clause-removed g c = λ _ _ _ _.
    IfOk-from_err c.from_residual-in_err-reserve_name.result _ c.from_residual-in_err-reserve_name.ensures.0

pub returns-in_err-reserve_name-clause-counts : goal.returns-in_err-reserve_name-clause-counts
returns-in_err-reserve_name-clause-counts g c = λ _ _ _ _ _ _ _.
    IfOk-from_err c.from_residual-in_err-reserve_name.result _ c.from_residual-in_err-reserve_name.ensures.0

pub returns-in_err-reserve_name-clause-names : goal.returns-in_err-reserve_name-clause-names
returns-in_err-reserve_name-clause-names g c =
    IfOk-from_err c.from_residual-in_err-reserve_name.result _ c.from_residual-in_err-reserve_name.ensures.0

pub returns-in_err-reserve_name-clause-same : goal.returns-in_err-reserve_name-clause-same
returns-in_err-reserve_name-clause-same g c =
    holds_on_err c.from_residual-in_err-reserve_name.result _
    (c.in_err-reserve_name.ensures.same ∙ c.in_ok-open_directory.ensures.same ∙ c.in_ok-reserve.ensures.same
    ∙ c.in_ok-reserve_number.ensures.same)

pub returns-in_err-reserve_name-clause-refused : goal.returns-in_err-reserve_name-clause-refused
returns-in_err-reserve_name-clause-refused g c =
    passed_on c.from_residual-in_err-reserve_name.result c.in_err-reserve_name.field-0.0 Memory
    c.from_residual-in_err-reserve_name.ensures.1 c.in_err-reserve_name.ensures.refused

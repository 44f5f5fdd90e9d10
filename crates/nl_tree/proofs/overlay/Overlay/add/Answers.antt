use Rattle.std.proofs.Common.{rules, refl, ◌∙◌}
use Rattle.nl_tree.specs.Overlays.{HasName, IsDirectoryOf, holding_now, over_changed}
use Rattle.nl_tree.specs.Facts.Places.{added}
use Rattle.std.proofs.lemmas.Result.{IfOk-from_err}
use Rattle.nl_types.specs.declared.error.VolError.TheVariants.{Memory}
use Rattle.nl_tree.specs.Facts.Refusals.{holds_on_err, passed_on}
use Rattle.nl_tree.proofs.overlay.Overlay.add.Goals as goal

pub link-requires : goal.link-requires
link-requires g c =
    let there = c.requires.directory in
    let is : IsDirectoryOf (holding_now c.reserve.new.self there.0) c.args.dir there.1 =
    (c.in_ok-reserve.ensures.still there.0 c.args.dir ∙ there.3.0, there.3.1) in (
      there.1,
      c.in_ok-reserve_name.ensures.place there.1
          (c.in_ok-open_directory.ensures.open there.0 there.1 there.2 is),
    )

pub returns-clause-added : goal.returns-clause-added
returns-clause-added g c = λ b all holds there.
    let old = holding_now c.args.self.now b in
    let is : IsDirectoryOf (holding_now c.reserve.new.self b) c.args.dir all =
    (c.in_ok-reserve.ensures.still b c.args.dir ∙ there.0, there.1) in
    let has : HasName c.reserve_name.new.self c.args.dir all c.args.name.now =
    c.in_ok-reserve_name.ensures.place all (c.in_ok-open_directory.ensures.open b all holds is) in
    added old (holding_now c.reserve_name.new.self b) (holding_now c.link.new.self b)
    (holding_now c.show.new.self b)
    (λ i. over_changed c.empty.result (b i)) c.args.dir c.args.inode c.args.inode c.args.name.now c.args.kind
    all
    (λ i. c.in_ok-reserve_name.ensures.still b i ∙ c.in_ok-open_directory.ensures.still b i
    ∙ c.in_ok-reserve.ensures.still b i)
    (c.link.ensures.shown all has b) refl (c.show.ensures.shown b) (λ i. c.empty.ensures (b i))

pub returns-clause-orderly : goal.returns-clause-orderly
returns-clause-orderly g c = λ is dir inode.
    c.show.ensures.orderly
    (c.link.ensures.orderly (c.in_ok-reserve_name.ensures.orderly (c.in_ok-open_directory.ensures.orderly
    (c.in_ok-reserve.ensures.orderly is inode) dir)))
    (search rules)

pub returns-in_err-reserve-clause-orderly : goal.returns-in_err-reserve-clause-orderly
returns-in_err-reserve-clause-orderly g c = λ is dir inode.
    c.in_err-reserve.ensures.orderly is inode

pub returns-in_err-reserve-clause-added : goal.returns-in_err-reserve-clause-added
returns-in_err-reserve-clause-added g c = λ _ _ _ _.
    IfOk-from_err c.from_residual.result _ c.from_residual.ensures.0

pub returns-in_err-reserve-clause-rest : goal.returns-in_err-reserve-clause-rest
returns-in_err-reserve-clause-rest g c = record {
  freed = c.in_err-reserve.ensures.rest.freed;
  mark = c.in_err-reserve.ensures.rest.mark;
  names = c.in_err-reserve.ensures.rest.names;
}

pub returns-in_err-reserve-clause-same : goal.returns-in_err-reserve-clause-same
returns-in_err-reserve-clause-same g c =
    holds_on_err c.from_residual.result _ (c.in_err-reserve.ensures.same)

pub returns-in_err-reserve-clause-refused : goal.returns-in_err-reserve-clause-refused
returns-in_err-reserve-clause-refused g c =
    passed_on c.from_residual.result c.in_err-reserve.field-0.0 Memory c.from_residual.ensures.1
    c.in_err-reserve.ensures.refused

pub returns-in_err-open_directory-clause-orderly : goal.returns-in_err-open_directory-clause-orderly
returns-in_err-open_directory-clause-orderly g c = λ is dir inode.
    c.in_err-open_directory.ensures.orderly (c.in_ok-reserve.ensures.orderly is inode) dir

pub returns-in_err-open_directory-clause-added : goal.returns-in_err-open_directory-clause-added
returns-in_err-open_directory-clause-added g c = λ _ _ _ _.
    IfOk-from_err c.from_residual-in_err-open_directory.result _
    c.from_residual-in_err-open_directory.ensures.0

pub returns-in_err-open_directory-clause-rest : goal.returns-in_err-open_directory-clause-rest
returns-in_err-open_directory-clause-rest g c = record {
  freed = c.in_err-open_directory.ensures.rest.freed ∙ c.in_ok-reserve.ensures.rest.freed;
  mark = c.in_err-open_directory.ensures.rest.mark ∙ c.in_ok-reserve.ensures.rest.mark;
  names = c.in_err-open_directory.ensures.rest.names ∙ c.in_ok-reserve.ensures.rest.names;
}

pub returns-in_err-open_directory-clause-same : goal.returns-in_err-open_directory-clause-same
returns-in_err-open_directory-clause-same g c =
    holds_on_err c.from_residual-in_err-open_directory.result _
    (c.in_err-open_directory.ensures.same ∙ c.in_ok-reserve.ensures.same)

pub returns-in_err-open_directory-clause-refused : goal.returns-in_err-open_directory-clause-refused
returns-in_err-open_directory-clause-refused g c =
    passed_on c.from_residual-in_err-open_directory.result c.in_err-open_directory.field-0.0 Memory
    c.from_residual-in_err-open_directory.ensures.1 c.in_err-open_directory.ensures.refused

pub returns-in_err-reserve_name-clause-orderly : goal.returns-in_err-reserve_name-clause-orderly
returns-in_err-reserve_name-clause-orderly g c = λ is dir inode.
    c.in_err-reserve_name.ensures.orderly
    (c.in_ok-open_directory.ensures.orderly (c.in_ok-reserve.ensures.orderly is inode) dir)

pub returns-in_err-reserve_name-clause-added : goal.returns-in_err-reserve_name-clause-added
returns-in_err-reserve_name-clause-added g c = λ _ _ _ _.
    IfOk-from_err c.from_residual-in_err-reserve_name.result _ c.from_residual-in_err-reserve_name.ensures.0

pub returns-in_err-reserve_name-clause-rest : goal.returns-in_err-reserve_name-clause-rest
returns-in_err-reserve_name-clause-rest g c = record {
  freed =
      c.in_err-reserve_name.ensures.rest.freed ∙ c.in_ok-open_directory.ensures.rest.freed
      ∙ c.in_ok-reserve.ensures.rest.freed;
  mark =
      c.in_err-reserve_name.ensures.rest.mark ∙ c.in_ok-open_directory.ensures.rest.mark
      ∙ c.in_ok-reserve.ensures.rest.mark;
  names =
      c.in_err-reserve_name.ensures.rest.names ∙ c.in_ok-open_directory.ensures.rest.names
      ∙ c.in_ok-reserve.ensures.rest.names;
}

pub returns-in_err-reserve_name-clause-same : goal.returns-in_err-reserve_name-clause-same
returns-in_err-reserve_name-clause-same g c =
    holds_on_err c.from_residual-in_err-reserve_name.result _
    (c.in_err-reserve_name.ensures.same ∙ c.in_ok-open_directory.ensures.same
    ∙ c.in_ok-reserve.ensures.same)

pub returns-in_err-reserve_name-clause-refused : goal.returns-in_err-reserve_name-clause-refused
returns-in_err-reserve_name-clause-refused g c =
    passed_on c.from_residual-in_err-reserve_name.result c.in_err-reserve_name.field-0.0 Memory
    c.from_residual-in_err-reserve_name.ensures.1 c.in_err-reserve_name.ensures.refused

pub open_directory-requires : goal.open_directory-requires
open_directory-requires g c =
    let there = c.requires.directory in
    (there.0, there.1, there.2, (c.in_ok-reserve.ensures.still there.0 c.args.dir ∙ there.3.0, there.3.1))

pub show-requires : goal.show-requires
show-requires g c =
    c.link.ensures.places c.args.inode (c.in_ok-reserve_name.ensures.places c.args.inode
    (c.in_ok-open_directory.ensures.places c.args.inode c.in_ok-reserve.ensures.place))

pub returns-clause-rest : goal.returns-clause-rest
returns-clause-rest g c = record {
  freed = c.show.ensures.rest.freed ∙ c.link.ensures.rest.freed ∙ c.in_ok-reserve_name.ensures.rest.freed
      ∙ c.in_ok-open_directory.ensures.rest.freed ∙ c.in_ok-reserve.ensures.rest.freed;
  mark = c.show.ensures.rest.mark ∙ c.link.ensures.rest.mark ∙ c.in_ok-reserve_name.ensures.rest.mark
      ∙ c.in_ok-open_directory.ensures.rest.mark ∙ c.in_ok-reserve.ensures.rest.mark;
  names = c.show.ensures.rest.names ∙ c.link.ensures.rest.names ∙ c.in_ok-reserve_name.ensures.rest.names
      ∙ c.in_ok-open_directory.ensures.rest.names ∙ c.in_ok-reserve.ensures.rest.names;
}

pub returns-clause-same : goal.returns-clause-same
returns-clause-same g c = tt

pub returns-clause-refused : goal.returns-clause-refused
returns-clause-refused g c = tt

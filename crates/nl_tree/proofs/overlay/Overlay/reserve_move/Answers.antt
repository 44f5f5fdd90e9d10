use Rattle.std.proofs.Common.{sym, ap, ◌∙◌}
use Rattle.std.proofs.lemmas.Result.{IfOk-from_err, on_ok_weaker}
use Rattle.nl_tree.specs.Overlays.{HasListing, HasName, IsDirectoryOf, holding_now}
use Rattle.nl_tree.specs.Facts.Places.{stays_open}
use Rattle.nl_types.specs.declared.error.VolError.TheVariants.{Memory}
use Rattle.nl_tree.specs.Facts.Refusals.{passed_on}
use Rattle.nl_tree.proofs.overlay.Overlay.reserve_move.Goals as goal

pub returns-clause-names : goal.returns-clause-names
returns-clause-names g c = λ b all others holds are.
    let opened = c.open_directory.new.self in
    let both = c.open_directory-2.new.self in
    let from = c.args.found.now.directory in
    let to = c.args.found.now.target.directory in
    let still = c.in_ok-open_directory.ensures.still b in
    let into : IsDirectoryOf (holding_now opened b) to others = (still to ∙ are.1.0, are.1.1) in
    let first : HasListing opened from all = c.in_ok-open_directory.ensures.open b all holds are.0 in
    let second : HasListing both to others = c.in_ok-open_directory-2.ensures.open b others holds into in
    let both_open : HasListing both from all = stays_open both from to all
    (λ e. c.in_ok-open_directory-2.ensures.open b all holds
    (ap (holding_now opened b) (sym e) ∙ still from ∙ are.0.0, are.0.1))
    (λ ne. c.in_ok-open_directory-2.ensures.others from all ne first) in
    let named : HasName c.reserve_name.new.self from all c.args.found.now.name.now =
    c.in_ok-reserve_name.ensures.place all both_open in
    on_ok_weaker c.reserve_name-2.result
    (λ also. (c.reserve_name-2.ensures.names from all c.args.found.now.name.now named, also))
    (c.reserve_name-2.ensures.place others (c.in_ok-reserve_name.ensures.listings to others second))

pub returns-in_err-open_directory-clause-orderly : goal.returns-in_err-open_directory-clause-orderly
returns-in_err-open_directory-clause-orderly g c = λ is from to.
    c.in_err-open_directory.ensures.orderly is from

pub returns-in_err-open_directory-clause-same : goal.returns-in_err-open_directory-clause-same
returns-in_err-open_directory-clause-same g c = c.in_err-open_directory.ensures.same

pub returns-in_err-open_directory-clause-rest : goal.returns-in_err-open_directory-clause-rest
returns-in_err-open_directory-clause-rest g c = record {
  freed = c.in_err-open_directory.ensures.rest.freed;
  mark = c.in_err-open_directory.ensures.rest.mark;
  names = c.in_err-open_directory.ensures.rest.names;
}

pub returns-in_err-open_directory-clause-still : goal.returns-in_err-open_directory-clause-still
returns-in_err-open_directory-clause-still g c = λ b i. c.in_err-open_directory.ensures.still b i

pub returns-in_err-open_directory-clause-places : goal.returns-in_err-open_directory-clause-places
returns-in_err-open_directory-clause-places g c = λ i has. c.in_err-open_directory.ensures.places i has

pub returns-in_err-open_directory-clause-names : goal.returns-in_err-open_directory-clause-names
returns-in_err-open_directory-clause-names g c = λ _ _ _ _ _.
    IfOk-from_err c.from_residual.result _ c.from_residual.ensures.0

pub returns-in_err-open_directory-clause-refused : goal.returns-in_err-open_directory-clause-refused
returns-in_err-open_directory-clause-refused g c =
    passed_on c.from_residual.result c.in_err-open_directory.field-0.0 Memory c.from_residual.ensures.1
    c.in_err-open_directory.ensures.refused

pub returns-in_err-open_directory-2-clause-orderly : goal.returns-in_err-open_directory-2-clause-orderly
returns-in_err-open_directory-2-clause-orderly g c = λ is from to.
    c.in_err-open_directory-2.ensures.orderly (c.in_ok-open_directory.ensures.orderly is from) to

pub returns-in_err-open_directory-2-clause-same : goal.returns-in_err-open_directory-2-clause-same
returns-in_err-open_directory-2-clause-same g c =
    c.in_err-open_directory-2.ensures.same ∙ c.in_ok-open_directory.ensures.same

pub returns-in_err-open_directory-2-clause-rest : goal.returns-in_err-open_directory-2-clause-rest
returns-in_err-open_directory-2-clause-rest g c = record {
  freed = c.in_err-open_directory-2.ensures.rest.freed ∙ c.in_ok-open_directory.ensures.rest.freed;
  mark = c.in_err-open_directory-2.ensures.rest.mark ∙ c.in_ok-open_directory.ensures.rest.mark;
  names = c.in_err-open_directory-2.ensures.rest.names ∙ c.in_ok-open_directory.ensures.rest.names;
}

pub returns-in_err-open_directory-2-clause-still : goal.returns-in_err-open_directory-2-clause-still
returns-in_err-open_directory-2-clause-still g c = λ b i.
    c.in_err-open_directory-2.ensures.still b i ∙ c.in_ok-open_directory.ensures.still b i

pub returns-in_err-open_directory-2-clause-places : goal.returns-in_err-open_directory-2-clause-places
returns-in_err-open_directory-2-clause-places g c = λ i has.
    c.in_err-open_directory-2.ensures.places i (c.in_ok-open_directory.ensures.places i has)

pub returns-in_err-open_directory-2-clause-names : goal.returns-in_err-open_directory-2-clause-names
returns-in_err-open_directory-2-clause-names g c = λ _ _ _ _ _.
    IfOk-from_err c.from_residual-in_err-open_directory-2.result _
    c.from_residual-in_err-open_directory-2.ensures.0

pub returns-in_err-open_directory-2-clause-refused : goal.returns-in_err-open_directory-2-clause-refused
returns-in_err-open_directory-2-clause-refused g c =
    passed_on c.from_residual-in_err-open_directory-2.result c.in_err-open_directory-2.field-0.0 Memory
    c.from_residual-in_err-open_directory-2.ensures.1 c.in_err-open_directory-2.ensures.refused

pub returns-in_err-reserve_name-clause-orderly : goal.returns-in_err-reserve_name-clause-orderly
returns-in_err-reserve_name-clause-orderly g c = λ is from to.
    c.in_err-reserve_name.ensures.orderly
    (c.in_ok-open_directory-2.ensures.orderly (c.in_ok-open_directory.ensures.orderly is from) to)

pub returns-in_err-reserve_name-clause-same : goal.returns-in_err-reserve_name-clause-same
returns-in_err-reserve_name-clause-same g c =
    c.in_err-reserve_name.ensures.same ∙ c.in_ok-open_directory-2.ensures.same
    ∙ c.in_ok-open_directory.ensures.same

pub returns-in_err-reserve_name-clause-rest : goal.returns-in_err-reserve_name-clause-rest
returns-in_err-reserve_name-clause-rest g c = record {
  freed =
      c.in_err-reserve_name.ensures.rest.freed ∙ c.in_ok-open_directory-2.ensures.rest.freed
      ∙ c.in_ok-open_directory.ensures.rest.freed;
  mark =
      c.in_err-reserve_name.ensures.rest.mark ∙ c.in_ok-open_directory-2.ensures.rest.mark
      ∙ c.in_ok-open_directory.ensures.rest.mark;
  names =
      c.in_err-reserve_name.ensures.rest.names ∙ c.in_ok-open_directory-2.ensures.rest.names
      ∙ c.in_ok-open_directory.ensures.rest.names;
}

pub returns-in_err-reserve_name-clause-still : goal.returns-in_err-reserve_name-clause-still
returns-in_err-reserve_name-clause-still g c = λ b i.
    c.in_err-reserve_name.ensures.still b i ∙ c.in_ok-open_directory-2.ensures.still b i
    ∙ c.in_ok-open_directory.ensures.still b i

pub returns-in_err-reserve_name-clause-places : goal.returns-in_err-reserve_name-clause-places
returns-in_err-reserve_name-clause-places g c = λ i has.
    c.in_err-reserve_name.ensures.places i
    (c.in_ok-open_directory-2.ensures.places i (c.in_ok-open_directory.ensures.places i has))

pub returns-in_err-reserve_name-clause-names : goal.returns-in_err-reserve_name-clause-names
returns-in_err-reserve_name-clause-names g c = λ _ _ _ _ _.
    IfOk-from_err c.from_residual-in_err-reserve_name.result _ c.from_residual-in_err-reserve_name.ensures.0

pub returns-in_err-reserve_name-clause-refused : goal.returns-in_err-reserve_name-clause-refused
returns-in_err-reserve_name-clause-refused g c =
    passed_on c.from_residual-in_err-reserve_name.result c.in_err-reserve_name.field-0.0 Memory
    c.from_residual-in_err-reserve_name.ensures.1 c.in_err-reserve_name.ensures.refused

pub open_directory-requires : goal.open_directory-requires
open_directory-requires g c = (c.requires.0, c.requires.1, c.requires.3, c.requires.4.0)

pub open_directory-requires-2 : goal.open_directory-requires-2
open_directory-requires-2 g c =
    let asked = c.requires in
    let still = c.in_ok-open_directory.ensures.still asked.0 c.args.found.now.target.directory in
    (asked.0, asked.2, asked.3, (still ∙ asked.4.1.0, asked.4.1.1))

pub returns-clause-orderly : goal.returns-clause-orderly
returns-clause-orderly g c = λ is from to.
    c.reserve_name-2.ensures.orderly
    (c.in_ok-reserve_name.ensures.orderly (c.in_ok-open_directory-2.ensures.orderly
    (c.in_ok-open_directory.ensures.orderly is from) to))

pub returns-clause-same : goal.returns-clause-same
returns-clause-same g c = c.reserve_name-2.ensures.same ∙ c.in_ok-reserve_name.ensures.same
    ∙ c.in_ok-open_directory-2.ensures.same ∙ c.in_ok-open_directory.ensures.same

pub returns-clause-rest : goal.returns-clause-rest
returns-clause-rest g c = record {
  freed = c.reserve_name-2.ensures.rest.freed ∙ c.in_ok-reserve_name.ensures.rest.freed
      ∙ c.in_ok-open_directory-2.ensures.rest.freed ∙ c.in_ok-open_directory.ensures.rest.freed;
  mark = c.reserve_name-2.ensures.rest.mark ∙ c.in_ok-reserve_name.ensures.rest.mark
      ∙ c.in_ok-open_directory-2.ensures.rest.mark ∙ c.in_ok-open_directory.ensures.rest.mark;
  names = c.reserve_name-2.ensures.rest.names ∙ c.in_ok-reserve_name.ensures.rest.names
      ∙ c.in_ok-open_directory-2.ensures.rest.names ∙ c.in_ok-open_directory.ensures.rest.names;
}

pub returns-clause-still : goal.returns-clause-still
returns-clause-still g c = λ b i. c.reserve_name-2.ensures.still b i ∙ c.in_ok-reserve_name.ensures.still b i
    ∙ c.in_ok-open_directory-2.ensures.still b i ∙ c.in_ok-open_directory.ensures.still b i

pub returns-clause-places : goal.returns-clause-places
returns-clause-places g c = λ i has. c.reserve_name-2.ensures.places i (c.in_ok-reserve_name.ensures.places i
    (c.in_ok-open_directory-2.ensures.places i (c.in_ok-open_directory.ensures.places i has)))

pub returns-clause-refused : goal.returns-clause-refused
returns-clause-refused g c = c.reserve_name-2.ensures.refused

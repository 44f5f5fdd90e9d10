use Rattle.std.proofs.Common.{refl, sym, ◌∙◌}
use Rattle.std.specs.Ordering.{nat_cmp}
use Rattle.std.specs.BTreeMap as map
use Rattle.std.proofs.lemmas.Result.{IfOk-from_err}
use Rattle.nl_tree.specs.Facts.Places.{live_listing}
use Rattle.nl_tree.proofs.overlay.Overlay.open_directory.Goals as goal

pub returns-then-is_live-clause-open : goal.returns-then-is_live-clause-open
returns-then-is_live-clause-open g c = λ b all holds is.
    live_listing (map.get nat_cmp c.args.self.now.changed c.args.dir) (b c.args.dir) all
    (sym c.is_live.ensures ∙ c.if-is_live.true) is.0

pub returns-then-is_live-clause-orderly : goal.returns-then-is_live-clause-orderly
returns-then-is_live-clause-orderly g c = λ is _. is

pub returns-then-is_live-clause-rest : goal.returns-then-is_live-clause-rest
returns-then-is_live-clause-rest g c = record { freed = refl; mark = refl; names = refl }

pub returns-then-is_live-clause-others : goal.returns-then-is_live-clause-others
returns-then-is_live-clause-others g c = λ i all ne has. has

pub returns-then-is_live-clause-still : goal.returns-then-is_live-clause-still
returns-then-is_live-clause-still g c = λ b i. refl

pub returns-then-is_live-clause-places : goal.returns-then-is_live-clause-places
returns-then-is_live-clause-places g c = λ i has. has

pub returns-clause-same : goal.returns-clause-same
returns-clause-same g c = c.hide.ensures.same

pub returns-clause-rest : goal.returns-clause-rest
returns-clause-rest g c = c.hide.ensures.rest

pub returns-clause-still : goal.returns-clause-still
returns-clause-still g c = c.hide.ensures.still

pub returns-clause-places : goal.returns-clause-places
returns-clause-places g c = c.hide.ensures.places

pub returns-clause-others : goal.returns-clause-others
returns-clause-others g c = λ i all ne has. (has.0, c.hide.ensures.others i ne ∙ has.1, has.2)

pub returns-clause-refused : goal.returns-clause-refused
returns-clause-refused g c = c.hide.ensures.refused

pub returns-in_err-records-clause-orderly : goal.returns-in_err-records-clause-orderly
returns-in_err-records-clause-orderly g c = λ is _. is

pub returns-in_err-records-clause-same : goal.returns-in_err-records-clause-same
returns-in_err-records-clause-same g c = refl

pub returns-in_err-records-clause-rest : goal.returns-in_err-records-clause-rest
returns-in_err-records-clause-rest g c = record { freed = refl; mark = refl; names = refl }

pub returns-in_err-records-clause-still : goal.returns-in_err-records-clause-still
returns-in_err-records-clause-still g c = λ b i. refl

pub returns-in_err-records-clause-places : goal.returns-in_err-records-clause-places
returns-in_err-records-clause-places g c = λ i has. has

pub returns-in_err-records-clause-others : goal.returns-in_err-records-clause-others
returns-in_err-records-clause-others g c = λ i all ne has. has

pub returns-in_err-records-clause-open : goal.returns-in_err-records-clause-open
returns-in_err-records-clause-open g c = λ _ _ _ _.
    IfOk-from_err c.from_residual.result _ c.from_residual.ensures.0

pub returns-in_err-listing-clause-orderly : goal.returns-in_err-listing-clause-orderly
returns-in_err-listing-clause-orderly g c = λ is _. is

pub returns-in_err-listing-clause-same : goal.returns-in_err-listing-clause-same
returns-in_err-listing-clause-same g c = refl

pub returns-in_err-listing-clause-rest : goal.returns-in_err-listing-clause-rest
returns-in_err-listing-clause-rest g c = record { freed = refl; mark = refl; names = refl }

pub returns-in_err-listing-clause-still : goal.returns-in_err-listing-clause-still
returns-in_err-listing-clause-still g c = λ b i. refl

pub returns-in_err-listing-clause-places : goal.returns-in_err-listing-clause-places
returns-in_err-listing-clause-places g c = λ i has. has

pub returns-in_err-listing-clause-others : goal.returns-in_err-listing-clause-others
returns-in_err-listing-clause-others g c = λ i all ne has. has

pub returns-in_err-listing-clause-open : goal.returns-in_err-listing-clause-open
returns-in_err-listing-clause-open g c = λ _ _ _ _.
    IfOk-from_err c.from_residual-in_err-listing.result _ c.from_residual-in_err-listing.ensures.0

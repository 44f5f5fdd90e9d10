use Rattle.std.proofs.Common.{rules, tests}
use Rattle.std.proofs.lemmas.Iterator.{YieldsList-from_slice}
use Rattle.std.proofs.lemmas.Iterator.Search.{position_from_yields_List}
use Rattle.nlvol.specs.SharedVolumes.{is_numbered}
use Rattle.nlvol.proofs.script_volume.place_of.Goals as goal

pub returns : goal.returns
returns g c =
    position_from_yields_List (is_numbered c.args.number) _ _ _ c.position.ensures.ran
    (YieldsList-from_slice _ c.iter.ensures.rest) (λ x b q k. search (rules, tests))

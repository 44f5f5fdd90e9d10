use Rattle.nl_vstore.specs.Facts.NumberAt.{needed-inside, needed-needs, needed-once}
use Rattle.nl_vstore.proofs.laws.needed_numbers_stand_once.Goals as goal

pub returns : goal.returns
returns c s needed segment = record {
  once = needed-once s needed segment;
  inside = λ v among. needed-inside s needed segment v among;
  passes = λ v among. needed-needs s needed segment v among;
}

-- The conditions of an image, by their numbers.
use Rattle.std.specs.Prelude.{ℕ}
use Rattle.nl_check.specs.declared.conditions.ImageCondition.{ImageCondition}
use Rattle.nl_check.specs.declared.conditions.ImageCondition.TheVariants.{Mark, Division, Length, Segments, Checkpoints, Numbers, Logs, Shapes, Trees, Periods, Zeros}

-- in this order they are judged
abbrev pub number_of : ImageCondition → ℕ
number_of Mark = 1
number_of Division = 2
number_of Length = 3
number_of Segments = 4
number_of Checkpoints = 5
number_of Numbers = 6
number_of Logs = 7
number_of Shapes = 8
number_of Trees = 9
number_of Periods = 10
number_of Zeros = 11

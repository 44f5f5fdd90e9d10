-- The conditions behind the tables, where the parts of the image are known.
use Rattle.std.proofs.Common.{ℕ, ◌≤◌, List, Option, Some, None, subst, arith}
use Rattle.std.specs.Prelude.{map}
use Rattle.nl_check.specs.Conditions.{FirstFault, all_met, periods_fail, shapes_fail, trees_fail}
use Rattle.nl_check.specs.Judging.{told}
use Rattle.nl_image.specs.Conditions.{FirstFails, HasLogs, HasPeriods, HasShapes, HasTrees, HasZeros, IsImage, MeetsFirst, conditions, pages_told, periods_told}
use Rattle.nl_image.specs.Parts.{Parts}
use Rattle.nl_image.specs.Reading.{HasCheckedTrees, HaveTables}
use Rattle.nl_image.specs.Facts.ConditionOrder.{hold-fewer}

module _ (bytes : List ℕ) (p : Parts) (tables : HaveTables bytes p) where
  -- only these parts can meet more conditions
  no-others : (n : ℕ) → 6 ≤ n → (MeetsFirst n bytes p → ⊥) → (q : Parts) → MeetsFirst n bytes q → ⊥
  no-others n low never q m =
      never (subst (MeetsFirst n bytes) (tables.only q (hold-fewer 6 n conditions bytes q low m)) m)

  meets-7 : HasLogs bytes p → MeetsFirst 7 bytes p
  meets-7 logs =
      let m = tables.meets in
      (m.0, (m.1.0, (m.1.1.0, (m.1.1.1.0, (m.1.1.1.1.0, (m.1.1.1.1.1.0, (logs, tt)))))))

  meets-8 : HasLogs bytes p → HasShapes bytes p → MeetsFirst 8 bytes p
  meets-8 logs shapes =
      let m = tables.meets in
      (m.0, (m.1.0, (m.1.1.0, (m.1.1.1.0, (m.1.1.1.1.0, (m.1.1.1.1.1.0, (logs, (shapes, tt))))))))

  meets-9 : HasLogs bytes p → HasShapes bytes p → HasTrees bytes p → MeetsFirst 9 bytes p
  meets-9 logs shapes trees =
      let m = tables.meets in
      (m.0, (m.1.0, (m.1.1.0, (m.1.1.1.0, (m.1.1.1.1.0, (m.1.1.1.1.1.0, (logs, (shapes, (trees, tt)))))))))

  meets-10 : HasLogs bytes p → HasCheckedTrees bytes p → MeetsFirst 10 bytes p
  meets-10 logs c =
      let m = tables.meets in (
        m.0,
        (
          m.1.0,
          (
            m.1.1.0,
            (m.1.1.1.0, (m.1.1.1.1.0, (m.1.1.1.1.1.0, (logs, (c.shapes, (c.trees, (c.periods, tt))))))),
          ),
        ),
      )

  pub meets-all : HasLogs bytes p → HasCheckedTrees bytes p → HasZeros bytes p → IsImage bytes p
  meets-all logs c zeros =
      let m = tables.meets in (
        m.0,
        (
          m.1.0,
          (
            m.1.1.0,
            (
              m.1.1.1.0,
              (m.1.1.1.1.0, (m.1.1.1.1.1.0, (logs, (c.shapes, (c.trees, (c.periods, (zeros, tt))))))),
            ),
          ),
        ),
      )

  pub logs-fail : (HasLogs bytes p → ⊥) → FirstFails 7 bytes
  logs-fail never = record {
    number = omega arith;
    before = (p, tables.meets);
    fails = no-others 7 (omega arith) (λ m. never m.1.1.1.1.1.1.0);
  }

  module _ (logs : HasLogs bytes p) where
    shapes-fail : (HasShapes bytes p → ⊥) → FirstFails 8 bytes
    shapes-fail never = record {
      number = omega arith;
      before = (p, meets-7 logs);
      fails = no-others 8 (omega arith) (λ m. never m.1.1.1.1.1.1.1.0);
    }

    trees-fail : HasShapes bytes p → (HasTrees bytes p → ⊥) → FirstFails 9 bytes
    trees-fail shapes never = record {
      number = omega arith;
      before = (p, meets-8 logs shapes);
      fails = no-others 9 (omega arith) (λ m. never m.1.1.1.1.1.1.1.1.0);
    }

    periods-fail : HasShapes bytes p → HasTrees bytes p → (HasPeriods bytes p → ⊥) → FirstFails 10 bytes
    periods-fail shapes trees never = record {
      number = omega arith;
      before = (p, meets-9 logs shapes trees);
      fails = no-others 10 (omega arith) (λ m. never m.1.1.1.1.1.1.1.1.1.0);
    }

    pub zeros-fail : HasCheckedTrees bytes p → (HasZeros bytes p → ⊥) → FirstFails 11 bytes
    zeros-fail c never = record {
      number = omega arith;
      before = (p, meets-10 logs c);
      fails = no-others 11 (omega arith) (λ m. never m.1.1.1.1.1.1.1.1.1.1.0);
    }

    -- what the first fault of the kept checkpoints means for the image
    Judged : Option ℕ → Type 0
    Judged None = HasCheckedTrees bytes p
    Judged (Some n) = FirstFails n bytes

    judged : (fault : Option ℕ) → FirstFault (pages_told bytes p) (periods_told p) (map told p.kept) fault
        → Judged fault
    unfolding Judged
    judged fault (shapes_fail never) = shapes-fail never
    judged fault (trees_fail shapes never) = trees-fail shapes never
    judged fault (periods_fail shapes trees never) = periods-fail shapes trees never
    judged fault (all_met shapes trees periods) = record { shapes = shapes; trees = trees; periods = periods }

    pub fault-fails : (n : ℕ) → FirstFault (pages_told bytes p) (periods_told p) (map told p.kept) (Some n)
        → FirstFails n bytes
    unfolding Judged
    fault-fails n fault = judged (Some n) fault

    pub checked-trees : FirstFault (pages_told bytes p) (periods_told p) (map told p.kept) None
        → HasCheckedTrees bytes p
    unfolding Judged
    checked-trees fault = judged None fault

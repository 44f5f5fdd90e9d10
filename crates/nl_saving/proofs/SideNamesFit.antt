-- Side names fit what Linux takes as a name.
use Rattle.std.proofs.Common.{◌≡◌, ◌<◌, ◌≤◌, ◌++◌, ap, arith, List, ℕ, codes, decimal, length, length-append, take}
use Rattle.std.proofs.lemmas.Fmt.{length-decimal-le}
use Rattle.std.proofs.lemmas.List.{length-take}

pub side_fits : (name side : List ℕ) (cut number : ℕ) → cut ≤ 240 → number < 100
    → side ≡ codes "." ++ (take cut name ++ (codes ".nlvol-save-" ++ decimal number)) → length side ≤ 255
side_fits name side cut number within small is =
    omega (
      arith,
      ap length is,
      length-append (take cut name) (codes ".nlvol-save-" ++ decimal number),
      length-append (codes ".nlvol-save-") (decimal number),
      length-take cut name,
      length-decimal-le 2 number (omega arith) (omega arith) (omega arith),
    )

pub kept_fits : (name kept : List ℕ) (cut number : ℕ) → cut ≤ 222 → number < 18446744073709551616
    → kept ≡ codes "." ++ (take cut name ++ (codes ".nlvol-kept-" ++ decimal number)) → length kept ≤ 255
kept_fits name kept cut number within small is =
    omega (
      arith,
      ap length is,
      length-append (take cut name) (codes ".nlvol-kept-" ++ decimal number),
      length-append (codes ".nlvol-kept-") (decimal number),
      length-take cut name,
      length-decimal-le 20 number (omega arith) (omega arith) (omega arith),
    )

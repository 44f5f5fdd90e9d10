use Rattle.std.proofs.Common.{◌≡◌, ◌-◌, ◌∙◌, ap, arith, drop, length, length-drop, take}
use Rattle.std.proofs.lemmas.List.{take_rest}
use Rattle.nl_vstore.specs.Stores.{Store, capacity}
use Rattle.nl_dat.specs.EntryBytes.{dat_bytes}
use Rattle.nl_dat.specs.Table.{numbers_shown}
use Rattle.nl_dat.proofs.ShownNumbers.{numbers-store_of}
use Rattle.nl_dat.proofs.StoreOf.{same_store}
use Rattle.nl_dat.proofs.dat.Dat.dump.Goals as goal

-- there is a place for each number, and for 0
pub write_numbers-requires : goal.write_numbers-requires
write_numbers-requires g c =
    let full = c.self.inside.tabled.full in
    let same = ap (λ (s : Store). capacity s) (same_store c.self.view_is) in
    rw (c.as_slice.ensures, take_rest c.self.inside.table 1, length-drop 1 c.self.inside.table)
    (omega (arith, full, same))

pub returns : goal.returns
returns g c =
    let space = g.S.Space.content c.self.inside.space in
    let failures = g.S.Space.failed c.self.inside.space in
    let rest : take (length c.as_slice.result.now - 1) (drop 1 c.as_slice.result.now)
    ≡ drop 1 c.self.inside.table =
    rw c.as_slice.ensures (take_rest c.self.inside.table 1) in
    c.write_numbers.ensures ∙ ap dat_bytes
    (rest
    ∙ (numbers-store_of c.self.inside.table space failures c.self.inside.tabled.sound
    ∙ ap numbers_shown (same_store c.self.view_is)))

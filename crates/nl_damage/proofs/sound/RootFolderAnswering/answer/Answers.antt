use Rattle.nl_damage.proofs.sound.RootFolderAnswering.answer.Goals as goal

pub returns : goal.returns
returns g c tree holds =
    let stands = holds.stands in
    c.answer.ensures stands.holding tree (c.new.ensures stands.holding stands.holds)
    (record { sound = stands.holds.sound; means = stands.means })

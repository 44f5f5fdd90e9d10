use Rattle.std.proofs.Common.{sym}
use Rattle.nl_types.specs.declared.reply.Answer.TheVariants.{Done, Written}
use Rattle.nl_tree.proofs.Answered.{calls-answered, ok-answered}
use Rattle.nl_tree.proofs.current.CurrentTree.change.Goals as goal

pub returns-in-Create-clause-done : goal.returns-in-Create-clause-done
returns-in-Create-clause-done g c = λ b tree holds stands.
    rw (c.in-Create.is, sym c.as_slice.ensures)
    (calls-answered (λ _. Done) c.create.result c.done.result c.create.new.self b _ c.done.ensures
    (c.create.ensures.done b tree holds stands))

pub returns-in-Create-clause-changes : goal.returns-in-Create-clause-changes
returns-in-Create-clause-changes g c = λ b tree holds stands.
    rw (c.in-Create.is, sym c.as_slice.ensures)
    (ok-answered (λ _. Done) c.create.result c.done.result _ c.done.ensures
    (c.create.ensures.changes b tree holds stands))

pub returns-in-Mkdir-clause-done : goal.returns-in-Mkdir-clause-done
returns-in-Mkdir-clause-done g c = λ b tree holds stands.
    rw (c.in-Mkdir.is, sym c.as_slice-in-Mkdir.ensures)
    (calls-answered
    (λ _. Done) c.create-in-Mkdir.result c.done-in-Mkdir.result c.create-in-Mkdir.new.self b _
    c.done-in-Mkdir.ensures
    (c.create-in-Mkdir.ensures.done b tree holds stands))

pub returns-in-Mkdir-clause-changes : goal.returns-in-Mkdir-clause-changes
returns-in-Mkdir-clause-changes g c = λ b tree holds stands.
    rw (c.in-Mkdir.is, sym c.as_slice-in-Mkdir.ensures)
    (ok-answered (λ _. Done) c.create-in-Mkdir.result c.done-in-Mkdir.result _ c.done-in-Mkdir.ensures
    (c.create-in-Mkdir.ensures.changes b tree holds stands))

pub returns-in-Write-clause-done : goal.returns-in-Write-clause-done
returns-in-Write-clause-done g c = λ b tree holds stands.
    rw (c.in-Write.is, sym c.as_slice-in-Write.ensures, sym c.as_slice-in-Write-2.ensures)
    (calls-answered Written c.write.result c.written.result c.write.new.self b _ c.written.ensures
    (c.write.ensures.done b tree holds stands))

pub returns-in-Write-clause-changes : goal.returns-in-Write-clause-changes
returns-in-Write-clause-changes g c = λ b tree holds stands.
    rw (c.in-Write.is, sym c.as_slice-in-Write.ensures, sym c.as_slice-in-Write-2.ensures)
    (ok-answered Written c.write.result c.written.result _ c.written.ensures
    (c.write.ensures.changes b tree holds stands))

pub returns-in-Truncate-clause-done : goal.returns-in-Truncate-clause-done
returns-in-Truncate-clause-done g c = λ b tree holds stands.
    rw (c.in-Truncate.is, sym c.as_slice-in-Truncate.ensures)
    (calls-answered
    (λ _. Done) c.truncate.result c.done-in-Truncate.result c.truncate.new.self b _
    c.done-in-Truncate.ensures
    (c.truncate.ensures.done b tree holds stands))

pub returns-in-Truncate-clause-changes : goal.returns-in-Truncate-clause-changes
returns-in-Truncate-clause-changes g c = λ b tree holds stands.
    rw (c.in-Truncate.is, sym c.as_slice-in-Truncate.ensures)
    (ok-answered (λ _. Done) c.truncate.result c.done-in-Truncate.result _ c.done-in-Truncate.ensures
    (c.truncate.ensures.changes b tree holds stands))

pub returns-in-Unlink-clause-done : goal.returns-in-Unlink-clause-done
returns-in-Unlink-clause-done g c = λ b tree holds stands.
    rw (c.in-Unlink.is, sym c.as_slice-in-Unlink.ensures)
    (calls-answered
    (λ _. Done) c.unlink.result c.done-in-Unlink.result c.unlink.new.self b _ c.done-in-Unlink.ensures
    (c.unlink.ensures.done b tree holds stands))

pub returns-in-Unlink-clause-changes : goal.returns-in-Unlink-clause-changes
returns-in-Unlink-clause-changes g c = λ b tree holds stands.
    rw (c.in-Unlink.is, sym c.as_slice-in-Unlink.ensures)
    (ok-answered (λ _. Done) c.unlink.result c.done-in-Unlink.result _ c.done-in-Unlink.ensures
    (c.unlink.ensures.changes b tree holds stands))

pub returns-in-Rmdir-clause-done : goal.returns-in-Rmdir-clause-done
returns-in-Rmdir-clause-done g c = λ b tree holds stands.
    rw (c.in-Rmdir.is, sym c.as_slice-in-Rmdir.ensures)
    (calls-answered
    (λ _. Done) c.rmdir.result c.done-in-Rmdir.result c.rmdir.new.self b _ c.done-in-Rmdir.ensures
    (c.rmdir.ensures.done b tree holds stands))

pub returns-in-Rmdir-clause-changes : goal.returns-in-Rmdir-clause-changes
returns-in-Rmdir-clause-changes g c = λ b tree holds stands.
    rw (c.in-Rmdir.is, sym c.as_slice-in-Rmdir.ensures)
    (ok-answered (λ _. Done) c.rmdir.result c.done-in-Rmdir.result _ c.done-in-Rmdir.ensures
    (c.rmdir.ensures.changes b tree holds stands))

pub returns-in-Rename-clause-done : goal.returns-in-Rename-clause-done
returns-in-Rename-clause-done g c = λ b tree holds stands.
    rw (c.in-Rename.is, sym c.as_slice-in-Rename.ensures, sym c.as_slice-in-Rename-2.ensures)
    (calls-answered
    (λ _. Done) c.rename.result c.done-in-Rename.result c.rename.new.self b _ c.done-in-Rename.ensures
    (c.rename.ensures.done b tree holds stands))

pub returns-in-Rename-clause-changes : goal.returns-in-Rename-clause-changes
returns-in-Rename-clause-changes g c = λ b tree holds stands.
    rw (c.in-Rename.is, sym c.as_slice-in-Rename.ensures, sym c.as_slice-in-Rename-2.ensures)
    (ok-answered (λ _. Done) c.rename.result c.done-in-Rename.result _ c.done-in-Rename.ensures
    (c.rename.ensures.changes b tree holds stands))

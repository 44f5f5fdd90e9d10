use Rattle.std.proofs.Common.{◌∙◌, sym}
use Rattle.nl_files.proofs.DirectoryBlocks.{blocks_of_records}
use Rattle.nl_files.proofs.Directories.{block_stored, found_in_block, no_block}
use Rattle.nl_files.proofs.directory.Directory.find.Goals as goal

pub returns-in_err-index : goal.returns-in_err-index
returns-in_err-index g c = λ records holds.
    let before = c.in_err-index.ensures holds.packed (blocks_of_records _ _ records holds) in
    c.from_residual.ensures ∙ no_block _ _ records c.args.name.now holds before

pub returns-in_err-get : goal.returns-in_err-get
returns-in_err-get g c = λ records holds.
    let found = c.in_ok-index.ensures holds.packed (blocks_of_records _ _ records holds) in
    absurd
    (block_stored _ _ records c.args.name.now holds c.in_ok-index.index found (sym c.in_err-get.ensures))

pub returns : goal.returns
returns g c = λ records holds.
    let found = c.in_ok-index.ensures holds.packed (blocks_of_records _ _ records holds) in
    let read = c.find.ensures in
    read.2
    ∙ found_in_block _ _ records c.args.name.now holds c.in_ok-index.index _ read.0 found c.in_ok-get.ensures
    read.1

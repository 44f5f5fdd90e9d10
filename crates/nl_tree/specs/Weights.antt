-- How much changed since the latest checkpoint: how many blocks one that is made of the current tree writes
-- at most.
use Rattle.std.specs.Prelude.{ℕ, ◌+◌, ◌/◌, ◌≤◌, min, List, [], ◌∷◌, length}
use Rattle.nl_tree.specs.Became.{Became, BecameDirectory, BecameFile, Removed}

-- how many nodes stand above so many blocks at most: one above 127 or more, the next above 16,384, and the
-- third above all
abbrev pub nodes_above : ℕ → ℕ
nodes_above blocks = blocks / 127 + blocks / 16384 + 3

-- Of what became of an inode: its new pages, or a block for each record; the nodes above all blocks; and the
-- block that has the inode.
abbrev pub weight_of : Became → ℕ
weight_of Removed = 1
weight_of (BecameFile size cut pages) = 1 + length pages + nodes_above ((size + 1023) / 1024)
weight_of (BecameDirectory records) = 1 + length records + nodes_above (length records)

abbrev pub total_weight : List (ℕ × Became) → ℕ
total_weight [] = 0
total_weight (e ∷ es) = weight_of e.1 + total_weight es

-- as far as a number of 64 bits goes
abbrev pub capped : ℕ → ℕ
capped n = min n 18446744073709551615

-- no less, as far as a number of 64 bits goes
abbrev pub IsNoLess : ℕ → ℕ → Type 0
IsNoLess n bound = capped n ≤ bound

-- Which files of the host are one.
use Rattle.std.specs.Prelude.{Bool, ◌&&◌, ◌==◌}
use Rattle.nl_host.specs.declared.identity.Identity.{Identity}

-- one file by its device and its inode
abbrev pub is_same : Identity → Identity → Bool
is_same a b = a.device == b.device && a.inode == b.inode

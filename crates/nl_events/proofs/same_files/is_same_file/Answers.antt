use Rattle.std.proofs.Common.{◌≡◌, rules}
use Rattle.std.specs.Prelude.{◌↔◌, IsTrue}
use Rattle.nl_events.specs.Facts.TwoInodes.{both_there, no_first, no_second}
use Rattle.nl_events.proofs.same_files.is_same_file.Goals as goal

pub returns-in_default : goal.returns-in_default
returns-in_default g c = no_first _ _ c.in_default.ensures

pub returns-in_default-kept_inode : goal.returns-in_default-kept_inode
returns-in_default-kept_inode g c = no_second _ _ c.in_default-kept_inode.ensures

pub returns : goal.returns
returns g c =
    let equal : IsTrue c.eq.result ↔ (c.in-Some.one ≡ c.in-Some-kept_inode.other) = search rules in
    both_there _ _ c.in-Some.one c.in-Some-kept_inode.other c.eq.result equal c.in-Some.ensures
    c.in-Some-kept_inode.ensures

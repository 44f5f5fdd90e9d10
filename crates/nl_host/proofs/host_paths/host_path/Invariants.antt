use Rattle.std.proofs.Common.{◌≡◌, ◌+◌, ◌++◌, drop, take}
use Rattle.std.specs.Prelude.{string_bytes}
use Rattle.nl_folders.specs.Spelled.{joined}
use Rattle.nl_host.specs.HostPaths.{host_names}
use Rattle.nl_host.proofs.host_paths.host_path.Given as goal

abbrev pub invariant-loop-count : goal.invariant-loop-count
invariant-loop-count l = record {
  text : string_bytes l.text ≡ l.folder ++ joined (take l.count l.path);
  names : host_names l.path ≡ l.count + host_names (drop l.count l.path);
}

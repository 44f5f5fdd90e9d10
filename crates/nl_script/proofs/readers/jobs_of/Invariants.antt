use Rattle.std.proofs.Common.{◌≡◌, map, take}
use Rattle.nl_script.specs.FileReads.{job_of}
use Rattle.nl_script.proofs.readers.jobs_of.Given as goal

-- the jobs so far are those of the paths so far
abbrev pub invariant-loop-path : goal.invariant-loop-path
invariant-loop-path l = l.jobs.items ≡ map job_of (take l.path-index l.paths)

-- `kinds_rise`: the lines that are left rise from the last kind as all of them do from 0. Assumes nothing.
use Rattle.std.proofs.Common.{◌≡◌, map, drop}
use Rattle.job_format.specs.Table.{entry_at, rising}
use Rattle.job_tables.proofs.kinds_rise.Given as goal

abbrev pub invariant-loop-line : goal.invariant-loop-line
invariant-loop-line l = rising l.last (map (λ line. entry_at line 0) (drop l.line-index l.line-items)) ≡ rising 0 (map (λ line. entry_at line 0) l.line-items)

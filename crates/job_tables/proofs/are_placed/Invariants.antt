-- `are_placed`: the lines that are left are placed from the next place on as all of them are behind the table. Assumes nothing.
use Rattle.std.proofs.Common.{◌≡◌, ◌≤◌, ◌+◌, ◌*◌, map, drop}
use Rattle.job_format.specs.Table.{entry_at, placed}
use Rattle.job_tables.proofs.are_placed.Given as goal

abbrev pub invariant-loop-line : goal.invariant-loop-line
invariant-loop-line l = record {
  next_most : l.next ≤ 29 + 4294967296 * l.line-index;
  rest_of : placed l.points l.end l.next (map (λ line. entry_at line 0) (drop l.line-index l.line-items))
      ≡ placed l.points l.end (2 + 9 * l.n) (map (λ line. entry_at line 0) l.line-items);
}

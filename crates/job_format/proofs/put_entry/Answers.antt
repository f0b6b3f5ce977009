-- `put_entry` meets its contract: a kind, an offset and a length. Assumes nothing.
use Rattle.job_format.proofs.Entries.{entry_put}
use Rattle.job_format.proofs.put_entry.Goals as goal

pub returns : goal.returns
returns c = rw (← c.number.ensures.is) (entry_put _ _ _ _ _ _ _ c.put_word.ensures c.put_word-2.ensures)

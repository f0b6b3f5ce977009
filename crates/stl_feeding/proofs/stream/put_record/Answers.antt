-- `put_record`: what is wrong with a vertex is told first; where nothing is, the numbers are placed and put. Assumes nothing.
use Rattle.std.proofs.lemmas.Result.{err_from_is_err_and}
use Rattle.stl_feeding.proofs.Taken.{fault_none}
use Rattle.stl_feeding.proofs.Streamed.{laid_fault, laid_clear}
use Rattle.stl_feeding.proofs.stream.put_record.Goals as goal

pub returns-in_err-pass_record : goal.returns-in_err-pass_record
returns-in_err-pass_record c =
    let p = err_from_is_err_and c.from_residual.result c.from_residual.ensures.1 in
    rw (p.1, p.2) (laid_fault _ _ _ _ _ _ c.in_err-pass_record.ensures)

pub placed_numbers-requires : goal.placed_numbers-requires
placed_numbers-requires c = record { scale = c.requires.scale; clear = fault_none _ c.in_ok-pass_record.ensures }

pub returns : goal.returns
returns c = laid_clear _ _ _ _ _ c.in_ok-pass_record.ensures _ c.placed_numbers.ensures _ c.put_numbers.ensures

-- `put_text` copies the text to its place. Assumes nothing.
use native.Mathlib.Omega.{arith}
use Rattle.text.proofs.Texts.{put_copied}
use Rattle.text.proofs.put_text.Goals as goal

pub returns : goal.returns
returns c = rw c.copy_from_slice.ensures.after (put_copied _ _ _ _ (omega arith) (omega arith))

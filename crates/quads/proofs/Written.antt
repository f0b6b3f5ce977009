-- What a write to a part of a list leaves. Assumes nothing.
use Rattle.std.proofs.Common.{◌≡◌, ℕ, ◌+◌, ◌≤◌, List, length, sym, append_assoc}
use Rattle.std.proofs.lemmas.List.Edits.{sets, sets-eq}
use Rattle.std.proofs.Math.Seq.{drop-drop}
use borrow.Rule.Slice.PartMut.{put_mid}

pub part_set : (s run : List ℕ) (at k : ℕ) → k ≡ length run → at + length run ≤ length s → put_mid at k s run ≡ sets s at run
part_set s run at k e fits = rw (e, drop-drop (length run) at s, ← append_assoc) (sym (sets-eq run s at fits))

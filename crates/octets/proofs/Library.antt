-- The library's words for a file's bytes are those of this crate. Assumes nothing.
use Rattle.std.proofs.Common.{◌≡◌, ℕ, ◌+◌, ◌≤◌, List, [], ◌∷◌, length, refl, sym, nat_eq, append_assoc}
use Rattle.std.proofs.lemmas.List.Edits.{sets-eq}
use Rattle.std.proofs.Math.Seq.{drop-drop}
use Rattle.std.specs.List.{starts_with}
use borrow.Rule.Slice.PartMut.{put_mid}
use Rattle.octets.specs.Octets.{puts, begins}

-- what a write to a part of a buffer leaves
pub puts_part : (s run : List ℕ) (at k : ℕ) → k ≡ length run → at + length run ≤ length s → put_mid at k s run ≡ puts s at run
unfolding puts
puts_part s run at k e fits = rw (e, drop-drop (length run) at s, ← append_assoc) (sym (sets-eq run s at fits))

pub starts_begins : (t s : List ℕ) → starts_with nat_eq s t ≡ begins t s
starts_begins [] s = refl
starts_begins (a ∷ t) [] = refl
starts_begins (a ∷ t) (b ∷ s) = rw (starts_begins t s) refl

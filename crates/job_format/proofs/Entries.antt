-- A line of the table of contents put piece by piece. Assumes nothing.
use mathlib.Core.Path.{◌≡◌, refl, ap}
use mathlib.Core.List.{List, [], ◌∷◌, ◌++◌}
use Prim.Native.Nat.{ℕ, suc, ◌+◌}
use lib.ListN.{length, set}
use Rattle.octets.specs.Octets.{word, puts}
use Rattle.octets.proofs.Puts.{puts_one, puts_next}
use Rattle.octets.proofs.Words.{word_length}

-- a kind, an offset and a length make a line
pub entry_put : (out a b : List ℕ) (p kind at size : ℕ) → a ≡ puts (set out p kind) (p + 1) (word at) → b ≡ puts a (p + 5) (word size) →
    b ≡ puts out p (kind ∷ (word at ++ word size))
entry_put out a b p kind at size e f =
    let five : length (kind ∷ word at) ≡ 5 = ap suc (word_length at) in
    let two = puts_next out (set out p kind) a (kind ∷ []) (word at) p 1 (p + 1) (puts_one out p kind) e refl refl in
    puts_next out a b (kind ∷ word at) (word size) p 5 (p + 5) two f five refl

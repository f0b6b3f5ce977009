-- What is judged first in a call: rows 1 and 2, of one buffer. Assumes nothing.
use Rattle.std.specs.Prelude.{◌≡◌, true, false, List, ℕ, ◌≤◌, ◌<◌, length, Result, MatchResult}
use Rattle.lattice.specs.declared.level.Level.{Level}
use Rattle.lattice.specs.Levels.{points_of}
use Rattle.refusals.specs.Columns.{bad_level, level_at}
use Rattle.refusals.specs.declared.Refusal.{Refusal}
use Rattle.refusals.specs.declared.Refusal.TheVariants.{BadLevel, ShortBuffer}

-- neither row applies: this is the level, and the buffer holds its points
pub record Held (level : ℕ) (g : List ℕ) (l : Level) : Type 0 where
  pub known : bad_level level ≡ false
  pub is : level_at level ≡ l
  pub long : points_of l ≤ length g

-- the row that applies, the first of the two
pub data Stopped (level : ℕ) (g : List ℕ) (r : Refusal) : Type 0 where
  unknown : bad_level level ≡ true → r ≡ BadLevel → Stopped level g r
  short : bad_level level ≡ false → length g < points_of (level_at level) → r ≡ ShortBuffer → Stopped level g r

abbrev pub IsJudged : ℕ → List ℕ → Result Level Refusal → Type 0
IsJudged level g r = MatchResult r (Held level g) (Stopped level g)

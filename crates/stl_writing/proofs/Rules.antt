-- What the call's proof goes by besides its definitions. Assumes nothing.
use Rattle.rounding.proofs.Scaled.{scale_told, scale_bad}
use Rattle.lattice.proofs.LevelFacts.{side_whole}

pub ruleset writing = (scale_told, scale_bad, side_whole)

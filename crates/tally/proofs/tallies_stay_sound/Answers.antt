use Rattle.tally.proofs.Keeping.{stays_sound}
use Rattle.tally.proofs.tallies_stay_sound.Goals as goal

pub returns : goal.returns
returns c = stays_sound

use Rattle.promenade.proofs.Rows.{made_row}
use Rattle.promenade.proofs.Promenade.new.Goals as goal

pub returns : goal.returns
returns c = made_row _ _ _ _ _ _ c.min-stations.ensures c.min-capacity.ensures c.min-charge.ensures

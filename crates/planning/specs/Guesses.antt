-- What may be guessed.
--   Zeros            a zero for each leg and one for each station
--   NothingGuessed   the guess that leaves these zeros as they are
--   Anything         any guess at all
use Rattle.std.specs.Prelude.{◌≡◌, ℕ, List, length, replicate}
use Rattle.network.specs.Nets.{Net}
use Rattle.plans.specs.Plans.{stations}
use Rattle.costs.specs.Kinds.{CentsThenBikes}
use Rattle.planning.specs.Potentials.{nothing}

pub record Zeros (net : Net) (amounts : List ℕ) (potentials : List CentsThenBikes) : Type 0 where
  pub each_leg : amounts ≡ replicate (length net.legs) 0
  pub each_station : potentials ≡ replicate (stations net) nothing

-- by the network, the standing amounts, and the guessed amounts and potentials
abbrev pub NothingGuessed : Net → List ℕ → List ℕ → List CentsThenBikes → Type 0
NothingGuessed net standing amounts potentials = Zeros net amounts potentials

abbrev pub Anything : Net → List ℕ → List ℕ → List CentsThenBikes → Type 0
Anything net standing amounts potentials = Unit {0}

-- A draft that is made of a guess and a potential.
--   MendedDraft   a slice begins with the mended plan, another with what that leaves over
--   Begins        amounts and potentials that may be guessed made the draft
--   NoGuessBeginsFirst   where nothing is guessed, the draft begins with the plan to start from
use Rattle.std.specs.Prelude.{◌≡◌, ℕ, ◌<◌, List, length, take, ℤ, pos, slice_index_or}
use Rattle.network.specs.Nets.{Net}
use Rattle.plans.specs.Plans.{stations}
use Rattle.plans.specs.Cuts.{left_over}
use Rattle.planning.specs.Drafts.{SameBeyond}
use Rattle.planning.specs.declared.draft.Draft.{Draft}
use Rattle.planning.specs.Guesses.{NothingGuessed}
use Rattle.planning.specs.Potentials.{potential}
use Rattle.planning_rules.specs.Answers.{the_plan}
use Rattle.costs.specs.Kinds.{CentsThenBikes}
use Rattle.certificates.specs.Mends.{Mended}
use Rattle.certificates.specs.Starts.{First}
use Rattle.certificates.specs.Totals.{all_over}

-- `total` is over at all stations together
pub record MendedDraft (net : Net) (standing guess : List ℕ) (π : ℕ → ℤ × ℤ) (before after : Draft) (total : ℕ) : Type 0 where
  pub mended : Mended net standing guess π (take (length net.legs) after.amounts.now)
  pub beyond : SameBeyond net before after
  pub left_each : (v : ℕ) → v < stations net → slice_index_or after.left.now v (pos 0) ≡ left_over net (take (length net.legs) after.amounts.now) v
  pub over_all : total ≡ all_over net (take (length net.legs) after.amounts.now)

-- the potential is read from the guessed list itself
pub record Begins (guesses : Net → List ℕ → List ℕ → List CentsThenBikes → Type 0) (net : Net) (standing : List ℕ) (total : ℕ) (before after : Draft) : Type 0 where
  pub amounts : List ℕ
  pub potentials : List CentsThenBikes
  pub guessed : guesses net standing amounts potentials
  pub made : MendedDraft net standing amounts (potential potentials) before after total

abbrev pub NoGuessBeginsFirst : Type 0
NoGuessBeginsFirst =
    (net : Net) (standing : List ℕ) (total : ℕ) (before after : Draft)
    → Begins NothingGuessed net standing total before after → First net standing (the_plan net after.amounts.now)

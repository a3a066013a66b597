-- What one sending does to a plan and to what it leaves over.
--   Known         the arrival in the label of a station
--   SettledFor    labels that a search in both has settled for a plan, from starts
--   Tracks        the plan in a table fits, and another table says what it leaves over
--   Agrees        a potential that gives each labelled station the total of its label
--   Sent          what holds after bikes were sent
--   Ready         labels and left overs by which at least one bike can be sent
--   Sends         what a sending does
-- `Both` is another name of `CentsThenBikes`.
use Rattle.std.specs.Prelude.{◌≡◌, ℕ, ◌+◌, ◌<◌, Bool, List, ℤ, pos, ◌<ℤ◌, Some, slice_index_or}
pub use Rattle.costs.specs.Kinds.{CentsThenBikes as Both}
use Rattle.costs.specs.Kinds.{both_kind}
use Rattle.network.specs.Nets.{Net}
use Rattle.plans.specs.Plans.{stations, Fits, SameAmounts}
use Rattle.plans.specs.Residuals.{Certifies}
use Rattle.plans.specs.Cuts.{left_over}
use Rattle.certificates.specs.Totals.{all_over}
use Rattle.planning_rules.specs.Answers.{the_plan}
use Rattle.planning.specs.Drafts.{SameBeyond}
use Rattle.planning.specs.declared.draft.Draft.{Draft}
use Rattle.steps.specs.Fees.{fee_both}
use Rattle.search.specs.Labels.{label_at}
use Rattle.search.specs.Searches.{Answer, From}
use Rattle.search.specs.declared.label.Arrival.{Arrival}
use Rattle.search.specs.declared.label.Label.{Label}
use Rattle.search.specs.declared.outcome.Outcome.TheVariants.{Settled}

abbrev pub Known : List (Label Both) → ℕ → Arrival Both → Type 0
Known ls v x = (label_at ls v).arrival ≡ Some x

-- f tells the starts; what the search answers at fees in both
abbrev pub SettledFor : Net → List ℕ → List ℕ → (ℕ → Bool) → List (Label Both) → Type 0
SettledFor net standing plan f ls = Answer both_kind net plan (fee_both standing) f Settled ls

pub record Tracks (net : Net) (plan : List ℕ) (left : List ℤ) : Type 0 where
  pub fits : Fits net (the_plan net plan)
  pub left_overs : (v : ℕ) → v < stations net → slice_index_or left v (pos 0) ≡ left_over net (the_plan net plan) v

abbrev pub Agrees : Net → List (Label Both) → (ℕ → ℤ × ℤ) → Type 0
Agrees net ls π = (v : ℕ) (x : Arrival Both) → v < stations net → Known ls v x → π v ≡ both_kind.worth x.total

-- every certificate that agrees with the labels is one still, and b bikes less are over
pub record Sent (net : Net) (standing : List ℕ) (ls : List (Label Both)) (b : ℕ) (plan after : List ℕ) (left : List ℤ) : Type 0 where
  pub tracks : Tracks net after left
  pub certified : (π : ℕ → ℤ × ℤ) → Agrees net ls π → Certifies net standing (the_plan net plan) π → Certifies net standing (the_plan net after) π
  pub lower : all_over net (the_plan net after) + b ≡ all_over net (the_plan net plan)

-- the labels are those of this plan, every start has bikes over, and the target is labelled and lacks bikes
pub record Ready (net : Net) (standing old : List ℕ) (f : ℕ → Bool) (ls : List (Label Both)) (target : ℕ) (plan : List ℕ) : Type 0 where
  pub arrival : Arrival Both
  pub labelled : Known ls target arrival
  pub below : target < stations net
  pub same : SameAmounts net old plan
  pub lacks : left_over net (the_plan net plan) target <ℤ pos 0
  pub over : (v : ℕ) → From net f v → pos 0 <ℤ left_over net (the_plan net plan) v

-- b bikes were sent
pub record Sends (net : Net) (standing : List ℕ) (ls : List (Label Both)) (target b : ℕ) (before after : Draft) : Type 0 where
  pub beyond : SameBeyond net before after
  pub none : b ≡ 0 → (after.amounts.now ≡ before.amounts.now) × (after.left.now ≡ before.left.now)
  pub sent : (old : List ℕ) (f : ℕ → Bool) → SettledFor net standing old f ls → Tracks net before.amounts.now before.left.now → Sent net standing ls b before.amounts.now after.amounts.now after.left.now
  pub some : (old : List ℕ) (f : ℕ → Bool) → SettledFor net standing old f ls → Tracks net before.amounts.now before.left.now → Ready net standing old f ls target before.amounts.now → 0 < b

-- The calls that texts tell.
--   long           lengths that a machine counts
--   InTypes        a call whose numbers are of the types that calls have
--   lengths_text   the lengths of a planning, as a call's text has them
--   word_of, numbers_of   the two parts of a call's text, before its first space and behind it
--   Begins         a number and what stands behind it, that are found
--   NoCall         a line that is the text of no call
use Rattle.std.specs.Prelude.{◌≡◌, ℕ, ◌^◌, ◌<◌, List, ◌∷◌, ◌++◌, Some, None, Option, codes, FitsSigned}
use Rattle.std.specs.Fmt.{decimal, signed_decimal}
use Rattle.std.specs.Int.{w32}
use Rattle.std.specs.Borrow.{Bor}
use Rattle.planning_rules.specs.declared.lengths.Lengths.{Lengths}
use Rattle.tally.specs.Texts.{call_text}
use Rattle.tally.specs.declared.call.Call.{Call}
use Rattle.tally.specs.declared.call.Call.TheVariants.{Report, Close, Reopen, Plan, ListStations, ListRuns, Read}

abbrev pub long : Lengths → Type 0
long l = (l.prices < 2 ^ 64) × (l.cut < 2 ^ 64) × (l.station_entries < 2 ^ 64) × (l.leg_entries < 2 ^ 64)

-- a line can spell numbers beyond, and is no call then
abbrev pub InTypes : Call → Type 0
InTypes (Report s b) = (s < 2 ^ 64) × FitsSigned w32 b
InTypes (Close k) = k < 2 ^ 64
InTypes (Reopen k) = k < 2 ^ 64
InTypes (Plan l) = long l
InTypes (ListStations n) = n < 2 ^ 64
InTypes (ListRuns n) = n < 2 ^ 64
InTypes (Read k) = k < 2 ^ 64

abbrev pub lengths_text : Lengths → List ℕ
lengths_text l = decimal l.prices ++ (32 ∷ (decimal l.cut ++ (32 ∷ (decimal l.station_entries ++ (32 ∷ decimal l.leg_entries)))))

abbrev pub word_of : Call → List ℕ
word_of (Report s b) = codes "report"
word_of (Close k) = codes "close"
word_of (Reopen k) = codes "reopen"
word_of (Plan l) = codes "plan"
word_of (ListStations n) = codes "stations"
word_of (ListRuns n) = codes "runs"
word_of (Read k) = codes "read"

abbrev pub numbers_of : Call → List ℕ
numbers_of (Report s b) = decimal s ++ (32 ∷ signed_decimal b)
numbers_of (Close k) = decimal k
numbers_of (Reopen k) = decimal k
numbers_of (Plan l) = lengths_text l
numbers_of (ListStations n) = decimal n
numbers_of (ListRuns n) = decimal n
numbers_of (Read k) = decimal k

abbrev pub Begins : Option (ℕ × Bor (List ℕ)) → ℕ → List ℕ → Type 0
Begins None n rest = ⊥
Begins (Some p) n rest = (p.0 ≡ n) × (p.1.now ≡ rest)

abbrev pub NoCall : List ℕ → Type 0
NoCall line = (call : Call) → InTypes call → line ≡ call_text call → ⊥

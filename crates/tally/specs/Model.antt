-- The tally after a call, computed.
--   fed     what a tally is fed of an answer: after an accepted planning its amounts
--   planned   the tally after a planning that meets no fault
--   moved   the tally after a call that meets no fault
--   moved_unless   the same, unless the call meets a fault
--   next    the tally after a call
use Rattle.std.specs.Prelude.{ℕ, List, Some, None, Option}
use Rattle.records.specs.declared.leg.Mark.TheVariants.{Open, Shut}
use Rattle.network.specs.Offices.{reported, remarked}
use Rattle.tally.specs.Tallies.{Tally, with_meaning, with_plan, with_stations, with_runs, short_list, running_list}
use Rattle.tally.specs.Follows.{fault}
use Rattle.tally.specs.declared.answer.Answer.{Answer}
use Rattle.tally.specs.declared.answer.Answer.TheVariants.{Planned}
use Rattle.tally.specs.declared.call.Call.{Call}
use Rattle.tally.specs.declared.call.Call.TheVariants.{Report, Close, Reopen, Plan, ListStations, ListRuns, Read}

abbrev pub fed : Answer → List ℕ → Option (List ℕ)
fed (Planned c d) amounts = Some amounts
fed _ amounts = None

-- by the amounts, if the planning was accepted
abbrev pub planned : Tally → Option (List ℕ) → Tally
planned t (Some amounts) = with_plan t amounts
planned t None = t

abbrev pub moved : Tally → Call → Option (List ℕ) → Tally
moved t (Report s b) given = with_meaning t (reported t.meaning s b)
moved t (Close k) given = with_meaning t (remarked t.meaning k Shut)
moved t (Reopen k) given = with_meaning t (remarked t.meaning k Open)
moved t (Plan l) given = planned t given
moved t (ListStations n) given = with_stations t (short_list t)
moved t (ListRuns n) given = with_runs t (running_list t)
moved t (Read k) given = t

-- by the fault that the call meets
abbrev pub moved_unless : Option (ℕ × ℕ) → Tally → Call → Option (List ℕ) → Tally
moved_unless (Some f) t call given = t
moved_unless None t call given = moved t call given

abbrev pub next : Tally → Call → Option (List ℕ) → Tally
next t call given = moved_unless (fault t call) t call given

-- What each refusal stands for.
--   number   the number under which a refusal is known
--   place    where the fault lies
use Rattle.std.specs.Prelude.{ℕ}
use Rattle.records.specs.declared.refusal.Refusal.{Refusal}
use Rattle.records.specs.declared.refusal.Refusal.TheVariants.{TextTooLong, LineOutOfForm, LineOutOfOrder, FieldOutOfRange, TablesTooShort, ArcsMiscounted, StationNotOpen, BalanceOutOfRange, NotARoadLeg, MarkUnchanged, SliceTooShort, SenselessLeg, BalanceTooLarge, UnevenBalances, NoPlanObeys}

-- 1 to 6: refusals of a text; 7 and 8: of a report; 9 and 10: of a closing or reopening; 11: of a slice that was handed in; 12 to 15: of a planning
abbrev pub number : Refusal → ℕ
number TextTooLong = 1
number (LineOutOfForm line) = 2
number (LineOutOfOrder line) = 3
number (FieldOutOfRange line) = 4
number (TablesTooShort line) = 5
number (ArcsMiscounted line) = 6
number (StationNotOpen station) = 7
number (BalanceOutOfRange station) = 8
number (NotARoadLeg leg) = 9
number (MarkUnchanged leg) = 10
number SliceTooShort = 11
number (SenselessLeg leg) = 12
number (BalanceTooLarge station) = 13
number UnevenBalances = 14
number (NoPlanObeys cut) = 15

-- 1: 0; 2 to 6: the line, counted from 1, and where a text ends too early the last line, 0 if it has none; 7 and 8: the station; 9, 10 and 12: the leg; 11 and 14: 0; 13: the station; 15: how many stations are in the cut
abbrev pub place : Refusal → ℕ
place TextTooLong = 0
place (LineOutOfForm line) = line
place (LineOutOfOrder line) = line
place (FieldOutOfRange line) = line
place (TablesTooShort line) = line
place (ArcsMiscounted line) = line
place (StationNotOpen station) = station
place (BalanceOutOfRange station) = station
place (NotARoadLeg leg) = leg
place (MarkUnchanged leg) = leg
place SliceTooShort = 0
place (SenselessLeg leg) = leg
place (BalanceTooLarge station) = station
place UnevenBalances = 0
place (NoPlanObeys cut) = cut

-- Every tally of a run has one amount for each leg and lists that name nobody twice.
use Rattle.std.proofs.Common.{◌≡◌, ℕ, length, refl, sym, ap, ◌∙◌, subst, length-set}
use Rattle.std.proofs.lemmas.List.{length-replicate}
use Rattle.listing.proofs.Entering.{keeps_order}
use Rattle.theory.specs.Walks.{Distinct}
use Rattle.tally.specs.Tallies.{Tally, short, runs, short_list, running_list}
use Rattle.tally.specs.Follows.{Papers, PlanAnswers, Accepts, Follows}
use Rattle.tally.specs.Laws.{StaySound}
use Rattle.tally.specs.Runs.{Sound}
use Rattle.tally.specs.declared.answer.Answer.{Answer}
use Rattle.tally.specs.declared.answer.Answer.TheVariants.{Refused, Planned}
use Rattle.tally.specs.declared.call.Call.{Call}
use Rattle.tally.specs.declared.call.Call.TheVariants.{Report, Close, Reopen, Plan, ListStations, ListRuns, Read}
use Rattle.tally.proofs.Meeting.{met}

short_once : (t : Tally) → Distinct t.station_list → Distinct (short_list t)
short_once t d = (keeps_order (short t.meaning) t.meaning.open_stations t.station_list d).once

running_once : (t : Tally) → Distinct t.run_list → Distinct (running_list t)
running_once t d = (keeps_order (runs t.plan) (length t.meaning.legs) t.run_list d).once

-- the same tally up to an equation
moved : (m : ℕ) {t u : Tally} → u ≡ t → Sound m t → Sound m u
moved m e s = subst (λ (x : Tally). Sound m x) (sym e) s

planned_sound : (m : ℕ) (t : Tally) (x : Answer) (p p' : Papers) (t' : Tally) → Sound m t → PlanAnswers t x p p' t' → Sound m t'
planned_sound m t (Planned c d) p p' t' s a =
    moved m a.1 (record { legs_stay = s.legs_stay; one_each = a.0.best.obeys.fits.one_each ∙ s.legs_stay; stations_once = s.stations_once; runs_once = s.runs_once })
planned_sound m t (Refused e) p p' t' s a = moved m a.2 s
planned_sound m t _ p p' t' s a = absurd a

accepts_sound : (m : ℕ) (t : Tally) (call : Call) (x : Answer) (p p' : Papers) (t' : Tally) → Sound m t → Accepts t call x p p' t' → Sound m t'
accepts_sound m t (Report v b) x p p' t' s a = moved m a.2 (record { legs_stay = s.legs_stay; one_each = s.one_each; stations_once = s.stations_once; runs_once = s.runs_once })
accepts_sound m t (Close k) x p p' t' s a = moved m a.2 (record { legs_stay = length-set t.meaning.legs k _ ∙ s.legs_stay; one_each = s.one_each; stations_once = s.stations_once; runs_once = s.runs_once })
accepts_sound m t (Reopen k) x p p' t' s a = moved m a.2 (record { legs_stay = length-set t.meaning.legs k _ ∙ s.legs_stay; one_each = s.one_each; stations_once = s.stations_once; runs_once = s.runs_once })
accepts_sound m t (Plan l) x p p' t' s a = planned_sound m t x p p' t' s a
accepts_sound m t (ListStations n) x p p' t' s a = moved m a.2 (record { legs_stay = s.legs_stay; one_each = s.one_each; stations_once = short_once t s.stations_once; runs_once = s.runs_once })
accepts_sound m t (ListRuns n) x p p' t' s a = moved m a.2 (record { legs_stay = s.legs_stay; one_each = s.one_each; stations_once = s.stations_once; runs_once = running_once t s.runs_once })
accepts_sound m t (Read k) x p p' t' s a = moved m a.2 s

-- one call more
pub sound_more : (m : ℕ) (t : Tally) (call : Call) (x : Answer) (p p' : Papers) (t' : Tally) → Sound m t → Follows t call x p p' t' → Sound m t'
sound_more m t call x p p' t' s F = met t call F (λ f e r. moved m r.2 s) (λ e a. accepts_sound m t call x p p' t' s a)

pub stays_sound : StaySound
stays_sound =
    record {
      begins = λ net. record { legs_stay = refl; one_each = length-replicate (length net.legs) 0; stations_once = tt; runs_once = tt };
      stays = sound_more;
    }

-- no call changes how many legs there are
legs_planned : (t : Tally) (x : Answer) (p p' : Papers) (t' : Tally) → PlanAnswers t x p p' t' → length t'.meaning.legs ≡ length t.meaning.legs
legs_planned t (Planned c d) p p' t' a = ap (λ (u : Tally). length u.meaning.legs) a.1
legs_planned t (Refused e) p p' t' a = ap (λ (u : Tally). length u.meaning.legs) a.2
legs_planned t _ p p' t' a = absurd a

legs_accepted : (t : Tally) (call : Call) (x : Answer) (p p' : Papers) (t' : Tally) → Accepts t call x p p' t' → length t'.meaning.legs ≡ length t.meaning.legs
legs_accepted t (Report v b) x p p' t' a = ap (λ (u : Tally). length u.meaning.legs) a.2
legs_accepted t (Close k) x p p' t' a = ap (λ (u : Tally). length u.meaning.legs) a.2 ∙ length-set t.meaning.legs k _
legs_accepted t (Reopen k) x p p' t' a = ap (λ (u : Tally). length u.meaning.legs) a.2 ∙ length-set t.meaning.legs k _
legs_accepted t (Plan l) x p p' t' a = legs_planned t x p p' t' a
legs_accepted t (ListStations n) x p p' t' a = ap (λ (u : Tally). length u.meaning.legs) a.2
legs_accepted t (ListRuns n) x p p' t' a = ap (λ (u : Tally). length u.meaning.legs) a.2
legs_accepted t (Read k) x p p' t' a = ap (λ (u : Tally). length u.meaning.legs) a.2

pub legs_same : (t : Tally) (call : Call) (x : Answer) (p p' : Papers) (t' : Tally) → Follows t call x p p' t' → length t'.meaning.legs ≡ length t.meaning.legs
legs_same t call x p p' t' F = met t call F (λ f e r. ap (λ (u : Tally). length u.meaning.legs) r.2) (λ e a. legs_accepted t call x p p' t' a)

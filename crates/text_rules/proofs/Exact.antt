-- Reading accepts a text as a network exactly when the text states it and the tables are long enough, and
-- refuses it exactly as the rules say.
use Rattle.std.proofs.Common.{◌≡◌, ℕ, ◌⊎◌, List, Ok, Err, Result, refl, ap, inl, inr}
use Rattle.records.specs.Refusals.{number, place}
use Rattle.records.specs.declared.refusal.Refusal.{Refusal}
use Rattle.lines.specs.declared.line.Line.{Line}
use Rattle.text_rules.specs.Reading.{reading, answer_of, legs_after, stations_after, Accepted, RefusedAs, Exactly}
use Rattle.text_rules.specs.Stated.{StatedNetwork, States, Fitting, Refused, network_of}
use Rattle.text_rules.specs.declared.progress.Room.{Room}
use Rattle.text_rules.proofs.Running.{Taken, Read, reads, taken_reading, refused_reading}
use Rattle.text_rules.proofs.Sizing.{fitting_roomy, roomy_fitting, network_accepted, accepted_network}

-- lines that a text is taken as state their network, and a text that states a network that fits is taken as its lines
pub taken_states : (text : List ℕ) (room : Room) (lines : List Line) (net : StatedNetwork) → Taken text room lines → net ≡ network_of lines
    → States text net
taken_states text room lines net t e =
    record {
      short = t.short;
      rows = t.rows;
      parted = t.parted;
      lines = lines;
      spelled = t.good.spelled;
      lawful = t.good.lawful;
      complete = t.complete;
      same = e;
    }

pub states_taken : (text : List ℕ) (room : Room) (net : StatedNetwork) (s : States text net) → Fitting room net → Taken text room s.lines
states_taken text room net s f =
    record {
      short = s.short;
      rows = s.rows;
      parted = s.parted;
      good =
          record {
            spelled = s.spelled;
            lawful = s.lawful;
            roomy = roomy_fitting room s.lines s.lawful s.complete (rw s.same at f);
          };
      complete = s.complete;
    }

module _ (text : List ℕ) (room : Room) where
  -- what a call answers and leaves, where reading comes to a result, is that of a network
  abbrev AcceptedBy : Result (List Line) Refusal → StatedNetwork → Type 0
  AcceptedBy r net = Accepted (answer_of r) (legs_after r room.legs) (stations_after r room.stations) net

  stated_accepted : (net : StatedNetwork) → States text net → Fitting room net → AcceptedBy (reading room text) net
  stated_accepted net s f =
      rw (taken_reading text room s.lines (states_taken text room net s f), s.same) (network_accepted room s.lines (rw s.same at f))

  accepted_stated : (r : Result (List Line) Refusal) → Read text room r
      → (net : StatedNetwork) → AcceptedBy r net → States text net × Fitting room net
  accepted_stated (Ok lines) t net a =
      let e = accepted_network room lines net a in
      (taken_states text room lines net t e, rw e (fitting_roomy room lines t.complete t.good.roomy))
  accepted_stated (Err e) b net a = let e = a.sizes in cc

  refused_broken : (r : Result (List Line) Refusal) → Read text room r
      → (k at : ℕ) → RefusedAs (answer_of r) k at → Refused text room k at
  refused_broken (Ok lines) t k at (e, is, n, p) = cc
  refused_broken (Err d) b k at (e, is, n, p) =
      let q : number d ≡ k = cc in
      let o : place d ≡ at = cc in
      rw (q, o) at b

one_of : (text : List ℕ) (room : Room) (whole : Result (List Line) Refusal) → Read text room whole
    → ((net : StatedNetwork) × States text net × Fitting room net) ⊎ ((k : ℕ) × (at : ℕ) × Refused text room k at)
one_of text room (Ok lines) t =
    inl (network_of lines, taken_states text room lines (network_of lines) t refl, fitting_roomy room lines t.complete t.good.roomy)
one_of text room (Err e) f = inr (number e, place e, f)

pub exactly : (text : List ℕ) (room : Room)
    → Exactly text room (answer_of (reading room text)) (legs_after (reading room text) room.legs) (stations_after (reading room text) room.stations)
exactly text room =
    record {
      accepted_when_stated = λ net.
          (λ s. stated_accepted text room net s.0 s.1, accepted_stated text room (reading room text) (reads text room) net);
      refused_when_broken = λ k at. (
        λ b. let r = refused_reading text room k at b in (r.0, ap answer_of r.1, r.2, r.3),
        refused_broken text room (reading room text) (reads text room) k at,
      );
      one_or_the_other = one_of text room (reading room text) (reads text room);
    }

-- A whole text that is read: what the call answers and leaves.
use Rattle.std.proofs.Common.{◌≡◌, ℕ, List, Result, sym, subst}
use Rattle.records.specs.declared.leg.Leg.{Leg}
use Rattle.records.specs.declared.station.Station.{Station}
use Rattle.records.specs.declared.refusal.Refusal.{Refusal}
use Rattle.text_rules.specs.Reading.{reading, answer_of, legs_after, stations_after, Exactly}
use Rattle.text_rules.specs.declared.progress.Header.{Header}
use Rattle.text_rules.specs.declared.progress.Room.{Room}
use Rattle.text_rules.proofs.Exact.{exactly}

-- by the answer and the tables that the reading calls for
pub exactly_read : (text : List ℕ) (room : Room) (r : Result Header Refusal) (legs : List Leg) (stations : List Station)
    → r ≡ answer_of (reading room text) → legs ≡ legs_after (reading room text) room.legs → stations ≡ stations_after (reading room text) room.stations
    → Exactly text room r legs stations
exactly_read text room r legs stations answer legs_are stations_are =
    subst (λ x. Exactly text room x legs stations) (sym answer)
    (subst (λ x. Exactly text room (answer_of (reading room text)) x stations) (sym legs_are)
    (subst (λ x. Exactly text room (answer_of (reading room text)) (legs_after (reading room text) room.legs) x) (sym stations_are)
    (exactly text room)))

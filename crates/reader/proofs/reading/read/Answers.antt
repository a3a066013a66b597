use Rattle.std.proofs.Common.{◌≡◌, rules}
use Rattle.text_rules.specs.Reading.{reading, answer_of, legs_after, stations_after}
use Rattle.text_rules.specs.declared.progress.Room.{Room}
use Rattle.reader.specs.Entering.{room_of}
use Rattle.reader.proofs.Whole.{exactly_read}
use Rattle.reader.proofs.reading.read.Goals as goal

pub returns-then-is_err-clause-exactly : goal.returns-then-is_err-clause-exactly
returns-then-is_err-clause-exactly c =
    let text = c.args.text.now in
    let room : Room = room_of c.args.legs.now c.args.stations.now in
    let answer : c.read_lines-answer.result ≡ answer_of (reading room text) = search rules in
    let legs : c.clear-then-is_err.new.legs ≡ legs_after (reading room text) room.legs = search rules in
    let stations : c.clear-then-is_err.new.stations ≡ stations_after (reading room text) room.stations = search rules in
    exactly_read text room _ _ _ answer legs stations

pub returns-else-is_err-clause-exactly : goal.returns-else-is_err-clause-exactly
returns-else-is_err-clause-exactly c =
    let text = c.args.text.now in
    let room : Room = room_of c.args.legs.now c.args.stations.now in
    let answer : c.read_lines-answer.result ≡ answer_of (reading room text) = search rules in
    let legs : c.read_lines-answer.new.legs ≡ legs_after (reading room text) room.legs = search rules in
    let stations : c.read_lines-answer.new.stations ≡ stations_after (reading room text) room.stations = search rules in
    exactly_read text room _ _ _ answer legs stations

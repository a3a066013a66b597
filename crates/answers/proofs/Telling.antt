-- The canonical text of a table is that of the network on which it stands.
use Rattle.std.proofs.Common.{◌≡◌, ℕ, List, [], ◌∷◌, IfOk, Ok, Err, Result, refl, ap, ◌∙◌}
use Rattle.std.proofs.lemmas.Result.{IfOk-weaker}
use Rattle.records.specs.declared.refusal.Refusal.{Refusal}
use Rattle.records.specs.declared.station.Station.{Station}
use Rattle.lines.specs.declared.line.Line.{Line}
use Rattle.text_rules.specs.Stated.{StatedNetwork, network_of}
use Rattle.writer.specs.Canonical.{canonical}
use Rattle.table.specs.Tables.{balances_of}
use Rattle.text_table.specs.Stands.{net_of}
use Rattle.answers.specs.Answered.{PrintsRead, Prints}
use Rattle.answers.specs.Printed.{as_stations, printed, PrintsNet, PrintsStated}

stations_back : (ss : List Station) → as_stations (balances_of ss) ≡ ss
stations_back [] = refl
stations_back (s ∷ ss) = ap (λ rest. s ∷ rest) (stations_back ss)

abbrev PrintsTable : StatedNetwork → List ℕ → Type 0
PrintsTable net bytes = PrintsNet (net_of net) bytes

as_stated : (net : StatedNetwork) (bytes : List ℕ) → PrintsTable net bytes → PrintsStated net bytes
as_stated net bytes h = h ∙ ap (λ ss. canonical ss net.legs) (stations_back net.stations)

as_printed : (whole : Result (List Line) Refusal) (bytes : List ℕ) → PrintsRead PrintsTable whole bytes → bytes ≡ printed whole
as_printed (Ok lines) bytes h = as_stated (network_of lines) bytes h
as_printed (Err e) bytes h = h

module _ {X Y : Type 0} (r : Result X Y) (bytes : X → List ℕ) where
  pub told : (whole : Result (List Line) Refusal) → IfOk r (λ s. PrintsRead PrintsTable whole (bytes s)) → IfOk r (λ s. bytes s ≡ printed whole)
  told whole = IfOk-weaker r _ _ (λ s. as_printed whole (bytes s))

  pub told_of_text : (text : List ℕ) → IfOk r (λ s. Prints PrintsTable text (bytes s)) → IfOk r (λ s. Prints PrintsStated text (bytes s))
  told_of_text text =
      IfOk-weaker r _ _ (λ s p. record { of_network = λ net st. as_stated net (bytes s) (p.of_network net st); of_refusal = p.of_refusal })

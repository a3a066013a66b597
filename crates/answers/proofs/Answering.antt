-- What is printed for a text, by what the text states and by how it is refused.
--   made_prints     what is printed for what reading came to is printed for the text
--   table_printed   what is printed for a table is printed for the text that it stands on
--   fall_printed    a refusal of the reading is told
use Rattle.std.proofs.Common.{◌≡◌, ℕ, List, length, IfOk, Ok, Result, sym, ap, ◌∙◌, subst}
use Rattle.std.proofs.lemmas.Result.{IfOk-weaker}
use Rattle.records.specs.Refusals.{number, place}
use Rattle.records.specs.declared.leg.Leg.{Leg}
use Rattle.records.specs.declared.station.Station.{Station}
use Rattle.records.specs.declared.refusal.Refusal.{Refusal}
use Rattle.reader.specs.Entering.{room_of}
use Rattle.text_rules.specs.Reading.{reading}
use Rattle.text_rules.specs.Stated.{StatedNetwork, States, Fitting, Refused}
use Rattle.text_rules.specs.declared.progress.Room.{Room}
use Rattle.text_rules.proofs.Exact.{states_taken}
use Rattle.text_rules.proofs.Legal.{legal}
use Rattle.text_rules.proofs.Running.{taken_reading, refused_reading}
use Rattle.network.specs.Nets.{Net}
use Rattle.text_table.specs.Stands.{net_of, Stands, Falls}
use Rattle.answers.specs.Answered.{whole_room, refusal_line, PrintsRead, Prints}

-- a text that states a network is read as its lines
stated_reading : (text : List ℕ) (room : Room) (net : StatedNetwork) (s : States text net) → Fitting room net → reading room text ≡ Ok s.lines
stated_reading text room net s fitting = taken_reading text room s.lines (states_taken text room net s fitting)

module _ (P : StatedNetwork → List ℕ → Type 0) (text bytes : List ℕ) where
  -- every network that a text states fits the largest tables
  of_reading : PrintsRead P (reading whole_room text) bytes → Prints P text bytes
  of_reading h =
      record {
        of_network = λ net s.
            let limits = legal text net.stations net.legs s in
            let e = stated_reading text whole_room net s (limits.few, limits.few_legs) in
            subst (λ (n : StatedNetwork). P n bytes) (sym s.same) (subst (λ q. PrintsRead P q bytes) e h);
        of_refusal = λ k at r.
            let e = refused_reading text whole_room k at r in
            subst (λ q. PrintsRead P q bytes) e.1 h ∙ ap (λ n. refusal_line n (place e.0)) e.2 ∙ ap (refusal_line k) e.3;
      }

  of_stated : (net : StatedNetwork) → States text net → Fitting whole_room net → P net bytes → PrintsRead P (reading whole_room text) bytes
  of_stated net s fitting h =
      subst (λ q. PrintsRead P q bytes) (sym (stated_reading text whole_room net s fitting)) (subst (λ (n : StatedNetwork). P n bytes) s.same h)

  of_refused : (k at : ℕ) → Refused text whole_room k at → bytes ≡ refusal_line k at → PrintsRead P (reading whole_room text) bytes
  of_refused k at f h =
      let d = refused_reading text whole_room k at f in
      subst (λ q. PrintsRead P q bytes) (sym d.1) (h ∙ sym (ap (λ n. refusal_line n (place d.0)) d.2 ∙ ap (refusal_line k) d.3))

-- where there was memory for it
module _ {X Y : Type 0} (r : Result X Y) (bytes : X → List ℕ) (text : List ℕ) where
  pub made_prints : (P : StatedNetwork → List ℕ → Type 0) → IfOk r (λ s. PrintsRead P (reading whole_room text) (bytes s))
      → IfOk r (λ s. Prints P text (bytes s))
  made_prints P = IfOk-weaker r _ _ (λ s. of_reading P text (bytes s))

  -- the tables are those of the largest network
  module _ (Q : Net → List ℕ → Type 0) (legs : List Leg) (stations : List Station) (ls : length legs ≡ 3000) (ss : length stations ≡ 240) where
    whole : room_of legs stations ≡ whole_room
    whole = λ i. record { stations = ss i; legs = ls i }

    pub table_printed : (meaning : Net) → Stands text (room_of legs stations) meaning → IfOk r (λ s. Q meaning (bytes s))
        → IfOk r (λ s. PrintsRead (λ net. Q (net_of net)) (reading whole_room text) (bytes s))
    table_printed meaning st =
        IfOk-weaker r _ _ (λ s h. of_stated (λ net. Q (net_of net)) text (bytes s) st.net st.stated (subst (λ q. Fitting q st.net) whole st.fitting)
        (subst (λ (m : Net). Q m (bytes s)) st.meant h))

    pub fall_printed : (e : Refusal) → Falls text (room_of legs stations) e → IfOk r (λ s. bytes s ≡ refusal_line (number e) (place e))
        → IfOk r (λ s. PrintsRead (λ net. Q (net_of net)) (reading whole_room text) (bytes s))
    fall_printed e f =
        IfOk-weaker r _ _ (λ s h. of_refused (λ net. Q (net_of net)) text (bytes s) (number e) (place e)
        (subst (λ q. Refused text q (number e) (place e)) whole f) h)

-- What is printed, by what planning answers.
--   denied_printed     a refusal of the planning is told
--   whole_printed      the tables are those of the largest network
use Rattle.std.proofs.Common.{◌≡◌, ℕ, List, length, take, ℤ, IfOk, Some, None, Ok, Err, Option, Result, sym, ◌∙◌, subst, inr}
use Rattle.std.proofs.lemmas.List.{length-take-le}
use Rattle.records.specs.Refusals.{number, place}
use Rattle.records.specs.declared.refusal.Refusal.{Refusal}
use Rattle.network.specs.Nets.{Net}
use Rattle.planning_rules.specs.Checks.{planning_fault}
use Rattle.planning_rules.specs.declared.lengths.Lengths.{Lengths}
use Rattle.planning_rules.specs.Answers.{Refused as Denied}
use Rattle.planning.specs.Tables.{lengths_of}
use Rattle.planning.specs.declared.tables.Tables.{Tables}
use Rattle.workspace.specs.Entries.{HasEntries}
use Rattle.plan_answers.specs.Printed.{whole_lengths, PrintsNet}
use Rattle.answers.specs.Answered.{refusal_line}

pub denied_printed : {X Y : Type 0} (r : Result X Y) (bytes : X → List ℕ) (net : Net) (fault : Option (ℕ × ℕ)) (e : Refusal)
    (prices prices' : List ℤ) (cut cut' : List ℕ) → Denied net fault e prices prices' cut cut'
    → IfOk r (λ s. bytes s ≡ refusal_line (number e) (place e)) → IfOk r (λ s. PrintsNet net fault (bytes s))
denied_printed (Ok x) bytes net (Some f) e prices prices' cut cut' (n, p, stay) h = h ∙ (λ i. refusal_line (n i) (p i))
denied_printed (Ok x) bytes net None e prices prices' cut cut' (n, none) h =
    inr (record {
      none_obeys = none.none_obeys;
      cut = take (place e) cut';
      is_cut = none.is_cut;
      told = h ∙ (λ i. refusal_line (n i) (sym (length-take-le (place e) cut' none.room) i));
    })
denied_printed (Err y) bytes net fault e prices prices' cut cut' d h = tt

pub whole_printed : {X Y : Type 0} (r : Result X Y) (bytes : X → List ℕ) (net : Net) (prices : List ℤ) (cut : List ℕ) (tables : Tables)
    → length prices ≡ 240 → length cut ≡ 240 → HasEntries 240 3000 tables
    → IfOk r (λ s. PrintsNet net (planning_fault net (lengths_of prices cut tables)) (bytes s))
    → IfOk r (λ s. PrintsNet net (planning_fault net whole_lengths) (bytes s))
whole_printed r bytes net prices cut tables p c h =
    let whole : lengths_of prices cut tables ≡ whole_lengths = λ i. record { prices = p i; cut = c i; station_entries = h.for_stations i; leg_entries = h.for_legs i } in
    subst (λ (q : Lengths). IfOk r (λ s. PrintsNet net (planning_fault net q) (bytes s))) whole

-- Lines that tell calls.
--   sizes_of    the sizes of a network
--   just_long   slices and working tables of a planning, just long enough
--   Tells       a line that tells a call, on a network of such sizes
--   Entered     what a line is taken for
--   Read        an input, and what each of its lines is taken for
--   calls_of    the calls among entries
use Rattle.std.specs.Prelude.{◌≡◌, ℕ, ◌≤◌, ◌⊎◌, List, [], ◌∷◌, length, Some, None, Option, codes}
use Rattle.std.specs.List.{filter_map}
use Rattle.network.specs.Nets.{Net}
use Rattle.text_rules.specs.Rows.{first_row, behind}
use Rattle.planning_rules.specs.declared.lengths.Lengths.{Lengths}
use Rattle.tally.specs.Texts.{call_text}
use Rattle.tally.specs.declared.call.Call.{Call}
use Rattle.tally.specs.declared.call.Call.TheVariants.{Plan, ListStations, ListRuns}
use Rattle.call_lines.specs.Calls.{InTypes}
use Rattle.call_lines.specs.declared.sizes.Sizes.{Sizes}

abbrev pub sizes_of : Net → Sizes
sizes_of net = record { stations = length net.balances; open_stations = net.open_stations; legs = length net.legs }

abbrev pub just_long : Sizes → Lengths
just_long s = record { prices = s.stations; cut = s.stations; station_entries = 240; leg_entries = 3000 }

-- by the call's text, or by a word alone, where the slices are just long enough
abbrev pub Tells : Sizes → List ℕ → Call → Type 0
Tells s line call =
    (call_text call ≡ line)
    ⊎ (((line ≡ codes "plan") × (call ≡ Plan (just_long s)))
    ⊎ (((line ≡ codes "stations") × (call ≡ ListStations s.open_stations))
    ⊎ ((line ≡ codes "runs") × (call ≡ ListRuns s.legs))))

-- a call that it tells, of numbers that a machine counts; or none, where it tells no such call
abbrev pub Entered : Sizes → List ℕ → Option Call → Type 0
Entered s line (Some call) = InTypes call × Tells s line call
Entered s line None = (call : Call) → InTypes call → Tells s line call → ⊥

-- a line is ended by byte 10, the last one by the end, too, where it is not empty
abbrev pub Read : Sizes → List ℕ → List (Option Call) → Type 0
Read s input [] = input ≡ []
Read s input (e ∷ es) = (1 ≤ length input) × Entered s (first_row input) e × Read s (behind input) es

abbrev pub calls_of : List (Option Call) → List Call
calls_of entries = filter_map (λ entry. entry) entries

-- A planning that meets no fault because all that is handed in is long enough.
use Rattle.std.proofs.Common.{◌≡◌, ℕ, ◌≤◌, Bool, false, cond, ◌||◌, ltb, length, Some, None, Option, refl, ◌∙◌, le-ltb}
use Rattle.std.specs.Option.{option_map, option_or}
use Rattle.network.specs.Nets.{Net}
use Rattle.plans.specs.Plans.{stations}
use Rattle.planning_rules.specs.Checks.{lowest, senseless, too_large, uneven}
use Rattle.planning_rules.specs.declared.lengths.Lengths.{Lengths}
use Rattle.tally.specs.Tallies.{Tally}
use Rattle.tally.specs.Follows.{fault}
use Rattle.tally.specs.declared.call.Call.TheVariants.{Plan}

-- the fault of a planning that is handed enough
abbrev pub fault_of : Net → Option (ℕ × ℕ)
fault_of net =
    option_or (option_map (λ (k : ℕ). (12, k)) (lowest (senseless net) (length net.legs)))
    (option_or (option_map (λ (v : ℕ). (13, v)) (lowest (too_large net) (stations net)))
    (cond (uneven net) (Some (14, 0)) None))

none_of : (a b c d : Bool) (f : ℕ × ℕ) (o : Option (ℕ × ℕ)) → a ≡ false → b ≡ false → c ≡ false → d ≡ false → cond (a || (b || (c || d))) (Some f) o ≡ o
none_of a b c d f o p q r s = rw (p, q, r, s) refl

pub passes : (t : Tally) (l : Lengths) → fault_of t.meaning ≡ None → stations t.meaning ≤ l.prices → stations t.meaning ≤ l.cut → 240 ≤ l.station_entries → 3000 ≤ l.leg_entries → fault t (Plan l) ≡ None
passes t l e hp hc hs hl =
    let n : ℕ = stations t.meaning in
    none_of (ltb l.prices n) (ltb l.cut n) (ltb l.station_entries 240) (ltb l.leg_entries 3000) (11, 0) (fault_of t.meaning) (le-ltb l.prices n hp) (le-ltb l.cut n hc) (le-ltb l.station_entries 240 hs) (le-ltb l.leg_entries 3000 hl) ∙ e

-- Scanning a number: where it begins and stops, and how large it is.
use Rattle.std.proofs.Common.{◌≡◌, ℕ, zero, suc, ◌^◌, ◌<◌, ◌≤◌, false, List, [], ◌∷◌, Some, refl, arith}
use native.Mathlib.Nat.{pow-le-pow_right}
use Rattle.lines.specs.Scan.{Stops, BeginsWith, scanned, is_digit, numeral}

pub tens_under : (m n v : ℕ) → n ≤ m → v < 10 ^ n → v < 10 ^ m
tens_under m n v h k = let p : 10 ^ n ≤ 10 ^ m = pow-le-pow_right (omega arith) h in omega arith

pub stops : (k v b : ℕ) (s : List ℕ) → is_digit b ≡ false → scanned k v (b ∷ s) ≡ (v, b ∷ s)
stops zero v b s e = refl
stops (suc k) v b s e = rw e

pub scan_stops : (k v : ℕ) (s : List ℕ) → Stops s → scanned k v s ≡ (v, s)
scan_stops k v [] h = refl
scan_stops k v (b ∷ s) h = stops k v b s h

pub scan_full : (v : ℕ) (s : List ℕ) → scanned 0 v s ≡ (v, s)
scan_full v [] = refl
scan_full v (b ∷ s) = refl

pub numeral_begins : (s rest : List ℕ) (d n : ℕ) → BeginsWith s d rest → n ≡ d → numeral s ≡ Some (scanned 8 n rest)
numeral_begins s rest d n f e = rw (f.parts, f.digit, e, f.worth)

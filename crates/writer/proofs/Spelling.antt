-- The canonical lines spell what they stand for, and no line end stands among their bytes.
--   numeral, signed_numeral     a number in decimal is a numeral of it
--   Spelt                       bytes that spell a line, without a line end
--   problem_spelt, node_spelt, arc_spelt   each canonical line
--   parted                      lines without a line end, each ended, make up a text
use Rattle.std.proofs.Common.{◌≡◌, ℕ, suc, ◌+◌, ◌≤◌, Bool, true, not, ◌&&◌, eqb, List, [], ◌∷◌, ◌++◌, ℤ, pos, negsuc, codes, decimal, sym, refl, inl, inr, append_assoc, arith, rules}
use Rattle.std.specs.List.{flat_map, AllByRecursion}
use Rattle.std.specs.Fmt.{signed_decimal}
use Rattle.std.proofs.lemmas.Fmt.{decimal_nonempty, length-decimal-le, digits_decimal, digits_value-decimal}
use Rattle.std.proofs.lemmas.Str.Parse.{IsNumeralModel, numerals_by_fold}
use Rattle.std.proofs.lemmas.Int.{ints}
use Rattle.std.proofs.lemmas.Bool.Decides.{nat_tests}
use Rattle.records.specs.declared.leg.Leg.{Leg}
use Rattle.lines.specs.Grammar.{Digits, worth, worth_from, Numeral, Signed, Written}
use Rattle.lines.specs.declared.line.Line.{Line}
use Rattle.lines.specs.declared.line.Line.TheVariants.{Problem, Node, Arc}
use Rattle.text_rules.specs.Rows.{NoEnd, Parted}
use Rattle.writer.specs.Canonical.{problem_line, node_line, arc_line, ended}
use Rattle.text_rules.specs.Legal.{LegLawful, Bounded}

own : IsNumeralModel Digits worth
own = numerals_by_fold Digits (search rules) worth_from (search rules)

pub numeral : (n : ℕ) → n ≤ 10000 → Numeral (decimal n) n
numeral n h =
    record {
      some = decimal_nonempty n (omega arith);
      few = length-decimal-le 9 n (omega arith) (omega arith) (omega arith);
      digits = digits_decimal own n (omega arith);
      value = sym (digits_value-decimal own n (omega arith));
    }

pub signed_numeral : (z : ℤ) → Bounded z → Signed (signed_decimal z) z
signed_numeral (pos n) h = inl (n, numeral n (omega (arith, ints, h.1)), refl)
signed_numeral (negsuc n) h = inr (decimal (suc n), suc n, refl, numeral (suc n) (omega (arith, ints, h.0)), refl)

-- a test for `NoEnd`
abbrev plain : List ℕ → Bool
plain [] = true
plain (b ∷ s) = not (eqb b 10) && plain s

plain_no_end : (s : List ℕ) → plain s ≡ true → NoEnd s
plain_no_end [] e = tt
plain_no_end (b ∷ s) e = (λ is. grind (arith, nat_tests), plain_no_end s (grind (arith, nat_tests)))

no_end_append : (s t : List ℕ) → NoEnd s → NoEnd t → NoEnd (s ++ t)
no_end_append [] t p q = q
no_end_append (b ∷ s) t p q = (p.0, no_end_append s t p.1 q)

no_end_digits : (ds : List ℕ) → Digits ds → NoEnd ds
no_end_digits [] d = tt
no_end_digits (b ∷ ds) d = (λ is. omega (arith, is, d.0), no_end_digits ds d.2)

no_end_decimal : (n : ℕ) → n ≤ 10000 → NoEnd (decimal n)
no_end_decimal n h = no_end_digits (decimal n) (numeral n h).digits

no_end_signed : (z : ℤ) → Bounded z → NoEnd (signed_decimal z)
no_end_signed (pos n) h = no_end_decimal n (omega (arith, ints, h.1))
no_end_signed (negsuc n) h = (λ is. omega (arith, is), no_end_decimal (suc n) (omega (arith, ints, h.0)))

-- a word of a line, before the rest of it
no_end_word : (word s : List ℕ) → plain word ≡ true → NoEnd s → NoEnd (word ++ s)
no_end_word word s e p = no_end_append word s (plain_no_end word e) p

-- a number of a line, before the rest of it
no_end_number : (n : ℕ) (s : List ℕ) → n ≤ 10000 → NoEnd s → NoEnd (decimal n ++ s)
no_end_number n s h p = no_end_append (decimal n) s (no_end_decimal n h) p

pub record Spelt (l : Line) (row : List ℕ) : Type 0 where
  pub written : Written l row
  pub no_end : NoEnd row

pub problem_spelt : (nodes arcs : ℕ) → nodes ≤ 240 → arcs ≤ 3000 → Spelt (Problem nodes arcs) (problem_line nodes arcs)
problem_spelt nodes arcs few few-arcs =
    record {
      written = (decimal nodes, decimal arcs, numeral nodes (omega arith), numeral arcs (omega arith), refl);
      no_end =
          no_end_word (codes "p min ") _ refl
          (no_end_number nodes _ (omega arith) (no_end_word (codes " ") _ refl (no_end_decimal arcs (omega arith))));
    }

pub node_spelt : (id : ℕ) (flow : ℤ) → id ≤ 240 → Bounded flow → Spelt (Node id flow) (node_line id flow)
node_spelt id flow few h =
    record {
      written = (decimal id, signed_decimal flow, numeral id (omega arith), signed_numeral flow h, refl);
      no_end =
          no_end_word (codes "n ") _ refl (no_end_number id _ (omega arith) (no_end_word (codes " ") _ refl (no_end_signed flow h)));
    }

-- the line of a leg
abbrev pub arc_of : Leg → Line
arc_of leg = Arc (leg.start + 1) (leg.end + 1) 0 leg.capacity leg.charge

pub arc_spelt : (n : ℕ) (leg : Leg) → n ≤ 240 → LegLawful n leg → Spelt (arc_of leg) (arc_line leg)
arc_spelt n leg few h =
    let source : leg.start + 1 ≤ 10000 = omega (arith, h.starts) in
    let target : leg.end + 1 ≤ 10000 = omega (arith, h.ends) in
    let capacity : leg.capacity ≤ 10000 = omega (arith, h.carries) in
    let zero : Numeral (codes "0") 0 = record { some = omega arith; few = omega arith; digits = (omega arith, omega arith, tt); value = refl } in
    record {
      written = (
        decimal (leg.start + 1),
        decimal (leg.end + 1),
        codes "0",
        decimal leg.capacity,
        decimal leg.charge,
        numeral _ source,
        numeral _ target,
        zero,
        numeral _ capacity,
        numeral _ h.costs,
        refl,
      );
      no_end =
          no_end_word (codes "a ") _ refl (no_end_number _ _ source
          (no_end_word (codes " ") _ refl (no_end_number _ _ target
          (no_end_word (codes " 0 ") _ refl (no_end_number _ _ capacity
          (no_end_word (codes " ") _ refl (no_end_decimal _ h.costs)))))));
    }

pub parted : (rows : List (List ℕ)) → AllByRecursion NoEnd rows → Parted rows (flat_map ended rows)
parted [] h = refl
parted (row ∷ rest) h = (h.0, inl (flat_map ended rest, append_assoc row (10 ∷ []) (flat_map ended rest), parted rest h.1))

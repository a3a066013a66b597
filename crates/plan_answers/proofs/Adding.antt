-- What is added to a text by a loop over the legs.
--   lines_below   the lines of the legs below a number
--   legs_added    one leg more
use Rattle.std.proofs.Common.{◌≡◌, ℕ, ◌+◌, ◌<◌, List, [], ◌∷◌, ◌++◌, length, Some, sym, ap, ◌∙◌, zero-add}
use Rattle.std.specs.List.{range_with_len, flat_map, slice_get}
use Rattle.std.proofs.lemmas.List.{get_or-take, flat_map_more, map-id}
use Rattle.std.proofs.lemmas.List.FromFn.{map-range_with_len_more}
use Rattle.records.specs.Cleared.{cleared_leg}
use Rattle.records.specs.declared.leg.Leg.{Leg}
use Rattle.network.specs.Nets.{Net}
use Rattle.std.proofs.lemmas.Option.{get_or_from_slice_get}
use Rattle.plans.specs.Plans.{leg_at, amount}
use Rattle.planning_rules.specs.Answers.{the_plan}
use Rattle.plan_answers.specs.Printed.{leg_line}

range_more : (n : ℕ) → range_with_len 0 n ++ n ∷ [] ≡ range_with_len 0 (n + 1)
range_more n =
    ap (λ ks. ks ++ n ∷ []) (sym (map-id (range_with_len 0 n))) ∙ sym (map-range_with_len_more (λ k. k) 0 n n (zero-add n))
    ∙ map-id (range_with_len 0 (n + 1))

-- the lines of the legs below a number
abbrev pub lines_below : Net → List ℕ → ℕ → List ℕ
lines_below net amounts i = flat_map (λ k. leg_line (leg_at net k) (amount (the_plan net amounts) k)) (range_with_len 0 i)

pub legs_added : (net : Net) (amounts : List ℕ) (i bikes : ℕ) (leg : Leg) (start before after : List ℕ) → i < length net.legs
    → Some leg ≡ slice_get net.legs i → bikes ≡ amount amounts i → before ≡ start ++ lines_below net amounts i
    → after ≡ before ++ leg_line leg bikes → after ≡ start ++ lines_below net amounts (i + 1)
legs_added net amounts i bikes leg start before after inside found carried held added =
    let line : ℕ → List ℕ = λ k. leg_line (leg_at net k) (amount (the_plan net amounts) k) in
    let same-leg : leg ≡ leg_at net i = sym (get_or_from_slice_get net.legs i leg cleared_leg (sym found)) in
    let same-bikes : bikes ≡ amount (the_plan net amounts) i = carried ∙ sym (get_or-take (length net.legs) amounts i 0 inside) in
    added ∙ ap (λ l. before ++ leg_line l bikes) same-leg ∙ ap (λ b. before ++ leg_line (leg_at net i) b) same-bikes
    ∙ ap (λ s. s ++ line i) held ∙ flat_map_more line start (range_with_len 0 i) i
    ∙ ap (λ ks. start ++ flat_map line ks) (range_more i)

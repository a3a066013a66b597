-- What a plan leaves over, leg by leg, and a draft whose amounts were mended.
use Rattle.std.proofs.Common.{◌≡◌, ℕ, zero, suc, ◌+◌, ◌*◌, ◌^◌, ◌<◌, ◌≤◌, Bool, true, false, cond, eqb, List, [], ◌∷◌, ◌++◌, length, get_or, sum_by, take, drop, set, ℤ, pos, negsuc, ◌+ℤ◌, ◌-ℤ◌, ◌≤ℤ◌, sym, refl, ap, ◌∙◌, add-one, arith, rules, inl, inr, replicate}
use native.Mathlib.Decide.{ℕ_discrete}
use Rattle.std.proofs.lemmas.List.{take_all, take-append-le, get_or-set_same, get_or-set_other, get_or-replicate, get_or_past, length-replicate}
use Rattle.std.proofs.Math.ListN.{get_or-append}
use Rattle.std.proofs.lemmas.Slice.{drop-append-drop}
use Rattle.std.proofs.lemmas.List.Sums.{sum_by-cons, sum_by_more}
use Rattle.std.proofs.lemmas.Int.{ints}
use Rattle.records.specs.declared.leg.Leg.{Leg}
use Rattle.network.specs.Nets.{Net, Within}
use Rattle.theory.specs.Trails.{here}
use Rattle.plans.specs.Plans.{sum_below, stations, leg_at, amount, balance_at}
use Rattle.plans.proofs.Sums.{sum_same}
use Rattle.certificates.specs.Mends.{rise, mended_amount, Mended}
use Rattle.certificates.specs.Totals.{over}
use Rattle.planning.specs.declared.draft.Draft.{Draft}
use Rattle.planning.specs.Drafts.{left_after_move}
use Rattle.planning.proofs.Handing.{handed_at, length_handed}
use Rattle.planning.specs.Leavings.{Near, Written, out_below, in_below, Left}
use Rattle.planning.specs.Mends.{MendedDraft, NoGuessBeginsFirst}
use Rattle.planning_rules.specs.Answers.{the_plan}
use Rattle.planning.specs.Potentials.{nearest_in_reach, nothing, stated_at, potential, BareMendIsFirst}
use Rattle.costs.specs.Kinds.{CentsThenBikes}
use Rattle.certificates.specs.Starts.{first_amount, level}
use Rattle.std.proofs.lemmas.Bool.{cases_lt}
use mathlib.Core.Path.{fun_ext}

-- the balances are written one by one
pub written_more : (net : Net) (left : List ℤ) (i : ℕ) (y : ℤ) → i < length left → y ≡ balance_at net i → Near 2147483648 y
    → ((v : ℕ) → v < i → (get_or left v (pos 0) ≡ balance_at net v) × Near 2147483648 (get_or left v (pos 0)))
    → (v : ℕ) → v < i + 1 → (get_or (set left i y) v (pos 0) ≡ balance_at net v) × Near 2147483648 (get_or (set left i y) v (pos 0))
written_more net left i y l e n w v h =
    elim (ℕ_discrete v i) [
      | yes q ↦ let s = get_or-set_same left i y (pos 0) l in rw (q, s) (e, n)
      | no q ↦ let s = get_or-set_other left i v y (pos 0) q in rw s (w v (omega arith))
    ]

-- ---- leg by leg
pub left_none : (net : Net) (plan : List ℕ) (left : List ℤ) → length left ≡ stations net → Written net left → Left net plan 0 left
left_none net plan left l w =
    record {
      long = l;
      over = λ v k. let e = w.each v (omega (arith, l)) in omega (arith, ints, e);
      near = λ v k. let n = w.near v (omega (arith, l)) in (omega (arith, ints, n.0), omega (arith, ints, n.1));
    }

here_most : (t : Bool) (b : ℕ) → cond t b 0 ≤ b
here_most true b = omega arith
here_most false b = omega arith

-- a leg that carries nothing leaves everything as it is
pub left_still : (net : Net) (k b : ℕ) (plan : List ℕ) (left : List ℤ) → Left net plan k left → b ≡ amount plan k → b ≡ 0 → Left net plan (k + 1) left
left_still net k b plan left d e none =
    let u = (leg_at net k).start in
    let v = (leg_at net k).end in
    record {
      long = d.long;
      over = λ w i.
          let out : out_below net plan (k + 1) w ≡ out_below net plan k w + here b u w = rw (add-one, e) refl in
          let inn : in_below net plan (k + 1) w ≡ in_below net plan k w + here b v w = rw (add-one, e) refl in
          omega (arith, ints, none, d.over w i, out, inn, here_most (eqb u w) b, here_most (eqb v w) b);
      near = λ w i. let n = d.near w i in (omega (arith, ints, n.0), omega (arith, ints, n.1));
    }

pub left_more : (net : Net) (k b i j : ℕ) (l : Leg) (plan : List ℕ) (left after : List ℤ) → Within net → Left net plan k left → k < length net.legs → leg_at net k ≡ l → i ≡ l.start → j ≡ l.end → b ≡ amount plan k → b ≤ 65535
    → after ≡ left_after_move i j b left → Left net plan (k + 1) after
left_more net k b i j l plan left after lim d h q s t e small given =
    let u = (leg_at net k).start in
    let v = (leg_at net k).end in
    let after_is : after ≡ left_after_move u v b left = given ∙ ap (λ x. left_after_move x j b left) (s ∙ ap (λ (x : Leg). x.start) (sym q)) ∙ ap (λ x. left_after_move u x b left) (t ∙ ap (λ (x : Leg). x.end) (sym q)) in
    let moved : (w : ℕ) → w < stations net → get_or after w (pos 0) ≡ (get_or left w (pos 0) -ℤ pos (here b u w)) +ℤ pos (here b v w) = λ w i.
    let n = d.near w i in
    let p = here_most (eqb u w) b in
    let l : w < length left = omega (arith, d.long) in
    rw after_is (handed_at u v b left w (λ _. (l, omega (arith, ints, n.0, n.1, lim.few_legs))) (λ _. (l, omega (arith, ints, n.0, n.1, p, lim.few_legs)))) in
    record {
      long = ap length after_is ∙ length_handed u v b left ∙ d.long;
      over = λ w i.
          let out : out_below net plan (k + 1) w ≡ out_below net plan k w + here b u w = rw (add-one, e) refl in
          let inn : in_below net plan (k + 1) w ≡ in_below net plan k w + here b v w = rw (add-one, e) refl in
          omega (arith, ints, moved w i, d.over w i, out, inn);
      near = λ w i.
          let e = moved w i in
          let p = here_most (eqb u w) b in
          let q = here_most (eqb v w) b in
          let r = d.near w i in
          (omega (arith, ints, r.0, e, p, q), omega (arith, ints, r.1, e, p, q));
    }

-- ---- all legs
-- what is over is near enough to be summed
over_near : (z : ℤ) (b : ℕ) → z ≤ℤ pos b → over z ≤ b
over_near (pos a) b h = omega (arith, ints)
over_near (negsuc a) b h = omega arith

sum_near : (left : List ℤ) (b : ℕ) → ((v : ℕ) → v < length left → Near b (get_or left v (pos 0))) → sum_by over left ≤ b * length left
sum_near [] b h = omega arith
sum_near (z ∷ left) b h = rw (sum_by-cons over z left) (let n = (h 0 (omega arith)).1 in omega (arith, over_near z b n, sum_near left b (λ v l. h (suc v) (omega arith))))

pub few_over : (net : Net) (plan : List ℕ) (k : ℕ) (left : List ℤ) → Within net → k ≤ length net.legs → Left net plan k left → sum_by over left < 2 ^ 64
few_over net plan k left w h d =
    let s = sum_near left 1099511627776 (λ v l. let n = d.near v (omega (arith, d.long)) in (omega (arith, ints, n.0, w.few_legs), omega (arith, ints, n.1, w.few_legs))) in
    omega (arith, s, w.few_stations, d.long)

sum_front : (left : List ℤ) (n : ℕ) → n ≤ length left → sum_by over (take n left) ≡ sum_below n (λ v. over (get_or left v (pos 0)))
sum_front left zero h = refl
sum_front left (suc n) h = let e = sum_by_more over left n (pos 0) (omega arith) in rw (← add-one) (omega (arith, e, sum_front left n (omega arith)))

sum_places : (left : List ℤ) (n : ℕ) → length left ≡ n → sum_by over left ≡ sum_below n (λ v. over (get_or left v (pos 0)))
sum_places left n e = ap (sum_by over) (sym (take_all n left (omega (arith, e)))) ∙ sum_front left n (omega (arith, e))

-- a draft before its front was mended, and after it
pub mended_draft : (net : Net) (standing guess plan : List ℕ) (π : ℕ → ℤ × ℤ) (left : List ℤ) (before after : Draft) (total : ℕ) → Mended net standing guess π plan → Left net plan (length net.legs) left
    → after.amounts.now ≡ plan ++ drop (length net.legs) before.amounts.now → after.left.now ≡ left ++ drop (stations net) before.left.now → total ≡ sum_by over left → MendedDraft net standing guess π before after total
mended_draft net standing guess plan π left before after total m d p q e =
    let k = length net.legs in
    let n = stations net in
    let old = before.amounts.now in
    let whole : take k after.amounts.now ≡ plan = rw p (take-append-le k plan (drop k old) (omega (arith, m.one_each)) ∙ take_all k plan (omega (arith, m.one_each))) in
    record {
      mended = rw whole m;
      beyond = record { amounts = rw p (drop-append-drop k old plan k (omega arith) m.one_each); left = rw q (drop-append-drop n before.left.now left n (omega arith) d.long) };
      left_each = λ v h. rw (whole, q) (get_or-append left (drop n before.left.now) (pos 0) v (omega (arith, d.long)) ∙ d.over v h);
      over_all = rw whole (e ∙ sum_places left n d.long ∙ sum_same n _ _ (λ v h. ap over (d.over v h)));
    }

-- ---- by potentials that are zero
level_amount : (l : Leg) (s g : ℕ) → mended_amount l s (rise l level) g ≡ first_amount l s
level_amount l s g = search rules

stated_at_nothing : (n v : ℕ) → stated_at (replicate n nothing) v ≡ nothing
stated_at_nothing n v = elim (cases_lt v n) [ inl h ↦ get_or-replicate n v nothing nothing h | inr h ↦ get_or_past (replicate n nothing) v nothing (omega (arith, length-replicate n nothing)) ]

pub bare_mend : BareMendIsFirst
bare_mend net standing guess plan n =
    let e : potential (replicate n nothing) ≡ level = fun_ext (λ v. ap (λ (p : CentsThenBikes). (nearest_in_reach p.first.0, nearest_in_reach p.second.0)) (stated_at_nothing n v)) in
    rw e (
      λ m. record { one_each = m.one_each; each = λ k h. m.each k h ∙ level_amount (leg_at net k) (amount standing k) (amount guess k) },
      λ f. record { one_each = f.one_each; each = λ k h. f.each k h ∙ sym (level_amount (leg_at net k) (amount standing k) (amount guess k)) },
    )

pub no_guess_first : NoGuessBeginsFirst
no_guess_first net standing total before after b =
    (bare_mend net standing b.amounts (the_plan net after.amounts.now) (stations net)).0 (rw (← b.guessed.each_station) b.made.mended)

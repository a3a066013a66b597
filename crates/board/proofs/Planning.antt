-- From what a planning promises to the rules of the call.
use Rattle.std.proofs.Common.{◌≡◌, ℕ, List, length, take, ℤ, Some, None, Ok, Err, Option, sym, refl, ap, ◌∙◌, subst}
use Rattle.records.specs.declared.refusal.Refusal.{Refusal}
use Rattle.network.specs.Nets.{Net}
use Rattle.planning_rules.specs.Checks.{planning_fault}
use Rattle.planning_rules.specs.declared.lengths.Lengths.{Lengths}
use Rattle.planning_rules.specs.Answers as rule
use Rattle.planning_rules.specs.Answers.{Accepted, the_plan}
use Rattle.tally.specs.Follows.{papers, Follows}
use Rattle.tally.specs.declared.answer.Answer.TheVariants.{Refused, Planned}
use Rattle.tally.specs.declared.call.Call.TheVariants.{Plan}
use Rattle.tally.proofs.Meeting.{when_accepted, when_refused}
use Rattle.board.specs.Views.{seen}

pub plans_follow : (m : ℕ) (n : Net) (xs xs' vs ks : List ℕ) (l : Lengths) (a : ℕ × ℕ) (ps ps' : List ℤ) (cut cut' amounts : List ℕ) → m ≡ length n.legs
    → rule.Planned n (take m xs) l (Ok a) ps ps' cut cut' amounts → take m xs' ≡ take m amounts
    → Follows (seen n xs vs ks) (Plan l) (Planned a.0 a.1) (papers ps cut) (papers ps' cut') (seen n xs' vs ks)
plans_follow m n xs xs' vs ks l a ps ps' cut cut' amounts e p c =
    let q : the_plan n amounts ≡ take (length n.legs) xs' = sym (subst (λ (z : ℕ). take z xs' ≡ take z amounts) e c) in
    when_accepted (seen n xs vs ks) (Plan l) (Planned a.0 a.1) (papers ps cut) (papers ps' cut') (seen n xs' vs ks)
    p.0 (
      subst (λ (zs : List ℕ). Accepted n (take (length n.legs) xs) zs a.0 a.1 ps ps' cut cut') q
          (subst (λ (z : ℕ). Accepted n (take z xs) (the_plan n amounts) a.0 a.1 ps ps' cut cut') e p.1),
      refl,
    )

refused_by : (o : Option (ℕ × ℕ)) (n : Net) (xs vs ks : List ℕ) (l : Lengths) (e : Refusal) (ps ps' : List ℤ) (cut cut' : List ℕ) → planning_fault n l ≡ o
    → rule.Refused n o e ps ps' cut cut' → Follows (seen n xs vs ks) (Plan l) (Refused e) (papers ps cut) (papers ps' cut') (seen n xs vs ks)
refused_by (Some f) n xs vs ks l e ps ps' cut cut' q r =
    when_refused (seen n xs vs ks) (Plan l) e (papers ps cut) (papers ps' cut') (seen n xs vs ks)
    (q ∙ (λ i. Some (sym r.0 i, sym r.1 i)))
    (ap (λ (zs : List ℤ). papers zs cut') r.2.prices_stay ∙ ap (papers ps) r.2.cut_stays) refl
refused_by None n xs vs ks l e ps ps' cut cut' q r = when_accepted (seen n xs vs ks) (Plan l) (Refused e) (papers ps cut) (papers ps' cut') (seen n xs vs ks) q (r.0, r.1, refl)

pub plan_refused : (m : ℕ) (n : Net) (xs vs ks : List ℕ) (l : Lengths) (e : Refusal) (ps ps' : List ℤ) (cut cut' amounts : List ℕ)
    → rule.Planned n (take m xs) l (Err e) ps ps' cut cut' amounts → Follows (seen n xs vs ks) (Plan l) (Refused e) (papers ps cut) (papers ps' cut') (seen n xs vs ks)
plan_refused m n xs vs ks l e ps ps' cut cut' amounts r = refused_by (planning_fault n l) n xs vs ks l e ps ps' cut cut' refl r

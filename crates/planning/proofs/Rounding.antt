-- What sendings to several stations come to, one by one.
use Rattle.std.proofs.Common.{◌≡◌, ℕ, zero, suc, ◌+◌, ◌-◌, ◌<◌, ◌≤◌, Bool, true, List, take, set, Some, None, sym, refl, ap, ◌∙◌, arith}
use Rattle.std.proofs.lemmas.Bool.{lt-ltb, le-ltb}
use Rattle.network.specs.Nets.{Net}
use Rattle.plans.specs.Plans.{stations}
use Rattle.search.specs.declared.label.Label.{Label}
use Rattle.planning.specs.Sends.{Both}
use Rattle.planning.specs.Sendable.{Contents, bikes_sent, contents_after}
use Rattle.planning.specs.Rounds.{Sendings, nearest_of, after_sending, after_all, after_next, after_nearest, after_round_by, after_round}

module _ (net : Net) (standing : List ℕ) (ls : List (Label Both)) where
  -- one sending
  sent_is : (v over b over' : ℕ) (now after : Contents) → over' ≡ over - b → b ≡ bikes_sent net standing ls v now → after ≡ contents_after net standing ls v now
      → record { over = over'; held = after } ≡ after_sending net standing ls v (record { over = over; held = now })
  sent_is v over b over' now after e p q =
      let less : over' ≡ over - bikes_sent net standing ls v now = e ∙ ap (λ z. over - z) p in
      λ i. record { over = less i; held = q i }

  pub all_more : (v over b over' : ℕ) (now after : Contents) (s : Sendings) → over' ≡ over - b → b ≡ bikes_sent net standing ls v now → after ≡ contents_after net standing ls v now
      → record { over = over; held = now } ≡ after_all net standing ls v s → record { over = over'; held = after } ≡ after_all net standing ls (v + 1) s
  all_more v over b over' now after s e p q r =
      let one : suc v ≡ v + 1 = omega arith in
      sent_is v over b over' now after e p q ∙ ap (after_sending net standing ls v) r ∙ ap (λ k. after_all net standing ls k s) one

  module _ (marks : List Bool) (s : Sendings) where
    -- what is left to do after i turns gives the whole
    pub record Turning (n i : ℕ) (marks' : List Bool) (t : Sendings) : Type 0 where
      pub same : after_nearest net standing ls (n - i) marks' t ≡ after_nearest net standing ls n marks s

    pub nearest_more : (n i v over b over' : ℕ) (marks' after_marks : List Bool) (now after : Contents) → i < n → Turning n i marks' (record { over = over; held = now }) → Some v ≡ nearest_of (take (stations net) ls) now.left marks'
        → after_marks ≡ set marks' v true → over' ≡ over - b → b ≡ bikes_sent net standing ls v now → after ≡ contents_after net standing ls v now → Turning n (i + 1) after_marks (record { over = over'; held = after })
    nearest_more n i v over b over' marks' after_marks now after h t found m e p q =
        let more : n - i ≡ suc (n - (i + 1)) = omega (arith, h) in
        let st : Sendings = record { over = over; held = now } in
        record {
          same =
              ap (after_nearest net standing ls (n - (i + 1)) after_marks) (sent_is v over b over' now after e p q)
              ∙ ap (λ ms. after_nearest net standing ls (n - (i + 1)) ms (after_sending net standing ls v st)) m
              ∙ ap (after_next net standing ls (after_nearest net standing ls (n - (i + 1))) marks' st) found
              ∙ ap (λ k. after_nearest net standing ls k marks' st) (sym more)
              ∙ t.same;
        }

    pub nearest_none : (n i : ℕ) (marks' : List Bool) (t : Sendings) → i < n → Turning n i marks' t → None ≡ nearest_of (take (stations net) ls) t.held.left marks' → t ≡ after_nearest net standing ls n marks s
    nearest_none n i marks' t h g found =
        let more : n - i ≡ suc (n - (i + 1)) = omega (arith, h) in
        ap (after_next net standing ls (after_nearest net standing ls (n - (i + 1))) marks' t) found ∙ ap (λ k. after_nearest net standing ls k marks' t) (sym more) ∙ g.same

    pub nearest_all : (n i : ℕ) (marks' : List Bool) (t : Sendings) → n ≤ i → Turning n i marks' t → t ≡ after_nearest net standing ls n marks s
    nearest_all n i marks' t h g = let none : zero ≡ n - i = omega (arith, h) in ap (λ k. after_nearest net standing ls k marks' t) none ∙ g.same

    -- where the sendings to the nearest moved bikes
    pub round_less : (near : Sendings) → near ≡ after_nearest net standing ls (stations net) marks s → near.over < s.over → near ≡ after_round net standing ls marks s
    round_less near e h =
        let same : near ≡ after_round_by net standing ls s.over near = rw (lt-ltb near.over s.over h) refl in
        same ∙ ap (after_round_by net standing ls s.over) e

    -- where they moved none
    pub round_all : (near rest : Sendings) → near ≡ after_nearest net standing ls (stations net) marks s → s.over ≤ near.over → rest ≡ after_all net standing ls (stations net) (record { over = s.over; held = near.held })
        → rest ≡ after_round net standing ls marks s
    round_all near rest e h r =
        let same : after_all net standing ls (stations net) (record { over = s.over; held = near.held }) ≡ after_round_by net standing ls s.over near = rw (le-ltb near.over s.over h) refl in
        r ∙ same ∙ ap (after_round_by net standing ls s.over) e

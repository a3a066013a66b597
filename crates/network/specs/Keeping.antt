-- What calls leave alone beside the meaning.
--   Keeps     a relation that any number of calls keep if each keeps it
--   nothing   there is nothing to keep
--   below     to keep what a part keeps

-- it holds before the first call, and over two calls if over each
pub record Keeps {S : Type 0} (kept : S → S → Type 0) : Type 0 where
  pub same : (s : S) → kept s s
  pub more : (s t u : S) → kept s t → kept t u → kept s u

-- nothing is kept
pub nothing : {S : Type 0} → Keeps (λ (s t : S). Unit {0})
nothing = record { same = λ s. tt; more = λ s t u p q. tt }

-- a part that is kept
pub below : {S P : Type 0} {k : P → P → Type 0} (f : S → P) → Keeps k → Keeps (λ (s t : S). k (f s) (f t))
below f r = record { same = λ s. r.same (f s); more = λ s t u p q. r.more (f s) (f t) (f u) p q }

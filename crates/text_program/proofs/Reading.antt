-- What is read of the bytes of an input.
use Rattle.std.proofs.Common.{◌≡◌, ℕ, List, take, Ok, Err, Result, IfOk, IfSome, Some, None, Option}
use Rattle.std.specs.Option.{option_map}

-- the first n bytes, where they are known
front : (known : Option (List ℕ)) (n : ℕ) (read : List ℕ) → IfSome (option_map (take n) known) (λ bytes. read ≡ bytes) → IfSome known (λ bytes. read ≡ take n bytes)
front None n read h = tt
front (Some bytes) n read h = h

pub front_read : {V E : Type 0} (items : V → List ℕ) (known : Option (List ℕ)) (n : ℕ) (result : Result V E)
    → IfOk result (λ v. IfSome (option_map (take n) known) (λ bytes. items v ≡ bytes)) → IfOk result (λ v. IfSome known (λ bytes. items v ≡ take n bytes))
front_read items known n (Ok v) h = front known n (items v) h
front_read items known n (Err e) h = tt

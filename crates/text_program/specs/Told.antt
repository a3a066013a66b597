-- What a program that answers one text does.
--   Told   a text was read, answered, and the answer was written
use Rattle.std.specs.Prelude.{◌≡◌, ℕ, List, IfSome, Option, take}
use Rattle.std.specs.Io.KnownBytes.{Appends}

-- by the bytes of the input, what a text may be answered, and what the output holds before and after; of an input and an output
-- whose bytes are known, as those of memory are: of the standard streams they are not
pub record Told (input : Option (List ℕ)) (Answers : List ℕ → List ℕ → Type 0) (before after : Option (List ℕ)) : Type 0 where
  pub text : List ℕ
  pub answer : List ℕ
  pub read : IfSome input (λ bytes. text ≡ take 65537 bytes)
  pub answered : Answers text answer
  pub written : Appends before after answer

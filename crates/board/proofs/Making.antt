-- A report, by its balance as it is passed on.
use Rattle.std.proofs.Common.{◌≡◌, ℕ, ℤ, sym, ap, ◌∙◌, w32, SFits, to_z, of_z}
use Rattle.std.proofs.lemmas.Int.{to_z-of_z}
use Rattle.tally.specs.declared.call.Call.{Call}
use Rattle.tally.specs.declared.call.Call.TheVariants.{Report}

pub report_named : {call : Call} (s : ℕ) (b : ℤ) → SFits w32 b → call ≡ Report s b → call ≡ Report s (to_z w32 (of_z w32 b))
report_named s b f e = e ∙ ap (λ (z : ℤ). Report s z) (sym (to_z-of_z w32 b f))

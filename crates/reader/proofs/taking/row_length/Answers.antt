use Rattle.std.proofs.Common.{◌≡◌, length, rules, sym, ◌∙◌}
use Rattle.std.proofs.lemmas.Iterator.{IsFirst-from_position, YieldsList-from_slice}
use borrow.Author.Tests.{tests}
use Rattle.text_rules.specs.Rows.{first_row}
use Rattle.reader.proofs.RowEnds.{row_end, row_front, row_behind}
use Rattle.reader.proofs.taking.row_length.Goals as goal

-- the first row is so long
long : (c : goal.After-unwrap_or) → length (first_row c.args.s.now) ≡ c.unwrap_or.result
long c =
    row_end c.args.s.now c.position.result
    (IsFirst-from_position _ _ c.position.result (λ b. b ≡ 10) (λ b. b ≡ 10 → ⊥) c.position.ensures.ran (YieldsList-from_slice c.args.s.now cc)
    (λ x q k. search (rules, tests)) (λ x q k. search (rules, tests)))
    ∙ sym c.unwrap_or.ensures

pub returns-clause-row : goal.returns-clause-row
returns-clause-row c = row_front c.args.s.now _ (long c)

pub returns-clause-rest : goal.returns-clause-rest
returns-clause-rest c = row_behind c.args.s.now _ (long c)

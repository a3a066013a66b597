use Rattle.std.proofs.Common.{◌≡◌, Some, None}
use Rattle.call_lines.proofs.Texts.{split_number}
use Rattle.call_lines.proofs.call_line.first_number.Goals as goal

pub returns-in_err-digits : goal.returns-in_err-digits
returns-in_err-digits c = λ n rest h e.
    let s = split_number n c.args.text.now rest c.split_once.result c.split_once.ensures.cases h e in
    absurd (rw c.in_err-digits.was at s)

pub returns-in_err-number : goal.returns-in_err-number
returns-in_err-number c = λ n rest h e.
    let s = split_number n c.args.text.now rest c.split_once.result c.split_once.ensures.cases h e in
    let parts = rw c.in_ok-digits.was at s in
    let was : c.number.result ≡ None = c.in_err-number.was in
    let found : c.number.result ≡ Some n = c.number.ensures n h parts.0 in
    let no : ⊥ = cc in
    absurd no

pub returns : goal.returns
returns c = λ n rest h e.
    let s = split_number n c.args.text.now rest c.split_once.result c.split_once.ensures.cases h e in
    let parts = rw c.in_ok-digits.was at s in
    let found = c.in_ok-number.ensures n h parts.0 in
    let same : c.in_ok-number.field-0 ≡ n = cc in
    (same, parts.1)

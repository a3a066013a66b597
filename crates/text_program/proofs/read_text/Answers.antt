use Rattle.text_program.proofs.Reading.{front_read}
use Rattle.text_program.proofs.read_text.Goals as goal

pub returns : goal.returns
returns g c = front_read (λ v. v.items) (g.R.Read.remaining c.args.input) 65537 c.read_all.result (rw (c.take.ensures.limit, c.take.ensures.inner) at c.read_all.ensures)

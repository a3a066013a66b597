use Rattle.std.proofs.Common.{arith}
use Rattle.planning.proofs.Sending.{below_more, below_all}
use Rattle.planning.proofs.Rounding.{all_more}
use Rattle.planning.proofs.Keeping.{draft_twice}
use Rattle.planning.proofs.sendings.send_all.Goals as goal

pub loop-target-preserved : goal.loop-target-preserved
loop-target-preserved g c =
    record {
      sends = below_more _ _ _ _ _ (omega (arith, c.stations-target-end.ensures, c.loop-target-test.true)) c.saturating_sub-over.ensures c.loop-target.invariant.sends c.send.ensures.sends;
      outcome = all_more (g.N.Network.meaning c.args.routes.now.net.now) _ _ c.loop-target.target _ _ _ _ _ _ c.saturating_sub-over.ensures c.send.ensures.amount c.send.ensures.draft c.loop-target.invariant.outcome;
      stay = draft_twice c.loop-target.invariant.stay c.send.ensures.stay;
    }

pub returns-clause-sends : goal.returns-clause-sends
returns-clause-sends g c = below_all _ _ _ _ _ (omega (arith, c.stations-target-end.ensures, c.loop-target-test.false)) c.loop-target.invariant.sends

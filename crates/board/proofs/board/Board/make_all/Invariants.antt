use Rattle.std.proofs.Common.{length}
use Rattle.board.specs.Running.{Stays, lent_by}
use Rattle.board.specs.Views.{tally_of}
use Rattle.board.proofs.Stepping.{Going}
use Rattle.board.proofs.board.Board.make_all.Given as goal

-- the first i calls are made
abbrev pub invariant-loop-i : goal.invariant-loop-i
invariant-loop-i g l =
    let meaning = g.N.Network.meaning in
    record {
      going : Going (length (meaning l.initial.self.net).legs) (tally_of meaning l.initial.self) (tally_of meaning l.self) l.calls l.i l.initial.answers l.answers (lent_by l.initial.sheet) (lent_by l.sheet) l.at;
      stays : Stays g.N.Office.kept l.initial.self.net l.self.net l.initial.sheet l.sheet l.initial.tables l.tables;
    }

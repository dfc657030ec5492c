-- The loop's invariant: the numbers that are left complete the line. Assumes nothing.
use lib.ListN.{drop}
use Rattle.text.proofs.Putting.{Left}
use Rattle.text.proofs.Lines.{line_rest}
use Rattle.text.proofs.put_line.Given as goal

abbrev pub invariant-loop-n : goal.invariant-loop-n
invariant-loop-n l =
    Left l.initial.out l.initial.next (line_rest l.more) l.out l.next (line_rest (drop l.n-index l.more))

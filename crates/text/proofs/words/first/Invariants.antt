-- No byte so far is what is looked for.
use Rattle.text.proofs.WordLaws.{Searched}
use Rattle.text.proofs.words.first.Given as goal

abbrev pub invariant-loop-i : goal.invariant-loop-i
invariant-loop-i l = Searched l.gap l.at l.line l.i

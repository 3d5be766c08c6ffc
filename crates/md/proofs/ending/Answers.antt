-- The byte 80h stands behind the tail, and the two words of the length behind the zeros.
use mathlib.Core.Path.{refl}
use Rattle.md.proofs.PaddingLaws.{ending_halves}
use borrow.Author.Rules.{rules}
use Rattle.md.proofs.ending.Goals as goal

pub returns : goal.returns
returns c =
    let a = c.args in
    ending_halves a.tail.now c.marked-b.result _ _ a.total _ _ _ c.requires (search rules) c.marked-b.ensures
    (rw c.zeros_for.ensures refl) c.store.ensures c.store-2.ensures refl refl

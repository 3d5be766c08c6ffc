-- The three tests are those of the definition.
use Rattle.std.proofs.Common.{◌≡◌, ◌%◌, eqb, true, false, length, sym, ap, ◌∙◌}
use Rattle.std.specs.Prelude.{not}
use Rattle.std.proofs.lemmas.Bool.{false≢true}
use Rattle.text.specs.Hex.{are_pairs}
use Rattle.text.proofs.hex.are_pairs.Goals as goal
use Rattle.text.proofs.hex.are_pairs.Goals.{then-not-is_empty, else-not-is_empty}

pub returns-then-s-eq0 : goal.returns-then-s-eq0
unfolding are_pairs
returns-then-s-eq0 c =
    elim c.if-not-is_empty.branch [
      | then-not-is_empty w ↦ (let some : eqb (length c.args.s.now) 0 ≡ false = sym c.is_empty.ensures ∙ w.if-not-is_empty.true in
          let even : eqb (length c.args.s.now % 2) 0 ≡ true = sym w.value-is ∙ c.if-s-eq0.true in
          rw (some, even) c.all_digits.ensures)
      | else-not-is_empty w ↦ absurd (false≢true (sym (ap not w.if-not-is_empty.false) ∙ sym w.value-is ∙ c.if-s-eq0.true))
    ]

pub returns-else-s-eq0 : goal.returns-else-s-eq0
unfolding are_pairs
returns-else-s-eq0 c =
    elim c.if-not-is_empty.branch [
      | then-not-is_empty w ↦ (let some : eqb (length c.args.s.now) 0 ≡ false = sym c.is_empty.ensures ∙ w.if-not-is_empty.true in
          let odd : eqb (length c.args.s.now % 2) 0 ≡ false = sym w.value-is ∙ c.if-s-eq0.false in
          rw (some, odd) c.if-s-eq0.false)
      | else-not-is_empty w ↦ (let none : eqb (length c.args.s.now) 0 ≡ true = sym c.is_empty.ensures ∙ w.if-not-is_empty.false in
          rw none c.if-s-eq0.false)
    ]

-- Not valid, and not zero.
use Rattle.std.proofs.Common.{ℕ, ◌/◌, ◌%◌, ◌^◌, eqb, sym, ap, ◌∙◌}
use Rattle.std.specs.Prelude.{not}
use Rattle.units.specs.Unit.{is_valid}
use Rattle.show.specs.Parts.{key_wrong}
use Rattle.show.proofs.parts.key_wrong.Goals as goal

pub returns-then-not-has_bit : goal.returns-then-not-has_bit
unfolding key_wrong is_valid
returns-then-not-has_bit c =
    let v = c.args.version in
    let valid = c.has_bit.ensures ∙ ap (λ (m : ℕ). eqb (m / 2 ^ v % 2) 1) c.mask_of.ensures in
    rw (sym valid ∙ c.if-not-has_bit.true) (ap not (rw c.number.ensures.same at c.are_zeros.ensures))

pub returns-else-not-has_bit : goal.returns-else-not-has_bit
unfolding key_wrong is_valid
returns-else-not-has_bit c =
    let v = c.args.version in
    let valid = c.has_bit.ensures ∙ ap (λ (m : ℕ). eqb (m / 2 ^ v % 2) 1) c.mask_of.ensures in
    rw (sym valid ∙ c.if-not-has_bit.false) (ap not c.if-not-has_bit.false)

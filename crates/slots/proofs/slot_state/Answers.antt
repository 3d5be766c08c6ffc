-- The blank record first, then the check, then the shape.
use mathlib.Core.Path.{◌∙◌, sym}
use Rattle.slots.proofs.SlotLaws.{blank_free, checked_state, unchecked_state}
use Rattle.slots.proofs.slot_state.Goals as goal
use Rattle.slots.proofs.slot_state.Goals.{else-is_checked-via-then-is_checked+else-open_shape, else-is_checked-via-else-is_checked}

pub returns-then-is_blank : goal.returns-then-is_blank
returns-then-is_blank c = sym (blank_free _ (sym c.is_blank.ensures ∙ c.if-is_blank.true))

pub returns-then-open_shape : goal.returns-then-open_shape
returns-then-open_shape c =
    sym (checked_state _ c.told-rec (sym c.is_blank.ensures ∙ c.if-is_blank.false)
    (sym c.is_checked.ensures ∙ c.if-is_checked.true)
    ∙ rw (← c.open_shape.ensures, c.if-open_shape.true))

pub returns : goal.returns
returns c =
    elim c.else-is_checked.branch [
      | else-is_checked-via-then-is_checked+else-open_shape w ↦
          sym (checked_state _ c.told-rec (sym c.is_blank.ensures ∙ c.if-is_blank.false)
          (sym c.is_checked.ensures ∙ w.if-is_checked.true)
          ∙ rw (← w.open_shape.ensures, w.if-open_shape.false))
      | else-is_checked-via-else-is_checked w ↦ sym (unchecked_state _ (sym c.is_checked.ensures ∙ w.if-is_checked.false))
    ]

-- Laws of abort and reset: case by case.
use Rattle.std.specs.Prelude.{◌≡◌, Bool, true, false, List, ℕ, length}
use Rattle.std.proofs.Common.{eq-eqb, ne_eqb}
use Rattle.model.specs.declared.Answer.TheVariants.{Good, H1, H3}
use Rattle.slots.specs.Slot.{freed, all_freed}
use Rattle.calls.specs.Outcome.{leaves}
use Rattle.calls.specs.Slots.{holds, abort_out, reset_out}

module _ (slots : List ℕ) (s : ℕ) where
  pub abort_length : (length slots ≡ 8192 → ⊥) → leaves H1 slots ≡ abort_out slots s
  unfolding abort_out
  abort_length n = rw (ne_eqb (length slots) 8192 n)

  module _ (e : length slots ≡ 8192) (h : Bool) (hh : h ≡ holds slots s) where
    pub abort_not : h ≡ false → leaves H3 slots ≡ abort_out slots s
    unfolding abort_out
    abort_not f = rw (eq-eqb (length slots) 8192 e, ← hh, f)

    pub abort_good : h ≡ true → (x : List ℕ) → x ≡ freed s slots → leaves (Good 0) x ≡ abort_out slots s
    unfolding abort_out
    abort_good t x q = rw (eq-eqb (length slots) 8192 e, ← hh, t, q)

pub reset_length : (slots : List ℕ) → (length slots ≡ 8192 → ⊥) → leaves H1 slots ≡ reset_out slots
unfolding reset_out
reset_length slots n = rw (ne_eqb (length slots) 8192 n)

pub reset_good : (slots x : List ℕ) → length slots ≡ 8192 → x ≡ all_freed slots → leaves (Good 0) x ≡ reset_out slots
unfolding reset_out
reset_good slots x e q = rw (eq-eqb (length slots) 8192 e, q)

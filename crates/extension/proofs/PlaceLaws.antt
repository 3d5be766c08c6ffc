-- Laws of what is carried where the code keeps its place: a 40h, one descriptor more, and the end.
use Rattle.std.specs.Prelude.{◌≡◌, Option, None, Some, Result, Ok, Err, List, ℕ, ◌+◌, ◌≤◌, ◌<◌, length}
use Rattle.std.proofs.Common.{◌∙◌, sym, arith, length-take, length-drop, eq-eqb, ne_eqb}
use Rattle.wire.specs.Bytes.{part}
use Rattle.model.proofs.CodeLaws.{in_range, below_range, above_range}
use Rattle.extension.specs.declared.Wrong.{Wrong}
use Rattle.extension.specs.Extension.{Carried, body, wrong, carrying, one_more}
use Rattle.extension.specs.Places.{carried_at}

-- ---- a 40h

module _ (l : List ℕ) (k : Result (Option ℕ) Wrong) (at n : ℕ) (fits : at + n ≤ length l) where
  whole : length (part at n l) ≡ n
  whole = simp (length-take, length-drop) (omega arith)

  pub carry_first : k ≡ Ok None → n ≡ 78 → body (part at 78 l) ≡ carrying (carried_at l k) (part at n l)
  carry_first e h = rw (e, eq-eqb (length (part at n l)) 78 (whole ∙ h), h)

  pub carry_other : k ≡ Ok None → (n ≡ 78 → ⊥) → wrong ≡ carrying (carried_at l k) (part at n l)
  carry_other e h = rw (e, ne_eqb (length (part at n l)) 78 (λ z. h (sym whole ∙ z)))

pub carry_again : (l b : List ℕ) (k : Result (Option ℕ) Wrong) (i : ℕ) → k ≡ Ok (Some i) → wrong ≡ carrying (carried_at l k) b
carry_again l b k i e = rw e

pub carry_wrong : (l b : List ℕ) (k : Result (Option ℕ) Wrong) (w : Wrong) → k ≡ Err w → wrong ≡ carrying (carried_at l k) b
carry_wrong l b k w e = rw e

-- ---- one descriptor more

pub more_carries : (c : Carried) (type : ℕ) (b : List ℕ) → type ≡ 0x40 → one_more c type b ≡ carrying c b
unfolding one_more
more_carries c type b e = rw (eq-eqb type 0x40 e)

pub more_passes : (c : Carried) (type : ℕ) (b : List ℕ) → 0x41 ≤ type → type ≤ 0x4F → one_more c type b ≡ c
unfolding one_more
more_passes c type b h k = rw (ne_eqb type 0x40 (λ z. omega arith), in_range 0x41 0x4F type h k)

pub more_below : (c : Carried) (type : ℕ) (b : List ℕ) → type < 0x40 → one_more c type b ≡ wrong
unfolding one_more
more_below c type b h = rw (ne_eqb type 0x40 (λ z. omega arith), below_range 0x41 0x4F type (omega arith))

pub more_above : (c : Carried) (type : ℕ) (b : List ℕ) → 0x4F < type → one_more c type b ≡ wrong
unfolding one_more
more_above c type b h = rw (ne_eqb type 0x40 (λ z. omega arith), above_range 0x41 0x4F type h)

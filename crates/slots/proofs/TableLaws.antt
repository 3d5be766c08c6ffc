-- Laws of the table: how long a slot is; a slot that is written or freed, where the others stay as they were; all sixteen freed.
use Rattle.std.specs.Prelude.{◌≡◌, refl, List, ℕ, zero, suc, ◌+◌, ◌*◌, ◌-◌, ◌≤◌, ◌<◌, length, take, drop}
use Rattle.std.proofs.Common.{◌∙◌, sym, ap, ⊎_elim, arith, eq-or-lt_of_le, length-take, length-drop}
use Rattle.wire.specs.Bytes.{patch}
use Rattle.wire.proofs.PatchLaws.{record_here, record_other, record_length as kept-length, lent_part}
use Rattle.seal.specs.Seal.{blank_record}
use Rattle.seal.specs.BlankLaws.{record_length}
use Rattle.slots.specs.Slot.{slot_at, freed, freed_from, all_freed}

pub slot_lent : (i : ℕ) (slots : List ℕ) → take (i * 512 + 512 - i * 512) (drop (i * 512) slots) ≡ slot_at i slots
slot_lent i slots = lent_part slots (i * 512) 512

pub slot_length : (i : ℕ) (slots : List ℕ) → length slots ≡ 8192 → i < 16 → length (slot_at i slots) ≡ 512
slot_length i slots full h = simp (length-take, length-drop) (omega arith)

-- ---- one record written in its place

module _ (i : ℕ) (slots rec : List ℕ) (full : length slots ≡ 8192) (h : i < 16) (whole : length rec ≡ 512) where
  pub put_length : length (patch slots (i * 512) rec) ≡ 8192
  put_length = kept-length slots i rec whole (omega arith) ∙ full

  pub put_here : slot_at i (patch slots (i * 512) rec) ≡ rec
  put_here = record_here slots i rec whole (omega arith)

  pub put_other : (j : ℕ) → (i ≡ j → ⊥) → slot_at j (patch slots (i * 512) rec) ≡ slot_at j slots
  put_other j ne = record_other slots i rec whole (omega arith) j ne

-- ---- a slot freed

module _ (i : ℕ) (slots : List ℕ) (full : length slots ≡ 8192) (h : i < 16) where
  pub freed_length : length (freed i slots) ≡ 8192
  unfolding freed
  freed_length = put_length i slots blank_record full h record_length

  pub freed_here : slot_at i (freed i slots) ≡ blank_record
  unfolding freed
  freed_here = put_here i slots blank_record full h record_length

  pub freed_other : (j : ℕ) → (i ≡ j → ⊥) → slot_at j (freed i slots) ≡ slot_at j slots
  unfolding freed
  freed_other j ne = put_other i slots blank_record full h record_length j ne

-- ---- all sixteen: as a loop goes on, and what stands there in the end

pub freed_more : (i : ℕ) (l m : List ℕ) → i < 16 → m ≡ freed i l → freed_from (16 - i) i l ≡ freed_from (16 - (i + 1)) (i + 1) m
unfolding freed_from
freed_more i l m h e = let s : 16 - i ≡ suc (16 - (i + 1)) = omega arith in rw (s, e)

pub freed_none : (n i : ℕ) (l : List ℕ) → n ≡ 0 → freed_from n i l ≡ l
unfolding freed_from
freed_none n i l z = rw z

from_length : (n i : ℕ) (slots : List ℕ) → length slots ≡ 8192 → i + n ≤ 16 → length (freed_from n i slots) ≡ 8192
unfolding freed_from
from_length zero i slots full h = full
from_length (suc n) i slots full h = from_length n (i + 1) (freed i slots) (freed_length i slots full (omega arith)) (omega arith)

-- what is below i stays as it was
from_below : (n i : ℕ) (slots : List ℕ) → length slots ≡ 8192 → i + n ≤ 16 → (j : ℕ) → j < i
    → slot_at j (freed_from n i slots) ≡ slot_at j slots
unfolding freed_from
from_below zero i slots full h j k = refl
from_below (suc n) i slots full h j k =
    from_below n (i + 1) (freed i slots) (freed_length i slots full (omega arith)) (omega arith) j (omega arith)
    ∙ freed_other i slots full (omega arith) j (λ e. omega arith)

from_freed : (n i : ℕ) (slots : List ℕ) → length slots ≡ 8192 → i + n ≤ 16 → (j : ℕ) → i ≤ j → j < i + n
    → slot_at j (freed_from n i slots) ≡ blank_record
unfolding freed_from
from_freed zero i slots full h j k l = absurd (omega arith)
from_freed (suc n) i slots full h j k l =
    ⊎_elim here (λ g. from_freed n (i + 1) (freed i slots) next (omega arith) j (omega arith) (omega arith)) (eq-or-lt_of_le k)
  where
    next : length (freed i slots) ≡ 8192
    next = freed_length i slots full (omega arith)

    here : i ≡ j → slot_at j (freed_from n (i + 1) (freed i slots)) ≡ blank_record
    here e =
        from_below n (i + 1) (freed i slots) next (omega arith) j (omega arith)
        ∙ ap (λ (x : ℕ). slot_at x (freed i slots)) (sym e) ∙ freed_here i slots full (omega arith)

pub all_freed_length : (slots : List ℕ) → length slots ≡ 8192 → length (all_freed slots) ≡ 8192
unfolding all_freed
all_freed_length slots full = from_length 16 0 slots full (omega arith)

pub all_freed_lem : (slots : List ℕ) → length slots ≡ 8192 → (i : ℕ) → i < 16 → slot_at i (all_freed slots) ≡ blank_record
unfolding all_freed
all_freed_lem slots full i h = from_freed 16 0 slots full (omega arith) i (omega arith) (omega arith)

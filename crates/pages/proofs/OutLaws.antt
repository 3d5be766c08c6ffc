-- Laws of the parameter lists: a number as a loop reads it, byte by byte, the length of a part, and what a list that is not wrong has.
use Rattle.std.specs.Prelude.{◌≡◌, refl, false, not, List, ℕ, ◌+◌, ◌-◌, ◌*◌, ◌^◌, ◌≤◌, ◌<◌, length, get_or, drop, eqb, ltb}
use Rattle.std.proofs.Common.{arith, pow-suc, add-one, length-drop, length-take-le, ltb-false}
use Rattle.std.proofs.Math.Nat.{pow-le-pow_right}
use Rattle.choice.specs.ChoiceLaws.{either_false}
use Rattle.wire.specs.Bytes.{part, number}
use Rattle.model.specs.Protocol.{set_attributes, seed_exchange, set_key}
use Rattle.model.specs.Totals.{total_of}
use Rattle.pages.specs.Out.{list_page, list_length, new_method, new_version, wrong_attributes, wrong_key, wrong_fields, wrong_list}

pub number_empty : (a : ℕ) (l : List ℕ) → 0 ≡ number 0 a l
unfolding number
number_empty a l = refl

-- one byte more
pub number_more : (i a : ℕ) (l : List ℕ) (x b : ℕ) → x ≡ number i a l → b ≡ get_or l (a + i) 0 → x * 256 + b ≡ number (i + 1) a l
unfolding number
number_more i a l x b e f = rw (add-one i, e, f)

-- and what it stays below
pub below_more : (i x b : ℕ) → x < 256 ^ i → b < 256 → x * 256 + b < 256 ^ (i + 1)
below_more i x b h k = rw (add-one i, pow-suc 256 i) (omega arith)

pub below_four : (i : ℕ) → i < 4 → 256 ^ i ≤ 16777216
below_four i h = pow-le-pow_right {n = 256} (omega arith) {i = i} {j = 3} (omega arith)

-- ---- a part of a list

pub part_length : (a n : ℕ) (l : List ℕ) → a + n ≤ length l → length (part a n l) ≡ n
part_length a n l h = length-take-le n (drop a l) (rw length-drop (omega arith))

-- ---- a list that nothing is wrong with

right_fields : (page : ℕ) (d : List ℕ) → wrong_list page d ≡ false → wrong_fields page d ≡ false
unfolding wrong_list
right_fields page d w =
    (either_false (not (eqb (list_length d) (total_of page - 4))) _ (either_false (not (eqb (list_page d) page)) _ w).1).1

pub right_method : (page : ℕ) (d : List ℕ) → page ≡ set_attributes → wrong_list page d ≡ false → new_method d ≤ 1
unfolding wrong_fields wrong_attributes
right_method page d e w = ltb-false 1 (new_method d) (either_false (ltb 1 (new_method d)) _ (rw e at (right_fields page d w))).0

pub right_version : (page : ℕ) (d : List ℕ) → page ≡ set_key → wrong_list page d ≡ false → new_version d < 16
unfolding wrong_fields wrong_key
right_version page d e w =
    let k = ltb-false 15 (new_version d) (either_false (ltb 15 (new_version d)) _ (rw e at (right_fields page d w))).0 in
    omega arith

pub key_total : (page n : ℕ) → page ≡ set_key → n ≡ total_of page → n ≡ 28
unfolding total_of
key_total page n e t = rw e at t

pub exchange_total : (page n : ℕ) → page ≡ seed_exchange → n ≡ total_of page → n ≡ 264
unfolding total_of
exchange_total page n e t = rw e at t

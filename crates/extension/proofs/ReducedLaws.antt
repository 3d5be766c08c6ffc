-- Laws of a reduced command: its length, its CDB, and what it is by the place where the 78 bytes begin.
use Rattle.std.specs.Prelude.{◌≡◌, refl, Bool, true, false, Option, None, Some, Result, Ok, Err, List, [], ◌++◌, ℕ, ◌+◌, ◌-◌, ◌≤◌, ◌<◌, ltb, length, get_or, take, drop}
use Rattle.std.proofs.Common.{◌∙◌, sym, ap, ap₂, arith, length-append, length-take, length-drop, take_at, length-take-le, get_or-take, ltb-true, ltb-false, lt-ltb, le-ltb}
use Rattle.std.proofs.Math.Nat.{sub-zero}
use Rattle.wire.specs.Bytes.{part, patch}
use Rattle.wire.proofs.PatchLaws.{lent_part, patch_join}
use Rattle.model.specs.Codes.{cdb_len}
use Rattle.extension.specs.declared.Wrong.{Wrong}
use Rattle.extension.specs.Extension.{Carried, nothing, body, wrong, is_body, list_from, cdb_of, carried_by, reduces, wrapped_with, reduced}
use Rattle.extension.specs.Places.{carried_at}
use Rattle.extension.proofs.ListLaws.{list_carries}

-- ---- what is carried, by how long the command is

pub carried_short : (c : List ℕ) → length c < cdb_len (get_or c 0 0) → carried_by c ≡ wrong
unfolding carried_by
carried_short c h = rw (lt-ltb (length c) (cdb_len (get_or c 0 0)) h)

pub carried_long : (c : List ℕ) → cdb_len (get_or c 0 0) ≤ length c → carried_by c ≡ list_from 4 nothing (drop (cdb_len (get_or c 0 0)) c)
unfolding carried_by
carried_long c h = rw (le-ltb (length c) (cdb_len (get_or c 0 0)) h)

-- ---- a command that can be reduced, and one that can't

-- what it carries, and that its CDB is whole
pub record Carries (c b : List ℕ) : Type 0 where
  pub carried : carried_by c ≡ body b
  pub long : cdb_len (get_or c 0 0) ≤ length c
  pub size : length b ≡ 78

carries_of : (c b : List ℕ) → carried_by c ≡ body b → Carries c b
carries_of c b e = by_length (ltb (length c) (cdb_len (get_or c 0 0))) refl
  where
    by_length : (t : Bool) → ltb (length c) (cdb_len (get_or c 0 0)) ≡ t → Carries c b
    by_length true h = let z : wrong ≡ body b = sym (carried_short c (ltb-true _ _ h)) ∙ e in let q : ◌≡◌ {A = ℕ} 0 1 = cc in absurd (omega arith)
    by_length false h =
        let long = ltb-false _ _ h in
        record { carried = e; long = long; size = list_carries 4 _ b (sym (carried_long c long) ∙ e) }

pub reduces_carries : (c : List ℕ) → reduces c ≡ true → (b : List ℕ) × Carries c b
unfolding reduces
reduces_carries c h = by (carried_by c) refl h
  where
    by : (k : Carried) → carried_by c ≡ k → is_body k ≡ true → (b : List ℕ) × Carries c b
    by nothing e q = let z : ◌≡◌ {A = ℕ} 0 1 = cc in absurd (omega arith)
    by (body b) e q = (b, carries_of c b e)
    by wrong e q = let z : ◌≡◌ {A = ℕ} 0 1 = cc in absurd (omega arith)

pub reduced_is : (c b : List ℕ) → carried_by c ≡ body b → reduced c ≡ cdb_of c ++ b
unfolding reduced
reduced_is c b e = rw e

-- no bytes where it can't be reduced
pub reduced_none : (c : List ℕ) → reduces c ≡ false → reduced c ≡ []
unfolding reduces reduced
reduced_none c h = by (carried_by c) refl h
  where
    by : (k : Carried) → carried_by c ≡ k → is_body k ≡ false → wrapped_with (cdb_of c) (carried_by c) ≡ []
    by nothing e q = rw e
    by (body b) e q = let z : ◌≡◌ {A = ℕ} 0 1 = cc in absurd (omega arith)
    by wrong e q = rw e

-- the wrapped form: as long as the CDB and 78 bytes more, and the CDB as it came
pub reduced_length : (c : List ℕ) → reduces c ≡ true → length (reduced c) ≡ cdb_len (get_or c 0 0) + 78
reduced_length c h =
    let b = (reduces_carries c h).0 in
    let k = (reduces_carries c h).1 in
    ap (λ (l : List ℕ). length l) (reduced_is c b k.carried) ∙ length-append (cdb_of c) b
    ∙ omega (arith, length-take-le (cdb_len (get_or c 0 0)) c k.long, k.size)

pub reduced_cdb : (c : List ℕ) → reduces c ≡ true → take (cdb_len (get_or c 0 0)) (reduced c) ≡ cdb_of c
reduced_cdb c h =
    let b = (reduces_carries c h).0 in
    let k = (reduces_carries c h).1 in
    ap (λ (l : List ℕ). take (cdb_len (get_or c 0 0)) l) (reduced_is c b k.carried)
    ∙ take_at (cdb_of c) b (cdb_len (get_or c 0 0)) (length-take-le (cdb_len (get_or c 0 0)) c k.long)

pub reduced_at : (c : List ℕ) → reduces c ≡ true → (i : ℕ) → i < cdb_len (get_or c 0 0) → get_or (reduced c) i 0 ≡ get_or c i 0
reduced_at c h i small =
    sym (get_or-take (cdb_len (get_or c 0 0)) (reduced c) i 0 small)
    ∙ ap (λ (l : List ℕ). get_or l i 0) (reduced_cdb c h)
    ∙ get_or-take (cdb_len (get_or c 0 0)) c i 0 small

-- ---- by the place where the 78 bytes begin

-- the CDB laid at the front of a room, and the 78 bytes behind it
pub laid_out : (room c : List ℕ) (cdb at : ℕ) (one two : List ℕ) → cdb ≤ length c → cdb + 78 ≤ length room
    → one ≡ patch room 0 (take (cdb - 0) (drop 0 c)) → two ≡ patch one cdb (take (at + 78 - at) (drop at c))
    → two ≡ patch room 0 (take cdb c ++ part at 78 c)
laid_out room c cdb at one two h fits e f =
    let size : length (take cdb c) ≡ cdb = length-take-le cdb c h in
    let front : one ≡ patch room 0 (take cdb c) = e ∙ ap (λ (n : ℕ). patch room 0 (take n c)) (sub-zero cdb) in
    f ∙ ap₂ (λ (l b : List ℕ). patch l cdb b) front (lent_part c at 78)
    ∙ patch_join room 0 (take cdb c) (omega arith) cdb (part at 78 c) (omega arith)

-- the same of what the code copies
pub laid_parts : (room c : List ℕ) (cdb at : ℕ) (one two : List ℕ) → cdb ≤ length c → cdb + 78 ≤ length room
    → one ≡ patch room 0 (take cdb c) → two ≡ patch one cdb (take (at + 78 - at) (drop at c))
    → two ≡ patch room 0 (take cdb c ++ part at 78 c)
laid_parts room c cdb at one two h fits e f = laid_out room c cdb at one two h fits (e ∙ ap (λ (n : ℕ). patch room 0 (take n c)) (sym (sub-zero cdb))) f

module _ (c : List ℕ) (cdb : ℕ) (is : cdb ≡ cdb_len (get_or c 0 0)) where
  pub short_none : length c < cdb → reduced c ≡ []
  unfolding reduced
  short_none h = rw (carried_short c (rw (← is) h))

  pub short_refused : length c < cdb → reduces c ≡ false
  unfolding reduces
  short_refused h = rw (carried_short c (rw (← is) h))

  module _ (k : Result (Option ℕ) Wrong) (long : cdb ≤ length c) (read : carried_at c k ≡ list_from 4 nothing (drop cdb c)) where
    found : carried_by c ≡ carried_at c k
    found = carried_long c (rw (← is) long) ∙ ap (λ (n : ℕ). list_from 4 nothing (drop n c)) (sym is) ∙ sym read

    pub nothing_none : k ≡ Ok None → reduced c ≡ []
    unfolding reduced
    nothing_none e = rw (found, e)

    pub wrong_none : (w : Wrong) → k ≡ Err w → reduced c ≡ []
    unfolding reduced
    wrong_none w e = rw (found, e)

    pub nothing_refused : k ≡ Ok None → reduces c ≡ false
    unfolding reduces
    nothing_refused e = rw (found, e)

    pub wrong_refused : (w : Wrong) → k ≡ Err w → reduces c ≡ false
    unfolding reduces
    wrong_refused w e = rw (found, e)

    module _ (at : ℕ) (e : k ≡ Ok (Some at)) where
      there : carried_by c ≡ body (part at 78 c)
      there = found ∙ ap (carried_at c) e

      pub place_reduces : reduces c ≡ true
      unfolding reduces
      place_reduces = rw there

      pub place_fits : at + 78 ≤ length c
      place_fits =
          let size : length (part at 78 c) ≡ 78 = (carries_of c (part at 78 c) there).size in
          omega (arith, simp (length-take, length-drop) at size)

      pub place_reduced : reduced c ≡ take cdb c ++ part at 78 c
      place_reduced = reduced_is c (part at 78 c) there ∙ ap (λ (n : ℕ). take n c ++ part at 78 c) (sym is)

      pub place_length : cdb + 78 ≡ length (reduced c)
      place_length =
          sym (ap (λ (l : List ℕ). length l) place_reduced ∙ length-append (take cdb c) (part at 78 c)
          ∙ omega (arith, length-take-le cdb c long, (carries_of c (part at 78 c) there).size))

-- Laws of a list as it is read: at its end, where no more descriptors may come, and one descriptor followed by a shorter list; and of one
-- that is read in place, from a byte of the command on.
use Prim.{Unit}
use Rattle.std.specs.Prelude.{◌≡◌, refl, List, ℕ, zero, suc, ◌+◌, ◌-◌, ◌≤◌, ◌<◌, eqb, length, take, drop, get_or}
use Rattle.std.proofs.Common.{◌∙◌, sym, ap, ap₂, subst, add-zero, add-one, arith, length-drop, drop-drop, get_or-drop, eqb-true, eq-eqb, ne_eqb, lt-ltb, le-ltb}
use Rattle.choice.specs.Choice.{pick}
use Rattle.choice.specs.ChoiceLaws.{pick_holds, pick_cases}
use Rattle.wire.specs.Bytes.{part}
use Rattle.model.specs.Codes.{within}
use Rattle.extension.specs.Extension.{type_of, body_length, body_of, behind, is_cut, Carried, nothing, body, wrong, carrying, one_more, is_empty, list_from}

pub list_end : (n : ℕ) (c : Carried) (l : List ℕ) → length l ≡ 0 → list_from n c l ≡ c
unfolding list_from
list_end zero c l e = rw (eq-eqb (length l) 0 e)
list_end (suc n) c l e = rw (eq-eqb (length l) 0 e)

pub list_full : (c : Carried) (l : List ℕ) → 0 < length l → list_from 0 c l ≡ wrong
unfolding list_from
list_full c l h = rw (ne_eqb (length l) 0 (λ z. omega arith))

pub list_cut : (n : ℕ) (c : Carried) (l : List ℕ) → 0 < length l → length l < body_length l + 2 → list_from (suc n) c l ≡ wrong
unfolding list_from
list_cut n c l h k = rw (ne_eqb (length l) 0 (λ z. omega arith), lt-ltb (length l) (body_length l + 2) k)

pub list_more : (n : ℕ) (c : Carried) (l : List ℕ) → body_length l + 2 ≤ length l
    → list_from (suc n) c l ≡ list_from n (one_more c (type_of l) (body_of l)) (behind l)
unfolding list_from
list_more n c l k = rw (ne_eqb (length l) 0 (λ z. omega arith), le-ltb (length l) (body_length l + 2) k)

-- what is wrong stays wrong, whatever stands behind
more_wrong : (type : ℕ) (b : List ℕ) → one_more wrong type b ≡ wrong
unfolding one_more
more_wrong type b =
    pick_holds (λ (c : Carried). c ≡ wrong) (eqb type 0x40) wrong (pick (within 0x41 0x4F type) wrong wrong) refl
    (pick_holds (λ (c : Carried). c ≡ wrong) (within 0x41 0x4F type) wrong wrong refl refl)

pub list_wrong : (n : ℕ) (l : List ℕ) → list_from n wrong l ≡ wrong
unfolding list_from
list_wrong zero l = pick_holds (λ (c : Carried). c ≡ wrong) (is_empty l) wrong wrong refl refl
list_wrong (suc n) l =
    let rest : Carried = list_from n (one_more wrong (type_of l) (body_of l)) (behind l) in
    let still : rest ≡ wrong = ap (λ (c : Carried). list_from n c (behind l)) (more_wrong (type_of l) (body_of l)) ∙ list_wrong n (behind l) in
    pick_holds (λ (c : Carried). c ≡ wrong) (is_empty l) wrong (pick (is_cut l) wrong rest) refl
    (pick_holds (λ (c : Carried). c ≡ wrong) (is_cut l) wrong rest refl still)

-- ---- read in place: the list that begins at a byte of the command c

module _ (c : List ℕ) (at : ℕ) where
  type_there : type_of (drop at c) ≡ get_or c at 0
  type_there = get_or-drop at c 0 0 ∙ rw (add-zero at)

  length_there : body_length (drop at c) ≡ get_or c (at + 1) 0
  length_there = get_or-drop at c 1 0

  -- with a body of n bytes, as the byte behind the type says
  module _ (n : ℕ) (said : n ≡ get_or c (at + 1) 0) where
    -- cut off, and then nothing is left
    pub cut_there : (len : ℕ) (k : Carried) → at < length c → len ≡ length c → len - at < n + 2 → (m : ℕ)
        → list_from m wrong (drop len c) ≡ list_from (suc m) k (drop at c)
    cut_there len k h e cut m =
        list_end m wrong (drop len c) (length-drop len c ∙ omega arith)
        ∙ sym (list_cut m k (drop at c) (rw length-drop (omega arith)) (rw (length-drop at c, length_there, ← said) (omega arith)))

    -- whole, with the shorter list behind it
    pub more_there : (j k : Carried) → at + 2 + n ≤ length c → j ≡ one_more k (get_or c at 0) (part (at + 2) n c) → (m : ℕ)
        → list_from m j (drop (at + 2 + n) c) ≡ list_from (suc m) k (drop at c)
    more_there j k fits e m =
        let size : body_length (drop at c) ≡ n = length_there ∙ sym said in
        let there : body_of (drop at c) ≡ part (at + 2) n c = ap₂ (λ (i : ℕ) (l : List ℕ). take i l) size (drop-drop 2 at c) in
        let q : at + (body_length (drop at c) + 2) ≡ at + 2 + n = rw size (omega arith) in
        let rest : behind (drop at c) ≡ drop (at + 2 + n) c =
        drop-drop (body_length (drop at c) + 2) at c ∙ ap (λ (i : ℕ). drop i c) q in
        ap₂ (λ (x : Carried) (l : List ℕ). list_from m x l)
        (e ∙ sym (ap₂ (λ (t : ℕ) (b : List ℕ). one_more k t b) type_there there))
        (sym rest)
        ∙ sym (list_more m k (drop at c) (rw (size, length-drop at c) (omega arith)))

-- ---- the steps of the recursion, from a byte of the command on with n descriptors left

module _ (c : List ℕ) (at n : ℕ) (k : Carried) where
  pub ends_there : length c ≤ at → k ≡ list_from n k (drop at c)
  ends_there h = sym (list_end n k (drop at c) (length-drop at c ∙ omega arith))

  pub full_there : at < length c → n ≡ 0 → wrong ≡ list_from n k (drop at c)
  full_there h z = rw z (sym (list_full k (drop at c) (rw length-drop (omega arith))))

  pub breaks_there : (n ≡ 0 → ⊥) → ((m : ℕ) → wrong ≡ list_from (suc m) k (drop at c)) → wrong ≡ list_from n k (drop at c)
  breaks_there some step =
      let q : suc (n - 1) ≡ n = sym (add-one (n - 1)) ∙ omega arith in
      step (n - 1) ∙ ap (λ (m : ℕ). list_from m k (drop at c)) q

  pub goes_on : (n ≡ 0 → ⊥) → (j r : Carried) (next : ℕ) → ((m : ℕ) → list_from m j (drop next c) ≡ list_from (suc m) k (drop at c))
      → r ≡ list_from (n - 1) j (drop next c) → r ≡ list_from n k (drop at c)
  goes_on some j r next step e =
      let q : suc (n - 1) ≡ n = sym (add-one (n - 1)) ∙ omega arith in
      e ∙ step (n - 1) ∙ ap (λ (m : ℕ). list_from m k (drop at c)) q

-- ---- what is carried has 78 bytes

abbrev Sized : Carried → Type 0
Sized nothing = Unit
Sized (body b) = length b ≡ 78
Sized wrong = Unit

carrying_sized : (c : Carried) (b : List ℕ) → Sized (carrying c b)
carrying_sized nothing b =
    pick_cases Sized (eqb (length b) 78) (body b) wrong (λ e. eqb-true (length b) 78 e) (λ e. tt)
carrying_sized (body c) b = tt
carrying_sized wrong b = tt

more_sized : (c : Carried) (type : ℕ) (b : List ℕ) → Sized c → Sized (one_more c type b)
unfolding one_more
more_sized c type b s =
    pick_holds Sized (eqb type 0x40) (carrying c b) (pick (within 0x41 0x4F type) c wrong) (carrying_sized c b)
    (pick_holds Sized (within 0x41 0x4F type) c wrong s tt)

list_sized : (n : ℕ) (c : Carried) (l : List ℕ) → Sized c → Sized (list_from n c l)
unfolding list_from
list_sized zero c l s = pick_holds Sized (is_empty l) c wrong s tt
list_sized (suc n) c l s =
    let next : Carried = one_more c (type_of l) (body_of l) in
    pick_holds Sized (is_empty l) c (pick (is_cut l) wrong (list_from n next (behind l))) s
    (pick_holds Sized (is_cut l) wrong (list_from n next (behind l)) tt (list_sized n next (behind l) (more_sized c (type_of l) (body_of l) s)))

pub list_carries : (n : ℕ) (l b : List ℕ) → list_from n nothing l ≡ body b → length b ≡ 78
list_carries n l b e = subst Sized e (list_sized n nothing l tt)

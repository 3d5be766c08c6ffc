-- A whole command is what an open and, where it parks, its close at once and with the same clock give on a table with a free slot; the slot
-- table is then as it was.
use Rattle.std.specs.Prelude.{◌≡◌, true, false, ℕ, ◌+◌, ◌*◌, ◌≤◌, ◌<◌, eqb, length, take, drop}
use Rattle.std.proofs.Common.{sym, ap, ap₂, ◌∙◌, arith, take-append-drop, length-drop, take_at, drop_at, length-take-le}
use mathlib.Core.List.{List, ◌++◌}
use borrow.Author.Tests.{eqb-true, eq-eqb, le-leb}
use Rattle.choice.specs.ChoiceLaws.{both_true}
use Rattle.wire.specs.Bytes.{part, patch}
use Rattle.wire.proofs.SameLaws.{same_true}
use Rattle.seal.specs.Seal.{blank_record}
use Rattle.seal.specs.BlankLaws.{record_length}
use Rattle.model.specs.Codes.{data_out}
use Rattle.model.proofs.CodeLaws.{legal_small}
use Rattle.model.specs.declared.Answer.TheVariants.{Parked}
use Rattle.slots.specs.Slot.{slot_at, slot_state_of, is_free, right_token, open_record, lowest_free, parked, freed}
use Rattle.slots.proofs.SlotLaws.{free_blank, token_is}
use Rattle.slots.proofs.SearchLaws.{lowest}
use Rattle.slots.proofs.RoundLaws.{open_length, parked_open, parked_length, parked_here}
use Rattle.slots.proofs.TableLaws.{slot_length}
use Rattle.std.specs.Prelude.{Some}
use Rattle.judge.specs.Command.{code_of}
use Rattle.judge.specs.Seen.{seen}
use Rattle.judge.proofs.JudgementLaws.{Passed, open_passed}
use Rattle.calls.specs.Outcome.{Lent, gives, with_slots, rightly_lent}
use Rattle.calls.proofs.OutcomeLaws.{lengths_are, lengths_right}
use Rattle.calls.specs.Slots.{holds}
use Rattle.calls.specs.Whole.{Asked, whole}
use Rattle.calls.specs.Open.{reason_at_open, parks, answered, judged_out, open_out}
use Rattle.calls.specs.Close.{close_out}
use Rattle.runs.proofs.WholeLaws.{open_whole}
use Rattle.runs.proofs.StepLaws.{held_parked}

-- ---- a record that is put over another, and put back

patch_over : (xs : List ℕ) (a : ℕ) (ys zs : List ℕ) → a + length ys ≤ length xs → length ys ≡ length zs
    → patch (patch xs a ys) a zs ≡ patch xs a zs
unfolding patch
patch_over xs a ys zs fits same =
    let rest = drop (length ys) (drop a xs) in
    let front : length (take a xs) ≡ a = length-take-le a xs (omega arith) in
    let p : take a (take a xs ++ (ys ++ rest)) ≡ take a xs = take_at (take a xs) (ys ++ rest) a front in
    let q : drop a (take a xs ++ (ys ++ rest)) ≡ ys ++ rest = drop_at (take a xs) (ys ++ rest) a front in
    let r : drop (length zs) (ys ++ rest) ≡ rest = drop_at ys rest (length zs) same in
    ap₂ (λ (x y : List ℕ). x ++ (zs ++ y)) p (ap (drop (length zs)) q ∙ r ∙ ap (λ (n : ℕ). drop n (drop a xs)) same)

patch_back : (xs : List ℕ) (a n : ℕ) (ys : List ℕ) → a + n ≤ length xs → ys ≡ part a n xs → patch xs a ys ≡ xs
unfolding patch
patch_back xs a n ys fits e =
    let full : length (take n (drop a xs)) ≡ n = length-take-le n (drop a xs) (rw length-drop (omega arith)) in
    ap (λ (y : List ℕ). take a xs ++ (y ++ drop (length y) (drop a xs))) e
    ∙ ap (λ (k : ℕ). take a xs ++ (take n (drop a xs) ++ drop k (drop a xs))) full
    ∙ ap (λ (y : List ℕ). take a xs ++ y) (take-append-drop n (drop a xs))
    ∙ take-append-drop a xs

-- a command is parked in a free slot, and the slot freed: the table is as it was
freed_parked : (s u : ℕ) (c token slots : List ℕ) → length slots ≡ 8192 → s < 16 → length c ≤ 100 → length token ≤ 64
    → is_free (slot_state_of (slot_at s slots)) ≡ true → freed s (parked s u c token slots) ≡ slots
unfolding freed parked
freed_parked s u c token slots full h hc ht free =
    let blank = same_true (slot_at s slots) blank_record (sym (free_blank (slot_at s slots) (slot_length s slots full h)) ∙ free) in
    let lo = open_length u c token hc ht in
    let lb = record_length in
    patch_over slots (s * 512) (open_record u c token) blank_record (omega arith) (lo ∙ sym lb)
    ∙ patch_back slots (s * 512) 512 blank_record (omega arith) (sym blank)

-- ---- the two ways

-- an open that doesn't park answers the whole command
pub whole_opened : (l : Lent) (k : Asked) (d : List ℕ) (clock : ℕ) → rightly_lent l ≡ true → right_token (length k.token) ≡ true
    → parks l.tabled.units k clock ≡ false → open_out l k clock ≡ answered l (whole l.tabled.units k d clock)
unfolding open_out judged_out
whole_opened l k d clock right sized p = rw (right, sized, p) (ap (answered l) (open_whole l.tabled.units k d clock p))

module _ (l : Lent) (k : Asked) (d : List ℕ) (clock : ℕ) (s : ℕ) (right : rightly_lent l ≡ true)
    (sized : right_token (length k.token) ≡ true) (free : lowest_free l.tabled.slots ≡ Some s) where
  -- what is lent while the command waits for its data
  abbrev pub waiting : Lent
  waiting = with_slots (parked s k.unit k.command k.token l.tabled.slots) l

  module _ (p : parks l.tabled.units k clock ≡ true) where
    -- one that parks takes the lowest free slot
    pub whole_parked : open_out l k clock ≡ gives (Parked (record { 0 = s })) waiting
    unfolding open_out judged_out
    whole_parked = rw (right, sized, p, free)

    judged : (reason_at_open l.tabled.units k clock ≡ 0) × (data_out (code_of k.command) ≡ true)
    judged =
        let q = both_true (eqb (reason_at_open l.tabled.units k clock) 0) (data_out (code_of k.command)) p in
        (eqb-true (reason_at_open l.tabled.units k clock) 0 q.0, q.1)

    passed : Passed (seen l.tabled.units k.unit) k.command
    passed = open_passed (seen l.tabled.units k.unit) k.command k.token clock judged.0

    short : length k.command ≤ 100
    short = let n = legal_small (code_of k.command) (length k.command) passed.legal in omega arith

    -- and its close, at once and with the same clock, answers the whole command
    pub whole_closed : close_out waiting s d clock ≡ answered l (whole l.tabled.units k d clock)
    unfolding close_out holds
    whole_closed =
        let units = l.tabled.units in
        let slots = l.tabled.slots in
        let t = token_is (length k.token) sized in
        let e = lengths_are _ _ _ right in
        let f = lowest slots s free in
        let h : s < 16 = f.0 in
        let small = passed.small in
        let here = parked_here s k.unit k.command k.token slots short t.1 e.1 h in
        let full = parked_length s k.unit k.command k.token slots short t.1 e.1 h in
        let right' = lengths_right waiting.tabled l.reply e.0 full ∙ eq-eqb (length l.reply) 512 e.2 in
        let opened = parked_open k.unit k.command k.token (omega arith) t.0 t.1 judged.1 passed.legal in
        rw (right', le-leb s 15 (omega arith), here, opened)
        (ap₂ (λ (x : Asked) (ss : List ℕ). answered (with_slots ss l) (whole units x d clock))
        (held_parked k.unit k.command k.token (omega arith) t.1 passed.legal)
        (freed_parked s k.unit k.command k.token slots e.1 h short t.1 f.1))

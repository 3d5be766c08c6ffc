-- No bytes are a dash; else two digits a byte, where there is room for all.
use Rattle.std.proofs.Common.{ℕ, ◌≡◌, ◌∙◌, List, ◌++◌, length, sym, ap, refl, arith, rules, eqb-true, length-append, get_or}
use Rattle.std.proofs.lemmas.Bool.{eqb-false, false≢true}
use Rattle.std.specs.Prelude.{Result, Ok, Err, IsOk, OnOk}
use Rattle.text.specs.Hex.{two_digits, digits_of}
use Rattle.text.proofs.HexLaws.{digits_start, digits_more, digits_length, text_none, text_some, text_long}
use Rattle.text.proofs.hex.put_hex.Goals as goal

-- what is so of a value is so where there is one
on_ok : {A E : Type 0} (r : Result A E) (P : Type 0) → (IsOk r → P) → OnOk r P
on_ok (Ok x) P h = h refl
on_ok (Err e) P h = tt

pub returns-then-is_empty-clause-room : goal.returns-then-is_empty-clause-room
returns-then-is_empty-clause-room g c = rw (text_none c.args.s.now (eqb-true _ 0 (sym c.if-is_empty.ensures))) c.write_str.ensures.variant

pub returns-then-is_empty-clause-ok : goal.returns-then-is_empty-clause-ok
returns-then-is_empty-clause-ok g c = rw (text_none c.args.s.now (eqb-true _ 0 (sym c.if-is_empty.ensures))) (on_ok c.write_str.result _ c.write_str.ensures.ok)

pub returns-then-remaining_capacity-s-clause-room : goal.returns-then-remaining_capacity-s-clause-room
returns-then-remaining_capacity-s-clause-room g c =
    let n = eqb-false (length c.args.s.now) 0 (sym c.if-is_empty.ensures) in
    let long = text_long c.args.s.now (omega (arith, n)) in
    (λ e. absurd (false≢true e), λ h. absurd (omega (arith, long, c.remaining_capacity.ensures)))

pub loop-b-init : goal.loop-b-init
loop-b-init g c = digits_start c.args.out.now.bytes c.args.s.now

pub push_digits-requires : goal.push_digits-requires
push_digits-requires g c =
    let l = c.loop-b in
    let long = ap length l.invariant ∙ length-append c.args.out.now.bytes (digits_of l.b-index c.args.s.now) in
    (search rules, omega (arith, long, digits_length l.b-index c.args.s.now, c.remaining_capacity.ensures))

pub loop-b-preserved : goal.loop-b-preserved
loop-b-preserved g c =
    let l = c.loop-b in
    let s = c.args.s.now in
    c.push_digits.ensures ∙ ap (λ (t : List ℕ). t ++ two_digits 0x61 (get_or s l.b-index 0)) l.invariant
    ∙ digits_more c.args.out.now.bytes l.b-index s

pub returns-clause-room : goal.returns-clause-room
returns-clause-room g c =
    let n = eqb-false (length c.args.s.now) 0 (sym c.if-is_empty.ensures) in
    let long = text_long c.args.s.now (omega (arith, n)) in
    (λ e. omega (arith, long, c.remaining_capacity.ensures), λ h. refl)

pub returns-clause-ok : goal.returns-clause-ok
returns-clause-ok g c =
    let s = c.args.s.now in
    let out = c.args.out.now.bytes in
    let n = eqb-false (length s) 0 (sym c.if-is_empty.ensures) in
    let e : c.loop-b.b-index ≡ length s = omega arith in
    c.loop-b.invariant ∙ ap (λ (k : ℕ). out ++ digits_of k s) e ∙ ap (λ (t : List ℕ). out ++ t) (sym (text_some s (omega (arith, n))))

-- What is put so far are the digits of the bytes so far, and all fill the forty places.
use Rattle.std.proofs.Common.{ℕ, ◌≡◌, ◌+◌, ◌*◌, ◌∙◌, List, length, sym, ap, ap₂, refl, arith}
use Rattle.wire.specs.Bytes.{patch}
use Rattle.wire.proofs.PatchLaws.{length_patch, patch_none, patch_all}
use Rattle.text.specs.Hex.{digits_of}
use Rattle.text.proofs.HexLaws.{digits_none, digits_placed, digits_length}
use Rattle.text.proofs.hex.hex20.Goals as goal

pub loop-i-init : goal.loop-i-init
loop-i-init c = (refl, sym (ap (patch _ 0) (digits_none c.args.d) ∙ patch_none _ 0))

pub loop-i-preserved : goal.loop-i-preserved
loop-i-preserved c =
    let l = c.loop-i in
    let d = c.args.d in
    let e = c.put.ensures ∙ ap₂ (λ (t w : List ℕ). patch t (2 * l.i) w) l.invariant.1 c.two_digits.ensures ∙ digits_placed _ l.i d (omega arith) in
    let n = ap length e ∙ length_patch _ 0 (digits_of (l.i + 1) d) (omega (arith, digits_length (l.i + 1) d)) in
    (n, e)

pub returns : goal.returns
returns c =
    let d = c.args.d in
    let e : c.loop-i.i ≡ 20 = omega arith in
    c.loop-i.invariant.1 ∙ ap (λ (k : ℕ). patch _ 0 (digits_of k d)) e ∙ patch_all _ (digits_of 20 d) (omega (arith, digits_length 20 d))

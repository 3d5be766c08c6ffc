-- One patch, of zeros.
use mathlib.Core.Path.{◌≡◌, ◌∙◌, ap}
use Prim.Native.Nat.{ℕ}
use native.Mathlib.Omega.{arith}
use lib.ListN.{length, take, drop, replicate, length-take, length-drop}
use Rattle.wire.proofs.PatchLaws.{patch_lent}
use Rattle.units.proofs.fields.clear_next_and_working.Goals as goal

pub returns : goal.returns
returns c =
    let l = c.args.rec.now in
    let e : length (take 360 (drop 72 l)) ≡ 360 = simp (length-take, length-drop) (omega arith) in
    patch_lent l 72 360 c.fill.new.self (replicate 360 0) (omega arith) c.fill.auto.self
    (c.fill.ensures.after (λ y h. h) ∙ ap (λ (n : ℕ). replicate n 0) e)

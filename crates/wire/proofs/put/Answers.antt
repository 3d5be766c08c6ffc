-- A copy of as many bytes as were passed.
use mathlib.Core.Path.{◌∙◌, ap}
use native.Mathlib.Omega.{arith}
use native.Mathlib.Numerals.{add-one}
use lib.ListN.{length}
use lib.Seq.{paste-zero, paste-suc, length-paste}
use Rattle.wire.proofs.PatchLaws.{patch_paste}
use Rattle.wire.proofs.put.Goals as goal

pub loop-i-init : goal.loop-i-init
loop-i-init c = paste-zero c.args.d.now c.args.a c.args.s.now

pub bounds-d-a : goal.bounds-d-a
bounds-d-a c =
    let g = c.args in
    omega (arith, ap length c.loop-i.invariant, length-paste g.d.now g.a g.s.now c.loop-i.i (omega arith) (omega arith))

pub loop-i-preserved : goal.loop-i-preserved
loop-i-preserved c =
    let g = c.args in
    let t = paste-suc g.d.now g.a g.s.now c.loop-i.i 0 (omega arith) (omega arith) in
    rw (c.loop-i.invariant, add-one c.loop-i.i) t

pub shape_of-d : goal.shape_of-d
shape_of-d c =
    let g = c.args in
    ap length c.loop-i.invariant ∙ length-paste g.d.now g.a g.s.now c.loop-i.i (omega arith) (omega arith)

pub returns : goal.returns
returns c =
    let g = c.args in
    c.loop-i.invariant ∙ patch_paste g.d.now g.a g.s.now c.loop-i.i (omega arith)

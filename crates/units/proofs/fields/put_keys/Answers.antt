-- Two patches, one right behind the other.
use mathlib.Core.Path.{◌≡◌, ◌∙◌, ap}
use mathlib.Core.List.{List}
use Prim.Native.Nat.{ℕ, ◌+◌}
use native.Mathlib.Omega.{arith}
use lib.ListN.{length}
use Rattle.wire.specs.Bytes.{patch}
use Rattle.wire.proofs.PatchLaws.{patch_join}
use borrow.Author.Rules.{rules}
use Rattle.units.proofs.fields.put_keys.Goals as goal

pub returns : goal.returns
returns c =
    let first-length : length c.args.first ≡ 20 = search rules in
    let g = c.args in
    let l : length g.first ≡ 20 = first-length in
    c.put-2.ensures ∙ ap (λ (x : List ℕ). patch x (g.a + 20) g.second) c.put.ensures
    ∙ patch_join g.rec.now g.a g.first (omega arith) (g.a + 20) g.second (omega arith)

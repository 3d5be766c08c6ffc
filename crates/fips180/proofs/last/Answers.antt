-- The tail and its padding are whole blocks, absorbed from the state on.
use mathlib.Core.Path.{◌≡◌, sym, ap, ◌∙◌}
use Prim.Native.Nat.{ℕ, ◌+◌}
use native.Mathlib.Omega.{arith}
use lib.ListN.{length, take}
use lib.Seq.{length-take-le}
use Rattle.md.proofs.PaddingLaws.{ending_fits}
use Rattle.fips180.proofs.RunningLaws.{finished}
use borrow.Author.Rules.{rules}
use Rattle.fips180.proofs.last.Goals as goal

pub slice_bounds-whole_blocks-end : goal.slice_bounds-whole_blocks-end
slice_bounds-whole_blocks-end c =
    let full : length c.ending-b.result ≡ 128 = search rules in
    sym (length-take-le (length c.args.tail.now + (c.zeros_for.result + 9)) c.ending-b.result (omega (arith, ending_fits c.args.total (length c.args.tail.now) c.requires)))

pub returns : goal.returns
returns c = λ m k.
    let a = c.args in
    let r = c.ending-b.result in
    c.digest.ensures
    ∙ finished a.h _ a.tail.now _ a.total m c.requires
    (ap (λ (x : ℕ). take (length a.tail.now + (x + 9)) r) c.zeros_for.ensures ∙ c.ending-b.ensures) c.whole_blocks.ensures k

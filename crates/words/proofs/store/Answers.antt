-- The lent part came back as the word's bytes.
use Rattle.std.proofs.Common.{◌∙◌, arith}
use Rattle.wire.proofs.NumberLaws.{bytes_high, bytes_length}
use Rattle.wire.proofs.PatchLaws.{patch_lent, patch_sets}
use Rattle.words.specs.Words.{bytes32}
use Rattle.words.proofs.store.Goals as goal

pub returns : goal.returns
returns c =
    let w = c.copy_from_slice in
    let l = c.args.s.now in
    let i = c.args.i in
    let x = c.args.x in
    patch_lent l i 4 w.new.self (bytes32 x) (omega arith) w.auto.self (w.ensures.after ∙ c.to_be_bytes.ensures ∙ bytes_high x)
    ∙ patch_sets l i (bytes32 x) (omega (arith, bytes_length 4 x))

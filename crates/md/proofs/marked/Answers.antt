-- The tail is copied, and the byte stands behind it.
use Rattle.std.proofs.Common.{◌∙◌, refl, sym, arith, length, replicate}
use Rattle.wire.proofs.PatchLaws.{patch_paste}
use Rattle.md.proofs.PaddingLaws.{marked_law}
use Rattle.md.proofs.marked.Goals as goal

pub returns : goal.returns
returns c =
    let t = c.args.tail.now in
    marked_law t c.put.new.d 128 (length t) (omega arith) refl (c.put.ensures ∙ sym (patch_paste (replicate 128 0) 0 t (length t) refl))

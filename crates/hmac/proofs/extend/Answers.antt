-- A copy to the start of zeros is the key with zeros after it.
use Rattle.std.proofs.Common.{◌∙◌, refl, sym, length, replicate}
use Rattle.wire.proofs.PatchLaws.{patch_paste}
use Rattle.hmac.proofs.KeyLaws.{extended_law}
use Rattle.hmac.proofs.extend.Goals as goal

pub returns : goal.returns
returns c =
    let k = c.args.key.now in
    c.put.ensures ∙ sym (patch_paste (replicate 64 0) 0 k (length k) refl) ∙ extended_law 64 k c.requires

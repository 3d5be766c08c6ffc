-- Each of the two hashes has taken in the masked key.
use Rattle.std.proofs.Common.{◌∙◌, [], ap}
use Rattle.fips180.specs.Running.{Holds}
use Rattle.hmac.specs.Hmac.{by_sha1, ipad, opad, masked}
use Rattle.hmac.proofs.MacLaws.{mac_started}
use Rattle.hmac.proofs.Mac.new.Goals as goal

pub returns : goal.returns
returns c =
    let ek = c.key_block-block.ensures in
    mac_started by_sha1 Holds
    (c.feed.ensures [] c.new-inner.ensures) (c.feed-2.ensures [] c.new-outer.ensures)
    (c.mask.ensures ∙ ap (masked ipad) ek) (c.mask-2.ensures ∙ ap (masked opad) ek)

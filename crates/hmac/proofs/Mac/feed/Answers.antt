-- The inner hash takes in the part.
use Rattle.fips180.specs.Running.{Holds}
use Rattle.hmac.specs.Hmac.{by_sha1}
use Rattle.hmac.proofs.MacLaws.{mac_fed}
use Rattle.hmac.proofs.Mac.feed.Goals as goal

pub returns : goal.returns
returns c = λ k m s. mac_fed by_sha1 Holds s c.feed.ensures

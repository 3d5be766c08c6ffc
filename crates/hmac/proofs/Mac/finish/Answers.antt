-- The inner digest goes into the outer hash, whose digest is the result.
use Rattle.fips180.specs.Running.{Holds}
use Rattle.hmac.specs.Hmac.{by_sha1}
use Rattle.hmac.proofs.MacLaws.{mac_finished}
use Rattle.hmac.proofs.Mac.finish.Goals as goal

pub returns : goal.returns
returns c = λ k m s. mac_finished by_sha1 Holds s c.finish.ensures c.feed.ensures c.finish-2.ensures

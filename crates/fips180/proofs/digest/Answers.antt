-- Five words stored one behind the other.
use Rattle.std.proofs.Common.{refl}
use Rattle.wire.specs.Bytes.{bytes_of}
use Rattle.fips180.specs.Sha1.{digest_of}
use Rattle.fips180.proofs.digest.Goals as goal

pub returns : goal.returns
unfolding digest_of bytes_of
returns c = rw (c.store-5.ensures, c.store-4.ensures, c.store-3.ensures, c.store-2.ensures, c.store.ensures) refl

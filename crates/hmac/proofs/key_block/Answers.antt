-- A key of at most a block stands as it is; a longer one is hashed.
use Rattle.std.proofs.Common.{◌∙◌, sym, ap}
use Rattle.hmac.specs.Hmac.{extended, by_sha1}
use Rattle.hmac.proofs.HmacLaws.{short_key, long_key}
use Rattle.hmac.proofs.key_block.Goals as goal

pub returns-then-key-le64 : goal.returns-then-key-le64
returns-then-key-le64 c = c.extend.ensures ∙ sym (short_key by_sha1 _ c.if-key-le64.true)

pub returns : goal.returns
returns c = c.extend-2.ensures ∙ ap (extended 64) c.hash.ensures ∙ sym (long_key by_sha1 _ c.if-key-le64.false)

-- The check of a record of 512 bytes (document 01, "Records of 512 bytes"): bytes 492-511 are the SHA-1 of bytes 0-491. docs/RULES.md, 2.1.
use Rattle.std.specs.Prelude.{ℕ, Bool, List, take, replicate}
use Rattle.wire.specs.Bytes.{same, part, patch}
use Rattle.fips180.specs.Sha1.{sha1}

-- does the check hold?
unfoldable pub checked : List ℕ → Bool
checked l = same (part 492 20 l) (sha1 (take 492 l))

-- the record with its check
unfoldable pub seal : List ℕ → List ℕ
seal l = patch l 492 (sha1 (take 492 l))

-- 512 zeros
unfoldable pub blank : List ℕ
blank = replicate 512 0

-- the one record that is zero up to 491 and has its check: an unused unit, a free slot
unfoldable pub blank_record : List ℕ
blank_record = seal blank

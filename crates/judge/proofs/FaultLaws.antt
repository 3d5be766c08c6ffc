-- Laws of the faults: the machine's AND of two bytes is that of their bits.
use Rattle.std.specs.Prelude.{◌≡◌, refl, ℕ, ◌^◌, ◌<◌, min}
use Rattle.std.specs.Int.Bits.{bit_and, and_step}
use Rattle.words.specs.Words.{bits}
use Rattle.words.specs.BitLaws.{bits_is}

pub and_bytes : (a b : ℕ) → a < 2 ^ 8 → b < 2 ^ 8 → bits 8 min a b ≡ bit_and a b
and_bytes a b = bits_is bit_and min refl and_step 8 a b

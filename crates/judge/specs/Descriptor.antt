-- The capability descriptor (document 01, "Descriptor"): its 58 bytes, d. docs/RULES.md, 4.1.
use Rattle.std.specs.Prelude.{List, ℕ, ◌/◌, ◌%◌, get_or}
use Rattle.wire.specs.Bytes.{part, number}

-- 0 format in the high nibble, key version in the low
unfoldable pub format : List ℕ → ℕ
format d = get_or d 0 0 / 16

unfoldable pub key_version : List ℕ → ℕ
key_version d = get_or d 0 0 % 16

-- 1 method
unfoldable pub cap_method : List ℕ → ℕ
cap_method d = get_or d 1 0

-- 2-5 algorithm; 6-11 expiration
unfoldable pub algorithm : List ℕ → ℕ
algorithm d = number 4 2 d

unfoldable pub expiration : List ℕ → ℕ
expiration d = number 6 6 d

-- 32-35 permissions, of which byte 32 is judged; 36-39 policy tag
unfoldable pub permissions : List ℕ → ℕ
permissions d = get_or d 32 0

unfoldable pub cap_tag : List ℕ → ℕ
cap_tag d = number 4 36 d

-- 40 low nibble descriptor type; 41 its length; 42-57 descriptor
unfoldable pub descriptor_type : List ℕ → ℕ
descriptor_type d = get_or d 40 0 % 16

unfoldable pub descriptor_length : List ℕ → ℕ
descriptor_length d = get_or d 41 0

unfoldable pub descriptor_id : List ℕ → List ℕ
descriptor_id d = part 42 16 d

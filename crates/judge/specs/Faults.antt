-- The faults of a capability (document 01, "Order of judgement", reasons 7 to 13), each over numbers and bytes. docs/RULES.md, 5.1.
use Rattle.std.specs.Prelude.{Bool, true, false, not, List, ℕ, min, eqb, ltb}
use Rattle.choice.specs.Choice.{pick, both, either}
use Rattle.words.specs.Words.{bits}
use Rattle.wire.specs.Bytes.{same}
use Rattle.model.specs.declared.Need.{Need}
use Rattle.model.specs.declared.Need.TheVariants.{Unknown, Open, Bits, Master}

-- 7: format not 1h
unfoldable pub wrong_format : ℕ → Bool
wrong_format f = not (eqb f 1)

-- 8: method not CAPKEY where CAPKEY rules, else above 1
unfoldable pub wrong_method : Bool → ℕ → Bool
wrong_method rules m = pick rules (not (eqb m 1)) (ltb 1 m)

-- 9: algorithm not 1, where CAPKEY rules
unfoldable pub wrong_algorithm : Bool → ℕ → Bool
wrong_algorithm rules a = both rules (not (eqb a 1))

-- 10: expiration not zero and below the clock
unfoldable pub expired : ℕ → ℕ → Bool
expired e clock = both (not (eqb e 0)) (ltb e clock)

-- 11: a needed permission bit of byte 32 missing; an open row needs none, and to an unknown one no permission is enough
unfoldable pub lacks_bits : ℕ → ℕ → Bool
lacks_bits needed p = not (eqb (bits 8 min needed p) needed)

abbrev pub lacks_need : Need → ℕ → Bool
lacks_need Unknown p = true
lacks_need Open p = false
lacks_need (Bits needed) p = lacks_bits needed p
lacks_need (Master needed) p = lacks_bits needed p

-- 12: policy tag not zero and not the unit's
unfoldable pub wrong_tag : ℕ → ℕ → Bool
wrong_tag t unit_tag = both (not (eqb t 0)) (not (eqb t unit_tag))

-- 13: type not 1h, length not 16, or identifier not the unit's
unfoldable pub wrong_descriptor : ℕ → ℕ → List ℕ → List ℕ → Bool
wrong_descriptor type len id unit_id = either (not (eqb type 1)) (either (not (eqb len 16)) (not (same id unit_id)))

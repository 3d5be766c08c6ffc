-- What a capability proves, each check in document 01's terms: that its command is listed, that it carries the permissions, hasn't
-- expired, bears the unit's policy tag or none, names the unit, and verifies under a key. (Unit, below, is the statement that always
-- holds.) docs/RULES.md, 7.4.
use Rattle.std.specs.Prelude.{◌≡◌, ◌⊎◌, false, List, ℕ, ◌+◌, ◌≤◌, min, length}
use Prim.{Unit}
use Rattle.words.specs.Words.{bits}
use Rattle.model.specs.Codes.{cdb_len}
use Rattle.model.specs.declared.Need.{Need}
use Rattle.model.specs.declared.Need.TheVariants.{Unknown, Open, Bits, Master}
use Rattle.units.specs.Unit.{policy_tag, identifier}
use Rattle.judge.specs.Command.{code_of, need_for, is_unlisted, descriptor_of, check_value_of}
use Rattle.judge.specs.Descriptor.{format, cap_method, algorithm, expiration, permissions, cap_tag, descriptor_type, descriptor_length, descriptor_id}
use Rattle.judge.specs.Keys.{tag_for}

-- the permission byte p has every bit that is needed
abbrev pub Permits : Need → ℕ → Type 0
Permits Unknown p = ⊥
Permits Open p = Unit
Permits (Bits needed) p = bits 8 min needed p ≡ needed
Permits (Master needed) p = bits 8 min needed p ≡ needed

-- what 10 to 13 ask of a descriptor d: of a command that needs this, at the clock, against a unit's record
pub record FactsHold (need : Need) (own d : List ℕ) (clock : ℕ) : Type 0 where
  pub unexpired : (expiration d ≡ 0) ⊎ (clock ≤ expiration d)
  pub permitted : Permits need (permissions d)
  pub tagged : (cap_tag d ≡ 0) ⊎ (cap_tag d ≡ policy_tag own)
  pub type_1 : descriptor_type d ≡ 1
  pub length_16 : descriptor_length d ≡ 16
  pub names_unit : descriptor_id d ≡ identifier own

-- the command c at the clock, against a unit's record and under a key
pub record Checked (own key c token : List ℕ) (clock : ℕ) : Type 0 where
  pub known : is_unlisted c ≡ false
  pub wrapped : length c ≡ cdb_len (code_of c) + 78
  pub format_1 : format (descriptor_of c) ≡ 1
  pub capkey : cap_method (descriptor_of c) ≡ 1
  pub algorithm_1 : algorithm (descriptor_of c) ≡ 1
  pub facts : FactsHold (need_for c) own (descriptor_of c) clock
  pub verifies : check_value_of c ≡ tag_for key (descriptor_of c) token

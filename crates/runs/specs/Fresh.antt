-- Where tables start (document 01: build replaces the record that stood there, reset makes every slot free): a unit table with no unit
-- used, and units built into it one after another. docs/RULES.md, 7.4.
use Rattle.std.specs.Prelude.{◌≡◌, List, [], ◌∷◌, ◌++◌, ℕ, zero, suc, ◌<◌, ◌^◌, length}
use Rattle.seal.specs.Seal.{blank_record}
use Rattle.model.specs.declared.Answer.TheVariants.{Good}
use Rattle.units.specs.Unit.{keeper_of}
use Rattle.calls.specs.Outcome.{TableOutcome, leaves}
use Rattle.calls.specs.Build.{build_out}

-- n blank records, one behind another
unfoldable pub blanks : ℕ → List ℕ
blanks zero = []
blanks (suc n) = blank_record ++ blanks n

abbrev pub fresh : List ℕ
fresh = blanks 8

-- what a build is asked for; the lengths are what the call's types say: a tag of four bytes, an identifier of 16 and keys of 20. The keeper
-- is the field's value: zero for own keys, or one more than a keeper's number
pub record Asking : Type 0 where
  pub unit : ℕ
  pub method : ℕ
  pub tag : ℕ
  pub identifier : List ℕ
  pub auth : List ℕ
  pub generation : List ℕ
  pub keeper : ℕ
  pub tag_fits : tag < 2 ^ 32
  pub identifier_16 : length identifier ≡ 16
  pub auth_20 : length auth ≡ 20
  pub generation_20 : length generation ≡ 20

abbrev pub build_as : List ℕ → Asking → TableOutcome
build_as us b = build_out us b.unit b.method b.tag b.identifier b.auth b.generation b.keeper

-- the build makes no sharer of a unit that another record names as its keeper
abbrev pub LosesNone : List ℕ → Asking → Type 0
LosesNone us b = (b.keeper ≡ 0 → ⊥) → (v : ℕ) → v < 8 → (b.unit ≡ v → ⊥) → keeper_of us v ≡ b.unit → ⊥

-- builds, each answered A0, none of which loses a sharer its keeper, from the unit table us to the unit table ns
abbrev pub Built : List ℕ → List Asking → List ℕ → Type 0
Built us [] ns = us ≡ ns
Built us (b ∷ bs) ns = (next : List ℕ) × (leaves (Good 0) next ≡ build_as us b) × LosesNone us b × Built next bs ns

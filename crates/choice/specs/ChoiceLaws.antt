-- Laws of choices by a test.
use Rattle.std.specs.Prelude.{◌≡◌, refl, Bool, true, false}
use Rattle.choice.specs.Choice.{pick, both, either}

pub both_true : (a b : Bool) → both a b ≡ true → (a ≡ true) × (b ≡ true)
both_true true b e = (refl, e)
both_true false b e = (e, cc)

pub either_false : (a b : Bool) → either a b ≡ false → (a ≡ false) × (b ≡ false)
either_false true b e = (e, cc)
either_false false b e = (refl, e)

pub either_right : (a b : Bool) → b ≡ true → either a b ≡ true
either_right true b e = refl
either_right false b e = e

-- what holds of both choices holds of the one that is taken
pub pick_holds : {A : Type 0} (P : A → Type 0) (b : Bool) (x y : A) → P x → P y → P (pick b x y)
pick_holds P true x y p q = p
pick_holds P false x y p q = q

-- the same, with the test that made the choice
pub pick_cases : {A : Type 0} (P : A → Type 0) (b : Bool) (x y : A) → (b ≡ true → P x) → (b ≡ false → P y) → P (pick b x y)
pick_cases P true x y p q = p refl
pick_cases P false x y p q = q refl

pub both_right : (b : Bool) → both b true ≡ b
both_right true = refl
both_right false = refl

pub both_none : (b : Bool) → both b false ≡ false
both_none true = refl
both_none false = refl

-- where both fail and the first holds, the second fails
pub second_false : (a b : Bool) → a ≡ true → both a b ≡ false → b ≡ false
second_false true b t e = e
second_false false b t e = cc

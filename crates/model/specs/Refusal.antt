-- The answer of each reason (document 01, "Order of judgement"). docs/RULES.md, 5.1.
use Rattle.std.specs.Prelude.{ℕ, [], ◌∷◌, eqb}
use Rattle.choice.specs.Choice.{pick}
use Rattle.model.specs.Among.{is_in}
use Rattle.model.specs.declared.Answer.{Answer}
use Rattle.model.specs.declared.Answer.TheVariants.{Check}

-- sense key 5h, except reason 1b
unfoldable pub sense_key : ℕ → ℕ
sense_key reason = pick (eqb reason 0x1b) 0x4 0x5

unfoldable pub additional_code : ℕ → ℕ
additional_code reason =
    pick (eqb reason 1) 0x25
    (pick (eqb reason 0x1b) 0x44
    (pick (eqb reason 2) 0x20
    (pick (is_in (16 ∷ 18 ∷ []) reason) 0x1A
    (pick (eqb reason 19) 0x26
    0x24))))

unfoldable pub refusal : ℕ → Answer
refusal r = Check (record { key = sense_key r; code = additional_code r; qualifier = 0x00; reason = r })

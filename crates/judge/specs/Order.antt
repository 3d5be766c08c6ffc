-- How the code goes through the order of judgement: group by group, each asked only where no reason stands in one before it.
use Rattle.std.specs.Prelude.{List, ◌++◌, ℕ, eqb}
use Rattle.choice.specs.Choice.{pick}
use Rattle.model.specs.Rows.{is_master}
use Rattle.judge.specs.Command.{is_change, need_for, descriptor_of, check_value_of}
use Rattle.judge.specs.Judgement.{Test, rules_for, form_tests, fact_tests, found_tests, value_tests}

-- the first reason, or the second where the first is none
abbrev pub or_else : ℕ → ℕ → ℕ
or_else r s = pick (eqb r 0) s r

-- 7 to 15, of a wrapped command
unfoldable pub wrapped_tests : List ℕ → List ℕ → List ℕ → List ℕ → ℕ → List Test
wrapped_tests own keys c token clock =
    form_tests (rules_for own c) (descriptor_of c) ++
    (fact_tests (need_for c) own (descriptor_of c) clock ++
    (found_tests (rules_for own c) keys (is_master (need_for c)) (is_change c) (descriptor_of c) ++
    value_tests (rules_for own c) keys (is_master (need_for c)) (is_change c) (descriptor_of c) (check_value_of c) token))

-- A right credential is accepted: a command that passes the checks of Checked under the key that is found is refused for no reason; the
-- converse of CheckedLaws.
use Rattle.std.specs.Prelude.{◌≡◌, refl, ◌⊎◌, Bool, true, false, not, List, ◌++◌, ℕ, ◌+◌, ◌≤◌, ◌<◌, min, eqb, length}
use Rattle.std.proofs.Common.{sym, ◌∙◌, inl, inr, arith, le-ltb, eq-eqb, ne_eqb}
use Prim.{tt}
use Rattle.choice.specs.Choice.{both, either}
use Rattle.choice.specs.ChoiceLaws.{either_false, pick_holds}
use Rattle.words.specs.Words.{bits}
use Rattle.wire.proofs.SameLaws.{same_refl}
use Rattle.model.specs.Rows.{listed, by_page, need_of, is_unknown, is_master}
use Rattle.model.proofs.RowLaws.{listed_by_need}
use Rattle.model.specs.Codes.{cdb_len, legal_len}
use Rattle.model.specs.declared.Need.{Need}
use Rattle.model.specs.declared.Need.TheVariants.{Unknown, Open, Bits, Master}
use Rattle.units.specs.declared.UnitState.{UnitState}
use Rattle.units.specs.declared.UnitState.TheVariants.{Used}
use Rattle.units.specs.Unit.{policy_tag, identifier}
use Rattle.judge.specs.Command.{code_of, page_of, need_for, is_unlisted, is_bare, is_change, descriptor_of, check_value_of}
use Rattle.judge.specs.Descriptor.{format, key_version, cap_method, algorithm, expiration, permissions, cap_tag, descriptor_type, descriptor_length, descriptor_id}
use Rattle.judge.specs.Faults.{wrong_format, wrong_method, wrong_algorithm, expired, lacks_bits, lacks_need, wrong_tag, wrong_descriptor}
use Rattle.judge.specs.Keys.{key_found, key_used, tag_for}
use Rattle.judge.specs.Seen.{Seen}
use Rattle.judge.specs.Judgement.{unit_tests, code_tests, length_tests, protocol_tests, bare_tests, form_tests, fact_tests, found_tests, value_tests, rules_for, skips_guard, credential_tests, guard_tests, page_tests, earlier_tests, later_tests, open_tests, open_reason}
use Rattle.judge.proofs.TestLaws.{NoneApply, none_first, none_append}
use Rattle.judge.specs.Checked.{Permits, FactsHold, Checked}

-- ---- no fault applies to what is right

format_right : (f : ℕ) → f ≡ 1 → wrong_format f ≡ false
unfolding wrong_format
format_right f e = rw (eq-eqb f 1 e)

method_right : (m : ℕ) → m ≡ 1 → wrong_method true m ≡ false
unfolding wrong_method
method_right m e = rw (eq-eqb m 1 e)

algorithm_right : (a : ℕ) → a ≡ 1 → wrong_algorithm true a ≡ false
unfolding wrong_algorithm
algorithm_right a e = rw (eq-eqb a 1 e)

both_off : (b : Bool) → both b false ≡ false
both_off true = refl
both_off false = refl

time_right : (e clock : ℕ) → (e ≡ 0) ⊎ (clock ≤ e) → expired e clock ≡ false
unfolding expired
time_right e clock (inl z) = rw (eq-eqb e 0 z)
time_right e clock (inr h) = rw (le-ltb e clock h) (both_off (not (eqb e 0)))

bits_right : (needed p : ℕ) → bits 8 min needed p ≡ needed → lacks_bits needed p ≡ false
unfolding lacks_bits
bits_right needed p e = rw (eq-eqb (bits 8 min needed p) needed e)

need_right : (n : Need) (p : ℕ) → Permits n p → lacks_need n p ≡ false
need_right Unknown p e = absurd e
need_right Open p e = refl
need_right (Bits needed) p e = bits_right needed p e
need_right (Master needed) p e = bits_right needed p e

tag_right : (t unit_tag : ℕ) → (t ≡ 0) ⊎ (t ≡ unit_tag) → wrong_tag t unit_tag ≡ false
unfolding wrong_tag
tag_right t unit_tag (inl z) = rw (eq-eqb t 0 z)
tag_right t unit_tag (inr e) = rw (eq-eqb t unit_tag e) (both_off (not (eqb t 0)))

descriptor_right : (type len : ℕ) (id unit_id : List ℕ) → type ≡ 1 → len ≡ 16 → id ≡ unit_id → wrong_descriptor type len id unit_id ≡ false
unfolding wrong_descriptor
descriptor_right type len id unit_id t l i = rw (eq-eqb type 1 t, eq-eqb len 16 l, i, same_refl unit_id)

-- 10 to 13
facts_right : (need : Need) (own d : List ℕ) (clock : ℕ) → FactsHold need own d clock → NoneApply (fact_tests need own d clock)
unfolding fact_tests
facts_right need own d clock f =
    let right = descriptor_right (descriptor_type d) (descriptor_length d) (descriptor_id d) (identifier own) in
    let t = right f.type_1 f.length_16 f.names_unit in (
      time_right (expiration d) clock f.unexpired,
      (need_right need (permissions d) f.permitted, (tag_right (cap_tag d) (policy_tag own) f.tagged, (t, tt))),
    )

-- ---- 1 to 3

unit_right : (u : ℕ) (state : UnitState) → u < 8 → state ≡ Used → NoneApply (unit_tests u state)
unfolding unit_tests
unit_right u state h e = rw (le-ltb 7 u (omega arith), e) (refl, (refl, tt))

-- what a row has, by its page or by its code alone, has a code that is listed
code_right : (c : List ℕ) → is_unlisted c ≡ false → NoneApply (code_tests c)
unfolding code_tests is_unlisted need_for
code_right c known =
    let p = either_false (eqb (length c) 0) (is_unknown (need_of (code_of c) (page_of c))) known in
    let k = listed_here (by_page (code_of c)) (is_unknown (need_of (code_of c) (page_of c))) p.1 in
    let l : listed (code_of c) ≡ true = sym (listed_by_need (code_of c) (page_of c)) ∙ k in
    (rw (p.0, l), tt)
  where
    listed_here : (b u : Bool) → u ≡ false → either b (not u) ≡ true
    listed_here true u e = refl
    listed_here false u e = rw e

length_right : (c : List ℕ) → legal_len (code_of c) (length c) ≡ true → NoneApply (length_tests c)
unfolding length_tests
length_right c e = (rw e, tt)

-- ---- 6 to 15, where CAPKEY rules

wrapped_not_bare : (c : List ℕ) → length c ≡ cdb_len (code_of c) + 78 → is_bare c ≡ false
unfolding is_bare
wrapped_not_bare c e = ne_eqb (length c) (cdb_len (code_of c)) (λ z. omega arith)

module _ (own keys c token : List ℕ) (clock : ℕ) (rules : rules_for own c ≡ true)
    (found : key_found keys (is_master (need_for c)) (is_change c) (key_version (descriptor_of c)) ≡ true)
    (checked : Checked own (key_used keys (is_master (need_for c)) (is_change c) (key_version (descriptor_of c))) c token clock) where
  abbrev d : List ℕ
  d = descriptor_of c

  bare_right : NoneApply (bare_tests (rules_for own c) c)
  unfolding bare_tests
  bare_right = (rw (wrapped_not_bare c checked.wrapped), tt)

  form_right : NoneApply (form_tests (rules_for own c) (descriptor_of c))
  unfolding form_tests
  form_right =
      let a = algorithm_right (algorithm d) checked.algorithm_1 in
      rw rules (format_right (format d) checked.format_1, (method_right (cap_method d) checked.capkey, (a, tt)))

  found_right : NoneApply (found_tests (rules_for own c) keys (is_master (need_for c)) (is_change c) (descriptor_of c))
  unfolding found_tests
  found_right = (rw (rules, found), tt)

  value_right : NoneApply (value_tests (rules_for own c) keys (is_master (need_for c)) (is_change c) (descriptor_of c) (check_value_of c) token)
  unfolding value_tests
  value_right =
      let tag = tag_for (key_used keys (is_master (need_for c)) (is_change c) (key_version d)) d token in
      (rw (rules, checked.verifies, same_refl tag), tt)

  credential_right : NoneApply (credential_tests own keys c clock)
  unfolding credential_tests
  credential_right =
      let fact = facts_right (need_for c) own d clock checked.facts in
      none_append (bare_tests (rules_for own c) c) _ bare_right
      (none_append (form_tests (rules_for own c) d) _ form_right (none_append (fact_tests (need_for c) own d clock) _ fact found_right))

  guard_right : NoneApply (guard_tests own keys c token clock)
  unfolding guard_tests
  guard_right =
      pick_holds NoneApply (skips_guard own c) _ _ tt (none_append (credential_tests own keys c clock) _ credential_right value_right)

-- ---- the whole list

pub accepted : (s : Seen) (c token : List ℕ) (clock : ℕ) → s.unit < 8 → s.state ≡ Used → legal_len (code_of c) (length c) ≡ true
    → NoneApply (protocol_tests c) → rules_for s.own c ≡ true
    → key_found s.keys (is_master (need_for c)) (is_change c) (key_version (descriptor_of c)) ≡ true
    → Checked s.own (key_used s.keys (is_master (need_for c)) (is_change c) (key_version (descriptor_of c))) c token clock
    → NoneApply (page_tests s.keys c)
    → open_reason s c token clock ≡ 0
unfolding open_reason open_tests earlier_tests later_tests
accepted s c token clock small used legal protocol rules found checked page =
    let units = unit_tests s.unit s.state in
    let guards = guard_tests s.own s.keys c token clock in
    let code = code_right c checked.known in
    let guard = guard_right s.own s.keys c token clock rules found checked in
    let earlier : NoneApply (earlier_tests s c) =
    none_append units _ (unit_right s.unit s.state small used) (none_append (code_tests c) _ code (length_right c legal)) in
    let later : NoneApply (later_tests s.own s.keys c token clock) =
    none_append (protocol_tests c) _ protocol (none_append guards (page_tests s.keys c) guard page) in
    none_first (earlier_tests s c ++ later_tests s.own s.keys c token clock) (none_append (earlier_tests s c) _ earlier later)

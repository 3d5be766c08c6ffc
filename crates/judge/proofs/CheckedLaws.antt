-- A command that nothing refuses has passed every check of its capability: the facts wherever 6 to 15 are not skipped, and all where CAPKEY
-- rules.
use Rattle.std.proofs.Math.Path.{◌≡◌, refl}
use Rattle.std.proofs.Common.{sym, inl, inr, arith}
use Rattle.std.specs.Prelude.{◌⊎◌, Bool, not, List, ℕ, ◌+◌, ◌≤◌, min, ltb}
use Rattle.std.proofs.Math.Bool.{true, false}
use Prim.{tt}
use Rattle.std.proofs.Math.Dec.{eqb}
use Rattle.std.proofs.Math.ListN.{length}
use borrow.Author.Tests.{eqb-true, ltb-false, not-false}
use Rattle.choice.specs.Choice.{pick, both}
use Rattle.choice.specs.ChoiceLaws.{either_false}
use Rattle.words.specs.Words.{bits}
use Rattle.wire.specs.Bytes.{same}
use Rattle.wire.proofs.SameLaws.{same_true}
use Rattle.model.specs.Rows.{is_open_row, is_master}
use Rattle.model.specs.Codes.{cdb_len, legal_len}
use Rattle.model.specs.declared.Need.{Need}
use Rattle.model.specs.declared.Need.TheVariants.{Unknown, Open, Bits, Master}
use Rattle.units.specs.Unit.{policy_tag, identifier}
use Rattle.judge.specs.Command.{code_of, need_for, is_bare, is_change, descriptor_of, check_value_of}
use Rattle.judge.specs.Descriptor.{format, key_version, cap_method, algorithm, expiration, permissions, cap_tag, descriptor_type, descriptor_length, descriptor_id}
use Rattle.judge.specs.Faults.{wrong_format, wrong_method, wrong_algorithm, expired, lacks_bits, lacks_need, wrong_tag, wrong_descriptor}
use Rattle.judge.specs.Keys.{key_found, key_used, tag_for}
use Rattle.judge.specs.Seen.{Seen}
use Rattle.judge.specs.Judgement.{bare_tests, form_tests, fact_tests, found_tests, value_tests, rules_for, skips_guard, credential_tests, guard_tests, open_reason}
use Rattle.judge.proofs.TestLaws.{NoneApply, append_none}
use Rattle.judge.proofs.JudgementLaws.{none_refuse, open_passed, ruled_guarded}
use Rattle.judge.specs.Checked.{Permits, FactsHold, Checked}

-- ---- each fault that does not apply, in numbers

format_passed : (f : ℕ) → wrong_format f ≡ false → f ≡ 1
unfolding wrong_format
format_passed f e = eqb-true f 1 (not-false (eqb f 1) e)

method_passed : (m : ℕ) → wrong_method true m ≡ false → m ≡ 1
unfolding wrong_method
method_passed m e = eqb-true m 1 (not-false (eqb m 1) e)

algorithm_passed : (a : ℕ) → wrong_algorithm true a ≡ false → a ≡ 1
unfolding wrong_algorithm
algorithm_passed a e = eqb-true a 1 (not-false (eqb a 1) e)

time_passed : (e clock : ℕ) → expired e clock ≡ false → (e ≡ 0) ⊎ (clock ≤ e)
unfolding expired
time_passed e clock h = go (eqb e 0) refl h
  where
    go : (z : Bool) → eqb e 0 ≡ z → both (not z) (ltb e clock) ≡ false → (e ≡ 0) ⊎ (clock ≤ e)
    go true q k = inl (eqb-true e 0 q)
    go false q k = inr (ltb-false e clock k)

bits_passed : (needed p : ℕ) → lacks_bits needed p ≡ false → bits 8 min needed p ≡ needed
unfolding lacks_bits
bits_passed needed p e = eqb-true (bits 8 min needed p) needed (not-false _ e)

need_passed : (n : Need) (p : ℕ) → lacks_need n p ≡ false → Permits n p
need_passed Unknown p e = let z : ◌≡◌ {A = ℕ} 0 1 = cc in omega arith
need_passed Open p e = tt
need_passed (Bits needed) p e = bits_passed needed p e
need_passed (Master needed) p e = bits_passed needed p e

tag_passed : (t unit_tag : ℕ) → wrong_tag t unit_tag ≡ false → (t ≡ 0) ⊎ (t ≡ unit_tag)
unfolding wrong_tag
tag_passed t unit_tag e = go (eqb t 0) (eqb t unit_tag) refl refl e
  where
    go : (a b : Bool) → eqb t 0 ≡ a → eqb t unit_tag ≡ b → both (not a) (not b) ≡ false → (t ≡ 0) ⊎ (t ≡ unit_tag)
    go true b p q k = inl (eqb-true t 0 p)
    go false true p q k = inr (eqb-true t unit_tag q)
    go false false p q k = let z : ◌≡◌ {A = ℕ} 0 1 = cc in absurd (omega arith)

descriptor_passed : (type len : ℕ) (id unit_id : List ℕ) → wrong_descriptor type len id unit_id ≡ false
    → (type ≡ 1) × (len ≡ 16) × (id ≡ unit_id)
unfolding wrong_descriptor
descriptor_passed type len id unit_id e =
    let p = either_false (not (eqb type 1)) _ e in
    let q = either_false (not (eqb len 16)) (not (same id unit_id)) p.1 in
    (eqb-true type 1 (not-false _ p.0), eqb-true len 16 (not-false _ q.0), same_true id unit_id (not-false _ q.1))

-- 10 to 13
facts_passed : (need : Need) (own d : List ℕ) (clock : ℕ) → NoneApply (fact_tests need own d clock) → FactsHold need own d clock
unfolding fact_tests
facts_passed need own d clock n =
    let t = descriptor_passed (descriptor_type d) (descriptor_length d) (descriptor_id d) (identifier own) n.1.1.1.0 in
    record {
      unexpired = time_passed (expiration d) clock n.0;
      permitted = need_passed need (permissions d) n.1.0;
      tagged = tag_passed (cap_tag d) (policy_tag own) n.1.1.0;
      type_1 = t.0;
      length_16 = t.1;
      names_unit = t.2;
    }

-- ---- a command that does not skip 6 to 15

module _ (s : Seen) (c token : List ℕ) (clock : ℕ) (none : open_reason s c token clock ≡ 0) (judged : skips_guard s.own c ≡ false) where
  abbrev d : List ℕ
  d = descriptor_of c

  abbrev rules : Bool
  rules = rules_for s.own c

  -- no test of its credential applies
  record Credential : Type 0 where
    pub bare : NoneApply (bare_tests (rules_for s.own c) c)
    pub form : NoneApply (form_tests (rules_for s.own c) (descriptor_of c))
    pub fact : NoneApply (fact_tests (need_for c) s.own (descriptor_of c) clock)
    pub found : NoneApply (found_tests (rules_for s.own c) s.keys (is_master (need_for c)) (is_change c) (descriptor_of c))
    pub value : NoneApply (value_tests (rules_for s.own c) s.keys (is_master (need_for c)) (is_change c) (descriptor_of c) (check_value_of c) token)

  credential : Credential
  unfolding guard_tests credential_tests
  credential =
      let all = rw judged at (none_refuse s c token clock none).guard in
      let found = found_tests rules s.keys (is_master (need_for c)) (is_change c) d in
      let p = append_none (credential_tests s.own s.keys c clock) _ all in
      let q = append_none (bare_tests rules c) _ p.0 in
      let r = append_none (form_tests rules d) _ q.1 in
      let t = append_none (fact_tests (need_for c) s.own d clock) found r.1 in
      record { bare = q.0; form = r.0; fact = t.0; found = t.1; value = p.1 }

  -- 10 to 13 have been passed
  pub guarded_facts : FactsHold (need_for c) s.own (descriptor_of c) clock
  guarded_facts = facts_passed (need_for c) s.own (descriptor_of c) clock credential.fact

-- ---- a guarded command: where CAPKEY rules, and the row is not open

module _ (s : Seen) (c token : List ℕ) (clock : ℕ) (none : open_reason s c token clock ≡ 0) (rules : rules_for s.own c ≡ true)
    (guarded : is_open_row (need_for c) ≡ false) where
  passed : Credential s c token clock none (ruled_guarded s.own c rules guarded)
  passed = credential s c token clock none (ruled_guarded s.own c rules guarded)

  -- it is wrapped: no command but an open row goes without a capability
  pub guarded_wrapped : is_bare c ≡ false
  unfolding bare_tests
  guarded_wrapped = bare_false (is_bare c) (rw rules at passed.bare.0)
    where
      bare_false : (b : Bool) → both b true ≡ false → b ≡ false
      bare_false true e = e
      bare_false false e = refl

  forms : (format (descriptor_of c) ≡ 1) × (cap_method (descriptor_of c) ≡ 1) × (algorithm (descriptor_of c) ≡ 1)
  unfolding form_tests
  forms =
      let n = rw rules at passed.form in
      (format_passed (format (descriptor_of c)) n.0, method_passed (cap_method (descriptor_of c)) n.1.0, algorithm_passed (algorithm (descriptor_of c)) n.1.1.0)

  -- a key was found
  pub guarded_key : key_found s.keys (is_master (need_for c)) (is_change c) (key_version (descriptor_of c)) ≡ true
  unfolding found_tests
  guarded_key = not-false _ (rw rules at passed.found.0)

  value_same : tag_for (key_used s.keys (is_master (need_for c)) (is_change c) (key_version (descriptor_of c))) (descriptor_of c) token ≡ check_value_of c
  unfolding value_tests
  value_same = same_true _ _ (not-false _ (rw rules at passed.value.0))

  long : length c ≡ cdb_len (code_of c) + 78
  unfolding legal_len is_bare
  long =
      exact (eqb (cdb_len (code_of c)) 0) (eqb (length c) (cdb_len (code_of c) + 78)) refl (rw guarded_wrapped at (open_passed s c token clock none).legal)
    where
      exact : (z w : Bool) → eqb (length c) (cdb_len (code_of c) + 78) ≡ w → pick z false w ≡ true → length c ≡ cdb_len (code_of c) + 78
      exact true w e k = let z : ◌≡◌ {A = ℕ} 0 1 = cc in absurd (omega arith)
      exact false true e k = eqb-true (length c) (cdb_len (code_of c) + 78) e
      exact false false e k = let z : ◌≡◌ {A = ℕ} 0 1 = cc in absurd (omega arith)

  -- and under it every check was passed
  pub guarded_checked : Checked s.own (key_used s.keys (is_master (need_for c)) (is_change c) (key_version (descriptor_of c))) c token clock
  guarded_checked =
      record {
        known = (open_passed s c token clock none).known;
        wrapped = long;
        format_1 = forms.0;
        capkey = forms.1;
        algorithm_1 = forms.2;
        facts = guarded_facts s c token clock none (ruled_guarded s.own c rules guarded);
        verifies = sym value_same;
      }

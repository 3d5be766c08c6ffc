-- Laws of the judgement: every test of it has a reason; what it tells where nothing is refused; that what no row has is refused; and how it
-- goes on from group to group.
use Rattle.std.proofs.Math.Path.{◌≡◌, refl, sym, ap}
use Rattle.std.proofs.Common.{◌∙◌, arith, le-ltb, ltb-false, eq-eqb, eqb-true}
use Rattle.std.specs.Prelude.{Bool, not, ℕ, ◌+◌, ◌-◌, ◌/◌, ◌%◌, ◌^◌, ◌≤◌, ◌<◌, eqb, ltb, length, get_or, take, drop}
use Rattle.std.proofs.Math.Bool.{true, false}
use mathlib.Core.List.{List, ◌++◌, append_assoc}
use Rattle.std.proofs.lemmas.Bool.{eqb-false, not-false, not-true}
use Rattle.choice.specs.Choice.{pick, both, either}
use Rattle.choice.specs.ChoiceLaws.{either_false, either_right, pick_holds, both_true}
use Rattle.model.specs.Rows.{listed, by_page, need_of, is_unknown, is_open_row, is_master}
use Rattle.model.proofs.RowLaws.{listed_by_need}
use Rattle.model.specs.Codes.{cdb_len, legal_len}
use Rattle.model.proofs.CodeLaws.{cdb_small}
use Rattle.units.specs.declared.UnitState.{UnitState}
use Rattle.units.specs.declared.UnitState.TheVariants.{Unused, Used, Unsound}
use Rattle.units.specs.Unit.{method}
use Rattle.wire.specs.Bytes.{same, part}
use Rattle.wire.proofs.PatchLaws.{lent_part}
use Rattle.judge.specs.declared.facts.Facts.{Facts}
use Rattle.judge.specs.Command.{code_of, page_of, is_bare, is_change, need_for, is_unlisted, descriptor_of, check_value_of, facts_of}
use Rattle.judge.specs.Descriptor.{key_version}
use Rattle.judge.specs.Keys.{key_found, key_used, tag_for}
use Rattle.judge.specs.Seen.{Seen}
use Rattle.judge.specs.Judgement.{Test, first, is_unused, is_unsound, unit_tests, code_tests, length_tests, wrong_protocol, protocol_tests, rules_for, skips_guard, bare_tests, form_tests, fact_tests, found_tests, value_tests, credential_tests, guard_tests, page_tests, earlier_tests, later_tests, open_tests, open_reason, check_judged}
use Rattle.judge.specs.Order.{or_else, wrapped_tests}
use Rattle.judge.proofs.TestLaws.{named, named_append, first_append, first_three, else_first, second_asked, second_left, NoneApply, first_none, append_none}

-- ---- every test has a reason

pub earlier_named : (s : Seen) (c : List ℕ) → named (earlier_tests s c) ≡ true
unfolding earlier_tests unit_tests code_tests length_tests
earlier_named s c = refl

module _ (own keys c token : List ℕ) (clock : ℕ) where
  credential_named : named (credential_tests own keys c clock) ≡ true
  unfolding credential_tests bare_tests form_tests fact_tests found_tests
  credential_named = refl

  value_named : (rules master change : Bool) (d value : List ℕ) → named (value_tests rules keys master change d value token) ≡ true
  unfolding value_tests
  value_named rules master change d value = refl

  pub guard_named : named (guard_tests own keys c token clock) ≡ true
  unfolding guard_tests
  guard_named =
      pick_holds (λ (ts : List Test). named ts ≡ true) (skips_guard own c) _ _ refl
      (named_append (credential_tests own keys c clock) _ credential_named (value_named _ _ _ _ _))

  pub protocol_named : named (protocol_tests c) ≡ true
  unfolding protocol_tests
  protocol_named = refl

  later_named : named (later_tests own keys c token clock) ≡ true
  unfolding later_tests page_tests
  later_named = named_append (protocol_tests c) _ protocol_named (named_append (guard_tests own keys c token clock) _ guard_named refl)

pub open_named : (s : Seen) (c token : List ℕ) (clock : ℕ) → named (open_tests s c token clock) ≡ true
unfolding open_tests
open_named s c token clock = named_append (earlier_tests s c) _ (earlier_named s c) (later_named s.own s.keys c token clock)

-- ---- where nothing refuses, no test of any group applies

pub record NoneRefuse (s : Seen) (c token : List ℕ) (clock : ℕ) : Type 0 where
  pub unit : NoneApply (unit_tests s.unit s.state)
  pub code : NoneApply (code_tests c)
  pub sized : NoneApply (length_tests c)
  pub protocol : NoneApply (protocol_tests c)
  pub guard : NoneApply (guard_tests s.own s.keys c token clock)
  pub page : NoneApply (page_tests s.keys c)

pub none_refuse : (s : Seen) (c token : List ℕ) (clock : ℕ) → open_reason s c token clock ≡ 0 → NoneRefuse s c token clock
unfolding open_reason open_tests earlier_tests later_tests
none_refuse s c token clock e =
    let later = later_tests s.own s.keys c token clock in
    let all = append_none (earlier_tests s c) later (first_none (earlier_tests s c ++ later) (open_named s c token clock) e) in
    let p = append_none (unit_tests s.unit s.state) (code_tests c ++ length_tests c) all.0 in
    let q = append_none (code_tests c) (length_tests c) p.1 in
    let r = append_none (protocol_tests c) (guard_tests s.own s.keys c token clock ++ page_tests s.keys c) all.1 in
    let t = append_none (guard_tests s.own s.keys c token clock) (page_tests s.keys c) r.1 in
    record { unit = p.0; code = q.0; sized = q.1; protocol = r.0; guard = t.0; page = t.1 }

-- ---- what that tells of unit and command

used_state : (s : UnitState) → is_unused s ≡ false → is_unsound s ≡ false → s ≡ Used
used_state Unused a b = cc
used_state Used a b = refl
used_state Unsound a b = cc

pub record Passed (s : Seen) (c : List ℕ) : Type 0 where
  pub small : s.unit < 8
  pub used : s.state ≡ Used
  pub known : is_unlisted c ≡ false
  pub legal : legal_len (code_of c) (length c) ≡ true

pub unit_passed : (u : ℕ) (state : UnitState) → NoneApply (unit_tests u state) → (u < 8) × (state ≡ Used)
unfolding unit_tests
unit_passed u state n =
    let r = either_false (ltb 7 u) (is_unused state) n.0 in
    let h : u ≤ 7 = ltb-false 7 u r.0 in
    (omega arith, used_state state r.1 n.1.0)

pub length_passed : (c : List ℕ) → NoneApply (length_tests c) → legal_len (code_of c) (length c) ≡ true
unfolding length_tests
length_passed c n = not-false (legal_len (code_of c) (length c)) n.0

not_true_false : (x : Bool) → not x ≡ true → x ≡ false
not_true_false true q = sym q
not_true_false false q = refl

known_here : (b t u v : Bool) → either b (not u) ≡ true → both b (either t (either u v)) ≡ false → u ≡ false
known_here true t u v h k = (either_false u v (either_false t (either u v) k).1).0
known_here false t u v h k = not_true_false u h

-- no entry means unknown, and unknown is turned away: a command that is empty, or whose code or page no row has, is refused by 2 or 4
pub unlisted_refused : (c : List ℕ) → NoneApply (code_tests c) → NoneApply (protocol_tests c) → is_unlisted c ≡ false
unfolding code_tests protocol_tests wrong_protocol is_unlisted need_for
unlisted_refused c code protocol =
    let p = either_false (eqb (length c) 0) (not (listed (code_of c))) code.0 in
    let known = listed_by_need (code_of c) (page_of c) ∙ not-false (listed (code_of c)) p.1 in
    rw p.0 (known_here (by_page (code_of c)) (not (eqb (get_or c 1 0) 0x07)) (is_unknown (need_of (code_of c) (page_of c))) (eqb (get_or c 4 0 / 2 ^ 7 % 2) 1) known protocol.0)

pub open_passed : (s : Seen) (c token : List ℕ) (clock : ℕ) → open_reason s c token clock ≡ 0 → Passed s c
open_passed s c token clock e =
    let n = none_refuse s c token clock e in
    let u = unit_passed s.unit s.state n.unit in
    record { small = u.0; used = u.1; known = unlisted_refused c n.code n.protocol; legal = length_passed c n.sized }

-- on a used, sound unit: with reason 2 where the command is empty or its code unlisted, at any length
pub unknown_code : (s : Seen) (c token : List ℕ) (clock : ℕ) → s.unit ≤ 7 → s.state ≡ Used
    → either (eqb (length c) 0) (not (listed (code_of c))) ≡ true → open_reason s c token clock ≡ 2
unfolding open_reason open_tests earlier_tests unit_tests code_tests
unknown_code s c token clock h e k = rw (le-ltb 7 s.unit h, e, k)

-- and with reason 4 where its code goes by page and the page is unlisted
pub unlisted_page : (s : Seen) (c token : List ℕ) (clock : ℕ) → s.unit ≤ 7 → s.state ≡ Used
    → either (eqb (length c) 0) (not (listed (code_of c))) ≡ false
    → legal_len (code_of c) (length c) ≡ true → by_page (code_of c) ≡ true → is_unknown (need_for c) ≡ true → open_reason s c token clock ≡ 4
unfolding open_reason open_tests earlier_tests later_tests unit_tests code_tests length_tests protocol_tests wrong_protocol
unlisted_page s c token clock h e k l b u =
    rw (le-ltb 7 s.unit h, e, k, l, b, u, either_right (not (eqb (get_or c 1 0) 0x07)) true refl)

-- ---- where CAPKEY rules, and whether 15 was judged

pub capkey_rules : (own c : List ℕ) → method own ≡ 1 → rules_for own c ≡ true
unfolding rules_for
capkey_rules own c e = rw (eq-eqb (method own) 1 e)

pub master_rules : (own c : List ℕ) → is_master (need_for c) ≡ true → rules_for own c ≡ true
unfolding rules_for
master_rules own c e = either_right (eqb (method own) 1) (is_master (need_for c)) e

-- where CAPKEY rules, only open rows skip 6 to 15
pub ruled_guarded : (own c : List ℕ) → rules_for own c ≡ true → is_open_row (need_for c) ≡ false → skips_guard own c ≡ false
unfolding skips_guard
ruled_guarded own c rules guarded = rw (guarded, rules) (bare_off (is_bare c))
  where
    bare_off : (b : Bool) → both b false ≡ false
    bare_off true = refl
    bare_off false = refl

-- nor does a wrapped command of a row that is not open, on a unit of either method
pub wrapped_guarded : (own c : List ℕ) → is_bare c ≡ false → is_open_row (need_for c) ≡ false → skips_guard own c ≡ false
unfolding skips_guard
wrapped_guarded own c wrapped guarded = rw (guarded, wrapped)

-- a bare command that doesn't skip 6 to 15: CAPKEY rules
bare_ruled : (o r : Bool) → either o (both true (not r)) ≡ false → r ≡ true
bare_ruled true r e = cc
bare_ruled false true e = refl
bare_ruled false false e = sym e

-- ---- whether 15 is judged: where `check_judged` says so, nothing before it refuses, and where not, the token has no part in the reason

-- whatever stands behind tests that refuse
behind_refusal : (xs ys zs : List Test) → named xs ≡ true → (first xs ≡ 0 → ⊥) → first (xs ++ ys) ≡ first (xs ++ zs)
behind_refusal xs ys zs h n =
    first_append xs ys h ∙ sym (else_first (first xs) (first ys) n) ∙ else_first (first xs) (first zs) n ∙ sym (first_append xs zs h)

module _ (s : Seen) (c : List ℕ) (clock : ℕ) (t₁ t₂ : List ℕ) where
  abbrev before : List Test
  before = earlier_tests s c ++ (protocol_tests c ++ credential_tests s.own s.keys c clock)

  value : List ℕ → List Test
  value token = value_tests (rules_for s.own c) s.keys (is_master (need_for c)) (is_change c) (descriptor_of c) (check_value_of c) token

  -- the list, where 6 to 15 are not skipped
  whole_list : (token : List ℕ) → skips_guard s.own c ≡ false
      → open_tests s c token clock ≡ before ++ (value token ++ page_tests s.keys c)
  unfolding open_tests later_tests guard_tests value
  whole_list token e = rw e (simp append_assoc)

  skipped : skips_guard s.own c ≡ true → open_tests s c t₁ clock ≡ open_tests s c t₂ clock
  unfolding open_tests later_tests guard_tests
  skipped e = rw e

  before_named : named before ≡ true
  before_named =
      named_append (earlier_tests s c) _ (earlier_named s c)
      (named_append (protocol_tests c) _ (protocol_named s.own s.keys c t₁ clock) (credential_named s.own s.keys c t₁ clock))

  by_rules : (r b : Bool) → rules_for s.own c ≡ r → eqb (first before) 0 ≡ b → both r b ≡ false → skips_guard s.own c ≡ false
      → open_reason s c t₁ clock ≡ open_reason s c t₂ clock
  unfolding open_reason value value_tests
  by_rules false b er eb e k = ap first (whole_list t₁ k ∙ rw er refl ∙ sym (whole_list t₂ k))
  by_rules true true er eb e k = let z : ◌≡◌ {A = ℕ} 0 1 = cc in absurd (omega arith)
  by_rules true false er eb e k =
      ap first (whole_list t₁ k) ∙ behind_refusal before _ _ before_named (eqb-false (first before) 0 eb) ∙ ap first (sym (whole_list t₂ k))

  pub judged_value : check_judged s c clock ≡ true
      → open_reason s c t₁ clock ≡ first (value_tests (rules_for s.own c) s.keys (is_master (need_for c)) (is_change c) (descriptor_of c) (check_value_of c) t₁ ++ page_tests s.keys c)
  unfolding check_judged open_reason value
  judged_value on =
      let p = both_true _ (eqb (first before) 0) on in
      let q = both_true (rules_for s.own c) (not (skips_guard s.own c)) p.0 in
      ap first (whole_list t₁ (not-true (skips_guard s.own c) q.1))
      ∙ sym (second_asked before _ before_named 0 (sym (eqb-true (first before) 0 p.1)) refl _ refl)

  pub unjudged_token : check_judged s c clock ≡ false → open_reason s c t₁ clock ≡ open_reason s c t₂ clock
  unfolding check_judged open_reason
  unjudged_token off = by_skip (skips_guard s.own c) refl off
    where
      by_skip : (k : Bool) → skips_guard s.own c ≡ k → both (both (rules_for s.own c) (not k)) (eqb (first before) 0) ≡ false
          → open_reason s c t₁ clock ≡ open_reason s c t₂ clock
      by_skip true e h = ap first (skipped e)
      by_skip false e h =
          by_rules (rules_for s.own c) (eqb (first before) 0) refl refl (ruled (rules_for s.own c) (eqb (first before) 0) h) e
        where
          ruled : (r b : Bool) → both (both r true) b ≡ false → both r b ≡ false
          ruled true b q = q
          ruled false b q = q

-- ---- how the code goes from group to group

module _ (s : Seen) (c : List ℕ) where
  pub earlier_order : (e x ru rc rl : ℕ) → ru ≡ first (unit_tests s.unit s.state) → rc ≡ first (code_tests c)
      → rl ≡ first (length_tests c)
      → x ≡ or_else rc rl → e ≡ or_else ru x → e ≡ first (earlier_tests s c)
  unfolding earlier_tests unit_tests code_tests
  earlier_order e x ru rc rl hu hc hl hx he =
      let us = unit_tests s.unit s.state in
      he ∙ rw (hx, hu, hc, hl) (sym (first_append us (code_tests c ++ length_tests c) refl ∙ ap (or_else (first us)) (first_append (code_tests c) (length_tests c) refl)))

  pub earlier_passed : (e : ℕ) → e ≡ first (earlier_tests s c) → e ≡ 0
      → (s.unit < 8) × (s.state ≡ Used) × (legal_len (code_of c) (length c) ≡ true)
  unfolding earlier_tests
  earlier_passed e he z =
      let all = append_none (unit_tests s.unit s.state) (code_tests c ++ length_tests c) (first_none (earlier_tests s c) (earlier_named s c) (sym he ∙ z)) in
      let u = unit_passed s.unit s.state all.0 in
      (u.0, u.1, length_passed c (append_none (code_tests c) (length_tests c) all.1).1)

  module _ (token : List ℕ) (clock e : ℕ) (he : e ≡ first (earlier_tests s c)) where
    pub open_goes : e ≡ 0 → (r : ℕ) → r ≡ first (later_tests s.own s.keys c token clock) → r ≡ open_reason s c token clock
    unfolding open_reason open_tests
    open_goes z r h = second_asked (earlier_tests s c) _ (earlier_named s c) e he z r h

    pub open_stops : (e ≡ 0 → ⊥) → e ≡ open_reason s c token clock
    unfolding open_reason open_tests
    open_stops n = second_left (earlier_tests s c) _ (earlier_named s c) e he n

module _ (own keys c token : List ℕ) (clock : ℕ) where
  module _ (e : ℕ) (he : e ≡ first (protocol_tests c)) where
    pub later_goes : e ≡ 0 → (r g p : ℕ) → g ≡ first (guard_tests own keys c token clock) → p ≡ first (page_tests keys c) → r ≡ or_else g p
        → r ≡ first (later_tests own keys c token clock)
    unfolding later_tests
    later_goes z r g p hg hp hr =
        second_asked (protocol_tests c) _ (protocol_named own keys c token clock) e he z r
        (hr ∙ rw (hg, hp) (sym (first_append (guard_tests own keys c token clock) (page_tests keys c) (guard_named own keys c token clock))))

    pub later_stops : (e ≡ 0 → ⊥) → e ≡ first (later_tests own keys c token clock)
    unfolding later_tests
    later_stops n = second_left (protocol_tests c) _ (protocol_named own keys c token clock) e he n

  pub guard_skipped : skips_guard own c ≡ true → 0 ≡ first (guard_tests own keys c token clock)
  unfolding guard_tests
  guard_skipped e = rw e

  module _ (guarded : skips_guard own c ≡ false) where
    pub guard_bare : is_bare c ≡ true → 6 ≡ first (guard_tests own keys c token clock)
    unfolding guard_tests credential_tests bare_tests skips_guard
    guard_bare b = rw (guarded, b, bare_ruled (is_open_row (need_for c)) (rules_for own c) (rw b at guarded))

    pub guard_wrapped : is_bare c ≡ false → (r : ℕ) → r ≡ first (wrapped_tests own keys c token clock)
        → r ≡ first (guard_tests own keys c token clock)
    unfolding guard_tests credential_tests bare_tests wrapped_tests form_tests fact_tests found_tests value_tests
    guard_wrapped b r h = rw (guarded, b) h

  module _ (rules : Bool) (er : rules ≡ rules_for own c) (f : Facts) (ef : f ≡ facts_of c) (d : List ℕ) (ed : d ≡ descriptor_of c)
      (e rf rt : ℕ)
      (hf : rf ≡ first (form_tests rules d)) (ht : rt ≡ first (fact_tests f.need own d clock)) (he : e ≡ or_else rf rt) where
    wrapped_order : (ts : List Test)
        → first (form_tests (rules_for own c) (descriptor_of c) ++ (fact_tests (need_for c) own (descriptor_of c) clock ++ ts)) ≡ or_else e (first ts)
    unfolding form_tests fact_tests
    wrapped_order ts =
        let form = form_tests (rules_for own c) (descriptor_of c) in
        let fact = fact_tests (need_for c) own (descriptor_of c) clock in
        let kf : first form ≡ rf = sym (rw (er, ed) at hf) in
        let kt : first fact ≡ rt = sym (rw (ef, ed) at ht) in
        let both-reasons : or_else (first form) (first fact) ≡ e = rw (kf, kt) (sym he) in
        first_three form fact ts refl refl ∙ ap (λ (x : ℕ). or_else x (first ts)) both-reasons

    pub wrapped_goes : e ≡ 0 → (v : List ℕ) → v ≡ check_value_of c → (r : ℕ)
        → r ≡ first (found_tests rules keys (is_master (need_for c)) (is_change c) d ++ value_tests rules keys (is_master (need_for c)) (is_change c) d v token)
        → r ≡ first (wrapped_tests own keys c token clock)
    unfolding wrapped_tests
    wrapped_goes z v ev r h = rw (er, ed, ev) at h ∙ sym (wrapped_order _ ∙ rw z)

    pub wrapped_stops : (e ≡ 0 → ⊥) → e ≡ first (wrapped_tests own keys c token clock)
    unfolding wrapped_tests
    wrapped_stops n = else_first e _ n ∙ sym (wrapped_order _)

-- are 6 to 15 skipped? As the code asks
pub skips_is : (own c : List ℕ) (o r b a s : Bool) → o ≡ is_open_row (need_for c) → r ≡ rules_for own c → b ≡ is_bare c → a ≡ both b (not r)
    → s ≡ either o a
    → s ≡ skips_guard own c
unfolding skips_guard
skips_is own c o r b a s ho hr hb ha hs = rw (hs, ha, ho, hr, hb)

-- the descriptor and the check value where the code lends them
pub descriptor_lent : (c : List ℕ) (a : ℕ) → a ≡ cdb_len (code_of c) → take (a + 58 - a) (drop a c) ≡ descriptor_of c
unfolding descriptor_of
descriptor_lent c a e = lent_part c a 58 ∙ ap (λ (n : ℕ). part n 58 c) e

pub value_lent : (c : List ℕ) (a : ℕ) → a ≡ cdb_len (code_of c) → part (a + 58) 20 c ≡ check_value_of c
unfolding check_value_of
value_lent c a e = ap (λ (n : ℕ). part (n + 58) 20 c) e

-- a wrapped command has its 78 bytes behind the CDB
pub wrapped_length : (c : List ℕ) → legal_len (code_of c) (length c) ≡ true → is_bare c ≡ false → cdb_len (code_of c) + 78 ≤ length c
unfolding legal_len is_bare
wrapped_length c h b = by_cases (eqb (cdb_len (code_of c)) 0) (eqb (length c) (cdb_len (code_of c) + 78)) refl (rw b at h)
  where
    by_cases : (z w : Bool) → eqb (length c) (cdb_len (code_of c) + 78) ≡ w → pick z false w ≡ true → cdb_len (code_of c) + 78 ≤ length c
    by_cases true w e k = let z : ◌≡◌ {A = ℕ} 0 1 = cc in absurd (omega arith)
    by_cases false true e k = let q = eqb-true (length c) (cdb_len (code_of c) + 78) e in omega arith
    by_cases false false e k = let z : ◌≡◌ {A = ℕ} 0 1 = cc in absurd (omega arith)

-- ---- 14 and 15: nothing where CAPKEY doesn't rule, 14 where no key is found, else by the value

module _ (keys d value token : List ℕ) (m n mm nn : Bool) (em : mm ≡ m) (en : nn ≡ n) (rules : Bool) where
  pub keys_unruled : rules ≡ false → 0 ≡ first (found_tests rules keys m n d ++ value_tests rules keys m n d value token)
  unfolding found_tests value_tests
  keys_unruled f = rw f

  module _ (t : rules ≡ true) (x : ℕ) (ex : x ≡ get_or d 0 0) (found : Bool) (ef : found ≡ key_found keys mm nn (x % 16)) where
    pub keys_lacking : found ≡ false → 14 ≡ first (found_tests rules keys m n d ++ value_tests rules keys m n d value token)
    unfolding found_tests key_version
    keys_lacking f = rw (t, ← ex, ← em, ← en, ← ef, f)

    pub keys_judged : found ≡ true → (key : List ℕ) → key ≡ key_used keys mm nn (x % 16) → (wrong : Bool)
        → wrong ≡ not (same (tag_for key d token) value)
        → (r : ℕ) → r ≡ pick wrong 15 0 → r ≡ first (found_tests rules keys m n d ++ value_tests rules keys m n d value token)
    unfolding found_tests value_tests key_version
    keys_judged g key ek wrong ew r er = rw (t, ← ex, ← em, ← en, ← ef, g, ← ek, ← ew) er

-- where the descriptor of a wrapped command stands
pub descriptor_fits : (c : List ℕ) (f : Facts) (a : ℕ) → f ≡ facts_of c → a ≡ cdb_len f.code → cdb_len (code_of c) + 78 ≤ length c
    → (a ≡ cdb_len (code_of c)) × (a < 100) × (a + 78 ≤ length c)
descriptor_fits c f a ef ea h =
    let e : a ≡ cdb_len (code_of c) = ea ∙ ap (λ (x : Facts). cdb_len x.code) ef in
    let s = cdb_small (code_of c) in
    (e, omega arith, omega arith)

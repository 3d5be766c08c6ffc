-- The line engineer's case, by name: what holds at any step of any run from sound tables. A step is an open, or the close of a parked
-- command, whatever held when that was opened, that was not refused for its form; x is the command that it is about. Refused means CHECK
-- CONDITION: so it is neither GOOD, nor parked, nor told that the task set is full.
use Rattle.std.specs.Prelude.{◌≡◌, refl, Bool, true, false, List, ℕ, ◌≤◌, ◌<◌}
use Rattle.std.proofs.Common.{sym, ap, ◌∙◌, subst, ⊎_elim, arith}
use Rattle.std.proofs.Math.Option.{Option, none, some}
use Rattle.model.specs.Rows.{is_open_row}
use Rattle.model.specs.Answers.{is_good, is_final, is_refused, is_malformed}
use Rattle.model.proofs.AnswerLaws.{final_refused}
use Rattle.model.specs.declared.Answer.{Answer}
use Rattle.units.specs.Unit.{unit_at, policy_tag}
use Rattle.judge.specs.Command.{need_for, is_unlisted, descriptor_of, check_value_of}
use Rattle.judge.specs.Descriptor.{expiration, cap_tag}
use Rattle.judge.specs.Keys.{tag_for}
use Rattle.judge.specs.Seen.{seen}
use Rattle.judge.specs.Judgement.{rules_for, skips_guard, open_reason}
use Rattle.judge.proofs.JudgementLaws.{open_passed}
use Rattle.judge.specs.Checked.{FactsHold}
use Rattle.judge.proofs.CheckedLaws.{guarded_facts}
use Rattle.calls.specs.Outcome.{Tables}
use Rattle.calls.specs.Whole.{Asked, whole}
use Rattle.runs.specs.Run.{Call, is_command, Event, Meets, Ran, SoundTables}
use Rattle.runs.specs.Ledger.{ledger_of, starts, command_of, sent_by, clock_of}
use Rattle.runs.specs.History.{keys_before, key_for, CheckedBy}
use Rattle.runs.proofs.GoodChecked.{final_answers, good_passes, ruled_checked}
use Rattle.runs.proofs.EachStep.{waiting_passes}

none_some : (key : List ℕ) → ◌≡◌ {A = Option (List ℕ)} none (some key) → ⊥
none_some key e = let z : ◌≡◌ {A = ℕ} 0 1 = cc in omega arith

some_same : {A : Type 0} (p q : A) → some p ≡ some q → p ≡ q
some_same p q e = cc

-- the step is an open or a close that was not refused for its form, and x its command
module _ (t : Tables) (es : List Event) (m : Tables) (sound : SoundTables t) (ran : Ran t es m) (k : Call) (a : Answer) (r : List ℕ)
    (n : Tables)
    (meets : Meets m k a r n) (command : is_command k ≡ true) (formed : is_malformed a ≡ false) (x : Asked)
    (about : command_of (ledger_of (starts t.slots) es) k ≡ some x) where
  abbrev pub Refusing : Type 0
  Refusing = open_reason (seen m.units x.unit) x.command x.token (clock_of k) ≡ 0 → ⊥

  -- refused, and neither GOOD nor parked: what is GOOD or waits is refused for nothing
  pub refused_unless : Refusing → is_refused a ≡ true
  refused_unless f = by_final (is_final a) refl
    where
      by_final : (b : Bool) → is_final a ≡ b → is_refused a ≡ true
      by_final false e = absurd (f (waiting_passes t es m sound ran k a r n meets x command about e formed))
      by_final true e =
          final_refused a e
          (λ g. let w = final_answers t es m sound ran k a r n meets command e in
          let same = some_same w.what x (sym w.about ∙ about) in
          let whole_is = subst (λ (y : Asked). (whole m.units y (sent_by k) (clock_of k)).answer ≡ a) same w.as_whole in
          f (good_passes m.units x (sent_by k) (clock_of k) (ap is_good whole_is ∙ g)))

  -- a command that no row has, by its code or its page, and an empty one never runs
  pub unknown_never : is_unlisted x.command ≡ true → is_refused a ≡ true
  unknown_never e =
      refused_unless
      (λ z. let p = (open_passed (seen m.units x.unit) x.command x.token (clock_of k) z).known in
      let q : true ≡ false = sym e ∙ p in
      let o : ◌≡◌ {A = ℕ} 0 1 = cc in
      omega arith)

  -- ---- a command that does not skip 6 to 15 is judged by what stands when its data come: that is every command but open rows, and bare
  -- ones on a NOSEC unit that are no master rows

  module _ (judged : skips_guard (unit_at x.unit m.units) x.command ≡ false) where
    facts : open_reason (seen m.units x.unit) x.command x.token (clock_of k) ≡ 0
        → FactsHold (need_for x.command) (unit_at x.unit m.units) (descriptor_of x.command) (clock_of k)
    facts z = guarded_facts (seen m.units x.unit) x.command x.token (clock_of k) z judged

    -- its capability has expired
    pub expired_refused : (expiration (descriptor_of x.command) ≡ 0 → ⊥) → expiration (descriptor_of x.command) < clock_of k
        → is_refused a ≡ true
    expired_refused nz h =
        refused_unless (λ z. ⊎_elim nz (λ le. let e : clock_of k ≤ expiration (descriptor_of x.command) = le in omega arith) (facts z).unexpired)

    -- its tag is not the unit's, or no longer
    pub retagged_refused : (cap_tag (descriptor_of x.command) ≡ 0 → ⊥)
        → (cap_tag (descriptor_of x.command) ≡ policy_tag (unit_at x.unit m.units) → ⊥)
        → is_refused a ≡ true
    retagged_refused nz ne = refused_unless (λ z. ⊎_elim nz ne (facts z).tagged)

  -- ---- where CAPKEY rules, for rows that are not open, it also wants a key that is valid then

  module _ (rules : rules_for (unit_at x.unit m.units) x.command ≡ true) (guarded : is_open_row (need_for x.command) ≡ false) where
    checks : open_reason (seen m.units x.unit) x.command x.token (clock_of k) ≡ 0
        → CheckedBy (unit_at x.unit m.units) (keys_before t es x.unit) x (clock_of k)
    checks z = ruled_checked t es m sound ran k a r n meets x z rules guarded

    -- the history has no valid key for it
    pub keyless_refused : key_for (keys_before t es x.unit) x.command ≡ none → is_refused a ≡ true
    keyless_refused e = refused_unless (λ z. none_some (checks z).key (sym e ∙ (checks z).valid))

    -- its check value does not verify under the key valid then
    pub unverified_refused : (key : List ℕ) → key_for (keys_before t es x.unit) x.command ≡ some key
        → (check_value_of x.command ≡ tag_for key (descriptor_of x.command) x.token → ⊥) → is_refused a ≡ true
    unverified_refused key e ne =
        refused_unless
        (λ z. let same = some_same (checks z).key key (sym (checks z).valid ∙ e) in
        ne (subst (λ (y : List ℕ). check_value_of x.command ≡ tag_for y (descriptor_of x.command) x.token) same (checks z).checks.verifies))

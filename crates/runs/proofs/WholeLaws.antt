-- Laws of a whole command: it is what an open answers that doesn't park it; its cases; and what every one of them has: a final answer, as
-- many written bytes as its count says, a unit table of the same length, every record but the unit's and its keeper's as it was, and
-- everybody's keeper.
use Rattle.std.specs.Prelude.{◌≡◌, Bool, ℕ, ◌*◌, ◌<◌, eqb}
use Rattle.std.proofs.Math.Path.{refl, sym, ap}
use Rattle.std.proofs.Common.{◌∙◌, subst, arith}
use Rattle.std.proofs.Math.Bool.{true, false}
use mathlib.Core.List.{List, []}
use Rattle.std.proofs.Math.ListN.{length}
use borrow.Author.Tests.{eqb-true, eqb-false}
use Rattle.choice.specs.Choice.{both, pick}
use Rattle.choice.specs.ChoiceLaws.{pick_cases}
use Rattle.wire.specs.Bytes.{patch}
use Rattle.wire.proofs.PatchLaws.{record_here, record_other, record_length}
use Rattle.model.specs.Protocol.{protocol_out, set_attributes}
use Rattle.model.specs.Codes.{data_out}
use Rattle.model.specs.Refusal.{refusal}
use Rattle.model.specs.Totals.{total_of}
use Rattle.model.specs.Answers.{is_final, count_in}
use Rattle.model.specs.declared.Answer.TheVariants.{Good, Run}
use Rattle.units.specs.declared.UnitState.TheVariants.{Used}
use Rattle.units.specs.Unit.{unit_at, keeper_field, keeper_of, key_set_of, unit_state, unit_state_of}
use Rattle.units.proofs.UnitLaws.{unit_length, keeps_has, used_has, keeper_small, same_keeper, same_state}
use Rattle.judge.specs.Command.{code_of, page_of}
use Rattle.judge.specs.Seen.{seen}
use Rattle.judge.proofs.JudgementLaws.{open_passed}
use Rattle.pages.specs.Out.{new_method, new_tag, wrong_list}
use Rattle.pages.proofs.OutLaws.{right_method}
use Rattle.pages.specs.Effects.{attributes_set, new_keys}
use Rattle.pages.proofs.EffectLaws.{attributes_length, attributes_frame, attributes_used, new_length, new_used, new_field}
use Rattle.calls.specs.Whole.{Asked, nothing, attributes, key_set, Local, local, is_replied, reply_to, made_by, passed, judged, laid, Whole, stored, whole_reason, whole}
use Rattle.calls.proofs.WholeLaws.{out_code, same_reason, passed_same, close_early, close_none, list_passed, judged_passed, judged_refused}
use Rattle.calls.specs.Open.{reason_at_open, parks, answered_at_open}

-- ---- an open that doesn't park answers the whole command, whatever data would have come

module _ (units : List ℕ) (k : Asked) (d : List ℕ) (clock : ℕ) where
  abbrev r : ℕ
  r = reason_at_open units k clock

  answered_whole : (b : Bool) → eqb (reason_at_open units k clock) 0 ≡ b → both b (data_out (code_of k.command)) ≡ false
      → answered_at_open units k clock ≡ whole units k d clock
  unfolding whole
  answered_whole true e o =
      let s = seen units k.unit in
      let n = out_code (code_of k.command) o in
      let z = eqb-true (reason_at_open units k clock) 0 e in
      let same = same_reason s k.command k.token d clock n in
      ap (stored units k.unit) (judged_passed s k.command [] r z ∙ passed_same s k.command k.token [] clock n d ∙ sym (judged_passed s k.command d (whole_reason units k d clock) (same ∙ z)))
  answered_whole false e o =
      let s = seen units k.unit in
      let n = eqb-false (reason_at_open units k clock) 0 e in
      let same = close_early s k.command k.token d clock r refl n in
      ap (stored units k.unit) (judged_refused s k.command [] r n ∙ ap (λ (x : ℕ). local (refusal x) [] nothing) same ∙ sym (judged_refused s k.command d (whole_reason units k d clock) (λ z. n (same ∙ z))))

  pub open_whole : parks units k clock ≡ false → answered_at_open units k clock ≡ whole units k d clock
  open_whole p = answered_whole (eqb (reason_at_open units k clock) 0) refl p

-- ---- the cases

module _ (units : List ℕ) (k : Asked) (d : List ℕ) (clock : ℕ) where
  pub whole_cases : (P : Whole → Type 0)
      → ((whole_reason units k d clock ≡ 0 → ⊥) → P (stored units k.unit (local (refusal (whole_reason units k d clock)) [] nothing)))
      → (whole_reason units k d clock ≡ 0 → eqb (code_of k.command) protocol_out ≡ true
      → P (stored units k.unit (local (Good 0) [] (made_by (seen units k.unit) (page_of k.command) d))))
      → (whole_reason units k d clock ≡ 0 → eqb (code_of k.command) protocol_out ≡ false → is_replied k.command ≡ true
      → P (stored units k.unit (local (Good (length (reply_to (seen units k.unit) k.command))) (reply_to (seen units k.unit) k.command) nothing)))
      → (whole_reason units k d clock ≡ 0 → eqb (code_of k.command) protocol_out ≡ false → is_replied k.command ≡ false
      → P (stored units k.unit (local Run [] nothing)))
      → P (whole units k d clock)
  unfolding whole judged passed
  whole_cases P refused obeys replies runs =
      let Q : Local → Type 0 = λ x. P (stored units k.unit x) in
      pick_cases Q (eqb (whole_reason units k d clock) 0) _ _
      (λ e. let z = eqb-true (whole_reason units k d clock) 0 e in
      pick_cases Q (eqb (code_of k.command) protocol_out) _ _ (obeys z) (λ f. pick_cases Q (is_replied k.command) _ _ (replies z f) (runs z f)))
      (λ e. refused (eqb-false (whole_reason units k d clock) 0 e))

  pub whole_final : is_final (whole units k d clock).answer ≡ true
  unfolding refusal
  whole_final = whole_cases (λ (w : Whole). is_final w.answer ≡ true) (λ n. refl) (λ z t. refl) (λ z f r. refl) (λ z f r. refl)

  pub whole_written : length (whole units k d clock).written ≡ count_in (whole units k d clock).answer
  unfolding refusal
  whole_written =
      whole_cases (λ (w : Whole). length w.written ≡ count_in w.answer) (λ n. refl) (λ z t. refl) (λ z f r. refl) (λ z f r. refl)

-- ---- what an Out page leaves of the unit table

-- what is known where one is obeyed
pub record Obeys (units : List ℕ) (u page : ℕ) (d : List ℕ) : Type 0 where
  pub full : length units ≡ 4096
  pub small : u < 8
  pub used : unit_state units u ≡ Used
  pub total : length d ≡ total_of page
  pub right : wrong_list page d ≡ false

pub obeys : (units : List ℕ) (k : Asked) (d : List ℕ) (clock : ℕ) → length units ≡ 4096 → whole_reason units k d clock ≡ 0
    → eqb (code_of k.command) protocol_out ≡ true → Obeys units k.unit (page_of k.command) d
obeys units k d clock full z t =
    let s = seen units k.unit in
    let p = open_passed s k.command k.token clock (close_none s k.command k.token d clock z).0 in
    let q = list_passed s k.command k.token d clock z t in
    record { full = full; small = p.small; used = p.used; total = q.0; right = q.1 }

module _ (units : List ℕ) (u page : ℕ) (d : List ℕ) (o : Obeys units u page d) where
  -- the place that is written, and what is written there: the unit's own, or its keeper's
  pub record Written (new : List ℕ) : Type 0 where
    pub place : ℕ
    pub bytes : List ℕ
    pub at : place < 8
    pub long : length bytes ≡ 512
    pub put : new ≡ patch units (place * 512) bytes
    pub sound : unit_state_of place (unit_at place units) ≡ Used
    pub again : unit_state_of place bytes ≡ Used
    pub field : keeper_field bytes ≡ keeper_field (unit_at place units)
    pub near : (v : ℕ) → (u ≡ v → ⊥) → (keeper_of units u ≡ v → ⊥) → place ≡ v → ⊥

  written_by : (b : Bool) → eqb page set_attributes ≡ b
      → Written (laid units u (pick b (attributes (attributes_set (new_method d) (new_tag d) (unit_at u units))) (key_set (new_keys page d (key_set_of units u)))))
  unfolding key_set_of
  written_by true e =
      let full = unit_length u units o.full o.small in
      let m = right_method page d (eqb-true page set_attributes e) o.right in
      let own = (used_has units u o.used).0 in
      record {
        place = u;
        bytes = attributes_set (new_method d) (new_tag d) (unit_at u units);
        at = o.small;
        long = attributes_length (new_method d) (new_tag d) (unit_at u units) full;
        put = refl;
        sound = own;
        again = attributes_used (new_method d) (new_tag d) (unit_at u units) full u m own;
        field = (attributes_frame (new_method d) (new_tag d) (unit_at u units) full).same_field;
        near = λ v n m e. n e;
      }
  written_by false e =
      let h = keeper_small units u o.used o.small in
      let full = unit_length (keeper_of units u) units o.full h in
      let keeps = keeps_has units (keeper_of units u) (used_has units u o.used).1 in
      record {
        place = keeper_of units u;
        bytes = new_keys page d (unit_at (keeper_of units u) units);
        at = h;
        long = new_length page d (unit_at (keeper_of units u) units) o.right full;
        put = refl;
        sound = keeps.0;
        again = new_used page d (unit_at (keeper_of units u) units) o.right full (keeper_of units u) keeps.0 keeps.1;
        field = new_field page d (unit_at (keeper_of units u) units) o.right full;
        near = λ v n m e. m e;
      }

  pub written : Written (laid units u (made_by (seen units u) page d))
  unfolding made_by
  written = written_by (eqb page set_attributes) refl

  w : Written (laid units u (made_by (seen units u) page d))
  w = written

  pub laid_length : length (laid units u (made_by (seen units u) page d)) ≡ 4096
  laid_length =
      let h = w.at in
      let full = o.full in
      ap length w.put ∙ record_length units w.place w.bytes w.long (omega arith) ∙ full

  -- no byte of a record but the unit's and its keeper's
  pub laid_others : (v : ℕ) → (u ≡ v → ⊥) → (keeper_of units u ≡ v → ⊥)
      → unit_at v (laid units u (made_by (seen units u) page d)) ≡ unit_at v units
  laid_others v n m =
      let h = w.at in
      let full = o.full in
      ap (unit_at v) w.put ∙ record_other units w.place w.bytes w.long (omega arith) v (w.near v n m)

  -- what holds of the record that is written, as it was and as it is, holds of every record
  each_record : (P : ℕ → List ℕ → List ℕ → Type 0) → P w.place w.bytes (unit_at w.place units)
      → ((v : ℕ) → P v (unit_at v units) (unit_at v units))
      → (v : ℕ) → P v (unit_at v (laid units u (made_by (seen units u) page d))) (unit_at v units)
  each_record P there same v = by_place (eqb w.place v) refl
    where
      by_place : (b : Bool) → eqb w.place v ≡ b → P v (unit_at v (laid units u (made_by (seen units u) page d))) (unit_at v units)
      by_place true e =
          let h = w.at in
          let full = o.full in
          let q = eqb-true w.place v e in
          let here = ap (unit_at w.place) w.put ∙ record_here units w.place w.bytes w.long (omega arith) in
          subst (λ (x : ℕ). P x (unit_at x (laid units u (made_by (seen units u) page d))) (unit_at x units)) q
          (subst (λ (x : List ℕ). P w.place x (unit_at w.place units)) (sym here) there)
      by_place false e =
          let h = w.at in
          let full = o.full in
          let other = ap (unit_at v) w.put ∙ record_other units w.place w.bytes w.long (omega arith) v (eqb-false w.place v e) in
          subst (λ (x : List ℕ). P v x (unit_at v units)) (sym other) (same v)

  -- nobody's keeper moves
  pub laid_field : (v : ℕ) → keeper_field (unit_at v (laid units u (made_by (seen units u) page d))) ≡ keeper_field (unit_at v units)
  laid_field = each_record (λ v new old. keeper_field new ≡ keeper_field old) w.field (λ v. refl)

  pub laid_keeper : (v : ℕ) → keeper_of (laid units u (made_by (seen units u) page d)) v ≡ keeper_of units v
  laid_keeper v = same_keeper (laid units u (made_by (seen units u) page d)) units v (laid_field v)

  -- and every unit is used or unused, sound or unsound, as it was
  pub laid_state : (v : ℕ) → unit_state (laid units u (made_by (seen units u) page d)) v ≡ unit_state units v
  laid_state =
      same_state (laid units u (made_by (seen units u) page d)) units
      (each_record (λ v new old. unit_state_of v new ≡ unit_state_of v old) (w.again ∙ sym w.sound) (λ v. refl)) laid_field

-- ---- and so of every whole command

module _ (units : List ℕ) (k : Asked) (d : List ℕ) (clock : ℕ) (full : length units ≡ 4096) where
  pub whole_length : length (whole units k d clock).units ≡ 4096
  whole_length =
      whole_cases units k d clock (λ (w : Whole). length w.units ≡ 4096) (λ n. full)
      (λ z t. laid_length units k.unit (page_of k.command) d (obeys units k d clock full z t))
      (λ z f r. full) (λ z f r. full)

  pub whole_others : (v : ℕ) → (k.unit ≡ v → ⊥) → (keeper_of units k.unit ≡ v → ⊥)
      → unit_at v (whole units k d clock).units ≡ unit_at v units
  whole_others v n m =
      whole_cases units k d clock (λ (w : Whole). unit_at v w.units ≡ unit_at v units) (λ e. refl)
      (λ z t. laid_others units k.unit (page_of k.command) d (obeys units k d clock full z t) v n m)
      (λ z f r. refl) (λ z f r. refl)

  pub whole_state : (v : ℕ) → unit_state (whole units k d clock).units v ≡ unit_state units v
  whole_state v =
      whole_cases units k d clock (λ (w : Whole). unit_state w.units v ≡ unit_state units v) (λ n. refl)
      (λ z t. laid_state units k.unit (page_of k.command) d (obeys units k d clock full z t) v) (λ z f r. refl) (λ z f r. refl)

  -- nobody's keeper moves
  pub whole_field : (v : ℕ) → keeper_field (unit_at v (whole units k d clock).units) ≡ keeper_field (unit_at v units)
  whole_field v =
      whole_cases units k d clock (λ (w : Whole). keeper_field (unit_at v w.units) ≡ keeper_field (unit_at v units)) (λ n. refl)
      (λ z t. laid_field units k.unit (page_of k.command) d (obeys units k d clock full z t) v) (λ z f r. refl) (λ z f r. refl)

  pub whole_keeper : (v : ℕ) → keeper_of (whole units k d clock).units v ≡ keeper_of units v
  whole_keeper v = same_keeper (whole units k d clock).units units v (whole_field v)

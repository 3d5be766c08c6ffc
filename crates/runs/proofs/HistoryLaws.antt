-- The records always say what the key history says.
use Rattle.std.specs.Prelude.{◌≡◌, Bool, ℕ, ◌*◌, ◌<◌, length}
use Rattle.std.proofs.Math.Path.{refl, sym, ap, ap₂}
use Rattle.std.proofs.Common.{◌∙◌, subst, arith}
use Rattle.std.proofs.Math.Bool.{true, false}
use Rattle.std.proofs.Math.Option.{none, some}
use mathlib.Core.List.{List, [], ◌∷◌, ◌++◌}
use Rattle.std.proofs.Math.Dec.{eqb}
use borrow.Author.Tests.{eqb-true, eqb-false, eq-eqb}
use Rattle.choice.specs.Choice.{both, pick}
use Rattle.choice.specs.ChoiceLaws.{both_right, both_none}
use Rattle.wire.specs.Bytes.{patch}
use Rattle.wire.proofs.PatchLaws.{record_here, record_other}
use Rattle.hmac.specs.Hmac.{hmac, by_sha1}
use Rattle.model.specs.Protocol.{protocol_out, set_attributes, seed_exchange, set_key, change_master}
use Rattle.model.specs.Answers.{is_a}
use Rattle.model.specs.Refusal.{refusal}
use Rattle.model.specs.declared.Answer.TheVariants.{Good}
use Rattle.units.specs.Unit.{unit_at, keeper_of, key_set_of, step, is_valid, working_key}
use Rattle.units.proofs.UnitLaws.{unit_length, keeper_small}
use Rattle.judge.specs.Command.{code_of, page_of}
use Rattle.judge.specs.Seen.{seen}
use Rattle.pages.specs.Out.{new_method, new_tag, new_version, seed, agreed, wrong_list}
use Rattle.pages.proofs.OutLaws.{right_version}
use Rattle.pages.specs.Effects.{attributes_set, working_key_set, last_flipped, next_auth, next_gen, exchanged, changed, new_keys}
use Rattle.pages.proofs.FieldLaws.{SameWorking}
use Rattle.pages.proofs.EffectLaws.{attributes_length, attributes_master, attributes_next, attributes_working, key_master, key_next, key_valid, key_working, key_other_valid, key_other_working, exchanged_master, exchanged_working, exchanged_step, exchanged_next_auth, exchanged_next_generation, changed_identifier, changed_auth, changed_generation, changed_valid, changed_step, changed_next_auth, changed_next_generation, new_length}
use Rattle.calls.specs.Whole.{attributes, key_set, made_by, laid, Whole, whole}
use Rattle.runs.proofs.WholeLaws.{whole_cases, whole_length, whole_keeper, Obeys, obeys, laid_keeper}
use Rattle.runs.specs.Ledger.{Done, Singly}
use Rattle.runs.specs.History.{KeySet, Says, start_keys, version_set, seed_exchanged, master_changed, key_command, is_key_command, history}

pub says_start : (rec : List ℕ) → Says (start_keys rec) rec
says_start rec =
    record { name = refl; auth = refl; generation = refl; next_auth = refl; next_generation = refl; pending = refl; working = λ v h. refl }

-- the working keys, where they are as they were
same_working : (k : KeySet) (old new : List ℕ) → SameWorking old new → Says k old → (v : ℕ) → v < 16
    → k.working v ≡ pick (is_valid v new) (some (working_key v new)) none
same_working k old new w s v h =
    s.working v h ∙ ap₂ (λ (b : Bool) (x : List ℕ). pick b (some x) none) (sym (w.same_valid v)) (sym (w.same_key v h))

-- ---- each effect

module _ (k : KeySet) (rec : List ℕ) (says : Says k rec) (full : length rec ≡ 512) where
  says_attributes : (m t : ℕ) → Says k (attributes_set m t rec)
  says_attributes m t =
      let a = attributes_master m t rec full in
      let n = attributes_next m t rec full in
      record {
        name = says.name ∙ sym a.same_identifier;
        auth = says.auth ∙ sym a.same_auth;
        generation = says.generation ∙ sym a.same_generation;
        next_auth = says.next_auth ∙ sym n.same_next_auth;
        next_generation = says.next_generation ∙ sym n.same_next_generation;
        pending = says.pending ∙ ap (λ (x : ℕ). eqb x 1) (sym n.same_step);
        working = same_working k rec (attributes_set m t rec) (attributes_working m t rec full) says;
      }

  says_key : (v : ℕ) (s : List ℕ) → v < 16 → Says (version_set v s k) (working_key_set v s rec)
  says_key v s hv =
      let a = key_master v s rec hv full in
      let n = key_next v s rec hv full in
      record {
        name = says.name ∙ sym a.same_identifier;
        auth = says.auth ∙ sym a.same_auth;
        generation = says.generation ∙ sym a.same_generation;
        next_auth = says.next_auth ∙ sym n.same_next_auth;
        next_generation = says.next_generation ∙ sym n.same_next_generation;
        pending = says.pending ∙ ap (λ (x : ℕ). eqb x 1) (sym n.same_step);
        working = λ w h. by_version w h (eqb w v) refl;
      }
    where
      new : List ℕ
      new = working_key_set v s rec

      by_version : (w : ℕ) → w < 16 → (b : Bool) → eqb w v ≡ b
          → pick b (some (hmac by_sha1 k.generation s)) (k.working w) ≡ pick (is_valid w new) (some (working_key w new)) none
      by_version w h true e =
          let q = eqb-true w v e in
          rw (q, key_valid v s rec hv full, key_working v s rec hv full, says.generation)
      by_version w h false e =
          let other = eqb-false w v e in
          rw (key_other_valid v s rec hv full w h other, key_other_working v s rec hv full w h other) (says.working w h)

  says_exchanged : (value : List ℕ) → Says (seed_exchanged value k) (exchanged value rec)
  unfolding next_auth next_gen
  says_exchanged value =
      let a = exchanged_master value rec full in
      record {
        name = says.name ∙ sym a.same_identifier;
        auth = says.auth ∙ sym a.same_auth;
        generation = says.generation ∙ sym a.same_generation;
        next_auth =
            ap₂ (λ (g n : List ℕ). hmac by_sha1 g (last_flipped (value ++ n))) says.generation says.name ∙ sym (exchanged_next_auth value rec full);
        next_generation =
            ap₂ (λ (g n : List ℕ). hmac by_sha1 g (value ++ n)) says.generation says.name ∙ sym (exchanged_next_generation value rec full);
        pending = sym (eq-eqb (step (exchanged value rec)) 1 (exchanged_step value rec full));
        working = same_working k rec (exchanged value rec) (exchanged_working value rec full) says;
      }

  says_changed : Says (master_changed k) (changed rec)
  says_changed =
      record {
        name = says.name ∙ sym (changed_identifier rec full);
        auth = says.next_auth ∙ sym (changed_auth rec full);
        generation = says.next_generation ∙ sym (changed_generation rec full);
        next_auth = sym (changed_next_auth rec full);
        next_generation = sym (changed_next_generation rec full);
        pending = sym (ap (λ (x : ℕ). eqb x 1) (changed_step rec full));
        working = λ v h. rw (changed_valid rec full v);
      }

  says_keys : (page : ℕ) (d : List ℕ) → wrong_list page d ≡ false → Says (key_command page d k) (new_keys page d rec)
  unfolding key_command new_keys
  says_keys page d right = by_page_lem (eqb page set_key) (eqb page seed_exchange) (eqb page change_master) refl
    where
      by_page_lem : (a b c : Bool) → eqb page set_key ≡ a
          → Says (pick a (version_set (new_version d) (seed d) k) (pick b (seed_exchanged (agreed d) k) (pick c (master_changed k) k)))
          (pick a (working_key_set (new_version d) (seed d) rec) (pick b (exchanged (agreed d) rec) (pick c (changed rec) rec)))
      by_page_lem true b c e = says_key (new_version d) (seed d) (right_version page d (eqb-true page set_key e) right)
      by_page_lem false true c e = says_exchanged (agreed d)
      by_page_lem false false true e = says_changed
      by_page_lem false false false e = says

-- ---- an Out page that is obeyed at unit w: what it says of the key set of a unit u, of the same set or another

module _ (units : List ℕ) (w page : ℕ) (d : List ℕ) (o : Obeys units w page d) (u : ℕ) (k : KeySet) (says : Says k (key_set_of units u)) where
  -- the record at a place where another is put, and where none is
  module _ (place : ℕ) (at : place < 8) (bytes : List ℕ) (long : length bytes ≡ 512) where
    here : unit_at place (patch units (place * 512) bytes) ≡ bytes
    here = let full = o.full in record_here units place bytes long (omega arith)

    elsewhere : (v : ℕ) → (place ≡ v → ⊥) → unit_at v (patch units (place * 512) bytes) ≡ unit_at v units
    elsewhere v ne = let full = o.full in record_other units place bytes long (omega arith) v ne

  says_kept : Says k (unit_at (keeper_of units u) units)
  unfolding key_set_of
  says_kept = says

  -- Set Attributes leaves the keys alone, whoever keeps them
  attributes_new : List ℕ
  attributes_new = attributes_set (new_method d) (new_tag d) (unit_at w units)

  attributes_long : length attributes_new ≡ 512
  unfolding attributes_new
  attributes_long = attributes_length (new_method d) (new_tag d) (unit_at w units) (unit_length w units o.full o.small)

  of_attributes : (b : Bool) → eqb w (keeper_of units u) ≡ b → Says k (unit_at (keeper_of units u) (patch units (w * 512) attributes_new))
  unfolding attributes_new
  of_attributes true e =
      let same = eqb-true w (keeper_of units u) e in
      let full = unit_length w units o.full o.small in
      rw (← same, here w o.small attributes_new attributes_long)
      (says_attributes k (unit_at w units) (subst (λ (p : ℕ). Says k (unit_at p units)) (sym same) says_kept) full (new_method d) (new_tag d))
  of_attributes false e =
      rw (elsewhere w o.small attributes_new attributes_long (keeper_of units u) (eqb-false w (keeper_of units u) e)) says_kept

  -- a key command is told to the set of its unit, and to no other
  at : keeper_of units w < 8
  at = keeper_small units w o.used o.small

  keys_new : List ℕ
  keys_new = new_keys page d (unit_at (keeper_of units w) units)

  keys_long : length keys_new ≡ 512
  unfolding keys_new
  keys_long = new_length page d (unit_at (keeper_of units w) units) o.right (unit_length (keeper_of units w) units o.full at)

  of_keys : (b : Bool) → eqb (keeper_of units w) (keeper_of units u) ≡ b
      → Says (pick b (key_command page d k) k) (unit_at (keeper_of units u) (patch units (keeper_of units w * 512) keys_new))
  unfolding keys_new
  of_keys true e =
      let same = eqb-true (keeper_of units w) (keeper_of units u) e in
      let full = unit_length (keeper_of units w) units o.full at in
      rw (← same, here (keeper_of units w) at keys_new keys_long)
      (says_keys k (unit_at (keeper_of units w) units) (subst (λ (p : ℕ). Says k (unit_at p units)) (sym same) says_kept) full page d o.right)
  of_keys false e =
      rw (elsewhere (keeper_of units w) at keys_new keys_long (keeper_of units u) (eqb-false (keeper_of units w) (keeper_of units u) e)) says_kept

  policy_leaves : page ≡ set_attributes → (b : Bool) → pick b (key_command page d k) k ≡ k
  unfolding key_command
  policy_leaves e true = rw e
  policy_leaves e false = refl

  by_kind : (b : Bool) → eqb page set_attributes ≡ b
      → Says (pick (eqb (keeper_of units w) (keeper_of units u)) (key_command page d k) k)
      (unit_at (keeper_of units u) (laid units w (pick b (attributes (attributes_set (new_method d) (new_tag d) (unit_at w units))) (key_set (new_keys page d (key_set_of units w))))))
  unfolding key_set_of attributes_new keys_new
  by_kind true e =
      rw (policy_leaves (eqb-true page set_attributes e) (eqb (keeper_of units w) (keeper_of units u))) (of_attributes (eqb w (keeper_of units u)) refl)
  by_kind false e = of_keys (eqb (keeper_of units w) (keeper_of units u)) refl

  pub says_made : Says (pick (eqb (keeper_of units w) (keeper_of units u)) (key_command page d k) k)
      (key_set_of (laid units w (made_by (seen units w) page d)) u)
  unfolding made_by key_set_of
  says_made = rw (laid_keeper units w page d o u) (by_kind (eqb page set_attributes) refl)

-- ---- a whole command, at any unit

-- who keeps keys is as it was in the starting table
abbrev pub KeepersOf : List ℕ → List ℕ → Type 0
KeepersOf start us = (v : ℕ) → keeper_of us v ≡ keeper_of start v

module _ (start us : List ℕ) (full : length us ≡ 4096) (fixed : KeepersOf start us) (u : ℕ) (k : KeySet) (says : Says k (key_set_of us u))
    (x : Done) where
  Told : Whole → Type 0
  Told w =
      w.answer ≡ x.answer → Says (pick (is_key_command start u x) (key_command (page_of x.what.command) x.sent k) k) (key_set_of w.units u)

  obeyed_says : Obeys us x.what.unit (page_of x.what.command) x.sent → eqb (code_of x.what.command) protocol_out ≡ true
      → Good 0 ≡ x.answer
      → Says (pick (is_key_command start u x) (key_command (page_of x.what.command) x.sent k) k)
      (key_set_of (laid us x.what.unit (made_by (seen us x.what.unit) (page_of x.what.command) x.sent)) u)
  obeyed_says o t e = rw in_set (says_made us x.what.unit (page_of x.what.command) x.sent o u k says)
    where
      good : both (eqb (code_of x.what.command) protocol_out) (is_a 0 x.answer) ≡ true
      good = rw (t, ← e)

      -- it is a key command of u's set just where its unit has the same keeper
      in_set : is_key_command start u x ≡ eqb (keeper_of us x.what.unit) (keeper_of us u)
      in_set =
          let told : ℕ → ℕ → Bool = λ a b. both (eqb a b) (both (eqb (code_of x.what.command) protocol_out) (is_a 0 x.answer)) in
          let same = eqb (keeper_of us x.what.unit) (keeper_of us u) in
          ap₂ told (sym (fixed x.what.unit)) (sym (fixed u)) ∙ ap (both same) good ∙ both_right same

  says_whole : (whole us x.what x.sent x.clock).answer ≡ x.answer
      → Says (pick (is_key_command start u x) (key_command (page_of x.what.command) x.sent k) k) (key_set_of (whole us x.what x.sent x.clock).units u)
  unfolding Told refusal
  says_whole =
      whole_cases us x.what x.sent x.clock Told
      (λ n e. stays (ap (λ b. both (eqb (keeper_of start x.what.unit) (keeper_of start u)) (both (eqb (code_of x.what.command) protocol_out) b)) (sym (ap (is_a 0) e)) ∙ ap (both (eqb (keeper_of start x.what.unit) (keeper_of start u))) (both_none (eqb (code_of x.what.command) protocol_out)) ∙ both_none (eqb (keeper_of start x.what.unit) (keeper_of start u))))
      (λ z t e. obeyed_says (obeys us x.what x.sent x.clock full z t) t e)
      (λ z f r e. stays (rw f (both_none (eqb (keeper_of start x.what.unit) (keeper_of start u)))))
      (λ z f r e. stays (rw f (both_none (eqb (keeper_of start x.what.unit) (keeper_of start u)))))
    where
      stays : is_key_command start u x ≡ false
          → Says (pick (is_key_command start u x) (key_command (page_of x.what.command) x.sent k) k) (key_set_of us u)
      stays n = rw n says

-- ---- any run of whole commands: the records say what the starting keys and the GOOD key commands since say

pub says_run : (start : List ℕ) (xs : List Done) (us ns : List ℕ) → length us ≡ 4096 → KeepersOf start us → (u : ℕ) (k : KeySet)
    → Says k (key_set_of us u)
    → Singly us xs ns
    → Says (history start u k xs) (key_set_of ns u)
says_run start [] us ns full fixed u k says p = subst (λ (z : List ℕ). Says k (key_set_of z u)) p says
says_run start (x ∷ xs) us ns full fixed u k says p =
    says_run start xs (whole us x.what x.sent x.clock).units ns (whole_length us x.what x.sent x.clock full)
    (λ v. whole_keeper us x.what x.sent x.clock full v ∙ fixed v) u
    (pick (is_key_command start u x) (key_command (page_of x.what.command) x.sent k) k) (says_whole start us full fixed u k says x p.0) p.2

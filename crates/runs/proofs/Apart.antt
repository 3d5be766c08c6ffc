-- Attributes stay apart (02, K4): a GOOD Set Attributes at one unit changes no other unit's whole command, neither answer nor reply nor
-- records, whoever keeps whose keys.
use Rattle.std.specs.Prelude.{◌≡◌, ℕ, ◌*◌, ◌<◌, eqb, length}
use Rattle.std.proofs.Math.Path.{refl, sym, ap}
use Rattle.std.proofs.Common.{◌∙◌, subst, arith}
use Rattle.std.proofs.Math.Bool.{Bool, true, false}
use mathlib.Core.List.{List, [], ◌∷◌, ◌++◌}
use Prim.{Unit}
use borrow.Author.Tests.{eqb-true, eqb-false, eq-eqb}
use Rattle.choice.specs.Choice.{both, pick}
use Rattle.choice.specs.ChoiceLaws.{both_true}
use Rattle.wire.specs.Bytes.{patch}
use Rattle.wire.proofs.PatchLaws.{record_here, record_other, record_swap, patch_over}
use Rattle.model.specs.Protocol.{protocol_out, set_attributes}
use Rattle.model.specs.Refusal.{refusal}
use Rattle.model.specs.Rows.{is_master}
use Rattle.model.specs.Answers.{is_good}
use Rattle.model.specs.declared.Answer.TheVariants.{Good, Run}
use Rattle.units.specs.Unit.{mask, step, auth_key_of, next_auth_key, is_valid, working_key, unit_at, keeper_of, key_set_of, unit_state}
use Rattle.units.proofs.UnitLaws.{unit_length, keeper_small}
use Rattle.judge.specs.Command.{code_of, page_of, length_field, need_for, is_change, descriptor_of}
use Rattle.judge.specs.Descriptor.{key_version}
use Rattle.judge.specs.Keys.{key_found, key_used}
use Rattle.judge.specs.Seen.{Seen, seen}
use Rattle.judge.specs.Judgement.{found_tests, value_tests, credential_tests, guard_tests, page_tests, earlier_tests, later_tests, open_tests}
use Rattle.pages.specs.In.{attributes_page, in_page, reply_of}
use Rattle.pages.specs.Out.{new_method, new_tag}
use Rattle.pages.specs.Effects.{attributes_set, new_keys}
use Rattle.pages.proofs.EffectLaws.{attributes_length, attributes_master, attributes_next, attributes_working, new_length}
use Rattle.pages.proofs.CommuteLaws.{new_commutes}
use Rattle.calls.specs.Whole.{Asked, nothing, attributes, key_set, Local, local, is_replied, reply_to, made_by, passed, judged, laid}
use Rattle.calls.specs.Whole.{close_reason, whole_reason, whole}
use Rattle.calls.proofs.WholeLaws.{judged_passed}
use Rattle.calls.proofs.CloseLaws.{made_attributes}
use Rattle.calls.specs.Outcome.{Tables}
use Rattle.runs.specs.Run.{Event, Ran, SoundTables}
use Rattle.runs.specs.Ledger.{starts, Done, dones, Singly}
use Rattle.runs.proofs.WholeLaws.{Obeys, obeys, laid_keeper, laid_state, whole_length, whole_state}
use Rattle.runs.proofs.Sequence.{sequence}
use Rattle.runs.proofs.GoodChecked.{version_small}
use Rattle.runs.proofs.FinalLaws.{whole_good}

-- ---- of a key set, judgement and replies look at mask, step, and the keys that commands are checked under, alone

record SameKeys (old new : List ℕ) : Type 0 where
  same_mask : mask new ≡ mask old
  same_step : step new ≡ step old
  same_auth : auth_key_of new ≡ auth_key_of old
  same_next_auth : next_auth_key new ≡ next_auth_key old
  same_valid : (v : ℕ) → is_valid v new ≡ is_valid v old
  same_key : (v : ℕ) → v < 16 → working_key v new ≡ working_key v old

module _ (old new : List ℕ) (k : SameKeys old new) where
  same_found : (master change : Bool) (v : ℕ) → key_found new master change v ≡ key_found old master change v
  unfolding key_found
  same_found master change v = rw (k.same_step, k.same_valid v)

  same_used : (master change : Bool) (v : ℕ) → v < 16 → key_used new master change v ≡ key_used old master change v
  unfolding key_used
  same_used master change v h = rw (k.same_next_auth, k.same_auth, k.same_key v h)

  same_later : (own c token : List ℕ) (clock : ℕ) → later_tests own new c token clock ≡ later_tests own old c token clock
  unfolding later_tests guard_tests credential_tests found_tests value_tests page_tests
  same_later own c token clock =
      let v = key_version (descriptor_of c) in
      rw (same_found (is_master (need_for c)) (is_change c) v, same_used (is_master (need_for c)) (is_change c) v (version_small (descriptor_of c)), k.same_step)

  same_reply : (page n : ℕ) (own : List ℕ) → reply_of page n own new ≡ reply_of page n own old
  unfolding reply_of in_page attributes_page
  same_reply page n own = rw k.same_mask

-- what two commands see that are told apart by nothing but a key set with the same keys
record SameSight (s x : Seen) : Type 0 where
  same_unit : x.unit ≡ s.unit
  same_state : x.state ≡ s.state
  same_own : x.own ≡ s.own
  same_keys : SameKeys s.keys x.keys

module _ (s x : Seen) (same : SameSight s x) (c : List ℕ) where
  same_reason : (token d : List ℕ) (clock : ℕ) → close_reason x c token d clock ≡ close_reason s c token d clock
  unfolding close_reason open_tests earlier_tests
  same_reason token d clock =
      rw (same.same_unit, same.same_state, same.same_own, same_later s.keys x.keys same.same_keys s.own c token clock)

  same_page : reply_to x c ≡ reply_to s c
  same_page = rw same.same_own (same_reply s.keys x.keys same.same_keys (page_of c) (length_field c) s.own)

  -- the answer and the bytes written, by the reason
  module _ (d : List ℕ) where
    told_passed : ((passed x c d).answer ≡ (passed s c d).answer) × ((passed x c d).written ≡ (passed s c d).written)
    unfolding passed
    told_passed = by_code (eqb (code_of c) protocol_out) (is_replied c)
      where
        local_of : Bool → Bool → Seen → Local
        local_of b r y =
            pick b (local (Good 0) [] (made_by y (page_of c) d)) (pick r (local (Good (length (reply_to y c))) (reply_to y c) nothing) (local Run [] nothing))

        by_code : (b r : Bool) → ((local_of b r x).answer ≡ (local_of b r s).answer) × ((local_of b r x).written ≡ (local_of b r s).written)
        by_code true r = (refl, refl)
        by_code false true = (rw same_page, same_page)
        by_code false false = (refl, refl)

    told_judged : (r : ℕ) → ((judged x c d r).answer ≡ (judged s c d r).answer) × ((judged x c d r).written ≡ (judged s c d r).written)
    unfolding judged
    told_judged r = by_reason (eqb r 0)
      where
        judged_by : Bool → Seen → Local
        judged_by b y = pick b (passed y c d) (local (refusal r) [] nothing)

        by_reason : (b : Bool) → ((judged_by b x).answer ≡ (judged_by b s).answer) × ((judged_by b x).written ≡ (judged_by b s).written)
        by_reason true = told_passed
        by_reason false = (refl, refl)

-- the record that a command makes anew: one where it passes and is B5h
made_is : (s : Seen) (c d : List ℕ) (r : ℕ)
    → (judged s c d r).made ≡ pick (both (eqb r 0) (eqb (code_of c) protocol_out)) (made_by s (page_of c) d) nothing
unfolding judged passed
made_is s c d r = by_tests (eqb r 0) (eqb (code_of c) protocol_out) (is_replied c)
  where
    by_tests : (a b p : Bool)
        → (let replied : Local = local (Good (length (reply_to s c))) (reply_to s c) nothing in
        (pick a (pick b (local (Good 0) [] (made_by s (page_of c) d)) (pick p replied (local Run [] nothing))) (local (refusal r) [] nothing)).made
        ≡ pick (both a b) (made_by s (page_of c) d) nothing)
    by_tests true true p = refl
    by_tests true false true = refl
    by_tests true false false = refl
    by_tests false b p = refl

-- ---- the table with method and tag of unit w set, and no other byte but its check's

unfoldable pub attributed : ℕ → ℕ → ℕ → List ℕ → List ℕ
attributed w m t us = patch us (w * 512) (attributes_set m t (unit_at w us))

module _ (us : List ℕ) (full : length us ≡ 4096) (w m t : ℕ) (at : w < 8) where
  own : List ℕ
  own = attributes_set m t (unit_at w us)

  own_long : length own ≡ 512
  unfolding own
  own_long = attributes_length m t (unit_at w us) (unit_length w us full at)

  attributed_here : unit_at w (attributed w m t us) ≡ own
  unfolding attributed own
  attributed_here = record_here us w own own_long (omega arith)

  attributed_other : (v : ℕ) → (w ≡ v → ⊥) → unit_at v (attributed w m t us) ≡ unit_at v us
  unfolding attributed own
  attributed_other v ne = record_other us w own own_long (omega arith) v ne

  -- a record made anew at any place, from the one that stands there
  module _ (p : ℕ) (room : p < 8) (f : List ℕ → List ℕ) (long : (l : List ℕ) → length l ≡ 512 → length (f l) ≡ 512)
      (swaps : p ≡ w → attributes_set m t (f (unit_at w us)) ≡ f (attributes_set m t (unit_at w us))) where
    made_long : length (f (unit_at p us)) ≡ 512
    made_long = long (unit_at p us) (unit_length p us full room)

    apart_by : (b : Bool) → eqb p w ≡ b
        → patch (attributed w m t us) (p * 512) (f (unit_at p (attributed w m t us)))
        ≡ attributed w m t (patch us (p * 512) (f (unit_at p us)))
    unfolding attributed own
    apart_by true e =
        let q : p ≡ w = eqb-true p w e in
        let rec = unit_at w us in
        let flong = long rec (unit_length w us full at) in
        let here : unit_at w (patch us (w * 512) (f rec)) ≡ f rec = record_here us w (f rec) flong (omega arith) in
        rw (q, attributed_here, here)
        (patch_over us (w * 512) own (f own) (own_long ∙ sym (long own own_long)) (omega (arith, own_long))
        ∙ ap (patch us (w * 512)) (sym (swaps q))
        ∙ sym (patch_over us (w * 512) (f rec) (attributes_set m t (f rec)) (flong ∙ sym (attributes_length m t (f rec) flong)) (omega (arith, flong))))
    apart_by false e =
        let ne : p ≡ w → ⊥ = eqb-false p w e in
        let there : unit_at w (patch us (p * 512) (f (unit_at p us))) ≡ unit_at w us = record_other us p (f (unit_at p us)) made_long (omega arith) w ne in
        rw (attributed_other p (λ q. ne (sym q)), there)
        (record_swap us w own own_long (omega arith) p (f (unit_at p us)) (λ q. ne (sym q)) made_long (omega arith))

    pub made_apart : patch (attributed w m t us) (p * 512) (f (unit_at p (attributed w m t us)))
        ≡ attributed w m t (patch us (p * 512) (f (unit_at p us)))
    made_apart = apart_by (eqb p w) refl

-- ---- a Set Attributes that is obeyed at unit w

module _ (us : List ℕ) (w : ℕ) (d : List ℕ) (o : Obeys us w set_attributes d) where
  m : ℕ
  m = new_method d

  t : ℕ
  t = new_tag d

  next : List ℕ
  next = laid us w (made_by (seen us w) set_attributes d)

  next_is : next ≡ attributed w m t us
  unfolding next m t attributed
  next_is = ap (laid us w) (made_attributes (seen us w) set_attributes d refl)

  -- what another unit's command sees
  module _ (u : ℕ) (other : w ≡ u → ⊥) where
    own_kept : unit_at u next ≡ unit_at u us
    own_kept = ap (unit_at u) next_is ∙ attributed_other us o.full w m t o.small u other

    keys_by : (b : Bool) → eqb w (keeper_of us u) ≡ b → SameKeys (unit_at (keeper_of us u) us) (unit_at (keeper_of us u) next)
    unfolding own
    keys_by true e =
        let q : w ≡ keeper_of us u = eqb-true w (keeper_of us u) e in
        let rec = unit_at w us in
        let long = unit_length w us o.full o.small in
        let a = attributes_master m t rec long in
        let n = attributes_next m t rec long in
        let k = attributes_working m t rec long in
        let here : unit_at w next ≡ attributes_set m t rec = ap (unit_at w) next_is ∙ attributed_here us o.full w m t o.small in
        rw (← q, here)
        (record {
          same_mask = k.same_mask;
          same_step = n.same_step;
          same_auth = a.same_auth;
          same_next_auth = n.same_next_auth;
          same_valid = k.same_valid;
          same_key = k.same_key;
        })
    keys_by false e =
        let here : unit_at (keeper_of us u) next ≡ unit_at (keeper_of us u) us =
        ap (unit_at (keeper_of us u)) next_is ∙ attributed_other us o.full w m t o.small (keeper_of us u) (eqb-false w (keeper_of us u) e) in
        rw here
        (record {
          same_mask = refl;
          same_step = refl;
          same_auth = refl;
          same_next_auth = refl;
          same_valid = λ v. refl;
          same_key = λ v h. refl;
        })

    keeper_kept : keeper_of next u ≡ keeper_of us u
    unfolding next
    keeper_kept = laid_keeper us w set_attributes d o u

    state_kept : unit_state next u ≡ unit_state us u
    unfolding next
    state_kept = laid_state us w set_attributes d o u

    keys_kept : SameKeys (key_set_of us u) (key_set_of next u)
    unfolding key_set_of
    keys_kept = rw keeper_kept (keys_by (eqb w (keeper_of us u)) refl)

    sight : SameSight (seen us u) (seen next u)
    sight = record { same_unit = refl; same_state = state_kept; same_own = own_kept; same_keys = keys_kept }

    -- an Out page that is obeyed there
    obeyed_by : (page : ℕ) (e : List ℕ) → Obeys us u page e → (b : Bool) → eqb page set_attributes ≡ b
        → laid next u (pick b (attributes (attributes_set (new_method e) (new_tag e) (unit_at u next))) (key_set (new_keys page e (key_set_of next u))))
        ≡ attributed w m t (laid us u (pick b (attributes (attributes_set (new_method e) (new_tag e) (unit_at u us))) (key_set (new_keys page e (key_set_of us u)))))
    unfolding key_set_of
    obeyed_by page e h true q =
        rw next_is
        (made_apart us o.full w m t o.small u h.small (attributes_set (new_method e) (new_tag e))
        (λ l long. attributes_length (new_method e) (new_tag e) l long) (λ z. absurd (other (sym z))))
    obeyed_by page e h false q =
        rw (keeper_kept, next_is)
        (made_apart us o.full w m t o.small (keeper_of us u) (keeper_small us u h.used h.small) (new_keys page e)
        (λ l long. new_length page e l h.right long)
        (λ z. new_commutes m t (unit_at w us) (unit_length w us o.full o.small) page e h.right))

    obeyed : (page : ℕ) (e : List ℕ) → Obeys us u page e
        → laid next u (made_by (seen next u) page e) ≡ attributed w m t (laid us u (made_by (seen us u) page e))
    unfolding made_by
    obeyed page e h = obeyed_by page e h (eqb page set_attributes) refl

  -- a whole command at another unit
  module _ (k : Asked) (other : w ≡ k.unit → ⊥) (e : List ℕ) (clock : ℕ) where
    reason_kept : whole_reason next k e clock ≡ whole_reason us k e clock
    reason_kept = same_reason (seen us k.unit) (seen next k.unit) (sight k.unit other) k.command k.token e clock

    answer_kept : (whole next k e clock).answer ≡ (whole us k e clock).answer
    unfolding whole
    answer_kept =
        rw reason_kept
        (told_judged (seen us k.unit) (seen next k.unit) (sight k.unit other) k.command e (whole_reason us k e clock)).0

    written_kept : (whole next k e clock).written ≡ (whole us k e clock).written
    unfolding whole
    written_kept =
        rw reason_kept
        (told_judged (seen us k.unit) (seen next k.unit) (sight k.unit other) k.command e (whole_reason us k e clock)).1

    laid_by : (b : Bool) → both (eqb (whole_reason us k e clock) 0) (eqb (code_of k.command) protocol_out) ≡ b
        → laid next k.unit (pick b (made_by (seen next k.unit) (page_of k.command) e) nothing)
        ≡ attributed w m t (laid us k.unit (pick b (made_by (seen us k.unit) (page_of k.command) e) nothing))
    laid_by false q = next_is
    laid_by true q =
        let p = both_true (eqb (whole_reason us k e clock) 0) (eqb (code_of k.command) protocol_out) q in
        let h = obeys us k e clock o.full (eqb-true (whole_reason us k e clock) 0 p.0) p.1 in
        obeyed k.unit other (page_of k.command) e h

    records_kept : (whole next k e clock).units ≡ attributed w m t (whole us k e clock).units
    unfolding whole
    records_kept =
        rw (
          reason_kept,
          made_is (seen next k.unit) k.command e (whole_reason us k e clock),
          made_is (seen us k.unit) k.command e (whole_reason us k e clock),
        )
        (laid_by (both (eqb (whole_reason us k e clock) 0) (eqb (code_of k.command) protocol_out)) refl)

-- ---- the theorem, of one whole command: after a GOOD Set Attributes with the list d at unit w, any whole command at another unit has the
-- answer and the reply that it would have had, and leaves the records that it would have left, with w's method and tag set

pub record Unmoved (us next : List ℕ) (w : ℕ) (d : List ℕ) (k : Asked) (e : List ℕ) (clock : ℕ) : Type 0 where
  pub answer : (whole next k e clock).answer ≡ (whole us k e clock).answer
  pub written : (whole next k e clock).written ≡ (whole us k e clock).written
  pub records : (whole next k e clock).units ≡ attributed w (new_method d) (new_tag d) (whole us k e clock).units

unmoved : (us : List ℕ) (w : ℕ) (d : List ℕ) → Obeys us w set_attributes d → (k : Asked) → (w ≡ k.unit → ⊥) → (e : List ℕ) (clock : ℕ)
    → Unmoved us (attributed w (new_method d) (new_tag d) us) w d k e clock
unfolding m t
unmoved us w d o k other e clock =
    subst (λ (n : List ℕ). Unmoved us n w d k e clock) (next_is us w d o)
    (record {
      answer = answer_kept us w d o k other e clock;
      written = written_kept us w d o k other e clock;
      records = records_kept us w d o k other e clock;
    })

-- a GOOD Set Attributes is obeyed, and leaves its table with its unit's method and tag set
good_attributes : (us : List ℕ) (full : length us ≡ 4096) (s : Asked) (d : List ℕ) (clock : ℕ) → is_good (whole us s d clock).answer ≡ true
    → code_of s.command ≡ protocol_out → page_of s.command ≡ set_attributes
    → Obeys us s.unit set_attributes d × ((whole us s d clock).units ≡ attributed s.unit (new_method d) (new_tag d) us)
unfolding whole passed next m t
good_attributes us full s d clock good code page =
    let z = whole_good us s d clock good in
    let out = eq-eqb (code_of s.command) protocol_out code in
    let o : Obeys us s.unit set_attributes d = subst (λ (p : ℕ). Obeys us s.unit p d) page (obeys us s d clock full z out) in
    let is : (whole us s d clock).units ≡ next us s.unit d o =
    rw (judged_passed (seen us s.unit) s.command d (whole_reason us s d clock) z, out, page) in
    (o, is ∙ next_is us s.unit d o)

pub attributes_apart : (us : List ℕ) (full : length us ≡ 4096) (s : Asked) (d : List ℕ) (clock : ℕ)
    → is_good (whole us s d clock).answer ≡ true → code_of s.command ≡ protocol_out → page_of s.command ≡ set_attributes
    → (k : Asked) → (s.unit ≡ k.unit → ⊥) → (e : List ℕ) (later : ℕ)
    → Unmoved us (whole us s d clock).units s.unit d k e later
attributes_apart us full s d clock good code page k other e later =
    let p = good_attributes us full s d clock good code page in
    subst (λ (n : List ℕ). Unmoved us n s.unit d k e later) (sym p.1) (unmoved us s.unit d p.0 k other e later)

-- ---- and of all that follow: as long as no command at its unit comes, the commands after a GOOD Set Attributes are those of the table
-- without it, answer by answer and reply by reply, and the table ends as theirs, with the one unit's method and tag set

abbrev pub NoneAt : ℕ → List Done → Type 0
NoneAt w [] = Unit
NoneAt w (x ∷ xs) = (w ≡ x.what.unit → ⊥) × NoneAt w xs

-- whole commands at other units leave what is known of the Set Attributes
still_obeys : (us : List ℕ) (w : ℕ) (d : List ℕ) → Obeys us w set_attributes d → (x : Done)
    → Obeys (whole us x.what x.sent x.clock).units w set_attributes d
still_obeys us w d o x =
    record {
      full = whole_length us x.what x.sent x.clock o.full;
      small = o.small;
      used = whole_state us x.what x.sent x.clock o.full w ∙ o.used;
      total = o.total;
      right = o.right;
    }

singly_apart : (xs : List Done) (us : List ℕ) (w : ℕ) (d : List ℕ) → Obeys us w set_attributes d → NoneAt w xs → (ms : List ℕ)
    → Singly (attributed w (new_method d) (new_tag d) us) xs ms
    → (ns : List ℕ) × Singly us xs ns × (ms ≡ attributed w (new_method d) (new_tag d) ns)
singly_apart [] us w d o none ms p = (us, refl, sym p)
singly_apart (x ∷ xs) us w d o (here, none) ms (answer, written, rest) =
    let u = unmoved us w d o x.what here x.sent x.clock in
    let after = (whole us x.what x.sent x.clock).units in
    let q = singly_apart xs after w d (still_obeys us w d o x) none ms (subst (λ (n : List ℕ). Singly n xs ms) u.records rest) in
    (q.0, (sym u.answer ∙ answer, sym u.written ∙ written, q.1), q.2)

singly_split : (xs ys : List Done) (us ns : List ℕ) → Singly us (xs ++ ys) ns → (ms : List ℕ) × Singly us xs ms × Singly ms ys ns
singly_split [] ys us ns p = (us, refl, p)
singly_split (x ∷ xs) ys us ns (answer, written, rest) =
    let q = singly_split xs ys (whole us x.what x.sent x.clock).units ns rest in
    (q.0, (answer, written, q.1), q.2)

singly_length : (xs : List Done) (us ns : List ℕ) → length us ≡ 4096 → Singly us xs ns → length ns ≡ 4096
singly_length [] us ns full p = ap length (sym p) ∙ full
singly_length (x ∷ xs) us ns full (answer, written, rest) =
    singly_length xs (whole us x.what x.sent x.clock).units ns (whole_length us x.what x.sent x.clock full) rest

-- in any run from sound tables: of its commands xs, then a GOOD Set Attributes y, then ys, none at y's unit, the first lead to a table
-- before, and ys lead from that very table, without y, to one that is the run's but for method and tag of y's unit
pub attributes_apart_run : (t : Tables) (es : List Event) (n : Tables) → SoundTables t → Ran t es n
    → (xs : List Done) (y : Done) (ys : List Done) → dones (starts t.slots) es ≡ xs ++ (y ∷ ys)
    → is_good y.answer ≡ true → code_of y.what.command ≡ protocol_out → page_of y.what.command ≡ set_attributes
    → NoneAt y.what.unit ys
    → (before : List ℕ) × Singly t.units xs before × ((without : List ℕ) × Singly before ys without
    × (n.units ≡ attributed y.what.unit (new_method y.sent) (new_tag y.sent) without))
attributes_apart_run t es n sound ran xs y ys split good code page none =
    let all = subst (λ (zs : List Done). Singly t.units zs n.units) split (sequence t es n sound ran).singly in
    let p = singly_split xs (y ∷ ys) t.units n.units all in
    let before = p.0 in
    let full = singly_length xs t.units before sound.units_length p.1 in
    let g = good_attributes before full y.what y.sent y.clock (ap is_good p.2.0 ∙ good) code page in
    let after = subst (λ (z : List ℕ). Singly z ys n.units) g.1 p.2.2 in
    (before, p.1, singly_apart ys before y.what.unit y.sent g.0 none n.units after)

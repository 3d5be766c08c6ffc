-- What the key history of a set says is what the calls go by, at every unit of the set: page 0011h shows its valid versions, IN 0012h wants
-- its pending exchange, and a right credential under its key is accepted.
use Rattle.std.specs.Prelude.{◌≡◌, refl, Bool, false, List, [], ◌∷◌, ◌++◌, ℕ, ◌+◌, ◌/◌, ◌%◌, ◌^◌, ◌<◌, length, get_or, take}
use Rattle.std.proofs.Common.{sym, ◌∙◌, subst, append_assoc, arith, zero-add, length-append, get_or-take, get_or-append-add}
use Rattle.std.proofs.Math.Path.{ap}
use Rattle.std.proofs.Math.Bool.{true}
use Rattle.std.proofs.Math.Option.{Option, none, some}
use Rattle.std.proofs.Math.Dec.{eqb}
use borrow.Author.Tests.{eqb-false, eq-eqb}
use Rattle.choice.specs.Choice.{both, pick}
use Rattle.choice.specs.ChoiceLaws.{second_false}
use Rattle.wire.specs.Bytes.{number, bytes_of}
use Rattle.wire.proofs.NumberLaws.{number_ext, bytes_length}
use Rattle.model.specs.Protocol.{protocol_in, attributes_in, seed_in}
use Rattle.model.specs.Rows.{is_master}
use Rattle.model.specs.Codes.{legal_len}
use Rattle.model.specs.Answers.{is_a, is_refused, is_malformed, count_in}
use Rattle.model.specs.declared.Answer.{Answer}
use Rattle.units.specs.declared.UnitState.TheVariants.{Used}
use Rattle.units.specs.Unit.{method, policy_tag, mask, step, is_valid, working_key, auth_key_of, next_auth_key, unit_at, keeper_of, key_set_of, unit_state}
use Rattle.units.proofs.UnitLaws.{used_sound, used_has, keeps_has}
use Rattle.judge.specs.Command.{code_of, page_of, need_for, is_change, descriptor_of}
use Rattle.judge.specs.Descriptor.{key_version}
use Rattle.judge.specs.Keys.{key_found, key_used}
use Rattle.judge.specs.Seen.{seen}
use Rattle.judge.specs.Judgement.{rules_for, protocol_tests, page_tests, open_reason}
use Rattle.judge.proofs.TestLaws.{NoneApply}
use Rattle.judge.proofs.JudgementLaws.{none_refuse, open_passed}
use Rattle.judge.specs.Checked.{Checked}
use Rattle.judge.proofs.AcceptedLaws.{accepted}
use Rattle.pages.specs.In.{attributes_page, in_page}
use Rattle.pages.proofs.BitLaws.{bytes_bit}
use Rattle.calls.specs.Outcome.{Tables, lent}
use Rattle.calls.specs.Whole.{Asked}
use Rattle.runs.specs.Run.{Call, opens, is_command, Event, Meets, Ran, SoundTables}
use Rattle.runs.specs.Ledger.{ledger_of, starts, Done, dones, command_of, clock_of}
use Rattle.runs.proofs.Named.{reply_counted}
use Rattle.runs.specs.History.{KeySet, Says, start_keys, key_command, is_key_command, history, keys_before, key_said, key_for}
use Rattle.runs.proofs.GoodChecked.{version_small, history_said}
use Rattle.runs.proofs.Engineer.{refused_unless}

-- ---- units with the same keeper have the same history

same_history : (units : List ℕ) (u w : ℕ) → keeper_of units u ≡ keeper_of units w → (k : KeySet) (xs : List Done)
    → history units u k xs ≡ history units w k xs
same_history units u w e k [] = refl
same_history units u w e k (x ∷ xs) =
    rw e (same_history units u w e (pick (is_key_command units w x) (key_command (page_of x.what.command) x.sent k) k) xs)

pub one_history : (t : Tables) (es : List Event) (u w : ℕ) → keeper_of t.units u ≡ keeper_of t.units w
    → keys_before t es u ≡ keys_before t es w
unfolding key_set_of
one_history t es u w e =
    same_history t.units u w e (start_keys (key_set_of t.units u)) (dones (starts t.slots) es)
    ∙ ap (λ (p : ℕ). history t.units w (start_keys (unit_at p t.units)) (dones (starts t.slots) es)) e

-- ---- page 0011h: of an open that is answered with all twelve bytes of it, bit v of the mask is set just where the history has a key

abbrev is_some : Option (List ℕ) → Bool
is_some none = false
is_some (some key) = true

-- what stands before the mask, and the mask
head : List ℕ → List ℕ
head own = bytes_of 2 attributes_in ++ (bytes_of 2 8 ++ (bytes_of 2 (method own) ++ bytes_of 4 (policy_tag own)))

head_length : (own : List ℕ) → length (head own) ≡ 10
unfolding head
head_length own = simp (length-append, bytes_length)

page_parts : (own keys : List ℕ) → in_page attributes_in own keys ≡ head own ++ bytes_of 2 (mask keys)
unfolding in_page attributes_page head
page_parts own keys = simp (append_assoc, length-append, bytes_length)

module _ (own keys r : List ℕ) (front : take 12 r ≡ take 12 (in_page attributes_in own keys)) where
  mask_byte : (i : ℕ) → i < 2 → get_or r (10 + i) 0 ≡ get_or (bytes_of 2 (mask keys)) (0 + i) 0
  mask_byte i h =
      let page = in_page attributes_in own keys in
      let long = head_length own in
      sym (get_or-take 12 r (10 + i) 0 (omega arith)) ∙ ap (λ (l : List ℕ). get_or l (10 + i) 0) front ∙ get_or-take 12 page (10 + i) 0 (omega arith)
      ∙ ap (λ (l : List ℕ). get_or l (10 + i) 0) (page_parts own keys)
      ∙ ap (λ (n : ℕ). get_or (head own ++ bytes_of 2 (mask keys)) (n + i) 0) (sym long)
      ∙ get_or-append-add (head own) (bytes_of 2 (mask keys)) i 0 ∙ ap (λ (n : ℕ). get_or (bytes_of 2 (mask keys)) n 0) (sym (zero-add i))

  mask_bit : (v : ℕ) → v < 16 → eqb (number 2 10 r / 2 ^ v % 2) 1 ≡ is_valid v keys
  unfolding is_valid
  mask_bit v h =
      ap (λ (x : ℕ). eqb (x / 2 ^ v % 2) 1) (number_ext 2 10 0 r (bytes_of 2 (mask keys)) mask_byte)
      ∙ ap (λ (x : ℕ). eqb x 1) (bytes_bit v (mask keys) h)

some_where : (b : Bool) (key : List ℕ) → is_some (pick b (some key) none) ≡ b
some_where true key = refl
some_where false key = refl

pub mask_shown : (t : Tables) (es : List Event) (m : Tables) → SoundTables t → Ran t es m → (x : Asked) (clock : ℕ) (reply : List ℕ)
    (a : Answer) (r : List ℕ) (n : Tables) → Meets m (opens x clock reply) a r n → is_a 0 a ≡ true → page_of x.command ≡ attributes_in
    → count_in a ≡ 12
    → (v : ℕ) → v < 16 → eqb (number 2 10 r / 2 ^ v % 2) 1 ≡ is_some ((keys_before t es x.unit).working v)
mask_shown t es m sound ran x clock reply a r n meets good page twelve v h =
    let s = seen m.units x.unit in
    let counted = reply_counted (lent m reply) x clock a (lent n r) meets good in
    let front : take 12 r ≡ take 12 (in_page attributes_in s.own s.keys) = rw (twelve, page) at counted.front in
    let said = (history_said t es m sound ran x.unit).working v h in
    mask_bit s.own s.keys r front v h ∙ sym (ap is_some said ∙ some_where (is_valid v s.keys) (working_key v s.keys))

-- ---- IN 0012h: where nothing refuses one, a seed exchange is pending in the unit's set, by the history

step_one : (n : ℕ) → eqb n 0 ≡ false → n < 2 → eqb n 1 ≡ true
step_one n e h = let ne = eqb-false n 0 e in eq-eqb n 1 (omega arith)

module _ (t : Tables) (es : List Event) (m : Tables) (sound : SoundTables t) (ran : Ran t es m) where
  pub seed_pending : (x : Asked) (clock : ℕ) → open_reason (seen m.units x.unit) x.command x.token clock ≡ 0
      → code_of x.command ≡ protocol_in → page_of x.command ≡ seed_in → (keys_before t es x.unit).pending ≡ true
  unfolding page_tests key_set_of
  seed_pending x clock passes code page =
      let s = seen m.units x.unit in
      let keeper = keeper_of m.units x.unit in
      let none = (none_refuse s x.command x.token clock passes).page.1.0 in
      let in-seed : both (eqb (code_of x.command) protocol_in) (eqb (page_of x.command) seed_in) ≡ true =
      rw (eq-eqb (code_of x.command) protocol_in code, eq-eqb (page_of x.command) seed_in page) in
      let used = used_has m.units x.unit (open_passed s x.command x.token clock passes).used in
      let small = (used_sound keeper (unit_at keeper m.units) (keeps_has m.units keeper used.1).0).pending in
      (history_said t es m sound ran x.unit).pending ∙ step_one (step s.keys) (second_false _ (eqb (step s.keys) 0) in-seed none) (omega arith)

  -- so at any step one is refused while none is
  module _ (k : Call) (a : Answer) (r : List ℕ) (n : Tables) (meets : Meets m k a r n) (command : is_command k ≡ true)
      (formed : is_malformed a ≡ false)
      (x : Asked) (about : command_of (ledger_of (starts t.slots) es) k ≡ some x) where
    pub unpending_refused : code_of x.command ≡ protocol_in → page_of x.command ≡ seed_in → (keys_before t es x.unit).pending ≡ false
        → is_refused a ≡ true
    unpending_refused code page off =
        refused_unless t es m sound ran k a r n meets command formed x about
        (λ z. let q : true ≡ false = sym (seed_pending x (clock_of k) z code page) ∙ off in let o : ◌≡◌ {A = ℕ} 0 1 = cc in omega arith)

-- ---- a right credential under the key that the history names is refused for no reason of 1 to 17, at the keeper and at every sharer

pick_some : (b : Bool) (x y : List ℕ) → pick b (some x) none ≡ some y → (b ≡ true) × (x ≡ y)
pick_some true x y e = (refl, cc)
pick_some false x y e = let z : ◌≡◌ {A = ℕ} 0 1 = cc in absurd (omega arith)

said_key : (keys : List ℕ) (k : KeySet) → Says k keys → (master change : Bool) (v : ℕ) → v < 16 → (key : List ℕ)
    → key_said k master change v ≡ some key → (key_found keys master change v ≡ true) × (key_used keys master change v ≡ key)
unfolding key_found key_used key_said
said_key keys k says true true v h key e = pick_some _ (next_auth_key keys) key (rw (says.pending, says.next_auth) at e)
said_key keys k says true false v h key e = pick_some _ (auth_key_of keys) key (rw says.auth at e)
said_key keys k says false change v h key e = pick_some (is_valid v keys) (working_key v keys) key (sym (says.working v h) ∙ e)

pub said_accepted : (t : Tables) (es : List Event) (m : Tables) → SoundTables t → Ran t es m → (x : Asked) (clock : ℕ) → x.unit < 8
    → unit_state m.units x.unit ≡ Used → legal_len (code_of x.command) (length x.command) ≡ true
    → NoneApply (protocol_tests x.command) → rules_for (unit_at x.unit m.units) x.command ≡ true
    → (key : List ℕ) → key_for (keys_before t es x.unit) x.command ≡ some key
    → Checked (unit_at x.unit m.units) key x.command x.token clock
    → NoneApply (page_tests (key_set_of m.units x.unit) x.command)
    → open_reason (seen m.units x.unit) x.command x.token clock ≡ 0
said_accepted t es m sound ran x clock small used legal protocol rules key said checked page =
    let s = seen m.units x.unit in
    let c = x.command in
    let v = key_version (descriptor_of c) in
    let h = version_small (descriptor_of c) in
    let says = history_said t es m sound ran x.unit in
    let q = said_key s.keys (keys_before t es x.unit) says (is_master (need_for c)) (is_change c) v h key said in
    accepted s c x.token clock small used legal protocol rules q.0
    (subst (λ (z : List ℕ). Checked s.own z c x.token clock) (sym q.1) checked) page

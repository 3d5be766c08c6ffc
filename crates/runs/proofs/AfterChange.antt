-- After a GOOD Change in its key set, and until that version is set again there, no command of a working row is GOOD where CAPKEY rules.
use Rattle.std.specs.Prelude.{◌≡◌, refl, Bool, true, false, List, [], ◌∷◌, ◌++◌, ℕ, eqb}
use Rattle.std.proofs.Common.{ap, ◌∙◌}
use Rattle.std.proofs.Math.Option.{none, some}
use Rattle.choice.specs.Choice.{both, pick}
use Rattle.model.specs.Protocol.{seed_exchange, set_key, change_master}
use Rattle.model.specs.Rows.{is_master, is_open_row}
use Rattle.model.specs.Answers.{is_refused, is_malformed}
use Rattle.model.specs.declared.Answer.{Answer}
use Rattle.units.specs.Unit.{unit_at, key_set_of}
use Rattle.judge.specs.Command.{page_of, need_for, is_change, descriptor_of}
use Rattle.judge.specs.Descriptor.{key_version}
use Rattle.judge.specs.Judgement.{rules_for}
use Rattle.pages.specs.Out.{new_version, seed, agreed}
use Rattle.calls.specs.Outcome.{Tables}
use Rattle.calls.specs.Whole.{Asked}
use Rattle.runs.specs.Run.{Call, Event, Meets, Ran, SoundTables, is_command}
use Rattle.runs.specs.Ledger.{ledger_of, starts, Done, command_of, dones}
use Rattle.runs.specs.History.{KeySet, start_keys, version_set, seed_exchanged, master_changed, key_command, is_key_command, history, key_said, NoneSets}
use Rattle.runs.proofs.Engineer.{keyless_refused}

history_append : (units : List ℕ) (u : ℕ) (xs ys : List Done) (k : KeySet)
    → history units u k (xs ++ ys) ≡ history units u (history units u k xs) ys
history_append units u [] ys k = refl
history_append units u (x ∷ xs) ys k =
    history_append units u xs ys (pick (is_key_command units u x) (key_command (page_of x.what.command) x.sent k) k)

-- a version without a key stays so
command_keeps : (page v : ℕ) (d : List ℕ) (k : KeySet) → k.working v ≡ none → both (eqb page set_key) (eqb v (new_version d)) ≡ false
    → (key_command page d k).working v ≡ none
unfolding key_command
command_keeps page v d k n s = by_page_lem (eqb page set_key) (eqb page seed_exchange) (eqb page change_master) (eqb v (new_version d)) refl s
  where
    by_page_lem : (a b c w : Bool) → eqb v (new_version d) ≡ w → both a w ≡ false
        → (pick a (version_set (new_version d) (seed d) k) (pick b (seed_exchanged (agreed d) k) (pick c (master_changed k) k))).working v ≡ none
    by_page_lem true b c w e q = rw (e, q) n
    by_page_lem false true c w e q = n
    by_page_lem false false true w e q = refl
    by_page_lem false false false w e q = n

stays_none : (units : List ℕ) (u v : ℕ) (xs : List Done) (k : KeySet) → k.working v ≡ none → NoneSets units u v xs
    → (history units u k xs).working v ≡ none
stays_none units u v [] k n s = n
stays_none units u v (x ∷ xs) k n s = stays_none units u v xs _ (one (is_key_command units u x) s.0) s.1
  where
    one : (b : Bool) → both b (both (eqb (page_of x.what.command) set_key) (eqb v (new_version x.sent))) ≡ false
        → (pick b (key_command (page_of x.what.command) x.sent k) k).working v ≡ none
    one true q = command_keeps (page_of x.what.command) v x.sent k n q
    one false q = n

-- Change leaves no version with a key
change_clears : (page v : ℕ) (d : List ℕ) (k : KeySet) → page ≡ change_master → (key_command page d k).working v ≡ none
unfolding key_command
change_clears page v d k e = rw e

pub changed_none : (units : List ℕ) (u v : ℕ) (k : KeySet) (xs : List Done) (y : Done) (ys : List Done) → is_key_command units u y ≡ true
    → page_of y.what.command ≡ change_master → NoneSets units u v ys → (history units u k (xs ++ (y ∷ ys))).working v ≡ none
changed_none units u v k xs y ys good page s =
    ap (λ (z : KeySet). z.working v) (history_append units u xs (y ∷ ys) k)
    ∙ stays_none units u v ys _ (rw good (change_clears (page_of y.what.command) v y.sent (history units u k xs) page)) s

working_said : (k : KeySet) (master change : Bool) (v : ℕ) → master ≡ false → key_said k master change v ≡ k.working v
unfolding key_said
working_said k master change v e = rw e

-- at any step of any run from sound tables, a GOOD Change in the key set of the command's unit among the commands before it, and no GOOD
-- Set Key of the command's version there since: a guarded command of a working row is refused where CAPKEY rules
pub ended_by_change :
    (t : Tables) (es : List Event) (m : Tables) (sound : SoundTables t) (ran : Ran t es m) (k : Call) (a : Answer) (r : List ℕ) (n : Tables)
    (meets : Meets m k a r n) (command : is_command k ≡ true) (formed : is_malformed a ≡ false) (x : Asked)
    (about : command_of (ledger_of (starts t.slots) es) k ≡ some x) (xs : List Done) (y : Done) (ys : List Done)
    → rules_for (unit_at x.unit m.units) x.command ≡ true → is_open_row (need_for x.command) ≡ false
    → is_master (need_for x.command) ≡ false
    → dones (starts t.slots) es ≡ xs ++ (y ∷ ys)
    → is_key_command t.units x.unit y ≡ true → page_of y.what.command ≡ change_master
    → NoneSets t.units x.unit (key_version (descriptor_of x.command)) ys
    → is_refused a ≡ true
ended_by_change t es m sound ran k a r n meets command formed x about xs y ys rules guarded working split good page unset =
    let u = x.unit in
    let v = key_version (descriptor_of x.command) in
    let start = start_keys (key_set_of t.units u) in
    keyless_refused t es m sound ran k a r n meets command formed x about rules guarded
    (working_said (history t.units u start (dones (starts t.slots) es)) (is_master (need_for x.command)) (is_change x.command) v working
    ∙ ap (λ (zs : List Done). (history t.units u start zs).working v) split
    ∙ changed_none t.units u v start xs y ys good page unset)

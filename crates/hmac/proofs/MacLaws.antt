-- Laws of a running HMAC, over any hash and any running state: started, fed, fed parts one after another, finished.
use Rattle.std.specs.Prelude.{ℕ, ◌≡◌}
use Rattle.std.proofs.Math.Path.{sym, ap, subst}
use Rattle.std.proofs.Common.{◌∙◌}
use mathlib.Core.List.{List, [], ◌++◌, append_assoc, append-nil}
use Rattle.md.specs.Parts.{Takes, TakesAll, joined}
use Rattle.md.proofs.PartsLaws.{parts_whole}
use Rattle.hmac.specs.Hmac.{Hash, ipad, opad, key_block, masked, inner_text, outer_text, hmac}
use Rattle.hmac.specs.Mac.{Passes, Finishes}

module _ (h : Hash) {R : Type 0} (Holds : R → List ℕ → Type 0) where
  -- two hashes that have taken in the masked key
  pub mac_started : {inner outer : R} {k i o : List ℕ} → Holds inner i → Holds outer o
      → i ≡ masked ipad (key_block h k) → o ≡ masked opad (key_block h k) → Passes h Holds inner outer k []
  unfolding inner_text
  mac_started {inner} {outer} {k} hi ho ei eo =
      record {
        inside = subst (Holds inner) (ei ∙ sym (append-nil (masked ipad (key_block h k)))) hi;
        outside = subst (Holds outer) eo ho;
      }

  -- the inner hash takes in a part
  pub mac_fed : {inner inner' outer : R} {k m p : List ℕ} → Passes h Holds inner outer k m → Takes Holds inner p inner'
      → Passes h Holds inner' outer k (m ++ p)
  unfolding inner_text
  mac_fed {m = m} {p = p} s t = record { inside = rw append_assoc at (t _ s.inside); outside = s.outside }

  -- parts fed one after another give the whole
  pub mac_parts : {inner inner' outer : R} {k m : List ℕ} {ps : List (List ℕ)} → Passes h Holds inner outer k m
      → TakesAll Holds inner ps inner'
      → Passes h Holds inner' outer k (m ++ joined ps)
  mac_parts s ts = mac_fed s (parts_whole Holds ts)

  -- the inner digest goes into the outer hash, whose digest is the result
  pub mac_finished : {inner outer outer' : R} {k m d d' : List ℕ} → Passes h Holds inner outer k m → Finishes h Holds inner d
      → Takes Holds outer d outer' → Finishes h Holds outer' d' → d' ≡ hmac h k m
  unfolding hmac outer_text
  mac_finished {k = k} s fi t fo =
      fo _ (t _ s.outside) ∙ ap (λ (x : List ℕ). h.digest (masked opad (key_block h k) ++ x)) (fi _ s.inside)

-- Laws of the running state: the three ways in which it takes in a part, and how a message ends.
use Rattle.std.specs.Prelude.{ℕ, ◌+◌, ◌-◌, ◌*◌, ◌/◌, ◌%◌, ◌^◌, ◌≤◌, ◌<◌, ◌≡◌, List, ◌++◌, length, take, drop}
use Rattle.std.proofs.Common.{sym, ap, ◌∙◌, subst, append_assoc, arith, length-drop, take-append-drop, take_all, length-take-le, take-take}
use Rattle.std.proofs.Math.Seq.{paste}
use Rattle.std.proofs.lemmas.List.Edits.{take-paste}
use Rattle.md.specs.Chain.{absorb, Taken}
use Rattle.md.proofs.ChainLaws.{absorb_block}
use Rattle.md.proofs.FeedLaws.{feed_short, feed_full, feed_aligned, absorb_end}
use Rattle.md.specs.Padding.{padding}
use Rattle.md.specs.Parts.{Takes}
use Rattle.fips180.specs.declared.block.State.{State}
use Rattle.fips180.specs.declared.Running.{Running}
use Rattle.fips180.specs.Sha1.{compressed, initial, digest_of, blocks, sha1}
use Rattle.fips180.specs.Running.{Holds, Continued}

-- ---- numbers: a part is what fills the buffer and then the rest

boundary : (t fill room : ℕ) → fill ≡ t % 64 → room ≡ 64 - fill → (t + room) % 2 ^ 64 % 64 ≡ 0
boundary t fill room p q = omega arith

count_both : (t room n c : ℕ) → room ≤ n → c ≡ (t + n) % 2 ^ 64 → c ≡ ((t + room) % 2 ^ 64 + (n - room)) % 2 ^ 64
count_both t room n c h e = omega arith

rest_fits : (n : ℕ) → n - n / 64 * 64 ≡ n % 64
rest_fits n = omega arith

-- ---- the rest goes into the buffer

pub continued : (h : State) (p old t : List ℕ) (n : ℕ) (r : Running) → length old ≡ 64 → t ≡ drop (length p / 64 * 64) p
    → r.state ≡ absorb compressed (length p / 64) h p → r.buffer ≡ paste old 0 t (length t) → r.total ≡ n → Continued h p n r
continued h p old t n r full et es eb en =
    let el : length p % 64 ≡ 0 + length t = sym (ap length et ∙ length-drop (length p / 64 * 64) p ∙ rest_fits (length p)) ∙ omega arith in
    record {
      state = es;
      buffer =
          ap (λ (x : List ℕ). take (length p % 64) x) eb ∙ ap (λ (x : ℕ). take x (paste old 0 t (length t))) el
          ∙ take-paste old 0 t (length t) (omega arith) (omega arith) ∙ take_all (length t) t (omega arith) ∙ et;
      total = en;
    }

-- ---- the three ways

module _ (r t : Running) (part : List ℕ) (n : ℕ) (en : n ≡ (r.total + length part) % 2 ^ 64) where
  -- from a block's end
  pub take_aligned : r.total % 64 ≡ 0 → Continued r.state part n t → Takes Holds r part t
  take_aligned at k m h =
      feed_aligned compressed initial r.state r.buffer r.total m part h t.buffer t.state t.total at k.state k.buffer (k.total ∙ en)

  -- into the buffer's room
  pub take_short : length r.buffer ≡ 64 → r.total % 64 + length part < 64 → t.state ≡ r.state
      → t.buffer ≡ paste r.buffer (r.total % 64) part (length part) → t.total ≡ n → Takes Holds r part t
  take_short full room es eb et m h =
      subst (λ (s : State). Taken compressed initial s t.buffer t.total (m ++ part)) (sym es)
      (feed_short compressed initial r.state r.buffer r.total m part h t.buffer t.total full room eb (et ∙ en))

  -- the buffer is filled, and the rest goes on from the block's end
  pub take_long : (fill room : ℕ) (filled : List ℕ) (first : State) → length r.buffer ≡ 64 → length filled ≡ 64 → fill ≡ r.total % 64
      → room ≡ 64 - fill → room ≤ length part → filled ≡ paste r.buffer fill (take room part) (length (take room part))
      → first ≡ absorb compressed (length filled / 64) r.state filled → Continued first (drop room part) n t → Takes Holds r part t
  take_long fill room filled first full whole ef er hr eb eh k m h =
      let p : List ℕ = take room part in
      let q : List ℕ = drop room part in
      let lp : length p ≡ room = length-take-le room part hr in
      let lq : length q ≡ length part - room = length-drop room part in
      let mid : ℕ = (r.total + room) % 2 ^ 64 in
      let e₁ : filled ≡ paste r.buffer (r.total % 64) p (length p) = eb ∙ ap (λ (x : ℕ). paste r.buffer x p (length p)) ef in
      let h₁ : Taken compressed initial first filled mid (m ++ p) =
      feed_full compressed initial r.state r.buffer r.total m p h filled filled first mid full (omega arith) e₁
      (eh ∙ absorb_block compressed r.state filled whole) (ap (λ (x : ℕ). (r.total + x) % 2 ^ 64) (sym lp)) in
      let en₂ : t.total ≡ (mid + length q) % 2 ^ 64 =
      k.total ∙ count_both r.total room (length part) n hr en ∙ ap (λ (x : ℕ). (mid + x) % 2 ^ 64) (sym lq) in
      let h₂ : Taken compressed initial t.state t.buffer t.total ((m ++ p) ++ q) =
      feed_aligned compressed initial first filled mid (m ++ p) q h₁ t.buffer t.state t.total (boundary r.total fill room ef er) k.state k.buffer en₂ in
      subst (λ (x : List ℕ). Holds t x) (append_assoc m p q ∙ ap (λ (x : List ℕ). m ++ x) (take-append-drop room part)) h₂

-- ---- the end

-- what is left of a message, padded, is absorbed from the state that the message's whole blocks gave
pub finished : (h v : State) (tail b : List ℕ) (total : ℕ) (m : List ℕ) → length tail ≡ total % 64 → b ≡ tail ++ padding total
    → v ≡ absorb compressed (length b / 64) h b → Taken compressed initial h tail total m → digest_of v ≡ sha1 m
unfolding sha1 blocks
finished h v tail b total m et eb ev k =
    ap digest_of (ev ∙ ap (λ (x : List ℕ). absorb compressed (length x / 64) h x) eb ∙ absorb_end compressed initial h tail total m k et)

filled : (total l fill : ℕ) → fill ≡ total % 64 → total ≡ l % 2 ^ 64 → l % 64 ≡ fill
filled total l fill ef et = omega arith

pub buffer_cut : (h : State) (buffer : List ℕ) (total fill : ℕ) (m : List ℕ) → fill ≡ total % 64 → Taken compressed initial h buffer total m
    → Taken compressed initial h (take fill buffer) total m
buffer_cut h buffer total fill m ef k =
    let e : length m % 64 ≡ fill = filled total (length m) fill ef k.count in
    record {
      count = k.count;
      whole = k.whole;
      rest = take-take (length m % 64) fill buffer (omega arith) ∙ k.rest;
    }

-- Attributes and keys stay apart: Set Attributes and what a key command makes of a key set, done to one record, can change places.
use Rattle.std.specs.Prelude.{◌≡◌, ◌⊎◌, Bool, replicate}
use Rattle.std.proofs.Math.Path.{refl, sym, ap}
use Rattle.std.proofs.Common.{◌∙◌, inl, inr, arith, eqb-true}
use Rattle.std.proofs.Math.Bool.{true, false}
use mathlib.Core.List.{List, ◌++◌}
use Prim.Native.Nat.{ℕ, ◌+◌, ◌*◌, ◌≤◌, ◌<◌}
use Rattle.std.proofs.Math.Dec.{eqb}
use Rattle.std.proofs.Math.ListN.{length}
use Rattle.std.proofs.lemmas.List.{length-replicate}
use Rattle.choice.specs.Choice.{pick}
use Rattle.wire.specs.Bytes.{bytes_of, patch}
use Rattle.wire.proofs.PatchLaws.{length_patch, patch_swap}
use Rattle.wire.proofs.NumberLaws.{bytes_length}
use Rattle.hmac.specs.Hmac.{hmac, by_sha1}
use Rattle.seal.specs.Seal.{seal}
use Rattle.seal.specs.SealLaws.{seal_length}
use Rattle.model.specs.Protocol.{seed_exchange, set_key, change_master}
use Rattle.units.specs.Unit.{mask, gen_key_of, next_auth_key, next_gen_key}
use Rattle.pages.specs.Out.{new_version, seed, agreed, wrong_list}
use Rattle.pages.proofs.OutLaws.{right_version}
use Rattle.pages.specs.Effects.{attributes_set, with_bit, working_key_set, next_auth, next_gen, exchanged, changed, new_keys}
use Rattle.pages.proofs.RecordLaws.{Alike, seal_alike, alike_patch, seal_same}
use Rattle.pages.proofs.EffectLaws.{mac_length, pair_length, auth_length, generation_length, next_auth_length, next_generation_length}
use Rattle.pages.proofs.EffectLaws.{attributes_master, attributes_next, attributes_working}

module _ (m t : ℕ) where
  -- method and tag, before the check
  with : List ℕ → List ℕ
  with l = patch (patch l 4 (bytes_of 2 m)) 8 (bytes_of 4 t)

  -- a change of a record that touches neither, nor the check: it can change places with them
  record Passes (f : List ℕ → List ℕ) : Type 0 where
    long : (l : List ℕ) → length l ≡ 512 → length (f l) ≡ 512
    alike : (l x : List ℕ) → length l ≡ 512 → length x ≡ 512 → Alike 0 492 l x → Alike 0 492 (f l) (f x)
    pass : (l : List ℕ) → length l ≡ 512 → with (f l) ≡ f (with l)

  module _ (a : ℕ) (ys : List ℕ) (n : ℕ) (ly : length ys ≡ n) (room : a + n ≤ 512) where
    patched_long : (l : List ℕ) → length l ≡ 512 → length (patch l a ys) ≡ 512
    patched_long l full = length_patch l a ys (omega arith) ∙ full

    patched_alike : (l x : List ℕ) → length l ≡ 512 → length x ≡ 512 → Alike 0 492 l x → Alike 0 492 (patch l a ys) (patch x a ys)
    patched_alike l x el ex same = alike_patch el ex same a ys (omega arith)

    -- behind the method, and before or behind the tag
    module _ (behind : 6 ≤ a) where
      swap_method : (l : List ℕ) → length l ≡ 512 → patch (patch l a ys) 4 (bytes_of 2 m) ≡ patch (patch l 4 (bytes_of 2 m)) a ys
      swap_method l full =
          let lm : length (bytes_of 2 m) ≡ 2 = bytes_length 2 m in
          sym (patch_swap l 4 (bytes_of 2 m) a ys (omega arith) (omega arith))

      swap_tag : (l : List ℕ) → length l ≡ 512 → (a + n ≤ 8) ⊎ (12 ≤ a)
          → patch (patch l a ys) 8 (bytes_of 4 t) ≡ patch (patch l 8 (bytes_of 4 t)) a ys
      swap_tag l full (inl h) =
          let lt : length (bytes_of 4 t) ≡ 4 = bytes_length 4 t in
          patch_swap l a ys 8 (bytes_of 4 t) (omega arith) (omega arith)
      swap_tag l full (inr h) =
          let lt : length (bytes_of 4 t) ≡ 4 = bytes_length 4 t in
          sym (patch_swap l 8 (bytes_of 4 t) a ys (omega arith) (omega arith))

  one_long : (l : List ℕ) → length l ≡ 512 → length (patch l 4 (bytes_of 2 m)) ≡ 512
  one_long = patched_long 4 (bytes_of 2 m) 2 (bytes_length 2 m) (omega arith)

  with_long : (l : List ℕ) → length l ≡ 512 → length (with l) ≡ 512
  unfolding with
  with_long l full = patched_long 8 (bytes_of 4 t) 4 (bytes_length 4 t) (omega arith) (patch l 4 (bytes_of 2 m)) (one_long l full)

  with_alike : (l x : List ℕ) → length l ≡ 512 → length x ≡ 512 → Alike 0 492 l x → Alike 0 492 (with l) (with x)
  unfolding with
  with_alike l x el ex same =
      patched_alike 8 (bytes_of 4 t) 4 (bytes_length 4 t) (omega arith) (patch l 4 (bytes_of 2 m)) (patch x 4 (bytes_of 2 m)) (one_long l el) (one_long x ex)
      (patched_alike 4 (bytes_of 2 m) 2 (bytes_length 2 m) (omega arith) l x el ex same)

  patch_passes : (a : ℕ) (ys : List ℕ) (n : ℕ) → length ys ≡ n → a + n ≤ 512 → 6 ≤ a → (a + n ≤ 8) ⊎ (12 ≤ a) → Passes (λ l. patch l a ys)
  unfolding with
  patch_passes a ys n ly room behind apart =
      record {
        long = patched_long a ys n ly room;
        alike = patched_alike a ys n ly room;
        pass =
            λ l full. ap (λ (x : List ℕ). patch x 8 (bytes_of 4 t)) (swap_method a ys n ly room behind l full)
            ∙ swap_tag a ys n ly room behind (patch l 4 (bytes_of 2 m)) (one_long l full) apart;
      }

  then_passes : (f g : List ℕ → List ℕ) → Passes f → Passes g → Passes (λ l. g (f l))
  then_passes f g p q =
      record {
        long = λ l full. q.long (f l) (p.long l full);
        alike = λ l x el ex same. q.alike (f l) (f x) (p.long l el) (p.long x ex) (p.alike l x el ex same);
        pass = λ l full. q.pass (f l) (p.long l full) ∙ ap g (p.pass l full);
      }

  -- what the check is made over is the same either way
  commutes : (f : List ℕ → List ℕ) → Passes f → (rec : List ℕ) → length rec ≡ 512
      → attributes_set m t (seal (f rec)) ≡ seal (f (attributes_set m t rec))
  unfolding attributes_set with
  commutes f p rec full =
      let lf = p.long rec full in
      let lw = with_long rec full in
      let ls : length (seal (f rec)) ≡ 512 = seal_length (f rec) lf in
      let lt : length (seal (with rec)) ≡ 512 = seal_length (with rec) lw in
      seal_same (with (seal (f rec))) (with (f rec)) (with_long (seal (f rec)) ls) (with_long (f rec) lf)
      (with_alike (seal (f rec)) (f rec) ls lf (seal_alike (f rec) lf 0 492 (omega arith)))
      ∙ ap seal (p.pass rec full)
      ∙ sym (seal_same (f (seal (with rec))) (f (with rec)) (p.long (seal (with rec)) lt) (p.long (with rec) lw)
      (p.alike (seal (with rec)) (with rec) lt lw (seal_alike (with rec) lw 0 492 (omega arith))))

  -- ---- each effect: the keys that it is made from are as they were

  module _ (rec : List ℕ) (full : length rec ≡ 512) where
    key_commutes : (v : ℕ) (s : List ℕ) → v < 16 → attributes_set m t (working_key_set v s rec) ≡ working_key_set v s (attributes_set m t rec)
    unfolding working_key_set
    key_commutes v s hv =
        let mask_bytes = bytes_of 2 (with_bit v (mask rec)) in
        let key = hmac by_sha1 (gen_key_of rec) s in
        rw ((attributes_master m t rec full).same_generation, (attributes_working m t rec full).same_mask)
        (commutes (λ l. patch (patch l 6 mask_bytes) (112 + 20 * v) key)
        (then_passes (λ l. patch l 6 mask_bytes) (λ l. patch l (112 + 20 * v) key)
        (patch_passes 6 mask_bytes 2 (bytes_length 2 (with_bit v (mask rec))) (omega arith) (omega arith) (inl (omega arith)))
        (patch_passes (112 + 20 * v) key 20 (mac_length (gen_key_of rec) s) (omega arith) (omega arith) (inr (omega arith))))
        rec full)

    same_next_pair : (value : List ℕ)
        → (next_auth value (attributes_set m t rec) ≡ next_auth value rec) × (next_gen value (attributes_set m t rec) ≡ next_gen value rec)
    unfolding next_auth next_gen
    same_next_pair value =
        let a = attributes_master m t rec full in
        (rw (a.same_generation, a.same_identifier), rw (a.same_generation, a.same_identifier))

    exchange_commutes : (value : List ℕ) → attributes_set m t (exchanged value rec) ≡ exchanged value (attributes_set m t rec)
    unfolding exchanged
    exchange_commutes value =
        let pair = next_auth value rec ++ next_gen value rec in
        let long = pair_length (next_auth value rec) (next_gen value rec) (auth_length value rec full) (generation_length value rec full) in
        rw ((same_next_pair value).0, (same_next_pair value).1)
        (commutes (λ l. patch (patch l 12 (bytes_of 4 1)) 72 pair)
        (then_passes (λ l. patch l 12 (bytes_of 4 1)) (λ l. patch l 72 pair)
        (patch_passes 12 (bytes_of 4 1) 4 (bytes_length 4 1) (omega arith) (omega arith) (inr (omega arith)))
        (patch_passes 72 pair 40 long (omega arith) (omega arith) (inr (omega arith))))
        rec full)

    change_commutes : attributes_set m t (changed rec) ≡ changed (attributes_set m t rec)
    unfolding changed
    change_commutes =
        let pair = next_auth_key rec ++ next_gen_key rec in
        let long = pair_length (next_auth_key rec) (next_gen_key rec) (next_auth_length rec full) (next_generation_length rec full) in
        let n = attributes_next m t rec full in
        let unmask = patch_passes 6 (bytes_of 2 0) 2 (bytes_length 2 0) (omega arith) (omega arith) (inl (omega arith)) in
        let unstep = patch_passes 12 (bytes_of 4 0) 4 (bytes_length 4 0) (omega arith) (omega arith) (inr (omega arith)) in
        let put-pair = patch_passes 32 pair 40 long (omega arith) (omega arith) (inr (omega arith)) in
        let clear = patch_passes 72 (replicate 360 0) 360 (length-replicate {A = ℕ} 360 0) (omega arith) (omega arith) (inr (omega arith)) in
        let numbers = then_passes (λ l. patch l 6 (bytes_of 2 0)) (λ l. patch l 12 (bytes_of 4 0)) unmask unstep in
        let masters = then_passes (λ l. patch (patch l 6 (bytes_of 2 0)) 12 (bytes_of 4 0)) (λ l. patch l 32 pair) numbers put-pair in
        let all = then_passes (λ l. patch (patch (patch l 6 (bytes_of 2 0)) 12 (bytes_of 4 0)) 32 pair) (λ l. patch l 72 (replicate 360 0)) masters clear in
        rw (n.same_next_auth, n.same_next_generation)
        (commutes (λ l. patch (patch (patch (patch l 6 (bytes_of 2 0)) 12 (bytes_of 4 0)) 32 pair) 72 (replicate 360 0)) all rec full)

    pub new_commutes : (page : ℕ) (d : List ℕ) → wrong_list page d ≡ false
        → attributes_set m t (new_keys page d rec) ≡ new_keys page d (attributes_set m t rec)
    unfolding new_keys
    new_commutes page d right = by_page_lem (eqb page set_key) (eqb page seed_exchange) (eqb page change_master) refl
      where
        by_page_lem : (a b c : Bool) → eqb page set_key ≡ a
            → (let set : List ℕ = attributes_set m t rec in
            attributes_set m t (pick a (working_key_set (new_version d) (seed d) rec) (pick b (exchanged (agreed d) rec) (pick c (changed rec) rec)))
            ≡ pick a (working_key_set (new_version d) (seed d) set) (pick b (exchanged (agreed d) set) (pick c (changed set) set)))
        by_page_lem true b c e = key_commutes (new_version d) (seed d) (right_version page d (eqb-true page set_key e) right)
        by_page_lem false true c e = exchange_commutes (agreed d)
        by_page_lem false false true e = change_commutes
        by_page_lem false false false e = refl

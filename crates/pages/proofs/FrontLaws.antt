-- Laws of a list's front: the widths are small, and what stands there are the fields that each page is judged and obeyed by.
use Rattle.std.specs.Prelude.{◌≡◌, refl, Bool, true, false, not, List, ℕ, ◌+◌, ◌≤◌, ◌<◌, eqb, ltb, length, take, drop}
use Rattle.std.proofs.Common.{◌∙◌, sym, ap, arith, take_all, length-drop}
use Rattle.choice.specs.Choice.{pick, either}
use Rattle.wire.specs.Bytes.{part, number}
use Rattle.model.specs.Protocol.{set_attributes, seed_exchange, set_key}
use Rattle.model.specs.Totals.{total_of}
use Rattle.pages.specs.Front.{Front, AtFront, first_width, second_width, third_width, FrontOf}
use Rattle.pages.specs.Out.{new_method, new_tag, new_version, seed, group, agreed}
use Rattle.pages.specs.Out.{wrong_attributes, wrong_key, wrong_exchange, wrong_fields, wrong_list}
use Rattle.pages.proofs.OutLaws.{right_version, key_total, exchange_total}
use Rattle.pages.specs.Effects.{attributes_set, working_key_set, exchanged, new_keys}

-- ---- the widths

picked_small : (b : Bool) (x y : ℕ) → x ≤ 4 → y ≤ 4 → pick b x y ≤ 4
picked_small true x y h k = h
picked_small false x y h k = k

module _ (page : ℕ) where
  first_small : first_width page ≤ 4
  unfolding first_width
  first_small =
      picked_small (eqb page set_attributes) 2 _ (omega arith)
      (picked_small (eqb page set_key) 1 _ (omega arith) (picked_small (eqb page seed_exchange) 2 0 (omega arith) (omega arith)))

  second_small : second_width page ≤ 4
  unfolding second_width
  second_small =
      picked_small (eqb page set_attributes) 4 _ (omega arith)
      (picked_small (eqb page set_key) 3 _ (omega arith) (picked_small (eqb page seed_exchange) 2 0 (omega arith) (omega arith)))

  third_small : third_width page ≤ 4
  unfolding third_width
  third_small = picked_small (eqb page set_attributes) 2 0 (omega arith) (omega arith)

  module _ (a b c : ℕ) (e : (a ≡ first_width page) × (b ≡ second_width page) × (c ≡ third_width page)) where
    pub widths_small : (a ≤ 4) × (b ≤ 4) × (c ≤ 4)
    widths_small = (rw e.0 first_small, rw e.1 second_small, rw e.2 third_small)

    pub front_read : (l : List ℕ) (f : Front) → AtFront l a b c f → FrontOf page l f
    front_read l f h = rw (e.0, e.1, e.2) at h

-- ---- what stands at the front of a page's list d

module _ (page : ℕ) (d : List ℕ) (f : Front) (h : FrontOf page d f) where
  attributes_front : page ≡ set_attributes → AtFront d 2 4 2 f
  unfolding first_width second_width third_width
  attributes_front e = rw e at h

  key_front : page ≡ set_key → AtFront d 1 3 0 f
  unfolding first_width second_width third_width
  key_front e = rw e at h

  exchange_front : page ≡ seed_exchange → AtFront d 2 2 0 f
  unfolding first_width second_width third_width
  exchange_front e = rw e at h

  -- how it is judged
  module _ (r : Bool) where
    pub attributes_judged : page ≡ set_attributes → r ≡ either (ltb 1 f.first) (not (eqb f.third 0)) → r ≡ wrong_fields page d
    unfolding wrong_fields wrong_attributes new_method
    attributes_judged e k = let g = attributes_front e in rw e (rw (g.first_read, g.third_read) at k)

    pub key_judged : page ≡ set_key → r ≡ either (ltb 15 f.first) (not (eqb f.second 0)) → r ≡ wrong_fields page d
    unfolding wrong_fields wrong_key new_version
    key_judged e k = let g = key_front e in rw e (rw (g.first_read, g.second_read) at k)

    pub exchange_judged : page ≡ seed_exchange → r ≡ either (not (eqb f.first 0x000E)) (not (eqb f.second 0)) → r ≡ wrong_fields page d
    unfolding wrong_fields wrong_exchange group
    exchange_judged e k = let g = exchange_front e in rw e (rw (g.first_read, g.second_read) at k)

  -- a version that is read is below 16, and a run that is read lies in the list
  pub key_version_lem : page ≡ set_key → wrong_list page d ≡ false → f.first < 16
  unfolding new_version
  key_version_lem e k = rw (key_front e).first_read (right_version page d e k)

  pub key_run : page ≡ set_key → length d ≡ total_of page → (f.run + 20 ≤ length d) × (f.run ≤ 512) × (20 ≤ 512)
  key_run e t =
      let g = key_front e in
      let n = key_total page (length d) e t in
      (omega arith, omega arith, omega arith)

  pub exchange_run : page ≡ seed_exchange → length d ≡ total_of page → (f.run + 256 ≤ length d) × (f.run ≤ 512) × (256 ≤ 512)
  exchange_run e t =
      let g = exchange_front e in
      let n = exchange_total page (length d) e t in
      (omega arith, omega arith, omega arith)

  -- and how it is obeyed: r is the record that is left
  module _ (rec r : List ℕ) where
    pub attributes_obeyed : page ≡ set_attributes → r ≡ attributes_set f.first f.second rec
        → r ≡ attributes_set (new_method d) (new_tag d) rec
    unfolding new_method new_tag
    attributes_obeyed e k = let g = attributes_front e in rw (g.first_read, g.second_read) at k

    pub key_obeyed : (s : List ℕ) → page ≡ set_key → s ≡ part f.run 20 d → r ≡ working_key_set f.first s rec → r ≡ new_keys page d rec
    unfolding new_keys new_version seed
    key_obeyed s e p k = let g = key_front e in rw e (rw (p, g.run_reached, g.first_read) at k)

    pub exchange_obeyed : (s : List ℕ) → page ≡ seed_exchange → s ≡ part f.run 256 d → r ≡ exchanged s rec → r ≡ new_keys page d rec
    unfolding new_keys agreed
    exchange_obeyed s e p k = let g = exchange_front e in rw e (rw (p, g.run_reached) at k)

-- ---- the front that stands there, and what its page makes of a key set: what is behind eight bytes is the seed, or the agreed value

module _ (page : ℕ) (d : List ℕ) where
  abbrev pub front : Front
  front = record {
    page = number 2 0 d;
    length = number 2 2 d;
    first = number (first_width page) 4 d;
    second = number (second_width page) (4 + first_width page) d;
    third = number (third_width page) (4 + first_width page + second_width page) d;
    run = 4 + first_width page + second_width page + third_width page;
  }

  pub front_is : FrontOf page d front
  front_is = record { page_read = refl; length_read = refl; first_read = refl; second_read = refl; third_read = refl; run_reached = refl }

  module _ (rec r s : List ℕ) (long : length d ≡ total_of page) where
    pub key_said : (v : ℕ) → page ≡ set_key → v ≡ new_version d → s ≡ drop 8 d → r ≡ working_key_set v s rec → r ≡ new_keys page d rec
    unfolding new_version
    key_said v e h p k =
        let g = key_front page d front front_is e in
        let n = key_total page (length d) e long in
        let whole : take 20 (drop 8 d) ≡ drop 8 d = take_all 20 (drop 8 d) (rw length-drop (omega arith)) in
        let version = ap (λ (m : ℕ). working_key_set m s rec) (h ∙ sym g.first_read) in
        key_obeyed page d front front_is rec r s e (p ∙ sym (rw g.run_reached whole)) (k ∙ version)

    pub exchange_said : page ≡ seed_exchange → s ≡ drop 8 d → r ≡ exchanged s rec → r ≡ new_keys page d rec
    exchange_said e p k =
        let g = exchange_front page d front front_is e in
        let n = exchange_total page (length d) e long in
        let whole : take 256 (drop 8 d) ≡ drop 8 d = take_all 256 (drop 8 d) (rw length-drop (omega arith)) in
        exchange_obeyed page d front front_is rec r s e (p ∙ sym (rw g.run_reached whole)) k

-- What a list of descriptors carries, however it is read: refused exactly for document 02's causes, reduced to the CDB and the body of its
-- 40h, in whatever order the descriptors stand.
use Rattle.std.proofs.Math.Path.{◌≡◌}
use Rattle.std.specs.Prelude.{refl, Bool, true, false, not, ℕ, zero, suc, ◌+◌, ◌≤◌, ◌<◌, eqb, ltb, leb, get_or, take, drop}
use Rattle.std.proofs.Common.{◌∙◌, sym, ap, ap₂, length-append, length-drop, take-append-drop, take_at, drop_at, drop-drop, length-take-le, get_or-take, eqb-true, ltb-true, ltb-false, lt-ltb, le-leb}
use mathlib.Core.List.{List, [], ◌∷◌, ◌++◌, append_assoc}
use native.Mathlib.Omega.{arith}
use Rattle.std.proofs.Math.Dec.{leb-suc-zero, leb-suc-suc, leb-zero, eqb-suc-zero}
use Rattle.std.proofs.Math.ListN.{length, get_or-append}
use Rattle.std.proofs.lemmas.Bool.{eqb-false, lt-leb}
use Rattle.choice.specs.Choice.{pick, both, either}
use Rattle.choice.specs.ChoiceLaws.{both_none, either_right}
use Rattle.model.specs.Codes.{cdb_len}
use Rattle.extension.specs.Extension.{body_length, body_of, behind, is_cut, Carried, nothing, body, wrong, is_body, carrying, one_more, is_empty, list_from, cdb_of, carried_by, reduces, wrapped_with, reduced}
use Rattle.extension.specs.Laid.{Descriptor, laid, count, is_carrier, is_passed_over, carriers, other_type, other_length, carrier_body, causes, any_of}
use Rattle.extension.proofs.ListLaws.{list_end, list_full, list_cut, list_more}
use Rattle.extension.proofs.ReducedLaws.{carried_long, carried_short, reduces_carries, reduced_is}

-- ---- a list that is read is its descriptors, one after the other

abbrev over : Carried → List Descriptor → Carried
over c [] = c
over c (d ∷ ds) = over (one_more c d.type d.body) ds

-- behind the descriptors stands nothing, or one that is cut off
abbrev pub Ends : List ℕ → Type 0
Ends rest = either (is_empty rest) (is_cut rest) ≡ true

module _ (d : Descriptor) (r : List ℕ) where
  abbrev first : List ℕ
  first = d.type ∷ length d.body ∷ (d.body ++ r)

  first_long : body_length first + 2 ≤ length first
  first_long = rw (length-append d.body r) (omega arith)

  first_body : body_of first ≡ d.body
  first_body = take_at d.body r (length d.body) refl

  first_behind : behind first ≡ r
  first_behind =
      let q : length d.body + 2 ≡ 2 + length d.body = omega arith in
      ap (λ (n : ℕ). drop n first) q ∙ sym (drop-drop (length d.body) 2 first) ∙ drop_at d.body r (length d.body) refl

  first_more : (n : ℕ) (c : Carried) → list_from (suc n) c first ≡ list_from n (one_more c d.type d.body) r
  first_more n c =
      list_more n c first first_long
      ∙ ap₂ (λ (b l : List ℕ). list_from n (one_more c d.type b) l) first_body first_behind

  first_full : (c : Carried) → list_from 0 c first ≡ wrong
  first_full c = list_full c first (omega arith)

pub list_laid : (n : ℕ) (c : Carried) (ds : List Descriptor) (rest : List ℕ) → Ends rest
    → list_from n c (laid ds ++ rest) ≡ pick (both (leb (count ds) n) (is_empty rest)) (over c ds) wrong
list_laid n c [] rest e = rw (leb-zero n) (end (is_empty rest) refl e)
  where
    end : (t : Bool) → is_empty rest ≡ t → either t (is_cut rest) ≡ true → list_from n c rest ≡ pick t c wrong
    end true q h = list_end n c rest (eqb-true (length rest) 0 q)
    end false q h = cut n
      where
        some : 0 < length rest
        some = let f = eqb-false (length rest) 0 q in omega arith

        cut : (m : ℕ) → list_from m c rest ≡ wrong
        cut zero = list_full c rest some
        cut (suc m) = list_cut m c rest some (ltb-true (length rest) (body_length rest + 2) h)
list_laid zero c (d ∷ ds) rest e =
    ap (λ (l : List ℕ). list_from 0 c (d.type ∷ length d.body ∷ l)) (append_assoc d.body (laid ds) rest)
    ∙ first_full d (laid ds ++ rest) c ∙ rw (leb-suc-zero (count ds))
list_laid (suc n) c (d ∷ ds) rest e =
    ap (λ (l : List ℕ). list_from (suc n) c (d.type ∷ length d.body ∷ l)) (append_assoc d.body (laid ds) rest)
    ∙ first_more d (laid ds ++ rest) n c
    ∙ list_laid n (one_more c d.type d.body) ds rest e
    ∙ rw (leb-suc-suc (count ds) n)

-- ---- one descriptor more, by its kind

module _ (c : Carried) (d : Descriptor) where
  carrier_more : is_carrier d ≡ true → one_more c d.type d.body ≡ carrying c d.body
  unfolding one_more
  carrier_more e = rw e

  passed_more : is_carrier d ≡ false → is_passed_over d ≡ true → one_more c d.type d.body ≡ c
  unfolding one_more
  passed_more e f = rw (e, f)

  other_more : is_carrier d ≡ false → is_passed_over d ≡ false → one_more c d.type d.body ≡ wrong
  unfolding one_more
  other_more e f = rw (e, f)

-- what holds of each of the three kinds
by_kind : (P : Type 0) (d : Descriptor) → (is_carrier d ≡ true → P) → (is_carrier d ≡ false → is_passed_over d ≡ true → P)
    → (is_carrier d ≡ false → is_passed_over d ≡ false → P) → P
by_kind P d carries passes other = by (is_carrier d) (is_passed_over d) refl refl
  where
    by : (t p : Bool) → is_carrier d ≡ t → is_passed_over d ≡ p → P
    by true p e f = carries e
    by false true e f = passes e f
    by false false e f = other e f

-- once wrong, always wrong
more_wrong : (d : Descriptor) → one_more wrong d.type d.body ≡ wrong
more_wrong d = by_kind _ d (λ e. carrier_more wrong d e) (λ e f. passed_more wrong d e f) (λ e f. other_more wrong d e f)

never_body : {P : Type 0} (c : Carried) → c ≡ wrong → is_body c ≡ true → P
never_body c e h = let q : false ≡ true = sym (ap is_body e) ∙ h in let z : ◌≡◌ {A = ℕ} 0 1 = cc in absurd (omega arith)

over_wrong : (ds : List Descriptor) → over wrong ds ≡ wrong
over_wrong [] = refl
over_wrong (d ∷ ds) = ap (λ (c : Carried). over c ds) (more_wrong d) ∙ over_wrong ds

-- ---- in whatever order

carry_twice : (c : Carried) (a b : List ℕ) → carrying (carrying c a) b ≡ wrong
carry_twice nothing a b = by (eqb (length a) 78)
  where
    by : (t : Bool) → carrying (pick t (body a) wrong) b ≡ wrong
    by true = refl
    by false = refl
carry_twice (body x) a b = refl
carry_twice wrong a b = refl

-- two neighbours may change places
more_swap : (c : Carried) (p q : Descriptor)
    → one_more (one_more c p.type p.body) q.type q.body ≡ one_more (one_more c q.type q.body) p.type p.body
more_swap c p q =
    by_kind _ p
    (λ e. by_kind _ q
    (λ f. ap (λ (x : Carried). one_more x q.type q.body) (carrier_more c p e) ∙ carrier_more (carrying c p.body) q f ∙ carry_twice c p.body q.body
    ∙ sym (ap (λ (x : Carried). one_more x p.type p.body) (carrier_more c q f) ∙ carrier_more (carrying c q.body) p e
    ∙ carry_twice c q.body p.body))
    (λ f g. passed_more (one_more c p.type p.body) q f g
    ∙ sym (ap (λ (x : Carried). one_more x p.type p.body) (passed_more c q f g)))
    (λ f g. other_more (one_more c p.type p.body) q f g
    ∙ sym (ap (λ (x : Carried). one_more x p.type p.body) (other_more c q f g) ∙ more_wrong p)))
    (λ e f. ap (λ (x : Carried). one_more x q.type q.body) (passed_more c p e f)
    ∙ sym (passed_more (one_more c q.type q.body) p e f))
    (λ e f. ap (λ (x : Carried). one_more x q.type q.body) (other_more c p e f) ∙ more_wrong q
    ∙ sym (other_more (one_more c q.type q.body) p e f))

over_swap : (c : Carried) (ds : List Descriptor) (p q : Descriptor) (es : List Descriptor)
    → over c (ds ++ (p ∷ q ∷ es)) ≡ over c (ds ++ (q ∷ p ∷ es))
over_swap c [] p q es = ap (λ (x : Carried). over x es) (more_swap c p q)
over_swap c (d ∷ ds) p q es = over_swap (one_more c d.type d.body) ds p q es

count_swap : (ds : List Descriptor) (p q : Descriptor) (es : List Descriptor)
    → count (ds ++ (p ∷ q ∷ es)) ≡ count (ds ++ (q ∷ p ∷ es))
count_swap [] p q es = refl
count_swap (d ∷ ds) p q es = ap suc (count_swap ds p q es)

-- ---- a whole CDB, then a list

module _ (cdb l : List ℕ) (is : length cdb ≡ cdb_len (get_or cdb 0 0)) where
  some : 0 < length cdb
  unfolding cdb_len
  some = by cdb is
    where
      by : (x : List ℕ) → length x ≡ cdb_len (get_or x 0 0) → 0 < length x
      by [] e = let z : ◌≡◌ {A = ℕ} 0 6 = e in absurd (omega arith)
      by (y ∷ ys) e = omega arith

  code : get_or (cdb ++ l) 0 0 ≡ get_or cdb 0 0
  code = get_or-append cdb l 0 0 some

  pub cdb_front : cdb_of (cdb ++ l) ≡ cdb
  cdb_front = ap (λ (n : ℕ). take (cdb_len n) (cdb ++ l)) code ∙ take_at cdb l (cdb_len (get_or cdb 0 0)) is

  pub carried_behind : carried_by (cdb ++ l) ≡ list_from 4 nothing l
  carried_behind =
      carried_long (cdb ++ l) (rw (code, length-append cdb l) (omega arith))
      ∙ ap (λ (n : ℕ). list_from 4 nothing (drop (cdb_len n) (cdb ++ l))) code
      ∙ ap (λ (x : List ℕ). list_from 4 nothing x) (drop_at cdb l (cdb_len (get_or cdb 0 0)) is)

-- ---- refused exactly for document 02's causes

not_either_true : (t : Bool) → not (either t true) ≡ false
not_either_true true = refl
not_either_true false = refl

-- behind a 40h: whether no type is another and no 40h comes again
over_body : (b : List ℕ) (ds : List Descriptor) → is_body (over (body b) ds) ≡ not (either (other_type ds) (not (eqb (carriers ds) 0)))
over_body b [] = refl
over_body b (d ∷ ds) =
    by_kind _ d
    (λ e. ap (λ (c : Carried). is_body (over c ds)) (carrier_more (body b) d e) ∙ ap is_body (over_wrong ds)
    ∙ rw (e, eqb-suc-zero (carriers ds)) (sym (not_either_true (other_type ds))))
    (λ e f. ap (λ (c : Carried). is_body (over c ds)) (passed_more (body b) d e f) ∙ over_body b ds ∙ rw (e, f))
    (λ e f. ap (λ (c : Carried). is_body (over c ds)) (other_more (body b) d e f) ∙ ap is_body (over_wrong ds) ∙ rw (e, f))

-- a second 40h is a 40h behind the first
second : (n : ℕ) → ltb 1 (suc n) ≡ not (eqb n 0)
second zero = refl
second (suc n) = rw (lt-ltb 1 (suc (suc n)) (omega arith), eqb-suc-zero n)

-- where there is no 40h, none has another length
no_length : (ds : List Descriptor) → eqb (carriers ds) 0 ≡ true → other_length ds ≡ false
no_length [] e = refl
no_length (d ∷ ds) e =
    by_kind _ d
    (λ f. let z : false ≡ true = sym (eqb-suc-zero (carriers ds)) ∙ rw f at e in let q : ◌≡◌ {A = ℕ} 0 1 = cc in absurd (omega arith))
    (λ f g. let q : eqb (carriers ds) 0 ≡ true = rw f at e in rw f (no_length ds q))
    (λ f g. let q : eqb (carriers ds) 0 ≡ true = rw f at e in rw f (no_length ds q))

over_nothing : (ds : List Descriptor)
    → is_body (over nothing ds) ≡ not (either (other_type ds) (either (eqb (carriers ds) 0) (either (ltb 1 (carriers ds)) (other_length ds))))
over_nothing [] = refl
over_nothing (d ∷ ds) =
    by_kind _ d
    (λ e. ap (λ (c : Carried). is_body (over c ds)) (carrier_more nothing d e) ∙ first_carried (eqb (length d.body) 78)
    ∙ rw (e, eqb-suc-zero (carriers ds), second (carriers ds)))
    (λ e f. ap (λ (c : Carried). is_body (over c ds)) (passed_more nothing d e f) ∙ over_nothing ds ∙ rw (e, f))
    (λ e f. ap (λ (c : Carried). is_body (over c ds)) (other_more nothing d e f) ∙ ap is_body (over_wrong ds) ∙ rw (e, f))
  where
    first_carried : (t : Bool)
        → is_body (over (pick t (body d.body) wrong) ds)
        ≡ not (either (other_type ds) (either (not (eqb (carriers ds) 0)) (either (not t) (other_length ds))))
    first_carried false = ap is_body (over_wrong ds) ∙ sym (tail (other_type ds) (not (eqb (carriers ds) 0)))
      where
        tail : (t n : Bool) → not (either t (either n true)) ≡ false
        tail true n = refl
        tail false n = not_either_true n
    first_carried true =
        over_body d.body ds ∙ ap (λ (t : Bool). not (either (other_type ds) t)) (same (eqb (carriers ds) 0) refl)
      where
        same : (t : Bool) → eqb (carriers ds) 0 ≡ t → not t ≡ either (not t) (other_length ds)
        same true e = sym (no_length ds e)
        same false e = refl

none_carries : (ds : List Descriptor) → eqb (count ds) 0 ≡ true → eqb (carriers ds) 0 ≡ true
none_carries [] e = refl
none_carries (d ∷ ds) e =
    let z : false ≡ true = sym (eqb-suc-zero (count ds)) ∙ e in let q : ◌≡◌ {A = ℕ} 0 1 = cc in absurd (omega arith)

-- the tests put together: no more than four and all of them whole, and then no cause of the other four
together : (other none many lacks again size whole : Bool) → (none ≡ true → lacks ≡ true)
    → both (both (not many) whole) (not (either other (either lacks (either again size))))
    ≡ not (any_of (other ∷ none ∷ many ∷ lacks ∷ again ∷ size ∷ not whole ∷ []))
together true none many lacks again size whole h = both_none (both (not many) whole)
together false true many lacks again size whole h = rw (h refl) (both_none (both (not many) whole))
together false false true lacks again size whole h = refl
together false false false true again size whole h = both_none whole
together false false false false true size whole h = both_none whole
together false false false false false true whole h = both_none whole
together false false false false false false true h = refl
together false false false false false false false h = refl

-- a CDB as long as its code says, then descriptors, then nothing or one that is cut off: it is refused exactly for one of the causes
pub refused_exactly : (cdb : List ℕ) (ds : List Descriptor) (rest : List ℕ) → length cdb ≡ cdb_len (get_or cdb 0 0) → Ends rest
    → reduces (cdb ++ (laid ds ++ rest)) ≡ not (any_of (causes ds rest))
unfolding reduces causes
refused_exactly cdb ds rest is e =
    ap is_body (carried_behind cdb (laid ds ++ rest) is ∙ list_laid 4 nothing ds rest e)
    ∙ picked (both (leb (count ds) 4) (is_empty rest)) (over nothing ds)
    ∙ ap₂ (λ (t u : Bool). both (both t (is_empty rest)) u) (few (count ds)) (over_nothing ds)
    ∙ together (other_type ds) (eqb (count ds) 0) (ltb 4 (count ds)) (eqb (carriers ds) 0) (ltb 1 (carriers ds)) (other_length ds) (is_empty rest)
    (none_carries ds)
  where
    picked : (t : Bool) (c : Carried) → is_body (pick t c wrong) ≡ both t (is_body c)
    picked true c = refl
    picked false c = refl

    few : (n : ℕ) → leb n 4 ≡ not (ltb 4 n)
    few n = by (ltb 4 n) refl
      where
        by : (t : Bool) → ltb 4 n ≡ t → leb n 4 ≡ not t
        by true h = lt-leb n 4 (ltb-true 4 n h)
        by false h = le-leb n 4 (ltb-false 4 n h)

-- a CDB shorter than its code's length is refused
pub short_refused : (c : List ℕ) → length c < cdb_len (get_or c 0 0) → reduces c ≡ false
unfolding reduces
short_refused c h = ap is_body (carried_short c h)

-- and every other command is one of these: its bytes are a CDB, descriptors, and nothing or one that is cut off
pub record Parted (c : List ℕ) : Type 0 where
  pub cdb : List ℕ
  pub ds : List Descriptor
  pub rest : List ℕ
  pub whole : c ≡ cdb ++ (laid ds ++ rest)
  pub is : length cdb ≡ cdb_len (get_or cdb 0 0)
  pub ends : Ends rest

record Descriptors (l : List ℕ) : Type 0 where
  ds : List Descriptor
  rest : List ℕ
  whole : l ≡ laid ds ++ rest
  ends : Ends rest

-- from those of every shorter list
one_further : (n : ℕ) (l : List ℕ) → length l ≤ suc n → ((k : List ℕ) → length k ≤ n → Descriptors k) → Descriptors l
one_further n [] h shorter = record { ds = []; rest = []; whole = refl; ends = refl }
one_further n (x ∷ []) h shorter = record { ds = []; rest = x ∷ []; whole = refl; ends = refl }
one_further n (x ∷ y ∷ l) h shorter = by (is_cut (x ∷ y ∷ l)) refl
  where
    by : (t : Bool) → is_cut (x ∷ y ∷ l) ≡ t → Descriptors (x ∷ y ∷ l)
    by true e = record { ds = []; rest = x ∷ y ∷ l; whole = refl; ends = rw e (either_right (is_empty (x ∷ y ∷ l)) true refl) }
    by false e =
        let fits : y ≤ length l = omega (arith, ltb-false (length (x ∷ y ∷ l)) (y + 2) e) in
        let size : length (take y l) ≡ y = length-take-le y l fits in
        let more : Descriptors (drop y l) = shorter (drop y l) (rw length-drop (omega arith)) in
        record {
          ds = record { type = x; body = take y l } ∷ more.ds;
          rest = more.rest;
          whole =
              ap (λ (z : List ℕ). x ∷ y ∷ z) (sym (take-append-drop y l) ∙ ap (λ (z : List ℕ). take y l ++ z) more.whole
              ∙ sym (append_assoc (take y l) (laid more.ds) more.rest))
              ∙ ap (λ (k : ℕ). x ∷ k ∷ ((take y l ++ laid more.ds) ++ more.rest)) (sym size);
          ends = more.ends;
        }

descriptors : (n : ℕ) (l : List ℕ) → length l ≤ n → Descriptors l
descriptors zero l h = one_further 0 l (omega arith) (λ k q. none k q)
  where
    none : (k : List ℕ) → length k ≤ 0 → Descriptors k
    none [] q = record { ds = []; rest = []; whole = refl; ends = refl }
    none (x ∷ k) q = absurd (omega arith)
descriptors (suc n) l h = one_further n l h (λ k q. descriptors n k q)

pub parted : (c : List ℕ) → cdb_len (get_or c 0 0) ≤ length c → 0 < cdb_len (get_or c 0 0) → Parted c
parted c h some =
    let l : List ℕ = drop (cdb_len (get_or c 0 0)) c in
    let d : Descriptors l = descriptors (length l) l (omega arith) in
    let size : length (cdb_of c) ≡ cdb_len (get_or c 0 0) = length-take-le (cdb_len (get_or c 0 0)) c h in
    record {
      cdb = cdb_of c;
      ds = d.ds;
      rest = d.rest;
      whole = sym (take-append-drop (cdb_len (get_or c 0 0)) c) ∙ ap (λ (z : List ℕ). cdb_of c ++ z) d.whole;
      is = size ∙ ap cdb_len (sym (get_or-take (cdb_len (get_or c 0 0)) c 0 0 some));
      ends = d.ends;
    }

-- ---- what a command is reduced to: the CDB and the body of its 40h, to the byte

over_kept : (b : List ℕ) (ds : List Descriptor) → is_body (over (body b) ds) ≡ true → over (body b) ds ≡ body b
over_kept b [] h = refl
over_kept b (d ∷ ds) h =
    by_kind _ d
    (λ e. lost (carrier_more (body b) d e))
    (λ e f. let q = passed_more (body b) d e f in ap (λ (c : Carried). over c ds) q ∙ over_kept b ds (rw q at h))
    (λ e f. lost (other_more (body b) d e f))
  where
    lost : one_more (body b) d.type d.body ≡ wrong → over (body b) (d ∷ ds) ≡ body b
    lost q = never_body (over (body b) (d ∷ ds)) (ap (λ (c : Carried). over c ds) q ∙ over_wrong ds) h

over_which : (ds : List Descriptor) → is_body (over nothing ds) ≡ true → over nothing ds ≡ body (carrier_body ds)
over_which [] h = let z : ◌≡◌ {A = ℕ} 0 1 = cc in absurd (omega arith)
over_which (d ∷ ds) h =
    by_kind _ d
    (λ e. let q = carrier_more nothing d e in
    ap (λ (c : Carried). over c ds) q ∙ first_carried (eqb (length d.body) 78) (rw q at h) ∙ rw e)
    (λ e f. let q = passed_more nothing d e f in ap (λ (c : Carried). over c ds) q ∙ over_which ds (rw q at h) ∙ rw e)
    (λ e f. never_body (over nothing (d ∷ ds)) (ap (λ (c : Carried). over c ds) (other_more nothing d e f) ∙ over_wrong ds) h)
  where
    first_carried : (t : Bool) → is_body (over (pick t (body d.body) wrong) ds) ≡ true
        → over (pick t (body d.body) wrong) ds ≡ body d.body
    first_carried true k = over_kept d.body ds k
    first_carried false k = never_body (over wrong ds) (over_wrong ds) k

pub reduced_to : (cdb : List ℕ) (ds : List Descriptor) (rest : List ℕ) → length cdb ≡ cdb_len (get_or cdb 0 0) → Ends rest
    → any_of (causes ds rest) ≡ false → reduced (cdb ++ (laid ds ++ rest)) ≡ cdb ++ carrier_body ds
reduced_to cdb ds rest is e none =
    let l : List ℕ = laid ds ++ rest in
    let read : carried_by (cdb ++ l) ≡ pick (both (leb (count ds) 4) (is_empty rest)) (over nothing ds) wrong =
    carried_behind cdb l is ∙ list_laid 4 nothing ds rest e in
    let right : reduces (cdb ++ l) ≡ true = refused_exactly cdb ds rest is e ∙ rw none in
    let k = reduces_carries (cdb ++ l) right in
    let carried : body k.0 ≡ body (carrier_body ds) =
    which (both (leb (count ds) 4) (is_empty rest)) k.0 (sym read ∙ k.1.carried) in
    reduced_is (cdb ++ l) k.0 k.1.carried ∙ ap₂ (λ (x y : List ℕ). x ++ y) (cdb_front cdb l is) (cc)
  where
    which : (t : Bool) (b : List ℕ) → pick t (over nothing ds) wrong ≡ body b → body b ≡ body (carrier_body ds)
    which true b q = sym q ∙ over_which ds (ap is_body q)
    which false b q = let z : ◌≡◌ {A = ℕ} 0 1 = cc in absurd (omega arith)

-- ---- the order doesn't matter: two neighbours change places, and so, step by step, any

pub order_free : (cdb : List ℕ) (ds : List Descriptor) (p q : Descriptor) (es : List Descriptor) (rest : List ℕ)
    → length cdb ≡ cdb_len (get_or cdb 0 0) → Ends rest
    → reduced (cdb ++ (laid (ds ++ (p ∷ q ∷ es)) ++ rest)) ≡ reduced (cdb ++ (laid (ds ++ (q ∷ p ∷ es)) ++ rest))
unfolding reduced
order_free cdb ds p q es rest is e =
    let one : List ℕ = laid (ds ++ (p ∷ q ∷ es)) ++ rest in
    let two : List ℕ = laid (ds ++ (q ∷ p ∷ es)) ++ rest in
    let read : carried_by (cdb ++ one) ≡ carried_by (cdb ++ two) =
    carried_behind cdb one is ∙ list_laid 4 nothing (ds ++ (p ∷ q ∷ es)) rest e
    ∙ ap₂ (λ (n : ℕ) (c : Carried). pick (both (leb n 4) (is_empty rest)) c wrong) (count_swap ds p q es) (over_swap nothing ds p q es)
    ∙ sym (carried_behind cdb two is ∙ list_laid 4 nothing (ds ++ (q ∷ p ∷ es)) rest e) in
    ap₂ (λ (x : List ℕ) (c : Carried). wrapped_with x c) (cdb_front cdb one is ∙ sym (cdb_front cdb two is)) read

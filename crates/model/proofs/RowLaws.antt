-- Laws of the rows: what a table's entry tells of a command, and what tells whether a code is listed.
use Rattle.std.specs.Prelude.{ℕ, ◌≡◌, refl, Bool, true, false, not, List, [], ◌∷◌, map, eqb, ltb}
use Rattle.std.proofs.Common.{sym, ap, ◌∙◌, arith, ltb-true, eqb-true, ne_eqb}
use Rattle.choice.specs.Choice.{both, either, pick}
use Rattle.choice.specs.ChoiceLaws.{both_true}
use Rattle.model.specs.Among.{is_in}
use Rattle.model.proofs.AmongLaws.{all_at}
use Rattle.model.specs.Protocol.{protocol_in, protocol_out}
use Rattle.model.specs.Rows.{Needs, open_row, permission, master_row, Row, rows, by_page, listed, entry_for, entry_in, entry_of, need_by, need_in, need_of, is_unknown}
use Rattle.model.specs.declared.Need.{Need}
use Rattle.model.specs.declared.Need.TheVariants.{Unknown, Open, Bits}

codes : List Row → List ℕ
codes rs = map (λ (r : Row). r.code) rs

-- ---- what an entry tells

-- is a row told by its entry? It is open, or asks for permission bits alone, and their byte is none of 0, 1, 2

abbrev plain : Needs → Bool
plain open_row = true
plain (permission p) = ltb 2 p
plain (master_row p) = false

-- does each row go by page, or is told by its entry?
abbrev told : List Row → Bool
told [] = true
told (r ∷ rs) = both (either (by_page r.code) (plain r.needs)) (told rs)

known_step :
    (here paged : Bool) (n : Needs) (e : ℕ) (l : Bool) → either paged (plain n) ≡ true → not (eqb e 0) ≡ l →
    not (eqb (pick here (pick paged 2 (entry_for n)) e) 0) ≡ either here l
known_step false paged n e l h k = k
known_step true true n e l h k = refl
known_step true false open_row e l h k = refl
known_step true false (permission p) e l h k =
    let big = ltb-true 2 p h in
    rw (ne_eqb p 0 (λ z. omega arith))
known_step true false (master_row p) e l h k = cc

known_in : (rs : List Row) → told rs ≡ true → (code : ℕ) → not (eqb (entry_in rs code) 0) ≡ is_in (codes rs) code
unfolding codes
known_in [] t code = refl
known_in (r ∷ rs) t code =
    let u = both_true (either (by_page r.code) (plain r.needs)) (told rs) t in
    known_step (eqb code r.code) (by_page r.code) r.needs (entry_in rs code) (is_in (codes rs) code) u.0 (known_in rs u.1 code)

pub entry_listed : (code : ℕ) → not (eqb (entry_of code) 0) ≡ listed code
unfolding rows entry_of listed codes
entry_listed code = known_in rows refl code

-- what a command needs by its entry, where w is what it needs by its page
abbrev pub by_entry : ℕ → Need → Need
by_entry e w = pick (eqb e 0) Unknown (pick (eqb e 1) Open (pick (eqb e 2) w (Bits e)))

need_step :
    (here paged that : Bool) (n : Needs) (e : ℕ) (w : Need) → either paged (plain n) ≡ true → w ≡ by_entry e w →
    let v = pick (both here (either (not paged) that)) (need_by n) w in
    v ≡ by_entry (pick here (pick paged 2 (entry_for n)) e) v
need_step false paged that n e w h k = k
need_step true true that n e w h k = refl
need_step true false that open_row e w h k = refl
need_step true false that (permission p) e w h k =
    let big = ltb-true 2 p h in
    rw (ne_eqb p 0 (λ z. omega arith), ne_eqb p 1 (λ z. omega arith), ne_eqb p 2 (λ z. omega arith))
need_step true false that (master_row p) e w h k = cc

need_in_lem : (rs : List Row) → told rs ≡ true → (code page : ℕ) → need_in rs code page ≡ by_entry (entry_in rs code) (need_in rs code page)
need_in_lem [] t code page = refl
need_in_lem (r ∷ rs) t code page =
    let u = both_true (either (by_page r.code) (plain r.needs)) (told rs) t in
    need_step (eqb code r.code) (by_page r.code) (eqb page r.page) r.needs (entry_in rs code) (need_in rs code page)
    u.0 (need_in_lem rs u.1 code page)

pub need_by_entry : (code page : ℕ) → need_of code page ≡ by_entry (entry_of code) (need_of code page)
unfolding rows entry_of need_of
need_by_entry code page = need_in_lem rows refl code page

not_two : (n : Needs) → plain n ≡ true → entry_for n ≡ 2 → ⊥
not_two open_row h e = omega arith
not_two (permission p) h e = let big = ltb-true 2 p h in omega arith
not_two (master_row p) h e = let z : ◌≡◌ {A = ℕ} 0 1 = cc in omega arith

two_step :
    (r : Row) (code rest : ℕ) (here paged : Bool) → eqb code r.code ≡ here → by_page r.code ≡ paged →
    either paged (plain r.needs) ≡ true →
    (rest ≡ 2 → by_page code ≡ true) → pick here (pick paged 2 (entry_for r.needs)) rest ≡ 2 → by_page code ≡ true
two_step r code rest false paged e q h k two = k two
two_step r code rest true true e q h k two = ap by_page (eqb-true code r.code e) ∙ q
two_step r code rest true false e q h k two = absurd (not_two r.needs h two)

two_in : (rs : List Row) → told rs ≡ true → (code : ℕ) → entry_in rs code ≡ 2 → by_page code ≡ true
two_in [] t code e = cc
two_in (r ∷ rs) t code e =
    let u = both_true (either (by_page r.code) (plain r.needs)) (told rs) t in
    two_step r code (entry_in rs code) (eqb code r.code) (by_page r.code) refl refl u.0 (λ k. two_in rs u.1 code k) e

pub entry_by_page : (code : ℕ) → entry_of code ≡ 2 → by_page code ≡ true
unfolding rows entry_of
entry_by_page code e = two_in rows refl code e

entry_decides : (e : ℕ) (w v : Need) → eqb e 2 ≡ false → by_entry e w ≡ by_entry e v
entry_decides e w v h = rw h

-- the page counts only for a code that goes by page
pub page_ignored : (code p q : ℕ) → by_page code ≡ false → need_of code p ≡ need_of code q
page_ignored code p q h =
    need_by_entry code p ∙ entry_decides (entry_of code) _ _ (ne_eqb (entry_of code) 2 other) ∙ sym (need_by_entry code q)
  where
    other : entry_of code ≡ 2 → ⊥
    other e = let b = entry_by_page code e in let z : ◌≡◌ {A = ℕ} 0 1 = cc in omega arith

-- a code is listed where it goes by page, or where what it needs is known, whatever the page
known_by_entry : (e : ℕ) (w : Need) → eqb e 2 ≡ false → not (is_unknown (by_entry e w)) ≡ not (eqb e 0)
known_by_entry e w h = go (eqb e 0) (eqb e 1) (eqb e 2) h
  where
    go : (a b c : Bool) → c ≡ false → not (is_unknown (pick a Unknown (pick b Open (pick c w (Bits e))))) ≡ not a
    go true b c k = refl
    go false true c k = refl
    go false false true k = cc
    go false false false k = refl

paged_listed : (code : ℕ) → by_page code ≡ true → listed code ≡ true
unfolding listed rows
paged_listed code h = all_at listed (protocol_in ∷ protocol_out ∷ []) refl code h

pub listed_by_need : (code page : ℕ) → either (by_page code) (not (is_unknown (need_of code page))) ≡ listed code
listed_by_need code page = go (by_page code) refl
  where
    go : (b : Bool) → by_page code ≡ b → either b (not (is_unknown (need_of code page))) ≡ listed code
    go true e = sym (paged_listed code e)
    go false e =
        ap (λ (w : Need). not (is_unknown w)) (need_by_entry code page)
        ∙ known_by_entry (entry_of code) (need_of code page) (ne_eqb (entry_of code) 2 (λ two. let b = entry_by_page code two in let z : ◌≡◌ {A = ℕ} 0 1 = cc in omega arith))
        ∙ entry_listed code

-- of the two codes that go by page, one that is not IN is OUT
pub page_code : (code : ℕ) → by_page code ≡ true → (code ≡ protocol_in → ⊥) → code ≡ protocol_out
page_code code e n = go (eqb code protocol_in) (eqb code protocol_out) (λ q. eqb-true code protocol_in q) (λ q. eqb-true code protocol_out q) e
  where
    go : (a b : Bool) → (a ≡ true → code ≡ protocol_in) → (b ≡ true → code ≡ protocol_out) → either a (either b false) ≡ true
        → code ≡ protocol_out
    go true b p q k = absurd (n (p refl))
    go false true p q k = q refl
    go false false p q k = let z : ◌≡◌ {A = ℕ} 0 1 = cc in absurd (omega arith)

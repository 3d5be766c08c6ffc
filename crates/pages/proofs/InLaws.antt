-- Laws of the In pages: how long each is, what stands behind a page's head, and how a reply is cut.
use Rattle.std.specs.Prelude.{◌≡◌, refl, Bool, true, false, List, [], ◌∷◌, ◌++◌, ℕ, ◌+◌, ◌-◌, ◌≤◌, ◌<◌, min, eqb, ltb, length, get_or, take}
use Rattle.std.proofs.Common.{sym, ap, ◌∙◌, arith, length-take, get_or-append-add, take_all, ltb-true, ltb-false}
use Rattle.std.proofs.Math.Nat.{min-le_right, min-eq_left, min-eq_right}
use Rattle.std.proofs.Math.ListN.{get_or-append}
use Rattle.choice.specs.Choice.{pick}
use Rattle.choice.specs.ChoiceLaws.{pick_holds}
use Rattle.wire.specs.Bytes.{bytes_of, patch}
use Rattle.wire.proofs.PatchLaws.{patch_all, patch_join}
use Rattle.model.specs.Protocol.{pages_of_in, pages_of_out, capabilities_in, attributes_in, controlled_in}
use Rattle.model.specs.Controlled.{controlled}
use Rattle.model.proofs.ControlledLaws.{controlled_length}
use Rattle.units.specs.Unit.{method, policy_tag, mask}
use Rattle.pages.specs.In.{framed, supported_in, supported_out, capabilities, attributes_page, controlled_page, in_page, reply_of, size_of}

-- code and length, then the body
framed_length : (p : ℕ) (body : List ℕ) → length (framed p body) ≡ 4 + length body
unfolding bytes_of
framed_length p body = omega arith

pub framed_at : (p : ℕ) (body : List ℕ) (i : ℕ) → 4 ≤ i → get_or (framed p body) i 0 ≡ get_or body (i - 4) 0
unfolding bytes_of
framed_at p body i h =
    let e : 4 + (i - 4) ≡ i = omega arith in
    rw e at (get_or-append-add (bytes_of 2 p ++ bytes_of 2 (length body)) body (i - 4) 0)

framed_head : (p : ℕ) (body : List ℕ) (i : ℕ) → i < 4 → get_or (framed p body) i 0 ≡ get_or (bytes_of 2 p ++ bytes_of 2 (length body)) i 0
unfolding bytes_of
framed_head p body i h = get_or-append (bytes_of 2 p ++ bytes_of 2 (length body)) body 0 i h

pub controlled_head : (i : ℕ) → i < 4 → get_or (0x00 ∷ 0x13 ∷ 0x00 ∷ 0xBA ∷ []) i 0 ≡ get_or controlled_page i 0
unfolding controlled_page bytes_of
controlled_head i h =
    ap (λ (n : ℕ). get_or (bytes_of 2 controlled_in ++ bytes_of 2 n) i 0) (sym controlled_length) ∙ sym (framed_head controlled_in controlled i h)

-- its head laid at the front of as many bytes as it has, and the rows behind
pub controlled_laid : (zs rows one two : List ℕ) → length zs ≡ 190 → rows ≡ controlled → one ≡ patch zs 0 (0x00 ∷ 0x13 ∷ 0x00 ∷ 0xBA ∷ [])
    → two ≡ patch one 4 rows → two ≡ controlled_page
unfolding controlled_page bytes_of
controlled_laid zs rows one two long r e f =
    f ∙ rw (e, r) (patch_join zs 0 (0x00 ∷ 0x13 ∷ 0x00 ∷ 0xBA ∷ []) (omega arith) 4 controlled refl)
    ∙ patch_all zs (0x00 ∷ 0x13 ∷ 0x00 ∷ 0xBA ∷ controlled) (omega (arith, controlled_length))
    ∙ ap (λ (n : ℕ). bytes_of 2 controlled_in ++ (bytes_of 2 n ++ controlled)) (sym controlled_length)

pub attributes_at : (rec keys : List ℕ) (m t k i : ℕ) → m ≡ method rec → t ≡ policy_tag rec → k ≡ mask keys
    → get_or (framed attributes_in (bytes_of 2 m ++ (bytes_of 4 t ++ bytes_of 2 k))) i 0 ≡ get_or (attributes_page rec keys) i 0
unfolding attributes_page
attributes_at rec keys m t k i em et ek = rw (em, et, ek)

-- ---- lengths

pub supported_in_length : length supported_in ≡ 16
unfolding supported_in bytes_of
supported_in_length = refl

pub supported_out_length : length supported_out ≡ 12
unfolding supported_out bytes_of
supported_out_length = refl

pub capabilities_length : length capabilities ≡ 20
unfolding capabilities
capabilities_length = refl

pub attributes_length : (rec keys : List ℕ) → length (attributes_page rec keys) ≡ 12
unfolding attributes_page bytes_of
attributes_length rec keys = refl

controlled_page_length : length controlled_page ≡ 190
unfolding controlled_page
controlled_page_length = framed_length controlled_in controlled ∙ ap (λ (n : ℕ). 4 + n) controlled_length

pick_length : (b : Bool) (x y : List ℕ) (m n : ℕ) → length x ≡ m → length y ≡ n → length (pick b x y) ≡ pick b m n
pick_length true x y m n e f = e
pick_length false x y m n e f = f

pub page_size : (page : ℕ) (rec keys : List ℕ) → length (in_page page rec keys) ≡ size_of page
unfolding in_page size_of
page_size page rec keys =
    pick_length (eqb page pages_of_in) _ _ _ _ supported_in_length
    (pick_length (eqb page pages_of_out) _ _ _ _ supported_out_length
    (pick_length (eqb page capabilities_in) _ _ _ _ capabilities_length
    (pick_length (eqb page attributes_in) _ _ _ _ (attributes_length rec keys)
    (pick_length (eqb page controlled_in) _ _ _ _ controlled_page_length
    refl))))

at_most : (b : Bool) (m n : ℕ) → m ≤ 190 → n ≤ 190 → pick b m n ≤ 190
at_most b m n h g = pick_holds (λ (x : ℕ). x ≤ 190) b m n h g

pub size_small : (page : ℕ) → size_of page ≤ 190
unfolding size_of
size_small page =
    at_most (eqb page pages_of_in) _ _ (omega arith)
    (at_most (eqb page pages_of_out) _ _ (omega arith)
    (at_most (eqb page capabilities_in) _ _ (omega arith)
    (at_most (eqb page attributes_in) _ _ (omega arith)
    (at_most (eqb page controlled_in) _ _ (omega arith)
    (omega arith)))))

-- ---- the reply: the count is the smaller of page size and allocation length, and at most 190

pub reply_length : (page allocation : ℕ) (rec keys : List ℕ) → length (reply_of page allocation rec keys) ≡ min allocation (size_of page)
unfolding reply_of
reply_length page allocation rec keys = length-take allocation (in_page page rec keys) ∙ ap (min allocation) (page_size page rec keys)

pub reply_small : (page allocation : ℕ) (rec keys : List ℕ) → length (reply_of page allocation rec keys) ≤ 190
reply_small page allocation rec keys =
    let h = size_small page in
    let k = min-le_right allocation (size_of page) in
    omega (arith, reply_length page allocation rec keys)

-- as many bytes of the page are the reply
cut : (n : ℕ) (l : List ℕ) (b : Bool) → ltb (length l) n ≡ b → take (min n (length l)) l ≡ take n l
cut n l true e =
    let h : length l < n = ltb-true (length l) n e in
    rw (min-eq_right {n = length l} {m = n} (omega arith), take_all (length l) l (omega arith), take_all n l (omega arith))
cut n l false e = rw (min-eq_left (ltb-false (length l) n e))

pub count_reply : (page allocation : ℕ) (rec keys : List ℕ)
    → take (min allocation (size_of page)) (in_page page rec keys) ≡ reply_of page allocation rec keys
unfolding reply_of
count_reply page allocation rec keys = rw (← page_size page rec keys) (cut allocation (in_page page rec keys) _ refl)

-- A packed answer taken apart, as the macros of include/nectarnook.h take it apart, gives document 01's number and values back: so
-- packing tells any two answers apart whose values fit their places.
use Rattle.std.specs.Prelude.{◌≡◌, [], ℕ, ◌+◌, ◌<◌}
use Rattle.std.proofs.Common.{sym, ap, ◌∙◌, ne_eqb}
use Rattle.std.proofs.Math.Nat.{add-sub_cancel_left}
use native.Mathlib.Omega.{arith}
use Rattle.model.specs.Paper.{H, Paper, paper_of}
use Rattle.model.proofs.PaperLaws.{paper_apart}
use Rattle.model.specs.declared.Answer.{Answer}
use Rattle.model.proofs.AnswerLaws.{answer_cases}
use Rattle.nectarnook.specs.Packed.{word, packed_by, packed_paper, packed}
use Rattle.nectarnook.specs.Unpacked.{answer_byte, status_byte, key_byte, code_byte, qualifier_byte, reason_byte, count_bits, paper, read_as, paper_in, FitsItsBytes}

module _ (a s k c q e n : ℕ) (ha : a < 256) (hs : s < 256) (hk : k < 256) (hc : c < 256) (hq : q < 256) (he : e < 256) (hn : n < 1024) where
  answer_back : answer_byte (word a s k c q e n) ≡ a
  unfolding word
  answer_back = omega arith

  status_back : status_byte (word a s k c q e n) ≡ s
  unfolding word
  status_back = omega arith

  key_back : key_byte (word a s k c q e n) ≡ k
  unfolding word
  key_back = omega arith

  code_back : code_byte (word a s k c q e n) ≡ c
  unfolding word
  code_back = omega arith

  qualifier_back : qualifier_byte (word a s k c q e n) ≡ q
  unfolding word
  qualifier_back = omega arith

  reason_back : reason_byte (word a s k c q e n) ≡ e
  unfolding word
  reason_back = omega arith

  count_back : count_bits (word a s k c q e n) ≡ n
  unfolding word
  count_back = omega arith

read_word : (a s k c q e n : ℕ) → a < 256 → s < 256 → k < 256 → c < 256 → q < 256 → e < 256 → n < 1024
    → paper_in (word a s k c q e n) ≡ read_as a s k c q e n
unfolding paper_in
read_word a s k c q e n ha hs hk hc hq he hn =
    rw (
      answer_back a s k c q e n ha hs hk hc hq he hn,
      status_back a s k c q e n ha hs hk hc hq he hn,
      key_back a s k c q e n ha hs hk hc hq he hn,
      code_back a s k c q e n ha hs hk hc hq he hn,
      qualifier_back a s k c q e n ha hs hk hc hq he hn,
      reason_back a s k c q e n ha hs hk hc hq he hn,
      count_back a s k c q e n ha hs hk hc hq he hn,
    )

plain_word : (a s n : ℕ) → a < 256 → s < 256 → n < 1024 → paper_in (word a s 0 0 0 0 n) ≡ read_as a s 0 0 0 0 n
plain_word a s n ha hs hn = read_word a s 0 0 0 0 n ha hs (omega arith) (omega arith) (omega arith) (omega arith) hn

h_word : (n : ℕ) → n < 16 → paper_in (packed_paper (paper (H n) [])) ≡ paper (H n) []
unfolding packed_by read_as
h_word n h =
    plain_word (0x10 + n) 0 0 (omega arith) (omega arith) (omega arith)
    ∙ rw (ne_eqb (0x10 + n) 0 (λ e. omega arith), ne_eqb (0x10 + n) 1 (λ e. omega arith), ne_eqb (0x10 + n) 2 (λ e. omega arith), ne_eqb (0x10 + n) 3 (λ e. omega arith), ne_eqb (0x10 + n) 4 (λ e. omega arith), add-sub_cancel_left 0x10 n)

pub paper_back : (a : Answer) → FitsItsBytes a → paper_in (packed a) ≡ paper_of a
unfolding packed_by read_as
paper_back =
    answer_cases (λ (a : Answer). FitsItsBytes a → paper_in (packed a) ≡ paper_of a)
    (λ count h. plain_word 0 0 count (omega arith) (omega arith) h.1.0)
    (λ slot h. plain_word 1 0 slot.0 (omega arith) (omega arith) h.0)
    (λ h. plain_word 2 0 0 (omega arith) (omega arith) (omega arith))
    (λ s h. read_word 3 2 s.key s.code s.qualifier s.reason 0 (omega arith) (omega arith) h.1.0 h.1.1.0 h.1.1.1.0 h.1.1.1.1.0 (omega arith))
    (λ h. plain_word 4 0x28 0 (omega arith) (omega arith) (omega arith))
    (λ a n small e h. ap (λ (p : Paper). paper_in (packed_paper p)) e ∙ h_word n small ∙ sym e)

-- two answers with one number are the same answer
pub packed_apart : (a b : Answer) → FitsItsBytes a → FitsItsBytes b → packed a ≡ packed b → a ≡ b
packed_apart a b h k e = paper_apart a b (sym (paper_back a h) ∙ ap paper_in e ∙ paper_back b k)

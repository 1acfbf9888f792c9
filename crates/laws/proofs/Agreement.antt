-- The table of the characters and the symbols agree: a plain symbol's nibbles are those of its byte's entry, and a byte has a short
-- code exactly where its entry has under 3 nibbles.
-- Assumes nothing.
use Prim.Native.Nat.{ℕ, ◌+◌, ◌/◌, ◌%◌, ◌≤◌, ◌<◌}
use native.Mathlib.Omega.{arith}
use mathlib.Core.Path.{◌≡◌, ap, ◌∙◌}
use lib.ListN.{length, get_or}
use lib.Dec.{ltb}
use borrow.Author.Tests.{ltb-true, lt-ltb, le-ltb}
use Rattle.format.specs.ShipText.{char_code, short, code_nibbles, char_table, plain, symbol_nibbles}
use Rattle.laws.proofs.Sequences.{test_case}
use Rattle.laws.proofs.Characters.{char_table-entry, entry_parts, escape_code}

pub plain_entry : (b : ℕ) → b < 256 → code_nibbles (get_or char_table b 0 % 4096) ≡ symbol_nibbles (plain b)
unfolding symbol_nibbles
plain_entry b h = ap (λ (w : ℕ). code_nibbles (w % 4096)) (char_table-entry b h) ∙ ap code_nibbles (entry_parts b h).1

short-length : (v : ℕ) → v < 256 → length (code_nibbles v) < 3
unfolding code_nibbles
short-length v h = test_case (ltb v 16) (λ e. rw e (omega arith)) (λ e. rw (e, lt-ltb v 256 h) (omega arith))

long_length : (b : ℕ) → 3 ≤ length (code_nibbles (3840 + b))
unfolding code_nibbles
long_length b = rw (le-ltb (3840 + b) 16 (omega arith), le-ltb (3840 + b) 256 (omega arith)) (omega arith)

pub short-entry : (b : ℕ) → b < 256 → ltb (get_or char_table b 0 / 4096) 3 ≡ short b
unfolding short
short-entry b h =
    ap (λ (n : ℕ). ltb n 3) (ap (λ (w : ℕ). w / 4096) (char_table-entry b h) ∙ (entry_parts b h).0)
    ∙ test_case (ltb (char_code b) 256)
    (λ e. rw (e, lt-ltb (length (code_nibbles (char_code b))) 3 (short-length (char_code b) (ltb-true (char_code b) 256 e))))
    (λ e. rw (e, escape_code b h e, le-ltb (length (code_nibbles (3840 + b))) 3 (long_length b)))

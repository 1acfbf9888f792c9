-- What `?` passes on: a refusal, as it is. And what every lent slice of bytes holds.
-- Assumes nothing.
use Prim.Native.Nat.{ℕ}
use mathlib.Core.List.{List}
use Rattle.std.specs.Prelude.{slice_index_or}
use Rattle.std.proofs.Common.{Fits, w8}
use Rattle.format.specs.Bits.{Bytes}
use mathlib.Core.Path.{◌≡◌, ap}
use Rattle.std.specs.Prelude.{Result, Ok, Err, IsErrAnd}
use Rattle.format.specs.Order as order
use Rattle.format.specs.Reply.{refusal_of, by_number}
use Rattle.format.specs.declared.Refusal.{Refusal}

pub err_is : {T E : Type 0} (r : Result T E) (e : E) → IsErrAnd r (λ y. y ≡ e) → r ≡ Err e
err_is (Err y) e h = ap Err h
err_is (Ok x) e h = absurd h

pub err_by_number : {T : Type 0} (r : Result T Refusal) (e : Refusal) → IsErrAnd r (λ y. y ≡ e) → by_number r ≡ Err (refusal_of e)
err_by_number r e h = ap by_number (err_is r e h)

pub bytes_in : (b : List ℕ) → ((i : ℕ) → Fits w8 (slice_index_or b i 0)) → Bytes b
bytes_in b h i = (h i).fits

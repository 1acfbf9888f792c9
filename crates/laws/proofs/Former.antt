-- What set and clear give is what the read of that field or flag gives on the same buffer.
-- Assumes nothing.
use Prim.Native.Nat.{ℕ}
use mathlib.Core.Path.{◌≡◌, refl, ap, ◌∙◌}
use mathlib.Core.List.{List, [], ◌∷◌}
use mathlib.Core.Option.{none}
use Rattle.format.specs.Order.{first}
use Rattle.format.specs.Bits.{Bytes}
use Rattle.format.specs.Flags.{FlagTable}
use Rattle.format.specs.Observation.{Observation}
use Rattle.format.specs.Calls.{Reading, Editing, reads, edits, read_field, set_field, clear_field, clear_with_indicators, read_flag, set_flag, clear_flag, field_number_check, flag_number_check, stands_check}
use Rattle.format.specs.Calls.{gives, call_checks, Answer}
use Rattle.format.specs.Buffer.{After, after, effect, as_read}
use Rattle.format.specs.declared.Scaled.{Scaled}
use Rattle.laws.proofs.Order.{first_none, no_check, first-nil}
use Rattle.laws.proofs.Effects.{read_done, accepts}

-- the read that goes with an edit: of the field or the flag that is set or cleared
pub data Matches : Editing → Reading → Type 0 where
  sets_field : {k : ℕ} {v : Scaled} → Matches (set_field k v) (read_field k)
  clears_field : {k : ℕ} → Matches (clear_field k) (read_field k)
  clears_with : {k : ℕ} → Matches (clear_with_indicators k) (read_field k)
  sets_flag : {j v : ℕ} → Matches (set_flag j v) (read_flag j)
  clears_flag : {j : ℕ} → Matches (clear_flag j) (read_flag j)

same_given : (s : Observation) {e : Editing} {r : Reading} → Matches e r → gives s (edits e) ≡ gives s (reads r)
unfolding gives
same_given s sets_field = refl
same_given s clears_field = refl
same_given s clears_with = refl
same_given s sets_flag = refl
same_given s clears_flag = refl

-- where the edit passes its checks, the read passes those that it has
read_passes : (marks : FlagTable) (s : Observation) {e : Editing} {r : Reading} → Matches e r → first (call_checks marks s (edits e)) ≡ none → first (call_checks marks s (reads r)) ≡ none
unfolding call_checks
read_passes marks s (sets_field {k = k}) p = no_check (field_number_check k) [] (first_none _ _ p).0 first-nil
read_passes marks s (clears_field {k = k}) p = no_check (field_number_check k) [] (first_none _ _ p).0 first-nil
read_passes marks s (clears_with {k = k}) p = no_check (field_number_check k) [] (first_none _ _ p).0 first-nil
read_passes marks s (sets_flag {j = j}) p = no_check (flag_number_check j) (stands_check s 1 ∷ []) (first_none _ _ p).0 (first_none _ _ (first_none _ _ p).1).1
read_passes marks s clears_flag p = p

pub former_read : (marks : FlagTable) (b : List ℕ) → Bytes b → {e : Editing} {r : Reading} → Matches e r → (a : Answer) (d : List ℕ)
    → after a d [] ≡ effect marks b (edits e) → a ≡ as_read marks b r a
former_read marks b bs m (Answer.refused x) d q = refl
former_read marks b bs {e = e} {r = r} m (Answer.accepted gs) d q =
    let k = accepts marks b bs (edits e) gs d [] q in
    let read = read_done marks b k.from bs k.judges r (read_passes marks k.from m k.passed) in
    ap Answer.accepted (k.given ∙ same_given k.from m) ∙ ap (λ (x : After). x.answer) read

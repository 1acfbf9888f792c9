-- FORMAT 6.3, for any machine: a state, and for each call an answer and the state after it. A list of calls on it.
use Rattle.std.specs.Prelude.{List, [], ◌∷◌}

pub record Moved (S A : Type 0) : Type 0 where
  pub answer : A
  pub state : S

-- the answers to a list of calls, and the state after it
pub record Course (S A : Type 0) : Type 0 where
  pub answers : List A
  pub state : S

unfoldable pub course : {S C A : Type 0} → (S → C → Moved S A) → S → List C → Course S A
course step s [] = record { answers = []; state = s }
course step s (c ∷ cs) =
    let t = step s c in
    let r = course step t.state cs in
    record { answers = t.answer ∷ r.answers; state = r.state }

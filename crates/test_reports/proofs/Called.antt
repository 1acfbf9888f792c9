-- A call in a walk by hand, for any callee: what its result owns, at the machine value written out, and the fact that its contract states.
-- Assumes nothing.
use mathlib.Core.Path.{◌≡◌, sym, subst}
use mathlib.Core.List.{List, [], ◌∷◌, head-eq_of_cons-eq}
use seplogic.Ra.Ura.{Ura}
use mir.Syntax.{Callee, Place, Opd as Operand, Body, seq, call}
use mir.Val.{Val}
use base.Logic.{SProp, ent}
use prog.Wp.{Env, Calls, Loops}
use types.Logic.{Logic}
use contract.Monad.{fact}
use types.Kit.{Item, ‵, raw, ◌⊛◌, some, later, mean, Post, runs, lands, Seq, ◌$◌, move, use1, split, pick, await}
use types.Run.{Opds}
use sound.WpLaws.{FmC}
use denote.RattleType.{RattleType}
use denote.Laws.{Is, Tells, shows}
use denote.Steps.{peeks, heard}
use denote.Triple.Statement.{Contract, Triple}
use denote.Triple.Call.{calls_at}

module _ {M : Type 1} {𝓤 : Ura M} {𝓛 : Logic 𝓤} {K : Type 0} {Γ : List (Item 𝓤)} {E : Env 𝓤 𝓛.H} {C : Calls 𝓤 𝓛.H}
    {Λ : Loops 𝓤 𝓛.H} {q : Post 𝓤 𝓛.H} {f : Callee} {xs : List Operand} {target : Place} {rest : Body} where
  open 𝓛 use {H}

  pub called : K → FmC 𝓤 H 𝓛.laws C → (c : Contract 𝓤) → Triple 𝓤 (C f) c → (ghost : c.Ghost) (tokens : Item 𝓤) (R : RattleType)
      (val : R.Denot → Val) → Tells R (Is R) (λ x. val x ∷ []) → (P : R.Denot → SProp 𝓤) (φ : R.Denot → Type 0)
      → ((x : R.Denot) → ent 𝓤 (P x) (fact 𝓤 (φ x)))
      → ((u : Val) → ent 𝓤 (c.post ghost u) (mean 𝓛 (later (some (λ (x : R.Denot). (tokens ⊛ ‵ (R.own_val x (u ∷ []))) ⊛ raw (P x))))))
      → Opds K 𝓛 (raw (c.pre ghost) ∷ Γ) E xs (c.args ghost)
      → ((x : R.Denot) → φ x → Is R x (val x ∷ []) → Seq K 𝓛 (‵ (R.own_val x (val x ∷ [])) ∷ tokens ∷ Γ) (lands C Λ E target (val x) rest q))
      → Seq K 𝓛 (raw (c.pre ghost) ∷ Γ) (runs C Λ E (seq (call f xs target) rest) q)
  called t fm c met ghost tokens R val tells P φ said post operands k =
      calls_at t fm c met ghost operands (λ u.
      use1 𝓛 (later (some (λ (x : R.Denot). (tokens ⊛ ‵ (R.own_val x (u ∷ []))) ⊛ raw (P x)))) (post u) $ await t tt $ pick t (λ x.
      split t $ move t (1 ∷ []) $ use1 𝓛 (raw (fact 𝓤 (φ x))) (said x) $ heard t (φ x) (λ e. split t $ move t (1 ∷ []) $
      peeks t R (Is R) (shows 𝓛 R) x (u ∷ []) (λ is.
      let same : u ≡ val x = head-eq_of_cons-eq (tells x (u ∷ []) is) in
      subst (λ (w : Val). Seq K 𝓛 (‵ (R.own_val x (w ∷ [])) ∷ tokens ∷ Γ) (lands C Λ E target w rest q)) (sym same)
      (k x e (subst (λ (w : Val). Is R x (w ∷ [])) same is))))))

  -- where the fact says which value is given
  pub called_at : K → FmC 𝓤 H 𝓛.laws C → (c : Contract 𝓤) → Triple 𝓤 (C f) c → (ghost : c.Ghost) (tokens : Item 𝓤) (R : RattleType)
      (val : R.Denot → Val) → Tells R (Is R) (λ x. val x ∷ []) → (P : R.Denot → SProp 𝓤) (φ : R.Denot → Type 0)
      → ((x : R.Denot) → ent 𝓤 (P x) (fact 𝓤 (φ x)))
      → ((u : Val) → ent 𝓤 (c.post ghost u) (mean 𝓛 (later (some (λ (x : R.Denot). (tokens ⊛ ‵ (R.own_val x (u ∷ []))) ⊛ raw (P x))))))
      → Opds K 𝓛 (raw (c.pre ghost) ∷ Γ) E xs (c.args ghost)
      → (x : R.Denot) → ((y : R.Denot) → φ y → y ≡ x)
      → (Is R x (val x ∷ []) → Seq K 𝓛 (‵ (R.own_val x (val x ∷ [])) ∷ tokens ∷ Γ) (lands C Λ E target (val x) rest q))
      → Seq K 𝓛 (raw (c.pre ghost) ∷ Γ) (runs C Λ E (seq (call f xs target) rest) q)
  called_at t fm c met ghost tokens R val tells P φ said post operands x same k =
      called t fm c met ghost tokens R val tells P φ said post operands (λ y e.
      subst (λ (z : R.Denot). Is R z (val z ∷ []) → Seq K 𝓛 (‵ (R.own_val z (val z ∷ [])) ∷ tokens ∷ Γ) (lands C Λ E target (val z) rest q))
      (sym (same y e)) k)

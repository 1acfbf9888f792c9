-- What the reader's functions own, for their walks by hand: a report's slice and a table of flags, twice; and a reader, made of the slice
-- and its refusal.
-- Assumes nothing.
use Prim.Native.Nat.{ℕ, ◌<◌, ◌^◌}
use mathlib.Core.Path.{refl}
use mathlib.Core.List.{List, [], ◌∷◌}
use lib.ListN.{length}
use seplogic.Ra.Ura.{Ura}
use mir.Syntax.{named, w8, w64}
use mir.Val.{Val, WT, vptr, vstruct}
use base.Logic.{ent, sep}
use base.Fml.{Lft, Fml}
use types.Logic.{Logic, sem}
use types.Kit.{‵, ◌⊛◌, ◌$◌, ◌∵◌, !, qed, move, rewrite, use1, split, fsplit, fjoin, frame, done}
use denote.RattleType.{RattleType, RowLaws, owns}
use denote.Laws.{Is, shows}
use denote.Plain.{uint_Makes, uint_row_laws}
use denote.Array.{Array, Array-row_laws}
use denote.Builtin.{u8, usize}
use denote.Ref.{Bor, NamedLft, ShrRef, shr_copy}
use denote.Slice.{slice_val, ShrSlice, shr_slice_copy}
use denote.Steps.{owned, nothing, peeks}
use denote.Struct.At.{spelled}
use denote.Struct.Values.{Values}
use denote.Struct.Rest.{field_own, own_shut}
use Rattle.std.specs.Prelude.{Option}
use Rattle.std.proofs.option.Option.TheLaws as optional
use Rattle.format.specs.declared.Refusal.{Refusal}
use Rattle.format.specs.contracts.Refusal.{the_row as RefusalRow}
use Rattle.format.proofs.Refusal.TheLaws as refusal
use Rattle.text_display.specs.declared.Reader.{Reader}
use Rattle.text_display.specs.contracts.Reader as T
use Rattle.text_display.proofs.Reader.TheLaws as T'

-- the type of a table
abbrev pub Table : RattleType
Table = Array (Array u8 10) 14

table_laws : RowLaws Table
table_laws = Array-row_laws (Array u8 10) (Array-row_laws u8 (uint_row_laws w8) 10) 14

-- the machine values of a slice and of a table's reference
abbrev pub slice_at : Bor (List ℕ) → Val
slice_at s = slice_val s.ref_ptr (length s.now)

abbrev pub table_at : Bor (List (List ℕ)) → Val
table_at m = vptr m.ref_ptr.0 m.ref_ptr.1

-- what a slice owns, what a table's reference owns, and the two together
abbrev pub SliceOwn : Lft → Bor (List ℕ) → Fml
SliceOwn κ s = (ShrSlice (named 0) κ u8).own_val s (slice_at s ∷ [])

abbrev pub TableOwn : Lft → Bor (List (List ℕ)) → Fml
TableOwn κ m = (ShrRef (named 1) κ Table).own_val m (table_at m ∷ [])

abbrev pub BothOwn : Lft → Lft → Bor (List ℕ) → Bor (List (List ℕ)) → Fml
BothOwn κ κ' s m = owns (ShrSlice (named 0) κ u8 ∷ ShrRef (named 1) κ' Table ∷ []) (s, (m, tt)) (slice_at s ∷ [], (table_at m ∷ [], tt))

-- the machine value of a reader's refusal; and what it owns: the refusal is the reader's field 4, counted from 0
abbrev pub refusal_at : Option Refusal → Val
refusal_at r = optional.lowered RefusalRow refusal.the_row_laws refusal.the_told r

abbrev pub RefusalOwn : Lft → Option Refusal → Fml
RefusalOwn κ r = field_own (T.the_type (record { mir = named 0; lft = κ })).parts (T'.the_laws (record { mir = named 0; lft = κ })) 4 r

-- the numbers of a reader are those of its fields' types
abbrev pub Fits : Reader → Type 0
Fits d = (d.at < 2 ^ 64) × (d.end < 2 ^ 64) × (d.spaces < 2 ^ 64)

pub reader_typed : (κ : Lft) (d : Reader) → Fits d → WT (slice_at d.report) → WT (refusal_at d.refusal) → WT (T'.lowered (record { mir = named 0; lft = κ }) d)
reader_typed κ d f w v = (w, (record { fits = f.0 }, (record { fits = f.1 }, (record { fits = f.2 }, (v, tt)))))

module _ {M : Type 1} {𝓤 : Ura M} (𝓛 : Logic 𝓤) where
  pub both_twice : (κ κ' : Lft) (s : Bor (List ℕ)) (m : Bor (List (List ℕ)))
      → ent 𝓤 (sem 𝓛 (BothOwn κ κ' s m)) (sep 𝓤 (sem 𝓛 (BothOwn κ κ' s m)) (sem 𝓛 (BothOwn κ κ' s m)))
  both_twice κ κ' s m =
      qed 𝓛 (‵ (BothOwn κ κ' s m) ∷ []) ∵ fsplit ! $
      use1 𝓛 (‵ (SliceOwn κ s) ⊛ ‵ (SliceOwn κ s)) ((shr_slice_copy 𝓛 (named 0) κ u8 (uint_row_laws w8)).twice s (slice_at s ∷ [])) $ split ! $
      move ! (2 ∷ []) $ fsplit ! $
      use1 𝓛 (‵ (TableOwn κ' m) ⊛ ‵ (TableOwn κ' m)) ((shr_copy 𝓛 (named 1) κ' Table table_laws).twice m (table_at m ∷ [])) $ split ! $
      -- [the table's; the table's; true; the slice's; the slice's]
      move ! (0 ∷ 2 ∷ []) $ fjoin ! $ move ! (2 ∷ 0 ∷ []) $ fjoin ! $ nothing ! $ move ! (2 ∷ 0 ∷ []) $ fjoin ! $ move ! (2 ∷ 0 ∷ []) $ fjoin ! $
      frame ! $ done !

  -- what the slice and the refusal own, and the facts of the three numbers between them, make what the reader owns
  pub reader_owned : (κ : Lft) (d : Reader) → Fits d
      → ent 𝓤 (sep 𝓤 (sem 𝓛 (SliceOwn κ d.report)) (sem 𝓛 (RefusalOwn κ d.refusal)))
      (sem 𝓛 ((T.the_row (record { mir = named 0; lft = κ })).own_val d (T'.lowered (record { mir = named 0; lft = κ }) d ∷ [])))
  reader_owned κ d f =
      let k : NamedLft = record { mir = named 0; lft = κ } in
      let R = T.the_row k in
      let v : Values (T.the_type k).parts = (d.report, (d.at, (d.end, (d.spaces, (d.refusal, tt))))) in
      let us = vstruct (spelled (T.the_type k).parts (T'.the_laws k) v) ∷ [] in
      qed 𝓛 (‵ (SliceOwn κ d.report) ∷ ‵ (RefusalOwn κ d.refusal) ∷ []) ∵
      nothing ! $ move ! (2 ∷ []) $ fjoin ! $
      owned ! usize (Is usize) (uint_Makes 𝓛 w64) d.spaces _ (refl, f.2) $ fjoin ! $
      owned ! usize (Is usize) (uint_Makes 𝓛 w64) d.end _ (refl, f.1) $ fjoin ! $
      owned ! usize (Is usize) (uint_Makes 𝓛 w64) d.at _ (refl, f.0) $ fjoin ! $
      move ! (1 ∷ 0 ∷ []) $ fjoin ! $
      use1 𝓛 (‵ (R.own_val d us)) (own_shut 𝓛 (T.the_type k) (T'.the_laws k) v) $
      peeks ! R (Is R) (shows 𝓛 R) d us (λ is.
      rewrite ! 0 (λ (ws : List Val). ‵ (R.own_val d ws)) ((T'.lowers k).val_is d us is) refl $ done !)

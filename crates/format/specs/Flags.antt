-- FORMAT 3.4: the flags of id 1, one nibble each, and the quality code.
use Rattle.std.specs.Prelude.{ℕ, zero, suc, ◌+◌, ◌-◌, ◌*◌, ◌/◌, ◌%◌, Bool, true, cond, ◌&&◌, List, [], ◌∷◌, ◌++◌, length, get_or, take, set, replicate, eqb}
use Rattle.format.specs.Order.{between}

abbrev pub is_flag : ℕ → Bool
is_flag j = between 1 14 j

-- the weights of R A B J K L M N Q S, which are 1 to 10; a missing flag, 0, has none
unfoldable pub weights : List ℕ
weights = 0 ∷ 1 ∷ 1 ∷ 2 ∷ 2 ∷ 2 ∷ 3 ∷ 3 ∷ 3 ∷ 3 ∷ []

unfoldable pub weight : ℕ → ℕ
weight zero = 0
weight (suc v) = get_or weights v 0

unfoldable pub total_weight : List ℕ → ℕ
total_weight [] = 0
total_weight (v ∷ vs) = weight v + total_weight vs

unfoldable pub all_missing : List ℕ → Bool
all_missing [] = true
all_missing (v ∷ vs) = eqb v 0 && all_missing vs

-- 0 where every flag is missing, otherwise 1 plus the weights
unfoldable pub quality_code : List ℕ → ℕ
quality_code flags = cond (all_missing flags) 0 (1 + total_weight flags)

-- a library's own table of the flags that it permits, fourteen rows of ten marks: the mark of flag j and value v is the v-th of
-- row j. 1 is yes, any other number is no
abbrev pub FlagTable : Type 0
FlagTable = List (List ℕ)

abbrev pub mark_of : FlagTable → ℕ → ℕ → ℕ
mark_of marks j v = get_or (get_or marks (j - 1) []) (v - 1) 0

abbrev pub permitted : FlagTable → ℕ → ℕ → Bool
permitted marks j v = eqb (mark_of marks j v) 1

-- the table before any is loaded: every flag may have every value
unfoldable pub all_yes : FlagTable
all_yes = replicate 14 (replicate 10 1)

-- a value that flag j may be set to: one of 1 to 10 that the table permits
abbrev pub flag_in_range : FlagTable → ℕ → ℕ → Bool
flag_in_range marks j v = between 1 10 v && permitted marks j v

-- what flag j may hold: 0, missing, whatever the table says, or a value in range
abbrev pub flag_fits : FlagTable → ℕ → ℕ → Bool
flag_fits marks j v = cond (eqb v 0) true (flag_in_range marks j v)

-- the flags from j on
unfoldable pub flags_fit : FlagTable → ℕ → List ℕ → Bool
flags_fit marks j [] = true
flags_fit marks j (v ∷ vs) = flag_fits marks j v && flags_fit marks (suc j) vs

-- flag j of a body
abbrev pub flag_at : List ℕ → ℕ → ℕ
flag_at body j = get_or body (j - 1) 0

-- the body of these fourteen flags
unfoldable pub flag_body : List ℕ → List ℕ
flag_body flags = flags ++ (quality_code flags / 16 ∷ quality_code flags % 16 ∷ [])

-- the body with flag j at v, and the quality code worked out again
unfoldable pub with_flag : List ℕ → ℕ → ℕ → List ℕ
with_flag body j v = flag_body (set (take 14 body) (j - 1) v)

-- a valid content of id 1: 16 nibbles, each flag missing or in range, the quality code of the flags
unfoldable pub flags_valid : FlagTable → List ℕ → Bool
flags_valid marks body =
    eqb (length body) 16 && (flags_fit marks 1 (take 14 body) && eqb (get_or body 14 0 * 16 + get_or body 15 0) (quality_code (take 14 body)))

-- FORMAT 3.1 to 3.3: nibbles and attachments.
use Rattle.std.specs.Prelude.{ℕ, zero, suc, ◌+◌, ◌*◌, ◌/◌, ◌%◌, Bool, cond, false, ◌||◌, List, [], ◌∷◌, ◌++◌, length, get_or, take, drop, eqb}
use Rattle.format.specs.Bits.{Below}

-- the nibbles of bytes, the high half of each first
unfoldable pub nibbles : List ℕ → List ℕ
nibbles [] = []
nibbles (b ∷ bs) = b / 16 ∷ b % 16 ∷ nibbles bs

-- each number is a nibble
abbrev pub Nibbles : List ℕ → Type 0
Nibbles ns = Below 16 ns

-- the bytes of nibbles, two a byte; a last one alone is the high half
unfoldable pub bytes : List ℕ → List ℕ
bytes [] = []
bytes (h ∷ []) = h * 16 ∷ []
bytes (h ∷ l ∷ ns) = (h * 16 + l) ∷ bytes ns

abbrev pub odd : ℕ → Bool
odd n = eqb (n % 2) 1

-- with the padding nibble, where it is due
unfoldable pub padded : List ℕ → List ℕ
padded ns = cond (odd (length ns)) (ns ++ (0 ∷ [])) ns

-- ---- attachments

-- an attachment: its id and its content
pub record Attachment : Type 0 where
  pub id : ℕ
  pub content : List ℕ

abbrev pub attachment : ℕ → List ℕ → Attachment
attachment i ns = record { id = i; content = ns }

-- AL in two nibbles, AID in one, and the content
unfoldable pub attachment_nibbles : Attachment → List ℕ
attachment_nibbles a = length a.content / 16 ∷ length a.content % 16 ∷ a.id ∷ a.content

unfoldable pub tail_nibbles : List Attachment → List ℕ
tail_nibbles [] = []
tail_nibbles (a ∷ more) = attachment_nibbles a ++ tail_nibbles more

-- AL, AID and the content of the attachment at the head of nibbles, and what stands behind it
abbrev pub length_at : List ℕ → ℕ
length_at ns = get_or ns 0 0 * 16 + get_or ns 1 0

abbrev pub id_at : List ℕ → ℕ
id_at ns = get_or ns 2 0

abbrev pub content_at : List ℕ → List ℕ
content_at ns = take (length_at ns) (drop 3 ns)

abbrev pub behind : List ℕ → List ℕ
behind ns = drop (length_at ns) (drop 3 ns)

-- the first n attachments of nibbles
unfoldable pub attachments_of : ℕ → List ℕ → List Attachment
attachments_of zero ns = []
attachments_of (suc n) ns = attachment (id_at ns) (content_at ns) ∷ attachments_of n (behind ns)

unfoldable pub among : ℕ → List ℕ → Bool
among x [] = false
among x (y ∷ ys) = eqb x y || among x ys

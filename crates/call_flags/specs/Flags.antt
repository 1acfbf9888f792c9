-- What a call leaves of the flags.
use Rattle.std.specs.Prelude.{ℕ, ◌+◌, List, ◌++◌, take, drop}
use Rattle.format.specs.Flags.{with_flag}

-- nibbles with flag j at v in the body at a place, and the quality code
unfoldable pub flagged : List ℕ → ℕ → ℕ → ℕ → List ℕ
flagged ns at j v = take at ns ++ (with_flag (take 16 (drop at ns)) j v ++ drop (at + 16) ns)

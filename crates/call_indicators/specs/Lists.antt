-- The indicators that were found.
use Rattle.std.specs.Prelude.{ℕ, List, take}
use Rattle.call_indicators.specs.declared.Lost.{Lost}

-- their fields, in order
abbrev pub listed : Lost → List ℕ
listed lost = take lost.count lost.fields

-- The nibbles of a valid body.
use Rattle.std.specs.Prelude.{ℕ, List}
use Rattle.text_reader.specs.Codes.{body}
use Rattle.text_reader.specs.declared.Body.{Body}

abbrev pub content : Body → List ℕ
content b = body b.report.now b.at b.len

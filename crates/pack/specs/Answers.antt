-- FORMAT 7.4, the answers of pack: a refusal's number and place, or the report's size.
use Rattle.std.specs.Prelude.{ℕ, Result, Ok, Err}
use Rattle.format.specs.Calls.{Answer, refused, accepted}
use Rattle.format.specs.Reply.{refusal_of}
use Rattle.format.specs.Whole.{pack_gives}
use Rattle.format.specs.declared.Refusal.{Refusal}

abbrev pub pack_answer : Result ℕ Refusal → Answer
pack_answer (Err e) = refused (refusal_of e)
pack_answer (Ok size) = accepted (pack_gives size)

-- FORMAT 7.2, the answers of fresh: a refusal's number and place, or nothing.
use Rattle.std.specs.Prelude.{[], Result, Ok, Err}
use Rattle.format.specs.Calls.{Answer, refused, accepted}
use Rattle.format.specs.Reply.{refusal_of}
use Rattle.format.specs.declared.Refusal.{Refusal}

abbrev pub fresh_answer : Result Unit Refusal → Answer
fresh_answer (Err e) = refused (refusal_of e)
fresh_answer (Ok u) = accepted []

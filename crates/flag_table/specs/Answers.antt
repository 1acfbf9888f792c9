-- FORMAT 7.7: what each case of loading's answer means.
use Rattle.std.specs.Prelude.{[], Result, Ok, Err}
use Rattle.format.specs.Calls.{Answer, refused, accepted}
use Rattle.format.specs.Reply.{refusal_of}
use Rattle.format.specs.declared.Refusal.{Refusal}

abbrev pub loading_answer : Result (Unit {0}) Refusal → Answer
loading_answer (Err e) = refused (refusal_of e)
loading_answer (Ok r) = accepted []

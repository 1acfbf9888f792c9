-- FORMAT 7.3, the answers of unpack: a refusal's number and place, or what is given.
use Rattle.std.specs.Prelude.{ℕ, ◌≡◌, List, ℤ, Result, Ok, Err}
use Rattle.format.specs.Flags.{FlagTable}
use Rattle.format.specs.Calls.{Given, Answer, refused, accepted}
use Rattle.format.specs.Reply.{refusal_of}
use Rattle.format.specs.declared.Refusal.{Refusal}
use Rattle.format.specs.Whole.{contents}
use Rattle.format.specs.Whole as spec
use Rattle.report.specs.Found.{Accepted}
use Rattle.unpack.specs.declared.Contents.{Contents}

-- the six numbers that are given
abbrev pub contents_numbers : Contents → List Given
contents_numbers c = contents c.word c.present c.rptin c.attachments c.bytes c.nibbles

abbrev pub unpack_answer : Result Contents Refusal → Answer
unpack_answer (Err e) = refused (refusal_of e)
unpack_answer (Ok c) = accepted (contents_numbers c)

-- what unpacking leaves, under every table by which b begins with a report
abbrev pub Unpacks : List ℕ → List ℤ → List ℕ → spec.Unpacked → Type 0
Unpacks b vs ts u = (marks : FlagTable) → Accepted marks b → u ≡ spec.unpack marks b vs ts

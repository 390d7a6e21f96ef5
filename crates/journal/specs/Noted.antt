-- A line of a journal: Line.
use Rattle.meter.specs.declared.calls.Line as noted
use Rattle.journal.specs.declared.answers.Answer.{Answer}
use Rattle.journal.specs.declared.calls.Call.{Call}

-- a call, what was answered, and the writes left afterwards
abbrev pub Line : Type 0
Line = noted.Line Call Answer

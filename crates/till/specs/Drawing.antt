-- Drawn numbers: drawn_as; drawing and issuing, what a till answers: a drawn number, or one that is given back with the refusal.
use Rattle.std.specs.Prelude.{ℕ, Ok, Err, Result}
use Rattle.refusal.specs.declared.Refusal.{Refusal}
use Rattle.till.specs.declared.drawn.DrawnNumber.{DrawnNumber}
use Rattle.till.specs.declared.drawn.NotIssued.{NotIssued}

abbrev pub drawn_as : ℕ → DrawnNumber
drawn_as number = record { number = number }

abbrev pub drawing : Result ℕ Refusal → Result DrawnNumber Refusal
drawing (Ok number) = Ok (drawn_as number)
drawing (Err e) = Err e

abbrev pub issuing : DrawnNumber → Result ℕ Refusal → Result ℕ NotIssued
issuing drawn (Ok length) = Ok length
issuing drawn (Err e) = Err (record { refusal = e; drawn = drawn })

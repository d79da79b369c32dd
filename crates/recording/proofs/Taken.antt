-- A checker that answers Ok takes the value, whatever it tells of it.
use mathlib.Core.Path.{◌≡◌, refl}
use mathlib.Core.Bool.{false}
use lib.Dec.{eqb}
use Rattle.std.proofs.Common.{Result, Ok, Err, is_ok}
use Rattle.answers.specs.declared.Refusal.{Refusal}
use Rattle.answers.specs.declared.Refusal.TheVariants.{TooLong, Beginning, Cut, OtherTag, Currency, Form, CheckDigits, Range, Unlisted, OtherInstrument, TooManyItems, Count, Total}
use Rattle.answers.specs.declared.Refusal.TheVariants.{Behind, ShortArea, NoItem, Length, KeyOpen, BookFull, KeyNotOpen, TypeTwice, TxIdTwice, ShortIndex, NoRecord, TimeFalls, OtherMessage, NoBook}
use Rattle.answers.specs.Refusals.{refusal_number}
use Rattle.answers.specs.Given.{given_yes, given_worth}
use Rattle.recording.specs.Record.{taken}
use Prim.Native.Nat.{ℕ}

no_zero : (r : Refusal) → false ≡ eqb (refusal_number r) 0
no_zero TooLong = refl
no_zero Beginning = refl
no_zero Cut = refl
no_zero OtherTag = refl
no_zero Currency = refl
no_zero Form = refl
no_zero CheckDigits = refl
no_zero Range = refl
no_zero Unlisted = refl
no_zero OtherInstrument = refl
no_zero TooManyItems = refl
no_zero Count = refl
no_zero Total = refl
no_zero Behind = refl
no_zero ShortArea = refl
no_zero NoItem = refl
no_zero Length = refl
no_zero KeyOpen = refl
no_zero BookFull = refl
no_zero KeyNotOpen = refl
no_zero TypeTwice = refl
no_zero TxIdTwice = refl
no_zero ShortIndex = refl
no_zero NoRecord = refl
no_zero TimeFalls = refl
no_zero OtherMessage = refl
no_zero NoBook = refl

pub taken_yes : (r : Result Unit Refusal) → is_ok r ≡ taken (given_yes r)
taken_yes (Ok u) = refl
taken_yes (Err r) = no_zero r

pub taken_worth : (r : Result ℕ Refusal) → is_ok r ≡ taken (given_worth r)
taken_worth (Ok n) = refl
taken_worth (Err r) = no_zero r

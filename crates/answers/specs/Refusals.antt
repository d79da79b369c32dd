-- "Each gives its number": this paper's number for each refusal. 5 and 13 are not used.
use Rattle.std.specs.Prelude.{ℕ}
use Rattle.answers.specs.declared.Refusal.{Refusal}
use Rattle.answers.specs.declared.Refusal.TheVariants.{TooLong, Beginning, Cut, OtherTag, Currency, Form, CheckDigits, Range, Unlisted, OtherInstrument, TooManyItems, Count, Total, Behind, ShortArea, NoItem, Length, KeyOpen, BookFull, KeyNotOpen, TypeTwice, TxIdTwice, ShortIndex, NoRecord, TimeFalls, OtherMessage, NoBook}

abbrev pub refusal_number : Refusal → ℕ
refusal_number TooLong = 1
refusal_number Beginning = 2
refusal_number Cut = 3
refusal_number OtherTag = 4
refusal_number Currency = 6
refusal_number Form = 7
refusal_number CheckDigits = 8
refusal_number Range = 9
refusal_number Unlisted = 10
refusal_number OtherInstrument = 11
refusal_number TooManyItems = 12
refusal_number Count = 14
refusal_number Total = 15
refusal_number Behind = 16
refusal_number ShortArea = 17
refusal_number NoItem = 18
refusal_number Length = 19
refusal_number KeyOpen = 20
refusal_number BookFull = 21
refusal_number KeyNotOpen = 22
refusal_number TypeTwice = 23
refusal_number TxIdTwice = 24
refusal_number ShortIndex = 25
refusal_number NoRecord = 26
refusal_number TimeFalls = 27
refusal_number OtherMessage = 28
refusal_number NoBook = 29

-- A lent list of any number of places, and the first 64 of them by value.
use Rattle.std.specs.Prelude.{List, ◌++◌, length, take, drop, replicate}
use Rattle.text.specs.Quoted.{byte}
use Rattle.naming.specs.Key.{key_length}
use Rattle.book.specs.declared.Entry.{Entry}
use Rattle.book.specs.Book.{most_open}

-- an entry of no bulk
abbrev pub blank_entry : Entry
blank_entry = record { key = replicate key_length (byte " "); cents = 0 }

-- the first 64 entries, and blank ones where they are fewer
unfoldable pub first_places : List Entry → List Entry
first_places l = take most_open (l ++ replicate most_open blank_entry)

-- the first 64 places, or as many as there are, replaced by those of b
unfoldable pub replaced : List Entry → List Entry → List Entry
replaced b l = take (length l) b ++ drop most_open l

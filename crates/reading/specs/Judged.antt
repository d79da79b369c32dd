-- The judge: the first fault of a message, or what its header says held against what stands in it.
use Rattle.std.specs.Prelude.{ℕ, List, [], ◌∷◌, ◌++◌, eqb}
use Rattle.text.specs.Truth.{pick}
use Rattle.text.specs.Quoted.{decimal}
use Rattle.answers.specs.Given.{Given, yes, worth, refused as no}
use Rattle.money.specs.Amount.{cents}
use Rattle.profile.specs.declared.Kind.{Kind}
use Rattle.profile.specs.declared.Kind.TheVariants.{Count, Total}
use Rattle.profile.specs.Kinds.{same_kind}
use Rattle.reading.specs.Trace.{What, item_begins, item_ends, there, absent, value, Entry, message}
use Rattle.reading.specs.Noted.{Reading, on, stop, Ended, Noting, noted}
use Rattle.reading.specs.Rules.{items_in, cents_in, values_of, of_kind, weighed}
use Rattle.reading.specs.Verdict.{Judged, accepted, refused}

abbrev pub whats : List Entry → List What
whats [] = []
whats (e ∷ l) = e.what ∷ whats l

-- an entry that passes is one more of the list; another is refused at its place
abbrev pub or_refused : {S : Type 0} → Given → ℕ → S → Reading S
or_refused yes p s = on s
or_refused (worth n) p s = on s
or_refused (no n) p s = stop n p

abbrev pub listed : Noting (List Entry)
listed e before = or_refused (weighed (whats before) e.what) e.place (before ++ (e ∷ []))

-- ---- at the end
-- the value of a kind of which there is one, and its place (the last one, or else what is given)
abbrev pub last_of : List ℕ → List (List ℕ) → List ℕ
last_of v [] = v
last_of v (w ∷ l) = last_of w l

abbrev pub only_of : Kind → List Entry → List ℕ
only_of k es = last_of [] (values_of k (whats es))

abbrev pub place_in : List (List ℕ) → ℕ → ℕ → ℕ
place_in [] p q = q
place_in (v ∷ l) p q = p

abbrev pub place_from : ℕ → Kind → List Entry → ℕ
place_from q k [] = q
place_from q k (e ∷ l) = place_from (place_in (of_kind k e.what) e.place q) k l

abbrev pub place_of : Kind → List Entry → ℕ
place_of k es = place_from 0 k es

-- 14 "NbOfTxs is not the item count", 15 "total is not the sum": each at its value
unfoldable pub compared : List Entry → Judged
compared es =
    pick (eqb (decimal (only_of Count es)) (items_in (whats es)))
    (pick (eqb (cents (only_of Total es)) (cents_in (whats es))) (accepted (items_in (whats es)) (cents_in (whats es))) (refused 15 (place_of Total es)))
    (refused 14 (place_of Count es))

abbrev pub verdict : Reading (Ended (List Entry)) → Judged
verdict (on r) = compared r.notes
verdict (stop n p) = refused n p

-- "After `</Document>`: 16, 14, 15."
unfoldable pub judged : List ℕ → Judged
judged m = verdict (noted listed (message m) [])

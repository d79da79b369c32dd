-- The code's own way of noting what a message holds: a few sums, and where the last value of each field begins. That it says no more and no less than the list is proofs/Sums.antt.
use Rattle.std.specs.Prelude.{ℕ, ◌+◌, Bool, true, false, not, Option, None, Some, List, set, replicate, eqb, ltb}
use Rattle.text.specs.Truth.{pick}
use Rattle.answers.specs.Given.{Given, yes, worth, refused}
use Rattle.codes.specs.declared.Element.{Element}
use Rattle.codes.specs.declared.Element.TheVariants.{SttlmMtd, SvcLvl, LclInstrm, SeqTp, ChrgBr, Prtry}
use Rattle.profile.specs.declared.Kind.{Kind}
use Rattle.profile.specs.declared.Kind.TheVariants.{Plain, Count, Total, Amount, Code}
use Rattle.profile.specs.declared.Field.{Field}
use Rattle.profile.specs.Limits.{most_items}
use Rattle.profile.specs.Fields.{field_number}
use Rattle.profile.specs.Listed.{many_fields}
use Rattle.profile.specs.Profile.{is_type}
use Rattle.kinds.specs.Given.{kind_given}
use Rattle.reading.specs.Trace.{What, item_begins, item_ends, there, absent, value}
use Rattle.reading.specs.Noted.{Reading, on, stop, onward, Noting}
use Rattle.notes.specs.declared.Notes.{Notes}

-- before anything is read
abbrev pub fresh : Notes
fresh = record {
  count = 0;
  first = 0;
  sum = 0;
  cents = 0;
  number = 0;
  numberat = 0;
  total = 0;
  totalat = 0;
  typed = None;
  service = None;
  starts = replicate many_fields 0;
}

-- ---- the notes with one thing more
abbrev pub with_item : ℕ → Notes → Notes
with_item p n = record {
  count = n.count + 1;
  first = pick (eqb n.count 0) p n.first;
  sum = n.sum;
  cents = n.cents;
  number = n.number;
  numberat = n.numberat;
  total = n.total;
  totalat = n.totalat;
  typed = n.typed;
  service = n.service;
  starts = n.starts;
}

-- what the header says of the count and of the total, and where
abbrev pub with_number : ℕ → ℕ → Notes → Notes
with_number c p n = record {
  count = n.count;
  first = n.first;
  sum = n.sum;
  cents = n.cents;
  number = c;
  numberat = p;
  total = n.total;
  totalat = n.totalat;
  typed = n.typed;
  service = n.service;
  starts = n.starts;
}

abbrev pub with_total : ℕ → ℕ → Notes → Notes
with_total c p n = record {
  count = n.count;
  first = n.first;
  sum = n.sum;
  cents = n.cents;
  number = n.number;
  numberat = n.numberat;
  total = c;
  totalat = p;
  typed = n.typed;
  service = n.service;
  starts = n.starts;
}

-- an item's cents
abbrev pub with_cents : ℕ → Notes → Notes
with_cents c n = record {
  count = n.count;
  first = n.first;
  sum = n.sum;
  cents = c;
  number = n.number;
  numberat = n.numberat;
  total = n.total;
  totalat = n.totalat;
  typed = n.typed;
  service = n.service;
  starts = n.starts;
}

-- the running sum
abbrev pub with_sum : ℕ → Notes → Notes
with_sum s n = record {
  count = n.count;
  first = n.first;
  sum = s;
  cents = n.cents;
  number = n.number;
  numberat = n.numberat;
  total = n.total;
  totalat = n.totalat;
  typed = n.typed;
  service = n.service;
  starts = n.starts;
}

-- what is said of the payment type first: whether it is there
abbrev pub with_type : Option Bool → Notes → Notes
with_type i n = record {
  count = n.count;
  first = n.first;
  sum = n.sum;
  cents = n.cents;
  number = n.number;
  numberat = n.numberat;
  total = n.total;
  totalat = n.totalat;
  typed = i;
  service = n.service;
  starts = n.starts;
}

-- the service: LclInstrm's place in its list
abbrev pub with_service : ℕ → Notes → Notes
with_service i n = record {
  count = n.count;
  first = n.first;
  sum = n.sum;
  cents = n.cents;
  number = n.number;
  numberat = n.numberat;
  total = n.total;
  totalat = n.totalat;
  typed = n.typed;
  service = Some i;
  starts = n.starts;
}

-- where a field's value begins
abbrev pub started : Field → ℕ → List ℕ → List ℕ
started f p l = set l (field_number f) p

abbrev pub with_start : Field → ℕ → Notes → Notes
with_start f p n = record {
  count = n.count;
  first = n.first;
  sum = n.sum;
  cents = n.cents;
  number = n.number;
  numberat = n.numberat;
  total = n.total;
  totalat = n.totalat;
  typed = n.typed;
  service = n.service;
  starts = started f p n.starts;
}

-- ---- what is noted of a value that passed its kind's checker with this worth, at this place
-- LclInstrm is the first one's, or the first
abbrev pub may_follow : Option ℕ → ℕ → Bool
may_follow None i = true
may_follow (Some j) i = eqb j i

unfoldable pub service_kept : ℕ → ℕ → Notes → Reading Notes
service_kept i p n = pick (may_follow n.service i) (on (with_service i n)) (stop 11 p)

abbrev pub coded : Element → ℕ → ℕ → Notes → Reading Notes
coded LclInstrm i p n = service_kept i p n
coded SttlmMtd i p n = on n
coded SvcLvl i p n = on n
coded SeqTp i p n = on n
coded ChrgBr i p n = on n
coded Prtry i p n = on n

abbrev pub kept : Kind → ℕ → ℕ → Notes → Reading Notes
kept (Plain s) c p n = on n
kept Count c p n = on (with_number c p n)
kept Total c p n = on (with_total c p n)
kept Amount c p n = on (with_cents c n)
kept (Code e) c p n = coded e c p n

-- a refusal at the value's place, or on with its worth
abbrev pub on_given : {S : Type 0} → Given → ℕ → (ℕ → Reading S) → Reading S
on_given yes p f = f 0
on_given (worth c) p f = f c
on_given (refused n) p f = stop n p

unfoldable pub value_noted : Kind → Field → List ℕ → ℕ → Notes → Reading Notes
value_noted k f v p n = on_given (kind_given k v) p (λ c. onward (kept k c p n) (λ u. on (with_start f p u)))

-- the running sum, with the cents of an amount that was noted
abbrev pub added_up : Kind → Notes → Notes
added_up (Plain s) n = n
added_up Count n = n
added_up Total n = n
added_up Amount n = with_sum (n.sum + n.cents) n
added_up (Code e) n = n

unfoldable pub item_noted : ℕ → Notes → Reading Notes
item_noted p n = pick (ltb n.count most_items) (on (with_item p n)) (stop 12 p)

-- the payment type where it may stand: whether it is there is kept the first time, and refused where the same is said again
abbrev pub type_refusal : Bool → ℕ
type_refusal true = 23
type_refusal false = 4

-- of the payment type the same is not said twice
abbrev pub unsaid : Option Bool → Bool → Bool
unsaid None b = true
unsaid (Some true) b = not b
unsaid (Some false) b = b

-- what is said first is kept
abbrev pub said_by : Option Bool → Bool → Option Bool
said_by None b = Some b
said_by (Some c) b = Some c

unfoldable pub type_noted : Bool → ℕ → Notes → Reading Notes
type_noted b p n = pick (unsaid n.typed b) (on (with_type (said_by n.typed b) n)) (stop (type_refusal b) p)

abbrev pub what_noted : What → ℕ → Notes → Reading Notes
what_noted item_begins p n = item_noted p n
what_noted item_ends p n = on n
what_noted (there s) p n = pick (is_type s) (type_noted true p n) (on n)
what_noted (absent s) p n = pick (is_type s) (type_noted false p n) (on n)
what_noted (value k f v) p n = onward (value_noted k f v p n) (λ u. on (added_up k u))

abbrev pub in_notes : Noting Notes
in_notes e n = what_noted e.what e.place n

-- A day played on the first 64 entries is the day played on a longer list: the places behind keep what they held.
use mathlib.Core.Path.{◌≡◌, refl, sym, ap, ◌∙◌}
use mathlib.Core.Bool.{Bool, true, false}
use mathlib.Core.List.{List, [], ◌∷◌, ◌++◌}
use mathlib.Core.Logic.{inl, inr}
use Prim.Native.Nat.{ℕ, zero, suc, ◌≤◌}
use native.Mathlib.Omega.{arith}
use borrow.Author.Tests.{leb-true}
use lib.Dec.{leb, ltb}
use lib.ListN.{length, take, drop, length-append, length-set, take-append-drop}
use lib.Seq.{take_at, drop_at, take-append-le, length-take-le}
use Rattle.text.specs.Truth.{pick}
use Rattle.text.specs.Quoted.{alike}
use Rattle.text.proofs.Truths.{lt_or_ge}
use Rattle.reading.specs.Verdict.{Judged, accepted, refused}
use Rattle.naming.specs.Key.{keyed}
use Rattle.recording.specs.Record.{Line, line_of}
use Rattle.judge.proofs.Index.{Indexed, short, roomy, indexed, in_short, in_room}
use Rattle.sums.specs.declared.Lot.{Lot}
use Rattle.sums.specs.Sums.{lot_of}
use Rattle.book.specs.declared.Entry.{Entry}
use Rattle.book.specs.Book.{Book, most_open, open_in, first_at}
use Rattle.book.specs.Calls.{Told, done, refusal, Outcome, Call, enter, withdraw, bulk_of, called}
use Rattle.book.specs.Stored.{Stored, agrees, Carried, as_lent, carried, kept}
use Rattle.book.specs.Code.{stored_of, left_out}
use Rattle.days.proofs.Open.{length_lessened}
use Rattle.days.proofs.Kept.{Changed, same, more, less, changed}
use Rattle.daybook.specs.Lent.{first_places, replaced}
use Rattle.daybook.proofs.Lent.{Agree, agree, few_same, first_is, filled}
use Rattle.play.specs.Play.{Run, Step, on, refuses, onward, carried_on, enters_if, enters, enters_next, withdraws, lies, message_at, step_of, step, emptied, record_at, records, Played, ended, go_on, play_from, played, played_with}
use Rattle.play.specs.Play as paper
use Rattle.play.specs.Table.{table_of}
use Rattle.play.specs.Code.{played_on}

-- ---- a list of 64 places
pub record Small (b : Book) : Type 0 where
  pub long : length b.entries ≡ most_open
  pub few : b.number ≤ most_open

small_changed : (b : Book) (c : Call) (o : Outcome) → Small b → Changed b c o → Small o.book
small_changed b c o s (same n p) = s
small_changed b c o s (more e y h) = record { long = rw (length-set b.entries b.number e) s.long; few = omega (arith, h) }
small_changed b c o s (less k y) =
    record { long = length_lessened k b (omega (arith, s.long, s.few)) y ∙ s.long; few = omega (arith, s.few) }

pub small_kept : (c : Call) (s : Stored) → Small s.book → Small (kept c s).stored.book
unfolding kept
small_kept c s h = go (agrees s)
  where
    go : (b : Bool) → Small (pick b (carried c s.total (called c s.book)) (as_lent 29 0 s)).stored.book
    go true = small_changed s.book c (called c s.book) h (changed c s.book)
    go false = h

-- ---- more places behind
module _ (tail : List Entry) where
  abbrev wide_stored : Stored → Stored
  wide_stored s = stored_of (s.book.entries ++ tail) s.book.number s.total

  abbrev wide_carried : Carried → Carried
  wide_carried c = record { told = c.told; stored = wide_stored c.stored }

  abbrev wide : Run → Run
  wide r = record { stored = wide_stored r.stored; lots = r.lots; taken = r.taken; last = r.last }

  abbrev wide_step : Step → Step
  wide_step (on r) = on (wide r)
  wide_step (refuses n) = refuses n

  abbrev wide_played : Played → Played
  wide_played p = record { told = p.told; stored = wide_stored p.stored; table = p.table }

  -- a call
  module _ (c : Call) (s : Stored) (h : Small s.book) where
    abbrev x : List Entry
    x = s.book.entries

    first : take most_open (x ++ tail) ≡ x
    first = take_at x tail most_open h.long

    behind : drop most_open (x ++ tail) ≡ tail
    behind = drop_at x tail most_open h.long

    room : most_open ≤ length (x ++ tail)
    room = omega (arith, h.long, length-append x tail)

    agreed : Agree (x ++ tail) s.book.number s.total (kept c (stored_of (take most_open (x ++ tail)) s.book.number s.total)) (kept c (wide_stored s))
    agreed = agree (x ++ tail) s.book.number s.total room c

    held : stored_of (take most_open (x ++ tail)) s.book.number s.total ≡ s
    held = ap (λ (l : List Entry). stored_of l s.book.number s.total) first

    kept-wide : kept c (wide_stored s) ≡ wide_carried (kept c s)
    kept-wide =
        let a = rw held at agreed in
        let e : (kept c s).stored.book.entries ++ tail ≡ (kept c (wide_stored s)).stored.book.entries =
        ap (λ (l : List Entry). (kept c s).stored.book.entries ++ l) (sym behind) ∙ a.entries in
        sym (rw (a.told, a.number, a.total, e))

  carried-wide : (c : Call) (s : Stored) → Small s.book → (lots : List Lot) (taken last : ℕ)
      → carried_on (kept c (wide_stored s)) lots taken last ≡ wide_step (carried_on (kept c s) lots taken last)
  carried-wide c s h lots taken last = rw (kept-wide c s h) (go (kept c s).told)
    where
      go : (t : Told) → onward t (wide (record { stored = (kept c s).stored; lots = lots; taken = taken; last = last }))
          ≡ wide_step (onward t (record { stored = (kept c s).stored; lots = lots; taken = taken; last = last }))
      go (done cents) = refl
      go (refusal n p) = refl

  -- a record
  module _ (buffer ends : List ℕ) (l : Line) (r : Run) (h : Small r.stored.book) where
    enters-wide : (m : List ℕ) → enters m l (wide r) ≡ wide_step (enters m l r)
    unfolding enters
    enters-wide m = go (keyed m).verdict
      where
        keys : (b : Bool) → pick b (carried_on (kept (enter (bulk_of (keyed m))) (wide_stored r.stored)) (r.lots ++ (lot_of m ∷ [])) (suc r.taken) l.instant) (refuses 28)
            ≡ wide_step (pick b (carried_on (kept (enter (bulk_of (keyed m))) r.stored) (r.lots ++ (lot_of m ∷ [])) (suc r.taken) l.instant) (refuses 28))
        keys true = carried-wide (enter (bulk_of (keyed m))) r.stored h (r.lots ++ (lot_of m ∷ [])) (suc r.taken) l.instant
        keys false = refl

        go : (v : Judged) → enters_if v m l (wide r) ≡ wide_step (enters_if v m l r)
        go (refused n p) = refl
        go (accepted n c) = keys (alike (keyed m).key l.key)

    withdraws-wide : withdraws l (wide r) ≡ wide_step (withdraws l r)
    unfolding withdraws
    withdraws-wide =
        let z : open_in (wide_stored r.stored).book ≡ open_in r.stored.book =
        take-append-le r.stored.book.number r.stored.book.entries tail (omega (arith, h.long, h.few)) in
        rw z (carried-wide (withdraw l.key) r.stored h (left_out (first_at l.key (open_in r.stored.book)) r.lots) r.taken l.instant)

    step-wide : step_of buffer ends l (wide r) ≡ wide_step (step_of buffer ends l r)
    step-wide = go l.fits (ltb l.instant r.last) l.entering (lies buffer ends r.taken)
      where
        go : (a b c d : Bool)
            → pick a (pick b (refuses 27) (pick c (pick d (enters (message_at buffer ends r.taken) l (wide r)) (refuses 28)) (withdraws l (wide r)))) (refuses 26)
            ≡ wide_step (pick a (pick b (refuses 27) (pick c (pick d (enters (message_at buffer ends r.taken) l r) (refuses 28)) (withdraws l r))) (refuses 26))
        go false b c d = refl
        go true true c d = refl
        go true false false d = withdraws-wide
        go true false true false = refl
        go true false true true = enters-wide (message_at buffer ends r.taken)

-- ---- a record that is carried out leaves a list of 64 places
abbrev AlsoSmall : Step → Type 0
AlsoSmall (on s) = Small s.stored.book
AlsoSmall (refuses n) = Unit {0}

module _ (buffer ends : List ℕ) (l : Line) (r : Run) (h : Small r.stored.book) where
  small-carried : (c : Call) (lots : List Lot) (taken last : ℕ) → AlsoSmall (carried_on (kept c r.stored) lots taken last)
  small-carried c lots taken last = go (kept c r.stored).told
    where
      go : (t : Told) → AlsoSmall (onward t (record { stored = (kept c r.stored).stored; lots = lots; taken = taken; last = last }))
      go (done cents) = small_kept c r.stored h
      go (refusal n p) = tt

  small-enters : (m : List ℕ) → AlsoSmall (enters m l r)
  unfolding enters
  small-enters m = go (keyed m).verdict
    where
      keys : (b : Bool) → AlsoSmall (pick b (carried_on (kept (enter (bulk_of (keyed m))) r.stored) (r.lots ++ (lot_of m ∷ [])) (suc r.taken) l.instant) (refuses 28))
      keys true = small-carried (enter (bulk_of (keyed m))) (r.lots ++ (lot_of m ∷ [])) (suc r.taken) l.instant
      keys false = tt

      go : (v : Judged) → AlsoSmall (enters_if v m l r)
      go (refused n p) = tt
      go (accepted n c) = keys (alike (keyed m).key l.key)

  small-withdraws : AlsoSmall (withdraws l r)
  unfolding withdraws
  small-withdraws = small-carried (withdraw l.key) (left_out (first_at l.key (open_in r.stored.book)) r.lots) r.taken l.instant

  small-step : AlsoSmall (step_of buffer ends l r)
  small-step = go l.fits (ltb l.instant r.last) l.entering (lies buffer ends r.taken)
    where
      go : (a b c d : Bool)
          → AlsoSmall (pick a (pick b (refuses 27) (pick c (pick d (enters (message_at buffer ends r.taken) l r) (refuses 28)) (withdraws l r))) (refuses 26))
      go false b c d = tt
      go true true c d = tt
      go true false false d = small-withdraws
      go true false true false = tt
      go true false true true = small-enters (message_at buffer ends r.taken)

-- ---- the whole run
module _ (tail : List Entry) (recording buffer ends : List ℕ) where
  play-wide : (n i : ℕ) (r : Run) → Small r.stored.book → play_from recording buffer ends n i (wide tail r) ≡ wide_played tail (play_from recording buffer ends n i r)
  unfolding play_from step
  play-wide zero i r h = go (ltb r.taken (length ends))
    where
      go : (b : Bool)
          → pick b (paper.as_lent 28 i (wide_stored tail r.stored)) (record { told = done i; stored = wide_stored tail r.stored; table = table_of r.lots })
          ≡ wide_played tail (pick b (paper.as_lent 28 i r.stored) (record { told = done i; stored = r.stored; table = table_of r.lots }))
      go true = refl
      go false = refl
  play-wide (suc n) i r h =
      rw (step-wide tail buffer ends (line_of (record_at recording i)) r h)
      (go (step_of buffer ends (line_of (record_at recording i)) r) (small-step buffer ends (line_of (record_at recording i)) r h) (play-wide n (suc i)))
    where
      go : (s : Step) → AlsoSmall s
          → ((r : Run) → Small r.stored.book → play_from recording buffer ends n (suc i) (wide tail r) ≡ wide_played tail (play_from recording buffer ends n (suc i) r))
          → go_on (wide_step tail s) i (wide tail r) (play_from recording buffer ends n (suc i)) ≡ wide_played tail (go_on s i r (play_from recording buffer ends n (suc i)))
      go (on s) g k = k s g
      go (refuses m) g k = refl

-- ---- a lent list of any number of places
module _ (ys : List Entry) where
  all_back : replaced (first_places ys) ys ≡ ys
  all_back = elim (lt_or_ge (length ys) most_open) [
    | inl h ↦ few_same ys 0 h
    | inr h ↦ rw (first_is ys 0 h) (filled ys 0 h (take most_open ys) (length-take-le most_open ys h) ∙ take-append-drop most_open ys)
  ]

  module _ (i r b e : List ℕ) (n t : ℕ) where
    abbrev OnFirst : Played
    OnFirst = played_on (length ys) i r b e (stored_of (first_places ys) n t)

    abbrev OnAll : Played
    OnAll = played_with i r b e (stored_of ys n t)

    -- they differ in the places past the first 64 alone
    pub record Alike (g f : Played) : Type 0 where
      pub told : g.told ≡ f.told
      pub table : g.table ≡ f.table
      pub number : g.stored.book.number ≡ f.stored.book.number
      pub total : g.stored.total ≡ f.stored.total
      pub entries : replaced g.stored.book.entries ys ≡ f.stored.book.entries

    as_lent_lem : (k : ℕ) → Alike (paper.as_lent k 0 (stored_of (first_places ys) n t)) (paper.as_lent k 0 (stored_of ys n t))
    as_lent_lem k = record { told = refl; table = refl; number = refl; total = refl; entries = all_back }

    on-all : most_open ≤ length ys → played r b e ys ≡ wide_played (drop most_open ys) (played r b e (take most_open ys))
    unfolding played
    on-all h =
        ap (λ (l : List Entry). play_from r b e (records r) 0 (emptied l)) (sym (take-append-drop most_open ys))
        ∙ play-wide (drop most_open ys) r b e (records r) 0 (emptied (take most_open ys)) (record { long = length-take-le most_open ys h; few = omega arith })

    all_alike : (h : most_open ≤ length ys) → length (played r b e (first_places ys)).stored.book.entries ≡ most_open → Alike (played r b e (first_places ys)) (played r b e ys)
    all_alike h long =
        let p = played r b e (take most_open ys) in
        let z : played r b e (first_places ys) ≡ p = ap (played r b e) (first_is ys 0 h) in
        let l : length p.stored.book.entries ≡ most_open = ap (λ (x : Played). length x.stored.book.entries) (sym z) ∙ long in
        rw (z, on-all h) (record { told = refl; table = refl; number = refl; total = refl; entries = filled ys 0 h p.stored.book.entries l })

    pub lent_played : length OnFirst.stored.book.entries ≡ most_open → Alike OnFirst OnAll
    unfolding played_on played_with
    lent_played long = go (indexed i)
      where
        places : (u : Bool) → leb most_open (length ys) ≡ u
            → length (pick u (played r b e (first_places ys)) (paper.as_lent 29 0 (stored_of (first_places ys) n t))).stored.book.entries ≡ most_open
            → Alike (pick u (played r b e (first_places ys)) (paper.as_lent 29 0 (stored_of (first_places ys) n t))) (pick u (played r b e ys) (paper.as_lent 29 0 (stored_of ys n t)))
        places true z k = all_alike (leb-true most_open (length ys) z) k
        places false z k = as_lent_lem 29

        go : Indexed i → Alike OnFirst OnAll
        go (short h) = rw (in_short i _ _ h, in_short i _ _ h) (as_lent_lem 25)
        go (roomy h) =
            rw (in_room i _ _ h, in_room i _ _ h) (places (leb most_open (length ys)) refl (rw (in_room i _ _ h) at long))

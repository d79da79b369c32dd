-- The end state is that of the same calls made one by one from the emptied book; a refused run has a table of zeros.
use mathlib.Core.Path.{◌≡◌, refl, sym, ◌∙◌}
use mathlib.Core.Bool.{Bool, true, false}
use mathlib.Core.List.{List, [], ◌∷◌, ◌++◌}
use Prim.Native.Nat.{ℕ, zero, suc, ◌+◌}
use native.Mathlib.Omega.{arith}
use lib.Dec.{ltb}
use lib.ListN.{length}
use Rattle.text.specs.Truth.{pick}
use Rattle.text.specs.Quoted.{alike}
use Rattle.text.proofs.Truths.{never}
use Rattle.reading.specs.Verdict.{Judged, accepted, refused}
use Rattle.naming.specs.Key.{keyed}
use Rattle.recording.specs.Record.{Line, line_of}
use Rattle.sums.specs.declared.Lot.{Lot}
use Rattle.sums.specs.Sums.{lot_of}
use Rattle.book.specs.declared.Entry.{Entry}
use Rattle.book.specs.Book.{open_in, first_at}
use Rattle.book.specs.Calls.{Told, done, refusal, Call, enter, withdraw, bulk_of}
use Rattle.book.specs.Stored.{kept}
use Rattle.book.specs.Code.{left_out}
use Rattle.days.specs.Day.{empty_stored, after_stored}
use Rattle.play.specs.Table.{table_of, zeros}
use Rattle.play.specs.Play.{Run, Step, on, refuses, onward, carried_on, enters_if, enters, withdraws, lies, message_at, step_of, step, record_at, records, Played, as_lent, go_on, play_from, played}
use Rattle.runs.specs.Runs.{call_of, calls_from, Held, AllHeld, reached, SameCalls}

-- ---- a record that is carried out is its call, carried out
pub record Carries (buffer ends : List ℕ) (l : Line) (r s : Run) : Type 0 where
  pub held : Held (kept (call_of buffer ends l r.taken) r.stored).told
  pub stored : s.stored ≡ (kept (call_of buffer ends l r.taken) r.stored).stored
  pub taken : s.taken ≡ pick l.entering 1 0 + r.taken

module _ (buffer ends : List ℕ) (l : Line) (r : Run) where
  record Of (c : Call) (k : ℕ) (s : Run) : Type 0 where
    pub held : Held (kept c r.stored).told
    pub stored : s.stored ≡ (kept c r.stored).stored
    pub taken : s.taken ≡ k

  of-carried : (c : Call) (lots : List Lot) (k last : ℕ) (s : Run) → carried_on (kept c r.stored) lots k last ≡ on s → Of c k s
  of-carried c lots k last s = go (kept c r.stored).told refl
    where
      go : (t : Told) → (kept c r.stored).told ≡ t → onward t (record { stored = (kept c r.stored).stored; lots = lots; taken = k; last = last }) ≡ on s → Of c k s
      go (done cents) z e =
          let y : record { stored = (kept c r.stored).stored; lots = lots; taken = k; last = last } ≡ s = cc in
          record { held = rw z tt; stored = rw (← y); taken = rw (← y) }
      go (refusal n p) z e = never (cc)

  of-enters : (m : List ℕ) (s : Run) → enters m l r ≡ on s → Of (enter (bulk_of (keyed m))) (suc r.taken) s
  unfolding enters
  of-enters m s = go (keyed m).verdict
    where
      keys : (b : Bool) → pick b (carried_on (kept (enter (bulk_of (keyed m))) r.stored) (r.lots ++ (lot_of m ∷ [])) (suc r.taken) l.instant) (refuses 28) ≡ on s
          → Of (enter (bulk_of (keyed m))) (suc r.taken) s
      keys true e = of-carried (enter (bulk_of (keyed m))) (r.lots ++ (lot_of m ∷ [])) (suc r.taken) l.instant s e
      keys false e = never (cc)

      go : (v : Judged) → enters_if v m l r ≡ on s → Of (enter (bulk_of (keyed m))) (suc r.taken) s
      go (refused n p) e = never (cc)
      go (accepted n c) e = keys (alike (keyed m).key l.key) e

  of-withdraws : (s : Run) → withdraws l r ≡ on s → Of (withdraw l.key) r.taken s
  unfolding withdraws
  of-withdraws s e = of-carried (withdraw l.key) (left_out (first_at l.key (open_in r.stored.book)) r.lots) r.taken l.instant s e

  pub carries : (s : Run) → step_of buffer ends l r ≡ on s → Carries buffer ends l r s
  carries s = go l.fits (ltb l.instant r.last) l.entering refl (lies buffer ends r.taken)
    where
      M : List ℕ
      M = message_at buffer ends r.taken

      of : (c : Call) (k : ℕ) → Of c k s → call_of buffer ends l r.taken ≡ c → pick l.entering 1 0 + r.taken ≡ k → Carries buffer ends l r s
      of c k o e f = record { held = rw e o.held; stored = rw e o.stored; taken = o.taken ∙ sym f }

      go : (a b c : Bool) → l.entering ≡ c → (d : Bool)
          → pick a (pick b (refuses 27) (pick c (pick d (enters M l r) (refuses 28)) (withdraws l r))) (refuses 26) ≡ on s
          → Carries buffer ends l r s
      go false b c z d e = never (cc)
      go true true c z d e = never (cc)
      go true false false z d e = of (withdraw l.key) r.taken (of-withdraws s e) (rw z) (rw z (omega arith))
      go true false true z false e = never (cc)
      go true false true z true e = of (enter (bulk_of (keyed M))) (suc r.taken) (of-enters M s e) (rw z) (rw z (omega arith))

-- ---- the run
module _ (recording buffer ends : List ℕ) where
  -- so many records are carried out from record i on
  record So (i : ℕ) (r : Run) (p : Played) : Type 0 where
    pub many : ℕ
    pub place : i + many ≡ reached p.told
    pub stored : p.stored ≡ after_stored (calls_from recording buffer ends many i r.taken) r.stored
    pub held : AllHeld (calls_from recording buffer ends many i r.taken) r.stored

  none : (i : ℕ) (r : Run) (p : Played) → reached p.told ≡ i → p.stored ≡ r.stored → So i r p
  none i r p e f = record { many = 0; place = omega (arith, e); stored = f; held = tt }

  one_more : (i : ℕ) (r s : Run) (p : Played) → Carries buffer ends (line_of (record_at recording i)) r s → So (suc i) s p → So i r p
  one_more i r s p c o =
      record {
        many = suc o.many;
        place = omega (arith, o.place);
        stored = o.stored ∙ rw (c.stored, c.taken);
        held = (c.held, rw (c.stored, c.taken) at o.held);
      }

  run-so : (n i : ℕ) (r : Run) → So i r (play_from recording buffer ends n i r)
  unfolding play_from step
  run-so zero i r = go (ltb r.taken (length ends))
    where
      go : (b : Bool) → So i r (pick b (as_lent 28 i r.stored) (record { told = done i; stored = r.stored; table = table_of r.lots }))
      go true = none i r _ refl refl
      go false = none i r _ refl refl
  run-so (suc n) i r = go (step_of buffer ends (line_of (record_at recording i)) r) refl (run-so n (suc i))
    where
      go : (s : Step) → step_of buffer ends (line_of (record_at recording i)) r ≡ s → ((r : Run) → So (suc i) r (play_from recording buffer ends n (suc i) r))
          → So i r (go_on s i r (play_from recording buffer ends n (suc i)))
      go (on s) e k = one_more i r s (play_from recording buffer ends n (suc i) s) (carries buffer ends (line_of (record_at recording i)) r s e) (k s)
      go (refuses m) e k = none i r _ refl refl

  -- **The end state is that of the same calls made one by one from the emptied book**: of all records, or, where one is refused, of those before it. Each of them was carried out.
  pub same_calls : (l : List Entry) → SameCalls recording buffer ends l (played recording buffer ends l)
  unfolding played
  same_calls l =
      let o = run-so (records recording) 0 (record { stored = empty_stored l; lots = []; taken = 0; last = 0 }) in
      let z : o.many ≡ reached (played recording buffer ends l).told = omega (arith, o.place) in
      record { stored = o.stored ∙ rw z; held = rw z at o.held }

  -- **The table is zero if the run is refused**, and what is answered else is the number of records.
  refused-zero : (n i : ℕ) (r : Run) (k p : ℕ) → (play_from recording buffer ends n i r).told ≡ refusal k p → (play_from recording buffer ends n i r).table ≡ zeros
  unfolding play_from
  refused-zero zero i r k p = go (ltb r.taken (length ends))
    where
      go : (b : Bool) → (pick b (as_lent 28 i r.stored) (record { told = done i; stored = r.stored; table = table_of r.lots })).told ≡ refusal k p
          → (pick b (as_lent 28 i r.stored) (record { told = done i; stored = r.stored; table = table_of r.lots })).table ≡ zeros
      go true e = refl
      go false e = never (cc)
  refused-zero (suc n) i r k p = go (step buffer ends (record_at recording i) r) (refused-zero n (suc i))
    where
      go : (s : Step)
          → ((r : Run) (k p : ℕ) → (play_from recording buffer ends n (suc i) r).told ≡ refusal k p → (play_from recording buffer ends n (suc i) r).table ≡ zeros)
          → (go_on s i r (play_from recording buffer ends n (suc i))).told ≡ refusal k p → (go_on s i r (play_from recording buffer ends n (suc i))).table ≡ zeros
      go (on s) f e = f s k p e
      go (refuses m) f e = refl

  pub zero_if_refused : (l : List Entry) (k p : ℕ) → (played recording buffer ends l).told ≡ refusal k p → (played recording buffer ends l).table ≡ zeros
  unfolding played
  zero_if_refused l k p = refused-zero (records recording) 0 (record { stored = empty_stored l; lots = []; taken = 0; last = 0 }) k p

  done_at : (n i : ℕ) (r : Run) (k : ℕ) → (play_from recording buffer ends n i r).told ≡ done k → k ≡ i + n
  unfolding play_from
  done_at zero i r k = go (ltb r.taken (length ends))
    where
      go : (b : Bool) → (pick b (as_lent 28 i r.stored) (record { told = done i; stored = r.stored; table = table_of r.lots })).told ≡ done k → k ≡ i + 0
      go true e = never (cc)
      go false e = let z : i ≡ k = cc in omega (arith, z)
  done_at (suc n) i r k = go (step buffer ends (record_at recording i) r) (done_at n (suc i))
    where
      go : (s : Step) → ((r : Run) (k : ℕ) → (play_from recording buffer ends n (suc i) r).told ≡ done k → k ≡ suc i + n)
          → (go_on s i r (play_from recording buffer ends n (suc i))).told ≡ done k → k ≡ i + suc n
      go (on s) f e = omega (arith, f s k e)
      go (refuses m) f e = never (cc)

  pub all_records : (l : List Entry) (k : ℕ) → (played recording buffer ends l).told ≡ done k → k ≡ records recording
  unfolding played
  all_records l k e = omega (arith, done_at (records recording) 0 (record { stored = empty_stored l; lots = []; taken = 0; last = 0 }) k e)

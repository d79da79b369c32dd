-- The loop over the records, and the whole run.
use mathlib.Core.Path.{◌≡◌, refl, sym, ap, ◌∙◌}
use mathlib.Core.List.{List}
use Prim.Native.Nat.{ℕ, suc, ◌+◌, ◌-◌, ◌≤◌, ◌<◌}
use native.Mathlib.Numerals.{add-one}
use native.Mathlib.Omega.{arith}
use borrow.Author.Tests.{le-ltb, lt-ltb, le-leb, lt-leb}
use lib.ListN.{length, take, replicate, length-replicate}
use Rattle.std.proofs.Common.{Option, Ok, Err}
use Rattle.answers.specs.declared.Refused.{Refused}
use Rattle.answers.specs.declared.Refusal.TheVariants.{OtherMessage, ShortIndex, NoBook}
use Rattle.answers.specs.Refusals.{refusal_number}
use Rattle.recording.specs.declared.Line.{Line}
use Rattle.recording.specs.Record.{line_of, line_as}
use Rattle.twice.specs.Twice.{least_index, cleared}
use Rattle.judge.proofs.Index.{in_short, in_room}
use Rattle.accounts.specs.Lengths.{in_one}
use Rattle.book.specs.declared.Entry.{Entry}
use Rattle.book.specs.declared.Numbers.{Numbers}
use Rattle.book.specs.Book.{most_open}
use Rattle.book.specs.Code.{lent}
use Rattle.sums.specs.declared.Lot.{Lot}
use Rattle.play.specs.declared.Run.{Run}
use Rattle.play.specs.declared.Played.{Played}
use Rattle.play.specs.Table.{table_of}
use Rattle.play.specs.Play.{emptied, Step, step_of, step, record_at, records, as_lent, ended, go_on, play_from, played, played_with}
use Rattle.play.specs.Play as paper
use Rattle.play.specs.Code.{run_as, stepped, Sound, in_rows, played_as, FreshIndex}

-- ---- after the last record
module _ (run : Run) (l : List Entry) (ends : List ℕ) (i : ℕ) where
  pub left_over : run.taken < length ends → played_as l run.numbers (Err (record { why = OtherMessage; at = i })) ≡ ended ends i (run_as l run)
  left_over h = rw (lt-ltb run.taken (length ends) h)

  flat_rows : (a : List Lot) → in_rows (in_one (table_of a)) ≡ table_of a
  unfolding table_of
  flat_rows a = refl

  pub all_taken : length ends ≤ run.taken → (t : List ℕ) → t ≡ in_one (table_of (take run.numbers.opened run.lots))
      → played_as l run.numbers (Ok (record { records = i; table = t })) ≡ ended ends i (run_as l run)
  all_taken h t e = rw (e, le-ltb run.taken (length ends) h, flat_rows (take run.numbers.opened run.lots)) refl

-- ---- so many records are carried out, and playing on from here is playing from the start
module _ (recording buffer ends : List ℕ) (start : List Entry) where
  abbrev from : ℕ → ℕ → paper.Run → paper.Played
  from = play_from recording buffer ends

  pub record Playing (n : ℕ) (index₀ index : List ℕ) (l : List Entry) (run : Run) (i : ℕ) : Type 0 where
    pub sound : Sound run
    pub same : index ≡ index₀
    pub is : from (n - i) i (run_as l run) ≡ played recording buffer ends start

  pub playing_begins : (n : ℕ) → n ≡ records recording → (index : List ℕ) (run : Run) → run_as start run ≡ emptied start → Sound run → Playing n index index start run 0
  unfolding played
  playing_begins n e index run f h =
      let z : n - 0 ≡ records recording = omega (arith, e) in
      record { sound = h; same = refl; is = rw (z, f) }

  module _ (n : ℕ) (index₀ index : List ℕ) (l : List Entry) (run : Run) (i : ℕ) (p : Playing n index₀ index l run i) where
    pub playing_ends : i ≡ n → ended ends n (run_as l run) ≡ played recording buffer ends start
    unfolding play_from
    playing_ends h =
        let z : n - i ≡ 0 = omega arith in
        rw (← h) (rw z at p.is)

    module _ (h : i < n) (said : Option Line) (e : line_as said ≡ line_of (record_at recording i)) (l' : List Entry) where
      left : n - i ≡ suc (n - (i + 1))
      left = omega arith

      here : go_on (step buffer ends (record_at recording i) (run_as l run)) i (run_as l run) (from (n - (i + 1)) (suc i)) ≡ played recording buffer ends start
      unfolding play_from
      here = rw left at p.is

      steps : (x : Step) → x ≡ step_of buffer ends (line_as said) (run_as l run) → x ≡ step buffer ends (record_at recording i) (run_as l run)
      unfolding step
      steps x w = rw (← e) w

      pub playing_on : (next : Run) → stepped l' (Ok next) ≡ step_of buffer ends (line_as said) (run_as l run) → Sound next → (index' : List ℕ) → index' ≡ index → Playing n
          index₀ index' l' next (i + 1)
      playing_on next w g index' f =
          record {
            sound = g;
            same = f ∙ p.same;
            is = ap (λ (x : ℕ). from (n - (i + 1)) x (run_as l' next)) (add-one i)
                ∙ (ap (λ (x : Step). go_on x i (run_as l run) (from (n - (i + 1)) (suc i))) (steps (stepped l' (Ok next)) w) ∙ here);
          }

      pub playing_stops : (q : Refused) → stepped l' (Err q) ≡ step_of buffer ends (line_as said) (run_as l run) → l' ≡ l
          → played_as l' run.numbers (Err (record { why = q.why; at = i })) ≡ played recording buffer ends start
      playing_stops q w g =
          ap (λ (x : List Entry). as_lent (refusal_number q.why) i (lent x run.numbers)) g
          ∙ (ap (λ (x : Step). go_on x i (run_as l run) (from (n - (i + 1)) (suc i))) (steps (stepped l' (Err q)) w) ∙ here)

-- ---- with an index, on a book of so many places
module _ (index recording buffer ends : List ℕ) (l : List Entry) (s : Numbers) where
  abbrev Whole : paper.Played
  Whole = played_with index recording buffer ends (lent l s)

  pub too_short_lem : length index < least_index → played_as l s (Err (record { why = ShortIndex; at = 0 })) ≡ Whole
  unfolding played_with
  too_short_lem h = sym (in_short index _ _ (lt-ltb (length index) least_index h))

  module _ (h : least_index ≤ length index) where
    pub too_few : length l < most_open → played_as l s (Err (record { why = NoBook; at = 0 })) ≡ Whole
    unfolding played_with
    too_few g = sym (in_room index _ _ (le-ltb (length index) least_index h) ∙ rw (lt-leb most_open (length l) g))

    pub all_played : most_open ≤ length l → played recording buffer ends l ≡ Whole
    unfolding played_with
    all_played g = sym (in_room index _ _ (le-ltb (length index) least_index h) ∙ rw (le-leb most_open (length l) g))

    fresh-is : cleared index ≡ replicate (length index) 0
    unfolding cleared
    fresh-is = rw (le-leb least_index (length index) h)

    pub cleared_by : (i : List ℕ) → i ≡ replicate (length index) 0 → i ≡ cleared index
    cleared_by i e = e ∙ sym fresh-is

    pub fresh : (i : List ℕ) → i ≡ replicate (length index) 0 → FreshIndex i
    fresh i e =
        let k : length i ≡ length index = ap length e ∙ length-replicate (length index) 0 in
        record { room = omega (arith, k); clear = e ∙ ap (λ (x : ℕ). replicate x 0) (sym k) }

  pub not_cleared : length index < least_index → index ≡ cleared index
  unfolding cleared
  not_cleared h = rw (lt-leb least_index (length index) h)

-- What one step of the reader finds, by what a row says; and that a good state stays good.
use mathlib.Core.Path.{◌≡◌, refl, sym, ◌∙◌}
use mathlib.Core.Bool.{Bool, true, false}
use mathlib.Core.List.{List}
use Prim.Native.Nat.{ℕ, ◌+◌, ◌≤◌, ◌<◌}
use Prim.Native.String.{String}
use native.Mathlib.Omega.{arith}
use lib.ListN.{length}
use Rattle.text.proofs.Truths.{never}
use Rattle.tags.specs.declared.Look.{Look}
use Rattle.tags.specs.declared.Look.TheVariants.{Whole, Cut, Other}
use Rattle.tags.specs.Tags.{on_look}
use Rattle.profile.specs.Tree as tree
use Rattle.profile.specs.Profile.{is_type}
use Rattle.reading.specs.Trace.{up_to, begins, missing, priced}
use Rattle.reading.specs.Noted.{Reading, on, stop, onward, Ended}
use Rattle.table.specs.declared.Row.{Row}
use Rattle.table.specs.declared.Occ.{Occ}
use Rattle.table.specs.declared.Occ.TheVariants.{Optional}
use Rattle.table.proofs.Numbers.{marked}
use Rattle.table.specs.Table.{occ_of, mark_name, width}
use Rattle.notes.specs.declared.Notes.{Notes}
use Rattle.notes.specs.Notes.{type_noted}
use Rattle.notes.specs.Steps.{stepped, staying, reads, Good, Fine}
use Rattle.std.specs.Prelude.{Err}
use Rattle.answers.specs.declared.Refused.{Refused}
use Rattle.answers.specs.Refusals.{refusal_number}
use Rattle.notes.proofs.Notings.{here}
use Rattle.notes.proofs.Stays.{later, good_at}
use Rattle.engine.proofs.Steps.{passed_on, fine_on, fine_stop}
use Rattle.engine.proofs.Elements.{typed, reads_begins, begins_fine, priced_fine}
use Rattle.reader.specs.Reader.{entered}

abbrev Found : Type 0
Found = Reading (Ended Notes)

-- a refusal at a place ends the reading
pub refused_at : (r s : Refused) → r ≡ s → stepped (Err r) ≡ stop (refusal_number s.why) s.at
refused_at r s e = rw e refl

pub fine_same : (m : List ℕ) (p : ℕ) (x r : Found) → x ≡ r → Fine m p r → Fine m p x
fine_same m p x r e f = rw e f

-- what is noted of a name that is not the payment type's, and of the payment type's
module _ (b : Bool) (p : ℕ) (n : Notes) where
  untyped : on (here p n) ≡ staying p (typed (is_type (mark_name false)) b p n)
  untyped = rw (marked false)

  is_typed : staying p (type_noted b p n) ≡ staying p (typed (is_type (mark_name true)) b p n)
  is_typed = rw (marked true)

module _ (p : ℕ) (n : Notes) where
  -- what is shown of `begin`, and of `pass`
  abbrev Begins : Occ → Bool → Found → Type 0
  Begins occ mark x = x ≡ reads (begins (occ_of occ) (mark_name mark) p (up_to p)) n

  pub begun_other : (occ : Occ) (mark : Bool) → occ ≡ Optional → mark ≡ false → Begins occ mark (on (here p n))
  begun_other occ mark e f = rw (e, f) (untyped true p n)

  pub begun_type : (occ : Occ) (mark : Bool) → occ ≡ Optional → mark ≡ true → Begins occ mark (staying p (type_noted true p n))
  begun_type occ mark e f = rw (e, f) (is_typed true p n)

  abbrev Misses : Occ → Bool → Found → Type 0
  Misses occ mark x = x ≡ reads (missing (occ_of occ) (mark_name mark) p (up_to p)) n

  pub missed_other : (occ : Occ) (mark : Bool) → occ ≡ Optional → mark ≡ false → Misses occ mark (on (here p n))
  missed_other occ mark e f = rw (e, f) (untyped false p n)

  pub missed_type : (occ : Occ) (mark : Bool) → occ ≡ Optional → mark ≡ true → Misses occ mark (staying p (type_noted false p n))
  missed_type occ mark e f = rw (e, f) (is_typed false p n)

-- ---- entering
module _ (m : List ℕ) (p : ℕ) (n : Notes) (g : Good m (here p n)) (o : tree.Occ) (a : String) (amount : Bool) (w : ℕ) (fits : p + w ≤ length m) (some : 0 < w) where
  -- what is shown of `enter`
  abbrev pub Enters : Found → Type 0
  Enters x = (x ≡ reads (entered o a amount w m p) n) × Fine m (p + 1) x

  abbrev Begun : Found
  Begun = reads (begins o a p (up_to p)) n

  goes : (r : Found) → r ≡ Begun → onward r (λ s. reads (priced amount m (p + w)) s.notes) ≡ reads (entered o a amount w m p) n
  goes r e = rw e (sym (reads_begins o a a refl p (priced amount m (p + w)) n))

  pub enters_not : (i q : ℕ) → stop i q ≡ Begun → (x : Found) → x ≡ stop i q → Enters x
  enters_not i q c x e = passed_on m (p + 1) x (stop i q) (reads (entered o a amount w m p) n) e (goes (stop i q) c) (fine_stop m p Begun i q c (begins_fine m o a p n g))

  module _ (s : Ended Notes) (c : on s ≡ Begun) where
    pub past_good : Good m (here (p + w) s.notes)
    past_good = good_at m s (p + w) (fine_on m p Begun s c (begins_fine m o a p n g)).0 fits

    enters_on : (x : Found) → x ≡ reads (priced amount m (p + w)) s.notes → Enters x
    enters_on x e =
        passed_on m (p + 1) x (reads (priced amount m (p + w)) s.notes) (reads (entered o a amount w m p) n) e (goes (on s) c)
        (later m (p + 1) (p + w) (omega arith) (reads (priced amount m (p + w)) s.notes) (priced_fine m amount (p + w) s.notes past_good))

    -- t is the state past the tag
    pub enters_amount : (t : Ended Notes) (k : ℕ) → k ≡ w → t ≡ here (p + k) s.notes → amount ≡ true → (x : Found) → x ≡ reads (priced true m t.at) t.notes → Enters x
    enters_amount t k f h b x e = enters_on x (e ∙ rw (h, f, b))

    pub enters_plain : (t : Ended Notes) (k : ℕ) → k ≡ w → t ≡ here (p + k) s.notes → amount ≡ false → (x : Found) → x ≡ on t → Enters x
    enters_plain t k f h b x e = enters_on x (e ∙ rw (h, f, b))

-- a row's start tag is not empty
pub width_some : (r : Row) → 0 < r.start → 0 < width r
width_some r h = omega arith

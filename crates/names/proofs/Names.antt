-- "A legal Nm or Ustrd replaced by another legal one of equal length alters no answer and no record byte."
use mathlib.Core.Path.{◌≡◌, refl, ap, sym, ◌∙◌}
use mathlib.Core.Bool.{Bool, true, false}
use mathlib.Core.List.{List, [], ◌++◌, append-nil}
use Prim.Native.Nat.{ℕ}
use Prim.Native.String.{String}
use native.Mathlib.Omega.{arith}
use lib.ListN.{length, drop}
use Rattle.text.specs.Truth.{both}
use Rattle.text.specs.Quoted.{bytes, among}
use Rattle.text.specs.Classes.{capital}
use Rattle.text.proofs.Truths.{both_true}
use Rattle.answers.specs.Given.{yes}
use Rattle.codes.specs.declared.Element as code
use Rattle.words.specs.declared.Field as text
use Rattle.words.specs.Text.{text_given}
use Rattle.tags.specs.Tags.{look, exactly, end_tag, plain_tag}
use Rattle.tags.specs.declared.Look.TheVariants.{Whole}
use Rattle.tags.proofs.Looks.{look_text, exactly_length}
use Rattle.profile.specs.declared.Kind.{Kind}
use Rattle.profile.specs.declared.Kind.TheVariants.{Plain, Count, Total, Amount, Code}
use Rattle.profile.specs.declared.Field.{Field}
use Rattle.profile.specs.declared.Field.TheVariants.{TxId}
use Rattle.profile.specs.declared.Version.{Version}
use Rattle.profile.specs.declared.Version.TheVariants.{V02, V08}
use Rattle.profile.specs.Profile.{profile}
use Rattle.profile.specs.declared.Simple.TheVariants.{Text70}
use Rattle.profile.specs.Kinds.{same_kind}
use Rattle.kinds.specs.Given.{kind_given}
use Rattle.reading.specs.Trace.{Entry, message}
use Rattle.reading.specs.Noted.{Reading, Ended, noted}
use Rattle.reading.specs.Judged.{listed, compared, verdict, judged}
use Rattle.reading.specs.Verdict.{Judged, accepted, refused}
use Rattle.reading.specs.Items.{notes_of, the_header, the_items, asked, item}
use Rattle.reading.proofs.Flat.{never}
use Rattle.reading.proofs.Simulates as sim
use Rattle.postings.specs.Area.{outcome, recorded}
use Rattle.replaced.proofs.Beside.{Beside}
use Rattle.replaced.proofs.Tests.{clear, same_tag, apart, opening, read_beside}
use Rattle.replaced.proofs.Near.{Near, none, Unlike, Other, Passing, near_items, near_place, near_values, noted_near}
use Rattle.names.specs.Named.{tag_name, named}
use Rattle.names.proofs.Legal.{is_text, legal_tagless, kind_given_lem, unasked}
use Rattle.names.proofs.Same.{recorded_fields, none_of, none_at, near_item, above_alike, near_records}

-- ---- the tags beside `<Nm>` and `<Ustrd>`: their own elements are texts that no record holds, and every other tag is clear of them
abbrev fit : text.Field → Kind → Field → Bool
fit f k g = both (is_text f k) (none_of recorded_fields g)

opening_clear : (f : text.Field) → opening false (tag_name f) ≡ true
unfolding clear
opening_clear text.TheVariants.Nm = refl
opening_clear text.TheVariants.Ustrd = refl

profile_apart : (f : text.Field) (u : Version) → apart false (tag_name f) (fit f) false (profile u) ≡ true
unfolding profile clear same_tag capital among
profile_apart text.TheVariants.Nm V02 = refl
profile_apart text.TheVariants.Nm V08 = refl
profile_apart text.TheVariants.Ustrd V02 = refl
profile_apart text.TheVariants.Ustrd V08 = refl

-- a field (Nm or Ustrd) with any bytes x before its element and any bytes y behind it, and two legal values v and w of equal length
module _ (f : text.Field) (x v w y : List ℕ) (legal : text_given f v ≡ yes) (legal' : text_given f w ≡ yes) (long : length v ≡ length w) where
  abbrev Fit : Kind → Field → Type 0
  Fit k g = fit f k g ≡ true

  beside : Beside Fit v w (message (named f x v y)) (message (named f x w y))
  beside =
      read_beside false (tag_name f) (bytes (tag_name f) ++ bytes ">") [] (sym (append-nil (plain_tag (tag_name f)))) x v w (drop 1 (end_tag (tag_name f) ++ y))
      (whole_plain (tag_name f)) (exactly_length (plain_tag (tag_name f))) (opening_clear f) (legal_tagless f v legal) (legal_tagless f w legal') long (fit f) false (λ e. never (cc))
      (λ u p e. profile_apart f u)
    where
      whole_plain : (n : String) → look (exactly (plain_tag n)) (plain_tag n) ≡ Whole
      whole_plain n = ap (look (exactly (plain_tag n))) (sym (append-nil (plain_tag n))) ∙ look_text (plain_tag n) []

  text-kind : (k : Kind) (g : Field) → Fit k g → is_text f k ≡ true
  text-kind k g e = (both_true (is_text f k) (none_of recorded_fields g) e).0

  unlike : (j : Kind) → same_kind (Plain Text70) j ≡ false → Unlike Fit v w j
  unlike j h k g e = unasked f k (text-kind k g e) j h

  unrecorded : (k : Kind) (g : Field) → Fit k g → none_of recorded_fields g ≡ true
  unrecorded k g e = (both_true (is_text f k) (none_of recorded_fields g) e).1

  no_id : Other Fit v w TxId
  no_id k g e = none_at recorded_fields g (unrecorded k g e) 0 (omega arith)

  passing : (k : Kind) (g : Field) → Fit k g → Passing (kind_given k v) × Passing (kind_given k w)
  passing k g e = let z = kind_given_lem f k (text-kind k g e) in (rw (z v, legal), rw (z w, legal'))

  -- ---- what is noted of the two
  abbrev notes : List ℕ → Reading (Ended (List Entry))
  notes u = noted listed (message (named f x u y)) []

  both-noted : sim.Alike (sim.Beside (Near Fit v w)) (notes v) (notes w)
  both-noted = noted_near Fit v w (unlike (Code code.TheVariants.LclInstrm) refl) no_id passing beside [] [] none

  compared_same : (l l' : List Entry) → Near Fit v w l l' → compared l ≡ compared l'
  unfolding compared
  compared_same l l' n =
      rw (
        near_items Fit v w n,
        near_values Fit v w Count (unlike Count refl) n,
        near_values Fit v w Total (unlike Total refl) n,
        near_values Fit v w Amount (unlike Amount refl) n,
        near_place Fit v w Count 0 n,
        near_place Fit v w Total 0 n,
      )

  -- The verdict is the same: accepted with the same count and cents, or refused with the same number at the same place.
  pub same_verdict : judged (named f x v y) ≡ judged (named f x w y)
  unfolding judged
  same_verdict = go (notes v) (notes w) both-noted
    where
      go : (a b : Reading (Ended (List Entry))) → sim.Alike (sim.Beside (Near Fit v w)) a b → verdict a ≡ verdict b
      go a b (sim.going {s = s} {t = t} r) = compared_same s.notes t.notes r.notes
      go a b sim.stopped = refl

  notes-near : Near Fit v w (notes_of (notes v)) (notes_of (notes w))
  notes-near = go (notes v) (notes w) both-noted
    where
      go : (a b : Reading (Ended (List Entry))) → sim.Alike (sim.Beside (Near Fit v w)) a b → Near Fit v w (notes_of a) (notes_of b)
      go a b (sim.going r) = r.notes
      go a b sim.stopped = none

  -- Every item asked for lies at the same places, or is refused with the same number at the same place.
  pub same_item : (i : ℕ) → item i (named f x v y) ≡ item i (named f x w y)
  unfolding item
  same_item i = rw (← same_verdict) (go (judged (named f x v y)))
    where
      go : (j : Judged) → asked i (the_items (named f x v y)) j ≡ asked i (the_items (named f x w y)) j
      go (accepted count cents) = near_item Fit v w unrecorded (unlike Amount refl) i notes-near
      go (refused n p) = refl

  -- The records are the same: the same verdict, and every byte of the lent area the same afterwards.
  pub same_records : (a : List ℕ) → recorded (named f x v y) a ≡ recorded (named f x w y) a
  unfolding recorded
  same_records a = rw (← same_verdict) (go (judged (named f x v y)))
    where
      go : (j : Judged) → outcome (the_header (named f x v y)) (the_items (named f x v y)) a j ≡ outcome (the_header (named f x w y)) (the_items (named f x w y)) a j
      go (accepted count cents) = rw (near_records Fit v w unrecorded (unlike Amount refl) (above_alike Fit v w unrecorded (unlike Amount refl) notes-near) notes-near)
      go (refused n p) = refl

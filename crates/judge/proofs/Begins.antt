-- The beginning of a message, as the code reads it, and what stands behind it.
use mathlib.Core.Path.{◌≡◌, refl, sym, ap, ◌∙◌}
use mathlib.Core.Bool.{true, false}
use mathlib.Core.List.{List}
use Prim.Native.Nat.{ℕ, ◌+◌, ◌-◌, ◌≤◌, ◌<◌}
use native.Mathlib.Omega.{arith}
use borrow.Author.Tests.{le-leb}
use lib.ListN.{length, take, drop, length-drop, length-take, drop_of_length-le}
use Rattle.text.specs.Truth.{lead}
use Rattle.text.proofs.Scan.{rest_of, lead_le}
use Rattle.tags.specs.declared.Look.{Look}
use Rattle.tags.specs.declared.Look.TheVariants.{Whole, Cut, Other}
use Rattle.tags.specs.Tags.{white, skipped, look, exactly, starts_question, declaration}
use Rattle.tags.proofs.Looks.{text_fits}
use Rattle.profile.specs.declared.Version.{Version}
use Rattle.profile.specs.declared.Version.TheVariants.{V02, V08}
use Rattle.profile.specs.Version.{versions, root}
use Rattle.profile.specs.Limits.{most_bytes}
use Rattle.reading.specs.Trace.{Opened, from, faulty, rooted, opened}
use Rattle.reading.specs.Noted.{Reading, stop, Ended}
use Rattle.notes.specs.declared.Notes.{Notes}
use Rattle.notes.specs.Steps.{Fine}
use Rattle.engine.specs.Engine.{message_at, places_at}
use Rattle.judge.specs.Verdict.{version_in, version_of}
use Rattle.judge.specs.Engine.{Within, root_or, through_in, filed_in}

-- how many bytes the root tag has, in every version
abbrev pub root_length : ℕ
root_length = 65

root_length_lem : (v : Version) → length (root v) ≡ root_length
root_length_lem V02 = refl
root_length_lem V08 = refl

-- what is shown of an opening
abbrev pub Opens : List ℕ → Opened → Opened → Type 0
Opens m r s = (r ≡ s) × Within m r

module _ (m : List ℕ) where
  -- ---- white space
  pub spaces_within : (p n : ℕ) → p ≤ length m → n ≡ lead white (take (length m - p) (drop p m)) → p + n ≤ length m
  spaces_within p n h e = omega (arith, lead_le white (take (length m - p) (drop p m)), length-take (length m - p) (drop p m), length-drop p m)

  pub skipped_is : (p n : ℕ) → n ≡ lead white (take (length m - p) (drop p m)) → p + n ≡ skipped m p
  skipped_is p n e = ap (λ (k : ℕ). p + k) (e ∙ ap (lead white) (rest_of p m))

  pub past_end : (p : ℕ) → length m < p → p ≡ skipped m p
  past_end p h =
      let g : length m ≤ p = omega arith in
      rw (drop_of_length-le m g) (omega arith)

  -- ---- a version's root tag at a place, or else what is given
  module _ (v : Version) (p : ℕ) (in-it : p ≤ length m) (l : Look) (e : l ≡ look (exactly (root v)) (take (length m - p) (drop p m))) where
    looked : look (exactly (root v)) (drop p m) ≡ l
    looked = ap (look (exactly (root v))) (sym (rest_of p m)) ∙ sym e

    pub root_fits : l ≡ Whole → p + root_length ≤ length m
    root_fits h = omega (arith, text_fits (root v) (drop p m) (looked ∙ h), length-drop p m, root_length_lem v)

    module _ (other : Opened) where
      pub root_whole : l ≡ Whole → Opens m (from v (p + root_length)) (root_or v m p other)
      unfolding root_or
      root_whole h = (rw (looked, h, root_length_lem v), root_fits h)

      pub root_cut : l ≡ Cut → Opens m (faulty 3 (length m)) (root_or v m p other)
      unfolding root_or
      root_cut h = (rw (looked, h), omega arith)

      pub root_other : l ≡ Other → Within m other → Opens m other (root_or v m p other)
      unfolding root_or
      root_other h w = (rw (looked, h), w)

  -- each version's in turn
  pub rooted_is : (p q : ℕ) → q ≡ skipped m p → (o x r : Opened) → x ≡ root_or V08 m q o → o ≡ faulty 2 q → r ≡ root_or V02 m q x → r ≡ rooted versions m (skipped m p)
  unfolding root_or
  rooted_is p q z o x r e d f = f ∙ rw (e, d, z)

  -- ---- the declaration, and the root tag
  pub no_declaration : starts_question m ≡ false → (r : Opened) → r ≡ rooted versions m (skipped m 0) → r ≡ opened m
  unfolding opened
  no_declaration q r f = f ∙ rw q

  module _ (q : starts_question m ≡ true) (l : Look) (e : l ≡ look (exactly declaration) m) where
    pub declaration_fits : l ≡ Whole → length declaration ≤ length m
    declaration_fits h = text_fits declaration m (sym e ∙ h)

    pub declaration_whole : l ≡ Whole → (r : Opened) → r ≡ rooted versions m (skipped m (length declaration)) → r ≡ opened m
    unfolding opened
    declaration_whole h r f = f ∙ rw (q, ← e, h)

    pub declaration_cut : l ≡ Cut → Opens m (faulty 3 (length m)) (opened m)
    unfolding opened
    declaration_cut h = (rw (q, ← e, h), omega arith)

    pub declaration_other : l ≡ Other → Opens m (faulty 2 0) (opened m)
    unfolding opened
    declaration_other h = (rw (q, ← e, h), omega arith)

  -- ---- and what stands behind it
  module _ (small : length m ≤ most_bytes) (o : Opened) (e : o ≡ opened m) (w : Within m o) where
    pub through_from : (v : Version) (p : ℕ) → from v p ≡ o → (x : Reading (Ended Notes)) → x ≡ message_at v m p → x ≡ through_in m (opened m)
    unfolding message_at
    through_from v p f x g =
        let h : p ≤ length m = rw (sym f) at w in
        g ∙ rw (← e, ← f, le-leb (length m) most_bytes small, le-leb p (length m) h)

    pub filed_from : (v : Version) (p : ℕ) → from v p ≡ o → (l y : List ℕ) → y ≡ places_at v m p l → y ≡ filed_in m (opened m) l
    unfolding places_at
    filed_from v p f l y g =
        let h : p ≤ length m = rw (sym f) at w in
        g ∙ rw (← e, ← f, le-leb (length m) most_bytes small, le-leb p (length m) h)

    pub filed_faulty : (n q : ℕ) → faulty n q ≡ o → (l : List ℕ) → l ≡ filed_in m (opened m) l
    filed_faulty n q f l = rw (← e, ← f)

    pub through_faulty : (n q : ℕ) → faulty n q ≡ o → (x : Reading (Ended Notes)) → x ≡ stop n q → (x ≡ through_in m (opened m)) × Fine m 0 x
    through_faulty n q f x g =
        let h : q ≤ length m = rw (sym f) at w in
        (g ∙ rw (← e, ← f), rw g h)

-- ---- and the version that the root names
pub version_is : (m : List ℕ) (o : Opened) → o ≡ opened m → (v : Version) → v ≡ version_in o → v ≡ version_of m
unfolding version_of
version_is m o e v f = f ∙ ap version_in e

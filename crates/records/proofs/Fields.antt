-- Fields laid one behind the other into a record of spaces.
use mathlib.Core.Path.{◌≡◌, refl, ap, sym, ◌∙◌}
use mathlib.Core.Bool.{Bool, true, false}
use mathlib.Core.List.{List, [], ◌∷◌, ◌++◌, append_assoc}
use Prim.Native.Nat.{ℕ, zero, suc, ◌+◌, ◌-◌, ◌≤◌, min}
use native.Mathlib.Nat.{add-zero}
use native.Mathlib.Omega.{arith}
use borrow.Rule.Slice.PartMut.{put_mid}
use borrow.Author.Tests.{ne_eqb, ltb-true, ltb-false}
use lib.Dec.{eqb, ltb}
use lib.ListN.{length, take, drop, set, replicate, length-append, length-take, length-drop, length-replicate, take-append-drop, drop_of_length-le, replicate-append-replicate}
use lib.Seq.{set_at, set_split, drop-drop, length-take-le}
use lib.Seq.{take_all, take-length, take-take, take-add, take_at, drop_at, take-append-le, take-append-add, drop-append-add}
use Rattle.text.specs.Truth.{either, pick, part}
use Rattle.tags.specs.Values.{value_at}
use Rattle.text.proofs.Truths.{never}
use Rattle.profile.specs.declared.Field.{Field}
use Rattle.profile.specs.declared.Field.TheVariants.{TxId, EndToEndId, MndtId, DbtrIban, CdtrIban, DbtrBic, ReqdColltnDt, SeqTp, CdtrId, CdtrBic, InstrId, LclInstrm, DtOfSgntr}
use Rattle.answers.specs.Given.{yes}
use Rattle.words.specs.Reference.{reference_given}
use Rattle.words.specs.Collapsed.{collapsed}
use Rattle.words.proofs.Legal.{end_to_end_long, reference_collapsed, reference_end_to_end}
use Rattle.profile.specs.declared.Simple.TheVariants.{Reference}
use Rattle.kinds.specs.Given.{simple_given}
use Rattle.swift_values.specs.Stands.{Stands}
use Rattle.words.specs.Walk.{overwritten}
use Rattle.postings.specs.Record.{record_length, padded, digits}
use Rattle.postings.proofs.Long.{length_padded, length_digits}
use Rattle.items.specs.Places.{held_at}
use Rattle.records.specs.Engine.{start_of, own_or, cents_of, record_of, laid, all_laid, to_cents, to_instr_id, to_end}

-- ---- a value copied over a part of the record
pub mid_laid : (at : ℕ) (v rec : List ℕ) → put_mid at (at + length v - at) rec v ≡ laid at v rec
unfolding laid
mid_laid at v rec =
    let z : at + length v - at ≡ length v = omega arith in
    rw z (ap (λ (l : List ℕ). take at rec ++ (v ++ l)) (drop-drop (length v) at rec))

-- ---- the value at a place; b is whether there is none, as the code tests it
module _ (m : List ℕ) (start : ℕ) (b : Bool) (t : b ≡ either (eqb start 0) (ltb (length m) start)) where
  pub none_held : b ≡ true → [] ≡ held_at m start
  none_held h = sym (go (eqb start 0) (sym t ∙ h))
    where
      go : (z : Bool) → either z (ltb (length m) start) ≡ true → pick z [] (value_at m start) ≡ []
      go true e = refl
      go false e =
          let g : length m ≤ start = omega (arith, ltb-true (length m) start e) in
          rw (drop_of_length-le m g)

  pub value_held : b ≡ false → value_at m start ≡ held_at m start
  value_held h = go (eqb start 0) (sym t ∙ h)
    where
      go : (z : Bool) → either z (ltb (length m) start) ≡ false → value_at m start ≡ pick z [] (value_at m start)
      go true e = never (cc)
      go false e = refl

-- ---- a value laid as its first w bytes and its last w
pub laid_twice : (at w : ℕ) (v r r1 r2 : List ℕ) → at + length v ≤ length r → w ≤ length v → length v ≤ w + w
    → r1 ≡ laid at (take w v) r → r2 ≡ laid (at + (length v - w)) (take (length v - w + w - (length v - w)) (drop (length v - w) v)) r1 → r2 ≡ laid at v r
unfolding laid
laid_twice at w v r r1 r2 fits g k e f =
    let j = length v - w in
    let d = take at r in
    let a = take w v in
    let p = part j w v in
    let t = drop (at + w) r in
    let ld : length d ≡ at = length-take-le at r (omega arith) in
    let la : length a ≡ w = length-take-le w v g in
    let lp : length p ≡ w = length-take-le w (drop j v) (omega (arith, length-drop j v)) in
    let x : r1 ≡ d ++ (a ++ t) = e ∙ rw la in
    let y : take (at + j) (d ++ (a ++ t)) ≡ d ++ take j v =
    ap (λ (q : ℕ). take (q + j) (d ++ (a ++ t))) (sym ld)
    ∙ take-append-add d (a ++ t) j
    ∙ ap (λ (l : List ℕ). d ++ l) (take-append-le j a t (omega arith) ∙ take-take j w v (omega arith)) in
    let i : at + j + w ≡ length d + (length a + j) = omega arith in
    let o : at + w + j ≡ at + length v = omega arith in
    let z : drop (at + j + w) (d ++ (a ++ t)) ≡ drop (at + length v) r =
    ap (λ (q : ℕ). drop q (d ++ (a ++ t))) i
    ∙ drop-append-add d (a ++ t) (length a + j)
    ∙ drop-append-add a t j
    ∙ drop-drop j (at + w) r
    ∙ ap (λ (q : ℕ). drop q r) o in
    let b : j + w ≡ length v = omega arith in
    let c : take j v ++ p ≡ v = sym (take-add j w v) ∙ ap (λ (q : ℕ). take q v) b ∙ take-length v in
    let q : j + w - j ≡ w = omega arith in
    f
    ∙ ap (λ (n : ℕ). laid (at + j) (take n (drop j v)) r1) q
    ∙ ap (λ (l : List ℕ). take (at + j) l ++ (p ++ drop (at + j + length p) l)) x
    ∙ rw (lp, y, z) (append_assoc d (take j v) (p ++ drop (at + length v) r))
    ∙ ap (λ (l : List ℕ). d ++ l) (sym (append_assoc (take j v) p (drop (at + length v) r)) ∙ ap (λ (l : List ℕ). l ++ drop (at + length v) r) c)

-- nothing laid
pub laid_none : (at : ℕ) (rec : List ℕ) → rec ≡ laid at [] rec
unfolding laid
laid_none at rec = rw (add-zero at) (sym (take-append-drop at rec))

-- ---- as much of a value as a field holds
pub field_cut : (v : List ℕ) (width w : ℕ) → w ≡ min (length v) width → take w v ≡ take width v
field_cut v width w f = go (ltb (length v) width) refl
  where
    go : (z : Bool) → z ≡ ltb (length v) width → take w v ≡ take width v
    go true g =
        let h : length v ≤ width = omega (arith, ltb-true (length v) width (sym g)) in
        let k : length v ≤ w = omega (arith, f, h) in
        take_all w v k ∙ sym (take_all width v h)
    go false g =
        let z : w ≡ width = omega (arith, f, ltb-false (length v) width (sym g)) in
        rw z

-- ---- the record as far as it is written: its fields, and spaces behind them
pub record So (at : ℕ) (d r : List ℕ) : Type 0 where
  pub is : r ≡ d ++ replicate (record_length - at) 32
  pub long : length d ≡ at

drop_replicate : (k n x : ℕ) → drop k (replicate n x) ≡ replicate (n - k) x
drop_replicate zero n x =
    let z : n - zero ≡ n = omega arith in
    rw z
drop_replicate (suc k) zero x =
    let z : zero - suc k ≡ zero = omega arith in
    rw z
drop_replicate (suc k) (suc n) x =
    let z : suc n - suc k ≡ n - k = omega arith in
    rw z (drop_replicate k n x)

take_replicate : (k n x : ℕ) → k ≤ n → take k (replicate n x) ≡ replicate k x
take_replicate zero n x h = refl
take_replicate (suc k) zero x h = never (omega arith)
take_replicate (suc k) (suc n) x h = ap (λ (l : List ℕ). x ∷ l) (take_replicate k n x (omega arith))

take_padded : (w n : ℕ) (v : List ℕ) → w ≤ n → take w (v ++ replicate n 32) ≡ take w v ++ replicate (w - length (take w v)) 32
take_padded zero n v h = refl
take_padded (suc w) n [] h =
    let z : suc w - 0 ≡ suc w = omega arith in
    rw z (take_replicate (suc w) n 32 h)
take_padded (suc w) n (c ∷ v) h =
    let z : suc w - suc (length (take w v)) ≡ w - length (take w v) = omega arith in
    rw z (ap (λ (l : List ℕ). c ∷ l) (take_padded w n v (omega arith)))

padded_is : (w : ℕ) (v : List ℕ) → padded w v ≡ take w v ++ replicate (w - length (take w v)) 32
unfolding padded
padded_is w v = take_padded w w v (omega arith)

-- a collapsed value written into a field of spaces
pub field_written : (w : ℕ) (v : List ℕ) → overwritten v (replicate w 32) ≡ padded w v
unfolding overwritten
field_written w v =
    let z : w - length v ≡ w - length (take w v) = omega (arith, length-take w v) in
    rw (length-replicate {A = ℕ} w 32, drop_replicate (length v) w 32, z) (sym (padded_is w v))

-- ---- a reference laid over spaces is EndToEndId collapsed: it has no white space
drop_spaces : (n w : ℕ) (t : List ℕ) → n ≤ w → drop n (replicate w 32 ++ t) ≡ replicate (w - n) 32 ++ t
drop_spaces n w t h =
    let z : n + (w - n) ≡ w = omega arith in
    let e : replicate w 32 ++ t ≡ replicate n 32 ++ (replicate (w - n) 32 ++ t) =
    ap (λ (k : ℕ). replicate k 32 ++ t) (sym z) ∙ ap (λ (l : List ℕ). l ++ t) (sym (replicate-append-replicate {A = ℕ} n (w - n) 32)) ∙ append_assoc (replicate n 32) (replicate (w - n) 32) t in
    rw e (drop_at (replicate n 32) (replicate (w - n) 32 ++ t) n (length-replicate {A = ℕ} n 32))

laid_over : (at w : ℕ) (v r : List ℕ) → length v ≤ w → at ≤ length r → laid at v (laid at (replicate w 32) r) ≡ laid at (padded w v) r
unfolding laid
laid_over at w v r h fits =
    let d = take at r in
    let s = replicate {A = ℕ} w 32 in
    let t = drop (at + w) r in
    let n = length v in
    let l : length d ≡ at = simp length-take (omega arith) in
    let p : padded w v ≡ v ++ replicate (w - n) 32 = padded_is w v ∙ rw (take_all w v h) in
    let a : take at (d ++ (s ++ t)) ≡ d = take_at d (s ++ t) at l in
    let b : drop (at + n) (d ++ (s ++ t)) ≡ replicate (w - n) 32 ++ t = sym (drop-drop n at (d ++ (s ++ t))) ∙ ap (drop n) (drop_at d (s ++ t) at l) ∙ drop_spaces n w t h in
    rw (length-replicate {A = ℕ} w 32, a, b, length_padded w v, p, append_assoc)

module _ (m : List ℕ) (start e : ℕ) (s : Stands Reference m start e) where
  abbrev stood : List ℕ
  stood = part start (e - start) m

  legal : reference_given stood ≡ yes
  unfolding simple_given
  legal = s.given

  stood-held : collapsed (held_at m start) ≡ stood
  stood-held = rw (ne_eqb start 0 (λ z. let y : ⊥ = omega (arith, s.some) in y), s.upto) (reference_collapsed stood legal)

  stood-few : length stood ≤ 35
  stood-few = rw (reference_collapsed stood legal) at (end_to_end_long stood (reference_end_to_end stood legal)).1

  pub reference_fits : 35 + length stood ≤ record_length
  reference_fits = omega (arith, stood-few)

  pub reference_laid : (r r1 r2 : List ℕ) → length r ≡ record_length → r1 ≡ laid 35 (replicate 35 32) r → r2 ≡ laid 35 stood r1 → r2 ≡ laid 35 (padded 35 (collapsed (held_at m start))) r
  reference_laid r r1 r2 n f g = rw (g, f, stood-held) (laid_over 35 35 stood r stood-few (omega arith))

module _ {at : ℕ} {d r : List ℕ} (s : So at d r) where
  -- whatever is laid next
  laid_next : (u : List ℕ) → laid at u r ≡ (d ++ u) ++ replicate (record_length - (at + length u)) 32
  unfolding laid
  laid_next u =
      let n = length u in
      let z : record_length - at - n ≡ record_length - (at + n) = omega arith in
      let e : drop (at + n) (d ++ replicate (record_length - at) 32) ≡ replicate (record_length - (at + n)) 32 =
      sym (drop-drop n at (d ++ replicate (record_length - at) 32))
      ∙ ap (drop n) (drop_at d (replicate (record_length - at) 32) at s.long)
      ∙ drop_replicate n (record_length - at) 32
      ∙ ap (λ (k : ℕ). replicate k 32) z in
      rw (s.is, take_at d (replicate (record_length - at) 32) at s.long, e, append_assoc)

  pub next_whole : {r' : List ℕ} (w : ℕ) (u : List ℕ) → length u ≡ w → r' ≡ laid at u r → So (at + w) (d ++ u) r'
  next_whole w u n e =
      record {
        is = e ∙ laid_next u ∙ rw n;
        long = length-append d u ∙ (rw (s.long, n));
      }

  pub next_padded : {r' : List ℕ} (w : ℕ) (v : List ℕ) → at + w ≤ record_length → r' ≡ laid at (take w v) r → So (at + w) (d ++ padded w v) r'
  next_padded w v fits e =
      let u = take w v in
      let rest = record_length - (at + w) in
      let h : length u ≤ w = simp length-take (omega arith) in
      let z : record_length - (at + length u) ≡ w - length u + rest = omega arith in
      let f : laid at u r ≡ (d ++ padded w v) ++ replicate rest 32 =
      laid_next u
      ∙ rw (z, ← replicate-append-replicate {A = ℕ} (w - length u) rest 32, padded_is w v) (simp append_assoc) in
      record { is = e ∙ f; long = length-append d (padded w v) ∙ (rw (s.long, length_padded w v)) }

-- the spaces that stay, and the last byte
pub end_laid : (r : List ℕ) → length r ≡ record_length → set r 319 10 ≡ laid 319 (10 ∷ []) r
unfolding laid
end_laid r n = set_split r 319 10 (omega arith)

ended : {d r : List ℕ} → So 304 d r → laid 319 (10 ∷ []) r ≡ d ++ replicate 15 32 ++ (10 ∷ [])
ended {d} {r} s =
    let n : length r ≡ record_length = rw s.is (length-append d (replicate 16 32) ∙ rw s.long) in
    let e : d ++ replicate 16 32 ≡ d ++ replicate 15 32 ++ (32 ∷ []) = simp append_assoc in
    sym (end_laid r n) ∙ rw (s.is, e) (set_at (d ++ replicate 15 32) 32 [] 10 319 (length-append d (replicate 15 32) ∙ rw s.long))

-- ---- each part of the record, field by field
module _ (m row : List ℕ) where
  -- a field of the item, by its row
  abbrev own : Field → List ℕ
  own f = held_at m (start_of row f)

  pub cents_laid : (r : List ℕ) {r0 r1 r2 r3 r4 r5 r6 : List ℕ} {p : ℕ}
      → p ≡ start_of row EndToEndId
      → r0 ≡ laid 0 (take 35 (own TxId)) r
      → r1 ≡ laid 35 (padded 35 (collapsed (held_at m p))) r0
      → r2 ≡ laid 70 (take 35 (own MndtId)) r1
      → r3 ≡ laid 105 (take 34 (own DbtrIban)) r2
      → r4 ≡ laid 139 (take 34 (own CdtrIban)) r3
      → r5 ≡ laid 173 (take 11 (own DbtrBic)) r4
      → r6 ≡ laid 184 (digits 11 (cents_of row)) r5
      → r6 ≡ all_laid (to_cents m row) r
  unfolding to_cents
  cents_laid r p e0 e1 e2 e3 e4 e5 e6 = rw (e6, e5, e4, e3, e2, e1, p, e0)

  pub instr_id_laid : (r : List ℕ) {r0 r1 r2 r3 r4 : List ℕ} (sequence : ℕ)
      → r0 ≡ laid 195 (take 10 (own ReqdColltnDt)) r
      → r1 ≡ laid 205 (take 4 (held_at m sequence)) r0
      → r2 ≡ laid 209 (take 35 (own CdtrId)) r1
      → r3 ≡ laid 244 (take 11 (own CdtrBic)) r2
      → r4 ≡ laid 255 (take 35 (own InstrId)) r3
      → r4 ≡ all_laid (to_instr_id m row sequence) r
  unfolding to_instr_id
  instr_id_laid r sequence e0 e1 e2 e3 e4 = rw (e4, e3, e2, e1, e0)

  pub all_laid_lem : (r : List ℕ) {r0 r1 : List ℕ} (instrument : ℕ)
      → r0 ≡ laid 290 (take 4 (held_at m instrument)) r
      → r1 ≡ laid 294 (take 10 (own DtOfSgntr)) r0
      → length r1 ≡ record_length
      → set r1 319 10 ≡ all_laid (to_end m row instrument) r
  unfolding to_end
  all_laid_lem r {r0} {r1} instrument e0 e1 n = end_laid r1 n ∙ rw (e1, e0)

-- ---- the whole record
blank : So 0 [] (replicate record_length 32)
blank = record { is = refl; long = refl }

module _ (m row above : List ℕ) where
  pub whole : {r0 r1 r2 : List ℕ} {sequence instrument : ℕ}
      → sequence ≡ own_or (start_of above SeqTp) (start_of row SeqTp)
      → instrument ≡ own_or (start_of above LclInstrm) (start_of row LclInstrm)
      → r0 ≡ all_laid (to_cents m row) (replicate record_length 32)
      → r1 ≡ all_laid (to_instr_id m row sequence) r0
      → r2 ≡ all_laid (to_end m row instrument) r1
      → r2 ≡ record_of m row above
  unfolding to_cents to_instr_id to_end record_of
  whole {r0} {r1} {r2} {sequence} {instrument} p q e0 e1 e2 =
      let s0 = next_padded blank 35 (own m row TxId) (omega arith) refl in
      let s1 = next_whole s0 35 (padded 35 (collapsed (own m row EndToEndId))) (length_padded 35 (collapsed (own m row EndToEndId))) refl in
      let s2 = next_padded s1 35 (own m row MndtId) (omega arith) refl in
      let s3 = next_padded s2 34 (own m row DbtrIban) (omega arith) refl in
      let s4 = next_padded s3 34 (own m row CdtrIban) (omega arith) refl in
      let s5 = next_padded s4 11 (own m row DbtrBic) (omega arith) refl in
      let s6 = next_whole s5 11 (digits 11 (cents_of row)) (length_digits 11 (cents_of row)) e0 in
      let s7 = next_padded s6 10 (own m row ReqdColltnDt) (omega arith) refl in
      let s8 = next_padded s7 4 (held_at m sequence) (omega arith) refl in
      let s9 = next_padded s8 35 (own m row CdtrId) (omega arith) refl in
      let s10 = next_padded s9 11 (own m row CdtrBic) (omega arith) refl in
      let s11 = next_padded s10 35 (own m row InstrId) (omega arith) e1 in
      let s12 = next_padded s11 4 (held_at m instrument) (omega arith) refl in
      rw (← p, ← q) (e2 ∙ ended (next_padded s12 10 (own m row DtOfSgntr) (omega arith) refl))

-- What goes on after something was read goes on with nothing read before, where the payment type may stand once in it: the rules ask no more of less.
use mathlib.Core.Path.{◌≡◌, refl, ap, ◌∙◌}
use mathlib.Core.Bool.{Bool, true, false, not}
use mathlib.Core.List.{List, [], ◌∷◌, ◌++◌, append-nil, append_assoc}
use Prim.Native.Nat.{ℕ, ◌+◌, ◌≤◌}
use native.Mathlib.Omega.{arith}
use borrow.Author.Tests.{ltb-true, lt-ltb}
use lib.Dec.{ltb}
use lib.ListN.{length, length-append}
use Rattle.text.specs.Truth.{either, pick}
use Rattle.text.specs.Quoted.{alike}
use Rattle.answers.specs.Given.{Given, yes, worth, refused as no, ◌else◌, in_order}
use Rattle.codes.specs.declared.Element.TheVariants.{LclInstrm}
use Rattle.profile.specs.declared.Kind.TheVariants.{Code}
use Rattle.profile.specs.declared.Field.TheVariants.{TxId}
use Rattle.profile.specs.Limits.{most_items}
use Rattle.profile.specs.Kinds.{same_kind}
use Rattle.profile.specs.Fields.{same_field}
use Rattle.profile.specs.Profile.{is_type}
use Rattle.kinds.specs.Given.{kind_given}
use Rattle.reading.specs.Trace.{What, item_begins, item_ends, there, absent, value, Entry, Trace, met, up_to, fault}
use Rattle.reading.specs.Noted.{on, Ended, noted}
use Rattle.reading.specs.Rules.{items_in, of_kind, values_of, values_at, of_type, types_in, first_of, stands_in, ◌so◌, unlike_first, fitting, weighed}
use Rattle.reading.specs.Judged.{whats, or_refused, listed}
use Rattle.reading.proofs.Lists.{whats_append, items_append, values_append, at_append, types_append, alike_itself, alike_same}
use Rattle.reading.proofs.Flat.{never, flat, Goes, goes_flat, through, taken}

-- ---- an answer that lets pass
abbrev Fine : Given → Type 0
Fine yes = Unit {0}
Fine (worth n) = Unit {0}
Fine (no n) = ⊥

fine_of : {S : Type 0} (g : Given) (p : ℕ) (s u : S) → or_refused g p s ≡ on u → Fine g
fine_of yes p s u e = tt
fine_of (worth n) p s u e = tt
fine_of (no n) p s u e = never (cc)

of_fine : {S : Type 0} (g : Given) (p : ℕ) (s : S) → Fine g → or_refused g p s ≡ on s
of_fine yes p s h = refl
of_fine (worth n) p s h = refl
of_fine (no n) p s h = absurd h

-- two rules that are as strict
stricter : (g : Given) (a b c d : Bool) → (a ≡ true → c ≡ true) → (b ≡ true → d ≡ true)
    → Fine (fitting g (in_order (a else 11 ∷ b else 24 ∷ []) yes)) → Fine (fitting g (in_order (c else 11 ∷ d else 24 ∷ []) yes)) × (a ≡ true)
stricter (no n) a b c d h k e = absurd e
stricter yes false b c d h k e = absurd e
stricter yes true false c d h k e = absurd e
stricter yes true true c d h k e = (rw (h refl, k refl) tt, refl)
stricter (worth n) false b c d h k e = absurd e
stricter (worth n) true false c d h k e = absurd e
stricter (worth n) true true c d h k e = (rw (h refl, k refl) tt, refl)

so_also : (c x y : Bool) → (x ≡ true → y ≡ true) → (c so x) ≡ true → (c so y) ≡ true
so_also true x y h e = h e
so_also false x y h e = refl

-- ---- the first LclInstrm: what passes beside the first of both lists passes beside the first of the second
abbrev Lets : List (List ℕ) → List (List ℕ) → Type 0
Lets ps ss = (v : List ℕ) → alike (first_of v (ps ++ ss)) v ≡ true → alike (first_of v ss) v ≡ true

lets_more : (ps ss : List (List ℕ)) (w : List ℕ) → Lets ps ss → alike (first_of w (ps ++ ss)) w ≡ true → Lets ps (ss ++ (w ∷ []))
lets_more [] ss w g h = λ v e. e
lets_more (x ∷ l) [] w g h = λ v e. rw (← alike_same x w h) e
lets_more (x ∷ l) (y ∷ k) w g h = λ v e. g v e

abbrev services : List What → List (List ℕ)
services ws = values_of (Code LclInstrm) ws

-- ---- TxId: what stands nowhere in both lists stands nowhere in the second
stands_less : (v : List ℕ) (ps ss : List (List ℕ)) → not (stands_in v (ps ++ ss)) ≡ true → not (stands_in v ss) ≡ true
stands_less v [] ss e = e
stands_less v (w ∷ ps) ss e = go (alike w v) e (stands_less v ps ss)
  where
    go : (b : Bool) → not (either b (stands_in v (ps ++ ss))) ≡ true → (not (stands_in v (ps ++ ss)) ≡ true → not (stands_in v ss) ≡ true) → not (stands_in v ss) ≡ true
    go true e k = never (cc)
    go false e k = k e

-- ---- the payment type: where it may stand once, nothing was said of it before
type_alone : (i b : Bool) (l : List Bool) → length l + length (pick i (b ∷ []) []) ≤ 1 → (i so unlike_first b l) ≡ true
type_alone false b l h = refl
type_alone true b [] h = refl
type_alone true b (x ∷ l) h = never (omega (arith, h))

-- ---- one thing met
module _ (pre ws : List What) (g : Lets (services pre) (services ws)) where
  record Less (w : What) : Type 0 where
    pub fine : Fine (weighed ws w)
    pub lets : Lets (services pre) (services ws ++ of_kind (Code LclInstrm) w)

  silent : Lets (services pre) (services ws ++ [])
  silent = rw (append-nil (services ws)) g

  less : (w : What) → length (types_in ws) + length (of_type w) ≤ 1 → Fine (weighed (pre ++ ws) w) → Less w
  less item_begins t h = go (ltb (items_in (pre ++ ws)) most_items) refl h
    where
      go : (b : Bool) → ltb (items_in (pre ++ ws)) most_items ≡ b → Fine (in_order (b else 12 ∷ []) yes) → Less item_begins
      go false z e = absurd e
      go true z e =
          let y : ltb (items_in ws) most_items ≡ true = lt-ltb (items_in ws) most_items (omega (arith, items_append pre ws, ltb-true (items_in (pre ++ ws)) most_items z)) in
          record { fine = rw y tt; lets = silent }
  less item_ends t h = record { fine = tt; lets = silent }
  less (there n) t h = record { fine = rw (type_alone (is_type n) true (types_in ws) t) tt; lets = silent }
  less (absent n) t h = record { fine = rw (type_alone (is_type n) false (types_in ws) t) tt; lets = silent }
  less (value k f v) t h = record { fine = x.0; lets = served (same_kind k (Code LclInstrm)) x.1 }
    where
      joined : services (pre ++ ws) ≡ services pre ++ services ws
      joined = values_append (Code LclInstrm) pre ws

      x : Fine (weighed ws (value k f v)) × ((same_kind k (Code LclInstrm) so alike (first_of v (services (pre ++ ws))) v) ≡ true)
      x =
          stricter (kind_given k v)
          (same_kind k (Code LclInstrm) so alike (first_of v (services (pre ++ ws))) v)
          (same_field f TxId so not (stands_in v (values_at TxId (pre ++ ws))))
          (same_kind k (Code LclInstrm) so alike (first_of v (services ws)) v)
          (same_field f TxId so not (stands_in v (values_at TxId ws)))
          (so_also (same_kind k (Code LclInstrm)) (alike (first_of v (services (pre ++ ws))) v) (alike (first_of v (services ws)) v) (λ e. g v (rw joined at e)))
          (so_also (same_field f TxId) (not (stands_in v (values_at TxId (pre ++ ws)))) (not (stands_in v (values_at TxId ws)))
          (λ e. stands_less v (values_at TxId pre) (values_at TxId ws) (rw (at_append TxId pre ws) at e)))
          h

      served : (i : Bool) → (i so alike (first_of v (services (pre ++ ws))) v) ≡ true → Lets (services pre) (services ws ++ pick i (v ∷ []) [])
      served true e = lets_more (services pre) (services ws) v g (rw joined at e)
      served false e = silent

-- ---- all of it
pub record Again (t : Trace) (es : List Entry) (at : ℕ) : Type 0 where
  pub notes : List Entry
  pub goes : Goes t es (record { at = at; notes = notes })

abbrev types : List Entry → ℕ
types es = length (types_in (whats es))

anew : (t : Trace) (pre es : List Entry) → Lets (services (whats pre)) (services (whats es)) → types es + types (flat t) ≤ 1
    → (r : Ended (List Entry)) → Goes t (pre ++ es) r → Again t es r.at
anew (up_to p) pre es g b r e =
    let z : p ≡ r.at = cc in
    record { notes = es; goes = rw z }
anew (fault n q) pre es g b r e = never (cc)
anew (met x t) pre es g b r e =
    let h = through (listed x (pre ++ es)) (noted listed t) r e in
    let f : Fine (weighed (whats pre ++ whats es) x.what) =
    rw (whats_append pre es) at (fine_of (weighed (whats (pre ++ es)) x.what) x.place ((pre ++ es) ++ (x ∷ [])) h.mid h.first) in
    let n : length (types_in (whats (flat (met x t)))) ≡ length (of_type x.what) + types (flat t) = length-append (of_type x.what) (types_in (whats (flat t))) in
    let y = less (whats pre) (whats es) g x.what (omega (arith, b, n)) f in
    let z : h.mid ≡ pre ++ (es ++ (x ∷ [])) = taken x (pre ++ es) h.mid h.first ∙ append_assoc pre es (x ∷ []) in
    let s : services (whats (es ++ (x ∷ []))) ≡ services (whats es) ++ of_kind (Code LclInstrm) x.what =
    ap services (whats_append es (x ∷ []))
    ∙ (values_append (Code LclInstrm) (whats es) (x.what ∷ []) ∙ ap (λ (l : List (List ℕ)). services (whats es) ++ l) (append-nil (of_kind (Code LclInstrm) x.what))) in
    let c : types (es ++ (x ∷ [])) ≡ types es + length (of_type x.what) =
    ap (λ (l : List What). length (types_in l)) (whats_append es (x ∷ []))
    ∙ (ap length (types_append (whats es) (x.what ∷ [])) ∙ (length-append (types_in (whats es)) (of_type x.what ++ [])
    ∙ rw (append-nil (of_type x.what)))) in
    let k = anew t pre (es ++ (x ∷ [])) (rw s y.lets) (omega (arith, b, n, c)) r (rw z at h.then) in
    record { notes = k.notes; goes = rw (of_fine (weighed (whats es) x.what) x.place (es ++ (x ∷ [])) y.fine) k.goes }

-- what is noted then is all that stands there
pub goes_anew : (t : Trace) (pre : List Entry) (r : Ended (List Entry)) → length (types_in (whats (flat t))) ≤ 1 → Goes t pre r → Goes t [] (record { at = r.at; notes = flat t })
goes_anew t pre r b e =
    let a = anew t pre [] (λ v h. alike_itself v) (omega (arith, b)) r (rw (append-nil pre) e) in
    rw (← goes_flat t [] (record { at = r.at; notes = a.notes }) a.goes) a.goes

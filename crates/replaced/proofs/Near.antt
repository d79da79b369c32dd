-- Two lists of what was read, the same but for the bytes of some values: what they have in common, and that noting goes on alike where no rule looks at such a value.
use mathlib.Core.Path.{◌≡◌, refl, ap}
use mathlib.Core.Bool.{Bool, true, false}
use mathlib.Core.List.{List, [], ◌∷◌, ◌++◌}
use Prim.Native.Nat.{ℕ, ◌+◌}
use Rattle.text.specs.Truth.{pick}
use Rattle.answers.specs.Given.{Given, yes, worth, refused as no}
use Rattle.codes.specs.declared.Element as code
use Rattle.profile.specs.declared.Kind.{Kind}
use Rattle.profile.specs.declared.Kind.TheVariants.{Code}
use Rattle.profile.specs.declared.Field.{Field}
use Rattle.profile.specs.declared.Field.TheVariants.{TxId}
use Rattle.profile.specs.Kinds.{same_kind}
use Rattle.profile.specs.Fields.{same_field}
use Rattle.kinds.specs.Given.{kind_given}
use Rattle.reading.specs.Trace.{What, item_begins, item_ends, there, absent, value, Entry, ◌at◌, Trace}
use Rattle.reading.specs.Noted.{Reading, onward, noted}
use Rattle.reading.specs.Rules.{begun, items_in, of_kind, values_of, of_field, values_at, of_type, types_in, fitting, weighed}
use Rattle.reading.specs.Judged.{whats, or_refused, listed, place_in, place_from}
use Rattle.reading.proofs.Simulates as sim
use Rattle.reading.proofs.Simulates.{Alike, going, stopped, simulates}
use Rattle.replaced.proofs.Beside.{Beside, same, here, past}

-- a checker's answer that lets reading go on
abbrev pub Passing : Given → Type 0
Passing g = fitting g yes ≡ yes

module _ (Fit : Kind → Field → Type 0) (v w : List ℕ) where
  pub data Near : List Entry → List Entry → Type 0 where
    none : Near [] []
    like : (e : Entry) {l l' : List Entry} → Near l l' → Near (e ∷ l) (e ∷ l')
    changed : {k : Kind} {f : Field} {q : ℕ} {l l' : List Entry} → Fit k f → Near l l' → Near ((value k f v at q) ∷ l) ((value k f w at q) ∷ l')

  pub near_append : {a a' b b' : List Entry} → Near a a' → Near b b' → Near (a ++ b) (a' ++ b')
  near_append none h = h
  near_append (like e n) h = like e (near_append n h)
  near_append (changed f n) h = changed f (near_append n h)

  pub near_itself : (l : List Entry) → Near l l
  near_itself [] = none
  near_itself (e ∷ l) = like e (near_itself l)

  -- ---- what they have in common
  pub near_items : {l l' : List Entry} → Near l l' → items_in (whats l) ≡ items_in (whats l')
  near_items none = refl
  near_items (like e n) = ap (λ (i : ℕ). begun e.what + i) (near_items n)
  near_items (changed f n) = ap (λ (i : ℕ). 0 + i) (near_items n)

  pub near_types : {l l' : List Entry} → Near l l' → types_in (whats l) ≡ types_in (whats l')
  near_types none = refl
  near_types (like e n) = ap (λ (x : List Bool). of_type e.what ++ x) (near_types n)
  near_types (changed f n) = near_types n

  pub near_place : (j : Kind) {l l' : List Entry} (q : ℕ) → Near l l' → place_from q j l ≡ place_from q j l'
  near_place j q none = refl
  near_place j q (like e n) = near_place j (place_in (of_kind j e.what) e.place q) n
  near_place j q (changed {k = k} {q = p} {l = l} {l' = l'} f n) = go (same_kind k j) (near_place j p n) (near_place j q n)
    where
      go : (b : Bool) → place_from p j l ≡ place_from p j l' → place_from q j l ≡ place_from q j l'
          → place_from (place_in (pick b (v ∷ []) []) p q) j l ≡ place_from (place_in (pick b (w ∷ []) []) p q) j l'
      go true x y = x
      go false x y = y

  -- no value of a kind is one of those
  abbrev pub Unlike : Kind → Type 0
  Unlike j = (k : Kind) (f : Field) → Fit k f → same_kind k j ≡ false

  pub near_values : (j : Kind) → Unlike j → {l l' : List Entry} → Near l l' → values_of j (whats l) ≡ values_of j (whats l')
  near_values j u none = refl
  near_values j u (like e n) = ap (λ (x : List (List ℕ)). of_kind j e.what ++ x) (near_values j u n)
  near_values j u (changed {k = k} {f = f} x n) = rw (u k f x) (near_values j u n)

  -- and none of a field
  abbrev pub Other : Field → Type 0
  Other g = (k : Kind) (f : Field) → Fit k f → same_field f g ≡ false

  pub near_at : (g : Field) → Other g → {l l' : List Entry} → Near l l' → values_at g (whats l) ≡ values_at g (whats l')
  near_at g u none = refl
  near_at g u (like e n) = ap (λ (x : List (List ℕ)). of_field g e.what ++ x) (near_at g u n)
  near_at g u (changed {k = k} {f = f} x n) = rw (u k f x) (near_at g u n)

  -- ---- noting, where no such value is a LclInstrm or a TxId
  module _ (services : Unlike (Code code.TheVariants.LclInstrm)) (ids : Other TxId) where
    near-weighed : {l l' : List Entry} → Near l l' → (x : What) → weighed (whats l) x ≡ weighed (whats l') x
    near-weighed n item_begins = rw (near_items n)
    near-weighed n item_ends = refl
    near-weighed n (there i) = rw (near_types n)
    near-weighed n (absent i) = rw (near_types n)
    near-weighed n (value k f u) = rw (near_values (Code code.TheVariants.LclInstrm) services n, near_at TxId ids n)

    or-refused : (g : Given) (p : ℕ) {l l' : List Entry} → Near l l' → Alike Near (or_refused g p l) (or_refused g p l')
    or-refused yes p n = going n
    or-refused (worth i) p n = going n
    or-refused (no i) p n = stopped

    keeps : sim.Keeps Near listed listed
    keeps e l l' n = rw (near-weighed n e.what) (or-refused (weighed (whats l') e.what) e.place (near_append n (like e none)))

    -- such a value passes where its kind does
    pub passing : (k : Kind) (f : Field) → Fit k f → (u : List ℕ) → Passing (kind_given k u) → (ws : List What) → weighed ws (value k f u) ≡ yes
    passing k f x u p ws = rw (services k f x, ids k f x) p

    pub noted_near : ((k : Kind) (f : Field) → Fit k f → Passing (kind_given k v) × Passing (kind_given k w))
        → {t t' : Trace} → Beside Fit v w t t' → (l l' : List Entry) → Near l l' → Alike (sim.Beside Near) (noted listed t l) (noted listed t' l')
    noted_near own (same {t = t}) l l' n = simulates Near listed listed keeps t l l' n
    noted_near own (here {k = k} {f = f} {q = q} {t = t} x) l l' n =
        rw (passing k f x v (own k f x).0 (whats l), passing k f x w (own k f x).1 (whats l'))
        (simulates Near listed listed keeps t (l ++ ((value k f v at q) ∷ [])) (l' ++ ((value k f w at q) ∷ [])) (near_append n (changed x none)))
    noted_near own (past {e = e} {t = t} {t' = t'} h) l l' n = go (listed e l) (listed e l') (keeps e l l' n) (λ s u r. noted_near own h s u r)
      where
        go : (a b : Reading (List Entry)) → Alike Near a b → ((l l' : List Entry) → Near l l' → Alike (sim.Beside Near) (noted listed t l) (noted listed t' l'))
            → Alike (sim.Beside Near) (onward a (noted listed t)) (onward b (noted listed t'))
        go a b (going {s = s} {t = u} r) k = k s u r
        go a b stopped k = stopped

-- A whole message beside the same continued in any way: from its beginning to the end of `</Document>`.
use mathlib.Core.Path.{◌≡◌, refl}
use mathlib.Core.Bool.{Bool, true, false}
use mathlib.Core.List.{List, [], ◌∷◌, ◌++◌}
use mathlib.Core.Logic.{◌⊎◌, inl, inr}
use Prim.Native.Nat.{ℕ, ◌+◌, ◌≤◌, ◌<◌}
use native.Mathlib.Omega.{arith}
use borrow.Author.Tests.{eqb-true}
use lib.Dec.{eqb}
use lib.ListN.{length, drop}
use Rattle.text.specs.Truth.{pick}
use Rattle.text.proofs.Truths.{never}
use Rattle.tags.specs.declared.Look.{Look}
use Rattle.tags.specs.Tags.{white, skipped, look, on_look, exactly, declaration, starts_question}
use Rattle.tags.proofs.Looks.{exactly_length}
use Rattle.profile.specs.declared.Version.{Version}
use Rattle.profile.specs.Version.{versions, root}
use Rattle.profile.specs.Profile.{profile}
use Rattle.reading.specs.Trace.{fault, from, faulty, rooted, opened}
use Rattle.faults.specs.Refusals.{in_document}
use Rattle.faults.proofs.Fronts.{Sights, whole, cut, other, seen, none_left}
use Rattle.faults.proofs.Extends.{Extends, ended, wrong, weaken, skip_ext, trace_ext}

-- a message too short to start `<?` ends within the root tag, or the same continued does not start so either
question : (m x : List ℕ) → (starts_question (m ++ x) ≡ starts_question m) ⊎ (opened m ≡ faulty 3 (length m))
unfolding starts_question opened white
question [] x = inr refl
question (c ∷ []) x = go (eqb c 60) refl
  where
    go : (b : Bool) → eqb c 60 ≡ b → (starts_question (c ∷ x) ≡ starts_question (c ∷ [])) ⊎ (opened (c ∷ []) ≡ faulty 3 1)
    go true e = inr (rw (eqb-true c 60 e))
    go false e = inl (rw e)
question (c ∷ d ∷ m) x = inl refl

module _ (m x : List ℕ) where
  root-wrong : (p : ℕ) → p < length m → Extends (length m) p (fault 2 p) (fault 2 p)
  root-wrong p h = wrong 2 p refl (λ e. omega arith) h

  -- the root tag of one of some versions, and what follows it
  rooted-ext : (vs : List Version) (p : ℕ) → p ≤ length m → p < length m + length vs
      → Extends (length m) p (in_document m (rooted vs m p)) (in_document (m ++ x) (rooted vs (m ++ x) p))
  rooted-ext [] p h g = root-wrong p (omega arith)
  rooted-ext (v ∷ vs) p h g =
      go (look (exactly (root v)) (drop p m)) (look (exactly (root v)) (drop p (m ++ x))) (seen m x p h (exactly (root v))) (rooted-ext vs p h)
    where
      go : (k l : Look) → Sights p (p + length (exactly (root v))) (length m) k l
          → (p < length m + length vs → Extends (length m) p (in_document m (rooted vs m p)) (in_document (m ++ x) (rooted vs (m ++ x) p)))
          → Extends (length m) p (in_document m (on_look k (from v (p + length (root v))) (faulty 3 (length m)) (rooted vs m p)))
          (in_document (m ++ x) (on_look l (from v (p + length (root v))) (faulty 3 (length (m ++ x))) (rooted vs (m ++ x) p)))
      go k l (whole w) z = weaken (omega arith) (trace_ext m x (profile v) (p + length (root v)) (omega (arith, exactly_length (root v))))
      go k l (cut w) z = ended
      go k l (other w) z = z (omega arith)

  pub rooted_ends : (vs : List Version) → 0 < length vs → in_document m (rooted vs m (length m)) ≡ fault 3 (length m)
  rooted_ends [] h = never (omega arith)
  rooted_ends (v ∷ vs) h = rw (none_left (exactly (root v)) (omega arith) m)

  -- behind white space
  root-ext : (p : ℕ) → p ≤ length m
      → Extends (length m) p (in_document m (rooted versions m (skipped m p))) (in_document (m ++ x) (rooted versions (m ++ x) (skipped (m ++ x) p)))
  root-ext p h =
      skip_ext m x (λ q. in_document m (rooted versions m q)) (λ q. in_document (m ++ x) (rooted versions (m ++ x) q)) p h
      (λ q i j. rooted-ext versions q j (omega arith)) (rooted_ends versions (omega arith))

  pub document_ext : Extends (length m) 0 (in_document m (opened m)) (in_document (m ++ x) (opened (m ++ x)))
  unfolding opened
  document_ext = elim (question m x) [
    | inr e ↦ rw e ended
    | inl e ↦ rw e (go (starts_question m) (look (exactly declaration) m) (look (exactly declaration) (m ++ x)) (seen m x 0 (omega arith) (exactly declaration)))
  ]
    where
      go : (b : Bool) (k l : Look) → Sights 0 (length (exactly declaration)) (length m) k l
          → Extends (length m) 0 (in_document m (pick b (on_look k (rooted versions m (skipped m (length declaration))) (faulty 3 (length m)) (faulty 2 0)) (rooted versions m (skipped m 0))))
          (in_document (m ++ x)
          (pick b (on_look l (rooted versions (m ++ x) (skipped (m ++ x) (length declaration))) (faulty 3 (length (m ++ x))) (faulty 2 0)) (rooted versions (m ++ x) (skipped (m ++ x) 0))))
      go false k l s = root-ext 0 (omega arith)
      go true k l (whole w) = weaken (omega arith) (root-ext (length declaration) w)
      go true k l (cut w) = ended
      go true k l (other w) = root-wrong 0 w

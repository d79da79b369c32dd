-- Two whole messages, the same bytes but for one value: read alike, but for that value.
use mathlib.Core.Path.{◌≡◌, refl, ap, sym, ◌∙◌}
use mathlib.Core.Bool.{Bool, true, false}
use mathlib.Core.List.{List, [], ◌∷◌}
use Prim.Native.Nat.{ℕ, ◌+◌}
use lib.Dec.{eqb, ltb}
use lib.ListN.{length, drop}
use Rattle.text.specs.Truth.{both, pick}
use Rattle.text.specs.Quoted.{bytes}
use Rattle.tags.specs.declared.Look.{Look}
use Rattle.tags.specs.declared.Look.TheVariants.{Whole, Cut, Other}
use Rattle.tags.specs.Tags.{skipped, look, on_look, exactly, declaration, starts_question}
use Rattle.tags.proofs.Looks.{exactly_length}
use Rattle.profile.specs.declared.Kind.{Kind}
use Rattle.profile.specs.declared.Field.{Field}
use Rattle.profile.specs.declared.Version.{Version}
use Rattle.profile.specs.Version.{versions, root}
use Rattle.profile.specs.Limits.{most_bytes}
use Rattle.profile.specs.Profile.{profile}
use Rattle.reading.specs.Trace.{up_to, fault, Opened, from, faulty, rooted, opened, behind_all, inside, message}
use Rattle.replaced.proofs.Along.{Each}
use Rattle.replaced.proofs.Beside.{Beside, same, Swapped, Clear}
use Rattle.replaced.proofs.Side.{Out, Side, stops, breaks, side_beside, side_then, on_out, skip_out, look_same, whole_on, Apart, trace_side}

-- whether a message starts `<?`, as a look
question_look : (s : List ℕ) → starts_question s ≡ on_look (look (exactly (bytes "<?")) s) true false false
unfolding starts_question
question_look [] = refl
question_look (c ∷ []) = go (eqb c 60)
  where
    go : (x : Bool) → both x false ≡ on_look (pick x Cut Other) true false false
    go true = refl
    go false = refl
question_look (c ∷ d ∷ s) = go (eqb c 60) (eqb d 63)
  where
    go : (x y : Bool) → both x (both y true) ≡ on_look (pick x (pick y Whole Other) Other) true false false
    go true true = refl
    go true false = refl
    go false y = refl

-- a beginning that is clear of the value's start tag
abbrev pub Roots : List ℕ → List Version → Type 0
Roots head [] = Unit {0}
Roots head (v ∷ vs) = Clear head (exactly (root v)) × Roots head vs

pub record Opening (head : List ℕ) : Type 0 where
  pub question : Clear head (exactly (bytes "<?"))
  pub declared : Clear head (exactly declaration)
  pub roots : Roots head versions

module _ (m m' : List ℕ) (S : Swapped m m') (Fit : Kind → Field → Type 0) (O : Opening S.head) where
  abbrev Ahead : Opened → Type 0
  Ahead (from v p) = Out m m' S Fit false p
  Ahead (faulty n q) = Unit {0}

  rooted-same : (vs : List Version) → Roots S.head vs → (p : ℕ) → Out m m' S Fit false p → (rooted vs m p ≡ rooted vs m' p) × Ahead (rooted vs m p)
  rooted-same [] c p h = (refl, tt)
  rooted-same (v ∷ vs) c p h =
      rw (← look_same m m' S Fit (exactly (root v)) c.0 false p h, ← S.size)
      (go (look (exactly (root v)) (drop p m)) refl (rooted-same vs c.1 p h))
    where
      to : List ℕ → Look → Opened
      to l x = on_look x (from v (p + length (root v))) (faulty 3 (length m)) (rooted vs l p)

      go : (l : Look) → look (exactly (root v)) (drop p m) ≡ l → (rooted vs m p ≡ rooted vs m' p) × Ahead (rooted vs m p) → (to m l ≡ to m' l) × Ahead (to m l)
      go Whole e k = (refl, rw (← exactly_length (root v)) (on_out m m' S Fit false p (length (exactly (root v))) (whole_on m m' S Fit (exactly (root v)) c.0 false p h e)))
      go Cut e k = (refl, tt)
      go Other e k = k

  -- the root tag, after white space
  root_due : (p : ℕ) → Out m m' S Fit false p → (rooted versions m (skipped m p) ≡ rooted versions m' (skipped m' p)) × Ahead (rooted versions m (skipped m p))
  root_due p h = let s = skip_out m m' S Fit false p h in rw (← s.0) (rooted-same versions O.roots (skipped m p) s.1)

  question-same : starts_question m ≡ starts_question m'
  question-same =
      question_look m
      ∙ ap (λ (l : Look). on_look l true false false) (look_same m m' S Fit (exactly (bytes "<?")) O.question false 0 S.alike)
      ∙ sym (question_look m')

  pub opened_same : (opened m ≡ opened m') × Ahead (opened m)
  unfolding opened
  opened_same =
      rw (← question-same, ← look_same m m' S Fit (exactly declaration) O.declared false 0 S.alike)
      (go (starts_question m) (look (exactly declaration) m) refl)
    where
      to : List ℕ → Bool → Look → Opened
      to l b x =
          pick b (on_look x (rooted versions l (skipped l (length declaration))) (faulty 3 (length l)) (faulty 2 0)) (rooted versions l (skipped l 0))

      go : (b : Bool) (l : Look) → look (exactly declaration) m ≡ l → (to m b l ≡ to m' b l) × Ahead (to m b l)
      go true Whole e = root_due (length declaration) (whole_on m m' S Fit (exactly declaration) O.declared false 0 S.alike e).1
      go true Cut e = (ap (faulty 3) S.size, tt)
      go true Other e = (refl, tt)
      go false l e = root_due 0 S.alike

  behind-side : (b : Bool) (p : ℕ) → Out m m' S Fit b p → Side m m' S Fit b (behind_all m p) (behind_all m' p)
  unfolding behind_all
  behind-side b p h = let s = skip_out m m' S Fit b p h in rw (← s.0, ← S.size) (go (ltb (skipped m p) (length m)) s.1)
    where
      go : (x : Bool) → Out m m' S Fit b (skipped m p) → Side m m' S Fit b (pick x (fault 16 (skipped m p)) (up_to (skipped m p))) (pick x (fault 16 (skipped m p)) (up_to (skipped m p)))
      go true r = breaks
      go false r = stops r

  -- the elements of the version that the message has are apart from the value's own
  pub message_beside : ((v : Version) (p : ℕ) → opened m ≡ from v p → Each (Apart m m' S Fit) (profile v)) → Beside Fit S.v S.w (message m) (message m')
  unfolding message
  message_beside c = rw (← opened_same.0, ← S.size) (first (ltb most_bytes (length m)))
    where
      go : (o : Opened) → opened m ≡ o → Ahead o → Beside Fit S.v S.w (inside m o) (inside m' o)
      go (from v p) e h = side_beside m m' S Fit (side_then m m' S Fit (behind_all m) (behind_all m') behind-side (trace_side m m' S Fit (profile v) (c v p e) false p h))
      go (faulty n q) e h = same

      first : (x : Bool) → Beside Fit S.v S.w (pick x (fault 1 0) (inside m (opened m))) (pick x (fault 1 0) (inside m' (opened m)))
      first true = same
      first false = go (opened m) refl opened_same.1

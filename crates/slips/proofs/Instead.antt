-- A value of an accepted message with another put in its place, as long: what is read is the same but for it, and how the message is then judged.
use mathlib.Core.Path.{◌≡◌, refl, sym, ap, ◌∙◌}
use mathlib.Core.Logic.{inl, inr}
use mathlib.Core.Bool.{true, false}
use mathlib.Core.List.{List, [], ◌∷◌, ◌++◌, append_assoc}
use Prim.Native.Nat.{ℕ, suc, ◌+◌, ◌<◌}
use native.Mathlib.Omega.{arith}
use lib.ListN.{length, take, drop, set, length-append}
use lib.Seq.{split_at, set_at, get_or_at, length-take-le, drop-cons}
use Rattle.text.specs.Truth.{at as byte_at, every}
use Rattle.text.specs.Slips.{exchanged_at}
use Rattle.answers.specs.Given.{refused as no}
use Rattle.tags.specs.Values.{in_value}
use Rattle.profile.specs.declared.Kind.{Kind}
use Rattle.profile.specs.declared.Kind.TheVariants.{Plain, Total}
use Rattle.profile.specs.declared.Simple.{Simple}
use Rattle.profile.specs.declared.Field.{Field}
use Rattle.profile.specs.declared.Field.TheVariants.{TxId}
use Rattle.profile.specs.Fields.{same_field}
use Rattle.profile.specs.Profile.{profile}
use Rattle.kinds.specs.Given.{kind_given}
use Rattle.reading.specs.Trace.{What, value, Entry, ◌at◌, message}
use Rattle.reading.specs.Noted.{Reading, on, stop, Ended, noted}
use Rattle.reading.specs.Rules.{own_kind}
use Rattle.reading.specs.Verdict.{accepted, refused}
use Rattle.reading.specs.Judged.{whats, listed, verdict, place_of, judged}
use Rattle.reading.proofs.Flat.{never, flat, goes_flat}
use Rattle.reading.proofs.Each.{all_flat}
use Rattle.documents.specs.Document.{Each}
use Rattle.documents.specs.Said.{said}
use Rattle.documents.specs.Holds.{Passes}
use Rattle.documents.proofs.Messages.{message_told}
use Rattle.documents.proofs.Standing.{one_header, is_reference, ids_references}
use Rattle.documents.proofs.Lists.{holds_kept, judged_listed, ReadThrough, accepted_through, decided, listed_all}
use Rattle.documents.proofs.Exactly.{accepted_exactly}
use Rattle.replaced.proofs.Beside.{Beside}
use Rattle.replaced.proofs.Behind.{OfVersion, Placed}
use Rattle.replaced.proofs.Values.{Fine, Stood, values_placed, tagless, before_long, is_itself, value_there, value_beside}
use Rattle.slips.specs.Slip.{In, entries, StandsAt, total_place}
use Rattle.slips.proofs.Changed.{all_in, parted, Changed, beside_whole, beside_changed}
use Rattle.slips.proofs.Lists.{Sound, place_is, with, refused_own, no_id, plain_passes}
use Rattle.slips.proofs.Values.{Fitting}

each_in : (P : What → Type 0) (e : Entry) (l : List Entry) → Each P (whats l) → In e l → P e.what
each_in P e (x ∷ l) h (inl i) = rw i h.0
each_in P e (x ∷ l) h (inr i) = each_in P e l h.1 i
each_in P e [] h i = absurd i

-- whatever reading a message meets lies where it is met
placed : (m : List ℕ) (e : Entry) → In e (flat (message m)) → Placed (OfVersion Fine m) m e.place e.what
placed m e =
    let P : Entry → Type 0 = λ x. Placed (OfVersion Fine m) m x.place x.what in
    all_in P e (flat (message m)) (all_flat P (message m) (values_placed m))

-- what reading a message meets, where it is accepted
entries_flat : (m : List ℕ) (n c : ℕ) → judged m ≡ accepted n c → entries m ≡ flat (message m)
unfolding judged
entries_flat m n c = go (noted listed (message m) []) refl
  where
    go : (x : Reading (Ended (List Entry))) → noted listed (message m) [] ≡ x → verdict x ≡ accepted n c → entries m ≡ flat (message m)
    go (on r) z e = rw z (goes_flat (message m) [] r z)
    go (stop i p) z e = never (cc)

sound : (m : List ℕ) (n c : ℕ) → judged m ≡ accepted n c → Sound (flat (message m)) n c
sound m n c e =
    let p = (accepted_exactly m n c).0 e in
    let t = message_told p.message p.lawful (rw p.is at p.short) in
    let z : whats (flat (message m)) ≡ said (profile p.version) p.message.inside = ap (λ (l : List ℕ). whats (flat (message l))) p.is ∙ t.says in
    let h = holds_kept (said (profile p.version) p.message.inside) n c p.holds in
    record {
      kept = rw z h.0;
      compared = rw z h.1;
      one = rw z (one_header p.version p.message.inside p.lawful.inside);
      ids = rw z (ids_references p.version p.message.inside p.lawful.inside);
    }

-- two neighbours exchanged, behind what stands before them
exchanged_there : (f r : List ℕ) (a b j : ℕ) → length f ≡ j → exchanged_at (f ++ (a ∷ b ∷ r)) j ≡ f ++ (b ∷ a ∷ r)
unfolding exchanged_at
exchanged_there f r a b j e =
    let long : length (f ++ (a ∷ [])) ≡ suc j = omega (arith, e, length-append f (a ∷ [])) in
    let long' : length (f ++ (b ∷ [])) ≡ suc j = omega (arith, e, length-append f (b ∷ [])) in
    let one : byte_at (f ++ (a ∷ b ∷ r)) j ≡ a = get_or_at f a (b ∷ r) 0 j e in
    let two : byte_at (f ++ (a ∷ b ∷ r)) (suc j) ≡ b = ap (λ (l : List ℕ). byte_at l (suc j)) (sym (append_assoc f (a ∷ []) (b ∷ r))) ∙ get_or_at (f ++ (a ∷ [])) b r 0 (suc j) long in
    rw (one, two, set_at f a (b ∷ r) b j e)
    (ap (λ (l : List ℕ). set l (suc j) a) (sym (append_assoc f (b ∷ []) (b ∷ r))) ∙ set_at (f ++ (b ∷ [])) b r a (suc j) long' ∙ append_assoc f (b ∷ []) (a ∷ r))

-- The header's total: where one stands in an accepted message, that is the place of the total.
pub total_place_lem : (m : List ℕ) (n c : ℕ) → judged m ≡ accepted n c → (q : ℕ) (v : List ℕ) → StandsAt m Total q v → total_place m ≡ q
total_place_lem m n c a q v s =
    let r = parted (value Total s.field v at q) (entries m) s.among in
    ap (place_of Total) r.is
    ∙ place_is Total s.field q v v r.front r.back n c Total refl (rw (← entries_flat m n c a, r.is) at (sound m n c a).one.total)

-- what was read of an accepted message around a value, and how the message is judged with w in its place
pub record Swapped (m : List ℕ) (n c : ℕ) (k : Kind) (f : Field) (q : ℕ) (v w there : List ℕ) : Type 0 where
  pub front : List Entry
  pub back : List Entry
  pub was : entries m ≡ with k f q v w front back n c v
  pub sound : Sound (with k f q v w front back n c v) n c
  pub is : judged there ≡ decided (listed_all (with k f q v w front back n c w) [])

module _ (m : List ℕ) (n c : ℕ) (a : judged m ≡ accepted n c) (k : Kind) (q : ℕ) (v : List ℕ) (s : StandsAt m k q v) where
  abbrev entry : List ℕ → Entry
  entry u = value k s.field u at q

  in-flat : In (entry v) (flat (message m))
  in-flat = rw (entries_flat m n c a) at s.among

  stood : Stood m k q v
  stood = placed m (entry v) in-flat

  -- the value's bytes are those at its place
  pub stands_there : (length (take q m) ≡ q) × (m ≡ take q m ++ (v ++ drop (q + length v) m))
  stands_there = (before_long m k q v stood, is_itself m k q v stood)

  pub no_tag : every in_value v ≡ true
  no_tag = tagless m k q v stood

  -- it is no TxId, where it is no reference
  pub no_tx_id : is_reference k ≡ false → same_field s.field TxId ≡ false
  no_tx_id e =
      let r = parted (entry v) (flat (message m)) in-flat in
      no_id k s.field q v v r.front r.back n c (rw r.is at (sound m n c a)) e

  -- it passes
  pub passed : Passes (kind_given k v)
  passed = each_in (λ w. Passes (own_kind w)) (entry v) (flat (message m)) (sound m n c a).kept.kinds in-flat

  -- another value in its place
  abbrev pub instead : List ℕ → List ℕ
  instead w = take q m ++ (w ++ drop (q + length v) m)

  module _ (w : List ℕ) (l : Fitting v w) where
    abbrev Any : Kind → Field → Type 0
    Any j f = true ≡ true

    through : ReadThrough m
    through = accepted_through m n c a

    beside : Beside Any v w (message m) (message (instead w))
    beside = value_beside m k q v stood w l.long l.tagless l.solid l.solid'

    not_there_lem : In (entry v) (flat (message (instead w))) → ⊥
    not_there_lem i =
        let x : Stood (instead w) k q v = placed (instead w) (entry v) i in
        l.other (x.bytes ∙ value_there m k q v stood w l.long l.tagless l.solid l.solid')

    changes : Changed k s.field q v w (flat (message m)) (flat (message (instead w)))
    changes = beside_changed Any k s.field q v w beside in-flat not_there_lem

    pub swapped : Swapped m n c k s.field q v w (instead w)
    swapped =
        record {
          front = changes.front;
          back = changes.back;
          was = entries_flat m n c a ∙ changes.is;
          sound = rw changes.is at (sound m n c a);
          is =
              judged_listed (instead w) through.to (beside_whole Any k s.field q v w through.to beside through.whole)
              ∙ ap (λ (x : List Entry). decided (listed_all x [])) changes.becomes;
        }

    -- What the value's own checker refuses is refused with its number, at the value.
    pub value_refused : (i : ℕ) → kind_given k w ≡ no i → judged (instead w) ≡ refused i q
    value_refused i e = let x = swapped in x.is ∙ refused_own k s.field q v w x.front x.back n c x.sound i e

  -- ---- in positions of the message
  module _ (i : ℕ) (in-it : i < length v) where
    -- the bytes before and behind place i of the value
    abbrev before : List ℕ
    before = take q m ++ take i v

    before-all : length before ≡ q + i
    before-all = length-append (take q m) (take i v) ∙ rw (stands_there.0, length-take-le i v (omega arith))

    split : m ≡ before ++ (byte_at v i ∷ (drop (suc i) v ++ drop (q + length v) m))
    split = stands_there.1 ∙ ap (λ (y : List ℕ). take q m ++ (y ++ drop (q + length v) m)) (split_at v i 0 in-it) ∙ simp append_assoc

    pub same_byte : byte_at m (q + i) ≡ byte_at v i
    same_byte = ap (λ (y : List ℕ). byte_at y (q + i)) split ∙ get_or_at before (byte_at v i) (drop (suc i) v ++ drop (q + length v) m) 0 (q + i) before-all

    pub replaced_here : (x : ℕ) → set m (q + i) x ≡ instead (take i v ++ (x ∷ drop (suc i) v))
    replaced_here x =
        ap (λ (y : List ℕ). set y (q + i) x) split
        ∙ set_at before (byte_at v i) (drop (suc i) v ++ drop (q + length v) m) x (q + i) before-all
        ∙ simp append_assoc

  module _ (i : ℕ) (in-it : suc i < length v) where
    fore : i < length v
    fore = omega arith

    pub pair : v ≡ take i v ++ (byte_at v i ∷ byte_at v (suc i) ∷ drop (suc (suc i)) v)
    pair = split_at v i 0 fore ∙ ap (λ (l : List ℕ). take i v ++ (byte_at v i ∷ l)) (drop-cons v (suc i) 0 in-it)

    pub left_byte : byte_at m (q + i) ≡ byte_at v i
    left_byte = same_byte i fore

    pub right_byte : byte_at m (suc (q + i)) ≡ byte_at v (suc i)
    right_byte = ap (byte_at m) (omega arith) ∙ same_byte (suc i) in-it

    pub exchanged_here : exchanged_at m (q + i) ≡ instead (take i v ++ (byte_at v (suc i) ∷ byte_at v i ∷ drop (suc (suc i)) v))
    exchanged_here =
        ap (λ (z : List ℕ). exchanged_at z (q + i)) (stands_there.1 ∙ ap (λ (z : List ℕ). take q m ++ (z ++ drop (q + length v) m)) pair ∙ simp append_assoc)
        ∙ exchanged_there (take q m ++ take i v) (drop (suc (suc i)) v ++ drop (q + length v) m) (byte_at v i) (byte_at v (suc i)) (q + i) (before-all i fore)
        ∙ simp append_assoc

-- A plain value that passes in the place of another, and is no TxId: the message is accepted, with the same count and total.
pub value_accepted : (m : List ℕ) (n c : ℕ) (a : judged m ≡ accepted n c) (j : Simple) (q : ℕ) (v : List ℕ) (s : StandsAt m (Plain j) q v) (w : List ℕ) → Fitting v w
    → same_field s.field TxId ≡ false → Passes (kind_given (Plain j) w) → judged (take q m ++ (w ++ drop (q + length v) m)) ≡ accepted n c
value_accepted m n c a j q v s w l id g =
    let x = swapped m n c a (Plain j) q v s w l in
    x.is ∙ plain_passes j s.field q v w x.front x.back n c x.sound id g

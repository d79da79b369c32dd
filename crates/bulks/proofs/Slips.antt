-- One item left out, and one item standing twice: both are refused, and with which number where one stands twice.
use mathlib.Core.Path.{◌≡◌, refl, sym, ap, subst, ◌∙◌}
use mathlib.Core.Bool.{Bool, true, false}
use mathlib.Core.Logic.{◌⊎◌, inl, inr}
use mathlib.Core.List.{List, [], ◌∷◌, ◌++◌, append_assoc}
use Prim.Native.Nat.{ℕ, ◌+◌, ◌≤◌, ◌<◌}
use native.Mathlib.Omega.{arith}
use lib.ListN.{length, take, drop, length-append}
use lib.Seq.{take_at, drop_at}
use Rattle.text.specs.Truth.{both, every}
use Rattle.text.proofs.Truths.{lt_or_ge}
use Rattle.tags.specs.Tags.{white}
use Rattle.profile.specs.declared.Version.{Version}
use Rattle.profile.specs.Tree.{many, more}
use Rattle.profile.specs.Profile.{in_item}
use Rattle.reading.specs.Trace.{from as from', opened}
use Rattle.reading.specs.Verdict.{Refusal, accepted, lies, not_there}
use Rattle.reading.specs.Judged.{judged}
use Rattle.reading.specs.Items.{item}
use Rattle.reading.proofs.Flat.{never}
use Rattle.documents.specs.Document.{texts, text, Each, White, LedBy, Proper}
use Rattle.documents.specs.Message.{head, whole, Lawful}
use Rattle.documents.proofs.Each.{each_both, each_first, each_rest}
use Rattle.documents.proofs.Messages.{opens}
use Rattle.items.proofs.Accepted.{item_past}
use Rattle.bulks.specs.Bulk.{tree, DocItem, Bulk, message, with_items, item_text, front, bare_text}
use Rattle.bulks.specs.Twice.{Twice}
use Rattle.bulks.specs.Accepted.{Bulked}
use Rattle.bulks.proofs.Trees.{accepted_bulk}
use Rattle.bulks.proofs.Parts.{back, whole_parts}
use Rattle.bulks.proofs.Items.{items_proper, its_judgement}
use Rattle.bulks.proofs.Itself.{Split, texts_both, ahead, behind, item_around}
use Rattle.bulks.proofs.Refused.{bulk_refused}
use Rattle.bulks.proofs.Twice.{lawful_items, doubled}

white_both : (w x : List ℕ) → White w → White x → White (w ++ x)
white_both [] x h g = g
white_both (c ∷ w) x h g = go (white c) h (λ k. white_both w x k g)
  where
    go : (b : Bool) → both b (every white w) ≡ true → (every white w ≡ true → every white (w ++ x) ≡ true) → both b (every white (w ++ x)) ≡ true
    go true e k = k e
    go false e k = never (cc)

-- ---- white space that stands before what is left of the items
module _ (v : Version) (w : List ℕ) where
  abbrev items_after : List (DocItem v) → List (DocItem v)
  items_after [] = []
  items_after (y ∷ l) = record { blank = w ++ y.blank; held = y.held } ∷ l

  abbrev close_after : List (DocItem v) → List ℕ → List ℕ
  close_after [] close = w ++ close
  close_after (y ∷ l) close = close

  after_text : (l : List (DocItem v)) (close s : List ℕ) → texts (item_text v) (items_after l) ++ (close_after l close ++ s) ≡ w ++ (texts (item_text v) l ++ (close ++ s))
  after_text [] close s = append_assoc w close s
  after_text (y ∷ l) close s = simp append_assoc

  after-proper : White w → (l : List (DocItem v)) → Each (LedBy (Proper (in_item v))) l → Each (LedBy (Proper (in_item v))) (items_after l)
  after-proper h [] g = tt
  after-proper h (y ∷ l) g = ((white_both w y.blank h g.0.0, g.0.1), g.1)

  after-white : White w → (l : List (DocItem v)) (close : List ℕ) → White close → White (close_after l close)
  after-white h [] close g = white_both w close h g
  after-white h (y ∷ l) close g = g

  after-length : (l : List (DocItem v)) → length (items_after l) ≡ length l
  after-length [] = refl
  after-length (y ∷ l) = refl

-- ---- an item of an accepted bulk
module _ {v : Version} (b : Bulk v) (law : Lawful (message many b)) (n c : ℕ) (e : judged (whole (message many b)) ≡ accepted n c)
    (xs : List (DocItem v)) (x : DocItem v) (ys : List (DocItem v)) (is : b.items ≡ xs ++ (x ∷ ys)) where
  abbrev P : DocItem v → Type 0
  P = LedBy (Proper (in_item v))

  all-proper : Each P (xs ++ (x ∷ ys))
  all-proper = subst (Each P) is (items_proper b law)

  it-proper : Each P (x ∷ ys)
  it-proper = each_rest P xs (x ∷ ys) all-proper

  close-white : White b.close
  close-white = law.inside.1.0.1.2.2

  -- left out, with the white space before it left standing
  left_out_lem : Refusal (judged (ahead b xs x ys ++ behind b xs x ys))
  left_out_lem =
      subst (λ (t : List ℕ). Refusal (judged t)) same
      (bulk_refused b l w law (lawful_items b more l w law (omega arith) proper (after-white v x.blank it-proper.0.0 ys b.close close-white)) n c e (λ z.
      omega (arith, z, ap length is, length-append xs (x ∷ ys), length-append xs (items_after v x.blank ys), after-length v x.blank ys)))
    where
      l : List (DocItem v)
      l = xs ++ items_after v x.blank ys

      w : List ℕ
      w = close_after v x.blank ys b.close

      proper : Each P l
      proper = each_both P xs (items_after v x.blank ys) (each_first P xs (x ∷ ys) all-proper) (after-proper v x.blank it-proper.0.0 ys it-proper.1)

      same : whole (message more (with_items b l w)) ≡ ahead b xs x ys ++ behind b xs x ys
      same =
          whole_parts more (with_items b l w)
          ∙ (ap (λ (t : List ℕ). front b ++ (t ++ (w ++ back b))) (texts_both v xs (items_after v x.blank ys))
          ∙ (ap (λ (t : List ℕ). front b ++ t)
          (append_assoc (texts (item_text v) xs) (texts (item_text v) (items_after v x.blank ys)) (w ++ back b)
          ∙ ap (λ (t : List ℕ). texts (item_text v) xs ++ t) (after_text v x.blank ys b.close (back b)))
          ∙ simp append_assoc))

-- ---- what is read: an item of an accepted message, in the message's positions
module _ (m : List ℕ) (n c : ℕ) (e : judged m ≡ accepted n c) (i from to : ℕ) (q : item i m ≡ lies from to) where
  there : i < n
  there = go (lt_or_ge i n)
    where
      go : (i < n) ⊎ (n ≤ i) → i < n
      go (inl h) = h
      go (inr h) = let z : not_there 18 0 ≡ lies from to = sym (item_past m n c e i h) ∙ q in never (cc)

  -- the message, cut around the item
  record Cut : Type 0 where
    pub ahead : List ℕ
    pub body : List ℕ
    pub behind : List ℕ
    pub is : m ≡ ahead ++ (body ++ behind)
    pub begins : length ahead ≡ from
    pub ends : length (ahead ++ body) ≡ to
    pub without : Refusal (judged (ahead ++ behind))
    pub version : Version
    pub opens : (u : Version) (p : ℕ) → opened m ≡ from' u p → u ≡ version
    pub with_two : (w : List ℕ) → White w → let t = (ahead ++ body) ++ (w ++ (body ++ behind)) in Twice version t i (to + length w) (judged t)

  cut : Cut
  cut = go (accepted_bulk m n c e)
    where
      same_places : (f t : ℕ) → item i m ≡ lies f t → (f ≡ from) × (t ≡ to)
      same_places f t h = let z : lies f t ≡ lies from to = sym h ∙ q in ((cc), (cc))

      one-version : (u v : Version) (p q : ℕ) → from' u p ≡ from' v q → u ≡ v
      one-version u v p q e = cc

      opened-as : (k : Bulked m) → opened m ≡ from' k.version (length (head (message many k.bulk)))
      opened-as k =
          let d = message many k.bulk in
          ap opened k.is ∙ opens d k.lawful (text (tree many k.version) d.inside ++ d.behind)

      Two : (k : Bulked m) → Split k.bulk.items i → ℕ → List ℕ → Type 0
      Two k s j w =
          let a = ahead k.bulk s.before s.it s.after in
          let u = bare_text k.version s.it in
          let t = (a ++ u) ++ (w ++ (u ++ behind k.bulk s.before s.it s.after)) in
          Twice k.version t j (to + length w) (judged t)

      go : Bulked m → Cut
      go k =
          let r = item_around m n c e i there k in
          let s = r.place in
          let b = k.bulk in
          let y = its_judgement m n c e k in
          let a = ahead b s.before s.it s.after in
          let u = bare_text k.version s.it in
          let p = same_places (length a) (length (a ++ u)) r.lies in
          record {
            ahead = a;
            body = u;
            behind = behind b s.before s.it s.after;
            is = r.text;
            begins = p.0;
            ends = p.1;
            without = left_out_lem b k.lawful n c y s.before s.it s.after s.is;
            version = k.version;
            opens = λ u p o. one-version u k.version p (length (head (message many b))) (sym o ∙ opened-as k);
            with_two = λ w h. subst (λ (j : ℕ). Two k s j w) s.at (rw p.1 at (doubled b k.lawful n c y s.before s.it s.after s.is w h));
          }

  -- One whole item left out: the message without the bytes from its `<` to behind its `>`.
  pub item_left_out : Refusal (judged (take from m ++ drop to m))
  item_left_out = go cut
    where
      go : Cut → Refusal (judged (take from m ++ drop to m))
      go k =
          let f : take from m ≡ k.ahead = ap (take from) k.is ∙ take_at k.ahead (k.body ++ k.behind) from k.begins in
          let g : drop to m ≡ k.behind = ap (drop to) (k.is ∙ sym (append_assoc k.ahead k.body k.behind)) ∙ drop_at (k.ahead ++ k.body) k.behind to k.ends in
          rw (f, g) k.without

  -- One item standing twice in succession, directly or with any white space between: with 24 at the second one's TxId, but where 1 or 12 comes first.
  pub item_doubled : (v : Version) (p : ℕ) → opened m ≡ from' v p → (w : List ℕ) → White w
      → Twice v (take to m ++ (w ++ drop from m)) i (to + length w) (judged (take to m ++ (w ++ drop from m)))
  item_doubled v p o w h = go cut
    where
      go : Cut → Twice v (take to m ++ (w ++ drop from m)) i (to + length w) (judged (take to m ++ (w ++ drop from m)))
      go k =
          let f : drop from m ≡ k.body ++ k.behind = ap (drop from) k.is ∙ drop_at k.ahead (k.body ++ k.behind) from k.begins in
          let g : take to m ≡ k.ahead ++ k.body = ap (take to) (k.is ∙ sym (append_assoc k.ahead k.body k.behind)) ∙ take_at (k.ahead ++ k.body) k.behind to k.ends in
          rw (f, g, k.opens v p o) (k.with_two w h)

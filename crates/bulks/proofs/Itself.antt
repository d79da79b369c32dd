-- Item i of an accepted message is the i-th item of its document.
use mathlib.Core.Path.{◌≡◌, refl, sym, ap, ◌∙◌}
use mathlib.Core.List.{List, [], ◌∷◌, ◌++◌, append_assoc}
use Prim.Native.Nat.{ℕ, zero, suc, ◌+◌, ◌-◌, ◌<◌}
use native.Mathlib.Omega.{arith}
use lib.ListN.{length, take, drop, length-append}
use lib.Seq.{take_at, drop_at}
use Rattle.text.proofs.Truths.{never}
use Rattle.profile.specs.declared.Version.{Version}
use Rattle.profile.specs.Tree.{many}
use Rattle.reading.specs.Verdict.{accepted, lies}
use Rattle.reading.specs.Judged.{judged}
use Rattle.reading.specs.Items.{Item, item_from, item}
use Rattle.documents.specs.Document.{texts}
use Rattle.documents.specs.Message.{whole}
use Rattle.items.proofs.Accepted.{item_asked}
use Rattle.bulks.specs.Bulk.{DocItem, Bulk, message, item_text, front, bare_text, items_from}
use Rattle.bulks.specs.Accepted.{Bulked, Itself}
use Rattle.bulks.proofs.Parts.{back, whole_parts}
use Rattle.bulks.proofs.Items.{accepted_many, accepted_items}

-- ---- one of a list, and the two parts around it
pub record Split {A : Type 0} (l : List A) (i : ℕ) : Type 0 where
  pub before : List A
  pub it : A
  pub after : List A
  pub is : l ≡ before ++ (it ∷ after)
  pub at : length before ≡ i

pub split_at : {A : Type 0} (l : List A) (i : ℕ) → i < length l → Split l i
split_at [] i h = never (omega arith)
split_at (x ∷ l) zero h = record { before = []; it = x; after = l; is = refl; at = refl }
split_at {A} (x ∷ l) (suc i) h =
    let s = split_at l i (omega arith) in
    record { before = x ∷ s.before; it = s.it; after = s.after; is = ap (λ (k : List A). x ∷ k) s.is; at = ap suc s.at }

module _ (v : Version) where
  pub texts_both : (a b : List (DocItem v)) → texts (item_text v) (a ++ b) ≡ texts (item_text v) a ++ texts (item_text v) b
  texts_both [] b = refl
  texts_both (x ∷ a) b = ap (λ (y : List ℕ). item_text v x ++ y) (texts_both a b) ∙ sym (append_assoc (item_text v x) (texts (item_text v) a) (texts (item_text v) b))

  -- where it lies
  item_of : (xs : List (DocItem v)) (x : DocItem v) (ys : List (DocItem v)) (p : ℕ)
      → item_from (length xs) (items_from v p (xs ++ (x ∷ ys))) ≡ lies (p + length (texts (item_text v) xs) + length x.blank) (p + length (texts (item_text v) xs) + length (item_text v x))
  item_of [] x ys p = let z : p ≡ p + 0 = omega arith in ap (λ (q : ℕ). lies (q + length x.blank) (q + length (item_text v x))) z
  item_of (y ∷ xs) x ys p =
      let z : p + length (item_text v y) + length (texts (item_text v) xs) ≡ p + length (texts (item_text v) (y ∷ xs)) = omega (arith, length-append (item_text v y) (texts (item_text v) xs)) in
      item_of xs x ys (p + length (item_text v y)) ∙ ap (λ (q : ℕ). lies (q + length x.blank) (q + length (item_text v x))) z

-- ---- the message around an item
module _ {v : Version} (b : Bulk v) (xs : List (DocItem v)) (x : DocItem v) (ys : List (DocItem v)) where
  abbrev pub ahead : List ℕ
  ahead = front b ++ (texts (item_text v) xs ++ x.blank)

  abbrev pub behind : List ℕ
  behind = texts (item_text v) ys ++ (b.close ++ back b)

  pub around_item : b.items ≡ xs ++ (x ∷ ys) → whole (message many b) ≡ ahead ++ (bare_text v x ++ behind)
  around_item is =
      whole_parts many b
      ∙ (ap (λ (l : List ℕ). front b ++ (l ++ (b.close ++ back b))) (ap (texts (item_text v)) is ∙ texts_both v xs (x ∷ ys)) ∙ simp append_assoc)

-- item i of those of an accepted message, with all that stands around it
pub record Around (m : List ℕ) (i : ℕ) {v : Version} (b : Bulk v) : Type 0 where
  pub place : Split b.items i
  pub lies : item i m ≡ lies (length (ahead b place.before place.it place.after)) (length (ahead b place.before place.it place.after ++ bare_text v place.it))
  pub text : m ≡ ahead b place.before place.it place.after ++ (bare_text v place.it ++ behind b place.before place.it place.after)

module _ (m : List ℕ) (n c : ℕ) (e : judged m ≡ accepted n c) (i : ℕ) (h : i < n) (k : Bulked m) where
  pub item_around : Around m i k.bulk
  item_around = go (split_at k.bulk.items i (omega (arith, accepted_many m n c e k)))
    where
      v : Version
      v = k.version

      b : Bulk v
      b = k.bulk

      go : Split b.items i → Around m i b
      go s =
          let f = length (front b) in
          let t = texts (item_text v) s.before in
          let u = bare_text v s.it in
          let a = ahead b s.before s.it s.after in
          let x : f + length t + length s.it.blank ≡ length a = omega (arith, length-append (front b) (t ++ s.it.blank), length-append t s.it.blank) in
          let y : f + length t + length (item_text v s.it) ≡ length (a ++ u) = omega (arith, x, length-append a u, length-append s.it.blank u) in
          record {
            place = s;
            lies =
                item_asked m n c e i
                ∙ (ap (item_from i) (accepted_items m n c e k ∙ ap (items_from v f) s.is)
                ∙ (ap (λ (j : ℕ). item_from j (items_from v f (s.before ++ (s.it ∷ s.after)))) (sym s.at) ∙ (item_of v s.before s.it s.after f ∙ rw (x, y))));
            text = k.is ∙ around_item b s.before s.it s.after s.is;
          }

  -- Item i is the i-th item of the bulk: from `from` to `to` lies its text.
  pub item_itself : Itself m i k.bulk
  item_itself =
      let r = item_around in
      let s = r.place in
      let a = ahead k.bulk s.before s.it s.after in
      let u = bare_text k.version s.it in
      let z = behind k.bulk s.before s.it s.after in
      record {
        before = s.before;
        it = s.it;
        after = s.after;
        is = s.is;
        at = s.at;
        from = length a;
        to = length (a ++ u);
        lies = r.lies;
        text =
            ap (λ (t : List ℕ). take (length (a ++ u) - length a) (drop (length a) t)) r.text
            ∙ (ap (take (length (a ++ u) - length a)) (drop_at a (u ++ z) (length a) refl) ∙ take_at u z (length (a ++ u) - length a) (omega (arith, length-append a u)));
      }

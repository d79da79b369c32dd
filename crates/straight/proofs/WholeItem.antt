-- A whole item, whichever of its elements are there: where its legs lead, and what they note.
use Rattle.std.specs.Prelude.{Bool, Option, None}
use Rattle.std.proofs.Common.{◌≡◌, ℕ, zero, suc, ◌<◌, true, List, [], ◌∷◌, ◌++◌, refl, ap, ◌∙◌, arith}
use Rattle.profile.specs.declared.Field.TheVariants.{TxId}
use Rattle.profile.specs.declared.Version.{Version}
use Rattle.profile.specs.declared.Version.TheVariants.{V02, V08}
use Rattle.profile.specs.Profile.{is_type, in_item}
use Rattle.notes.specs.declared.Notes.{Notes}
use Rattle.notes.specs.Notes.{with_type, may_follow, unsaid, said_by}
use Rattle.engine.specs.Engine.{filed_by}
use Rattle.straight.specs.declared.pieces.Front.{Front}
use Rattle.straight.specs.declared.pieces.Back.{Back}
use Rattle.straight.specs.declared.pieces.Item.{Item}
use Rattle.straight.specs.declared.between.Side.TheVariants.{Creditor, Debtor}
use Rattle.straight.specs.Due.{Due, done, inside, value, close, run, made, Walked, lost, to, walk}
use Rattle.straight.specs.Runs.{tags_at}
use Rattle.straight.specs.Ways.{Leg, tags, holds, Onward, Walks, LegsFit, legs_noted, legs_filed, noting, Gone}
use Rattle.straight.specs.Legs.{ids_legs, type_legs, terms_legs, mandate_legs, scheme_legs, party_legs, agent_legs, last_legs, item_legs, stood, Followed, noted_by, item_noted}
use Rattle.straight.proofs.Ways.{way_made}

-- ---- legs behind legs
walks_join : (ls ks : List Leg) (s t u : Option Bool) (d c e : Due) → Walks s ls d t c → Walks t ks c u e → Walks s (ls ++ ks) d u e
walks_join [] ks s t u d c e f g = rw (f.0, f.1) g
walks_join (tags ts ∷ ls) ks s t u d c e f g = go (walk s ts d) f (λ v b h. walks_join ls ks v t u b c e h g)
  where
    go : (y : Walked) → Onward y (λ v b. Walks v ls b t c) → ((v : Option Bool) (b : Due) → Walks v ls b t c → Walks v (ls ++ ks) b u e) → Onward y (λ v b. Walks v (ls ++ ks) b u e)
    go lost k h = k
    go (to v b) k h = h v b k
walks_join (holds k i a p ∷ ls) ks s t u done c e f g = absurd f
walks_join (holds k i a p ∷ ls) ks s t u (inside sh o) c e f g = absurd f
walks_join (holds k i a p ∷ ls) ks s t u (close n o) c e f g = absurd f
walks_join (holds k i a p ∷ ls) ks s t u (value j h n o) c e f g = (f.0, f.1, walks_join ls ks s t u (close n o) c e f.2 g)

fit_join : (ls ks : List Leg) (x : Notes) → LegsFit ls x → ((y : Notes) → LegsFit ks y) → LegsFit (ls ++ ks) x
fit_join [] ks x f g = g x
fit_join (tags ts ∷ ls) ks x f g = fit_join ls ks x f g
fit_join (holds k i p c ∷ ls) ks x f g = (f.0, fit_join ls ks (noting k i p c x) f.1 g)

-- what is due behind legs that lead on
abbrev due_at : Walked → Due
due_at lost = done
due_at (to s d) = d

abbrev behind : List Leg → Due → Due
behind [] d = d
behind (tags ts ∷ ls) d = behind ls (due_at (walk None ts d))
behind (holds k f a c ∷ ls) done = done
behind (holds k f a c ∷ ls) (inside sh o) = done
behind (holds k f a c ∷ ls) (value j g n o) = behind ls (close n o)
behind (holds k f a c ∷ ls) (close n o) = done

abbrev at_item : Version → Due
at_item v = inside (in_item v) done

abbrev at_tx : Version → Due
at_tx v = behind (ids_legs 0 0) (at_item v)

ids_walk : (v : Version) (s : Option Bool) (i e : ℕ) → Walks s (ids_legs i e) (at_item v) s (at_tx v)
unfolding in_item is_type
ids_walk v s zero e = (refl, refl, (refl, refl))
ids_walk v s (suc i) e = (refl, refl, (refl, refl, (refl, refl)))

abbrev at_amount : Version → Due
at_amount v = behind (type_legs 0 0 0 0 0) (at_tx v)

type_walk : (v : Version) (s : Option Bool) (t a b c i : ℕ) → unsaid s (stood a) ≡ true → Walks s (type_legs t a b c i) (at_tx v) (said_by s (stood a)) (at_amount v)
unfolding in_item is_type
type_walk v s t zero b c i h = rw h (refl, refl, (refl, refl))
type_walk v s t (suc a) b c i h = rw h (refl, refl, (refl, refl, (refl, refl, (refl, refl, (refl, refl)))))

abbrev at_mandate : Version → Due
at_mandate v = behind (terms_legs 0 0 0 0) (at_amount v)

terms_walk : (v : Version) (s : Option Bool) (p c a b : ℕ) → Walks s (terms_legs p c a b) (at_amount v) s (at_mandate v)
unfolding in_item is_type
terms_walk v s p c a b = (refl, refl, (refl, refl, (refl, refl, (refl, refl))))

abbrev at_signed : Version → Due
at_signed v = behind (mandate_legs 0 0) (at_mandate v)

mandate_walk : (v : Version) (s : Option Bool) (p a : ℕ) → Walks s (mandate_legs p a) (at_mandate v) s (at_signed v)
unfolding in_item is_type
mandate_walk v s p a = (refl, refl, (refl, refl, (refl, refl)))

abbrev to_creditor : ℕ → ℕ → List Leg
to_creditor p a = tags (tags_at 13) ∷ scheme_legs p a

abbrev at_creditor : Version → Due
at_creditor v = behind (to_creditor 0 0) (at_signed v)

scheme_walk : (v : Version) (s : Option Bool) (p a : ℕ) → Walks s (to_creditor p a) (at_signed v) s (at_creditor v)
unfolding in_item is_type
scheme_walk v s p a = (refl, refl, (refl, refl, (refl, refl)))

-- from the creditor on, the names of BICs differ by the version
module _ (s : Option Bool) where
  parties-walk : (v : Version) (p q a n b e x : ℕ) → Walks s (party_legs Creditor v p q ++ (agent_legs v a ++ (party_legs Debtor v n b ++ last_legs v e x))) (at_creditor v) s done
  unfolding in_item is_type
  parties-walk V02 p q a n b e zero = (refl, refl, (refl, refl, (refl, refl, (refl, refl, (refl, refl, (refl, refl, (refl, refl)))))))
  parties-walk V08 p q a n b e zero = (refl, refl, (refl, refl, (refl, refl, (refl, refl, (refl, refl, (refl, refl, (refl, refl)))))))
  parties-walk V02 p q a n b e (suc x) = (refl, refl, (refl, refl, (refl, refl, (refl, refl, (refl, refl, (refl, refl, (refl, refl, (refl, refl))))))))
  parties-walk V08 p q a n b e (suc x) = (refl, refl, (refl, refl, (refl, refl, (refl, refl, (refl, refl, (refl, refl, (refl, refl, (refl, refl))))))))

-- ---- the legs, by whether InstrId, the payment type and the remittance text are there
abbrev front_by : ℕ → ℕ → Front → List Leg
front_by i a r =
    ids_legs i r.ends ++ (type_legs r.tx a r.service r.sequence r.listed ++ terms_legs r.amount r.cents r.charge r.collected)

abbrev parties_by : Version → ℕ → Back → List Leg
parties_by v x r = party_legs Creditor v r.creditor r.account ++ (agent_legs v r.agent ++ (party_legs Debtor v r.debtor r.debited ++ last_legs v r.bank x))

abbrev back_by : Version → ℕ → ℕ → Back → List Leg
back_by v x p r = mandate_legs p r.signed ++ (to_creditor r.identifier r.scheme ++ parties_by v x r)

abbrev legs_by : Version → ℕ → ℕ → ℕ → Item → List Leg
legs_by v i a x r = front_by i a r.front ++ back_by v x r.front.at r.back

front_walk : (v : Version) (s : Option Bool) (i a : ℕ) (r : Front) → unsaid s (stood a) ≡ true → Walks s (front_by i a r) (at_item v) (said_by s (stood a)) (at_mandate v)
front_walk v s i a r h =
    let u = said_by s (stood a) in
    let ts = type_legs r.tx a r.service r.sequence r.listed in
    let ks = terms_legs r.amount r.cents r.charge r.collected in
    walks_join (ids_legs i r.ends) (ts ++ ks) s s u (at_item v) (at_tx v) (at_mandate v) (ids_walk v s i r.ends)
    (walks_join ts ks s u u (at_tx v) (at_amount v) (at_mandate v) (type_walk v s r.tx a r.service r.sequence r.listed h)
    (terms_walk v u r.amount r.cents r.charge r.collected))

back_walk : (v : Version) (s : Option Bool) (x p : ℕ) (r : Back) → Walks s (back_by v x p r) (at_mandate v) s done
back_walk v s x p r =
    walks_join (mandate_legs p r.signed) (to_creditor r.identifier r.scheme ++ parties_by v x r) s s s (at_mandate v) (at_signed v) done (mandate_walk v s p r.signed)
    (walks_join (to_creditor r.identifier r.scheme) (parties_by v x r) s s s (at_signed v) (at_creditor v) done (scheme_walk v s r.identifier r.scheme)
    (parties-walk s v r.creditor r.account r.agent r.debtor r.debited r.bank x))

-- a LclInstrm that stands in it is the first one's, or the first
front_fit : (i a : ℕ) (r : Front) (n : Notes) → (0 < a → may_follow n.service r.listed ≡ true) → LegsFit (front_by i a r) n
front_fit zero zero r n h = (tt, (tt, (tt, (tt, (tt, tt)))))
front_fit zero (suc a) r n h = (tt, (tt, (tt, (h (omega arith), (tt, (tt, (tt, (tt, tt))))))))
front_fit (suc i) zero r n h = (tt, (tt, (tt, (tt, (tt, (tt, tt))))))
front_fit (suc i) (suc a) r n h = (tt, (tt, (tt, (tt, (h (omega arith), (tt, (tt, (tt, (tt, tt)))))))))

back_fit : (v : Version) (x p : ℕ) (r : Back) (n : Notes) → LegsFit (back_by v x p r) n
back_fit V02 zero p r n = (tt, (tt, (tt, (tt, (tt, (tt, (tt, (tt, (tt, (tt, tt))))))))))
back_fit V02 (suc x) p r n = (tt, (tt, (tt, (tt, (tt, (tt, (tt, (tt, (tt, (tt, (tt, tt)))))))))))
back_fit V08 zero p r n = (tt, (tt, (tt, (tt, (tt, (tt, (tt, (tt, (tt, (tt, tt))))))))))
back_fit V08 (suc x) p r n = (tt, (tt, (tt, (tt, (tt, (tt, (tt, (tt, (tt, (tt, (tt, tt)))))))))))

-- what the legs note
item_noted_lem : (v : Version) (s : Option Bool) (i a x : ℕ) (r : Item) (n : Notes) (l : List ℕ)
    → (with_type (said_by s (stood a)) (legs_noted (legs_by v i a x r) n) ≡ noted_by s i a x r n) × (legs_filed (legs_by v i a x r) l ≡ filed_by TxId r.front.tx l)
unfolding filed_by
item_noted_lem V02 s zero zero zero r n l = (refl, refl)
item_noted_lem V02 s zero zero (suc x) r n l = (refl, refl)
item_noted_lem V02 s zero (suc a) zero r n l = (refl, refl)
item_noted_lem V02 s zero (suc a) (suc x) r n l = (refl, refl)
item_noted_lem V02 s (suc i) zero zero r n l = (refl, refl)
item_noted_lem V02 s (suc i) zero (suc x) r n l = (refl, refl)
item_noted_lem V02 s (suc i) (suc a) zero r n l = (refl, refl)
item_noted_lem V02 s (suc i) (suc a) (suc x) r n l = (refl, refl)
item_noted_lem V08 s zero zero zero r n l = (refl, refl)
item_noted_lem V08 s zero zero (suc x) r n l = (refl, refl)
item_noted_lem V08 s zero (suc a) zero r n l = (refl, refl)
item_noted_lem V08 s zero (suc a) (suc x) r n l = (refl, refl)
item_noted_lem V08 s (suc i) zero zero r n l = (refl, refl)
item_noted_lem V08 s (suc i) zero (suc x) r n l = (refl, refl)
item_noted_lem V08 s (suc i) (suc a) zero r n l = (refl, refl)
item_noted_lem V08 s (suc i) (suc a) (suc x) r n l = (refl, refl)

pub item_made : (m : List ℕ) (at : ℕ) (v : Version) (s : Option Bool) (b : Option ℕ) (r : Item) (n : Notes) (l : List ℕ) → Gone m at (item_legs v r) r.back.at → Followed s b r.front → n.typed ≡ s → n.service ≡ b
    → made (run (inside (in_item v) done) m at) n l ≡ made (run done m r.back.at) (item_noted s r.front.first r.back.text r n) (filed_by TxId r.front.tx l)
item_made m at v s b r n l g f e d =
    let i = r.front.first in
    let a = r.front.level in
    let x = r.back.text in
    let u = said_by s (stood a) in
    let w : Walks s (item_legs v r) (at_item v) u done =
    walks_join (front_by i a r.front) (back_by v x r.front.at r.back) s u u (at_item v) (at_mandate v) done (front_walk v s i a r.front f.new) (back_walk v u x r.front.at r.back) in
    let h : LegsFit (item_legs v r) n =
    fit_join (front_by i a r.front) (back_by v x r.front.at r.back) n (front_fit i a r.front n (λ k. rw d (f.fits k))) (back_fit v x r.front.at r.back) in
    let z = item_noted_lem v s i a x r n l in
    ap (λ (k : Option Bool). made (run (at_item v) m at) (with_type k n) l) e ∙ way_made m (item_legs v r) at r.back.at s u (at_item v) done n l g.way w h
    ∙ ap (λ (k : Notes). made (run done m r.back.at) k (legs_filed (item_legs v r) l)) z.0 ∙ ap (made (run done m r.back.at) (item_noted s i x r n)) z.1

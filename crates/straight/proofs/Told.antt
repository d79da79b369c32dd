-- An item that the quick reader told is what the definition makes of it.
use Rattle.std.proofs.Common.{◌≡◌, ℕ, ◌+◌, ◌≤◌, List, length, refl, ap, ◌∙◌, arith}
use Rattle.money.specs.declared.Range.TheVariants as range
use Rattle.money.specs.Amount.{most}
use Rattle.profile.specs.declared.Field.TheVariants.{TxId}
use Rattle.profile.specs.declared.Version.{Version}
use Rattle.profile.specs.Profile.{in_item}
use Rattle.items.specs.Sums.{most_sum}
use Rattle.reading.specs.Trace.{trace}
use Rattle.reading.specs.Noted.{Reading, on, Ended}
use Rattle.notes.specs.declared.Notes.{Notes}
use Rattle.notes.specs.Steps.{Good, Room}
use Rattle.notes.proofs.Notings.{here}
use Rattle.engine.specs.Engine.{filed_by}
use Rattle.straight.specs.declared.pieces.Front.{Front}
use Rattle.straight.specs.declared.pieces.Back.{Back}
use Rattle.straight.specs.declared.pieces.Item.{Item}
use Rattle.straight.specs.Exact.{Makes}
use Rattle.straight.specs.Ways.{Gone}
use Rattle.straight.specs.Legs.{item_legs, FrontWithin, BackWithin, Followed, item_noted}
use Rattle.straight.proofs.Elements.{made_makes}
use Rattle.straight.proofs.WholeItem.{item_made}

abbrev Going : Type 0
Going = Reading (Ended Notes)

-- there is room for an item's cents
pub cents_fit : (m : List ℕ) (p : ℕ) (x : Notes) (c : ℕ) → Good m (here p x) → Room 1 x → c ≤ most range.Item → x.sum + c ≤ most_sum
cents_fit m p x c g r h = omega (arith, g.counted, r)

-- within a shorter message, within a longer one
pub front_within : (n k : ℕ) (r : Front) → FrontWithin n r → n ≤ k → FrontWithin k r
front_within n k r h g = record {
  end = omega (arith, h.end);
  instr = omega (arith, h.instr);
  ends = omega (arith, h.ends);
  tx = omega (arith, h.tx);
  level = omega (arith, h.level);
  service = omega (arith, h.service);
  sequence = omega (arith, h.sequence);
  listed = h.listed;
  amount = omega (arith, h.amount);
  cents = h.cents;
  charge = omega (arith, h.charge);
  collected = omega (arith, h.collected);
}

pub back_within : (n k : ℕ) (r : Back) → BackWithin n r → n ≤ k → BackWithin k r
back_within n k r h g = record {
  end = omega (arith, h.end);
  signed = omega (arith, h.signed);
  identifier = omega (arith, h.identifier);
  scheme = omega (arith, h.scheme);
  creditor = omega (arith, h.creditor);
  account = omega (arith, h.account);
  agent = omega (arith, h.agent);
  debtor = omega (arith, h.debtor);
  debited = omega (arith, h.debited);
  bank = omega (arith, h.bank);
  text = omega (arith, h.text);
}

module _ (m : List ℕ) (p : ℕ) (x : Notes) (v : Version) (r : Item) (g : Good m (here p x)) where
  pub held_makes : BackWithin (length m) r.back → Gone m p (item_legs v r) r.back.at → Followed x.typed x.service r.front
      → (s : Ended Notes) → s ≡ here r.back.at (item_noted x.typed r.front.first r.back.text r x) → (a : Going) → a ≡ on s
      → (l k : List ℕ) → k ≡ filed_by TxId r.front.tx l → Makes m (trace (in_item v) m p) x l a k
  held_makes b f w s e a i l k j =
      let t = item_made m p v x.typed x.service r x l f w refl refl in
      rw j (made_makes m p x g (in_item v) r.back.at _ l (filed_by TxId r.front.tx l) b.end refl t a (i ∙ ap on e))

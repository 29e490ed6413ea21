-- What was recovered is what decode finds, and its items have their lengths.
use Rattle.std.proofs.Common.{◌≡◌, ℕ, suc, ◌≤◌, List, length, ◌∙◌, arith}
use Rattle.std.proofs.lemmas.List.{length-map}
use Rattle.fields.specs.Meaning.{Meaning}
use Rattle.fields.specs.Elements.{Elem, elem, elems}
use Rattle.skew.specs.Polynomials.{coefficients}
use Rattle.skew.proofs.Filling.{short}
use Rattle.codes.specs.declared.shape.Code.{Code}
use Rattle.hints.specs.Splittings.{Given}
use Rattle.recovery.specs.declared.outcome.Recovery.{Recovery}
use Rattle.recovery.specs.Reach.{Recovered}
use Rattle.station.specs.Positions.{item_of, item_size}
use Rattle.station.specs.Rules.{Solves}

module _ (m : Meaning) (c : Code) (gs : List (Given (Elem m))) where
  pub solves : (w : List ℕ) (r : Recovery) → Recovered m c gs (elems m w) r → Solves m c gs w r
  solves w r k = record {
    reach = k.reach;
    message = (length-map (coefficients r.message) (elem m) ∙ k.message.0, k.message.1);
    splitting = k.splitting;
    weight = k.weight;
    least = k.least;
    codes = k.codes;
    sizes = k.sizes;
  }

  -- Each item has its length.
  pub length_item : (w : List (Elem m)) (r : Recovery) (i : ℕ) → i ≤ 4 → Recovered m c gs w r → length (item_of r i) ≡ item_size c i
  length_item w r ℕ.zero h k = k.message.0
  length_item w r (suc ℕ.zero) h k = k.sizes.0
  length_item w r (suc (suc ℕ.zero)) h k = k.sizes.1
  length_item w r (suc (suc (suc ℕ.zero))) h k = k.sizes.2
  length_item w r (suc (suc (suc (suc ℕ.zero)))) h k = k.sizes.3
  length_item w r (suc (suc (suc (suc (suc i))))) h k = absurd (omega (arith, h))

  -- There is room for each in an answer.
  pub item_fits : (w : List (Elem m)) (r : Recovery) (i : ℕ) → i ≤ 4 → Recovered m c gs w r → length (item_of r i) ≤ 64
  item_fits w r ℕ.zero h k = omega (arith, k.message.0, c.most, short c.course)
  item_fits w r (suc ℕ.zero) h k = omega (arith, short r.codeword)
  item_fits w r (suc (suc ℕ.zero)) h k = omega (arith, short r.parts.full)
  item_fits w r (suc (suc (suc ℕ.zero))) h k = omega (arith, short r.parts.row)
  item_fits w r (suc (suc (suc (suc ℕ.zero)))) h k = omega (arith, short r.parts.column)
  item_fits w r (suc (suc (suc (suc (suc i))))) h k = absurd (omega (arith, h))

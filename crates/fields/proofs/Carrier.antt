-- The elements of a lawful kind are a field with an automorphism, and what a kind answers, told in elements. What is said of codes and
-- elements alone is in `Carried`, and comes along under the name of this file.
use Rattle.std.specs.Prelude.{◌≡◌, ℕ, suc, List, [], ◌∷◌, slice_index, slice_index_or}
use Rattle.std.proofs.Math.Path.{refl, ap}
use Rattle.fields.specs.Field.{mirror}
use Rattle.fields.specs.Field as field
use Rattle.fields.specs.Mirror.{mirrored}
use Rattle.fields.specs.Meaning.{Meaning, Laws, Code, clip}
use Rattle.fields.specs.Elements.{element, elem, elems, reciprocal_of, ops}
use Rattle.fields.specs.Carried.{carried, carried_laws}
use Rattle.fields.specs.Carried
pub use Rattle.fields.specs.Carried.{code_elem, same_code, elem_code, named, answers, elems_codes, clips, zero_code, clip_code, counts, is_code, sum_counts, product_counts, opposite_counts, twist_counts, untwist_counts, same_elem, zero_counts, one_counts, reciprocal_code, reciprocal_counts}

module _ (m : Meaning) where
  -- What a kind answers.
  pub sums : {r : ℕ} (a b : ℕ) → r ≡ m.sum (clip m a) (clip m b) → elem m r ≡ (ops m).add (elem m a) (elem m b)
  unfolding element ops
  sums a b e = ap (elem m) e

  pub multiplies : {r : ℕ} (a b : ℕ) → r ≡ m.product (clip m a) (clip m b) → elem m r ≡ (ops m).mul (elem m a) (elem m b)
  unfolding element ops
  multiplies a b e = ap (elem m) e

  pub negates : {r : ℕ} (a : ℕ) → r ≡ m.opposite (clip m a) → elem m r ≡ (ops m).neg (elem m a)
  unfolding element ops
  negates a e = ap (elem m) e

  pub twists : {r : ℕ} (a : ℕ) → r ≡ m.twist (clip m a) → elem m r ≡ (ops m).twist (elem m a)
  unfolding element ops
  twists a e = ap (elem m) e

  pub untwists : {r : ℕ} (a : ℕ) → r ≡ m.untwist (clip m a) → elem m r ≡ (ops m).untwist (elem m a)
  unfolding element ops
  untwists a e = ap (elem m) e

  pub inverts : {r : ℕ} (a : ℕ) → r ≡ reciprocal_of m (clip m a) → elem m r ≡ (ops m).inv (elem m a)
  unfolding element ops
  inverts a e = ap (elem m) e

  -- The mirror of a kind has the same elements, and the mirrored operations.
  pub mirror_is : ops (mirrored m) ≡ mirror (ops m)
  unfolding ops
  mirror_is = refl

  pub zero_is : elem m 0 ≡ (ops m).zero
  unfolding ops
  zero_is = refl

  pub one_is : elem m 1 ≡ (ops m).one
  unfolding ops
  one_is = refl

  pub elem_at : (xs : List ℕ) (i : ℕ) → elem m (slice_index xs i) ≡ slice_index_or (elems m xs) i (ops m).zero
  elem_at [] i = zero_is
  elem_at (x ∷ xs) ℕ.zero = refl
  elem_at (x ∷ xs) (suc i) = elem_at xs i

module _ {m : Meaning} (l : Laws m) where
  -- Sums and products of codes, told in elements; and codes are equal where their elements are.
  pub sum_elem : (a b : ℕ) → Code m a → Code m b → elem m (m.sum a b) ≡ (ops m).add (elem m a) (elem m b)
  unfolding ops carried
  sum_elem = Carried.sum_elem l

  pub product_elem : (a b : ℕ) → Code m a → Code m b → elem m (m.product a b) ≡ (ops m).mul (elem m a) (elem m b)
  unfolding ops carried
  product_elem = Carried.product_elem l

  pub ops_laws : field.Laws (ops m)
  unfolding ops carried
  ops_laws = carried_laws l

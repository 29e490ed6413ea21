-- What a kind of field means, and the laws that every kind owes.
--
--   Meaning         the number, Q (size), m (width) and the operations of a kind, from codes to codes
--   Code m a        a is a code: a number below Q
--   clip m a        what a counts as: itself where it is a code, else 0
--   inverted m a    the inverse of a, absent where a counts as 0
--   basis_at m j    the basis element b_j for j from 1 to m, else 0
--   Fixed m d       d is a code that twist leaves as it is
--   combined m ds bs     the sum of the products d × b, place by place, with the sum and product of the kind
--   digit_row m a   the m digits of a, and zeros after them: eight numbers
--   Laws m          what a kind has to keep
use Rattle.std.specs.Prelude.{◌≡◌, ℕ, ◌-◌, ◌<◌, ◌≤◌, cond, List, [], ◌∷◌, ◌++◌, length, replicate, Some, None, Option, nat_lt, slice_index}
use Rattle.std.specs.List.{AllByRecursion}

pub record Meaning : Type 0 where
  pub number : ℕ
  pub size : ℕ
  pub sum : ℕ → ℕ → ℕ
  pub opposite : ℕ → ℕ
  pub product : ℕ → ℕ → ℕ
  pub inverse : ℕ → ℕ
  pub twist : ℕ → ℕ
  pub untwist : ℕ → ℕ
  pub width : ℕ
  pub basis : List ℕ
  pub digits : ℕ → List ℕ

-- The sum of the products d × b, place by place.
abbrev pub combination : (ℕ → ℕ → ℕ) → (ℕ → ℕ → ℕ) → List ℕ → List ℕ → ℕ
combination sum product [] bs = 0
combination sum product (d ∷ ds) [] = 0
combination sum product (d ∷ ds) (b ∷ bs) = sum (product d b) (combination sum product ds bs)

module _ (m : Meaning) where
  abbrev pub Code : ℕ → Type 0
  Code a = a < m.size

  abbrev pub clip : ℕ → ℕ
  clip a = cond (nat_lt a m.size) a 0

  abbrev pub inverted : ℕ → Option ℕ
  inverted a = cond (nat_lt 0 (clip a)) (Some (m.inverse (clip a))) None

  abbrev pub basis_at : ℕ → ℕ
  basis_at j = slice_index (0 ∷ m.basis) j

  abbrev pub Fixed : ℕ → Type 0
  Fixed d = Code d × (m.twist d ≡ d)

  abbrev pub combined : List ℕ → List ℕ → ℕ
  combined = combination m.sum m.product

  abbrev pub digit_row : ℕ → List ℕ
  digit_row a = m.digits (clip a) ++ replicate (8 - m.width) 0

pub record Laws (m : Meaning) : Type 0 where
  -- ranges
  pub number_byte : m.number < 256
  pub size_low : 2 ≤ m.size
  pub size_high : m.size ≤ 256
  pub width_low : 1 ≤ m.width
  pub width_high : m.width ≤ 8
  -- operations on codes give codes
  pub sum_code : (a b : ℕ) → Code m a → Code m b → Code m (m.sum a b)
  pub opposite_code : (a : ℕ) → Code m a → Code m (m.opposite a)
  pub product_code : (a b : ℕ) → Code m a → Code m b → Code m (m.product a b)
  pub inverse_code : (a : ℕ) → Code m a → Code m (m.inverse a)
  pub twist_code : (a : ℕ) → Code m a → Code m (m.twist a)
  pub untwist_code : (a : ℕ) → Code m a → Code m (m.untwist a)
  -- sum
  pub sum_comm : (a b : ℕ) → Code m a → Code m b → m.sum a b ≡ m.sum b a
  pub sum_assoc : (a b c : ℕ) → Code m a → Code m b → Code m c → m.sum (m.sum a b) c ≡ m.sum a (m.sum b c)
  pub sum_zero : (a : ℕ) → Code m a → m.sum a 0 ≡ a
  pub sum_opposite : (a : ℕ) → Code m a → m.sum a (m.opposite a) ≡ 0
  -- product; 1 differs from 0 since they are different codes
  pub product_comm : (a b : ℕ) → Code m a → Code m b → m.product a b ≡ m.product b a
  pub product_assoc : (a b c : ℕ) → Code m a → Code m b → Code m c → m.product (m.product a b) c ≡ m.product a (m.product b c)
  pub product_one : (a : ℕ) → Code m a → m.product a 1 ≡ a
  pub product_inverse : (a : ℕ) → Code m a → 0 < a → m.product a (m.inverse a) ≡ 1
  pub product_sum : (a b c : ℕ) → Code m a → Code m b → Code m c → m.product a (m.sum b c) ≡ m.sum (m.product a b) (m.product a c)
  -- twist
  pub twist_sum : (a b : ℕ) → Code m a → Code m b → m.twist (m.sum a b) ≡ m.sum (m.twist a) (m.twist b)
  pub twist_product : (a b : ℕ) → Code m a → Code m b → m.twist (m.product a b) ≡ m.product (m.twist a) (m.twist b)
  pub twist_untwist : (a : ℕ) → Code m a → m.twist (m.untwist a) ≡ a
  pub untwist_twist : (a : ℕ) → Code m a → m.untwist (m.twist a) ≡ a
  -- digits: fixed, they combine the basis to their element, and no others do
  pub basis_length : length m.basis ≡ m.width
  pub basis_codes : AllByRecursion (Code m) m.basis
  pub digits_length : (a : ℕ) → Code m a → length (m.digits a) ≡ m.width
  pub digits_fixed : (a : ℕ) → Code m a → AllByRecursion (Fixed m) (m.digits a)
  pub digits_give : (a : ℕ) → Code m a → combined m (m.digits a) m.basis ≡ a
  pub digits_only : (a : ℕ) (ds : List ℕ) → Code m a → length ds ≡ m.width → AllByRecursion (Fixed m) ds → combined m ds m.basis ≡ a → ds ≡ m.digits a

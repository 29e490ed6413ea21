-- The mirrored field, the points of the dual code, and the syndromes.
--
-- A term of the dual's sums times a term of the code's is one term of the code's sums, untwisted. So the syndromes of a row of values
-- are sums that dual locators make zero, but for one at most: each syndrome that is zero takes a coefficient off the polynomial.
--
--   power o a i b     (b twisted i times) × N(i, a)
use Rattle.std.proofs.Common.{◌≡◌, ℕ, suc, ◌+◌ as ◌+ℕ◌, ◌-◌, ◌<◌, ◌≤◌, ◌≢◌, ◌↔◌, List, [], ◌∷◌, ◌++◌, map, length, take, drop, sym, refl, ap, ◌∙◌, subst, arith, length-drop}
use Rattle.std.proofs.Math.Path.{fun_ext}
use Rattle.std.proofs.lemmas.List.{length-map}
use Rattle.fields.specs.Field.{Ops, Laws, mirror, comb}
use Rattle.fields.specs.Twists
use Rattle.fields.specs.Basics
use Rattle.fields.specs.Inverses
use Rattle.fields.specs.Basics.{ring}
use Rattle.skew.specs.Values.{twisted, norm, series}
use Rattle.skew.specs.Roots.{Block, block, locator_count, points}
use Rattle.skew.specs.Products.{coef}
use Rattle.skew.specs.Interpolation.{values}
use Rattle.skew.proofs.Values.{term_step}
use Rattle.skew.proofs.Coefficients.{twisted_zero}
use Rattle.skew.proofs.Sharpness
use Rattle.skew.proofs.Sharpness.{Sharp}
use Rattle.codes.specs.Duals.{Codeword, powers, DualLocators, dual_points, dual_blocks, syndrome, SyndromesTell}
use Rattle.codes.proofs.Combs
use Rattle.codes.proofs.Interpolants
use Rattle.codes.proofs.Locators

-- A term of a value.
abbrev power : {F : Type 0} (o : Ops F) → F → ℕ → F → F
power o a i b = o.mul (twisted o i b) (norm o i a)

module _ {F : Type 0} {o : Ops F} (l : Laws o) where
  open o use {zero, one, add as ◌+◌, mul as ◌*◌, twist, untwist}

  infixl 65 ◌+◌
  infixl 70 ◌*◌
  -- To untwist keeps sums.
  untwist_add : (x y : F) → untwist (x + y) ≡ untwist x + untwist y
  untwist_add x y =
      Twists.twist_inj l _ _ (l.twist_untwist (x + y) ∙ sym (Twists.twist_add l (untwist x) (untwist y) ∙ ap (λ w. w + twist (untwist y)) (l.twist_untwist x) ∙ ap (λ w. x + w) (l.twist_untwist y)))

  -- And products.
  pub untwist_mul : (x y : F) → untwist (x * y) ≡ untwist x * untwist y
  untwist_mul x y =
      Twists.twist_inj l _ _ (l.twist_untwist (x * y) ∙ sym (Twists.twist_mul l (untwist x) (untwist y) ∙ ap (λ w. w * twist (untwist y)) (l.twist_untwist x) ∙ ap (λ w. x * w) (l.twist_untwist y)))

  -- So the mirror is a field with an automorphism.
  pub mirror_laws : Laws (mirror o)
  mirror_laws = record {
    same = l.same;
    add_comm = l.add_comm;
    add_assoc = l.add_assoc;
    add_zero = l.add_zero;
    add_neg = l.add_neg;
    mul_comm = l.mul_comm;
    mul_assoc = l.mul_assoc;
    mul_one = l.mul_one;
    one_zero = l.one_zero;
    mul_inv = l.mul_inv;
    mul_add = l.mul_add;
    twist_add = untwist_add;
    twist_mul = untwist_mul;
    twist_untwist = l.untwist_twist;
    untwist_twist = l.twist_untwist;
  }

  -- To untwist j times keeps sums.
  back_add : (j : ℕ) (x y : F) → twisted (mirror o) j (x + y) ≡ twisted (mirror o) j x + twisted (mirror o) j y
  back_add ℕ.zero x y = refl
  back_add (suc j) x y = ap untwist (back_add j x y) ∙ untwist_add _ _

  -- It takes zero to zero.
  pub back_zero : (j : ℕ) → twisted (mirror o) j zero ≡ zero
  back_zero j = twisted_zero mirror_laws j

  -- And nothing else.
  back_nonzero : (j : ℕ) (x : F) → x ≢ zero → twisted (mirror o) j x ≢ zero
  back_nonzero ℕ.zero x n = n
  back_nonzero (suc j) x n = Twists.twist_nonzero mirror_laws _ (back_nonzero j x n)

  -- A term of the dual times a term of the code.
  exchange : (a x b : F) (j i : ℕ) → power (mirror o) (untwist a) j x * power o a i b ≡ twisted (mirror o) j (x * power o a (i +ℕ j) b)
  exchange a x b ℕ.zero i = ap (λ w. w * power o a i b) (Basics.mul_one l x) ∙ ap (λ n. x * power o a n b) (let k : i ≡ i +ℕ 0 = omega arith in k)
  exchange a x b (suc j) i =
      ap (λ w. w * power o a i b) (sym (term_step mirror_laws (untwist a) x j)) ∙ gather (power (mirror o) (untwist a) j x) (power o a i b)
      ∙ ap (λ w. untwist (power (mirror o) (untwist a) j x * w)) (term_step l a b i)
      ∙ ap untwist (exchange a x b j (suc i) ∙ ap (λ n. twisted (mirror o) j (x * power o a n b)) (let k : suc i +ℕ j ≡ i +ℕ suc j = omega arith in k))
    where
      regroup : (p q r : F) → p * (q * r) ≡ p * r * q
      regroup p q r = simp (ring, l)

      gather : (y z : F) → untwist y * untwist a * z ≡ untwist (y * (twist z * a))
      gather y z =
          sym (ap untwist (regroup y (twist z) a) ∙ untwist_mul (y * a) (twist z) ∙ ap (λ w. untwist (y * a) * w) (l.untwist_twist z) ∙ ap (λ w. w * z) (untwist_mul y a))

  -- The dual points of two parts.
  duals_append : (pts qts : List (F × F)) (alpha : List F) → length pts ≤ length alpha
      → dual_points o (pts ++ qts) alpha ≡ dual_points o pts (take (length pts) alpha) ++ dual_points o qts (drop (length pts) alpha)
  duals_append [] qts alpha k = refl
  duals_append (t ∷ pts) qts [] k = absurd (omega arith)
  duals_append (t ∷ pts) qts (x ∷ alpha) k = ap (λ ws. (untwist t.0, x) ∷ ws) (duals_append pts qts alpha (omega arith))

  -- Of one block.
  duals_block : (a : F) (bs alpha : List F) → length bs ≤ length alpha → dual_points o (map (λ b. (a, b)) bs) (take (length bs) alpha) ≡ map (λ x. (untwist a, x)) (take (length bs) alpha)
  duals_block a [] alpha k = refl
  duals_block a (b ∷ bs) [] k = absurd (omega arith)
  duals_block a (b ∷ bs) (x ∷ alpha) k = ap (λ ws. (untwist a, x) ∷ ws) (duals_block a bs alpha (omega arith))

  -- The dual blocks have the dual points.
  pub points_dual : (blocks : List (Block F)) (alpha : List F) → length alpha ≡ locator_count blocks → points (dual_blocks o blocks alpha) ≡ dual_points o (points blocks) alpha
  points_dual [] alpha len = refl
  points_dual (block a bs ∷ blocks) alpha len =
      ap (λ ws. map (λ x. (untwist a, x)) (take (length bs) alpha) ++ ws) (points_dual blocks (drop (length bs) alpha) (omega (arith, length-drop (length bs) alpha)))
      ∙ ap (λ ws. ws ++ dual_points o (points blocks) (drop (length bs) alpha)) (sym (duals_block a bs alpha (omega arith)))
      ∙ sym (subst (λ n. dual_points o (map (λ b. (a, b)) bs ++ points blocks) alpha ≡ dual_points o (map (λ b. (a, b)) bs) (take n alpha) ++ dual_points o (points blocks) (drop n alpha)) lb
      (duals_append (map (λ b. (a, b)) bs) (points blocks) alpha (omega (arith, lb))))
    where
      lb : length (map {B = F × F} (λ b. (a, b)) bs) ≡ length bs
      lb = length-map {B = F × F} bs (λ b. (a, b))

  -- There are as many as places.
  pub length_duals : (pts : List (F × F)) (alpha : List F) → length alpha ≡ length pts → length (dual_points o pts alpha) ≡ length pts
  length_duals [] alpha len = refl
  length_duals (t ∷ pts) [] len = absurd (omega arith)
  length_duals (t ∷ pts) (x ∷ alpha) len = ap suc (length_duals pts alpha (omega arith))

  -- A sum of such products over the places.
  pub exchange_sum : (pts : List (F × F)) (alpha : List F) (j i : ℕ) → length alpha ≡ length pts
      → comb o (powers (mirror o) j (dual_points o pts alpha)) (powers o i pts) ≡ twisted (mirror o) j (comb o alpha (powers o (i +ℕ j) pts))
  exchange_sum [] [] j i len = sym (back_zero j)
  exchange_sum [] (x ∷ alpha) j i len = absurd (omega arith)
  exchange_sum (t ∷ pts) [] j i len = absurd (omega arith)
  exchange_sum (t ∷ pts) (x ∷ alpha) j i len =
      ap (λ w. w + comb o (powers (mirror o) j (dual_points o pts alpha)) (powers o i pts)) (exchange t.0 x t.1 j i)
      ∙ ap (λ w. twisted (mirror o) j (x * power o t.0 (i +ℕ j) t.1) + w) (exchange_sum pts alpha j i (omega arith))
      ∙ sym (back_add j _ _)

  -- A syndrome of the row of values of f, coefficient by coefficient.
  syndrome_values : (pts : List (F × F)) (alpha f : List F) (j : ℕ) → length alpha ≡ length pts
      → syndrome o pts alpha (values o f pts) j ≡ series o (λ i. twisted (mirror o) j (comb o alpha (powers o (i +ℕ j) pts))) f
  syndrome_values pts alpha f j len =
      Combs.comb_comm l (values o f pts) (powers (mirror o) j (dual_points o pts alpha)) ∙ Combs.comb_values l (powers (mirror o) j (dual_points o pts alpha)) f pts
      ∙ ap (λ u. series o u f) (fun_ext (λ i. exchange_sum pts alpha j i len))

  -- Every syndrome that is zero takes a coefficient off.
  descend : (pts : List (F × F)) (alpha w : List F) → Sharp o pts → DualLocators o pts alpha → length w ≡ length pts
      → (j c : ℕ) → j +ℕ c ≡ length pts → ((i : ℕ) → i < j → syndrome o pts alpha w i ≡ zero) → Codeword o pts c w
  descend pts alpha w h d lw ℕ.zero c e s = let f = Interpolants.interpolated l pts w h lw in Interpolants.padded l pts f.0 w c (omega (arith, f.1)) f.2
  descend pts alpha w h d lw (suc j) c e s = step_down (descend pts alpha w h d lw j (suc c) (omega arith) (λ i k. s i (omega arith)))
    where
      step_down : Codeword o pts (suc c) w → Codeword o pts c w
      step_down r = Interpolants.shorter l pts w r.0 c r.1 top r.2
        where
          null : syndrome o pts alpha (values o r.0 pts) j ≡ zero
          null = ap (λ ws. syndrome o pts alpha ws j) r.2 ∙ s j (omega arith)

          nonzero : twisted (mirror o) j (comb o alpha (powers o (c +ℕ j) pts)) ≢ zero
          nonzero = back_nonzero j _ (Locators.moment_nonzero l pts alpha (c +ℕ j) h (omega arith) d)

          top : coef o r.0 c ≡ zero
          top =
              Inverses.left_zero l (coef o r.0 c) _ nonzero
              (sym (Combs.series_top l (λ i. twisted (mirror o) j (comb o alpha (powers o (i +ℕ j) pts))) r.0 c (omega (arith, r.1))
              (λ i k. ap (twisted (mirror o) j) (d.null (i +ℕ j) (omega arith)) ∙ back_zero j))
              ∙ sym (syndrome_values pts alpha r.0 j d.size) ∙ null)

  -- The first n - k syndromes of a codeword are zero.
  pub syndrome_zero : (pts : List (F × F)) (alpha w : List F) (k j : ℕ) → DualLocators o pts alpha → j +ℕ k < length pts → Codeword o pts k w → syndrome o pts alpha w j ≡ zero
  syndrome_zero pts alpha w k j d e r =
      ap (λ ws. syndrome o pts alpha ws j) (sym r.2) ∙ syndrome_values pts alpha r.0 j d.size
      ∙ Combs.series_zero l (λ i. twisted (mirror o) j (comb o alpha (powers o (i +ℕ j) pts))) r.0
      (λ i m. ap (twisted (mirror o) j) (d.null (i +ℕ j) (omega (arith, r.1))) ∙ back_zero j)

  -- And a word is a codeword where they are.
  pub points_tell : (pts : List (F × F)) (alpha : List F) (k : ℕ) (w : List F) → Sharp o pts → DualLocators o pts alpha → k ≤ length pts → length w ≡ length pts
      → ((j : ℕ) → j +ℕ k < length pts → syndrome o pts alpha w j ≡ zero) ↔ Codeword o pts k w
  points_tell pts alpha k w h d lk lw =
      ((λ s. descend pts alpha w h d lw (length pts - k) k (omega arith) (λ i m. s i (omega arith))), (λ r j m. syndrome_zero pts alpha w k j d m r))

  -- The same of lawful blocks.
  pub syndromes_tell : SyndromesTell o
  syndromes_tell blocks alpha k w h d lk lw =
      subst (λ n. ((j : ℕ) → j +ℕ k < n → syndrome o (points blocks) alpha w j ≡ zero) ↔ Codeword o (points blocks) k w) (Sharpness.length_points l blocks)
      (points_tell (points blocks) alpha k w (Sharpness.sharp_lawful l blocks h) d (omega (arith, Sharpness.length_points l blocks)) (lw ∙ sym (Sharpness.length_points l blocks)))

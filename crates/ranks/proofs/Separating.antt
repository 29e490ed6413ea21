-- Values of a polynomial that few elements span belong to the zero polynomial: the minimum distance.
--
--   together spans          how many elements the lists have together
--   SpannedBy spans word   in each block the symbols are spanned by the block's list
--   Within f blocks spans   in each block the values of f are spanned by the block's list
--   flat blocks spans       the elements of the lists, each with its block's parameter
--   minus f g               f less g
use Rattle.std.proofs.Common.{◌≡◌, ℕ, suc, ◌+◌ as ◌+ℕ◌, ◌≤◌, List, [], ◌∷◌, ◌++◌, map, length, sym, refl, ap, ◌∙◌, subst, inl, inr, arith, length-append}
use Rattle.std.proofs.lemmas.List.{length-map}
use Rattle.std.proofs.lemmas.Bool.{cases_lt}
use Rattle.std.specs.List.{AllByRecursion}
use Rattle.fields.specs.Field.{Ops, Laws, Zero, plus, scale}
use Rattle.fields.specs.Inverses
use Rattle.fields.specs.Basics
use Rattle.fields.specs.Basics.{ring}
use Rattle.fields.specs.Rows
use Rattle.skew.specs.Values.{step, eval, value}
use Rattle.skew.specs.Products.{coef}
use Rattle.skew.specs.Roots.{Block, block, locator_count, points, Lawful}
use Rattle.skew.proofs.Evaluation
use Rattle.skew.proofs.Everywhere.{all_append, all_left, all_right, all_map}
use Rattle.skew.proofs.Multiplication
use Rattle.skew.proofs.Coefficients
use Rattle.skew.proofs.Multiplication.{times}
use Rattle.skew.proofs.RootCount
use Rattle.skew.proofs.Sums
use Rattle.skew.proofs.Sums.{cons_path}
use Rattle.ranks.specs.Ranks.{Spanned, Weighs}
use Rattle.ranks.specs.Distance.{codeword, difference, MinimumDistance}
use Rattle.ranks.proofs.Killing
use Rattle.ranks.proofs.Bases

abbrev pub together : {F : Type 0} → List (List F) → ℕ
together [] = 0
together (es ∷ rest) = length es +ℕ together rest

module _ {F : Type 0} {o : Ops F} (l : Laws o) where
  open o use {zero, one, add as ◌+◌, mul as ◌*◌, neg}

  infixl 65 ◌+◌
  infixl 70 ◌*◌
  abbrev SpannedBy : List (List F) → List (List F) → Type 0
  SpannedBy [] [] = Unit {0}
  SpannedBy [] (xs ∷ word) = ⊥
  SpannedBy (es ∷ spans) [] = ⊥
  SpannedBy (es ∷ spans) (xs ∷ word) = AllByRecursion (Spanned o es) xs × SpannedBy spans word

  abbrev pub Within : List F → List (Block F) → List (List F) → Type 0
  Within f [] [] = Unit {0}
  Within f [] (es ∷ spans) = ⊥
  Within f (block a bs ∷ blocks) [] = ⊥
  Within f (block a bs ∷ blocks) (es ∷ spans) = AllByRecursion (λ b. Spanned o es (eval o a f b)) bs × Within f blocks spans

  abbrev flat : List (Block F) → List (List F) → List (F × F)
  flat [] spans = []
  flat (block a bs ∷ blocks) [] = []
  flat (block a bs ∷ blocks) (es ∷ spans) = Killing.paired l a es ++ flat blocks spans

  -- A word of weight t is spanned, block by block, by t elements in all.
  weight_spans : (word : List (List F)) (t : ℕ) → Weighs o word t → (spans : List (List F)) × (together spans ≡ t) × SpannedBy spans word
  weight_spans [] t w = ([], sym w, tt)
  weight_spans (xs ∷ word) t w =
      let here = Bases.rank_spans l xs w.0 w.1 in
      let there = weight_spans word w.2 w.3 in
      (here.0 ∷ there.0, omega (arith, here.1, there.1, w.4), (here.2, there.2))

  -- What spans a codeword spans the values.
  within : (f : List F) (blocks : List (Block F)) (spans : List (List F)) → SpannedBy spans (codeword o f blocks) → Within f blocks spans
  within f [] [] h = tt
  within f [] (es ∷ spans) h = absurd h
  within f (block a bs ∷ blocks) [] h = absurd h
  within f (block a bs ∷ blocks) (es ∷ spans) h = (
    subst (λ v. AllByRecursion (λ b. Spanned o es (v a f b)) bs) (sym (Evaluation.both_values l)) (all_map (Spanned o es) (value o a f) bs h.0),
    within f blocks spans h.1,
  )

  -- There are as many points as elements.
  length_flat : (f : List F) (blocks : List (Block F)) (spans : List (List F)) → Within f blocks spans → length (flat blocks spans) ≡ together spans
  length_flat f [] [] h = refl
  length_flat f [] (es ∷ spans) h = absurd h
  length_flat f (block a bs ∷ blocks) [] h = absurd h
  length_flat f (block a bs ∷ blocks) (es ∷ spans) h =
      omega (arith, length-append (Killing.paired l a es) (flat blocks spans), length-map {B = F × F} es (λ e. (a, e)), length_flat f blocks spans h.1)

  -- p times f vanishes where p vanishes at what spans the values of f: in a block.
  block_killed : (p f : List F) (a : F) (bs es : List F) → AllByRecursion (Killing.Kills l p) (Killing.paired l a es) → AllByRecursion (λ b. Spanned o es (eval o a f b)) bs
      → AllByRecursion (Killing.Kills l (times o p f)) (Killing.paired l a bs)
  block_killed p f a [] es h s = tt
  block_killed p f a (b ∷ bs) es h s =
      (Multiplication.product_applies l a p f b ∙ Killing.span_killed l p a es (eval o a f b) h s.0, block_killed p f a bs es h s.1)

  -- In all blocks.
  all_killed : (p f : List F) (blocks : List (Block F)) (spans : List (List F)) → Within f blocks spans → AllByRecursion (Killing.Kills l p) (flat blocks spans) → AllByRecursion (Killing.Kills l (times o p f)) (points blocks)
  all_killed p f [] spans s h = tt
  all_killed p f (block a bs ∷ blocks) [] s h = absurd s
  all_killed p f (block a bs ∷ blocks) (es ∷ spans) s h =
      all_append (Killing.Kills l (times o p f)) (Killing.paired l a bs) (points blocks)
      (block_killed p f a bs es (all_left (Killing.Kills l p) (Killing.paired l a es) (flat blocks spans) h) s.0)
      (all_killed p f blocks spans s.1 (all_right (Killing.Kills l p) (Killing.paired l a es) (flat blocks spans) h))

  -- The length of a product.
  length_product : (p f : List F) (n : ℕ) → length p ≡ suc n → length (times o p f) ≡ n +ℕ length f
  length_product [] f n e = absurd (omega arith)
  length_product (c ∷ p) f n e = Multiplication.length_times l c p f ∙ omega arith

  -- A polynomial whose values are spanned by few elements is zero: a polynomial that vanishes at those, times it, vanishes at
  -- all places, and the root count does the rest.
  pub far_apart : (blocks : List (Block F)) (spans : List (List F)) (f : List F) → Lawful o blocks → Within f blocks spans → length f +ℕ together spans ≤ locator_count blocks → AllByRecursion (Zero o) f
  far_apart blocks spans f lawful covered fits =
      let s = Killing.killer l (flat blocks spans) in
      let p = s.0 in
      let k = length_flat f blocks spans covered in
      let m : length (times o p f) ≤ locator_count blocks = omega (arith, length_product p f (length (flat blocks spans)) s.1, k) in
      Multiplication.no_divisors l p f (λ z. Inverses.one_zero l (sym s.2 ∙ Coefficients.coef_of l p z (length (flat blocks spans))))
      (RootCount.roots_few l blocks (times o p f) lawful m (all_killed p f blocks spans covered s.3))

  -- A codeword of small weight has the message zero.
  light : (blocks : List (Block F)) (f : List F) (t : ℕ) → Lawful o blocks → Weighs o (codeword o f blocks) t → length f +ℕ t ≤ locator_count blocks → AllByRecursion (Zero o) f
  light blocks f t lawful w fits =
      let s = weight_spans (codeword o f blocks) t w in
      far_apart blocks s.0 f lawful (within f blocks s.0 s.2) (omega (arith, s.1))

  -- The values of the zero polynomial.
  pub eval_null : (a : F) (f : List F) (b : F) → AllByRecursion (Zero o) f → eval o a f b ≡ zero
  eval_null a [] b z = refl
  eval_null a (c ∷ f) b z = ap (λ w. w * b + eval o a f (step o a b)) z.0 ∙ ap (λ w. zero * b + w) (eval_null a f (step o a b) z.1) ∙ simp (ring, l)

  -- Its codeword.
  null_word : (f : List F) (blocks : List (Block F)) → AllByRecursion (Zero o) f → AllByRecursion (AllByRecursion (Zero o)) (codeword o f blocks)
  null_word f [] z = tt
  null_word f (block a bs ∷ blocks) z = (row bs, null_word f blocks z)
    where
      row : (cs : List F) → AllByRecursion (Zero o) (map (value o a f) cs)
      row [] = tt
      row (c ∷ cs) = (subst (λ v. v a f c ≡ zero) (Evaluation.both_values l) (eval_null a f c z), row cs)

  abbrev minus : List F → List F → List F
  minus f g = plus o f (scale o (neg one) g)

  -- The opposite as a product.
  one_less : (x : F) → neg one * x ≡ neg x
  one_less x = simp (ring, l)

  -- The value of a difference.
  value_minus : (a : F) (f g : List F) (b : F) → value o a f b + neg (value o a g b) ≡ value o a (minus f g) b
  value_minus a f g b =
      subst (λ v. v a f b + neg (v a g b) ≡ v a (minus f g) b) (Evaluation.both_values l)
      (sym (Evaluation.eval_plus l a f (scale o (neg one) g) b ∙ ap (λ w. eval o a f b + w) (Evaluation.eval_scaled l a (neg one) g b ∙ one_less (eval o a g b))))

  -- The difference of codewords is the codeword of the difference.
  word_minus : (f g : List F) (blocks : List (Block F)) → difference o (codeword o f blocks) (codeword o g blocks) ≡ codeword o (minus f g) blocks
  word_minus f g [] = refl
  word_minus f g (block a bs ∷ blocks) = cons_path (row bs) (word_minus f g blocks)
    where
      row : (cs : List F) → plus o (map (value o a f) cs) (map neg (map (value o a g) cs)) ≡ map (value o a (minus f g)) cs
      row [] = refl
      row (c ∷ cs) = cons_path (value_minus a f g c) (row cs)

  -- Both statements.
  pub minimum_distance : MinimumDistance o
  minimum_distance = record {
    nonzero = λ blocks f t lawful w n. elim (cases_lt (locator_count blocks) (length f +ℕ t)) [ inl h ↦ h | inr h ↦ absurd (n (null_word f blocks (light blocks f t lawful w h))) ];
    apart = λ blocks f g t lawful e w fits.
        Sums.same_coefs l f g e (same f g (light blocks (minus f g) t lawful (subst (λ v. Weighs o v t) (word_minus f g blocks) w) (omega (arith, Rows.length_plus l f (scale o (neg one) g), length-map g (o.mul (neg one))))));
  }
    where
      same : (f g : List F) → AllByRecursion (Zero o) (minus f g) → (i : ℕ) → coef o f i ≡ coef o g i
      same f g z i =
          Basics.equal_of_sub l (coef o f i) (coef o g i)
          (sym (Coefficients.coef_plus l f (scale o (neg one) g) i ∙ ap (λ w. coef o f i + w) (Coefficients.coef_scale l (neg one) g i ∙ one_less (coef o g i))) ∙ Coefficients.coef_of l (minus f g) z i)

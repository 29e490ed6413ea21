-- A list of symbols that is filled from the front.
--
--   Filling X i s    s holds the codes of the first i elements of X, as far as there is room
use Rattle.std.proofs.Common.{◌≡◌, ℕ, ◌+◌, ◌<◌, ◌≤◌, List, [], ◌∷◌, ◌++◌, length, get_or, take, sym, ap, ◌∙◌, arith}
use Rattle.std.proofs.lemmas.List.{length-map}
use Rattle.std.proofs.lemmas.List.{take_more, take_all, get_or-map}
use Rattle.fields.specs.Elements.{Element, codes}
use Rattle.skew.proofs.Filling.{take_cut}

pub record Filling {n : ℕ} (X : List (Element n)) (i : ℕ) (p : List ℕ) : Type 0 where
  pub held : p ≡ take 24 (take i (codes X))

module _ {n : ℕ} where
  -- Nothing yet.
  pub nothing : {X : List (Element n)} {p : List ℕ} → p ≡ [] → Filling X 0 p
  nothing e = record { held = e }

  -- One symbol more.
  pub fill : (d : Element n) {X : List (Element n)} {i y : ℕ} {p p' : List ℕ} → i < length X → Filling X i p → y ≡ (get_or X i d).code
      → p' ≡ take 24 (p ++ y ∷ []) → Filling X (i + 1) p'
  fill d {X} {i} {y} {p} h f ey ep =
      let c : get_or (codes X) i 0 ≡ (get_or X i d).code = get_or-map (λ (x : Element n). x.code) X i d 0 h in
      let k : i < length (codes X) = omega (arith, length-map X (λ (x : Element n). x.code)) in
      record {
        held =
            ep ∙ ap (λ ys. take 24 (ys ++ y ∷ [])) f.held ∙ take_cut 24 (take i (codes X)) (y ∷ [])
            ∙ ap (take 24) (ap (λ z. take i (codes X) ++ z ∷ []) (ey ∙ sym c) ∙ sym (take_more (codes X) i 0 k));
      }

  -- All of them.
  pub filled : {X : List (Element n)} {i : ℕ} {p : List ℕ} → length X ≤ i → Filling X i p → p ≡ take 24 (codes X)
  filled {X} {i} h f = f.held ∙ ap (take 24) (take_all i (codes X) (omega (arith, length-map X (λ (x : Element n). x.code))))

  -- What fits is not cut.
  pub uncut : (X : List (Element n)) → length X ≤ 24 → take 24 (codes X) ≡ codes X
  uncut X h = take_all 24 (codes X) (omega (arith, length-map X (λ (x : Element n). x.code)))

-- The digits of elements: what the laws say of codes, told of elements, and their linearity over fixed elements.
use Rattle.std.specs.Prelude.{◌≡◌, ℕ, List, length}
use Rattle.std.proofs.Common.{sym, ap, ◌∙◌, arith}
use Rattle.std.proofs.lemmas.List.{length-map}
use Rattle.std.specs.List.{AllByRecursion}
use Rattle.fields.specs.Lists.{all_follow, all_map}
use Rattle.fields.specs.Field.{plus, scale, comb}
use Rattle.fields.specs.Field as field
use Rattle.fields.specs.Meaning.{Meaning, Laws, Code, Fixed, combined}
use Rattle.fields.specs.Elements.{Elem, elem, elems, codes, ops, basis_of, digits_of, DigitsLinear}
use Rattle.fields.specs.Carried.{carried}
use Rattle.fields.specs.Carried
use Rattle.fields.proofs.Carrier
use Rattle.fields.specs.Rows

module _ {m : Meaning} (l : Laws m) where
  -- The element of a combination of codes is the combination of their elements.
  pub combined_elem : (ds bs : List ℕ) → AllByRecursion (Code m) ds → AllByRecursion (Code m) bs → elem m (combined m ds bs) ≡ comb (ops m) (elems m ds) (elems m bs)
  unfolding ops carried
  combined_elem = Carried.combined_elem l

  -- Fixed codes are the codes of fixed elements.
  pub fixed_elem : (d : ℕ) → Fixed m d → field.Fixed (ops m) (elem m d)
  fixed_elem d f = sym (Carrier.twists m d (sym (ap m.twist (Carrier.counts l d f.0) ∙ f.1)))

  pub fixed_code : (x : Elem m) → field.Fixed (ops m) x → Fixed m x.code
  fixed_code x f =
      let h = Carrier.is_code l x in
      let t = Carrier.twists m x.code (sym (ap m.twist (Carrier.counts l x.code h))) in
      (h, Carrier.answers x (Carrier.counts l (m.twist x.code) (l.twist_code x.code h)) (t ∙ ap (ops m).twist (Carrier.elem_code x) ∙ f))

  all_codes : (ds : List ℕ) → AllByRecursion (Fixed m) ds → AllByRecursion (Code m) ds
  all_codes = all_follow (Fixed m) (Code m) (λ d f. f.0)

  lengths : (x : Elem m) → length (digits_of m x) ≡ length (basis_of m)
  lengths x = length-map (m.digits x.code) (elem m) ∙ l.digits_length x.code (Carrier.is_code l x) ∙ sym l.basis_length ∙ sym (length-map m.basis (elem m))

  fixes : (x : Elem m) → AllByRecursion (field.Fixed (ops m)) (digits_of m x)
  fixes x = all_map (Fixed m) (field.Fixed (ops m)) (elem m) fixed_elem (m.digits x.code) (l.digits_fixed x.code (Carrier.is_code l x))

  gives : (x : Elem m) → comb (ops m) (digits_of m x) (basis_of m) ≡ x
  gives x =
      let h = Carrier.is_code l x in
      sym (combined_elem (m.digits x.code) m.basis (all_codes _ (l.digits_fixed x.code h)) l.basis_codes)
      ∙ ap (elem m) (l.digits_give x.code h) ∙ Carrier.elem_code x

  only : (x : Elem m) (ds : List (Elem m)) → length ds ≡ length (basis_of m) → AllByRecursion (field.Fixed (ops m)) ds → comb (ops m) ds (basis_of m) ≡ x → ds ≡ digits_of m x
  only x ds n f e =
      let k = all_map (field.Fixed (ops m)) (Fixed m) (λ x. x.code) fixed_code ds f in
      let given = combined_elem (codes ds) m.basis (all_codes (codes ds) k) l.basis_codes ∙ ap (λ w. comb (ops m) w (basis_of m)) (Carrier.elems_codes ds) ∙ e in
      let c : combined m (codes ds) m.basis ≡ x.code =
      Carrier.answers x (Carrier.counts l _ (Carried.combined_code l (codes ds) m.basis (all_codes (codes ds) k) l.basis_codes)) given in
      let w : length (codes ds) ≡ m.width = length-map ds (λ y. y.code) ∙ n ∙ length-map m.basis (elem m) ∙ l.basis_length in
      sym (Carrier.elems_codes ds) ∙ ap (elems m) (l.digits_only x.code (codes ds) (Carrier.is_code l x) w k c)

  pub digits_linear : DigitsLinear (ops m) (basis_of m) (digits_of m)
  digits_linear =
      let o = Carrier.ops_laws l in
      record {
        digits_length = lengths;
        digits_fixed = fixes;
        digits_give = gives;
        digits_only = only;
        digits_add = λ x y.
            sym (only ((ops m).add x y) (plus (ops m) (digits_of m x) (digits_of m y))
            (Rows.length_plus o (digits_of m x) (digits_of m y) ∙ omega (arith, lengths x, lengths y))
            (Rows.fixed_plus o (digits_of m x) (digits_of m y) (fixes x) (fixes y))
            (Rows.comb_plus o (digits_of m x) (digits_of m y) (basis_of m) ∙ ap (λ w. (ops m).add w (comb (ops m) (digits_of m y) (basis_of m))) (gives x) ∙ ap ((ops m).add x) (gives y)));
        digits_mul = λ c x f.
            sym (only ((ops m).mul c x) (scale (ops m) c (digits_of m x))
            (length-map (digits_of m x) ((ops m).mul c) ∙ lengths x)
            (Rows.fixed_scaled o c (digits_of m x) f (fixes x))
            (Rows.comb_scale o c (digits_of m x) (basis_of m) ∙ ap ((ops m).mul c) (gives x)));
      }

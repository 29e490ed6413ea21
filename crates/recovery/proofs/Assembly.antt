-- The candidate is weighed, and given where it is in reach.
use Rattle.std.proofs.Common.{◌≡◌, ℕ, suc, ◌+◌, ◌*◌, ◌<◌, ◌≤◌, List, [], ◌∷◌, map, length, get_or, take, drop, sym, refl, ap, ◌∙◌, subst, arith}
use Rattle.std.proofs.lemmas.List.{length-map}
use Rattle.std.proofs.lemmas.List.{take_all, take-map, drop-map, length-take}
use Rattle.std.specs.List.{AllByRecursion}
use Rattle.fields.specs.Field.{plus}
use Rattle.fields.specs.Field as field
use Rattle.fields.specs.Meaning.{Meaning, Laws}
use Rattle.fields.specs.Elements.{Elem, elem, elems, codes, ops}
use Rattle.fields.proofs.Carrier
use Rattle.fields.specs.Rows
use Rattle.skew.specs.Values.{value}
use Rattle.skew.specs.Roots.{points}
use Rattle.skew.specs.Polynomials.{coefficients, Codes}
use Rattle.skew.proofs.Evaluation
use Rattle.skew.proofs.Sharpness
use Rattle.skew.proofs.Sums
use Rattle.skew.proofs.Sums.{cons_path}
use Rattle.ranks.specs.Ranks.{total, cut, Weighs}
use Rattle.skew.proofs.Filling.{short}
use Rattle.ranks.proofs.Weighing.{pick_few}
use Rattle.codes.specs.declared.shape.Code.{Code}
use Rattle.codes.specs.Holdings.{held, stops}
use Rattle.codes.specs.Codes.{pts, LawfulCode, word_of}
use Rattle.hints.specs.Splittings.{Given, Splitting, full_part, row_count, column_count}
use Rattle.hints.specs.Splittings.{Parts as SplitsParts}
use Rattle.hints.specs.declared.parts.Parts.{Parts}
use Rattle.hints.specs.declared.holder.Hints.{Hints}
use Rattle.hints.specs.Holdings.{Holds}
use Rattle.hints.specs.Outcomes.{parts_of, Divided, LeastAnswer}
use Rattle.recovery.specs.declared.outcome.Recovery.{Recovery}
use Rattle.recovery.specs.Reach.{apart, InReach, Recovered}
use Rattle.recovery.specs.Candidates.{Candidate}
use Rattle.recovery.proofs.Unhinted.{full_word}
use Rattle.hints.proofs.CodePlaces.{places_in}

-- A word of elements cut into blocks.
pub cut_map : {A B : Type 0} (g : A → B) (ns : List ℕ) (w : List A) → map (map g) (cut ns w) ≡ cut ns (map g w)
cut_map g [] w = refl
cut_map g (n ∷ ns) w = cons_path (sym (take-map g n w)) (cut_map g ns (drop n w) ∙ ap (cut ns) (sym (drop-map g n w)))

-- A word weighs no more than it has symbols.
pub weighs_few : (m : Meaning) (ns w : List ℕ) (t : ℕ) → Weighs (ops m) (map (elems m) (cut ns w)) t → t ≤ total ns
weighs_few m [] w t k = omega (arith, k)
weighs_few m (n ∷ ns) w t k =
    let block = k.1.0 in
    omega (arith, k.4, weighs_few m ns (drop n w) k.2 k.3, block.2, pick_few block.0 (elems m (take n w)), length-map (take n w) (elem m), length-take n w)

-- A word of values has as many symbols as the code.
pub word_size : (m : Meaning) (c : Code) (f : List (Elem m)) → length (codes (word_of m c f)) ≡ length (stops c.course)
word_size m c f =
    length-map (word_of m c f) (λ x. x.code) ∙ length-map (pts m c) _ ∙ length-map {B = Elem m × Elem m} (stops c.course) (λ p. (elem m p.parameter, elem m p.locator))

-- What is said of slices is said of what they hold.
pub answer_told : (m : Meaning) (h : Hints) (p : Parts) {ls ns ds rest : List ℕ} → ls ≡ ns → ds ≡ rest
    → ((k : ℕ) (gs : List (Given (Elem m))) → Holds m ls k h gs → Divided ls ds → LeastAnswer m ls gs ds p) → (k : ℕ) (gs : List (Given (Elem m))) → Holds m ns k h gs → Divided ns rest → LeastAnswer m ns gs rest p
answer_told m h p {ls} {ns} {ds} {rest} e e' a =
    subst (λ r. (k : ℕ) (gs : List (Given (Elem m))) → Holds m ns k h gs → Divided ns r → LeastAnswer m ns gs r p) e'
    (subst (λ n. (k : ℕ) (gs : List (Given (Elem m))) → Holds m n k h gs → Divided n ds → LeastAnswer m n gs ds p) e a)

pub weight_told : (m : Meaning) (t : ℕ) {ls ns fs full : List ℕ} → ls ≡ ns → fs ≡ full → Weighs (ops m) (map (elems m) (cut ls fs)) t → Weighs (ops m) (map (elems m) (cut ns full)) t
weight_told m t {ls} {ns} {fs} {full} e e' k = subst (λ n. Weighs (ops m) (map (elems m) (cut n full)) t) e (subst (λ f. Weighs (ops m) (map (elems m) (cut ls f)) t) e' k)

module _ {m : Meaning} (l : Laws m) where
  -- The laws of the elements.
  laws : field.Laws (ops m)
  laws = Carrier.ops_laws l

  -- Of a lawful code, two messages with one codeword are the same.
  same_message : (c : Code) → LawfulCode m c → (f g : List (Elem m)) → length f ≡ c.dimension → length g ≡ c.dimension → word_of m c f ≡ word_of m c g → f ≡ g
  same_message c law f g ef eg e =
      Sums.same_coefs laws f g (ef ∙ sym eg)
      (Sharpness.values_tell laws (points law.blocks) f g (Sharpness.sharp_lawful laws law.blocks law.lawful) (omega (arith, ef, law.most, sizes)) (omega (arith, eg, law.most, sizes))
      (subst (λ v. map (λ (t : Elem m × Elem m). v t.0 f t.1) (points law.blocks) ≡ map (λ (t : Elem m × Elem m). v t.0 g t.1) (points law.blocks)) (sym (Evaluation.both_values laws))
      (subst (λ ts. map (λ (t : Elem m × Elem m). value (ops m) t.0 f t.1) ts ≡ map (λ (t : Elem m × Elem m). value (ops m) t.0 g t.1) ts) (sym law.grouped) e)))
    where
      sizes : length (points law.blocks) ≡ length (stops c.course)
      sizes = ap length law.grouped ∙ length-map {B = Elem m × Elem m} (stops c.course) (λ p. (elem m p.parameter, elem m p.locator))

  module _ (c : Code) (h : Hints) (gs : List (Given (Elem m))) (w f cw rest : List ℕ) (parts : Parts)
      (law : LawfulCode m c) (holds : Holds m (held c.lengths) c.dimension h gs) (size : length w ≡ length (stops c.course))
      (cand : Candidate m c gs (elems m w) f) (cw-is : cw ≡ codes (word_of m c (elems m f)))
      (rest_is : rest ≡ take 24 (codes (plus (ops m) (elems m w) (map (ops m).neg (elems m cw)))))
      (answer : Divided (held c.lengths) rest → LeastAnswer m (held c.lengths) gs rest parts) where
    -- The codeword in elements.
    cw_elems : elems m cw ≡ word_of m c (elems m f)
    cw_elems = ap (elems m) cw-is ∙ Carrier.elems_codes (word_of m c (elems m f))

    -- It has n symbols.
    cw_size : length cw ≡ length (stops c.course)
    cw_size = ap length cw-is ∙ word_size m c (elems m f)

    few : length (stops c.course) ≤ 24
    few = short c.course

    -- The difference in elements.
    long : length (plus (ops m) (elems m w) (map (ops m).neg (elems m cw))) ≡ length (stops c.course)
    long =
        Rows.length_plus laws (elems m w) (map (ops m).neg (elems m cw)) ∙ omega (arith, length-map w (elem m), length-map (elems m cw) (ops m).neg, length-map cw (elem m), size, cw_size)

    rest_elems : elems m rest ≡ plus (ops m) (elems m w) (map (ops m).neg (elems m cw))
    rest_elems =
        ap (elems m) (rest_is ∙ take_all 24 _ (omega (arith, length-map (plus (ops m) (elems m w) (map (ops m).neg (elems m cw))) (λ x. x.code), long, few)))
        ∙ Carrier.elems_codes (plus (ops m) (elems m w) (map (ops m).neg (elems m cw)))

    rest_size : length rest ≡ length (stops c.course)
    rest_size = sym (length-map rest (elem m)) ∙ ap length rest_elems ∙ long

    blocks : cut (held c.lengths) (elems m rest) ≡ apart m c (elems m w) (elems m cw)
    blocks = ap (cut (held c.lengths)) rest_elems

    -- The parts can be asked for.
    divided : Divided (held c.lengths) rest
    divided = record {
      short = all_short (held c.lengths) (λ i k. (c.each i k).1);
      few = c.blocks;
      sum = sym (places_in c) ∙ sym rest_size;
      room = omega (arith, rest_size, few);
    }
      where
        all_short : (ns : List ℕ) → ((i : ℕ) → i < length ns → get_or ns i 0 ≤ 8) → AllByRecursion (λ n. n ≤ 8) ns
        all_short [] k = tt
        all_short (n ∷ ns) k = (k 0 (omega arith), all_short ns (λ i p. k (suc i) (omega arith)))

    -- The full part can be weighed.
    pub full_fits : total (held c.lengths) ≡ length (held parts.full)
    full_fits = sym (places_in c) ∙ sym rest_size ∙ sym (answer divided).full_size

    module _ (t : ℕ) (weighs : Weighs (ops m) (map (elems m) (cut (held c.lengths) (held parts.full))) t) where
      -- The full part's weight.
      full_weight : Weighs (ops m) (full_part (parts_of m (held c.lengths) parts)) t
      full_weight =
          subst (λ u. Weighs (ops m) u t) (cut_map (elem m) (held c.lengths) (held parts.full) ∙ sym (full_word (held c.lengths) (elems m (held parts.full)) (elems m (held parts.row)) (elems m (held parts.column)))) weighs

      -- Each splitting of the codeword's difference has as many full errors.
      least : (ps : List (SplitsParts (Elem m))) (u : ℕ) → Splitting (ops m) gs (apart m c (elems m w) (elems m cw)) ps → Weighs (ops m) (full_part ps) u → t ≤ u
      least ps u s k = (answer divided).least ps t u full_weight (subst (λ es. Splitting (ops m) gs es ps) (sym blocks) s) k

      -- Where the candidate costs too much nothing is in reach.
      pub out_of_reach : length w < t + t + (h.rows + h.columns) + c.dimension → (v : List (Elem m)) → ¬ InReach m c gs (elems m w) v
      out_of_reach over v r =
          let same : v ≡ elems m cw = cand.only v r ∙ sym cw_elems in
          let light : t ≤ r.errors = least r.parts r.errors (subst (λ u. Splitting (ops m) gs (apart m c (elems m w) u) r.parts) same r.splitting) r.weight in
          omega (arith, over, light, r.budget, holds.rows, holds.columns, size)

      -- Where it does not, it is what is sought.
      pub in_reach : (x : Recovery) → held x.codeword ≡ cw → coefficients x.message ≡ f → x.parts ≡ parts → x.errors ≡ t
          → t + t + (h.rows + h.columns) + c.dimension ≤ length w → Recovered m c gs (elems m w) x
      in_reach x ex ef ep et within = record {
        reach = subst (InReach m c gs (elems m w)) (sym cx) (record { codeword = (elems m f, size_f, sym cw_elems); parts = parts_of m (held c.lengths) parts; splitting = splits; errors = t; weight = full_weight; budget = budget });
        only = λ v r. cand.only v r ∙ sym cw_elems ∙ sym cx;
        splitting = subst (λ p. Splitting (ops m) gs (apart m c (elems m w) (elems m (held x.codeword))) (parts_of m (held c.lengths) p)) (sym ep) (subst (λ v. Splitting (ops m) gs (apart m c (elems m w) v) (parts_of m (held c.lengths) parts)) (sym cx) splits);
        weight = subst (λ p. Weighs (ops m) (full_part (parts_of m (held c.lengths) p)) x.errors) (sym ep) (subst (Weighs (ops m) (full_part (parts_of m (held c.lengths) parts))) (sym et) full_weight);
        least = λ ps u s k. subst (λ e. e ≤ u) (sym et) (least ps u (subst (λ v. Splitting (ops m) gs (apart m c (elems m w) v) ps) cx s) k);
        budget = subst (λ e. 2 * e + (row_count gs + column_count gs) + c.dimension ≤ length (stops c.course)) (sym et) budget;
        message = (ap length ef ∙ cand.size, ap (λ g. word_of m c (elems m g)) ef ∙ sym cw_elems ∙ sym cx);
        one_message = λ g eg e. same_message c law g (elems m f) eg size_f (e ∙ cx ∙ cw_elems) ∙ ap (elems m) (sym ef);
        codes = (subst (Codes m) (sym ef) cand.proper, subst (Codes m) (sym ex) proper_cw, subst (λ p. Codes m (held p.full)) (sym ep) a.full_codes, subst (λ p. Codes m (held p.row)) (sym ep) a.row_codes, subst (λ p. Codes m (held p.column)) (sym ep) a.column_codes);
        sizes = (ap length ex ∙ cw_size, ap (λ p. length (held p.full)) ep ∙ a.full_size ∙ rest_size, ap (λ p. length (held p.row)) ep ∙ a.row_size ∙ rest_size, ap (λ p. length (held p.column)) ep ∙ a.column_size ∙ rest_size);
      }
        where
          a : LeastAnswer m (held c.lengths) gs rest parts
          a = answer divided

          cx : elems m (held x.codeword) ≡ elems m cw
          cx = ap (elems m) ex

          size_f : length (elems m f) ≡ c.dimension
          size_f = length-map f (elem m) ∙ cand.size

          splits : Splitting (ops m) gs (apart m c (elems m w) (elems m cw)) (parts_of m (held c.lengths) parts)
          splits = subst (λ es. Splitting (ops m) gs es (parts_of m (held c.lengths) parts)) blocks a.splitting

          budget : 2 * t + (row_count gs + column_count gs) + c.dimension ≤ length (stops c.course)
          budget = omega (arith, within, holds.rows, holds.columns, size)

          proper_cw : Codes m cw
          proper_cw = ap codes cw_elems ∙ sym cw-is

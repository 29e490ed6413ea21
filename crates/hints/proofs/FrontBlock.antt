-- Lightest parts of one block before lightest parts of other blocks are lightest parts of all.
--
--   parts x y z    parts by their words
use Rattle.std.proofs.Common.{◌≡◌, ℕ, List, ◌∷◌, ◌++◌, length, take, drop, sym, ap, ◌∙◌, subst}
use Rattle.std.proofs.lemmas.List.{take_at, drop_at}
use Rattle.fields.specs.Field as field
use Rattle.skew.proofs.Sums.{cons_path}
use Rattle.ranks.specs.Ranks.{cut}
use Rattle.hints.specs.Splittings.{Given, Parts}
use Rattle.hints.specs.Least.{LeastParts, Lightest}
use Rattle.hints.specs.Outcomes.{parts_from}

-- Parts by their words.
abbrev pub parts : {F : Type 0} → List F → List F → List F → Parts F
parts x y z = record { full = x; row = y; column = z }

-- A block before others.
pub front_block : {F : Type 0} {o : field.Ops F} (g : Given F) (gs : List (Given F)) (n : ℕ) (ns : List ℕ) (v : List F) (p : Parts F) (f r c : List F)
    → length p.full ≡ n → length p.row ≡ n → length p.column ≡ n → LeastParts o g (take n v) p → Lightest o gs (cut ns (drop n v)) (parts_from ns f r c)
    → Lightest o (g ∷ gs) (cut (n ∷ ns) v) (parts_from (n ∷ ns) (p.full ++ f) (p.row ++ r) (p.column ++ c))
front_block {F} {o} g gs n ns v p f r c ef er ec k h =
    subst (λ ws. Lightest o (g ∷ gs) (cut (n ∷ ns) v) ws) (sym same) (k, h)
  where
    same : parts_from (n ∷ ns) (p.full ++ f) (p.row ++ r) (p.column ++ c) ≡ p ∷ parts_from ns f r c
    same =
        cons_path (ap (λ w. parts w (take n (p.row ++ r)) (take n (p.column ++ c))) (take_at p.full f n ef) ∙ ap (λ w. parts p.full w (take n (p.column ++ c))) (take_at p.row r n er) ∙ ap (parts p.full p.row) (take_at p.column c n ec))
        (ap (λ w. parts_from ns w (drop n (p.row ++ r)) (drop n (p.column ++ c))) (drop_at p.full f n ef) ∙ ap (λ w. parts_from ns f w (drop n (p.column ++ c))) (drop_at p.row r n er) ∙ ap (parts_from ns f r) (drop_at p.column c n ec))

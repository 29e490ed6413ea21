-- Text that is put together within its room.
use Rattle.std.proofs.Common.{◌≡◌, ℕ, suc, ◌+◌, ◌*◌, ◌<◌, ◌≤◌, List, [], ◌∷◌, ◌++◌, length, get_or, take, codes, decimal, arith, sym, refl, ap, ◌∙◌}
use Rattle.jobs.specs.Texts.{spaced, numbers, line}
use Rattle.std.proofs.lemmas.List.{append_assoc, append-nil, take_all, take_more, length-append}

-- What is cut before more is put behind is cut alike at the end.
pub cut_more : {A : Type 0} (n : ℕ) (xs ys : List A) → take n (take n xs ++ ys) ≡ take n (xs ++ ys)
cut_more ℕ.zero xs ys = refl
cut_more (suc n) [] ys = refl
cut_more (suc n) (x ∷ xs) ys = ap (λ zs. x ∷ zs) (cut_more n xs ys)

-- Two pieces, one after the other.
pub two : (start xs ys : List ℕ) {bs cs zs : List ℕ} → bs ≡ take 1024 (start ++ xs) → cs ≡ take 1024 (bs ++ zs) → zs ≡ ys → cs ≡ take 1024 (start ++ (xs ++ ys))
two start xs ys {bs} {zs = zs} e f g =
    f ∙ ap (λ vs. take 1024 (bs ++ vs)) g ∙ ap (λ vs. take 1024 (vs ++ ys)) e ∙ cut_more 1024 (start ++ xs) ys ∙ ap (take 1024) (append_assoc start xs ys)

-- No piece at all.
pub none : (start : List ℕ) → length start ≤ 1024 → start ≡ take 1024 (start ++ [])
none start h = sym (ap (take 1024) (append-nil start) ∙ take_all 1024 start h)

-- A row of numbers with one more at its end.
pub numbers_more : (xs : List ℕ) (x : ℕ) → numbers (xs ++ x ∷ []) ≡ numbers xs ++ spaced x
numbers_more [] x = append-nil (spaced x)
numbers_more (y ∷ xs) x = ap (λ zs. spaced y ++ zs) (numbers_more xs x) ∙ sym (append_assoc (spaced y) (numbers xs) (spaced x))

-- Three pieces, one after the other.
pub three : (start xs ys zs : List ℕ) {bs cs ds : List ℕ} → bs ≡ take 1024 (start ++ xs) → cs ≡ take 1024 (bs ++ ys) → ds ≡ take 1024 (cs ++ zs) → ds ≡ take 1024 (start ++ (xs ++ (ys ++ zs)))
three start xs ys zs {bs} e f g = two start xs (ys ++ zs) e (two bs ys zs f g refl) refl

-- A row of numbers, one number further.
pub numbers_next : (start xs : List ℕ) (i : ℕ) {bs cs : List ℕ} → i < length xs → bs ≡ take 1024 (start ++ numbers (take i xs)) → cs ≡ take 1024 (bs ++ spaced (get_or xs i 0))
    → cs ≡ take 1024 (start ++ numbers (take (i + 1) xs))
numbers_next start xs i h e f =
    two start (numbers (take i xs)) (spaced (get_or xs i 0)) e f refl
    ∙ ap (λ zs. take 1024 (start ++ zs)) (sym (ap numbers (take_more xs i 0 h) ∙ numbers_more (take i xs) (get_or xs i 0)))

-- And its length.
pub length_next : (xs : List ℕ) (i : ℕ) → i < length xs → length (numbers (take i xs)) ≤ 4 * i → length (spaced (get_or xs i 0)) ≤ 4 → length (numbers (take (i + 1) xs)) ≤ 4 * (i + 1)
length_next xs i h k s =
    omega (arith, ap length (ap numbers (take_more xs i 0 h) ∙ numbers_more (take i xs) (get_or xs i 0)), length-append (numbers (take i xs)) (spaced (get_or xs i 0)), k, s)

-- A refusal in pieces is its line.
fault_line : (n l p : List ℕ) → codes "refused" ++ ((codes " " ++ n) ++ (codes " layer" ++ ((codes " " ++ l) ++ (codes " place" ++ ((codes " " ++ p) ++ codes "\n")))))
    ≡ (codes "refused " ++ n ++ codes " layer " ++ l ++ codes " place " ++ p) ++ codes "\n"
fault_line n l p = simp append_assoc refl

-- So it is put together.
pub refused : (start : List ℕ) (n l p : ℕ) {b1 b2 b3 b4 b5 b6 b7 : List ℕ} → b1 ≡ take 1024 (start ++ codes "refused") → b2 ≡ take 1024 (b1 ++ spaced n) → b3 ≡ take 1024 (b2 ++ codes " layer")
    → b4 ≡ take 1024 (b3 ++ spaced l) → b5 ≡ take 1024 (b4 ++ codes " place") → b6 ≡ take 1024 (b5 ++ spaced p) → b7 ≡ take 1024 (b6 ++ codes "\n")
    → b7 ≡ take 1024 (start ++ ((codes "refused " ++ decimal n ++ codes " layer " ++ decimal l ++ codes " place " ++ decimal p) ++ codes "\n"))
refused start n l p {b1} {b2} {b3} {b4} {b5} e1 e2 e3 e4 e5 e6 e7 =
    two start (codes "refused") (spaced n ++ (codes " layer" ++ (spaced l ++ (codes " place" ++ (spaced p ++ codes "\n"))))) e1
    (two b1 (spaced n) (codes " layer" ++ (spaced l ++ (codes " place" ++ (spaced p ++ codes "\n")))) e2
    (two b2 (codes " layer") (spaced l ++ (codes " place" ++ (spaced p ++ codes "\n"))) e3
    (two b3 (spaced l) (codes " place" ++ (spaced p ++ codes "\n")) e4 (three b4 (codes " place") (spaced p) (codes "\n") e5 e6 e7) refl) refl) refl) refl
    ∙ ap (λ zs. take 1024 (start ++ zs)) (fault_line (decimal n) (decimal l) (decimal p))

-- A refusal has room.
pub refusal_fits : (n l p : ℕ) → length (spaced n) ≤ 21 → length (spaced l) ≤ 21 → length (spaced p) ≤ 21
    → length ((codes "refused " ++ decimal n ++ codes " layer " ++ decimal l ++ codes " place " ++ decimal p) ++ codes "\n") ≤ 1024
refusal_fits n l p a b c =
    let tail = spaced p ++ codes "\n" in
    let middle = spaced l ++ (codes " place" ++ tail) in
    omega (
      arith,
      ap length (fault_line (decimal n) (decimal l) (decimal p)),
      length-append (codes "refused") (spaced n ++ (codes " layer" ++ middle)),
      length-append (spaced n) (codes " layer" ++ middle),
      length-append (codes " layer") middle,
      length-append (spaced l) (codes " place" ++ tail),
      length-append (codes " place") tail,
      length-append (spaced p) (codes "\n"),
      a,
      b,
      c,
    )

-- Five lines, where they have room, are the text.
pub five : (a b c d e : List ℕ) {b0 b1 b2 b3 b4 b5 : List ℕ} → b0 ≡ [] → b1 ≡ take 1024 (b0 ++ a) → b2 ≡ take 1024 (b1 ++ b) → b3 ≡ take 1024 (b2 ++ c) → b4 ≡ take 1024 (b3 ++ d)
    → b5 ≡ take 1024 (b4 ++ e) → length a + length b + length c + length d + length e ≤ 1024 → b5 ≡ a ++ (b ++ (c ++ (d ++ e)))
five a b c d e {b0} {b1} {b2} {b3} e0 e1 e2 e3 e4 e5 h =
    two b0 a (b ++ (c ++ (d ++ e))) e1 (three b1 b c (d ++ e) e2 e3 (two b3 d e e4 e5 refl)) refl
    ∙ ap (λ zs. take 1024 (zs ++ (a ++ (b ++ (c ++ (d ++ e)))))) e0
    ∙ take_all 1024 (a ++ (b ++ (c ++ (d ++ e))))
    (omega (arith, h, length-append a (b ++ (c ++ (d ++ e))), length-append b (c ++ (d ++ e)), length-append c (d ++ e), length-append d e))

-- One piece in nothing, where it has room.
pub alone : (a : List ℕ) {b0 b1 : List ℕ} → b0 ≡ [] → b1 ≡ take 1024 (b0 ++ a) → length a ≤ 1024 → b1 ≡ a
alone a e f h = f ∙ ap (λ zs. take 1024 (zs ++ a)) e ∙ take_all 1024 a h

-- A line that is said of a slice is said of what it holds.
pub line_told : (start name xs : List ℕ) {ys bs : List ℕ} → bs ≡ take 1024 (start ++ line name ys) → ys ≡ xs → bs ≡ take 1024 (start ++ line name xs)
line_told start name xs e f = e ∙ ap (λ zs. take 1024 (start ++ line name zs)) f

pub counted_told : (start name : List ℕ) (t : ℕ) (xs : List ℕ) {ys bs : List ℕ} → bs ≡ take 1024 (start ++ line name (t ∷ ys)) → ys ≡ xs → bs ≡ take 1024 (start ++ line name (t ∷ xs))
counted_told start name t xs e f = e ∙ ap (λ zs. take 1024 (start ++ line name (t ∷ zs))) f

-- So of its length, for at most 24 symbols.
pub line_short : (name xs : List ℕ) (k : ℕ) {ys : List ℕ} → length (line name ys) ≤ k + 4 * length ys → ys ≡ xs → length xs ≤ 24 → length (line name xs) ≤ k + 96
line_short name xs k {ys} s e h = omega (arith, s, ap (λ zs. length (line name zs)) e, ap length e, h)

pub counted_short : (name : List ℕ) (t : ℕ) (xs : List ℕ) (k : ℕ) {ys : List ℕ} → length (line name (t ∷ ys)) ≤ k + 4 * length ys → ys ≡ xs → length xs ≤ 24 → length (line name (t ∷ xs)) ≤ k + 96
counted_short name t xs k {ys} s e h = omega (arith, s, ap (λ zs. length (line name (t ∷ zs))) e, ap length e, h)
